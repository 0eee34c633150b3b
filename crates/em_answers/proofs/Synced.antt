-- The text that syncs printed, command by command.
use Rattle.std.proofs.Common.{◌≡◌, ℕ, ◌+◌, ◌≤◌, List, [], ◌∷◌, ◌++◌, length, refl, sym, ap, subst, ◌∙◌, arith, append_assoc, Result, Ok, Err, IsErrAnd}
use Rattle.std.proofs.lemmas.List.{append-nil, length-append}
use Rattle.std.proofs.lemmas.Grind.{flat_map-append}
use Rattle.em_io.specs.Sink.{IsRule, Sent}
use Rattle.em_io.proofs.Sent.{part-of, part-more, part-rest}
use Rattle.em_space.specs.Rig.{RigState}
use Rattle.em_model.specs.Map.{Combiner, map_answers_from, no_keys, state_after}
use Rattle.em_model.specs.Sync.{since_sync, synced_answers, up_to_sync}
use Rattle.em_model.specs.declared.command.Command.{Command}
use Rattle.em_model.specs.declared.command.Command.TheVariants.{Put, Add, Del, Get, Sync, Push, Pop, Interval, Stab}
use Rattle.em_model.proofs.SyncLaws.{map_answers-parts, sync_parts, synced_answers-same, synced_answers-sync, syncs-append}
use Rattle.em_lines.specs.CommandLine.{good_commands}
use Rattle.em_lines.specs.RunSize.{commands_taken}
use Rattle.em_lines.specs.declared.text.FileKind.{FileKind}
use Rattle.em_lines.specs.declared.text.FileKind.TheVariants as kind
use Rattle.em_lines.proofs.ReadLaws.{syncs_read}
use Rattle.em_services.specs.Service.{syncs_for}
use Rattle.em_answers.specs.Answer.{answer_line, map_text, synced_text, text_at}
use Rattle.em_answers.specs.Limits.{syncs_in}
use Rattle.em_answers.specs.Reading.{SyncCause}
use Rattle.em_answers.specs.Serve.{Answers}
use Rattle.em_ends.specs.Stop.{OnFault, Prints}
use Rattle.em_ends.specs.declared.stop.Stop.{Stop}
use Rattle.em_ends.specs.declared.stop.Stop.TheVariants.{Fault, Read, Write, Em}

-- a command that is no sync prints nothing
same_text : (apply : Combiner) (given : List Command) (c : Command) → synced_answers apply (given ++ c ∷ []) ≡ synced_answers apply given
    → map_text (synced_answers apply (given ++ c ∷ [])) ≡ map_text (synced_answers apply given) ++ []
same_text apply given c e = ap map_text e ∙ sym (append-nil (map_text (synced_answers apply given)))

-- One command more.
pub synced_next : (apply : Combiner) (k : FileKind) (given : List Command) (c : Command)
    → synced_text apply k (given ++ c ∷ []) ≡ synced_text apply k given ++ text_at apply k given c
synced_next apply kind.Map given Sync =
    ap map_text (synced_answers-sync apply given ∙ map_answers-parts apply given)
    ∙ flat_map-append answer_line (synced_answers apply given)
    (map_answers_from apply (state_after apply no_keys (up_to_sync given)) (since_sync given))
synced_next apply kind.Map given (Put k v) = same_text apply given (Put k v) (synced_answers-same apply given (Put k v ∷ []) refl)
synced_next apply kind.Map given (Add k v) = same_text apply given (Add k v) (synced_answers-same apply given (Add k v ∷ []) refl)
synced_next apply kind.Map given (Del k) = same_text apply given (Del k) (synced_answers-same apply given (Del k ∷ []) refl)
synced_next apply kind.Map given (Get k) = same_text apply given (Get k) (synced_answers-same apply given (Get k ∷ []) refl)
synced_next apply kind.Map given (Push k v) = same_text apply given (Push k v) (synced_answers-same apply given (Push k v ∷ []) refl)
synced_next apply kind.Map given Pop = same_text apply given Pop (synced_answers-same apply given (Pop ∷ []) refl)
synced_next apply kind.Map given (Interval l h) = same_text apply given (Interval l h) (synced_answers-same apply given (Interval l h ∷ []) refl)
synced_next apply kind.Map given (Stab p) = same_text apply given (Stab p) (synced_answers-same apply given (Stab p ∷ []) refl)
synced_next apply kind.Queue given c = refl
synced_next apply kind.Stab given c = refl
synced_next apply kind.Dump given c = refl

-- what later commands will print
abbrev pub synced_rest : (apply : Combiner) → FileKind → (given rest : List Command) → List ℕ
synced_rest apply k given [] = []
synced_rest apply k given (c ∷ cs) = text_at apply k given c ++ synced_rest apply k (given ++ c ∷ []) cs

pub synced_all : (apply : Combiner) (k : FileKind) (given rest : List Command)
    → synced_text apply k (given ++ rest) ≡ synced_text apply k given ++ synced_rest apply k given rest
synced_all apply k given [] = ap (synced_text apply k) (append-nil given) ∙ sym (append-nil (synced_text apply k given))
synced_all apply k given (c ∷ cs) =
    ap (synced_text apply k) (sym (append_assoc given (c ∷ []) cs))
    ∙ synced_all apply k (given ++ c ∷ []) cs
    ∙ ap (λ t. t ++ synced_rest apply k (given ++ c ∷ []) cs) (synced_next apply k given c)
    ∙ append_assoc (synced_text apply k given) (text_at apply k given c) (synced_rest apply k (given ++ c ∷ []) cs)

-- The syncs among commands that were given are among those that were taken.
pub syncs_given : (k : FileKind) (text left : List ℕ) (given rest : List Command)
    → good_commands k text ≡ given ++ rest → length given ≤ commands_taken k text left
    → syncs_for k given ≤ syncs_in k text left
syncs_given kind.Map text left given rest good h = syncs_read kind.Map text left given rest good h
syncs_given kind.Queue text left given rest good h = omega arith
syncs_given kind.Stab text left given rest good h = omega arith
syncs_given kind.Dump text left given rest good h = syncs_read kind.Dump text left given rest good h

-- the syncs of commands that come one after another
syncs_both : (k : FileKind) (xs ys : List Command) → syncs_for k (xs ++ ys) ≡ syncs_for k xs + syncs_for k ys
syncs_both kind.Map xs ys = syncs-append xs ys
syncs_both kind.Queue xs ys = refl
syncs_both kind.Stab xs ys = refl
syncs_both kind.Dump xs ys = syncs-append xs ys

-- A service that was given these commands of a text counts them, and no more syncs than theirs:
module _ (k : FileKind) (text left : List ℕ) (given : List Command) (n syncs : ℕ)
    (len : n ≡ length (up_to_sync given ++ since_sync given))
    (few : syncs ≤ syncs_for k (up_to_sync given ++ since_sync given)) where
  len_given : n ≡ length given
  len_given = len ∙ ap (λ (cs : List Command). length cs) (sync_parts given)

  few_given : syncs ≤ syncs_for k given
  few_given = let e = ap (syncs_for k) (sync_parts given) in omega (arith, few, e)

  -- its syncs are among those that were taken,
  pub syncs_so_far : (rest : List Command) → good_commands k text ≡ given ++ rest → n ≤ commands_taken k text left
      → syncs ≤ syncs_in k text left
  syncs_so_far rest good h =
      let all = syncs_given k text left given rest good (omega (arith, len_given, h)) in
      omega (arith, all, few_given)

  -- and with them the next command if it is one.
  pub syncs_with : (c : Command) (rest : List Command) → good_commands k text ≡ given ++ c ∷ rest
      → n + 1 ≤ commands_taken k text left → syncs + syncs_for k (c ∷ []) ≤ syncs_in k text left
  syncs_with c rest good h =
      let all = syncs_given k text left (given ++ c ∷ []) rest (good ∙ sym (append_assoc given (c ∷ []) rest))
      (omega (arith, length-append given (c ∷ []), len_given, h)) in
      let both = syncs_both k given (c ∷ []) in
      omega (arith, all, both, few_given)

on_fault : (stop : Stop) (P : Type 0) → P → OnFault stop P
on_fault (Fault malform line) P x = x
on_fault Read P x = tt
on_fault Write P x = tt
on_fault (Em fault) P x = tt

never_fault : (faults after : ℕ) (s t : RigState) (stop : Stop) (P : Type 0) → SyncCause faults after s t stop
    → OnFault stop P
never_fault faults after s t (Fault malform line) P cause = absurd cause
never_fault faults after s t Read P cause = tt
never_fault faults after s t Write P cause = tt
never_fault faults after s t (Em fault) P cause = tt

module _ (apply : Combiner) {IsState : List ℕ → Type 0} {took : List ℕ → List ℕ → List ℕ} (rule : IsRule IsState took)
    {old : List ℕ} (ok : IsState old) where
  -- Before the first command nothing was printed.
  pub printed_start : (k : FileKind) (cs : List Command) → synced_text apply k cs ≡ [] → old ≡ took old (synced_text apply k cs)
  printed_start k cs none = sym (ap (took old) none ∙ rule.nothing old ok)

  module _ (k : FileKind) (given : List Command) {now : List ℕ} (p : now ≡ took old (synced_text apply k given)) where
    -- A command printed what it prints.
    pub printed_next : (c : Command) {new : List ℕ} → new ≡ took now (text_at apply k given c)
        → new ≡ took old (synced_text apply k (given ++ c ∷ []))
    printed_next c q =
        q ∙ ap (λ s. took s (text_at apply k given c)) p
        ∙ rule.both old (synced_text apply k given) (text_at apply k given c) ok
        ∙ ap (took old) (sym (synced_next apply k given c))

    module _ (good rest : List Command) (e : good ≡ given ++ rest) where
      front : Sent took old (synced_text apply k good) now (synced_rest apply k given rest)
      front = record {
        sent = synced_text apply k given;
        state = p;
        all = sym (synced_all apply k given rest) ∙ ap (synced_text apply k) (sym e);
      }

      all_given : rest ≡ [] → now ≡ took old (synced_text apply k good)
      all_given none =
          p ∙ ap (λ cs. took old (synced_text apply k cs)) (sym (e ∙ ap (λ r. given ++ r) none ∙ append-nil given))

      -- All commands were given,
      pub given_all : {T : Type 0} (x : T) → rest ≡ [] → Answers took (synced_text apply k good) old now (Ok x)
      given_all x none = record { all = all_given none; fault = tt; part = part-of front }

      -- or those before a faulty line,
      pub given_faulty : {T : Type 0} (stop : Stop) → rest ≡ []
          → Answers {T = T} took (synced_text apply k good) old now (Err stop)
      given_faulty stop none =
          record { all = tt; fault = on_fault stop _ (all_given none); part = part-of front }

      -- or the shelf failed before a line,
      pub given_unread : {T : Type 0} → Answers {T = T} took (synced_text apply k good) old now (Err Read)
      given_unread = record { all = tt; fault = tt; part = part-of front }

      -- or a command stopped.
      pub given_stopped : {S T : Type 0} (c : Command) (cs : List Command) {new : List ℕ} (faults after : ℕ)
          (s t : RigState) (stop : Stop) (result : Result T Stop) → IsErrAnd result (λ f. f ≡ stop)
          → rest ≡ c ∷ cs → SyncCause faults after s t stop
          → Prints {T = S} took (text_at apply k given c) now new (Err stop)
          → Answers took (synced_text apply k good) old new result
      given_stopped c cs faults after s t stop (Ok x) is next cause q = absurd is
      given_stopped {S} {T} c cs {new} faults after s t stop (Err f) is next cause q =
          let left : synced_rest apply k given rest ≡ text_at apply k given c ++ synced_rest apply k (given ++ c ∷ []) cs =
          ap (synced_rest apply k given) next in
          let stopped : Answers {T = T} took (synced_text apply k good) old new (Err stop) =
          record {
            all = tt;
            fault = never_fault faults after s t stop _ cause;
            part = part-rest rule ok front (rw left (part-more (synced_rest apply k (given ++ c ∷ []) cs) q.part));
          } in
          subst (λ (x : Stop). Answers {T = T} took (synced_text apply k good) old new (Err x)) (sym is) stopped
