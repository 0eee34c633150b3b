-- The commands up to the last sync and those after it, over lists of commands that follow one another.
use Rattle.std.proofs.Common.{◌≡◌, ℕ, ◌+◌, ◌<◌, ◌≤◌, zero, suc, List, [], ◌∷◌, ◌++◌, length, take, get_or, refl, sym, ap, ◌∙◌, arith, zero-add, add-one, inl, inr}
use Rattle.std.proofs.lemmas.Bool.{cases_lt, cond-false, cond-true, eq-eqb, ne_eqb}
use Rattle.std.proofs.Math.Seq.{take-suc}
use Rattle.std.proofs.lemmas.List.{append-nil, length-append, length-take, length-take-le, take_all}
use Rattle.em_model.specs.Map.{Combiner, no_keys, map_answers, map_answers_from, state_after}
use Rattle.em_model.specs.MapAnswers.{answer_records, answers_after}
use Rattle.em_model.specs.Sync.{since_sync, synced_answers, syncs_of, up_to_sync}
use Rattle.em_model.specs.declared.command.Command.{Command}
use Rattle.em_model.specs.declared.command.Command.TheVariants.{Put, Add, Del, Get, Sync, Push, Pop, Interval, Stab}
use Rattle.em_model.proofs.AnswerLaws.{answer_records-append}
use Rattle.em_model.proofs.MapLaws.{map_answers_from-append}

-- How many syncs there are.

syncs-cons : (c : Command) (cs : List Command) → syncs_of (c ∷ cs) ≡ syncs_of (c ∷ []) + syncs_of cs
syncs-cons (Put k v) cs = sym (zero-add (syncs_of cs))
syncs-cons (Add k v) cs = sym (zero-add (syncs_of cs))
syncs-cons (Del k) cs = sym (zero-add (syncs_of cs))
syncs-cons (Get k) cs = sym (zero-add (syncs_of cs))
syncs-cons Sync cs = refl
syncs-cons (Push k v) cs = sym (zero-add (syncs_of cs))
syncs-cons Pop cs = sym (zero-add (syncs_of cs))
syncs-cons (Interval low high) cs = sym (zero-add (syncs_of cs))
syncs-cons (Stab point) cs = sym (zero-add (syncs_of cs))

pub syncs-append : (xs ys : List Command) → syncs_of (xs ++ ys) ≡ syncs_of xs + syncs_of ys
syncs-append [] ys = sym (zero-add (syncs_of ys))
syncs-append (x ∷ xs) ys =
    omega (arith, syncs-cons x (xs ++ ys), syncs-cons x xs, syncs-append xs ys)

-- a command is one sync or none
pub one_sync : (c : Command) → syncs_of (c ∷ []) ≤ 1
one_sync (Put k v) = omega arith
one_sync (Add k v) = omega arith
one_sync (Del k) = omega arith
one_sync (Get k) = omega arith
one_sync Sync = omega arith
one_sync (Push k v) = omega arith
one_sync Pop = omega arith
one_sync (Interval low high) = omega arith
one_sync (Stab point) = omega arith

pub syncs_few : (cs : List Command) → syncs_of cs ≤ length cs
syncs_few [] = omega arith
syncs_few (c ∷ cs) = omega (arith, syncs-cons c cs, one_sync c, syncs_few cs)

-- more commands have no fewer syncs
pub syncs-take : (m n : ℕ) (cs : List Command) → m ≤ n → syncs_of (take m cs) ≤ syncs_of (take n cs)
syncs-take zero n cs h = omega arith
syncs-take (suc m) zero cs h = absurd (omega (arith, h))
syncs-take (suc m) (suc n) [] h = omega arith
syncs-take (suc m) (suc n) (c ∷ cs) h =
    let i = syncs-take m n cs (omega (arith, h)) in
    omega (arith, syncs-cons c (take m cs), syncs-cons c (take n cs), i)

-- Where the commands are cut.

up_to_here : (c : Command) (cs : List Command) → 0 < syncs_of (c ∷ cs)
    → up_to_sync (c ∷ cs) ≡ c ∷ up_to_sync cs
up_to_here c cs h = cond-false _ _ _ (ne_eqb (syncs_of (c ∷ cs)) 0 (λ e. omega (arith, h, e)))

since_here : (c : Command) (cs : List Command) → 0 < syncs_of (c ∷ cs)
    → since_sync (c ∷ cs) ≡ since_sync cs
since_here c cs h = cond-false _ _ _ (ne_eqb (syncs_of (c ∷ cs)) 0 (λ e. omega (arith, h, e)))

-- without a sync nothing is printed before the end
pub up_to_none : (cs : List Command) → syncs_of cs ≡ 0 → up_to_sync cs ≡ []
up_to_none [] e = refl
up_to_none (c ∷ cs) e = cond-true _ _ _ (eq-eqb (syncs_of (c ∷ cs)) 0 e)

pub since_none : (cs : List Command) → syncs_of cs ≡ 0 → since_sync cs ≡ cs
since_none [] e = refl
since_none (c ∷ cs) e = cond-true _ _ _ (eq-eqb (syncs_of (c ∷ cs)) 0 e)

-- commands without a sync after others
pub up_to_same : (xs ys : List Command) → syncs_of ys ≡ 0 → up_to_sync (xs ++ ys) ≡ up_to_sync xs
up_to_same [] ys e = up_to_none ys e
up_to_same (x ∷ xs) ys e =
    let all = syncs-append (x ∷ xs) ys in
    elim (cases_lt 0 (syncs_of (x ∷ xs))) [
      | inl some ↦
          up_to_here x (xs ++ ys) (omega (arith, all, some))
          ∙ ap (λ t. x ∷ t) (up_to_same xs ys e) ∙ sym (up_to_here x xs some)
      | inr none ↦
          up_to_none (x ∷ (xs ++ ys)) (omega (arith, all, none, e))
          ∙ sym (up_to_none (x ∷ xs) (omega (arith, none)))
    ]

pub since_same : (xs ys : List Command) → syncs_of ys ≡ 0
    → since_sync (xs ++ ys) ≡ since_sync xs ++ ys
since_same [] ys e = since_none ys e
since_same (x ∷ xs) ys e =
    let all = syncs-append (x ∷ xs) ys in
    elim (cases_lt 0 (syncs_of (x ∷ xs))) [
      | inl some ↦
          since_here x (xs ++ ys) (omega (arith, all, some)) ∙ since_same xs ys e
          ∙ sym (ap (λ t. t ++ ys) (since_here x xs some))
      | inr none ↦
          since_none (x ∷ (xs ++ ys)) (omega (arith, all, none, e))
          ∙ sym (ap (λ t. t ++ ys) (since_none (x ∷ xs) (omega (arith, none))))
    ]

-- commands with a sync after others
pub up_to_later : (xs ys : List Command) → 0 < syncs_of ys → up_to_sync (xs ++ ys) ≡ xs ++ up_to_sync ys
up_to_later [] ys h = refl
up_to_later (x ∷ xs) ys h =
    up_to_here x (xs ++ ys) (omega (arith, syncs-append (x ∷ xs) ys, h))
    ∙ ap (λ t. x ∷ t) (up_to_later xs ys h)

pub since_later : (xs ys : List Command) → 0 < syncs_of ys → since_sync (xs ++ ys) ≡ since_sync ys
since_later [] ys h = refl
since_later (x ∷ xs) ys h =
    since_here x (xs ++ ys) (omega (arith, syncs-append (x ∷ xs) ys, h)) ∙ since_later xs ys h

-- At a sync all commands so far are answered.
pub up_to_synced : (cs : List Command) → up_to_sync (cs ++ Sync ∷ []) ≡ cs ++ Sync ∷ []
up_to_synced cs = up_to_later cs (Sync ∷ []) (omega arith)

pub since_synced : (cs : List Command) → since_sync (cs ++ Sync ∷ []) ≡ []
since_synced cs = since_later cs (Sync ∷ []) (omega arith)

-- Both parts are all commands, and all syncs are in the first one.
pub sync_parts : (cs : List Command) → up_to_sync cs ++ since_sync cs ≡ cs
sync_parts [] = refl
sync_parts (c ∷ cs) =
    elim (cases_lt 0 (syncs_of (c ∷ cs))) [
      | inl some ↦
          ap (λ t. t ++ since_sync (c ∷ cs)) (up_to_here c cs some)
          ∙ ap (λ t. c ∷ (up_to_sync cs ++ t)) (since_here c cs some)
          ∙ ap (λ t. c ∷ t) (sync_parts cs)
      | inr none ↦
          let e : syncs_of (c ∷ cs) ≡ 0 = omega (arith, none) in
          ap (λ t. t ++ since_sync (c ∷ cs)) (up_to_none (c ∷ cs) e) ∙ since_none (c ∷ cs) e
    ]

pub since_unsynced : (cs : List Command) → syncs_of (since_sync cs) ≡ 0
since_unsynced [] = refl
since_unsynced (c ∷ cs) =
    elim (cases_lt 0 (syncs_of (c ∷ cs))) [
      | inl some ↦ ap syncs_of (since_here c cs some) ∙ since_unsynced cs
      | inr none ↦
          let e : syncs_of (c ∷ cs) ≡ 0 = omega (arith, none) in
          ap syncs_of (since_none (c ∷ cs) e) ∙ e
    ]

pub up_to_syncs : (cs : List Command) → syncs_of (up_to_sync cs) ≡ syncs_of cs
up_to_syncs cs =
    let all = ap syncs_of (sync_parts cs) in
    omega (arith, all, syncs-append (up_to_sync cs) (since_sync cs), since_unsynced cs)

-- the first part is a front of the commands
pub up_to_front : (cs : List Command) → take (length (up_to_sync cs)) cs ≡ up_to_sync cs
up_to_front [] = refl
up_to_front (c ∷ cs) =
    elim (cases_lt 0 (syncs_of (c ∷ cs))) [
      | inl some ↦
          let e = up_to_here c cs some in
          ap (λ (t : List Command). take (length t) (c ∷ cs)) e ∙ ap (λ t. c ∷ t) (up_to_front cs) ∙ sym e
      | inr none ↦
          let e = up_to_none (c ∷ cs) (omega (arith, none)) in
          ap (λ (t : List Command). take (length t) (c ∷ cs)) e ∙ sym e
    ]

pub up_to_length : (cs : List Command) → length (up_to_sync cs) + length (since_sync cs) ≡ length cs
up_to_length cs =
    omega (
      arith,
      length-append (up_to_sync cs) (since_sync cs),
      ap (λ (t : List Command). length t) (sync_parts cs),
    )

-- What is answered where.

-- all answers are those before the last sync, and those after it
pub map_answers-parts : (apply : Combiner) (cs : List Command)
    → map_answers apply cs
    ≡ synced_answers apply cs ++ map_answers_from apply (state_after apply no_keys (up_to_sync cs)) (since_sync cs)
map_answers-parts apply cs =
    ap (map_answers apply) (sym (sync_parts cs)) ∙ map_answers_from-append apply no_keys (up_to_sync cs) (since_sync cs)

-- and so are their records
pub answer_records-parts : (apply : Combiner) (cs : List Command)
    → answer_records apply cs ≡ answer_records apply (up_to_sync cs) ++ answers_after apply (up_to_sync cs) (since_sync cs)
answer_records-parts apply cs =
    ap (answer_records apply) (sym (sync_parts cs)) ∙ answer_records-append apply (up_to_sync cs) (since_sync cs)

-- a sync prints what wasn't printed
pub synced_answers-sync : (apply : Combiner) (cs : List Command) → synced_answers apply (cs ++ Sync ∷ []) ≡ map_answers apply cs
synced_answers-sync apply cs =
    ap (map_answers apply) (up_to_synced cs) ∙ map_answers_from-append apply no_keys cs (Sync ∷ [])
    ∙ append-nil (map_answers apply cs)

-- other commands print nothing
pub synced_answers-same : (apply : Combiner) (xs ys : List Command) → syncs_of ys ≡ 0
    → synced_answers apply (xs ++ ys) ≡ synced_answers apply xs
synced_answers-same apply xs ys e = ap (map_answers apply) (up_to_same xs ys e)

-- a command that is no sync
pub no_sync : (c : Command) → (c ≡ Sync → ⊥) → syncs_of (c ∷ []) ≡ 0
no_sync (Put k v) h = refl
no_sync (Add k v) h = refl
no_sync (Del k) h = refl
no_sync (Get k) h = refl
no_sync Sync h = absurd (h refl)
no_sync (Push k v) h = refl
no_sync Pop h = refl
no_sync (Interval low high) h = refl
no_sync (Stab point) h = refl

-- How many commands there are up to the last sync, one command further on.
module _ (cs : List Command) (i : ℕ) (d : Command) (h : i < length cs) where
  next : take (i + 1) cs ≡ take i cs ++ get_or cs i d ∷ []
  next = rw add-one (take-suc cs i d h)

  pub count_synced : get_or cs i d ≡ Sync → length (up_to_sync (take (i + 1) cs)) ≡ i + 1
  count_synced is =
      let all : take (i + 1) cs ≡ take i cs ++ Sync ∷ [] = next ∙ ap (λ c. take i cs ++ c ∷ []) is in
      let e = ap (λ (t : List Command). length (up_to_sync t)) all in
      let f = ap (λ (t : List Command). length t) (up_to_synced (take i cs)) in
      omega (arith, e, f, length-append (take i cs) (Sync ∷ []), length-take-le i cs (omega (arith, h)))

  pub count_same : (get_or cs i d ≡ Sync → ⊥)
      → length (up_to_sync (take (i + 1) cs)) ≡ length (up_to_sync (take i cs))
  count_same other =
      ap (λ (t : List Command). length (up_to_sync t)) next
      ∙ ap (λ (t : List Command). length t)
      (up_to_same (take i cs) (get_or cs i d ∷ []) (no_sync (get_or cs i d) other))

-- That many are no more than all, and are the first of them.
pub counted_few : (cs : List Command) (i n : ℕ) → n ≡ length (up_to_sync (take i cs)) → n ≤ length cs
counted_few cs i n e =
    omega (arith, e, up_to_length (take i cs), length-take i cs)

pub counted_all : (cs : List Command) (i n : ℕ) → n ≡ length (up_to_sync (take i cs)) → length cs ≤ i
    → take n cs ≡ up_to_sync cs
counted_all cs i n e h =
    ap (λ k. take k cs) (e ∙ ap (λ (t : List Command). length (up_to_sync t)) (take_all i cs h))
    ∙ up_to_front cs
