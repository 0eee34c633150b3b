-- Printing what a reader gives, line by line.
use Rattle.std.proofs.Common.{◌≡◌, ℕ, List, [], ◌∷◌, ◌++◌, sym, subst, ◌∙◌, append_assoc, ⊎_elim, Result, Ok, Err}
use Rattle.std.specs.Prelude.{IsErr, OnOk}
use Rattle.em_io.specs.Sink.{IsRule, Sent, SentPart}
use Rattle.em_io.proofs.Sent.{part-add, part-more, part-of, part-rest, sent-add, sent-all, sent-more, sent-rest}
use Rattle.em_ends.specs.Stop.{EndsAs, Prints}
use Rattle.em_ends.specs.declared.stop.Stop.{Stop}
use Rattle.em_record.specs.Count.{Rose}
use Rattle.em_ends.specs.declared.stop.Stop.TheVariants.{Write}

-- three parts after a front
together : (front a b c : List ℕ) → front ++ (a ++ (b ++ c)) ≡ ((front ++ a) ++ b) ++ c
together front a b c =
    sym (append_assoc (front ++ a) b c ∙ append_assoc front a (b ++ c))

module _ {IsState : List ℕ → Type 0} {took : List ℕ → List ℕ → List ℕ} (rule : IsRule IsState took)
    {old : List ℕ} (ok : IsState old) where
  -- a line of what is left went out
  pub sent_line : {whole mid left new : List ℕ} (line rest : List ℕ) → Sent took old whole mid left
      → left ≡ line ++ rest → new ≡ took mid line → Sent took old whole new rest
  sent_line {whole} {mid} {left} {new} line rest p e s =
      sent-rest rule ok p (rw e (sent-more rest (sent-all s)))

  -- what is pending is a front of what is left: a part more was added to it,
  pub sent_step : {whole mid left new behind : List ℕ} (front a more : List ℕ)
      → Sent took old whole mid left → left ≡ front ++ (a ++ more)
      → Sent took mid (front ++ a) new behind → Sent took old whole new (behind ++ more)
  sent_step {whole} {mid} {left} {new} {behind} front a more p e q =
      sent-rest rule ok p (rw (e ∙ sym (append_assoc front a more)) (sent-more more q))

  -- or only went out in part.
  pub part_step : {whole mid left new : List ℕ} (front a more : List ℕ)
      → Sent took old whole mid left → left ≡ front ++ (a ++ more)
      → SentPart took mid (front ++ a) new → SentPart took old whole new
  part_step {whole} {mid} {left} {new} front a more p e q =
      part-rest rule ok p (rw (e ∙ sym (append_assoc front a more)) (part-more more q))

  -- three parts were added to what was pending
  pub sent_three : {mid after new rest : List ℕ} (front left behind a b c : List ℕ)
      → Sent took old (front ++ a) mid left → Sent took mid (left ++ b) after behind
      → Sent took after (behind ++ c) new rest → Sent took old (front ++ (a ++ (b ++ c))) new rest
  sent_three {mid} {after} {new} {rest} front left behind a b c p q r =
      rw (together front a b c) (sent-add rule ok behind c (sent-add rule ok left b p q) r)

  -- the same where the last part may have failed
  pub sent_all_three : {T E : Type 0} {mid after : List ℕ} (new rest : List ℕ)
      (front left behind a b c : List ℕ) (result : Result T E)
      → Sent took old (front ++ a) mid left → Sent took mid (left ++ b) after behind
      → OnOk result (Sent took after (behind ++ c) new rest)
      → OnOk result (Sent took old (front ++ (a ++ (b ++ c))) new rest)
  sent_all_three new rest front left behind a b c (Ok x) p q r =
      sent_three front left behind a b c p q r
  sent_all_three new rest front left behind a b c (Err e) p q r = tt

  -- two parts were added, of which the last one may have failed
  pub sent_all_two : {T E : Type 0} {mid : List ℕ} (new rest : List ℕ) (front left a b : List ℕ)
      (result : Result T E) → Sent took old (front ++ a) mid left
      → OnOk result (Sent took mid (left ++ b) new rest)
      → OnOk result (Sent took old (front ++ (a ++ b)) new rest)
  sent_all_two new rest front left a b (Ok x) p q =
      rw (← append_assoc front a b) (sent-add rule ok left b p q)
  sent_all_two new rest front left a b (Err e) p q = tt

  pub part_last : {mid new : List ℕ} (front left a b : List ℕ) → Sent took old (front ++ a) mid left
      → SentPart took mid (left ++ b) new → SentPart took old (front ++ (a ++ b)) new
  part_last {mid} {new} front left a b p q =
      rw (← append_assoc front a b) (part-add rule ok left b p q)

  pub part_two : {mid new : List ℕ} (front left a b c : List ℕ)
      → Sent took old (front ++ a) mid left → SentPart took mid (left ++ b) new
      → SentPart took old (front ++ (a ++ (b ++ c))) new
  part_two {mid} {new} front left a b c p q =
      rw (together front a b c) (part-more c (part-add rule ok left b p q))

  pub part_three : {mid after new : List ℕ} (front left behind a b c : List ℕ)
      → Sent took old (front ++ a) mid left → Sent took mid (left ++ b) after behind
      → SentPart took after (behind ++ c) new → SentPart took old (front ++ (a ++ (b ++ c))) new
  part_three {mid} {after} {new} front left behind a b c p q r =
      rw (together front a b c) (part-add rule ok behind c (sent-add rule ok left b p q) r)

-- the first of three parts went out in part
pub part_one : {took : List ℕ → List ℕ → List ℕ} {old new : List ℕ} (front a more : List ℕ)
    → SentPart took old (front ++ a) new → SentPart took old (front ++ (a ++ more)) new
part_one {took} {old} {new} front a more p = rw (← append_assoc front a more) (part-more more p)

-- a line's word went out in part, from a printer that held nothing
pub word_part : {took : List ℕ → List ℕ → List ℕ} {old new pending : List ℕ} (word : List ℕ)
    → pending ≡ [] → SentPart took old (pending ++ word) new → SentPart took old (word ++ 10 ∷ []) new
word_part {took} {old} {new} {pending} word e p = part-more (10 ∷ []) (rw e at p)

-- a call that stopped had sent a front,
pub prints_part : {T : Type 0} {took : List ℕ → List ℕ → List ℕ} {whole old new : List ℕ}
    (result : Result T Stop) → IsErr result → SentPart took old whole new
    → Prints took whole old new result
prints_part (Ok x) e p = cc
prints_part (Err stop) e p = record { all = tt; part = p }

-- and one that didn't stop all.
pub prints_all : {T : Type 0} {took : List ℕ → List ℕ → List ℕ} {whole old new : List ℕ} (x : T)
    → new ≡ took old whole → Prints took whole old new (Ok x)
prints_all x e = record { all = e; part = part-of (sent-all e) }

-- What holds at the end of a call that printed, and after a failure of the output, holds after the
-- rest was sent.
pub ends_by : (P : Result (Unit {0}) Stop → Type 0) (done result : Result (Unit {0}) Stop)
    (faults after : ℕ) → EndsAs done result faults after → P done
    → (Rose faults after → P (Err Write)) → P result
ends_by P done result faults after e p q = ⊎_elim
    (λ (x : result ≡ done). subst P (sym x) p)
    (λ (x : _ × (result ≡ Err Write) × Rose faults after). subst P (sym x.1) (q x.2))
    e
