-- A list that goes out to a sink in parts.
use Rattle.std.proofs.Common.{◌≡◌, List, ◌++◌, [], ℕ, ◌+◌, take, drop, sym, ap, ◌∙◌, refl, append_assoc}
use Rattle.std.proofs.lemmas.List.{append-nil, take-append-drop}
use Rattle.std.proofs.Math.Seq.{take-add}
use Rattle.em_io.specs.Sink.{IsRule, Sent, SentPart}

module _ {IsState : List ℕ → Type 0} {took : List ℕ → List ℕ → List ℕ} (rule : IsRule IsState took)
    {old : List ℕ} (ok : IsState old) where
  -- the first i bytes went out, and then n more
  pub took-more : (bytes mid new : List ℕ) (i n : ℕ)
      → mid ≡ took old (take i bytes) → new ≡ took mid (take n (drop i bytes))
      → new ≡ took old (take (i + n) bytes)
  took-more bytes mid new i n e f =
      f ∙ ap (λ s. took s (take n (drop i bytes))) e ∙ rule.both old _ _ ok
      ∙ ap (took old) (sym (take-add i n bytes))

  -- nothing went out
  pub sent-nothing : {new : List ℕ} (bytes : List ℕ) → new ≡ old → Sent took old bytes new bytes
  sent-nothing bytes e = record { sent = []; state = e ∙ sym (rule.nothing old ok); all = refl }

  -- `front` went out whole, and then some of the bytes
  pub sent-then : {front bytes mid new left : List ℕ}
      → mid ≡ took old front → Sent took mid bytes new left
      → Sent took old (front ++ bytes) new left
  sent-then {front} {bytes} {mid} {new} {left} e p = record {
    sent = front ++ p.sent;
    state = p.state ∙ ap (λ s. took s p.sent) e ∙ rule.both old front p.sent ok;
    all = append_assoc front p.sent left ∙ ap (λ x. front ++ x) p.all;
  }

  pub part-then : {front bytes mid new : List ℕ}
      → mid ≡ took old front → SentPart took mid bytes new → SentPart took old (front ++ bytes) new
  part-then e p = record { left = p.left; front = sent-then e p.front }

  -- some of what was left went out
  pub sent-rest : {bytes mid left rest new : List ℕ}
      → Sent took old bytes mid left → Sent took mid left new rest → Sent took old bytes new rest
  sent-rest {bytes} {mid} {left} {rest} {new} p q = record {
    sent = p.sent ++ q.sent;
    state = q.state ∙ ap (λ s. took s q.sent) p.state ∙ rule.both old p.sent q.sent ok;
    all = append_assoc p.sent q.sent rest ∙ ap (λ x. p.sent ++ x) q.all ∙ p.all;
  }

module _ {took : List ℕ → List ℕ → List ℕ} {old bytes new : List ℕ} where
  -- the first i bytes went out
  pub part-first : (i : ℕ) → new ≡ took old (take i bytes) → SentPart took old bytes new
  part-first i e = record {
    left = drop i bytes;
    front = record { sent = take i bytes; state = e; all = take-append-drop i bytes };
  }

  pub part-of : {left : List ℕ} → Sent took old bytes new left → SentPart took old bytes new
  part-of {left} p = record { left = left; front = p }

  -- some more bytes are still to go
  pub sent-more : {left : List ℕ} (more : List ℕ)
      → Sent took old bytes new left → Sent took old (bytes ++ more) new (left ++ more)
  sent-more {left} more p = record {
    sent = p.sent;
    state = p.state;
    all = sym (append_assoc p.sent left more) ∙ ap (λ x. x ++ more) p.all;
  }

  pub part-more : (more : List ℕ)
      → SentPart took old bytes new → SentPart took old (bytes ++ more) new
  part-more more p = record { left = p.left ++ more; front = sent-more more p.front }

  -- all went out
  pub sent-all : new ≡ took old bytes → Sent took old bytes new []
  sent-all e = record { sent = bytes; state = e; all = append-nil bytes }

  pub all-sent : Sent took old bytes new [] → new ≡ took old bytes
  all-sent p = p.state ∙ ap (took old) (sym (append-nil p.sent) ∙ p.all)

module _ {IsState : List ℕ → Type 0} {took : List ℕ → List ℕ → List ℕ} (rule : IsRule IsState took)
    {old : List ℕ} (ok : IsState old) where
  -- some of what was left went out
  pub part-rest : {bytes mid left new : List ℕ}
      → Sent took old bytes mid left → SentPart took mid left new → SentPart took old bytes new
  part-rest p q = part-of (sent-rest rule ok p q.front)

  -- more bytes were added, and some of what is pending went out
  pub sent-add : {bytes mid rest new : List ℕ} (left more : List ℕ)
      → Sent took old bytes mid left → Sent took mid (left ++ more) new rest
      → Sent took old (bytes ++ more) new rest
  sent-add left more p q = sent-rest rule ok (sent-more more p) q

  pub part-add : {bytes mid new : List ℕ} (left more : List ℕ)
      → Sent took old bytes mid left → SentPart took mid (left ++ more) new
      → SentPart took old (bytes ++ more) new
  part-add left more p q = part-of (sent-add left more p q.front)
