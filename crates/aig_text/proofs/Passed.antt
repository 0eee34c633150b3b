-- The tail, byte by byte and line by line.
use Rattle.std.proofs.Common.{◌≡◌, ◌+◌, ◌-◌, ◌^◌, ◌<◌, ◌≤◌, Bool, true, false, cond, leb, eqb, List, [], ◌∷◌, ℕ, zero, suc, ap, ◌∙◌, refl, arith, length, drop, Some, None, IsTrue, Ok, Err}
use Rattle.aig_defs.specs.declared.circuit.Header.{Header}
use Rattle.aig_defs.specs.declared.fault.AigKind.{AigKind}
use Rattle.aig_defs.specs.declared.fault.AigKind.TheVariants.{TooLong}
use Rattle.aig_defs.specs.Items.{Reading, Reads, Fails, and_then, look}
use Rattle.aig_defs.specs.Tail.{name, comment, tail_line, go_on, tail_lines, tail}
use Rattle.aig_defs.proofs.Tail.{tail_ends}
use Rattle.aig_text.specs.Passed.{PassesLines}
use Rattle.aig_text.specs.Reads.{ReadCause, ReadsItem, StopsAs}
use Rattle.aig_text.specs.Source.{CanRead, Source, left}
use Rattle.aig_text.specs.declared.stop.AigStop.{AigStop}
use Rattle.aig_text.specs.declared.stop.AigStop.TheVariants as stop
use Rattle.aig_text.proofs.Fillings.{stops_as}
use Rattle.aig_text.proofs.Steadies.{advances_then, steady_none}

-- A byte of a name or of a comment, by what a look at it gives.
byte_by : {A : Type 0} (far : Bool) (r : Reading A) (p first : ℕ) (x : List ℕ)
    (more : ℕ → ℕ → List ℕ → Reading A) (b q : ℕ) (y : List ℕ)
    → cond far (Fails TooLong (2 ^ 50)) (Reads (Some first) p (first ∷ x)) ≡ Reads (Some b) q y
    → cond far (Fails TooLong (2 ^ 50)) (more first (p + 1) x) ≡ more b (q + 1) (drop 1 y)
byte_by true r p first x more b q y e = cc
byte_by false r p first x more b q y e =
    let byte : first ≡ b = cc in
    let place : p ≡ q = cc in
    let rest : first ∷ x ≡ y = cc in
    ap (λ c. more c (p + 1) x) byte ∙ ap (λ k. more b (k + 1) x) place
    ∙ ap (λ z. more b (q + 1) (drop 1 z)) rest

fails_by : {A B : Type 0} (far : Bool) (v : A) (p : ℕ) (x : List ℕ) (more : Reading B)
    (kind : AigKind) (place : ℕ)
    → cond far (Fails TooLong (2 ^ 50)) (Reads v p x) ≡ Fails kind place
    → cond far (Fails TooLong (2 ^ 50)) more ≡ Fails kind place
fails_by true v p x more kind place e =
    let same : TooLong ≡ kind = cc in
    let here : 2 ^ 50 ≡ place = cc in
    ap (λ k. Fails k (2 ^ 50)) same ∙ ap (λ n. Fails kind n) here
fails_by false v p x more kind place e = cc

none_by : (far : Bool) (first p : ℕ) (x : List ℕ) (q : ℕ) (y : List ℕ)
    → cond far (Fails TooLong (2 ^ 50)) (Reads (Some first) p x) ≡ Reads None q y → ⊥
none_by true first p x q y e = cc
none_by false first p x q y e = cc

-- a comment,
pub comment_byte : (p : ℕ) (x : List ℕ) (b q : ℕ) (y : List ℕ) → look p x ≡ Reads (Some b) q y
    → comment p x ≡ comment (q + 1) (drop 1 y)
comment_byte p [] b q y e = cc
comment_byte p (first ∷ x) b q y e =
    byte_by (leb (2 ^ 50) p) (comment p x) p first x (λ c. comment) b q y e

pub comment_fails : (p : ℕ) (x : List ℕ) (kind : AigKind) (place : ℕ) → look p x ≡ Fails kind place
    → comment p x ≡ Fails kind place
comment_fails p [] kind place e = cc
comment_fails p (first ∷ x) kind place e =
    fails_by (leb (2 ^ 50) p) (Some first) p (first ∷ x) (comment (p + 1) x) kind place e

pub comment_end : (p : ℕ) (x : List ℕ) (q : ℕ) (y : List ℕ) → look p x ≡ Reads None q y
    → comment p x ≡ Reads tt q y
comment_end p [] q y e =
    let place : p ≡ q = cc in
    let rest : ◌≡◌ {A = List ℕ} [] y = cc in
    ap (λ k. Reads tt k []) place ∙ ap (Reads tt q) rest
comment_end p (first ∷ x) q y e = absurd (none_by _ first p (first ∷ x) q y e)

-- and a name
abbrev pub name_more : ℕ → ℕ → List ℕ → Reading (Unit {0})
name_more byte p x = cond (eqb byte 10) (Reads tt p x) (name p x)

pub name_byte : (p : ℕ) (x : List ℕ) (b q : ℕ) (y : List ℕ) → look p x ≡ Reads (Some b) q y
    → name p x ≡ cond (eqb b 10) (Reads tt (q + 1) (drop 1 y)) (name (q + 1) (drop 1 y))
name_byte p [] b q y e = cc
name_byte p (first ∷ x) b q y e =
    byte_by (leb (2 ^ 50) p) (name p x) p first x name_more b q y e

pub name_fails : (p : ℕ) (x : List ℕ) (kind : AigKind) (place : ℕ) → look p x ≡ Fails kind place
    → name p x ≡ Fails kind place
name_fails p [] kind place e = cc
name_fails p (first ∷ x) kind place e =
    fails_by (leb (2 ^ 50) p) (Some first) p (first ∷ x) (name_more first (p + 1) x) kind place e

pub name_end : (p : ℕ) (x : List ℕ) (q : ℕ) (y : List ℕ) → look p x ≡ Reads None q y
    → name p x ≡ Reads tt q y
name_end p [] q y e =
    let place : p ≡ q = cc in
    let rest : ◌≡◌ {A = List ℕ} [] y = cc in
    ap (λ k. Reads tt k []) place ∙ ap (Reads tt q) rest
name_end p (first ∷ x) q y e = absurd (none_by _ first p (first ∷ x) q y e)

pub ruleset passes =
    (comment_byte, comment_fails, comment_end, name_byte, name_fails, name_end)

-- Lines: more are read after one,
line_next : (h : Header) (n p : ℕ) (x : List ℕ) (q : ℕ) (y : List ℕ) → length x < n
    → tail_line h p x ≡ Reads true q y → tail_lines h n p x ≡ tail_lines h (n - 1) q y
line_next h zero p x q y less e = absurd (omega arith)
line_next h (suc n) p x q y less e =
    let same : n ≡ suc n - 1 = omega arith in
    ap (λ r. and_then r (go_on (tail_lines h n))) e ∙ ap (λ k. tail_lines h k q y) same

-- none after the last one,
line_last : (h : Header) (n p : ℕ) (x : List ℕ) (q : ℕ) (y : List ℕ) → length x < n
    → tail_line h p x ≡ Reads false q y → tail_lines h n p x ≡ Reads tt q y
line_last h zero p x q y less e = absurd (omega arith)
line_last h (suc n) p x q y less e = ap (λ r. and_then r (go_on (tail_lines h n))) e

-- nor after a fault.
line_fails : (h : Header) (n p : ℕ) (x : List ℕ) (e : AigStop) → length x < n
    → StopsAs e (tail_line h p x) → StopsAs e (tail_lines h n p x)
line_fails h zero p x e less s = absurd (omega arith)
line_fails h (suc n) p x (stop.Fault kind place) less s =
    ap (λ r. and_then r (go_on (tail_lines h n))) s
line_fails h (suc n) p x stop.Read less s = tt
line_fails h (suc n) p x (stop.Em fault) less s = tt

-- No line was read yet,
pub lines_none : {tells : Bool} (h : Header) {s : Source} → CanRead s → PassesLines tells h s s
lines_none {tells} h {s} can = record {
  advances = record { steady = steady_none tells s; place = can.place; later = omega arith };
  most = length (left s) + 1;
  enough = λ t. omega arith;
  here = λ t. refl;
}

-- a stop has its cause after what was read before it
cause_then : (old mid now : Source) (e : AigStop) → old.faults ≤ mid.faults → ReadCause mid now e
    → ReadCause old now e
cause_then old mid now (stop.Fault kind place) later c = tt
cause_then old mid now stop.Read later c = omega (arith, later, c)
cause_then old mid now (stop.Em fault) later c = c

module _ {tells : Bool} {h : Header} {old mid now : Source} (s : PassesLines tells h old mid) where
  -- one was read, after which another one may follow,
  pub lines_next : (more : Bool) → more ≡ true → mid.feed.place < now.feed.place
      → ReadsItem tells (tail_line h) mid now (Ok more) → PassesLines tells h old now
  lines_next more is forward r = record {
    advances = advances_then s.advances r.advances;
    most = s.most - 1;
    enough = λ t. omega (arith, s.enough t, r.advances.steady.whole t, forward);
    here = λ t. s.here t ∙ line_next h s.most mid.feed.place (left mid) now.feed.place (left now)
        (s.enough t) (r.gives t ∙ ap (λ b. Reads b now.feed.place (left now)) is);
  }

  -- or one after which none may,
  pub lines_last : (more : Bool) → more ≡ false → ReadsItem tells (tail_line h) mid now (Ok more)
      → ReadsItem {A = Unit {0}} tells (tail h) old now (Ok tt)
  lines_last more is r = record {
    gives = λ t. s.here t ∙ line_last h s.most mid.feed.place (left mid) now.feed.place (left now)
        (s.enough t) (r.gives t ∙ ap (λ b. Reads b now.feed.place (left now)) is);
    advances = advances_then s.advances r.advances;
    cause = tt;
  }

  -- or none.
  pub lines_stop : (e : AigStop) → ReadsItem {A = Bool} tells (tail_line h) mid now (Err e)
      → ReadsItem {A = Unit {0}} tells (tail h) old now (Err e)
  lines_stop e r = record {
    gives = λ t. stops_as e (tail_lines h s.most mid.feed.place (left mid)) _ (s.here t)
        (line_fails h s.most mid.feed.place (left mid) e (s.enough t) (r.gives t));
    advances = advances_then s.advances r.advances;
    cause = cause_then old mid now e s.advances.later r.cause;
  }

-- The tail that was read leaves nothing.
pub tail_left : {tells : Bool} (h : Header) (old now : Source) {u : Unit {0}}
    → ReadsItem {A = Unit {0}} tells (tail h) old now (Ok u) → IsTrue tells → left now ≡ []
tail_left h old now {u} r t = tail_ends h old.feed.place (left old) u now.feed.place (left now)
    (r.gives t)
