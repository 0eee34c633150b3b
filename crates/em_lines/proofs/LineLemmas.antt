-- A line and its parts, as a stream shows them.
use Rattle.std.proofs.Common.{◌≡◌, ℕ, ◌<◌, ◌≤◌, Bool, true, false, cond, List, [], ◌∷◌, length, Result, Ok, Err, refl, sym, ap, ◌∙◌, arith, subst, lit≤}
use Rattle.std.specs.Prelude.{Option, Some, None, MatchOption, drop, OnOk, bytes_eq, codes, ◌==◌, ◌||◌, ◌≢◌}
use Rattle.std.specs.List.{onto_first}
use Rattle.std.proofs.lemmas.Bool.{ne_eqb, eq-eqb, cond-false, cond-true, false_from_ne_true}
use Rattle.std.proofs.lemmas.Slice.Eq.{bytes_eq-Decides}
use Rattle.em_lines.specs.declared.text.FileKind.{FileKind}
use Rattle.em_lines.specs.declared.text.FileKind.TheVariants as kind
use Rattle.em_lines.specs.declared.text.TextKind.{TextKind}
use Rattle.em_lines.specs.declared.text.TextKind.TheVariants.{Unknown, EmptyLine}
use Rattle.em_lines.specs.declared.text.LineStop.{LineStop}
use Rattle.em_lines.specs.Stops.{Gives}
use Rattle.em_lines.specs.Lines.{lines_of, parts_of}
use Rattle.em_lines.specs.Stream.{line_at, after_line, word_at, after_word, parts_left}
use Rattle.em_lines.specs.CommandLine.{command_of, command_of_parts, map_command_of, table_command_of}

parts_step : (b : ℕ) (bs : List ℕ) (space newline : Bool) → (b == 32) ≡ space
    → (b == 10) ≡ newline
    → parts_of (line_at bs) ≡ word_at bs ∷ parts_left (after_word bs)
    → parts_of (cond newline [] (b ∷ line_at bs))
    ≡ cond (space || newline) [] (b ∷ word_at bs)
    ∷ parts_left (cond (space || newline) (b ∷ bs) (after_word bs))
parts_step b bs true true s n ih = rw n refl
parts_step b bs true false s n ih = rw (s, n) refl
parts_step b bs false true s n ih = rw n refl
parts_step b bs false false s n ih = rw (s, ih) refl

-- the parts of a line are its word and the parts that are left after it
pub parts_of-line_at : (s : List ℕ)
    → parts_of (line_at s) ≡ word_at s ∷ parts_left (after_word s)
parts_of-line_at [] = refl
parts_of-line_at (b ∷ bs) = parts_step b bs (b == 32) (b == 10) refl refl (parts_of-line_at bs)

after_step : (b : ℕ) (bs : List ℕ) (space newline : Bool) → (b == 10) ≡ newline
    → after_line (after_word bs) ≡ after_line bs
    → after_line (cond (space || newline) (b ∷ bs) (after_word bs))
    ≡ cond newline bs (after_line bs)
after_step b bs true newline e ih = rw e refl
after_step b bs false true e ih = rw e refl
after_step b bs false false e ih = ih

-- a word ends within its line
pub after_line-after_word : (s : List ℕ) → after_line (after_word s) ≡ after_line s
after_line-after_word [] = refl
after_line-after_word (b ∷ bs) = after_step b bs (b == 32) (b == 10) refl (after_line-after_word bs)

-- the lines of a text that has a byte are the line that begins it and the lines after that
pub lines_of-line_at : (b : ℕ) (bs : List ℕ)
    → lines_of (b ∷ bs) ≡ line_at (b ∷ bs) ∷ lines_of (after_line (b ∷ bs))
lines_of-line_at b [] =
    elim (b == 10)
    as (λ n. cond n ([] ∷ []) ((b ∷ []) ∷ []) ≡ cond n [] (b ∷ []) ∷ lines_of (cond n [] []))
    [ true ↦ refl | false ↦ refl ]
lines_of-line_at b (c ∷ cs) =
    elim (b == 10)
    as (λ n. cond n ([] ∷ lines_of (c ∷ cs)) (onto_first b (lines_of (c ∷ cs)))
    ≡ cond n [] (b ∷ line_at (c ∷ cs))
    ∷ lines_of (cond n (c ∷ cs) (after_line (c ∷ cs))))
    [ true ↦ refl | false ↦ ap (onto_first b) (lines_of-line_at c cs) ]

-- after a part stands a byte that is no newline: a space
pub parts_left_cons : (s : List ℕ) (b : ℕ) (bs : List ℕ) → s ≡ b ∷ bs → b ≢ 10
    → parts_left s ≡ word_at bs ∷ parts_left (after_word bs)
parts_left_cons s b bs e ne =
    ap parts_left e ∙ cond-false _ _ _ (ne_eqb b 10 ne) ∙ parts_of-line_at bs

-- after a space and a part the line goes on
pub after_line_cons : (s : List ℕ) (b : ℕ) (bs rest : List ℕ) → s ≡ b ∷ bs → b ≢ 10
    → rest ≡ after_word bs → after_line rest ≡ after_line s
after_line_cons s b bs rest e ne behind =
    ap after_line behind ∙ after_line-after_word bs
    ∙ sym (ap after_line e ∙ cond-false _ _ _ (ne_eqb b 10 ne))

other_text : (w t : List ℕ) → length t ≤ 5 → 5 < length w → bytes_eq w t ≡ false
other_text w t short long = false_from_ne_true _ (λ e.
    let same : w ≡ t = (bytes_eq-Decides w t).0 e in absurd (omega (arith, ap length same)))

map_command_of-long : (w : List ℕ) (ps : List (List ℕ)) → 5 < length w → map_command_of w ps ≡ Err Unknown
map_command_of-long w ps long =
    rw (
      other_text w (codes "put") (lit≤ tt) long,
      other_text w (codes "del") (lit≤ tt) long,
      other_text w (codes "get") (lit≤ tt) long,
      other_text w (codes "sync") (lit≤ tt) long,
      other_text w (codes "add") (lit≤ tt) long,
    ) refl

-- a word longer than any of a table is of none
pub table_command_of-long : (k : FileKind) (w : List ℕ) (ps : List (List ℕ)) → 5 < length w
    → table_command_of k w ps ≡ Err Unknown
table_command_of-long kind.Map w ps long = map_command_of-long w ps long
table_command_of-long kind.Dump w ps long = map_command_of-long w ps long
table_command_of-long kind.Queue w ps long =
    rw (other_text w (codes "push") (lit≤ tt) long, other_text w (codes "pop") (lit≤ tt) long) refl
table_command_of-long kind.Stab w ps long =
    rw (other_text w (codes "iv") (lit≤ tt) long, other_text w (codes "stab") (lit≤ tt) long) refl

no_newline : (b : ℕ) (bs : List ℕ) → 0 < length (line_at (b ∷ bs)) → b ≢ 10
no_newline b bs h e =
    let n : line_at (b ∷ bs) ≡ [] = cond-true _ _ _ (eq-eqb b 10 e) in
    absurd (omega (arith, ap length n))

-- the command of a line that has a byte, by its word and the parts after it
pub command_of-filled : (k : FileKind) (s : List ℕ) → 0 < length (line_at s)
    → command_of k (line_at s) ≡ table_command_of k (word_at s) (parts_left (after_word s))
command_of-filled k [] h = absurd (omega arith)
command_of-filled k (b ∷ bs) h =
    let ne : b ≢ 10 = no_newline b bs h in
    let e : line_at (b ∷ bs) ≡ b ∷ line_at bs = cond-false _ _ _ (ne_eqb b 10 ne) in
    ap (command_of k) e ∙ ap (command_of_parts k) (sym (ap parts_of e))
    ∙ ap (command_of_parts k) (parts_of-line_at (b ∷ bs))

-- a line whose word is longer than any of a table
pub command_of-long : (k : FileKind) (s : List ℕ) → 0 < length (line_at s)
    → 5 < length (word_at s) → command_of k (line_at s) ≡ Err Unknown
command_of-long k s some long =
    command_of-filled k s some
    ∙ table_command_of-long k (word_at s) (parts_left (after_word s)) long

-- a line whose word was read, and the text that is left after it
pub command_of-read : (k : FileKind) (s w t : List ℕ) → 0 < length (line_at s)
    → w ≡ word_at s → t ≡ after_word s
    → table_command_of k w (parts_left t) ≡ command_of k (line_at s)
command_of-read k s w t some word taken =
    ap (λ x. table_command_of k x (parts_left t)) word
    ∙ ap (λ x. table_command_of k (word_at s) (parts_left x)) taken
    ∙ sym (command_of-filled k s some)

-- a line that begins with a byte other than a newline has one
pub line_filled : (s : List ℕ) (b : ℕ) (bs : List ℕ) → s ≡ b ∷ bs → b ≢ 10
    → 0 < length (line_at s)
line_filled s b bs e ne =
    let f : line_at s ≡ b ∷ line_at bs = ap line_at e ∙ cond-false _ _ _ (ne_eqb b 10 ne) in
    omega (arith, ap length f)

-- a line that begins with its newline is empty
pub line_empty : (k : FileKind) (s : List ℕ) (b : ℕ) (bs : List ℕ) → s ≡ b ∷ bs → b ≡ 10
    → command_of k (line_at s) ≡ Err EmptyLine
line_empty k s b bs e n =
    ap (λ t. command_of k (line_at t)) e ∙ ap (command_of k) (cond-true _ _ _ (eq-eqb b 10 n))

-- what a look at the next byte says, where it found one
pub next_some : (next : Option ℕ) (b : ℕ) (s : List ℕ)
    → MatchOption next (s ≡ []) (λ x. s ≡ x ∷ drop 1 s) → next ≡ Some b → s ≡ b ∷ drop 1 s
next_some (Some x) b s h e =
    let same : x ≡ b = cc in subst (λ (y : ℕ). s ≡ y ∷ drop 1 s) same h
next_some None b s h e = cc

-- the byte that was looked at and then taken stood before what is left
pub byte_taken : (s u t : List ℕ) (next : Option ℕ) (b : ℕ) → u ≡ s → t ≡ drop 1 u
    → MatchOption next (s ≡ []) (λ x. s ≡ x ∷ drop 1 s) → next ≡ Some b → s ≡ b ∷ t
byte_taken s u t next b same taken h e =
    next_some next b s h e ∙ ap (λ r. b ∷ r) (sym (taken ∙ ap (drop 1) same))

-- after a part stands a byte that was looked at and then taken: a space
pub parts_taken : (s u t : List ℕ) (next : Option ℕ) (b : ℕ) → u ≡ s → t ≡ drop 1 u
    → MatchOption next (s ≡ []) (λ x. s ≡ x ∷ drop 1 s) → next ≡ Some b → b ≢ 10
    → parts_left s ≡ word_at t ∷ parts_left (after_word t)
parts_taken s u t next b same taken h e ne =
    parts_left_cons s b t (byte_taken s u t next b same taken h e) ne

-- a fact of an Ok, by another
pub OnOk_map : {A E : Type 0} (r : Result A E) (P Q : Type 0) → (P → Q) → OnOk r P → OnOk r Q
OnOk_map (Ok x) P Q f h = f h
OnOk_map (Err e) P Q f h = h

-- an answer that gives what is spelled gives what equals it
pub Gives_map : {A : Type 0} (r : Result A LineStop) (x y : Result A TextKind) → x ≡ y
    → Gives r x → Gives r y
Gives_map r x y e h = subst (λ (z : _). Gives r z) e h
