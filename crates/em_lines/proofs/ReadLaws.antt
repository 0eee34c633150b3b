-- Reading a text line by line: what a line adds, and how the lines read are counted.
use Rattle.std.proofs.Common.{◌≡◌, ℕ, zero, suc, ◌+◌, ◌-◌, ◌<◌, ◌≤◌, ◌^◌, Bool, IsTrue, true, false, cond, List, [], ◌∷◌, ◌++◌, length, Ok, refl, sym, subst, ap, ◌∙◌, arith, append_assoc, zero-add, ⊎_elim, inl, inr, ◌⊎◌}
use Rattle.std.specs.Prelude.{Some, ◌==◌, min, take}
use Rattle.std.proofs.Math.Seq.{take-append_seam}
use Rattle.std.specs.List.{count_by, onto_first}
use Rattle.std.proofs.lemmas.List.{length-append, length-take}
use Rattle.std.proofs.lemmas.List.Sums.{sum_by-cons}
use Rattle.std.proofs.Math.Nat.{add_assoc}
use Rattle.std.proofs.lemmas.Bool.{cond-false, cond-true, le-ltb, lt-ltb, cases_lt}
use Rattle.em_io.specs.declared.shelf.Slot.{Slot}
use Rattle.em_io.specs.Feed.{Fed, rest}
use Rattle.em_io.specs.Shelf.{Stand}
use Rattle.em_model.specs.Sync.{syncs_of}
use Rattle.em_model.specs.declared.command.Command.{Command}
use Rattle.em_model.proofs.SyncLaws.{syncs-take, syncs_few}
use Rattle.em_lines.specs.declared.text.FileKind.{FileKind}
use Rattle.em_lines.specs.declared.text.FileKind.TheVariants.{Map, Dump}
use Rattle.em_lines.specs.declared.text.TextKind.TheVariants.{TooLong}
use Rattle.em_lines.specs.declared.text.LineStop.{LineStop}
use Rattle.em_lines.specs.declared.text.LineStop.TheVariants as stop
use Rattle.em_lines.specs.Lines.{lines_of, parts_of}
use Rattle.em_lines.specs.Stream.{line_at, after_line}
use Rattle.em_lines.specs.CommandLine.{command_of, command_of_parts, numbered, before_parsed, parsed_from, Parsed, first_fault, good_commands}
use Rattle.em_lines.specs.Stops.{StopsBy, IfFault}
use Rattle.em_lines.specs.LineTaken.{LineTaken}
use Rattle.em_lines.specs.Reads.{Reads}
use Rattle.em_lines.specs.RunSize.{lines_given, commands_taken, syncs_taken}
use Rattle.em_lines.proofs.LineLemmas.{lines_of-line_at}

-- The first line of a text.

read_line : (k : FileKind) (n b : ℕ) (bs : List ℕ)
    → parsed_from k n (lines_of (b ∷ bs))
    ≡ before_parsed n (numbered k n (line_at (b ∷ bs)))
    (parsed_from k (n + 1) (lines_of (after_line (b ∷ bs))))
read_line k n b bs = ap (parsed_from k n) (lines_of-line_at b bs)

-- what is parsed of a text that has a byte is its first line and what is parsed after that
pub read_next : (k : FileKind) (n b : ℕ) (s bs : List ℕ) → s ≡ b ∷ bs
    → parsed_from k n (lines_of s)
    ≡ before_parsed n (numbered k n (line_at s)) (parsed_from k (n + 1) (lines_of (after_line s)))
read_next k n b s bs e =
    ap (λ t. parsed_from k n (lines_of t)) e ∙ read_line k n b bs
    ∙ ap (λ t. before_parsed n (numbered k n (line_at t))
    (parsed_from k (n + 1) (lines_of (after_line t)))) (sym e)

-- a line that spells a command
pub line_taken : (k : FileKind) (n b : ℕ) (s bs t : List ℕ) (c : Command) → s ≡ b ∷ bs
    → n ≤ 2 ^ 40 → command_of k (line_at s) ≡ Ok c → t ≡ after_line s → LineTaken k n s t c
line_taken k n b s bs t c e few spells after = record {
  from = read_next k n b s bs e
      ∙ ap (λ r. before_parsed n r (parsed_from k (n + 1) (lines_of (after_line s))))
      (cond-false _ _ _ (le-ltb (2 ^ 40) n few) ∙ spells)
      ∙ ap (λ u. before_parsed n (Ok c) (parsed_from k (n + 1) (lines_of u))) (sym after);
  some = omega (arith, ap length e);
  after_is = after;
}

-- a line with a fault
pub line_faulty : (k : FileKind) (n b : ℕ) (s bs : List ℕ) (e : LineStop) → s ≡ b ∷ bs
    → n ≤ 2 ^ 40 → StopsBy e (command_of k (line_at s))
    → IfFault e (λ f. parsed_from k n (lines_of s) ≡ record { good = []; fault = Some (f, n) })
line_faulty k n b s bs (stop.Fault f) e few spells =
    read_next k n b s bs e
    ∙ ap (λ r. before_parsed n r (parsed_from k (n + 1) (lines_of (after_line s))))
    (cond-false _ _ _ (le-ltb (2 ^ 40) n few) ∙ spells)
line_faulty k n b s bs stop.Read e few spells = tt

-- a line past the last one that a file may have
pub line_late : (k : FileKind) (n b : ℕ) (s bs : List ℕ) → s ≡ b ∷ bs → 2 ^ 40 < n
    → parsed_from k n (lines_of s) ≡ record { good = []; fault = Some (TooLong, n) }
line_late k n b s bs e many =
    read_next k n b s bs e
    ∙ ap (λ r. before_parsed n r (parsed_from k (n + 1) (lines_of (after_line s))))
    (cond-true _ _ _ (lt-ltb (2 ^ 40) n many))

-- the commands so far, with one more
pub good_more : (whole old new : List Command) (c : Command) (n : ℕ) (r rest : Parsed)
    → whole ≡ old ++ r.good → r ≡ before_parsed n (Ok c) rest → new ≡ old ++ c ∷ []
    → whole ≡ new ++ rest.good
good_more whole old new c n r rest w e t =
    w ∙ ap (λ x. old ++ x.good) e ∙ sym (append_assoc old (c ∷ []) rest.good)
    ∙ ap (λ x. x ++ rest.good) (sym t)

-- Lengths of a line and of what follows it.

-- a newline stands between a line and what follows it, or nothing follows
abbrev pub Cut : List ℕ → List ℕ → List ℕ → Type 0
Cut s line after =
    (length s ≡ length line + 1 + length after) ⊎ ((length s ≡ length line) × (after ≡ []))

line_cut_of : (b : ℕ) (bs : List ℕ) (newline : Bool) → Cut bs (line_at bs) (after_line bs)
    → Cut (b ∷ bs) (cond newline [] (b ∷ line_at bs)) (cond newline bs (after_line bs))
line_cut_of b bs true h = inl (omega arith)
line_cut_of b bs false (inl e) = inl (omega (arith, e))
line_cut_of b bs false (inr e) = inr (omega (arith, e.0), e.1)

pub line_cut : (s : List ℕ) → Cut s (line_at s) (after_line s)
line_cut [] = inr (refl, refl)
line_cut (b ∷ bs) = line_cut_of b bs (b == 10) (line_cut bs)

-- what follows a line is no longer than the text
pub after_line_shorter : (s : List ℕ) → length (after_line s) ≤ length s
after_line_shorter s = ⊎_elim
    (λ (h : length s ≡ length (line_at s) + 1 + length (after_line s)). omega (arith, h))
    (λ (h : (length s ≡ length (line_at s)) × (after_line s ≡ [])). omega (arith, ap length h.1))
    (line_cut s)

-- How many lines the first bytes of a text end.

-- where bytes are left, each newline among those given ends a line
given_part : (g : ℕ) (s : List ℕ) → g < length s
    → lines_given g s ≡ count_by (λ byte. byte == 10) (take g s)
given_part g s h = cond-true _ _ _ (lt-ltb g (length s) h)

-- where all bytes were given, all lines have ended
given_all : (g : ℕ) (s : List ℕ) → length s ≤ g → lines_given g s ≡ length (lines_of s)
given_all g s h = cond-false _ _ _ (le-ltb g (length s) h)

given_empty : (g : ℕ) → lines_given g [] ≡ 0
given_empty g = given_all g [] (omega arith)

given_none : (s : List ℕ) → lines_given 0 s ≡ 0
given_none [] = given_empty 0
given_none (b ∷ bs) = given_part 0 (b ∷ bs) (omega arith)

count_step : (g b : ℕ) (bs : List ℕ) (newline : Bool) → (b == 10) ≡ newline
    → count_by (λ byte. byte == 10) (take (suc g) (b ∷ bs))
    ≡ cond newline 1 0 + count_by (λ byte. byte == 10) (take g bs)
count_step g b bs newline n =
    sum_by-cons (λ byte. cond (byte == 10) 1 0) b (take g bs)
    ∙ ap (λ t. cond t 1 0 + count_by (λ byte. byte == 10) (take g bs)) n

-- a first byte that is a newline ends a line
given_newline : (g b : ℕ) (bs : List ℕ) → (b == 10) ≡ true
    → lines_given (suc g) (b ∷ bs) ≡ 1 + lines_given g bs
given_newline g b bs n = elim (cases_lt g (length bs)) [
  | inl part ↦
      given_part (suc g) (b ∷ bs) (omega (arith, part)) ∙ count_step g b bs true n
      ∙ ap (λ x. 1 + x) (sym (given_part g bs part))
  | inr all ↦
      let l : lines_of (b ∷ bs) ≡ [] ∷ lines_of bs = cond-true _ _ _ n in
      omega (
        arith,
        given_all (suc g) (b ∷ bs) (omega (arith, all)),
        ap length l,
        given_all g bs all,
      )
]

-- another byte before a byte ends none
given_other : (g b c : ℕ) (cs : List ℕ) → (b == 10) ≡ false
    → lines_given (suc g) (b ∷ c ∷ cs) ≡ lines_given g (c ∷ cs)
given_other g b c cs n = elim (cases_lt g (length (c ∷ cs))) [
  | inl part ↦
      given_part (suc g) (b ∷ c ∷ cs) (omega (arith, part)) ∙ count_step g b (c ∷ cs) false n
      ∙ zero-add _ ∙ sym (given_part g (c ∷ cs) part)
  | inr all ↦
      let l : lines_of (b ∷ c ∷ cs) ≡ onto_first b (lines_of (c ∷ cs)) = cond-false _ _ _ n in
      let m : length (onto_first b (lines_of (c ∷ cs))) ≡ length (lines_of (c ∷ cs)) =
      ap (λ t. length (onto_first b t)) (lines_of-line_at c cs)
      ∙ sym (ap length (lines_of-line_at c cs)) in
      given_all (suc g) (b ∷ c ∷ cs) (omega (arith, all)) ∙ ap length l ∙ m
      ∙ sym (given_all g (c ∷ cs) all)
]

-- the last byte ends a line, newline or not
given_last : (g b : ℕ) → lines_given (suc g) (b ∷ []) ≡ 1
given_last g b =
    given_all (suc g) (b ∷ []) (omega arith) ∙ ap length (lines_of-line_at b [])
    ∙ ap (λ t. suc (length (lines_of t))) (after_last (b == 10))
  where
    after_last : (newline : Bool) → cond newline [] (after_line []) ≡ []
    after_last true = refl
    after_last false = refl

first_line : (b : ℕ) (bs : List ℕ) (e : ℕ) (newline : Bool) → (b == 10) ≡ newline
    → lines_given (length (b ∷ bs) - length (after_line (b ∷ bs)) + e) (b ∷ bs)
    ≡ 1 + lines_given e (after_line (b ∷ bs))
first_line b bs e true n =
    let a : after_line (b ∷ bs) ≡ bs = cond-true _ _ _ n in
    let g : length (b ∷ bs) - length (after_line (b ∷ bs)) + e ≡ suc e =
    omega (arith, ap length a) in
    ap (λ g. lines_given g (b ∷ bs)) g ∙ given_newline e b bs n
    ∙ ap (λ t. 1 + lines_given e t) (sym a)
first_line b [] e false n =
    let a : after_line (b ∷ []) ≡ [] = cond-false _ _ _ n in
    let g : length (b ∷ []) - length (after_line (b ∷ [])) + e ≡ suc e =
    omega (arith, ap length a) in
    ap (λ g. lines_given g (b ∷ [])) g ∙ given_last e b ∙ ap (λ x. 1 + x) (sym (given_empty e))
    ∙ ap (λ t. 1 + lines_given e t) (sym a)
first_line b (c ∷ cs) e false n =
    let a : after_line (b ∷ c ∷ cs) ≡ after_line (c ∷ cs) = cond-false _ _ _ n in
    let s = after_line_shorter (c ∷ cs) in
    let g : length (b ∷ c ∷ cs) - length (after_line (b ∷ c ∷ cs)) + e
    ≡ suc (length (c ∷ cs) - length (after_line (c ∷ cs)) + e) =
    omega (arith, ap length a, s) in
    ap (λ g. lines_given g (b ∷ c ∷ cs)) g
    ∙ given_other (length (c ∷ cs) - length (after_line (c ∷ cs)) + e) b c cs n
    ∙ first_line c cs e (c == 10) refl ∙ ap (λ t. 1 + lines_given e t) (sym a)

-- the bytes of a text's first line with its newline, and further bytes, end that line and those
-- that the further bytes end
pub within_more : (b : ℕ) (s bs : List ℕ) (e : ℕ) → s ≡ b ∷ bs
    → lines_given (length s - length (after_line s) + e) s ≡ 1 + lines_given e (after_line s)
within_more b s bs e is =
    subst (λ (t : List ℕ). lines_given (length t - length (after_line t) + e) t
    ≡ 1 + lines_given e (after_line t)) (sym is) (first_line b bs e (b == 10) refl)

grows_of : (b : ℕ) (bs : List ℕ) (g h : ℕ) (newline : Bool) → (b == 10) ≡ newline
    → lines_given g bs ≤ lines_given h bs
    → lines_given (suc g) (b ∷ bs) ≤ lines_given (suc h) (b ∷ bs)
grows_of b bs g h true n le = omega (arith, le, given_newline g b bs n, given_newline h b bs n)
grows_of b [] g h false n le = omega (arith, given_last g b, given_last h b)
grows_of b (c ∷ cs) g h false n le =
    omega (arith, le, given_other g b c cs n, given_other h b c cs n)

-- with more bytes given, no fewer lines have ended
pub within_grows : (s : List ℕ) (g h : ℕ) → g ≤ h → lines_given g s ≤ lines_given h s
within_grows [] g h le = omega (arith, given_empty g, given_empty h)
within_grows (b ∷ bs) zero h le = omega (arith, given_none (b ∷ bs))
within_grows (b ∷ bs) (suc g) zero le = absurd (omega (arith, le))
within_grows (b ∷ bs) (suc g) (suc h) le =
    grows_of b bs g h (b == 10) refl (within_grows bs g h (omega (arith, le)))

-- The lines read so far.

-- `count` commands were read of the text, and `rest` is left
pub record Counted (kind : FileKind) (text rest : List ℕ) (count : ℕ) : Type 0 where
  pub shorter : length rest ≤ length text
  pub good : length (good_commands kind text)
      ≡ count + length (parsed_from kind (count + 1) (lines_of rest)).good
  pub within : (e : ℕ)
      → lines_given (length text - length rest + e) text ≡ count + lines_given e rest

pub counted_none : (k : FileKind) (text : List ℕ) → Counted k text text 0
counted_none k text = record {
  shorter = omega arith;
  good = sym (zero-add (length (good_commands k text)));
  within = λ e.
      let n : length text - length text + e ≡ e = omega arith in
      ap (λ g. lines_given g text) n ∙ sym (zero-add (lines_given e text));
}

pub counted_more : (k : FileKind) (text before after : List ℕ) (count : ℕ) (c : Command)
    → Counted k text before count → LineTaken k (count + 1) before after c
    → Counted k text after (count + 1)
counted_more k text [] after count c h l = absurd (omega (arith, l.some))
counted_more k text (b ∷ bs) after count c h l =
    let s = after_line_shorter (b ∷ bs) in
    let a : length after ≡ length (after_line (b ∷ bs)) = ap length l.after_is in
    let g : length (parsed_from k (count + 1) (lines_of (b ∷ bs))).good
    ≡ suc (length (parsed_from k (count + 1 + 1) (lines_of after)).good) =
    ap (λ r. length r.good) l.from in
    record {
      shorter = omega (arith, h.shorter, s, a);
      good = omega (arith, h.good, g);
      within = λ e.
          let n : length text - length after + e
          ≡ length text - length (b ∷ bs)
          + (length (b ∷ bs) - length (after_line (b ∷ bs)) + e) =
          omega (arith, h.shorter, s, a) in
          let m = within_more b (b ∷ bs) bs e refl in
          ap (λ g. lines_given g text) n
          ∙ h.within (length (b ∷ bs) - length (after_line (b ∷ bs)) + e)
          ∙ ap (λ x. count + x) m ∙ sym (add_assoc count 1 _)
          ∙ ap (λ t. count + 1 + lines_given e t) (sym l.after_is);
    }

-- the size of the run is at least the number of commands read, where some bytes were read ahead
pub counted_size : (k : FileKind) (text ahead left : List ℕ) (count : ℕ)
    → Counted k text (ahead ++ left) count → count ≤ commands_taken k text left
counted_size k text ahead left count h =
    let n : length text - length left
    ≡ length text - length (ahead ++ left) + length ahead =
    omega (arith, h.shorter, length-append ahead left) in
    let e : lines_given (length text - length left) text
    ≡ count + lines_given (length ahead) (ahead ++ left) =
    ap (λ g. lines_given g text) n ∙ h.within (length ahead) in
    omega (arith, e, h.good)

-- the same where the run stopped further on in the text
pub counted_within : (k : FileKind) (text before ahead left : List ℕ) (count : ℕ)
    → Counted k text before count → length (ahead ++ left) ≤ length before
    → count ≤ commands_taken k text left
counted_within k text before ahead left count h le =
    let e : lines_given (length text - length before + 0) text
    ≡ count + lines_given 0 before = h.within 0 in
    let g = within_grows text (length text - length before + 0)
    (length text - length left) (omega (arith, h.shorter, length-append ahead left)) in
    omega (arith, e, g, h.good)

-- the same of a feed that stands further on in the text
pub counted_left : (k : FileKind) (text before : List ℕ) (feed : Fed) (stand : Stand) (slot : Slot)
    (count : ℕ) → Counted k text before count → feed.slot ≡ slot
    → length (rest feed stand) ≤ length before
    → count ≤ commands_taken k text (stand.slot slot).left
counted_left k text before feed stand slot count h same le =
    subst (λ (s : Slot). count ≤ commands_taken k text (stand.slot s).left) same
    (counted_within k text before feed.ahead (stand.slot feed.slot).left count h le)

-- the same after one reader more
pub counted_read : {tells : Bool} (k : FileKind) {text : List ℕ} {f g h : Fed} {a b c : Stand}
    {count : ℕ} → Reads tells f a g b → Reads tells g b h c → IsTrue tells
    → Counted k text (rest g b) count → count ≤ commands_taken k text (c.slot f.slot).left
counted_read k {text} {f} {g} {h} {a} {b} {c} {count} p q told counted =
    counted_left k text (rest g b) h c f.slot count counted (q.slot ∙ p.slot) (q.shorter told)

-- The syncs among the commands that were read are among those of the run,
pub syncs_read : (k : FileKind) (text left : List ℕ) (cs rest : List Command) → good_commands k text ≡ cs ++ rest
    → length cs ≤ commands_taken k text left → syncs_of cs ≤ syncs_taken k text left
syncs_read k text left cs rest good h =
    let front : take (length cs) (good_commands k text) ≡ cs =
    ap (take (length cs)) good ∙ take-append_seam cs rest in
    let more = syncs-take (length cs) (commands_taken k text left) (good_commands k text) h in
    omega (arith, more, ap syncs_of front)

-- and are no more than its commands.
pub syncs_taken_few : (k : FileKind) (text left : List ℕ) → syncs_taken k text left ≤ commands_taken k text left
syncs_taken_few k text left =
    let good = good_commands k text in
    let few = syncs_few (take (commands_taken k text left) good) in
    omega (arith, few, length-take (commands_taken k text left) good)

-- A dump's file spells what it spells as a map's.

dump_parts : (parts : List (List ℕ)) → command_of_parts Dump parts ≡ command_of_parts Map parts
dump_parts [] = refl
dump_parts (word ∷ parts) = refl

dump_line : (line : List ℕ) → command_of Dump line ≡ command_of Map line
dump_line [] = refl
dump_line (byte ∷ bytes) = dump_parts (parts_of (byte ∷ bytes))

dump_lines : (number : ℕ) (lines : List (List ℕ)) → parsed_from Dump number lines ≡ parsed_from Map number lines
dump_lines number [] = refl
dump_lines number (line ∷ lines) =
    rw (dump_line line, dump_lines (number + 1) lines) refl

-- The same commands come before the same fault, and what was taken of them is the same.
pub dump_reads_as_map : (text : List ℕ) → (good_commands Dump text ≡ good_commands Map text)
    × (first_fault Dump text ≡ first_fault Map text)
dump_reads_as_map text = (
  ap (λ (p : Parsed). p.good) (dump_lines 1 (lines_of text)),
  ap (λ (p : Parsed). p.fault) (dump_lines 1 (lines_of text)),
)

pub dump_taken : (text left : List ℕ) → commands_taken Dump text left ≡ commands_taken Map text left
dump_taken text left =
    ap (λ (cs : List Command). min (lines_given (length text - length left) text) (length cs))
    (dump_reads_as_map text).0

pub dump_syncs : (text left : List ℕ) → syncs_taken Dump text left ≡ syncs_taken Map text left
dump_syncs text left =
    ap (λ n. syncs_of (take n (good_commands Dump text))) (dump_taken text left)
    ∙ ap (λ cs. syncs_of (take (commands_taken Map text left) cs)) (dump_reads_as_map text).0
