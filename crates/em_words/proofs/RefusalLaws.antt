-- What options say that stand as strings among the words, and their first refusal, of which the
-- first words were tested.
use Rattle.std.proofs.Common.{◌≡◌, ℕ, ◌+◌, ◌<◌, ◌≤◌, List, [], ◌∷◌, ◌++◌, Option, Some, None, String, codes, drop, get_or, length, string_bytes, take, suc, sym, ap, ◌∙◌, add-one, arith}
use Rattle.std.specs.Prelude.{option_and_then, position, unwrap_or}
use Rattle.std.specs.Global.{Global}
use Rattle.std.proofs.Math.Seq.{drop-cons, take-suc}
use Rattle.std.proofs.lemmas.List.{drop_all, get_or-map, get_or_past, length-map, length-take-le, take-map}
use Rattle.std.proofs.lemmas.List.Quantifiers.{position-Some}
use Rattle.em_ends.specs.declared.status.UsageKind.{UsageKind}
use Rattle.em_settle.specs.declared.combine.Combine.TheVariants.{Sum}
use Rattle.em_words.specs.declared.job.Verb.{Verb}
use Rattle.em_words.specs.Job.{texts_of}
use Rattle.em_words.specs.Options.{combine_of, combine_with, has_name, number_in, number_or, option_fault, options_refusal, refused_or, word_of}
use Rattle.em_words.proofs.OptionLemmas.{position_map}

-- the bytes of the word at a place
pub text_at : (options : List (String Global)) (i : ℕ) (word : String Global) → i < length options
    → word ≡ get_or options i word → get_or (texts_of options) i [] ≡ string_bytes word
text_at options i word h w = get_or-map string_bytes options i word [] h ∙ ap string_bytes (sym w)

-- a word past the last one has no bytes
pub name_past : (words : List (String Global)) (number : ℕ) → length words ≤ number
    → [] ≡ get_or (texts_of words) number []
name_past words number h =
    let n = length-map words string_bytes in
    sym (get_or_past (texts_of words) number [] (omega (arith, h, n)))

-- the number of an option that was found
pub number_found : (name : List ℕ) (options : List (String Global)) (i : ℕ) (word : String Global)
    (default : ℕ) → position (λ w. has_name name (string_bytes w)) options ≡ Some i
    → word ≡ get_or options i word
    → number_or name (texts_of options) default ≡ unwrap_or (number_in (string_bytes word)) default
number_found name options i word default h w =
    let texts = texts_of options in
    ap (λ place. unwrap_or (option_and_then (λ p. number_in (get_or texts p [])) place) default)
    (position_map (has_name name) string_bytes options ∙ h)
    ∙ ap (λ bytes. unwrap_or (number_in bytes) default)
    (text_at options i word (position-Some _ options i word h).0 w)

-- the combiner of an option that was found
pub combine_found : (options : List (String Global)) (i : ℕ) (word : String Global)
    → position (λ w. has_name (codes "--combine") (string_bytes w)) options ≡ Some i
    → word ≡ get_or options i word
    → combine_with (texts_of options) ≡ unwrap_or (combine_of (string_bytes word)) Sum
combine_found options i word h w =
    let texts = texts_of options in
    ap (λ place. unwrap_or (option_and_then (λ p. combine_of (get_or texts p [])) place) Sum)
    (position_map (has_name (codes "--combine")) string_bytes options ∙ h)
    ∙ ap (λ bytes. unwrap_or (combine_of bytes) Sum)
    (text_at options i word (position-Some _ options i word h).0 w)

-- the combiner where no option says one
pub combine_missing : (options : List (String Global))
    → position (λ w. has_name (codes "--combine") (string_bytes w)) options ≡ None
    → combine_with (texts_of options) ≡ Sum
combine_missing options h =
    let texts = texts_of options in
    ap (λ place. unwrap_or (option_and_then (λ p. combine_of (get_or texts p [])) place) Sum)
    (position_map (has_name (codes "--combine")) string_bytes options ∙ h)

-- the word of an option that was not found
pub word_missing : (name : List ℕ) (options : List (String Global))
    → position (λ w. has_name name (string_bytes w)) options ≡ None
    → word_of name (texts_of options) ≡ length options + 1
word_missing name options h =
    ap (λ place. unwrap_or place (length (texts_of options)) + 1)
    (position_map (has_name name) string_bytes options ∙ h)
    ∙ ap (λ n. n + 1) (length-map options string_bytes)

-- one word more
refusal_step : (verb : Verb) (words : List (List ℕ)) (i : ℕ) → i < length words
    → options_refusal verb (take i words) (drop i words)
    ≡ refused_or (option_fault verb (take i words) (get_or words i [])) (i + 1)
    (options_refusal verb (take (i + 1) words) (drop (i + 1) words))
refusal_step verb words i h =
    let word = get_or words i [] in
    let fault = option_fault verb (take i words) word in
    ap (λ rest. options_refusal verb (take i words) rest) (drop-cons words i [] h)
    ∙ ap (λ n. refused_or fault (n + 1)
    (options_refusal verb (take i words ++ word ∷ []) (drop (suc i) words)))
    (length-take-le i words (omega arith))
    ∙ ap (λ front. refused_or fault (i + 1) (options_refusal verb front (drop (suc i) words)))
    (sym (take-suc words i [] h))
    ∙ ap (λ k. refused_or fault (i + 1) (options_refusal verb (take k words) (drop k words)))
    (sym (add-one i))

-- one word more, of which the fault is known
module _ (verb : Verb) (options : List (String Global)) (i : ℕ) (word : String Global)
    (bytes : List ℕ)
    (h : i < length options) (w : word ≡ get_or options i word)
    (b : bytes ≡ string_bytes word) where
  step : (fault : Option UsageKind) → option_fault verb (texts_of (take i options)) bytes ≡ fault
      → options_refusal verb (take i (texts_of options)) (drop i (texts_of options))
      ≡ refused_or fault (i + 1)
      (options_refusal verb (take (i + 1) (texts_of options)) (drop (i + 1) (texts_of options)))
  step fault e =
      let texts = texts_of options in
      let behind = options_refusal verb (take (i + 1) texts) (drop (i + 1) texts) in
      let front : take i texts ≡ texts_of (take i options) = take-map string_bytes i options in
      let same : get_or texts i [] ≡ bytes = text_at options i word h w ∙ sym b in
      let long : i < length texts = omega (arith, length-map options string_bytes) in
      refusal_step verb texts i long
      ∙ ap (λ f. refused_or (option_fault verb f (get_or texts i [])) (i + 1) behind) front
      ∙ ap (λ x. refused_or (option_fault verb (texts_of (take i options)) x) (i + 1) behind) same
      ∙ ap (λ f. refused_or f (i + 1) behind) e

  pub word_refused : (kind : UsageKind)
      → option_fault verb (texts_of (take i options)) bytes ≡ Some kind
      → options_refusal verb (take i (texts_of options)) (drop i (texts_of options))
      ≡ Some (record { kind = kind; word = i + 1 })
  word_refused kind e = step (Some kind) e

  pub word_passed : option_fault verb (texts_of (take i options)) bytes ≡ None
      → options_refusal verb (take i (texts_of options)) (drop i (texts_of options))
      ≡ options_refusal verb (take (i + 1) (texts_of options)) (drop (i + 1) (texts_of options))
  word_passed e = step None e

-- after the last word nothing is refused
pub all_passed : (verb : Verb) (options : List (String Global)) (i : ℕ) → length options ≤ i
    → options_refusal verb (take i (texts_of options)) (drop i (texts_of options)) ≡ None
all_passed verb options i h =
    let texts = texts_of options in
    let short : length texts ≤ i = omega (arith, length-map options string_bytes) in
    ap (λ rest. options_refusal verb (take i texts) rest) (drop_all i texts short)
