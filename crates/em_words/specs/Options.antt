-- The option words of a command: docs/FORMATS.md, "Words". A word is the list of its bytes, and its
-- number is its place among all words, from 0.
use Rattle.std.specs.Prelude.{ℕ, ◌+◌, ◌==◌, ◌||◌, Bool, not, List, [], ◌∷◌, ◌++◌, if◌then◌else◌, codes, bytes_eq, get_or, is_some, length, nat_eq, option_and_then, position, unwrap_or, Option, Some, None}
use Rattle.std.specs.List.{after_first, before_first, list_any, starts_with}
use Rattle.std.specs.Result.{result_ok}
use Rattle.em_ends.specs.declared.status.Usage.{Usage}
use Rattle.em_ends.specs.declared.status.UsageKind.{UsageKind}
use Rattle.em_ends.specs.declared.status.UsageKind.TheVariants.{UnknownOption, RepeatedOption, BadValue}
use Rattle.em_lines.specs.CommandLine.{number_of}
use Rattle.em_lines.specs.declared.text.FileKind.TheVariants.{Map, Dump}
use Rattle.em_settle.specs.declared.combine.Combine.{Combine}
use Rattle.em_settle.specs.declared.combine.Combine.TheVariants.{Sum, Max, Min, Xor}
use Rattle.em_words.specs.declared.job.Task.TheVariants.{Answer, Eval}
use Rattle.em_words.specs.declared.job.Verb.{Verb}
use Rattle.em_words.specs.declared.job.Verb.TheVariants.{Over}

-- the word begins as an option does
abbrev pub is_option : List ℕ → Bool
is_option word = starts_with nat_eq word (codes "--")

-- the option words among the words after a command: those up to the first that is none
abbrev pub option_words : List (List ℕ) → List (List ℕ)
option_words words = before_first (λ word. not (is_option word)) words

-- an option's name: its word up to the first `=`, or the whole word
abbrev pub name_of : List ℕ → List ℕ
name_of word = before_first (λ byte. byte == 61) word

-- the number that a word spells: 1 to 20 decimal digits, and a value of 64 bits
abbrev pub number_of_word : List ℕ → Option ℕ
number_of_word word = result_ok (number_of word)

-- an option's number: what stands after the first `=`, where that is a number
abbrev pub number_in : List ℕ → Option ℕ
number_in word = number_of_word (after_first (λ byte. byte == 61) word)

-- the word is of the option of this name
abbrev pub has_name : List ℕ → List ℕ → Bool
has_name name word = bytes_eq (name_of word) name

-- the names of the options that each command has
abbrev pub option_names : List (List ℕ)
option_names =
    codes "--block" ∷ codes "--frames" ∷ codes "--blocks" ∷ codes "--stats" ∷ []

-- the names of those that a command has besides: one that answers or dumps a map file, or evaluates a circuit of its files
abbrev pub own_names : Verb → List (List ℕ)
own_names (Over (Answer Map combine early)) = codes "--combine" ∷ codes "--early" ∷ []
own_names (Over (Answer Dump combine early)) = codes "--combine" ∷ []
own_names (Over (Eval uninit wide)) = codes "--uninit" ∷ codes "--wide" ∷ []
own_names other = []

-- the name is one of an option of this command
abbrev pub knows : Verb → List ℕ → Bool
knows verb name =
    list_any (bytes_eq name) (own_names verb) || list_any (bytes_eq name) option_names

-- the names of the options without a value
abbrev pub flag_names : List (List ℕ)
flag_names = codes "--stats" ∷ codes "--wide" ∷ codes "--early" ∷ []

-- the place, from 0, of the option of this name among these option words, if it stands there
abbrev pub place_of : List ℕ → List (List ℕ) → Option ℕ
place_of name options = position (has_name name) options

-- the option of this name stands among these option words
abbrev pub has_option : List ℕ → List (List ℕ) → Bool
has_option name options = is_some (place_of name options)

-- the combiner that a word names
abbrev pub combine_of : List ℕ → Option Combine
combine_of word =
    if bytes_eq word (codes "--combine=sum") then Some Sum
    else (if bytes_eq word (codes "--combine=max") then Some Max
    else (if bytes_eq word (codes "--combine=min") then Some Min
    else (if bytes_eq word (codes "--combine=xor") then Some Xor else None)))

-- the word of an option has the value that it wants: `--stats`, `--wide` and `--early` none, `--uninit` a bit, `--combine`
-- the name of a combiner, and every other a number
abbrev pub has_value : List ℕ → Bool
has_value word =
    if list_any (bytes_eq (name_of word)) flag_names then bytes_eq word (name_of word)
    else (if has_name (codes "--uninit") word
    then bytes_eq word (codes "--uninit=0") || bytes_eq word (codes "--uninit=1")
    else (if has_name (codes "--combine") word then is_some (combine_of word)
    else is_some (number_in word)))

-- what is wrong with an option word after these earlier ones
abbrev pub option_fault : Verb → List (List ℕ) → List ℕ → Option UsageKind
option_fault verb earlier word =
    if not (knows verb (name_of word)) then Some UnknownOption
    else (if has_option (name_of word) earlier then Some RepeatedOption
    else (if not (has_value word) then Some BadValue else None))

-- the fault at a word, or else what is refused after it
abbrev pub refused_or : Option UsageKind → ℕ → Option Usage → Option Usage
refused_or None number behind = behind
refused_or (Some kind) number behind = Some (record { kind = kind; word = number })

-- the first refusal among option words that stand after these earlier ones
abbrev pub options_refusal : Verb → List (List ℕ) → List (List ℕ) → Option Usage
options_refusal verb earlier [] = None
options_refusal verb earlier (word ∷ words) =
    refused_or (option_fault verb earlier word) (length earlier + 1)
    (options_refusal verb (earlier ++ word ∷ []) words)

-- the number that the option of this name gives, or the default
abbrev pub number_or : List ℕ → List (List ℕ) → ℕ → ℕ
number_or name options default =
    unwrap_or (option_and_then (λ place. number_in (get_or options place []))
    (place_of name options)) default

-- the combiner that the options say, or else the sum
abbrev pub combine_with : List (List ℕ) → Combine
combine_with options = unwrap_or (option_and_then (λ place. combine_of (get_or options place []))
    (place_of (codes "--combine") options)) Sum

-- the number of the word of the option of this name, which stands after the command
abbrev pub word_of : List ℕ → List (List ℕ) → ℕ
word_of name options = unwrap_or (place_of name options) (length options) + 1
