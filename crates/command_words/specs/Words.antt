-- What the words of a command line spell.
use Rattle.std.specs.Prelude.{ℕ, ◌≡◌, ◌≤◌, ◌+◌, ◌-◌, ◌*◌, ◌==◌, ◌&&◌, ◌||◌, not, nat_le, Bool, false, List, [], ◌∷◌, length, map, slice_index, slice_index_or, codes, None, Some, if◌then◌else◌, String, string_bytes}
use Rattle.std.specs.declared.alloc.Global.{Global}
use Rattle.std.specs.declared.option.Option.{Option}
use Rattle.std.specs.Char.{is_ascii_digit}
use Rattle.std.specs.List.{list_all}
use Rattle.std.specs.Str.{bytes_eq}
use Rattle.comp_graph.specs.declared.costs.Weights.{Weights}
use Rattle.comp_graph.specs.Games.{AreWeights, unit_weights}
use Rattle.command_words.specs.declared.commands.Command.{Command}
use Rattle.command_words.specs.declared.commands.Command.TheVariants.{Plan, Check, Run, Exec, Graph, Trial, Cover, CoverCheck, Parts, Judge, Tidy, Cache}

-- the number that digits spell, after the digits so far
abbrev pub digits_after : ℕ → List ℕ → ℕ
digits_after n [] = n
digits_after n (c ∷ cs) = digits_after (10 * n + (c - 48)) cs

-- decimal digits alone
abbrev pub are_digits : List ℕ → Bool
are_digits word = list_all is_ascii_digit word

-- digits with no zero in front, but for the word 0
abbrev pub is_plain : List ℕ → Bool
is_plain word = not (length word == 0) && are_digits word && ((length word == 1) || not (slice_index word 0 == 48))

-- the number from low to high that a word spells in plain decimal
abbrev pub number : ℕ → ℕ → List ℕ → Option ℕ
number low high word =
    if is_plain word && nat_le low (digits_after 0 word) && nat_le (digits_after 0 word) high then Some (digits_after 0 word) else None

-- the weights, where there are a load's and a store's
abbrev pub weights_of : Option ℕ → Option ℕ → Option Weights
weights_of (Some load) (Some store) = Some (record { load = load; store = store })
weights_of _ _ = None

-- the weights that two words spell: of a load and then of a store, from 1 to 16
abbrev pub weights_by : List ℕ → List ℕ → Option Weights
weights_by load store = weights_of (number 1 16 load) (number 1 16 store)

-- the plan, where there are slots, a budget, weights, and a table's name that is not empty
abbrev pub plan_command : Option ℕ → List ℕ → Option ℕ → Option Weights → Option Command
plan_command (Some slots) (c ∷ table) (Some budget) (Some weights) = Some (Plan (record { slots = slots; budget = budget; weights = weights }))
plan_command _ _ _ _ = None

-- the check, where there are slots, weights, and a table's name that is not empty
abbrev pub check_command : Option ℕ → List ℕ → Option Weights → Option Command
check_command (Some slots) (c ∷ table) (Some weights) = Some (Check (record { slots = slots; weights = weights }))
check_command _ _ _ = None

-- a command on values, where the name of their file is not empty
abbrev pub values_command : Command → List ℕ → Option Command
values_command asked [] = None
values_command asked (c ∷ values) = Some asked

-- the budget of a plan that names none
abbrev pub default_budget : ℕ
default_budget = 20000

-- the trial, where there are statements, slots, and a table's name that is not empty
abbrev pub trial_command : Option ℕ → Option ℕ → List ℕ → Option Command
trial_command (Some statements) (Some slots) (c ∷ table) = Some (Trial (record { statements = statements; slots = slots }))
trial_command _ _ _ = None

-- the cover, where there are slots, a budget, and a file's name that is not empty
abbrev pub cover_command : Option ℕ → List ℕ → Option ℕ → Option Command
cover_command (Some slots) (c ∷ file) (Some budget) = Some (Cover (record { slots = slots; budget = budget }))
cover_command _ _ _ = None

-- the cache, where there are slots, a budget, and a table's name that is not empty
abbrev pub cache_command : Option ℕ → List ℕ → Option ℕ → Option Command
cache_command (Some slots) (c ∷ table) (Some budget) = Some (Cache (record { slots = slots; budget = budget }))
cache_command _ _ _ = None

-- the parts, where there are slots, a number of parts, a budget, and a file's name that is not empty
abbrev pub parts_command : Option ℕ → Option ℕ → List ℕ → Option ℕ → Option Command
parts_command (Some slots) (Some parts) (c ∷ file) (Some budget) = Some (Parts (record { slots = slots; parts = parts; budget = budget }))
parts_command _ _ _ _ = None

-- the slots, where the file's name is not empty
abbrev pub slots_with : Option ℕ → List ℕ → Option ℕ
slots_with (Some slots) (c ∷ file) = Some slots
slots_with _ _ = None

-- a command with these slots, where there are slots
abbrev pub slots_command : (ℕ → Command) → Option ℕ → Option Command
slots_command asked (Some slots) = Some (asked slots)
slots_command asked None = None

-- the budget of `cover` and `parts` that name none
abbrev pub default_small_budget : ℕ
default_small_budget = 2000

-- one form of a command: its name, and what the words behind the name ask for
abbrev pub Form : Type 0
Form = List ℕ × Option Command

-- what the words behind a name ask for, by the first form with this name
abbrev pub by_name : List ℕ → List Form → Option Command
by_name name [] = None
by_name name (form ∷ forms) = if bytes_eq name form.0 then form.1 else by_name name forms

-- the forms of one word, `graph`
abbrev pub one_word_forms : List Form
one_word_forms = (codes "graph", Some Graph) ∷ []

-- the forms of two words, `run VALUES` and `exec VALUES`
abbrev pub two_word_forms : List ℕ → List Form
two_word_forms values = (codes "run", values_command Run values) ∷ (codes "exec", values_command Exec values) ∷ []

-- the forms of three words, with S from 1 to 64: `plan S TABLE`, `check S TABLE`, `cover S FILE`, `covercheck S FILE`, `judge S PLAY`, `tidy S
-- PLAY` and `cache S TABLE`
abbrev pub three_word_forms : Option ℕ → List ℕ → List Form
three_word_forms slots file =
    (codes "plan", plan_command slots file (Some default_budget) (Some unit_weights))
    ∷ (codes "check", check_command slots file (Some unit_weights))
    ∷ (codes "cover", cover_command slots file (Some default_small_budget))
    ∷ (codes "covercheck", slots_command CoverCheck (slots_with slots file))
    ∷ (codes "judge", slots_command Judge (slots_with slots file))
    ∷ (codes "tidy", slots_command Tidy (slots_with slots file))
    ∷ (codes "cache", cache_command slots file (Some default_budget)) ∷ []

-- the forms of four words: `plan S TABLE BUDGET` and `cache S TABLE BUDGET` with a budget from 0 to 150,000, `cover S FILE BUDGET` with one from
-- 0 to 8,000, `trial N S TABLE` with 1 to 200 statements, and `parts S K FILE` with 1 to 16 parts
abbrev pub four_word_forms : List ℕ → List ℕ → List ℕ → List Form
four_word_forms first second third =
    (codes "plan", plan_command (number 1 64 first) second (number 0 150000 third) (Some unit_weights))
    ∷ (codes "trial", trial_command (number 1 200 first) (number 1 64 second) third)
    ∷ (codes "cover", cover_command (number 1 64 first) second (number 0 8000 third))
    ∷ (codes "parts", parts_command (number 1 64 first) (number 1 16 second) third (Some default_small_budget))
    ∷ (codes "cache", cache_command (number 1 64 first) second (number 0 150000 third)) ∷ []

-- the forms of five words: `check S TABLE A B` with weights from 1 to 16, and `parts S K FILE BUDGET` with a budget from 0 to 8,000
abbrev pub five_word_forms : List ℕ → List ℕ → List ℕ → List ℕ → List Form
five_word_forms first second third fourth =
    (codes "check", check_command (number 1 64 first) second (weights_by third fourth))
    ∷ (codes "parts", parts_command (number 1 64 first) (number 1 16 second) third (number 0 8000 fourth)) ∷ []

-- the form of six words, `plan S TABLE BUDGET A B`
abbrev pub six_word_forms : List ℕ → List ℕ → List ℕ → List ℕ → List ℕ → List Form
six_word_forms slots table budget load store =
    (codes "plan", plan_command (number 1 64 slots) table (number 0 150000 budget) (weights_by load store)) ∷ []

-- the command that the words spell, by the forms of as many words (this project's convention); weights that are not named are 1 and 1;
-- `file_word` gives the name of the file, which is any word that is not empty
abbrev pub command : List (List ℕ) → Option Command
command (name ∷ []) = by_name name one_word_forms
command (name ∷ values ∷ []) = by_name name (two_word_forms values)
command (name ∷ slots ∷ file ∷ []) = by_name name (three_word_forms (number 1 64 slots) file)
command (name ∷ first ∷ second ∷ third ∷ []) = by_name name (four_word_forms first second third)
command (name ∷ first ∷ second ∷ third ∷ fourth ∷ []) = by_name name (five_word_forms first second third fourth)
command (name ∷ slots ∷ table ∷ budget ∷ load ∷ store ∷ []) = by_name name (six_word_forms slots table budget load store)
command _ = None

-- the command that the program's words spell
abbrev pub asked_by : List (String Global) → Option Command
asked_by words = command (map string_bytes words)

-- the word at a place, or the empty text
abbrev pub word_at : ℕ → List (List ℕ) → List ℕ
word_at place words = slice_index_or words place []

-- the word is one of these
abbrev pub is_among : List ℕ → List (List ℕ) → Bool
is_among word [] = false
is_among word (known ∷ rest) = bytes_eq word known || is_among word rest

-- the word that names the file, or the empty text (this project's convention): the second after `run` and `exec`, the fourth after `trial` and
-- `parts`, and the third after the others that have a file
abbrev pub file_word : List (List ℕ) → List ℕ
file_word [] = []
file_word (name ∷ rest) =
    if is_among name (codes "run" ∷ codes "exec" ∷ []) then word_at 0 rest
    else (if is_among name (codes "plan" ∷ codes "check" ∷ codes "cover" ∷ codes "covercheck" ∷ codes "judge" ∷ codes "tidy" ∷ codes "cache" ∷ []) then word_at 1 rest
    else (if is_among name (codes "trial" ∷ codes "parts" ∷ []) then word_at 2 rest else []))

-- the name of the file by the program's words
abbrev pub file_named_by : List (String Global) → List ℕ
file_named_by words = file_word (map string_bytes words)

-- the numbers of a command are in range
abbrev pub IsInLimits : Command → Type 0
IsInLimits (Plan asked) = (1 ≤ asked.slots) × (asked.slots ≤ 64) × (asked.budget ≤ 150000) × AreWeights asked.weights
IsInLimits (Check asked) = (1 ≤ asked.slots) × (asked.slots ≤ 64) × AreWeights asked.weights
IsInLimits Run = Unit {0}
IsInLimits Exec = Unit {0}
IsInLimits Graph = Unit {0}
IsInLimits (Trial asked) = ((1 ≤ asked.statements) × (asked.statements ≤ 200)) × ((1 ≤ asked.slots) × (asked.slots ≤ 64))
IsInLimits (Cover asked) = (1 ≤ asked.slots) × (asked.slots ≤ 64) × (asked.budget ≤ 8000)
IsInLimits (CoverCheck slots) = (1 ≤ slots) × (slots ≤ 64)
IsInLimits (Parts asked) = (1 ≤ asked.slots) × (asked.slots ≤ 64) × (1 ≤ asked.parts) × (asked.parts ≤ 16) × (asked.budget ≤ 8000)
IsInLimits (Judge slots) = (1 ≤ slots) × (slots ≤ 64)
IsInLimits (Tidy slots) = (1 ≤ slots) × (slots ≤ 64)
IsInLimits (Cache asked) = (1 ≤ asked.slots) × (asked.slots ≤ 64) × (asked.budget ≤ 150000)

-- the numbers of a command that words spell are in range
abbrev pub WordsAreInLimits : Type 0
WordsAreInLimits = (words : List (List ℕ)) (asked : Command) → command words ≡ Some asked → IsInLimits asked
