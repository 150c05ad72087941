-- The numbers of a command that words spell are in range.
use Rattle.std.proofs.Common.{◌≡◌, ◌⊎◌, ℕ, ◌≤◌, Bool, true, false, cond, List, [], ◌∷◌, Option, Some, None, inl, inr, refl, subst, arith}
use Rattle.std.proofs.lemmas.Bool.{and_parts, leb-true}
use Rattle.std.specs.Str.{bytes_eq}
use Rattle.comp_graph.specs.declared.costs.Weights.{Weights}
use Rattle.comp_graph.specs.Games.{AreWeights, unit_weights}
use Rattle.command_words.specs.declared.commands.Command.{Command}
use Rattle.command_words.specs.declared.commands.Command.TheVariants.{Plan, Check, Run, Exec, Graph, Trial, Cover, CoverCheck, Parts, Judge, Tidy, Cache}
use Rattle.command_words.specs.Words.{number, weights_of, weights_by, slots_with, slots_command, plan_command, check_command, trial_command, cover_command, cache_command, parts_command, values_command, digits_after, default_budget, default_small_budget, Form, by_name, one_word_forms, two_word_forms, three_word_forms, four_word_forms, five_word_forms, six_word_forms, IsInLimits, WordsAreInLimits}

-- a choice that gives something passed its test
chosen : {A : Type 0} (test : Bool) (choice : Option A) (found : A) → cond test choice None ≡ Some found → (test ≡ true) × (choice ≡ Some found)
chosen true choice found e = (refl, e)
chosen false choice found e = absurd (cc)

-- a choice that gives something passed its test, or the other choice gave it
chosen_or : {A : Type 0} (test : Bool) (choice other : Option A) (found : A) → cond test choice other ≡ Some found → (choice ≡ Some found) ⊎ (other ≡ Some found)
chosen_or true choice other found e = inl e
chosen_or false choice other found e = inr e

-- a number lies between its limits
number_in_range : (low high : ℕ) (word : List ℕ) (n : ℕ) → number low high word ≡ Some n → (low ≤ n) × (n ≤ high)
number_in_range low high word n e =
    let both = chosen _ (Some (digits_after 0 word)) n e in
    let is : digits_after 0 word ≡ n = (let found = both.1 in cc) in
    let tests = and_parts _ _ both.0 in
    let front = and_parts _ _ tests.0 in
    subst (λ k. (low ≤ k) × (k ≤ high)) is (leb-true _ _ front.1, leb-true _ _ tests.1)

values_in_limits : (found asked : Command) (values : List ℕ) → IsInLimits found → values_command found values ≡ Some asked → IsInLimits asked
values_in_limits found asked [] limits e = absurd (cc)
values_in_limits found asked (c ∷ cs) limits e = let same : found ≡ asked = cc in subst IsInLimits same limits

-- weights of numbers from 1 to 16
abbrev weights_with : ℕ → ℕ → Weights
weights_with load store = record { load = load; store = store }

weights_in_range : (load store : Option ℕ) (w : Weights) → ((n : ℕ) → load ≡ Some n → (1 ≤ n) × (n ≤ 16)) → ((n : ℕ) → store ≡ Some n → (1 ≤ n) × (n ≤ 16))
    → weights_of load store ≡ Some w → AreWeights w
weights_in_range None store w loads stores e = absurd (cc)
weights_in_range (Some load) None w loads stores e = absurd (cc)
weights_in_range (Some load) (Some store) w loads stores e =
    let same : weights_with load store ≡ w = cc in
    let a = loads load refl in
    let b = stores store refl in
    let some_load = a.0 in
    let some_store = b.0 in
    subst AreWeights same (record { load_some = omega (arith, some_load); load_most = a.1; store_some = omega (arith, some_store); store_most = b.1 })

weights_by_words : (load store : List ℕ) (w : Weights) → weights_by load store ≡ Some w → AreWeights w
weights_by_words load store w e = weights_in_range (number 1 16 load) (number 1 16 store) w (number_in_range 1 16 load) (number_in_range 1 16 store) e

unit_in_range : (w : Weights) → Some unit_weights ≡ Some w → AreWeights w
unit_in_range w e =
    let same : unit_weights ≡ w = cc in
    subst AreWeights same (record { load_some = omega arith; load_most = omega arith; store_some = omega arith; store_most = omega arith })

plan_in_limits : (slots : Option ℕ) (table : List ℕ) (budget : Option ℕ) (weights : Option Weights) (asked : Command) → ((n : ℕ) → slots ≡ Some n → (1 ≤ n) × (n ≤ 64))
    → ((n : ℕ) → budget ≡ Some n → n ≤ 150000) → ((w : Weights) → weights ≡ Some w → AreWeights w) → plan_command slots table budget weights ≡ Some asked → IsInLimits asked
plan_in_limits None table budget weights asked few none are e = absurd (cc)
plan_in_limits (Some slots) [] budget weights asked few none are e = absurd (cc)
plan_in_limits (Some slots) (c ∷ cs) None weights asked few none are e = absurd (cc)
plan_in_limits (Some slots) (c ∷ cs) (Some budget) None asked few none are e = absurd (cc)
plan_in_limits (Some slots) (c ∷ cs) (Some budget) (Some weights) asked few none are e =
    let same : Plan (record { slots = slots; budget = budget; weights = weights }) ≡ asked = cc in
    let range = few slots refl in
    subst IsInLimits same (range.0, range.1, none budget refl, are weights refl)

check_in_limits : (slots : Option ℕ) (table : List ℕ) (weights : Option Weights) (asked : Command) → ((n : ℕ) → slots ≡ Some n → (1 ≤ n) × (n ≤ 64))
    → ((w : Weights) → weights ≡ Some w → AreWeights w) → check_command slots table weights ≡ Some asked → IsInLimits asked
check_in_limits None table weights asked few are e = absurd (cc)
check_in_limits (Some slots) [] weights asked few are e = absurd (cc)
check_in_limits (Some slots) (c ∷ cs) None asked few are e = absurd (cc)
check_in_limits (Some slots) (c ∷ cs) (Some weights) asked few are e =
    let same : Check (record { slots = slots; weights = weights }) ≡ asked = cc in
    let range = few slots refl in
    subst IsInLimits same (range.0, range.1, are weights refl)

trial_in_limits : (statements slots : Option ℕ) (table : List ℕ) (asked : Command) → ((n : ℕ) → statements ≡ Some n → (1 ≤ n) × (n ≤ 200)) → ((n : ℕ) → slots ≡ Some n → (1 ≤ n) × (n ≤ 64))
    → trial_command statements slots table ≡ Some asked → IsInLimits asked
trial_in_limits None slots table asked many few e = absurd (cc)
trial_in_limits (Some statements) None table asked many few e = absurd (cc)
trial_in_limits (Some statements) (Some slots) [] asked many few e = absurd (cc)
trial_in_limits (Some statements) (Some slots) (c ∷ cs) asked many few e =
    let same : Trial (record { statements = statements; slots = slots }) ≡ asked = cc in
    subst IsInLimits same (many statements refl, few slots refl)

cover_in_limits : (slots : Option ℕ) (file : List ℕ) (budget : Option ℕ) (asked : Command) → ((n : ℕ) → slots ≡ Some n → (1 ≤ n) × (n ≤ 64)) → ((n : ℕ) → budget ≡ Some n → n ≤ 8000)
    → cover_command slots file budget ≡ Some asked → IsInLimits asked
cover_in_limits None file budget asked few most e = absurd (cc)
cover_in_limits (Some slots) [] budget asked few most e = absurd (cc)
cover_in_limits (Some slots) (c ∷ cs) None asked few most e = absurd (cc)
cover_in_limits (Some slots) (c ∷ cs) (Some budget) asked few most e =
    let same : Cover (record { slots = slots; budget = budget }) ≡ asked = cc in
    let range = few slots refl in
    subst IsInLimits same (range.0, range.1, most budget refl)

cache_in_limits : (slots : Option ℕ) (table : List ℕ) (budget : Option ℕ) (asked : Command) → ((n : ℕ) → slots ≡ Some n → (1 ≤ n) × (n ≤ 64)) → ((n : ℕ) → budget ≡ Some n → n ≤ 150000)
    → cache_command slots table budget ≡ Some asked → IsInLimits asked
cache_in_limits None table budget asked few most e = absurd (cc)
cache_in_limits (Some slots) [] budget asked few most e = absurd (cc)
cache_in_limits (Some slots) (c ∷ cs) None asked few most e = absurd (cc)
cache_in_limits (Some slots) (c ∷ cs) (Some budget) asked few most e =
    let same : Cache (record { slots = slots; budget = budget }) ≡ asked = cc in
    let range = few slots refl in
    subst IsInLimits same (range.0, range.1, most budget refl)

parts_in_limits : (slots parts : Option ℕ) (file : List ℕ) (budget : Option ℕ) (asked : Command) → ((n : ℕ) → slots ≡ Some n → (1 ≤ n) × (n ≤ 64)) → ((n : ℕ) → parts ≡ Some n → (1 ≤ n) × (n ≤ 16))
    → ((n : ℕ) → budget ≡ Some n → n ≤ 8000) → parts_command slots parts file budget ≡ Some asked → IsInLimits asked
parts_in_limits None parts file budget asked few some most e = absurd (cc)
parts_in_limits (Some slots) None file budget asked few some most e = absurd (cc)
parts_in_limits (Some slots) (Some parts) [] budget asked few some most e = absurd (cc)
parts_in_limits (Some slots) (Some parts) (c ∷ cs) None asked few some most e = absurd (cc)
parts_in_limits (Some slots) (Some parts) (c ∷ cs) (Some budget) asked few some most e =
    let same : Parts (record { slots = slots; parts = parts; budget = budget }) ≡ asked = cc in
    let range = few slots refl in
    let count = some parts refl in
    subst IsInLimits same (range.0, range.1, count.0, count.1, most budget refl)

slots_in_limits : (make : ℕ → Command) (slots : Option ℕ) (file : List ℕ) (asked : Command) → ((n : ℕ) → slots ≡ Some n → IsInLimits (make n)) → slots_command make (slots_with slots file) ≡ Some asked
    → IsInLimits asked
slots_in_limits make None file asked few e = absurd (cc)
slots_in_limits make (Some slots) [] asked few e = absurd (cc)
slots_in_limits make (Some slots) (c ∷ cs) asked few e = let same : make slots ≡ asked = cc in subst IsInLimits same (few slots refl)

-- ---- forms

-- what a form asks for is in range
abbrev IsFormInLimits : Form → Type 0
IsFormInLimits form = (asked : Command) → form.1 ≡ Some asked → IsInLimits asked

abbrev AreFormsInLimits : List Form → Type 0
AreFormsInLimits [] = Unit {0}
AreFormsInLimits (form ∷ forms) = IsFormInLimits form × AreFormsInLimits forms

by_name_in_limits : (name : List ℕ) (forms : List Form) (asked : Command) → AreFormsInLimits forms → by_name name forms ≡ Some asked → IsInLimits asked
by_name_in_limits name [] asked ranges e = absurd (cc)
by_name_in_limits name (form ∷ forms) asked ranges e = elim (chosen_or (bytes_eq name form.0) form.1 (by_name name forms) asked e) [
  | inl this ↦ ranges.0 asked this
  | inr other ↦ by_name_in_limits name forms asked ranges.1 other
]

most_of : (low high : ℕ) (word : List ℕ) (n : ℕ) → number low high word ≡ Some n → n ≤ high
most_of low high word n is = (number_in_range low high word n is).1

named_most : (known high : ℕ) → known ≤ high → (n : ℕ) → Some known ≡ Some n → n ≤ high
named_most known high most n is = let same : known ≡ n = cc in omega (arith, same, most)

slots_of_word : (word : List ℕ) (n : ℕ) → number 1 64 word ≡ Some n → (1 ≤ n) × (n ≤ 64)
slots_of_word word = number_in_range 1 64 word

one_word_in_limits : AreFormsInLimits one_word_forms
one_word_in_limits = ((λ asked e. let same : Graph ≡ asked = cc in subst IsInLimits same tt), tt)

two_words_in_limits : (values : List ℕ) → AreFormsInLimits (two_word_forms values)
two_words_in_limits values = ((λ asked e. values_in_limits Run asked values tt e), ((λ asked e. values_in_limits Exec asked values tt e), tt))

three_words_in_limits : (word file : List ℕ) → AreFormsInLimits (three_word_forms (number 1 64 word) file)
three_words_in_limits word file =
    let slots = number 1 64 word in
    let few = slots_of_word word in (
      (λ asked e. plan_in_limits slots file (Some default_budget) (Some unit_weights) asked few (named_most default_budget 150000 (omega arith)) unit_in_range e),
      (
        (λ asked e. check_in_limits slots file (Some unit_weights) asked few unit_in_range e),
        (
          (λ asked e. cover_in_limits slots file (Some default_small_budget) asked few (named_most default_small_budget 8000 (omega arith)) e),
          (
            (λ asked e. slots_in_limits CoverCheck slots file asked few e),
            (
              (λ asked e. slots_in_limits Judge slots file asked few e),
              (
                (λ asked e. slots_in_limits Tidy slots file asked few e),
                ((λ asked e. cache_in_limits slots file (Some default_budget) asked few (named_most default_budget 150000 (omega arith)) e), tt),
              ),
            ),
          ),
        ),
      ),
    )

four_words_in_limits : (first second third : List ℕ) → AreFormsInLimits (four_word_forms first second third)
four_words_in_limits first second third = (
  (λ asked e. plan_in_limits (number 1 64 first) second (number 0 150000 third) (Some unit_weights) asked (slots_of_word first) (most_of 0 150000 third) unit_in_range e),
  (
    (λ asked e. trial_in_limits (number 1 200 first) (number 1 64 second) third asked (number_in_range 1 200 first) (slots_of_word second) e),
    (
      (λ asked e. cover_in_limits (number 1 64 first) second (number 0 8000 third) asked (slots_of_word first) (most_of 0 8000 third) e),
      (
        (λ asked e. parts_in_limits (number 1 64 first) (number 1 16 second) third (Some default_small_budget) asked (slots_of_word first) (number_in_range 1 16 second)
            (named_most default_small_budget 8000 (omega arith)) e),
        ((λ asked e. cache_in_limits (number 1 64 first) second (number 0 150000 third) asked (slots_of_word first) (most_of 0 150000 third) e), tt),
      ),
    ),
  ),
)

five_words_in_limits : (first second third fourth : List ℕ) → AreFormsInLimits (five_word_forms first second third fourth)
five_words_in_limits first second third fourth = (
  (λ asked e. check_in_limits (number 1 64 first) second (weights_by third fourth) asked (slots_of_word first) (weights_by_words third fourth) e),
  ((λ asked e. parts_in_limits (number 1 64 first) (number 1 16 second) third (number 0 8000 fourth) asked (slots_of_word first) (number_in_range 1 16 second) (most_of 0 8000 fourth) e), tt),
)

six_words_in_limits : (slots table budget load store : List ℕ) → AreFormsInLimits (six_word_forms slots table budget load store)
six_words_in_limits slots table budget load store =
    ((λ asked e. plan_in_limits (number 1 64 slots) table (number 0 150000 budget) (weights_by load store) asked (slots_of_word slots) (most_of 0 150000 budget) (weights_by_words load store) e), tt)

pub words_are_in_limits : WordsAreInLimits
words_are_in_limits [] asked e = absurd (cc)
words_are_in_limits (name ∷ []) asked e = by_name_in_limits name one_word_forms asked one_word_in_limits e
words_are_in_limits (name ∷ values ∷ []) asked e = by_name_in_limits name (two_word_forms values) asked (two_words_in_limits values) e
words_are_in_limits (name ∷ slots ∷ file ∷ []) asked e = by_name_in_limits name (three_word_forms (number 1 64 slots) file) asked (three_words_in_limits slots file) e
words_are_in_limits (name ∷ first ∷ second ∷ third ∷ []) asked e = by_name_in_limits name (four_word_forms first second third) asked (four_words_in_limits first second third) e
words_are_in_limits (name ∷ first ∷ second ∷ third ∷ fourth ∷ []) asked e =
    by_name_in_limits name (five_word_forms first second third fourth) asked (five_words_in_limits first second third fourth) e
words_are_in_limits (name ∷ slots ∷ table ∷ budget ∷ load ∷ store ∷ []) asked e =
    by_name_in_limits name (six_word_forms slots table budget load store) asked (six_words_in_limits slots table budget load store) e
words_are_in_limits (name ∷ slots ∷ table ∷ budget ∷ load ∷ store ∷ other ∷ more) asked e = absurd (cc)
