-- The numbers of a command that words spell are in range.
use Rattle.std.proofs.Common.{◌≡◌, ◌⊎◌, ℕ, ◌≤◌, Bool, true, false, cond, List, [], ◌∷◌, Option, Some, None, inl, inr, refl, subst, arith}
use Rattle.std.proofs.lemmas.Bool.{and_parts, leb-true}
use Rattle.comp_graph.specs.declared.costs.Weights.{Weights}
use Rattle.comp_graph.specs.Games.{AreWeights, unit_weights}
use Rattle.command_words.specs.Words.{number, weights_of, weights_by, slots_with, digits_after}
use Rattle.improve_answers.specs.declared.commands.ImproveCommand.{ImproveCommand}
use Rattle.improve_answers.specs.declared.commands.ImproveCommand.TheVariants.{Improve, Confirm}
use Rattle.improve_answers.specs.ImproveWords.{IsInLimits, WordsAreInLimits, confirm_command, default_effort, effort_by, improve_command, names_confirm, names_improve}

-- a choice that gives something passed its test
chosen : {A : Type 0} (test : Bool) (choice : Option A) (found : A) → cond test choice None ≡ Some found → (test ≡ true) × (choice ≡ Some found)
chosen true choice found e = (refl, e)
chosen false choice found e = absurd (cc)

-- or the other choice gave it
chosen_or : {A : Type 0} (test : Bool) (choice other : Option A) (found : A) → cond test choice other ≡ Some found → (choice ≡ Some found) ⊎ (other ≡ Some found)
chosen_or true choice other found e = inl e
chosen_or false choice other found e = inr e

-- a number lies between its limits
number_in_range : (low high : ℕ) (word : List ℕ) (n : ℕ) → number low high word ≡ Some n → (low ≤ n) × (n ≤ high)
number_in_range low high word n e =
    let both = chosen _ (Some (digits_after 0 word)) n e in
    let is : digits_after 0 word ≡ n = (let found = both.1 in cc) in
    let tests = and_parts _ _ both.0 in
    let front = and_parts _ _ tests.0 in
    subst (λ k. (low ≤ k) × (k ≤ high)) is (leb-true _ _ front.1, leb-true _ _ tests.1)

slots_in_range : (slots : Option ℕ) (file : List ℕ) (n : ℕ) → ((m : ℕ) → slots ≡ Some m → (1 ≤ m) × (m ≤ 64)) → slots_with slots file ≡ Some n → (1 ≤ n) × (n ≤ 64)
slots_in_range None file n range e = absurd (cc)
slots_in_range (Some slots) [] n range e = absurd (cc)
slots_in_range (Some slots) (c ∷ cs) n range e = range n e

effort_in_range : (word : List ℕ) (n : ℕ) → effort_by word ≡ Some n → n ≤ 200
effort_in_range word n e = (number_in_range 0 200 word n e).1

default_in_range : (n : ℕ) → Some default_effort ≡ Some n → n ≤ 200
default_in_range n e = let same : default_effort ≡ n = cc in omega (arith, same)

-- ---- weights

abbrev weights_with : ℕ → ℕ → Weights
weights_with load store = record { load = load; store = store }

weights_in_range : (load store : Option ℕ) (w : Weights) → ((n : ℕ) → load ≡ Some n → (1 ≤ n) × (n ≤ 16)) → ((n : ℕ) → store ≡ Some n → (1 ≤ n) × (n ≤ 16))
    → weights_of load store ≡ Some w → AreWeights w
weights_in_range None store w loads stores e = absurd (cc)
weights_in_range (Some load) None w loads stores e = absurd (cc)
weights_in_range (Some load) (Some store) w loads stores e =
    let same : weights_with load store ≡ w = cc in
    let a = loads load refl in
    let b = stores store refl in
    let some_load = a.0 in
    let some_store = b.0 in
    subst AreWeights same (record { load_some = omega (arith, some_load); load_most = a.1; store_some = omega (arith, some_store); store_most = b.1 })

weights_by_words : (load store : List ℕ) (w : Weights) → weights_by load store ≡ Some w → AreWeights w
weights_by_words load store w e = weights_in_range (number 1 16 load) (number 1 16 store) w (number_in_range 1 16 load) (number_in_range 1 16 store) e

unit_in_range : (w : Weights) → Some unit_weights ≡ Some w → AreWeights w
unit_in_range w e =
    let same : unit_weights ≡ w = cc in
    subst AreWeights same (record { load_some = omega arith; load_most = omega arith; store_some = omega arith; store_most = omega arith })

-- ---- the two commands

improve_in_limits : (slots effort : Option ℕ) (weights : Option Weights) (asked : ImproveCommand) → ((n : ℕ) → slots ≡ Some n → (1 ≤ n) × (n ≤ 64)) → ((n : ℕ) → effort ≡ Some n → n ≤ 200)
    → ((w : Weights) → weights ≡ Some w → AreWeights w) → improve_command slots effort weights ≡ Some asked → IsInLimits asked
improve_in_limits None effort weights asked few most are e = absurd (cc)
improve_in_limits (Some slots) None weights asked few most are e = absurd (cc)
improve_in_limits (Some slots) (Some effort) None asked few most are e = absurd (cc)
improve_in_limits (Some slots) (Some effort) (Some weights) asked few most are e =
    let same : Improve (record { slots = slots; effort = effort; weights = weights }) ≡ asked = cc in
    let range = few slots refl in
    subst IsInLimits same (range.0, range.1, most effort refl, are weights refl)

confirm_in_limits : (slots : Option ℕ) (weights : Option Weights) (asked : ImproveCommand) → ((n : ℕ) → slots ≡ Some n → (1 ≤ n) × (n ≤ 64))
    → ((w : Weights) → weights ≡ Some w → AreWeights w) → confirm_command slots weights ≡ Some asked → IsInLimits asked
confirm_in_limits None weights asked few are e = absurd (cc)
confirm_in_limits (Some slots) None asked few are e = absurd (cc)
confirm_in_limits (Some slots) (Some weights) asked few are e =
    let same : Confirm (record { slots = slots; weights = weights }) ≡ asked = cc in
    let range = few slots refl in
    subst IsInLimits same (range.0, range.1, are weights refl)

-- the slots of two words
slots_of_words : (slots file : List ℕ) (n : ℕ) → slots_with (number 1 64 slots) file ≡ Some n → (1 ≤ n) × (n ≤ 64)
slots_of_words slots file n = slots_in_range (number 1 64 slots) file n (number_in_range 1 64 slots)

pub words_are_in_limits : WordsAreInLimits
words_are_in_limits [] asked e = absurd (cc)
words_are_in_limits (name ∷ []) asked e = absurd (cc)
words_are_in_limits (name ∷ slots ∷ []) asked e = absurd (cc)
words_are_in_limits (name ∷ slots ∷ file ∷ []) asked e =
    let count = slots_with (number 1 64 slots) file in
    let improve = improve_command count (Some default_effort) (Some unit_weights) in
    let confirm = confirm_command count (Some unit_weights) in
    elim (chosen_or (names_improve name) improve (cond (names_confirm name) confirm None) asked e) [
      | inl this ↦ improve_in_limits count (Some default_effort) (Some unit_weights) asked (slots_of_words slots file) default_in_range unit_in_range this
      | inr other ↦ confirm_in_limits count (Some unit_weights) asked (slots_of_words slots file) unit_in_range (chosen (names_confirm name) confirm asked other).1
    ]
words_are_in_limits (name ∷ slots ∷ file ∷ effort ∷ []) asked e =
    let count = slots_with (number 1 64 slots) file in
    improve_in_limits count (effort_by effort) (Some unit_weights) asked (slots_of_words slots file) (effort_in_range effort) unit_in_range
    (chosen (names_improve name) (improve_command count (effort_by effort) (Some unit_weights)) asked e).1
words_are_in_limits (name ∷ slots ∷ file ∷ load ∷ store ∷ []) asked e =
    let count = slots_with (number 1 64 slots) file in
    confirm_in_limits count (weights_by load store) asked (slots_of_words slots file) (weights_by_words load store)
    (chosen (names_confirm name) (confirm_command count (weights_by load store)) asked e).1
words_are_in_limits (name ∷ slots ∷ file ∷ effort ∷ load ∷ store ∷ []) asked e =
    let count = slots_with (number 1 64 slots) file in
    improve_in_limits count (effort_by effort) (weights_by load store) asked (slots_of_words slots file) (effort_in_range effort) (weights_by_words load store)
    (chosen (names_improve name) (improve_command count (effort_by effort) (weights_by load store)) asked e).1
words_are_in_limits (name ∷ slots ∷ file ∷ effort ∷ load ∷ store ∷ other ∷ more) asked e = absurd (cc)
