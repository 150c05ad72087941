-- The phases of a run give what the kernel means.
use Rattle.std.proofs.Common.{if◌then◌else◌, ◌≡◌, ◌+◌, ℕ, ℤ, pos, nat_lt, Bool, true, false, List, [], ◌∷◌, map, length, refl, sym, ap, ◌∙◌, Some, None, Result, Ok, Err, arith, slice_index_or}
use Rattle.kernel_ast.specs.declared.element.Cell.{Cell}
use Rattle.kernel_ast.specs.declared.element.Fault.{Fault}
use Rattle.kernel_ast.specs.declared.tree.DeclKind.TheVariants as kinds
use Rattle.kernel_ast.specs.KernelParts.{KernelParts}
use Rattle.kernel_ast.specs.Steps.{and_then, each}
use Rattle.kernel_ast.specs.Walk.{walk_all}
use Rattle.kernel_ast.specs.Machine.{State, enter, leave, put, no_elements, cells_of, execute_all, run_all}
use Rattle.kernel_ast.specs.Meaning.{Held, Entry, kernel_meaning, fault_of, shape_fault, held_of, outputs, too_many_vertices, numbered, numbered_input}
use Rattle.kernel_ast.proofs.Machines.{mapped, mapped-after}
use Rattle.kernel_walk.proofs.ElementLoops.{each_from_is}
use Rattle.kernel_walk.specs.declared.stop.Stop.{Stop}
use Rattle.kernel_walk.specs.declared.stop.Stop.TheVariants as stop
use Rattle.kernel_walk.specs.Outcomes.{AnswersAs}
use Rattle.source_machine.specs.declared.value.Value.{Value}
use Rattle.source_machine.specs.Inputs.{input_count}
use Rattle.source_machine.specs.Numbers.{value, counted, numbers, input, evaluation}
use Rattle.source_machine.specs.Phases.{unless, entering, leaving, phases}
use Rattle.source_machine.specs.RunEnds.{EndMeans, end_of}
use Rattle.source_machine.specs.States.{ended}
use Rattle.source_machine.proofs.Pictured.{plain, numbers_run}

-- ---- the phases are the evaluation

unless_is : {A B : Type 0} (walked : Result B Fault) (outcome : Result A Fault) → unless (fault_of walked) outcome ≡ and_then walked (λ _. outcome)
unless_is (Ok b) outcome = refl
unless_is (Err f) outcome = refl

entering_is : (k : KernelParts) (values : List ℤ) → entering k values ≡ each (enter (input values)) (cells_of kinds.Input 0 k.decls) (no_elements, 0)
unfolding entering
entering_is k values = each_from_is (enter (input values)) kinds.Input 0 k.decls (no_elements, 0)

leaving_is : (k : KernelParts) (s : State Value ℕ) → leaving k s ≡ each (leave numbers s.0) (cells_of kinds.Output 0 k.decls) ([], s.1)
unfolding leaving
leaving_is k s = each_from_is (leave numbers s.0) kinds.Output 0 k.decls ([], s.1)

phases_are : (k : KernelParts) (values : List ℤ) → phases k values ≡ evaluation k values
phases_are k values =
    unless_is (walk_all k.decls k.body) _
    ∙ (λ i. and_then (walk_all k.decls k.body) (λ _. and_then (entering_is k values i) (λ s. and_then (execute_all numbers k.decls k.body s) (λ t. leaving_is k t i))))

-- ---- the evaluation is the meaning

-- what the output elements hold for these values, and the number of vertices
abbrev seen : List ℤ → List Held × List Entry → List Value × ℕ
seen values r = (map (plain values) r.0, length r.1)

evaluation_is : (k : KernelParts) (values : List ℤ) → mapped (seen values) (kernel_meaning k) ≡ evaluation k values
evaluation_is k values = mapped-after (seen values) (walk_all k.decls k.body) (λ _. run_all numbered numbered_input k []) (λ _. run_all numbers (input values) k 0) (λ _. numbers_run values k)

plain_numbers : (values : List ℤ) (held : List Held) → map (λ v. v.number) (map (plain values) held) ≡ map (λ h. h.number values) held
plain_numbers values [] = refl
plain_numbers values (h ∷ held) = ap (λ more. h.number values ∷ more) (plain_numbers values held)

-- the fault of the one is that of the other, and the numbers are the outputs
pub run_fault : (k : KernelParts) (values : List ℤ) (f : Fault) → phases k values ≡ Err f → shape_fault k ≡ Some f
run_fault k values f e = tested (kernel_meaning k) (evaluation_is k values ∙ sym (phases_are k values) ∙ e)
  where
    tested : (o : Result (List Held × List Entry) Fault) → mapped (seen values) o ≡ Err f → fault_of o ≡ Some f
    tested (Ok r) e = cc
    tested (Err x) e = cc

pub run_faultless : (k : KernelParts) (values : List ℤ) (r : List Value × ℕ) → phases k values ≡ Ok r → shape_fault k ≡ None
run_faultless k values r e = tested (kernel_meaning k) (evaluation_is k values ∙ sym (phases_are k values) ∙ e)
  where
    tested : (o : Result (List Held × List Entry) Fault) → mapped (seen values) o ≡ Ok r → fault_of o ≡ None
    tested (Ok s) e = refl
    tested (Err x) e = cc

pub run_outputs : (k : KernelParts) (values : List ℤ) (r : List Value × ℕ) → phases k values ≡ Ok r → map (λ v. v.number) r.0 ≡ outputs k values
run_outputs k values r e = tested (kernel_meaning k) (evaluation_is k values ∙ sym (phases_are k values) ∙ e)
  where
    tested : (o : Result (List Held × List Entry) Fault) → mapped (seen values) o ≡ Ok r → map (λ v. v.number) r.0 ≡ map (λ h. h.number values) (held_of o)
    tested (Ok s) e = let same : seen values s ≡ r = cc in sym (ap (λ x. map (λ v. v.number) x.0) same) ∙ plain_numbers values s.0
    tested (Err x) e = cc

-- a run that stops has that end
pub end_means : (k : KernelParts) (values : List ℤ) (s : Stop) → AnswersAs (phases k values) ended (Err s) → EndMeans k values (end_of s)
end_means k values (stop.Fault f) e = run_fault k values f e
end_means k values stop.NoMemory e = tt

-- ---- the number of inputs

then_ok : {A B : Type 0} (o : Result A Fault) (f : A → Result B Fault) (b : B) → and_then o f ≡ Ok b → (a : A) × (o ≡ Ok a) × (f a ≡ Ok b)
then_ok (Ok a) f b e = (a, refl, e)
then_ok (Err x) f b e = let no : ⊥ = cc in absurd no

counted_more : (at : ℕ) (n : ℤ) (vertices : ℕ) (v : Value × ℕ) → counted at n vertices ≡ Ok v → v.1 ≡ vertices + 1
counted_more at n vertices v = tested (nat_lt vertices 256)
  where
    tested : (b : Bool) → (if b then Ok (value n false, vertices + 1) else Err (too_many_vertices at)) ≡ Ok v → v.1 ≡ vertices + 1
    tested true e = let same : (value n false, vertices + 1) ≡ v = cc in sym (ap (λ x. x.1) same)
    tested false e = cc

enter_counts : (values : List ℤ) (cells : List (ℕ × Cell)) (s t : State Value ℕ) → each (enter (input values)) cells s ≡ Ok t → t.1 ≡ s.1 + length cells
enter_counts values [] s t e = let same : s ≡ t = cc in let here = ap (λ x. x.1) same in omega (arith, here)
enter_counts values (c ∷ cells) s t e =
    let first = then_ok (enter (input values) c s) (each (enter (input values)) cells) t e in
    let made = then_ok (input values c.0 s.1) (λ v. Ok (put s.0 c.1 v.0, v.1)) first.0 first.1 in
    let more = counted_more c.0 (slice_index_or values s.1 (pos 0)) s.1 made.0 made.1 in
    let same : (put s.0 c.1 made.0.0, made.0.1) ≡ first.0 = cc in
    let here = ap (λ x. x.1) same in
    let rest = enter_counts values cells first.0 t first.2 in
    omega (arith, more, here, rest)

-- there are as many vertices as input elements once these are set
pub inputs_counted : (k : KernelParts) (values : List ℤ) (s : State Value ℕ) → entering k values ≡ Ok s → s.1 ≡ input_count k
inputs_counted k values s e =
    let count = enter_counts values (cells_of kinds.Input 0 k.decls) (no_elements, 0) s (sym (entering_is k values) ∙ e) in
    omega (arith, count)
