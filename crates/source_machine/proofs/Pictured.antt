-- Plain numbers are a picture of numbers with origins.
use Rattle.std.proofs.Common.{if◌then◌else◌, ◌≡◌, ◌+◌, ◌++◌, ℕ, ℤ, pos, nat_lt, Bool, true, false, ◌&&◌, List, [], ◌∷◌, map, length, refl, sym, ap, subst, Option, Some, None, Ok, Err, arith, slice_index_or}
use Rattle.std.specs.Option.{is_some}
use Rattle.comp_graph.specs.declared.operation.Op.{Op}
use Rattle.comp_graph.specs.declared.operation.Op.TheVariants as op
use Rattle.comp_graph.specs.declared.node.Operand.{Operand}
use Rattle.comp_graph.specs.declared.node.Operand.TheVariants.{Vertex, Const}
use Rattle.comp_graph.specs.Operations.{value_at}
use Rattle.kernel_ast.specs.KernelParts.{KernelParts}
use Rattle.kernel_ast.specs.Steps.{and_then}
use Rattle.kernel_ast.specs.Machine.{run_all}
use Rattle.kernel_ast.specs.Meaning.{Held, Entry, entry, constants, add_constant, numbered, numbered_input, append_entry, fold_or_append, set_output, with_number, too_many_vertices}
use Rattle.kernel_ast.proofs.Machines.{mapped, both, Pictures, run_pictured}
use Rattle.source_machine.specs.declared.value.Value.{Value}
use Rattle.source_machine.specs.Numbers.{value, counted, all_constant, output, numbers, input}

-- whether an origin is a constant
abbrev pub is_constant : Operand → Bool
is_constant (Const n) = true
is_constant (Vertex v) = false

-- what an element holds, for these values of the inputs
abbrev pub plain : List ℤ → Held → Value
plain values a = value (a.number values) (is_constant a.origin)

longer : (s : List Entry) (e : Entry) → length (s ++ e ∷ []) ≡ length s + 1
longer [] e = refl
longer (x ∷ s) e = let more = longer s e in omega (arith, more)

appended : (values : List ℤ) (number : List ℤ → ℤ) (at : ℕ) (e : Entry) (s : List Entry) (m : ℤ) → number values ≡ m
    → mapped (both (plain values) length) (and_then (append_entry at e s) (with_number number)) ≡ counted at m (length s)
appended values number at e s m same = tested (nat_lt (length s) 256)
  where
    tested : (b : Bool) → mapped (both (plain values) length) (and_then (if b then Ok (Vertex (length s), s ++ e ∷ []) else Err (too_many_vertices at)) (with_number number))
        ≡ (if b then Ok (value m false, length s + 1) else Err (too_many_vertices at))
    tested true = λ i. Ok (value (same i) false, longer s e i)
    tested false = refl

all_constants : (values : List ℤ) (args : List Held) → all_constant (map (plain values) args) ≡ is_some (constants (map (λ a. a.origin) args))
all_constants values [] = refl
all_constants values (a ∷ args) = first a.origin (constants (map (λ a. a.origin) args)) (all_constant (map (plain values) args)) (all_constants values args)
  where
    first : (o : Operand) (rest : Option (List ℤ)) (b : Bool) → b ≡ is_some rest → (is_constant o && b) ≡ is_some (add_constant o rest)
    first (Const n) (Some ns) b e = e
    first (Const n) None b e = e
    first (Vertex v) (Some ns) b e = refl
    first (Vertex v) None b e = refl

same_numbers : (values : List ℤ) (args : List Held) → map (λ a. a.number values) args ≡ map (λ a. a.number) (map (plain values) args)
same_numbers values [] = refl
same_numbers values (a ∷ args) = ap (λ more. a.number values ∷ more) (same_numbers values args)

operated : (values : List ℤ) (number : List ℤ → ℤ) (o : Op) (at : ℕ) (args : List Operand) (s : List Entry) (c : Option (List ℤ)) (b : Bool) (m : ℤ) → b ≡ is_some c → number values ≡ m
    → mapped (both (plain values) length) (and_then (fold_or_append o at args c s) (with_number number)) ≡ (if b then Ok (value m true, length s) else counted at m (length s))
operated values number o at args s (Some ns) b m e same =
    subst (λ z. Ok (value (number values) true, length s) ≡ (if z then Ok (value m true, length s) else counted at m (length s))) (sym e) (ap (λ z. Ok (value z true, length s)) same)
operated values number o at args s None b m e same =
    subst (λ z. mapped (both (plain values) length) (and_then (append_entry at (entry o args) s) (with_number number)) ≡ (if z then Ok (value m true, length s) else counted at m (length s))) (sym e)
    (appended values number at (entry o args) s m same)

set : (values : List ℤ) (number : List ℤ → ℤ) (at : ℕ) (o : Operand) (s : List Entry)
    → mapped (both (plain values) length) (and_then (set_output at o s) (with_number number)) ≡ output at (value (number values) (is_constant o)) (length s)
set values number at (Vertex v) s = refl
set values number at (Const n) s = appended values number at (entry op.Set (Const n ∷ [])) s (number values) refl

numbers_picture : (values : List ℤ) → Pictures numbered numbers (plain values) length
numbers_picture values = record {
  constant = λ n. refl;
  operate = λ o at args s.
      operated values (λ vs. value_at o (map (λ a. a.number vs) args)) o at (map (λ a. a.origin) args) s (constants (map (λ a. a.origin) args))
      (all_constant (map (plain values) args)) _ (all_constants values args) (ap (value_at o) (same_numbers values args));
  output = λ at v s. set values v.number at v.origin s;
}

-- A run over plain numbers gives the numbers of the meaning, and its faults.
pub numbers_run : (values : List ℤ) (k : KernelParts) → mapped (λ r. (map (plain values) r.0, length r.1)) (run_all numbered numbered_input k []) ≡ run_all numbers (input values) k 0
numbers_run values k =
    run_pictured numbered numbers (plain values) length (numbers_picture values) numbered_input (input values)
    (λ at s. appended values (λ vs. slice_index_or vs (length s) (pos 0)) at (entry op.Input []) s (slice_index_or values (length s) (pos 0)) refl) k []
