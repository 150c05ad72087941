-- The elements of one kind, gone through declaration by declaration and element by element.
use Rattle.std.specs.Prelude.{◌+◌, ◌-◌, ℕ, Bool, true, false, List, [], ◌∷◌, map, Option, Some, None, Result, Ok, slice_get}
use Rattle.kernel_ast.specs.declared.tree.DeclKind.{DeclKind}
use Rattle.kernel_ast.specs.declared.element.Cell.{Cell}
use Rattle.kernel_ast.specs.declared.element.Fault.{Fault}
use Rattle.kernel_ast.specs.KernelParts.{Declared}
use Rattle.kernel_ast.specs.Steps.{and_then, each}
use Rattle.kernel_ast.specs.Machine.{is_kind, element_count, cells_from}

-- the elements of a declaration from one offset to below another, each with the place of the declaration's name
unfoldable pub cells_between : ℕ → ℕ → ℕ → ℕ → List (ℕ × Cell)
cells_between at decl from to = map (λ c. (at, c)) (cells_from decl from (to - from))

-- all elements of a declaration, where it is of the kind
abbrev pub cells_if : Bool → ℕ → Declared → List (ℕ × Cell)
cells_if true decl d = cells_between d.1.at decl 0 (element_count d.1.sizes)
cells_if false decl d = []

-- a step for each element of a declaration, where it is of this kind
unfoldable pub each_of_decl : {S : Type 0} → (ℕ × Cell → S → Result S Fault) → DeclKind → ℕ → Declared → S → Result S Fault
each_of_decl f kind decl d = each f (cells_if (is_kind kind d.1.kind) decl d)

-- the same where there is a declaration, and nothing where there is none
abbrev pub each_of_option : {S : Type 0} → (ℕ × Cell → S → Result S Fault) → DeclKind → ℕ → Option Declared → S → Result S Fault
each_of_option f kind decl None s = Ok s
each_of_option f kind decl (Some d) s = each_of_decl f kind decl d s

-- the same for the declaration of this number
abbrev pub each_at : {S : Type 0} → (ℕ × Cell → S → Result S Fault) → DeclKind → List Declared → ℕ → S → Result S Fault
each_at f kind decls decl = each_of_option f kind decl (slice_get decls decl)

-- the same for these declarations, where the first has this number
abbrev pub each_from : {S : Type 0} → (ℕ × Cell → S → Result S Fault) → DeclKind → ℕ → List Declared → S → Result S Fault
each_from f kind decl [] s = Ok s
each_from f kind decl (d ∷ ds) s = and_then (each_of_decl f kind decl d s) (each_from f kind (decl + 1) ds)
