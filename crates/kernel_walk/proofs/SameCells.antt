-- Elements compare as equal exactly where they are the same.
use Rattle.std.proofs.Common.{◌≡◌, ℕ, ◌&&◌, ◌==◌, refl, ap, ◌∙◌, arith}
use Rattle.std.specs.declared.cmp.Ordering.{Ordering}
use Rattle.std.specs.declared.cmp.Ordering.TheVariants.{Less, Equal, Greater}
use Rattle.std.specs.Ordering.{nat_cmp, ordering_then, is_eq}
use Rattle.kernel_ast.specs.declared.element.Cell.{Cell}
use Rattle.kernel_ast.specs.Machine.{is_cell}
use Rattle.kernel_walk.specs.SetElements.{compared}

is_eq-then : (o p : Ordering) → is_eq (ordering_then o p) ≡ (is_eq o && is_eq p)
is_eq-then Less p = refl
is_eq-then Equal p = refl
is_eq-then Greater p = refl

is_eq-nat_cmp : (m n : ℕ) → is_eq (nat_cmp m n) ≡ (n == m)
is_eq-nat_cmp m n = grind arith

pub is_eq-compared : (c other : Cell) → is_eq (compared (c.decl, c.offset) (other.decl, other.offset)) ≡ is_cell other c
is_eq-compared c other =
    is_eq-then (nat_cmp c.decl other.decl) (nat_cmp c.offset other.offset)
    ∙ ap (λ b. b && is_eq (nat_cmp c.offset other.offset)) (is_eq-nat_cmp c.decl other.decl)
    ∙ ap (λ b. (other.decl == c.decl) && b) (is_eq-nat_cmp c.offset other.offset)
