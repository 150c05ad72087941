-- How contracts see the elements that are set.
use Rattle.std.specs.Prelude.{ℕ}
use Rattle.std.specs.declared.cmp.Ordering.{Ordering}
use Rattle.std.specs.Ordering.{nat_cmp, ordering_then}
use Rattle.std.specs.BTreeMap.{get}
use Rattle.kernel_walk.specs.declared.written.Written.{Written}
use Rattle.kernel_ast.specs.Machine.{Elements}

-- the order of elements: by declaration, and then by the place in it
abbrev pub compared : ℕ × ℕ → ℕ × ℕ → Ordering
compared a b = ordering_then (nat_cmp a.0 b.0) (nat_cmp a.1 b.1)

-- what each element holds
abbrev pub elements : {V : Type 0} → Written V → Elements V
elements w c = get compared w.by_place (c.decl, c.offset)
