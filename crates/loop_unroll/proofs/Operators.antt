-- The operators of well-formed chains.
use Rattle.std.proofs.Common.{◌≡◌, ap, ◌∙◌, refl, ℕ, nat_le, Bool, true, ◌&&◌, ◌==◌, List, [], ◌∷◌}
use Rattle.std.specs.List.{list_all}
use Rattle.std.proofs.lemmas.Bool.{eqb-true, and_parts}
use Rattle.comp_graph.specs.declared.operation.Op.{Op}
use Rattle.comp_graph.specs.declared.operation.Op.TheVariants as op
use Rattle.comp_graph.specs.Operations.{arity_of}
use Rattle.kernel_ast.specs.WellFormed.{level_of, are_operators}

-- an operator of a chain
abbrev pub is_operator : Op → Bool
is_operator o = nat_le 1 (level_of o)

pub two_operands : (o : Op) → is_operator o ≡ true → arity_of o ≡ 2
two_operands op.Add h = refl
two_operands op.Sub h = refl
two_operands op.Mul h = refl
two_operands op.And h = refl
two_operands op.Or h = refl
two_operands op.Xor h = refl
two_operands o h = absurd (cc)

-- operators of one level are operators
same_level : (n : ℕ) (ops : List Op) → nat_le 1 n ≡ true → list_all (λ o. level_of o == n) ops ≡ true → list_all is_operator ops ≡ true
same_level n [] h e = refl
same_level n (o ∷ ops) h e =
    let parts = and_parts (level_of o == n) (list_all (λ o. level_of o == n) ops) e in
    let here : is_operator o ≡ true = ap (nat_le 1) (eqb-true (level_of o) n parts.0) ∙ h in
    ap (λ b. b && list_all is_operator ops) here ∙ same_level n ops h parts.1

pub operators : (ops : List Op) → are_operators ops ≡ true → list_all is_operator ops ≡ true
operators [] h = refl
operators (o ∷ ops) h =
    let parts = and_parts (nat_le 1 (level_of o)) (list_all (λ p. level_of p == level_of o) ops) h in
    ap (λ b. b && list_all is_operator ops) parts.0 ∙ same_level (level_of o) ops parts.0 parts.1
