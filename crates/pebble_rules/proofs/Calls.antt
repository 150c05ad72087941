-- What the calls on a position and a move rest on.
use Rattle.std.proofs.Common.{◌≡◌, ℕ, ◌≤◌, ◌<◌, Bool, true, false, ◌&&◌, ltb, ◌↔◌, IsTrue, length, sym, ap, ◌∙◌, subst, arith}
use Rattle.std.specs.FinSet.{contains}
use Rattle.std.proofs.lemmas.Bool.Decides.{nat_tests}
use Rattle.comp_graph.specs.Vertices.{Vertices, ◌∈◌, ◌∉◌, IsWithin}
use Rattle.comp_graph.specs.Graphs.{GraphParts, IsGraph, dag_of}
use Rattle.comp_graph.specs.Games.{GameParts, game_of}
use Rattle.comp_graph.specs.Sets.{has_set_below}
use Rattle.comp_graph.proofs.GraphLaws.{inputs_of-first}
use Rattle.pebble_rules.specs.declared.position.Position.{Position}
use Rattle.pebble_rules.specs.declared.moves.Move.{Move}
use Rattle.pebble_rules.specs.declared.moves.Move.TheVariants.{Compute}
use Rattle.pebble_rules.specs.Rules.{Needs, CanCompute}

-- the inputs are the vertices below their number
pub has_inputs : (g : GraphParts) → IsGraph g → (v : ℕ) → contains (dag_of g).inputs v ≡ (ltb v (length g.names) && true)
has_inputs g ok v = sym (ap (λ s. contains s v) (inputs_of-first g ok)) ∙ has_set_below (λ u. true) (length g.names) v

is_input : (b : Bool) (v n : ℕ) → b ≡ (ltb v n && true) → v < n → b ≡ true
is_input b v n e h = grind (arith, nat_tests)

no_input : (b : Bool) (v n : ℕ) → b ≡ (ltb v n && true) → n ≤ v → b ≡ false
no_input b v n e h = grind (arith, nat_tests)

-- a vertex past the inputs can be computed exactly where its predecessors are red
pub compute_met : (g : GameParts) → IsGraph g.graph → (p : Position) (m : Move) (v n : ℕ) (preds : Vertices) (r : Bool) → m ≡ Compute v → v < length g.graph.nodes
    → n ≡ length g.graph.names → n ≤ v → preds ≡ (dag_of g.graph).preds v → (IsTrue r ↔ IsWithin preds p.red) → IsTrue r ↔ Needs (game_of g) p m
compute_met g ok p m v n preds r is vertex counted past read within =
    let out : v ∉ (dag_of g.graph).inputs = no_input _ v (length g.graph.names) (has_inputs g.graph ok v) (omega arith) in
    subst (λ m. IsTrue r ↔ Needs (game_of g) p m) (sym is) (
      λ met. record { vertex = vertex; no_input = out; preds_red = subst (λ s. IsWithin s p.red) read (within.0 met) },
      λ (can : CanCompute (game_of g) p v). within.1 (subst (λ s. IsWithin s p.red) (sym read) can.preds_red),
    )

-- an input is never computed
pub compute_unmet : (g : GameParts) → IsGraph g.graph → (p : Position) (m : Move) (v n : ℕ) (r : Bool) → m ≡ Compute v → r ≡ false
    → n ≡ length g.graph.names → v < n → IsTrue r ↔ Needs (game_of g) p m
compute_unmet g ok p m v n r is not counted early =
    let source : v ∈ (dag_of g.graph).inputs = is_input _ v (length g.graph.names) (has_inputs g.graph ok v) (omega arith) in
    subst (λ m. IsTrue r ↔ Needs (game_of g) p m) (sym is) (
      λ met. absurd (apart r met not),
      λ (can : CanCompute (game_of g) p v). absurd (apart (contains (dag_of g.graph).inputs v) source can.no_input),
    )
  where
    apart : (b : Bool) → b ≡ true → b ≡ false → ⊥
    apart b t f = let both : true ≡ false = sym t ∙ f in cc
