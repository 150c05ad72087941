-- The finish of a play: outputs without a pebble.
use Rattle.std.proofs.Common.{◌≡◌, ℕ, sym, ap, ◌∙◌, subst, arith}
use Rattle.std.specs.FinSet.{contains, union, difference, empty}
use Rattle.comp_graph.specs.Vertices.{Vertices, ◌∈◌, ◌∉◌}
use Rattle.comp_graph.specs.Games.{PebbleGame}
use Rattle.comp_graph.specs.Sets.{membership}
use Rattle.pebble_rules.specs.declared.position.Position.{Position}
use Rattle.normal_steps.specs.Steps.{CanFinish}
use Rattle.normal_steps.specs.Plans.{HasBareOutput}

in_outputs : (out red blue : Vertices) (v : ℕ) → v ∈ difference out (union red blue) → v ∈ out
in_outputs out red blue v h = grind (arith, membership)

out_of_red : (out red blue : Vertices) (v : ℕ) → v ∈ difference out (union red blue) → v ∉ red
out_of_red out red blue v h = grind (arith, membership)

out_of_blue : (out red blue : Vertices) (v : ℕ) → v ∈ difference out (union red blue) → v ∉ blue
out_of_blue out red blue v h = grind (arith, membership)

-- the outputs outside both sets
pub bare_is : (g : PebbleGame) (p : Position) (out held bare : Vertices) → out ≡ g.dag.outputs → held ≡ union p.red p.blue → bare ≡ difference out held
    → bare ≡ difference g.dag.outputs (union p.red p.blue)
bare_is g p out held bare o h b = b ∙ (λ i. difference (o i) (h i))

pub bare_output : (g : PebbleGame) (p : Position) (bare : Vertices) (v : ℕ) → bare ≡ difference g.dag.outputs (union p.red p.blue) → v ∈ bare → HasBareOutput g p
bare_output g p bare v e h =
    let is : v ∈ difference g.dag.outputs (union p.red p.blue) = subst (λ s. v ∈ s) e h in
    record {
      output = v;
      is_output = in_outputs g.dag.outputs p.red p.blue v is;
      not_red = out_of_red g.dag.outputs p.red p.blue v is;
      not_blue = out_of_blue g.dag.outputs p.red p.blue v is;
    }

pub none_bare : (g : PebbleGame) (p : Position) (bare : Vertices) → bare ≡ difference g.dag.outputs (union p.red p.blue) → bare ≡ empty → CanFinish g p
none_bare g p bare e none v h = let at = ap (λ s. contains s v) (sym e ∙ none) in grind (arith, membership)
