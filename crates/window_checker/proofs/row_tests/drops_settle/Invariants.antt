use Rattle.std.proofs.Common.{ℕ, ◌<◌}
use Rattle.comp_graph.specs.Vertices.{◌∈◌}
use Rattle.normal_steps.specs.declared.step.Step.TheVariants.{Drop}
use Rattle.window_checker.specs.Readiness.{StepSettlesIn}
use Rattle.window_checker.proofs.row_tests.drops_settle.Given as goal

abbrev pub invariant-loop-v : goal.invariant-loop-v
invariant-loop-v l = (u : ℕ) → u < l.v → u ∈ l.drops → StepSettlesIn l.game l.window l.table l.row (Drop u)
