-- Plans: normal plays from the start that finish, with what they cost.
use Rattle.std.specs.Prelude.{◌≡◌, ℕ, ◌≤◌, ◌<◌, ◌⊎◌, List}
use Rattle.comp_graph.specs.Vertices.{◌∈◌, ◌∉◌}
use Rattle.comp_graph.specs.Games.{PebbleGame, GameParts, game_of}
use Rattle.pebble_rules.specs.Rules.{start}
use Rattle.pebble_rules.specs.declared.position.Position.{Position}
use Rattle.normal_steps.specs.Steps.{IsFinishing, total_cost}
use Rattle.normal_steps.specs.declared.step.Step.{Step}

-- an output has neither pebble, so a play cannot finish there
pub record HasBareOutput (g : PebbleGame) (p : Position) : Type 0 where
  pub output : ℕ
  pub is_output : output ∈ g.dag.outputs
  pub not_red : output ∉ p.red
  pub not_blue : output ∉ p.blue

-- a game, steps and a cost
pub record PlanParts : Type 0 where
  pub game : GameParts
  pub steps : List Step
  pub total : ℕ

-- the steps are a normal play from the start that finishes at this cost, the finish counted, and the cost is a number of 32 bits
pub record IsPlan (plan : PlanParts) : Type 0 where
  pub finishing : IsFinishing (game_of plan.game) (start (game_of plan.game)) plan.steps
  pub costs : plan.total ≡ total_cost (game_of plan.game) (start (game_of plan.game)) plan.steps
  pub fits : plan.total ≤ 4294967295

-- the steps are no normal play from the start that finishes, or they cost too much
abbrev pub IsNoPlan : PebbleGame → List Step → Type 0
IsNoPlan g ss = (¬ IsFinishing g (start g) ss) ⊎ (4294967295 < total_cost g (start g) ss)
