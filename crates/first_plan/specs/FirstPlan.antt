-- The first plan, this project's convention: the live vertices that are no inputs are worked on in rising number, and before each Work
-- victims leave the red vertices until the slots are enough. At the end the play finishes.
use Rattle.std.specs.Prelude.{ℕ, zero, suc, Bool, cond, nat_lt, List, [], ◌∷◌, ◌++◌}
use Rattle.comp_graph.specs.Vertices.{size}
use Rattle.comp_graph.specs.Games.{PebbleGame}
use Rattle.pebble_rules.specs.Rules.{start}
use Rattle.pebble_rules.specs.declared.position.Position.{Position}
use Rattle.normal_steps.specs.Steps.{worked, stepped, play_after}
use Rattle.normal_steps.specs.declared.step.Step.{Step}
use Rattle.normal_steps.specs.declared.step.Step.TheVariants.{Work}
use Rattle.first_plan.specs.NextUses.{is_planned}
use Rattle.first_plan.specs.Victims.{removal}

-- the red vertices, the predecessors of v and v are more than the slots
abbrev pub is_short : PebbleGame → Position → ℕ → Bool
is_short g p v = nat_lt g.slots (size (worked g p.red v))

-- while the slots are too few for Work(v), a victim is removed, at most so many times
unfoldable pub removals : PebbleGame → ℕ → ℕ → Position → List Step
removals g v zero p = []
removals g v (suc times) p = cond (is_short g p v) (removal g p v ∷ removals g v times (stepped g p (removal g p v))) []

-- the steps that make room for Work(v): there are no more of them than red vertices
abbrev pub room_steps : PebbleGame → ℕ → Position → List Step
room_steps g v p = removals g v (size p.red) p

-- room for v is made, and then v is worked on
abbrev pub turn_steps : PebbleGame → ℕ → Position → List Step
turn_steps g v p = room_steps g v p ++ Work v ∷ []

-- the turns of the vertices below n, in rising number
unfoldable pub steps_below : PebbleGame → ℕ → List Step
steps_below g zero = []
steps_below g (suc n) = steps_below g n ++ cond (is_planned g.dag n) (turn_steps g n (play_after g (start g) (steps_below g n))) []

-- the steps of the first plan
abbrev pub first_steps : PebbleGame → List Step
first_steps g = steps_below g g.dag.count
