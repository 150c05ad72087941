-- Which red pebble the first plan removes to make room for Work(v), and by which step. The rule is commonly called Belady's: the value goes
-- that is needed again last. The tie and what is saved are this project's convention.
use Rattle.std.specs.Prelude.{◌≡◌, ℕ, ◌≤◌, Bool, not, ◌&&◌, ◌||◌, cond, nat_eq}
use Rattle.std.specs.FinSet as set
use Rattle.comp_graph.specs.Vertices.{Vertices, ◌∈◌, greatest_below}
use Rattle.comp_graph.specs.Dags.{Dag}
use Rattle.comp_graph.specs.Games.{PebbleGame}
use Rattle.pebble_rules.specs.declared.position.Position.{Position}
use Rattle.normal_steps.specs.declared.step.Step.{Step}
use Rattle.normal_steps.specs.declared.step.Step.TheVariants.{Drop, Spill}
use Rattle.first_plan.specs.Passing.{greatest_passing}
use Rattle.first_plan.specs.NextUses.{next_use, is_used_later}

-- the furthest next use of a member of s
unfoldable pub furthest_use : Dag → ℕ → Vertices → ℕ
furthest_use d v s = greatest_below d.count (λ u. cond (set.contains s u) (next_use d v u) 0)

-- of the members of s whose next use lies furthest, the greatest
unfoldable pub last_needed : Dag → ℕ → Vertices → ℕ
last_needed d v s = greatest_passing d.count (λ u. set.contains s u && nat_eq (next_use d v u) (furthest_use d v s))

-- the same said of one vertex: a member of s, no member's next use lies further, and of those that lie as far none is greater
pub record IsLastNeeded (d : Dag) (v : ℕ) (s : Vertices) (u : ℕ) : Type 0 where
  pub member : u ∈ s
  pub furthest : (x : ℕ) → x ∈ s → next_use d v x ≤ next_use d v u
  pub greatest : (x : ℕ) → x ∈ s → next_use d v x ≡ next_use d v u → x ≤ u

-- the victim: of the red vertices that Work(v) does not read, the one that is needed last
abbrev pub victim : PebbleGame → Position → ℕ → ℕ
victim g p v = last_needed g.dag v (set.difference p.red (g.dag.preds v))

-- u would be missed: it is not blue, and it is used later or is an output
abbrev pub is_missed : PebbleGame → Position → ℕ → ℕ → Bool
is_missed g p v u = not (set.contains p.blue u) && (is_used_later g.dag v u || set.contains g.dag.outputs u)

-- the step that removes u before Work(v): it is spilled if it would be missed, and else dropped
unfoldable pub removal_of : PebbleGame → Position → ℕ → ℕ → Step
removal_of g p v u = cond (is_missed g p v u) (Spill u) (Drop u)

-- the step that removes the victim
abbrev pub removal : PebbleGame → Position → ℕ → Step
removal g p v = removal_of g p v (victim g p v)
