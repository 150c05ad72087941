-- The legal steps of a position in one order, this project's own: Work, then Drop, then Spill, and each kind by rising vertex.
use Rattle.std.specs.Prelude.{ℕ, ◌<◌, ◌↔◌, List, ◌++◌, map, ⊤}
use Rattle.std.specs.List.{AllPairs}
use Rattle.comp_graph.specs.Lists.{IsIn}
use Rattle.comp_graph.specs.Vertices.{Vertices, ◌∈◌, rising}
use Rattle.comp_graph.specs.Games.{PebbleGame}
use Rattle.pebble_rules.specs.declared.position.Position.{Position}
use Rattle.normal_steps.specs.Steps.{CanWork, IsStep}
use Rattle.normal_steps.specs.declared.step.Step.{Step}
use Rattle.normal_steps.specs.declared.step.Step.TheVariants.{Work, Drop, Spill}

-- one step comes before another
abbrev pub Precedes : Step → Step → Type 0
Precedes (Work v) (Work w) = v < w
Precedes (Work v) (Drop w) = ⊤
Precedes (Work v) (Spill w) = ⊤
Precedes (Drop v) (Work w) = ⊥
Precedes (Drop v) (Drop w) = v < w
Precedes (Drop v) (Spill w) = ⊤
Precedes (Spill v) (Work w) = ⊥
Precedes (Spill v) (Drop w) = ⊥
Precedes (Spill v) (Spill w) = v < w

-- the list has just the legal steps, and each comes before all that follow it, so none is there twice
pub record AreLegalSteps (g : PebbleGame) (p : Position) (ss : List Step) : Type 0 where
  pub legal : (s : Step) → IsIn s ss ↔ IsStep g p s
  pub in_order : AllPairs Precedes ss

-- the members are the vertices that Work is legal for
pub record AreWorkable (g : PebbleGame) (p : Position) (s : Vertices) : Type 0 where
  pub members : (v : ℕ) → (v ∈ s) ↔ CanWork g p v

-- the steps on the vertices below n of three sets: Work on the first, Drop on the second, Spill on the third, each by rising vertex
unfoldable pub listed : ℕ → Vertices → Vertices → Vertices → List Step
listed n works drops spills = map Work (rising n works) ++ (map Drop (rising n drops) ++ map Spill (rising n spills))
