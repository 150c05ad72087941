-- Automorphisms of a window, this project's own: renamings of vertices that keep the window. A table need not hold a position if it holds
-- an image of it.
use Rattle.std.specs.Prelude.{◌≡◌, ℕ, ◌≤◌, List, length, slice_index_or}
use Rattle.std.specs.FinSet as set
use Rattle.comp_graph.specs.Vertices.{Vertices, size}
use Rattle.comp_graph.specs.Games.{PebbleGame}
use Rattle.pebble_rules.specs.declared.position.Position.{Position}
use Rattle.comp_graph.specs.Lists.{IsIn}
use Rattle.window_game.specs.Windows.{Window, IsWindow, known}
use Rattle.window_laws.specs.Entry.{IsWorker, held_for}
use Rattle.normal_steps.specs.declared.step.Step.{Step}
use Rattle.window_game.specs.Plays.{IsFinishingIn, total_cost_in}
use Rattle.window_laws.specs.Sound.{IsSoundIn}

-- a renaming of vertices and its inverse
pub record Renaming : Type 0 where
  pub there : ℕ → ℕ
  pub back : ℕ → ℕ

-- vertex v gets the number at place v of a list; a vertex beyond the end of the list keeps its number
abbrev pub renaming_of : List ℕ → List ℕ → Renaming
renaming_of there back = record { there = λ v. slice_index_or there v v; back = λ v. slice_index_or back v v }

-- t is the image of s
abbrev pub IsImage : Renaming → Vertices → Vertices → Type 0
IsImage r s t = (v : ℕ) → set.contains t v ≡ set.contains s (r.back v)

-- q is the image of p
pub record IsImageOf (r : Renaming) (p q : Position) : Type 0 where
  pub red : IsImage r p.red q.red
  pub blue : IsImage r p.blue q.blue

-- the renaming has an inverse and keeps the sets of the window; it takes a vertex that can be worked on to another such vertex, whose operands
-- and charged loads are the images, and which takes as many slots for vertices that are not tracked
pub record IsAutomorphism (g : PebbleGame) (w : Window) (r : Renaming) : Type 0 where
  pub there_back : (v : ℕ) → r.there (r.back v) ≡ v
  pub back_there : (v : ℕ) → r.back (r.there v) ≡ v
  pub tracked : IsImage r w.tracked w.tracked
  pub required : IsImage r w.required w.required
  pub stores : IsImage r w.stores w.stores
  pub inputs : IsImage r (set.intersection g.dag.inputs w.tracked) (set.intersection g.dag.inputs w.tracked)
  pub outputs : IsImage r (set.intersection g.dag.outputs w.tracked) (set.intersection g.dag.outputs w.tracked)
  pub workers : (v : ℕ) → IsWorker g w v → IsWorker g w (r.there v)
  pub operands : (v : ℕ) → IsWorker g w v
      → IsImage r (set.intersection (g.dag.preds v) (known w)) (set.intersection (g.dag.preds (r.there v)) (known w))
  pub loads : (v : ℕ) → IsWorker g w v → IsImage r (w.loads v) (w.loads (r.there v))
  pub rest : (v : ℕ) → IsWorker g w v
      → size (set.difference (held_for g (r.there v)) w.tracked) ≡ size (set.difference (held_for g v) w.tracked)

-- renamings of the list, one after another, take p to q
pub data IsTurnedTo (rs : List Renaming) : Position → Position → Type 0 where
  stays : {p : Position} → IsTurnedTo rs p p
  turned : {p q : Position} (r : Renaming) (next : Position)
      → IsIn r rs → IsImageOf r p next → IsTurnedTo rs next q → IsTurnedTo rs p q

-- each renaming of the list is an automorphism of the window
abbrev pub AreAutomorphisms : PebbleGame → Window → List Renaming → Type 0
AreAutomorphisms g w rs = (r : Renaming) → IsIn r rs → IsAutomorphism g w r

-- a play from q that finishes, with at most so many steps and at most this cost
pub record IsMatchedFrom (g : PebbleGame) (w : Window) (q : Position) (steps_most cost_most : ℕ) : Type 0 where
  pub steps : List Step
  pub finishing : IsFinishingIn g w q steps
  pub shorter : length steps ≤ steps_most
  pub costs : total_cost_in g w q steps ≤ cost_most

-- q stands for p: it is sound, and each play from p that finishes has one from q with no more steps and no greater cost
pub record StandsFor (g : PebbleGame) (w : Window) (q p : Position) : Type 0 where
  pub sound : IsSoundIn g w q
  pub matched : (ss : List Step) → IsFinishingIn g w p ss
      → IsMatchedFrom g w q (length ss) (total_cost_in g w p ss)

-- if automorphisms take a sound position p to q, then q stands for p
abbrev pub ImagesStand : Type 0
ImagesStand =
    (g : PebbleGame) (w : Window) → IsWindow g w → (rs : List Renaming) → AreAutomorphisms g w rs
    → (p q : Position) → IsSoundIn g w p → IsTurnedTo rs p q → StandsFor g w q p
