-- When a certificate by windows proves its bound for a game, this project's own. A position is looked up in a table by the rule of the least
-- image; if it is no row there, the floor of that image counts.
use Rattle.std.specs.Prelude.{◌≡◌, ◌⊎◌, ℕ, zero, suc, ◌+◌, ◌≤◌, List, [], ◌∷◌, ◌++◌, cond, length, map, slice_index_or, ⊤}
use Rattle.std.specs.FinSet as set
use Rattle.comp_graph.specs.Vertices.{Vertices}
use Rattle.comp_graph.specs.Dags.{IsDag}
use Rattle.comp_graph.specs.Games.{PebbleGame}
use Rattle.comp_graph.specs.Lists.{IsIn}
use Rattle.pebble_rules.specs.declared.position.Position.{Position}
use Rattle.pebble_rules.specs.declared.moves.Move.{Move}
use Rattle.pebble_rules.specs.Rules.{start, IsComplete, cost}
use Rattle.normal_steps.specs.declared.step.Step.{Step}
use Rattle.potential_cert.specs.declared.tables.Row.{Row}
use Rattle.potential_cert.specs.Table.{HasRowWithin, IsRising}
use Rattle.potential_cert.specs.Order.{precedes}
use Rattle.cert_checker.specs.Refusals.{EachRow}
use Rattle.window_game.specs.Windows.{Window, IsWindow}
use Rattle.window_game.specs.Plays.{start_in, IsStepIn, stepped_in, step_cost_in, CanFinishIn, finish_cost_in}
use Rattle.window_game.specs.Bounds.{AreAllApart, total}
use Rattle.window_laws.specs.Images.{Renaming, AreAutomorphisms, IsTurnedTo}
use Rattle.window_floor.specs.GreedyCones.{window_floor}
use Rattle.window_images.specs.Permutations.{PermutationParts, IsRenamingBy, renamings}
use Rattle.window_images.specs.LeastImages.{least_image}
use Rattle.window_cert.specs.Certs.{ChargedParts, each, of_tracked, by_works, WindowParts, CertParts}

-- a set for each vertex below n, in order
abbrev pub sets_below : ℕ → (ℕ → Vertices) → List Vertices
sets_below zero f = []
sets_below (suc n) f = sets_below n f ++ f n ∷ []

-- the tracked operands of a vertex
abbrev pub tracked_operands : PebbleGame → Vertices → ℕ → Vertices
tracked_operands g tracked v = set.intersection (g.dag.preds v) tracked

-- the charged loads by the Work of each vertex: the listed sets; all of tracked operands; or all of these by some operations
abbrev pub load_sets : PebbleGame → Vertices → ChargedParts → List Vertices
load_sets g tracked (each sets) = sets
load_sets g tracked of_tracked = sets_below g.dag.count (tracked_operands g tracked)
load_sets g tracked (by_works works) =
    sets_below g.dag.count (λ v. cond (set.contains works v) (tracked_operands g tracked v) set.empty)

-- the window of a part of a certificate
abbrev pub window_by : PebbleGame → WindowParts → Window
window_by g x = record {
  loads = λ v. slice_index_or (load_sets g x.tracked x.charged) v set.empty;
  stores = x.stores;
  tracked = x.tracked;
  required = x.required;
}

-- the list has an image for each of n vertices and is a permutation
pub record IsPermutationOf (n : ℕ) (images : List ℕ) (p : PermutationParts) : Type 0 where
  pub many : length images ≡ n
  pub renaming : IsRenamingBy images p

-- so is each list of images, by the permutation at its place
abbrev pub ArePermutations : ℕ → List (List ℕ) → List PermutationParts → Type 0
ArePermutations n [] [] = ⊤
ArePermutations n [] (p ∷ ps) = ⊥
ArePermutations n (xs ∷ xss) [] = ⊥
ArePermutations n (xs ∷ xss) (p ∷ ps) = IsPermutationOf n xs p × ArePermutations n xss ps

-- a position reached at this cost is settled: the renamings take it to the image under which it is looked up, and this image is a row of at
-- most this cost, or its floor reaches the bound together with this cost
pub record IsSettledBy (g : PebbleGame) (w : Window) (rs : List Renaming) (rows : List Row) (bound : ℕ) (p : Position) (paid : ℕ) : Type 0 where
  pub turned : IsTurnedTo rs p (least_image rs p)
  pub settled : HasRowWithin rows (least_image rs p) paid ⊎ (bound ≤ paid + window_floor g w (least_image rs p))

-- the start is settled at no cost
abbrev pub StartSettles : PebbleGame → Window → List Renaming → List Row → ℕ → Type 0
StartSettles g w rs rows bound = IsSettledBy g w rs rows bound (start_in g w) 0

-- the step from a row leads to a settled position
abbrev pub StepSettles : PebbleGame → Window → List Renaming → List Row → ℕ → Row → Step → Type 0
StepSettles g w rs rows bound r s =
    IsSettledBy g w rs rows bound (stepped_in g w r.position s) (r.cost + step_cost_in g w r.position s)

-- so does each legal step from the row
abbrev pub StepsSettle : PebbleGame → Window → List Renaming → List Row → ℕ → Row → Type 0
StepsSettle g w rs rows bound r = (s : Step) → IsStepIn g w r.position s → StepSettles g w rs rows bound r s

-- if a play can finish at a row, the bound is at most what it costs then
abbrev pub FinishReaches : PebbleGame → Window → ℕ → Row → Type 0
FinishReaches g w bound r = CanFinishIn g w r.position → bound ≤ r.cost + finish_cost_in g w r.position

-- the rows rise and prove the bound of the window by these renamings
pub record IsValidTable (g : PebbleGame) (w : Window) (rs : List Renaming) (rows : List Row) (bound : ℕ) : Type 0 where
  pub rise : IsRising precedes rows
  pub begins : StartSettles g w rs rows bound
  pub steps : EachRow (StepsSettle g w rs rows bound) rows
  pub finishes : EachRow (FinishReaches g w bound) rows

-- a valid part: a window of the game with a load set for each vertex, automorphisms of it, and a valid table
pub record IsValidPart (g : PebbleGame) (x : WindowParts) : Type 0 where
  pub many : length (load_sets g x.tracked x.charged) ≡ g.dag.count
  pub window : IsWindow g (window_by g x)
  pub parts : List PermutationParts
  pub permutations : ArePermutations g.dag.count x.renamings parts
  pub automorphisms : AreAutomorphisms g (window_by g x) (renamings parts)
  pub table : IsValidTable g (window_by g x) (renamings parts) x.rows x.bound

-- a valid certificate of the game: its numbers are the game's, each part is valid, nothing is charged in two windows, and the bound is the
-- sum of those of the windows
pub record IsCertOf (g : PebbleGame) (c : CertParts) : Type 0 where
  pub vertices : c.vertices ≡ g.dag.count
  pub slots : c.slots ≡ g.slots
  pub load : c.load ≡ g.load
  pub store : c.store ≡ g.store
  pub sum : c.bound ≡ total (map (λ x. x.bound) c.windows)
  pub parts : (x : WindowParts) → IsIn x c.windows → IsValidPart g x
  pub apart : AreAllApart (map (window_by g) c.windows)

-- the bound of a valid certificate is at most the cost of each complete pebbling
abbrev pub CertsBoundPebblings : Type 0
CertsBoundPebblings = (g : PebbleGame) → IsDag g.dag → (c : CertParts) → IsCertOf g c
    → (ms : List Move) → IsComplete g (start g) ms → c.bound ≤ cost g ms
