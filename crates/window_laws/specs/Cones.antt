-- Cones of a position of a window, and the floor with cones, this project's own. A cone is a set of vertices none of which can get a red
-- pebble, or be worked on, without a charged load of one of them. If a needed vertex or an operand of it is in the cone, such a load has
-- still to be paid.
use Rattle.std.specs.Prelude.{◌≡◌, ℕ, ◌+◌, ◌-◌, ◌*◌, List, [], ◌∷◌, Bool, true, nat_lt, length, ⊤}
use Rattle.std.specs.FinSet as set
use Rattle.comp_graph.specs.Vertices.{Vertices, ◌∈◌, ◌∉◌, IsWithin, IsOutside, size}
use Rattle.comp_graph.specs.Games.{PebbleGame}
use Rattle.pebble_rules.specs.declared.position.Position.{Position}
use Rattle.comp_graph.specs.Lists.{IsIn}
use Rattle.window_game.specs.Windows.{Window, IsWindow, known}
use Rattle.window_laws.specs.Floors.{IsFloorAt}
use Rattle.window_laws.specs.Entry.{Group, AreGroups, Entry, IsWorker, held_for, needed_in, entries, entries_cost, credit}

-- v or an operand of v is in the set
abbrev pub touches : PebbleGame → Vertices → ℕ → Bool
touches g k v = nat_lt 0 (size (set.intersection (held_for g v) k))

-- no member is red; a member that is not tracked has not been worked on; each load of a tracked member is charged; and a member that can be
-- worked on has an operand in the set
pub record IsClosed (g : PebbleGame) (w : Window) (p : Position) (k : Vertices) : Type 0 where
  pub inside : IsWithin k (known w)
  pub not_red : IsOutside k p.red
  pub not_done : (x : ℕ) → x ∈ k → x ∉ w.tracked → x ∉ p.blue
  pub charged : (x y : ℕ) → x ∈ k → x ∈ w.tracked → IsWorker g w y → x ∈ g.dag.preds y → x ∈ w.loads y
  pub fed : (y : ℕ) → y ∈ k → IsWorker g w y → (x : ℕ) × (x ∈ g.dag.preds y) × (x ∈ k)

-- a vertex that is needed, or an operand of one, is in the set
abbrev pub IsWanted : PebbleGame → Window → Position → Vertices → Type 0
IsWanted g w p k = (v : ℕ) × (v ∈ needed_in g w p) × (touches g k v ≡ true)

-- no two sets of the list have a common member
abbrev pub AreDisjoint : List Vertices → Type 0
AreDisjoint [] = ⊤
AreDisjoint (k ∷ ks) = ((l : Vertices) → IsIn l ks → IsOutside k l) × AreDisjoint ks

-- the sets are cones of the position: each is closed and wanted, no two have a common member, and none has a value of a counted group
pub record AreCones (g : PebbleGame) (w : Window) (groups : List Group) (p : Position) (ks : List Vertices) : Type 0 where
  pub closed : (k : Vertices) → IsIn k ks → IsClosed g w p k
  pub wanted : (k : Vertices) → IsIn k ks → IsWanted g w p k
  pub disjoint : AreDisjoint ks
  pub apart : (k : Vertices) → IsIn k ks
      → (e : Entry) → IsIn e (entries g w p set.empty groups) → IsOutside k e.group.loads

-- the entry floor, and a load for each cone
unfoldable pub cone_floor : PebbleGame → Window → List Group → List Vertices → Position → ℕ
cone_floor g w groups ks p =
    g.store * size (set.difference (set.intersection g.dag.outputs w.stores) p.blue)
    + (entries_cost g p.blue (entries g w p set.empty groups) + g.load * length ks)
    - credit g p (entries g w p set.empty groups)

-- the floor with cones is a floor, whatever groups and cones it counts
abbrev pub ConeFloorHolds : Type 0
ConeFloorHolds =
    (g : PebbleGame) (w : Window) → IsWindow g w → (groups : List Group) → AreGroups g w groups
    → (p : Position) (ks : List Vertices) → AreCones g w groups p ks → IsFloorAt g w p (cone_floor g w groups ks p)

-- the set has everything that can get a red pebble, or be worked on, without a charged load: the red vertices; the vertices that are not
-- tracked and have been worked on; the tracked ones that some Work loads without a charge; and each vertex that can be worked on and all of
-- whose operands that can have a pebble are in the set
pub record IsCheap (g : PebbleGame) (w : Window) (p : Position) (c : Vertices) : Type 0 where
  pub red : IsWithin p.red c
  pub done : (x : ℕ) → x ∈ p.blue → x ∉ w.tracked → x ∈ c
  pub free : (x y : ℕ) → x ∈ w.tracked → IsWorker g w y → x ∈ g.dag.preds y → x ∉ w.loads y → x ∈ c
  pub computed : (y : ℕ) → IsWorker g w y → IsWithin (set.intersection (g.dag.preds y) (known w)) c → y ∈ c

-- a walk back outside c: with each member that can be worked on the set has those of its operands that can have a pebble and are not in c
pub record IsWalk (g : PebbleGame) (w : Window) (c k : Vertices) : Type 0 where
  pub inside : IsWithin k (known w)
  pub outside : IsOutside k c
  pub back : (y x : ℕ) → y ∈ k → IsWorker g w y → x ∈ set.intersection (g.dag.preds y) (known w) → x ∉ c → x ∈ k

-- such a walk outside a cheap set is closed
abbrev pub WalksAreClosed : Type 0
WalksAreClosed =
    (g : PebbleGame) (w : Window) (p : Position) (c k : Vertices)
    → IsCheap g w p c → IsWalk g w c k → IsClosed g w p k
