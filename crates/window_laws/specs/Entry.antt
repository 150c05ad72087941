-- The entry floor of a position of a window, this project's own. A group is a set of vertices whose Works load the same values at a
-- charge. After a Work of a vertex outside the group few of these values are red, because the operands of both Works do not fit the slots.
-- Each group with a member that has still to be worked on has still to be entered, and at most one of these entries is the first Work.
use Rattle.std.specs.Prelude.{◌≡◌, ℕ, ◌+◌, ◌-◌, ◌*◌, ◌≤◌, List, [], ◌∷◌, true, cond, nat_lt, max, ⊤}
use Rattle.std.specs.FinSet as set
use Rattle.comp_graph.specs.Vertices.{Vertices, ◌∈◌, ◌∉◌, IsWithin, IsOutside, size}
use Rattle.comp_graph.specs.Dags.{Dag, is_live}
use Rattle.comp_graph.specs.Games.{PebbleGame}
use Rattle.pebble_rules.specs.declared.position.Position.{Position}
use Rattle.forced_bounds.specs.Floor.{needed}
use Rattle.window_game.specs.Windows.{Window, IsWindow, known, sees}
use Rattle.window_laws.specs.Floors.{IsFloorAt}

-- some vertices, the values that the Work of each of them loads at a charge, and how many of these each entry loads at least
pub record Group : Type 0 where
  pub members : Vertices
  pub loads : Vertices
  pub least : ℕ

-- the vertex and its operands
abbrev pub held_for : PebbleGame → ℕ → Vertices
held_for g u = set.insert (g.dag.preds u) u

-- the window can show a Work of the vertex
pub record IsWorker (g : PebbleGame) (w : Window) (u : ℕ) : Type 0 where
  pub seen : sees g w u ≡ true
  pub live : is_live g.dag u ≡ true
  pub no_input : u ∉ g.dag.inputs
  pub fits : size (held_for g u) ≤ g.slots

-- the Work of each member is charged for these loads; after the Work of a vertex outside the group at least this many of the values are
-- not red, because the slots hold the vertex, its operands, and no more of the values than there is room for
pub record IsGroup (g : PebbleGame) (w : Window) (group : Group) : Type 0 where
  pub loaded : (v : ℕ) → v ∈ group.members → IsWithin group.loads (w.loads v)
  pub entered : (u : ℕ) → IsWorker g w u → u ∉ group.members
      → group.least ≤ size (set.union group.loads (held_for g u)) - g.slots

-- no vertex is in the group and in one of these
abbrev pub SharesNoMember : Group → List Group → Type 0
SharesNoMember x [] = ⊤
SharesNoMember x (y ∷ ys) = IsOutside x.members y.members × SharesNoMember x ys

-- each is a group, and no vertex is in two of them
abbrev pub AreGroups : PebbleGame → Window → List Group → Type 0
AreGroups g w [] = ⊤
AreGroups g w (x ∷ xs) = IsGroup g w x × SharesNoMember x xs × AreGroups g w xs

-- the graph of the vertices that can have a pebble; its outputs are the tracked outputs and the required vertices
abbrev pub known_dag : PebbleGame → Window → Dag
known_dag g w = record {
  count = g.dag.count;
  preds = λ v. set.intersection (g.dag.preds v) (known w);
  inputs = g.dag.inputs;
  outputs = set.union (set.intersection g.dag.outputs w.tracked) w.required;
}

-- the vertices from which a path of vertices without pebbles leads to such an output: each has still to be worked on
abbrev pub needed_in : PebbleGame → Window → Position → Vertices
needed_in g w p = needed (known_dag g w) p

-- a group that has still to be entered, and those of its values that are counted as stored before the entry loads them; no value is
-- counted for two groups
pub record Entry : Type 0 where
  pub group : Group
  pub stores : Vertices

-- the cost of an entry: its loads, and a store for each load that must be of one of those values, because the others are too few
abbrev pub entry_cost : PebbleGame → Vertices → Entry → ℕ
entry_cost g blue e =
    g.load * e.group.least
    + g.store * (e.group.least - size (set.difference e.group.loads (set.difference e.stores blue)))

-- the values of a group whose store is charged and still to come, but for outputs and what other groups have claimed
abbrev pub unsaved : PebbleGame → Window → Position → Vertices → Group → Vertices
unsaved g w p claimed x =
    set.difference (set.intersection x.loads w.stores) (set.union (set.union p.blue g.dag.outputs) claimed)

-- all of these, if the entry must load one of them, and else none
abbrev pub claim : PebbleGame → Window → Position → Vertices → Group → Vertices
claim g w p claimed x =
    cond (nat_lt (size (set.difference x.loads (unsaved g w p claimed x))) x.least) (unsaved g w p claimed x) set.empty

-- the groups of the list that have a needed member, in order
abbrev pub entries : PebbleGame → Window → Position → Vertices → List Group → List Entry
entries g w p claimed [] = []
entries g w p claimed (x ∷ xs) =
    cond (nat_lt 0 (size (set.intersection (needed_in g w p) x.members)))
    (record { group = x; stores = claim g w p claimed x } ∷ entries g w p (set.union claimed (claim g w p claimed x)) xs)
    (entries g w p claimed xs)

-- the cost of all these entries
abbrev pub entries_cost : PebbleGame → Vertices → List Entry → ℕ
entries_cost g blue [] = 0
entries_cost g blue (e ∷ es) = entry_cost g blue e + entries_cost g blue es

-- the most that one of them saves if no Work comes before it
abbrev pub credit : PebbleGame → Position → List Entry → ℕ
credit g p [] = 0
credit g p (e ∷ es) = max (entry_cost g p.blue e - g.load * size (set.difference e.group.loads p.red)) (credit g p es)

-- a store of each output that is not blue and whose store is charged, and the entries less what one of them saves
unfoldable pub entry_floor : PebbleGame → Window → List Group → Position → ℕ
entry_floor g w groups p =
    g.store * size (set.difference (set.intersection g.dag.outputs w.stores) p.blue)
    + entries_cost g p.blue (entries g w p set.empty groups) - credit g p (entries g w p set.empty groups)

-- the entry floor is a floor, whatever groups it counts
abbrev pub EntryFloorHolds : Type 0
EntryFloorHolds =
    (g : PebbleGame) (w : Window) → IsWindow g w → (groups : List Group) → AreGroups g w groups
    → (p : Position) → IsFloorAt g w p (entry_floor g w groups p)
