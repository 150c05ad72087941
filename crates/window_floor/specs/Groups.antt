-- The groups of a window, this project's own, in one order. The Works of the members of a group load the same values at a charge.
use Rattle.std.specs.Prelude.{ℕ, zero, suc, ◌-◌, Bool, cond, not, ◌&&◌, nat_lt, min, List, [], ◌∷◌, ◌++◌}
use Rattle.std.specs.FinSet as set
use Rattle.comp_graph.specs.Sets.{same_members}
use Rattle.comp_graph.specs.Vertices.{Vertices, any_below, set_below, size}
use Rattle.comp_graph.specs.Dags.{IsDag}
use Rattle.comp_graph.specs.Games.{PebbleGame}
use Rattle.window_game.specs.Windows.{Window}
use Rattle.window_laws.specs.Entry.{Group, AreGroups, held_for}
use Rattle.window_floor.specs.Workers.{workers_of}
use Rattle.window_floor.specs.declared.group_sets.GroupSets.{GroupSets}

-- the group that the sets are
abbrev pub group_of : GroupSets → Group
group_of s = record { members = s.members; loads = s.loads; least = s.least }

-- the workers whose Works load the same values at a charge as that of v
abbrev pub alike : PebbleGame → Window → ℕ → Vertices
alike g w v = set_below (λ u. set.contains (workers_of g w) u && same_members (w.loads u) (w.loads v)) g.dag.count

-- how many of the values are not red at least after the Work of u
abbrev pub missed : PebbleGame → Vertices → ℕ → ℕ
missed g loads u = size (set.union loads (held_for g u)) - g.slots

-- the least such number for the workers below n that are no members, and at most the number of the values
abbrev pub least_missed : PebbleGame → Window → Vertices → Vertices → ℕ → ℕ
least_missed g w members loads zero = size loads
least_missed g w members loads (suc u) =
    cond (set.contains (set.difference (workers_of g w) members) u)
    (min (least_missed g w members loads u) (missed g loads u))
    (least_missed g w members loads u)

-- the group of v
abbrev pub group_at : PebbleGame → Window → ℕ → Group
group_at g w v = record {
  members = alike g w v;
  loads = w.loads v;
  least = least_missed g w (alike g w v) (w.loads v) g.dag.count;
}

-- v is the first member of its group, and each entry of the group loads something
abbrev pub starts_group : PebbleGame → Window → ℕ → Bool
starts_group g w v =
    set.contains (workers_of g w) v
    && (not (any_below v (λ u. set.contains (alike g w v) u)) && nat_lt 0 (group_at g w v).least)

-- the groups whose first member is below n, by rising first member
abbrev pub groups_below : PebbleGame → Window → ℕ → List Group
groups_below g w zero = []
groups_below g w (suc v) = groups_below g w v ++ cond (starts_group g w v) (group_at g w v ∷ []) []

-- the groups of the window
unfoldable pub groups_of : PebbleGame → Window → List Group
groups_of g w = groups_below g w g.dag.count

-- they are groups, and no two have a member in common
abbrev pub GroupsAreGroups : Type 0
GroupsAreGroups = (g : PebbleGame) → IsDag g.dag → (w : Window) → AreGroups g w (groups_of g w)
