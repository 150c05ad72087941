-- Cones of a position of a window that are found one after another, this project's own, and the floor that is made of these.
use Rattle.std.specs.Prelude.{ℕ, zero, suc, cond, not, ◌&&◌, max, List, [], ◌∷◌}
use Rattle.std.specs.FinSet as set
use Rattle.comp_graph.specs.Vertices.{Vertices}
use Rattle.comp_graph.specs.Dags.{IsDag}
use Rattle.comp_graph.specs.Games.{PebbleGame}
use Rattle.pebble_rules.specs.declared.position.Position.{Position}
use Rattle.normal_steps.specs.StepTests.{is_within}
use Rattle.forced_bounds.specs.Floor.{wanted, meets, only}
use Rattle.window_game.specs.Windows.{Window, IsWindow}
use Rattle.window_laws.specs.Entry.{Entry, known_dag, entries}
use Rattle.window_laws.specs.Cones.{cone_floor}
use Rattle.window_laws.specs.Floors.{IsFloorAt}
use Rattle.window_floor.specs.Workers.{workers_of}
use Rattle.window_floor.specs.Groups.{groups_of}

-- the operands that the Works of the workers below n load without a charge
abbrev pub free_below : PebbleGame → Window → ℕ → Vertices
free_below g w zero = set.empty
free_below g w (suc v) =
    cond (set.contains (workers_of g w) v)
    (set.union (free_below g w v) (set.difference (g.dag.preds v) (w.loads v)))
    (free_below g w v)

-- the tracked vertices that some Work loads without a charge
abbrev pub free_of : PebbleGame → Window → Vertices
free_of g w = set.intersection w.tracked (free_below g w g.dag.count)

-- the vertices that need no charged load: the red ones, the blue ones that are not tracked, the free ones, and of the workers below n,
-- by rising number, each one all of whose known operands are such vertices
abbrev pub cheap_below : PebbleGame → Window → Position → ℕ → Vertices
cheap_below g w p zero = set.union p.red (set.union (set.difference p.blue w.tracked) (free_of g w))
cheap_below g w p (suc v) =
    cond (set.contains (workers_of g w) v && is_within ((known_dag g w).preds v) (cheap_below g w p v))
    (set.insert (cheap_below g w p v) v)
    (cheap_below g w p v)

-- all such vertices
abbrev pub cheap_at : PebbleGame → Window → Position → Vertices
cheap_at g w p = cheap_below g w p g.dag.count

-- a walk back: with each member of the set below n, by falling number, it has the known operands of the member that are not in c
abbrev pub walked_back : PebbleGame → Window → Vertices → ℕ → Vertices → Vertices
walked_back g w c zero k = k
walked_back g w c (suc v) k =
    walked_back g w c v (cond (set.contains k v) (set.union k (set.difference ((known_dag g w).preds v) c)) k)

-- the cone of v: the walk back from v outside the cheap vertices
abbrev pub cone_at : PebbleGame → Window → Position → ℕ → Vertices
cone_at g w p v = walked_back g w (cheap_at g w p) (suc v) (only v)

-- the vertices that are needed or are operands of needed ones, and that need a charged load
abbrev pub wanted_at : PebbleGame → Window → Position → Vertices
wanted_at g w p = set.difference (wanted (known_dag g w) p) (cheap_at g w p)

-- the members of the sets of a list
abbrev pub joined : List Vertices → Vertices
joined [] = set.empty
joined (k ∷ ks) = set.union k (joined ks)

-- the wanted vertices below n are gone through in rising order: the cone of one is taken if it has no vertex in common with `avoid` and
-- with the cones taken before
abbrev pub taken_cones : PebbleGame → Window → Position → Vertices → ℕ → List Vertices
taken_cones g w p avoid zero = []
taken_cones g w p avoid (suc v) =
    cond (set.contains (wanted_at g w p) v
    && not (meets (cone_at g w p v) (set.union avoid (joined (taken_cones g w p avoid v)))))
    (cone_at g w p v ∷ taken_cones g w p avoid v)
    (taken_cones g w p avoid v)

-- the values of the groups that are counted
abbrev pub counted_loads : List Entry → Vertices
counted_loads [] = set.empty
counted_loads (e ∷ es) = set.union e.group.loads (counted_loads es)

-- the greater of two floors: one counts no groups, the other all groups of the window and the cones apart from them
unfoldable pub window_floor : PebbleGame → Window → Position → ℕ
window_floor g w p =
    max (cone_floor g w [] (taken_cones g w p set.empty g.dag.count) p)
    (cone_floor g w (groups_of g w)
    (taken_cones g w p (counted_loads (entries g w p set.empty (groups_of g w))) g.dag.count) p)

-- it is a floor at each position of each window
abbrev pub WindowFloorHolds : Type 0
WindowFloorHolds =
    (g : PebbleGame) → IsDag g.dag → (w : Window) → IsWindow g w → (p : Position) → IsFloorAt g w p (window_floor g w p)
