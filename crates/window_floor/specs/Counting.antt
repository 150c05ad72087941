-- The entries of the groups of a list, counted one after another, and what the calls keep of a window.
use Rattle.std.specs.Prelude.{◌≡◌, ◌+◌, ◌-◌, ◌*◌, ◌≤◌, List, [], ◌∷◌, map, length, cond, nat_lt, max}
use Rattle.std.specs.FinSet as set
use Rattle.comp_graph.specs.Vertices.{Vertices, size}
use Rattle.comp_graph.specs.Games.{PebbleGame}
use Rattle.pebble_rules.specs.declared.position.Position.{Position}
use Rattle.window_game.specs.Windows.{Window}
use Rattle.window_laws.specs.Entry.{Group, Entry, needed_in, claim, entry_cost}
use Rattle.window_floor.specs.Workers.{workers_of}
use Rattle.window_floor.specs.Groups.{group_of, groups_of}
use Rattle.window_floor.specs.GreedyCones.{free_of}
use Rattle.window_floor.specs.declared.group_sets.GroupSets.{GroupSets}
use Rattle.window_floor.specs.declared.entering.Counted.{Counted}
use Rattle.window_floor.specs.declared.evaluating.WindowFloor.{WindowFloor}

-- no entries
abbrev pub none_counted : Counted
none_counted = record { cost = 0; saved = 0; loads = set.empty; claimed = set.empty }

-- the entry of a group, after others have claimed some values
abbrev pub entry_of : PebbleGame → Window → Position → Vertices → Group → Entry
entry_of g w p claimed x = record { group = x; stores = claim g w p claimed x }

-- with the entry of one group more
abbrev pub with_entry : PebbleGame → Window → Position → Counted → Group → Counted
with_entry g w p c x = record {
  cost = c.cost + entry_cost g p.blue (entry_of g w p c.claimed x);
  saved = max c.saved (entry_cost g p.blue (entry_of g w p c.claimed x) - g.load * size (set.difference x.loads p.red));
  loads = set.union c.loads x.loads;
  claimed = set.union c.claimed (claim g w p c.claimed x);
}

-- with the entries of those groups of the list that have a needed member
abbrev pub counted : PebbleGame → Window → Position → Counted → List GroupSets → Counted
counted g w p c [] = c
counted g w p c (x ∷ xs) =
    counted g w p (cond (nat_lt 0 (size (set.intersection (needed_in g w p) x.members))) (with_entry g w p c (group_of x)) c) xs

-- what is kept are the workers, the free vertices and the groups of the window, of which there are at most 256
pub record IsMadeFor (g : PebbleGame) (w : Window) (made : WindowFloor) : Type 0 where
  pub workers : made.workers ≡ workers_of g w
  pub free : made.free ≡ free_of g w
  pub groups : map group_of made.groups.items ≡ groups_of g w
  pub few : length made.groups.items ≤ 256
