-- What the calls add up is the floor.
use Rattle.std.proofs.Common.{◌≡◌, ℕ, ◌+◌, ◌-◌, ◌*◌, max, Bool, true, false, cond, nat_lt, map, length, List, [], ◌∷◌, sym, ap, ◌∙◌, subst, arith}
use Rattle.std.specs.FinSet.{empty, contains, union, intersection}
use Rattle.comp_graph.specs.Sets.{membership, same}
use Rattle.comp_graph.specs.Vertices.{Vertices, size}
use Rattle.comp_graph.specs.Games.{PebbleGame}
use Rattle.pebble_rules.specs.declared.position.Position.{Position}
use Rattle.window_game.specs.Windows.{Window}
use Rattle.window_game.specs.Plays.{finish_cost_in}
use Rattle.window_laws.specs.Entry.{Group, Entry, needed_in, entries, entries_cost, claim, credit}
use Rattle.window_laws.specs.Cones.{cone_floor}
use Rattle.window_floor.specs.declared.group_sets.GroupSets.{GroupSets}
use Rattle.window_floor.specs.declared.entering.Counted.{Counted}
use Rattle.window_floor.specs.Groups.{group_of, groups_of}
use Rattle.window_floor.specs.GreedyCones.{taken_cones, counted_loads, window_floor}
use Rattle.window_floor.specs.Counting.{none_counted, entry_of, with_entry, counted}

-- the counted entries and those of the rest of the list make those of the whole
record AreSums (g : PebbleGame) (p : Position) (c all : Counted) (rest : List Entry) : Type 0 where
  costs : c.cost + entries_cost g p.blue rest ≡ all.cost
  saves : max c.saved (credit g p rest) ≡ all.saved
  values : union c.loads (counted_loads rest) ≡ all.loads

union_more : (a b c : Vertices) → union a (union b c) ≡ union (union a b) c
union_more a b c = same _ _ (λ q. one q)
  where
    one : (q : ℕ) → contains (union a (union b c)) q ≡ contains (union (union a b) c) q
    one q = grind (arith, membership)

none_more : (a : Vertices) → union a empty ≡ a
none_more a = same _ _ (λ q. one q)
  where
    one : (q : ℕ) → contains (union a empty) q ≡ contains a q
    one q = grind (arith, membership)

none_before : (a : Vertices) → union empty a ≡ a
none_before a = same _ _ (λ q. one q)
  where
    one : (q : ℕ) → contains (union empty a) q ≡ contains a q
    one q = grind (arith, membership)

max_more : (a b c d : ℕ) → max (max a b) c ≡ d → max a (max b c) ≡ d
max_more a b c d h = grind arith

max_zero : (a : ℕ) → max a 0 ≡ a
max_zero a = grind arith

sums_more : (g : PebbleGame) (w : Window) (p : Position) (c all : Counted) (x : Group) (rest : List Entry) → AreSums g p (with_entry g w p c x) all rest
    → AreSums g p c all (entry_of g w p c.claimed x ∷ rest)
sums_more g w p c all x rest s = record {
  costs = (let h = s.costs in omega (arith, h));
  saves = max_more c.saved _ (credit g p rest) all.saved s.saves;
  values = union_more c.loads x.loads (counted_loads rest) ∙ s.values;
}

sums_of : (g : PebbleGame) (w : Window) (p : Position) (xs : List GroupSets) (c : Counted) → AreSums g p c (counted g w p c xs) (entries g w p c.claimed (map group_of xs))
sums_of g w p [] c = record { costs = omega arith; saves = max_zero c.saved; values = none_more c.loads }
sums_of g w p (x ∷ xs) c = cases (nat_lt 0 (size (intersection (needed_in g w p) x.members))) (sums_of g w p xs (with_entry g w p c (group_of x))) (sums_of g w p xs c)
  where
    cases : (b : Bool) → AreSums g p (with_entry g w p c (group_of x)) (counted g w p (with_entry g w p c (group_of x)) xs) (entries g w p (union c.claimed (claim g w p c.claimed (group_of x))) (map group_of xs))
        → AreSums g p c (counted g w p c xs) (entries g w p c.claimed (map group_of xs))
        → AreSums g p c (counted g w p (cond b (with_entry g w p c (group_of x)) c) xs)
        (cond b (entry_of g w p c.claimed (group_of x) ∷ entries g w p (union c.claimed (claim g w p c.claimed (group_of x))) (map group_of xs)) (entries g w p c.claimed (map group_of xs)))
    cases true more same = sums_more g w p c _ (group_of x) _ more
    cases false more same = same

first_is : (g : PebbleGame) (w : Window) (p : Position) (ks : List Vertices) (all one : ℕ) → all ≡ length ks
    → one ≡ finish_cost_in g w p + (0 + g.load * all) - 0 → one ≡ cone_floor g w [] ks p
unfolding cone_floor
first_is g w p ks all one e is = is ∙ ap (λ n. finish_cost_in g w p + (0 + g.load * n) - 0) e

second_is : (g : PebbleGame) (w : Window) (p : Position) (groups : List Group) (ks : List Vertices) (cost saved apart two : ℕ) → apart ≡ length ks
    → cost ≡ entries_cost g p.blue (entries g w p empty groups) → saved ≡ credit g p (entries g w p empty groups)
    → two ≡ finish_cost_in g w p + (cost + g.load * apart) - saved → two ≡ cone_floor g w groups ks p
unfolding cone_floor
second_is g w p groups ks cost saved apart two e costs saves is =
    is ∙ (λ i. finish_cost_in g w p + (costs i + g.load * e i) - saves i)

max_before : (a b : ℕ) → max 0 a ≡ b → b ≡ a
max_before a b h = grind arith

pub floor_is : (g : PebbleGame) (w : Window) (p : Position) (items : List GroupSets) (c : Counted) (all apart one two result : ℕ)
    → c ≡ counted g w p none_counted items → map group_of items ≡ groups_of g w
    → all ≡ length (taken_cones g w p empty g.dag.count) → apart ≡ length (taken_cones g w p c.loads g.dag.count)
    → one ≡ finish_cost_in g w p + (0 + g.load * all) - 0
    → two ≡ finish_cost_in g w p + (c.cost + g.load * apart) - c.saved
    → result ≡ max one two → result ≡ window_floor g w p
unfolding window_floor
floor_is g w p items c all apart one two result counted_is groups_are all_is apart_is one_is two_is is =
    let one_floor = first_is g w p (taken_cones g w p empty g.dag.count) all one all_is one_is in
    let two_floor = second_is g w p (groups_of g w) (taken_cones g w p (counted_loads es) g.dag.count) c.cost c.saved apart two
    (apart_is ∙ ap (λ s. length (taken_cones g w p s g.dag.count)) (sym sums.values ∙ none_before (counted_loads es)))
    (let h = sums.costs in let e : c.cost ≡ entries_cost g p.blue es = omega (arith, h) in e) (max_before _ _ sums.saves) two_is in
    is ∙ (λ i. max (one_floor i) (two_floor i))
  where
    es : List Entry
    es = entries g w p empty (groups_of g w)

    sums : AreSums g p none_counted c es
    sums = subst (λ gs. AreSums g p none_counted c (entries g w p empty gs)) groups_are (subst (λ k. AreSums g p none_counted k (entries g w p empty (map group_of items))) (sym counted_is) (sums_of g w p items none_counted))
