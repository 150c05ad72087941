-- How many hits and moves a run has at most.
use Rattle.std.proofs.Common.{ℕ, ◌+◌, ◌-◌, ◌*◌, ◌^◌, ◌≤◌, ◌<◌, Bool, true, false, cond, eqb, List, [], ◌∷◌, length, map, arith, length-append}
use Rattle.std.specs.Prelude.{Option, Some, None, slice_get}
use Rattle.std.specs.Map.{lookup_entry}
use Rattle.std.proofs.lemmas.List.{length-map}
use Rattle.comp_graph.specs.Vertices.{rising}
use Rattle.comp_graph.specs.Games.{PebbleGame}
use Rattle.comp_graph.proofs.Rising.{length-rising_le}
use Rattle.pebble_rules.specs.declared.moves.Move.{Move}
use Rattle.pebble_rules.specs.declared.moves.Move.TheVariants.{Load, Store, Compute, DropRed}
use Rattle.cache_model.specs.Caches.{Line, Cache, empty_cache, eviction, without_last, with_room, placed, touched_at, touched, all_touched, with_turn, with_turns, turns_of, dirty_outputs, with_outputs_stored}

eviction_few : (line : Line) → length (eviction line) ≤ 2
eviction_few line = by_mark line.1
  where
    by_mark : (b : Bool) → length (cond b (Store line.0 ∷ DropRed line.0 ∷ []) (DropRed line.0 ∷ [])) ≤ 2
    by_mark true = omega arith
    by_mark false = omega arith

-- at most so many hits and moves more
pub record Grows (c d : Cache) (hits moves : ℕ) : Type 0 where
  pub hits_few : d.hits ≤ c.hits + hits
  pub moves_few : length d.moves ≤ length c.moves + moves

grows_room : (slots : ℕ) (c : Cache) → Grows c (with_room slots c) 0 2
grows_room slots c = by_last (slice_get c.lines (slots - 1))
  where
    by_last : (o : Option Line) → Grows c (without_last slots c o) 0 2
    by_last None = record { hits_few = omega arith; moves_few = omega arith }
    by_last (Some last) = record { hits_few = omega arith; moves_few = (let sum = length-append c.moves (eviction last) in let few = eviction_few last in omega arith) }

grows_placed : (slots : ℕ) (c : Cache) (line : Line) (m : Move) → Grows c (placed (with_room slots c) line m) 0 3
grows_placed slots c line m =
    let room = grows_room slots c in
    record {
      hits_few = (let few = room.hits_few in omega arith);
      moves_few = (let few = room.moves_few in let sum = length-append (with_room slots c).moves (m ∷ []) in omega arith);
    }

pub grows_touched : (slots : ℕ) (c : Cache) (u : ℕ) → Grows c (touched slots c u) 1 3
grows_touched slots c u = by_line (lookup_entry (eqb u) c.lines)
  where
    by_line : (o : Option Line) → Grows c (touched_at slots c u o) 1 3
    by_line None = let all = grows_placed slots c (u, false) (Load u) in record { hits_few = (let few = all.hits_few in omega arith); moves_few = all.moves_few }
    by_line (Some l) = record { hits_few = omega arith; moves_few = omega arith }

pub grows_touches : (slots : ℕ) (c : Cache) (us : List ℕ) → Grows c (all_touched slots c us) (length us) (3 * length us)
grows_touches slots c [] = record { hits_few = omega arith; moves_few = omega arith }
grows_touches slots c (u ∷ us) =
    let one = grows_touched slots c u in
    let rest = grows_touches slots (touched slots c u) us in
    record {
      hits_few = (let a = one.hits_few in let b = rest.hits_few in omega arith);
      moves_few = (let a = one.moves_few in let b = rest.moves_few in omega arith);
    }

pub grows_turn : (g : PebbleGame) (c : Cache) (v : ℕ) → Grows c (with_turn g c v) g.dag.count (3 * g.dag.count + 3)
grows_turn g c v =
    let us : List ℕ = rising g.dag.count (g.dag.preds v) in
    let all = grows_touches g.slots c us in
    let one = grows_placed g.slots (all_touched g.slots c us) (v, true) (Compute v) in
    let few = length-rising_le g.dag.count (g.dag.preds v) in
    record {
      hits_few = (let a = all.hits_few in let b = one.hits_few in omega arith);
      moves_few = (let a = all.moves_few in let b = one.moves_few in omega arith);
    }

-- on a graph of at most 256 vertices
pub moves_of_turns : (g : PebbleGame) → g.dag.count ≤ 256 → (c : Cache) (vs : List ℕ) → length (with_turns g c vs).moves ≤ length c.moves + 771 * length vs
moves_of_turns g small c [] = omega arith
moves_of_turns g small c (v ∷ vs) =
    let one = grows_turn g c v in
    let rest = moves_of_turns g small (with_turn g c v) vs in
    let few = one.moves_few in
    omega arith

pub moves_of_run : (g : PebbleGame) → g.dag.count ≤ 256 → length (with_outputs_stored g (with_turns g empty_cache (turns_of g))).moves < 2 ^ 31
moves_of_run g small =
    let last : Cache = with_turns g empty_cache (turns_of g) in
    let turns = moves_of_turns g small empty_cache (turns_of g) in
    let many : length (turns_of g) ≤ g.dag.count = length-rising_le g.dag.count _ in
    let stores : length (dirty_outputs g last.lines) ≤ g.dag.count = length-rising_le g.dag.count _ in
    let mapped = length-map (dirty_outputs g last.lines) (λ v. Store v) in
    let sum = length-append last.moves (map Store (dirty_outputs g last.lines)) in
    omega arith
