-- No place that was looked at is free or has the key.
use Rattle.std.proofs.Common.{◌≡◌, ◌<◌, length}
use Rattle.position_arena.specs.Index.{hash_of, homed, probed, keys_of}
use Rattle.position_arena.proofs.IndexLaws.{Passed}
use Rattle.position_arena.proofs.index.find.Given as goal

-- no place that was looked at is free or has the key
abbrev pub invariant-turns : goal.invariant-turns
invariant-turns l =
    (homed (length l.places) (hash_of l.key) < length l.places)
    × (l.at ≡ probed (length l.places) (homed (length l.places) (hash_of l.key)) l._turn)
    × Passed (keys_of (length l.key) l.store.rows) l.places l.key l._turn
