-- No place that was looked at is free.
use Rattle.std.proofs.Common.{◌≡◌, ℕ, ◌<◌, ◌≢◌, length}
use Rattle.position_arena.specs.Index.{nowhere, homed, probed, met}
use Rattle.position_arena.proofs.index.insert.Given as goal

-- the places are as they were, and none that was looked at is free
abbrev pub invariant-turns : goal.invariant-turns
invariant-turns l =
    (l.places ≡ l.initial.places)
    × (homed (length l.places) l.hash < length l.places)
    × (l.at ≡ probed (length l.places) (homed (length l.places) l.hash) l._turn)
    × ((t : ℕ) → t < l._turn → met l.places (homed (length l.places) l.hash) t ≢ nowhere)
