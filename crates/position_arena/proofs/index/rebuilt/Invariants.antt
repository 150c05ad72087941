-- The rows so far are in the index.
use Rattle.std.proofs.Common.{◌≡◌, length, take}
use Rattle.position_arena.specs.Index.{IsIndex, keys_of}
use Rattle.position_arena.proofs.index.rebuilt.Given as goal

-- the rows so far are in the index
abbrev pub invariant-rows : goal.invariant-rows
invariant-rows l = IsIndex (take l.k (keys_of l.width l.store.rows)) l.places.items × (length l.places.items ≡ l.size)
