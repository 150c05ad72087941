-- How the fields of a chunk stand for its numbers.
use Rattle.std.specs.Prelude.{◌≡◌, ◌*◌, ◌^◌, ◌<◌, ◌≤◌, length}
use Rattle.raw_chunk.specs.Numbers.{Numbers}
use Rattle.raw_chunk.specs.declared.chunk.Chunk.TheInside.{Inside}

-- the numbers of a chunk, and the room that its block has for them
abbrev pub numbers_of : Inside → Numbers
numbers_of a = record { room = a.room; items = a.cells.items }

-- the owner and the pointer are of one block of this room, whose bytes can be counted
pub record IsChunk (a : Inside) : Type 0 where
  pub at : a.cells.at ≡ a.base.ptr
  pub room : a.cells.room ≡ a.room
  pub small : a.room * 8 < 2 ^ 63
  pub len : a.len ≡ length a.cells.items
  pub within : a.len ≤ a.room
  pub deed : (a.deed.at ≡ a.base.ptr) × (a.deed.room ≡ a.room) × (a.deed.alloc ≡ a.alloc)
