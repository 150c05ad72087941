-- The first numbers are written.
use Rattle.std.proofs.Common.{◌≡◌, ◌++◌, take}
use Rattle.raw_chunk.specs.Numbers.{with_items}
use Rattle.raw_chunk.proofs.chunk.Chunk.extend.Given as goal

abbrev pub invariant-loop-number : goal.invariant-loop-number
invariant-loop-number l = l.self ≡ with_items l.initial.self (l.initial.self.items ++ take l.number-index l.numbers)
