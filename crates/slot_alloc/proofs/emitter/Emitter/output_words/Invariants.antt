-- As many output elements as the index says have their words.
use Rattle.std.proofs.Common.{◌≡◌, take}
use Rattle.slot_alloc.specs.Emitted.{output_words}
use Rattle.slot_alloc.specs.Emitters.{layout_of}
use Rattle.slot_alloc.proofs.emitter.Emitter.output_words.Given as goal

abbrev pub invariant-loop-output : goal.invariant-loop-output
invariant-loop-output l = l.named.items ≡ output_words (layout_of l.self) (take l.output-index l.outputs)
