-- The emitter's arrays, as a layout.
use Rattle.std.specs.Prelude.{◌≢◌, ◌<◌, length, slice_index}
use Rattle.std.specs.FinSet as set
use Rattle.comp_graph.specs.Vertices.{AllBelow}
use Rattle.comp_graph.specs.Graphs.{GraphParts}
use Rattle.pebble_rules.specs.declared.moves.Move.{Move}
use Rattle.pebble_rules.specs.declared.moves.Move.TheVariants.{Load, Store, Compute, DropRed, DropBlue}
use Rattle.slot_alloc.specs.declared.emitter.Emitter.{Emitter}
use Rattle.slot_alloc.specs.Emitted.{Layout}

-- what the emitter's fields say
abbrev pub layout_of : Emitter → Layout
layout_of e = record { free = e.free; slot_of = λ v. slice_index e.slot_of v; word_of = λ v. slice_index e.word_of v; words = e.words }

-- what the emitter needs for a move
abbrev pub CanBePlayed : GraphParts → Layout → Move → Type 0
CanBePlayed g l (Load v) = (v < 256) × (set.empty ≢ l.free) × AllBelow 64 l.free
CanBePlayed g l (Store v) = (v < 256) × (l.words < 256)
CanBePlayed g l (Compute v) = (v < length g.nodes) × (set.empty ≢ l.free) × AllBelow 64 l.free
CanBePlayed g l (DropRed v) = (v < 256) × (l.slot_of v < 64)
CanBePlayed g l (DropBlue v) = ⊥
