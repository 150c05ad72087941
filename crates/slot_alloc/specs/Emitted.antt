-- The code of a list of moves, this project's convention: a placement takes the lowest free slot, a store the next word, and input k
-- stands in word k. The operands of an instruction stand in the order of the source.
use Rattle.std.specs.Prelude.{ℕ, ◌+◌, true, cond, nat_eq, nat_lt, pos, Option, None, Some, List, [], ◌∷◌, ◌++◌, length, map, slice_get, slice_index_or}
use Rattle.std.specs.FinSet as set
use Rattle.comp_graph.specs.declared.operation.Op.{Op}
use Rattle.comp_graph.specs.declared.node.Operand.{Operand}
use Rattle.comp_graph.specs.declared.node.Operand.TheVariants.{Vertex, Const as Constant}
use Rattle.comp_graph.specs.declared.node.Node.{Node}
use Rattle.comp_graph.specs.declared.node.Output.{Output}
use Rattle.comp_graph.specs.Operations.{arity_of}
use Rattle.comp_graph.specs.Graphs.{GraphParts}
use Rattle.comp_graph.specs.Vertices.{Vertices, rising, set_below}
use Rattle.pebble_rules.specs.declared.moves.Move.{Move}
use Rattle.pebble_rules.specs.declared.moves.Move.TheVariants.{Load as LoadMove, Store as StoreMove, Compute, DropRed, DropBlue}
use Rattle.scratch_machine.specs.declared.code.Source.{Source}
use Rattle.scratch_machine.specs.declared.code.Source.TheVariants.{Slot, Const}
use Rattle.scratch_machine.specs.declared.code.Instr.{Instr}
use Rattle.scratch_machine.specs.declared.code.Instr.TheVariants.{Load, Store, Apply}
use Rattle.scratch_machine.specs.declared.code.OutWord.{OutWord}
use Rattle.scratch_machine.specs.Codes.{CodeParts}

-- the free slots, the slot of each red vertex, the word of each blue vertex, and how many words are taken
pub record Layout : Type 0 where
  pub free : Vertices
  pub slot_of : ℕ → ℕ
  pub word_of : ℕ → ℕ
  pub words : ℕ

-- f with the value x at k
abbrev pub changed : (ℕ → ℕ) → ℕ → ℕ → ℕ → ℕ
changed f k x = λ q. cond (nat_eq q k) x (f q)

-- the first number of a list, and 0 if there is none
abbrev pub first : List ℕ → ℕ
first [] = 0
first (x ∷ xs) = x

-- the lowest member, and 0 where there is none
unfoldable pub lowest : Vertices → ℕ
lowest s = first (rising 256 s)

-- the vertex takes a slot
abbrev pub slot_given_at : Layout → ℕ → ℕ → Layout
slot_given_at l v s = record { free = set.remove l.free s; slot_of = changed l.slot_of v s; word_of = l.word_of; words = l.words }

-- the vertex takes the lowest free slot
abbrev pub slot_given : Layout → ℕ → Layout
slot_given l v = slot_given_at l v (lowest l.free)

-- the vertex's slot becomes free
abbrev pub slot_freed : Layout → ℕ → Layout
slot_freed l v = record { free = set.insert l.free (l.slot_of v); slot_of = l.slot_of; word_of = l.word_of; words = l.words }

-- the vertex takes the next word
abbrev pub word_given : Layout → ℕ → Layout
word_given l v = record { free = l.free; slot_of = l.slot_of; word_of = changed l.word_of v l.words; words = l.words + 1 }

-- an operand by the slots of the vertices
abbrev pub source_of : (ℕ → ℕ) → Operand → Source
source_of slot_of (Vertex u) = Slot (slot_of u)
source_of slot_of (Constant c) = Const c

-- operand k, or the constant 0 from the arity on
abbrev pub source_at : (ℕ → ℕ) → Op → List Operand → ℕ → Source
source_at slot_of op args k = cond (nat_lt k (arity_of op)) (source_of slot_of (slice_index_or args k (Constant (pos 0)))) (Const (pos 0))

-- the three operands of an instruction
abbrev pub sources : (ℕ → ℕ) → Op → List Operand → List Source
sources slot_of op args = source_at slot_of op args 0 ∷ source_at slot_of op args 1 ∷ source_at slot_of op args 2 ∷ []

-- the instruction that computes a node, into the lowest free slot
abbrev pub application : Layout → Option Node → List Instr
application l None = []
application l (Some n) = Apply n.op (lowest l.free) (sources l.slot_of n.op n.args) ∷ []

-- the instructions of a move
abbrev pub code_of_move : GraphParts → Layout → Move → List Instr
code_of_move g l (LoadMove v) = Load (lowest l.free) (l.word_of v) ∷ []
code_of_move g l (StoreMove v) = Store (l.slot_of v) l.words ∷ []
code_of_move g l (Compute v) = application l (slice_get g.nodes v)
code_of_move g l (DropRed v) = []
code_of_move g l (DropBlue v) = []

-- the layout after a move
abbrev pub layout_after : Layout → Move → Layout
layout_after l (LoadMove v) = slot_given l v
layout_after l (StoreMove v) = word_given l v
layout_after l (Compute v) = slot_given l v
layout_after l (DropRed v) = slot_freed l v
layout_after l (DropBlue v) = l

-- the instructions of a list of moves
abbrev pub emitted : GraphParts → Layout → List Move → List Instr
emitted g l [] = []
emitted g l (m ∷ ms) = code_of_move g l m ++ emitted g (layout_after l m) ms

-- the layout after a list of moves
abbrev pub layout_after_all : Layout → List Move → Layout
layout_after_all l [] = l
layout_after_all l (m ∷ ms) = layout_after_all (layout_after l m) ms

-- all slots are free, and input k has word k
abbrev pub first_layout : GraphParts → ℕ → Layout
first_layout g slots = record { free = set_below (λ s. true) slots; slot_of = λ v. 0; word_of = λ v. cond (nat_lt v (length g.names)) v 0; words = length g.names }

-- each output element names its vertex's word
abbrev pub output_words : Layout → List Output → List OutWord
output_words l os = map (λ o. record { label = o.label; word = l.word_of o.vertex }) os

-- the code that is emitted for a list of moves
abbrev pub code_of : GraphParts → ℕ → List Move → CodeParts
code_of g slots ms = record {
  slots = slots;
  words = (layout_after_all (first_layout g slots) ms).words;
  inputs = g.names;
  outputs = output_words (layout_after_all (first_layout g slots) ms) g.outputs;
  instructions = emitted g (first_layout g slots) ms;
}
