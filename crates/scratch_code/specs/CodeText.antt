-- The text of a code, as lines of words (this project's convention).
use Rattle.std.specs.Prelude.{ℕ, List, [], ◌∷◌, ◌++◌, map, take, codes}
use Rattle.std.specs.Fmt.{decimal, signed_decimal}
use Rattle.comp_graph.specs.Operations.{arity_of, op_word}
use Rattle.scratch_machine.specs.declared.code.Source.{Source}
use Rattle.scratch_machine.specs.declared.code.Source.TheVariants.{Slot, Const}
use Rattle.scratch_machine.specs.declared.code.Instr.{Instr}
use Rattle.scratch_machine.specs.declared.code.Instr.TheVariants.{Load, Store, Apply}
use Rattle.scratch_machine.specs.declared.code.OutWord.{OutWord}
use Rattle.scratch_machine.specs.Codes.{CodeParts}
use Rattle.line_texts.specs.Lines.{ended}
use Rattle.line_texts.specs.Words.{line}

-- an operand: `s` and the slot, or `#` and the constant
abbrev pub operand_text : Source → List ℕ
operand_text (Slot k) = codes "s" ++ decimal k
operand_text (Const c) = codes "#" ++ signed_decimal c

-- an instruction: its word, its slot, and its word of memory or as many operands as the operation takes
abbrev pub line_of_instr : Instr → List ℕ
line_of_instr (Load slot word) = line (codes "load") (decimal slot ∷ decimal word ∷ [])
line_of_instr (Store slot word) = line (codes "store") (decimal slot ∷ decimal word ∷ [])
line_of_instr (Apply op slot args) = line (op_word op) (decimal slot ∷ map operand_text (take (arity_of op) args))

-- an input: its label
abbrev pub line_of_input : List ℕ → List ℕ
line_of_input label = line (codes "in") (label ∷ [])

-- an output: its label and its word
abbrev pub line_of_output : OutWord → List ℕ
line_of_output o = line (codes "out") (o.label ∷ decimal o.word ∷ [])

-- the lines of the numbers of slots and words
abbrev pub head_lines : ℕ → ℕ → List (List ℕ)
head_lines slots words = line (codes "slots") (decimal slots ∷ []) ∷ line (codes "words") (decimal words ∷ []) ∷ []

-- the lines of a code: the numbers of slots and words, the inputs, the outputs, the instructions, and `end`
abbrev pub lines_of_code : CodeParts → List (List ℕ)
lines_of_code c =
    head_lines c.slots c.words
    ++ (map line_of_input c.inputs ++ (map line_of_output c.outputs ++ (map line_of_instr c.instructions ++ codes "end" ∷ [])))

-- the text of a code
abbrev pub code_text : CodeParts → List ℕ
code_text c = ended (lines_of_code c)
