-- What the lines of a code text say, one item a line: its kind, by the first word, and its fields, which are the other words.
use Rattle.std.specs.Prelude.{◌≡◌, ◌≢◌, ℕ, ◌<◌, ◌≤◌, List, [], ◌∷◌, ◌++◌, map, take, drop, length, pos, ⊤, Option, MatchOption, codes, FitsSigned}
use Rattle.std.specs.Int.{w64}
use Rattle.std.specs.Fmt.{decimal}
use Rattle.std.specs.List.{All}
use Rattle.comp_graph.specs.declared.operation.Op.{Op}
use Rattle.comp_graph.specs.declared.operation.Op.TheVariants.{Input}
use Rattle.comp_graph.specs.Operations.{arity_of, op_word}
use Rattle.scratch_machine.specs.declared.code.Source.{Source}
use Rattle.scratch_machine.specs.declared.code.Source.TheVariants.{Slot, Const}
use Rattle.scratch_machine.specs.declared.code.Instr.{Instr}
use Rattle.scratch_machine.specs.declared.code.Instr.TheVariants.{Load, Store, Apply}
use Rattle.scratch_machine.specs.Codes.{CodeParts, IsInstr, IsApply}
use Rattle.line_texts.specs.Words.{after_spaces, line}
use Rattle.scratch_code.specs.declared.item.Item.{Item}
use Rattle.scratch_code.specs.declared.item.Item.TheVariants.{Slots, Words, In, Out, Do, End}
use Rattle.scratch_code.specs.declared.kind.Kind.{Kind}
use Rattle.scratch_code.specs.declared.kind.Kind.TheVariants as kinds
use Rattle.scratch_code.specs.CodeText.{operand_text}
use Rattle.scratch_code.specs.CodeTexts.{HasSmallConstant, HasSmallConstants}
use Rattle.scratch_code.specs.Labels.{IsLabel}

-- the first word of a line of this kind
abbrev pub word_of_kind : Kind → List ℕ
word_of_kind kinds.Slots = codes "slots"
word_of_kind kinds.Words = codes "words"
word_of_kind kinds.In = codes "in"
word_of_kind kinds.Out = codes "out"
word_of_kind kinds.Load = codes "load"
word_of_kind kinds.Store = codes "store"
word_of_kind (kinds.Apply op) = op_word op
word_of_kind kinds.End = codes "end"

-- no line is an operation `Input`
abbrev pub IsKind : Kind → Type 0
IsKind (kinds.Apply op) = op ≢ Input
IsKind kind = ⊤

abbrev pub kind_of_instr : Instr → Kind
kind_of_instr (Load s a) = kinds.Load
kind_of_instr (Store s a) = kinds.Store
kind_of_instr (Apply op s args) = kinds.Apply op

abbrev pub kind_of : Item → Kind
kind_of (Slots n) = kinds.Slots
kind_of (Words n) = kinds.Words
kind_of (In label) = kinds.In
kind_of (Out o) = kinds.Out
kind_of (Do i) = kind_of_instr i
kind_of End = kinds.End

abbrev pub fields_of_instr : Instr → List (List ℕ)
fields_of_instr (Load s a) = decimal s ∷ decimal a ∷ []
fields_of_instr (Store s a) = decimal s ∷ decimal a ∷ []
fields_of_instr (Apply op s args) = decimal s ∷ map operand_text (take (arity_of op) args)

abbrev pub fields_of : Item → List (List ℕ)
fields_of (Slots n) = decimal n ∷ []
fields_of (Words n) = decimal n ∷ []
fields_of (In label) = label ∷ []
fields_of (Out o) = o.label ∷ decimal o.word ∷ []
fields_of (Do i) = fields_of_instr i
fields_of End = []

-- the line of an item
abbrev pub spelled : Item → List ℕ
spelled i = line (word_of_kind (kind_of i)) (fields_of i)

-- an item that some code has
abbrev pub IsItem : Item → Type 0
IsItem (Slots n) = n ≤ 64
IsItem (Words n) = n ≤ 256
IsItem (In label) = IsLabel label
IsItem (Out o) = IsLabel o.label × (o.word < 256)
IsItem (Do i) = IsInstr 64 256 i × HasSmallConstants i
IsItem End = ⊤

-- what the lines of a code say, in order
abbrev pub items_of : CodeParts → List Item
items_of c = Slots c.slots ∷ Words c.words ∷ (map In c.inputs ++ (map Out c.outputs ++ (map Do c.instructions ++ End ∷ [])))

-- an operand that some code has
abbrev pub IsOperand : Source → Type 0
IsOperand (Slot k) = k < 64
IsOperand (Const z) = FitsSigned w64 z

-- operands in three places, of which those that the operation does not take hold 0
pub record AreOperands (op : Op) (args : List Source) : Type 0 where
  pub three : length args ≡ 3
  pub operands : All IsOperand args
  pub rest : All (λ a. a ≡ Const (pos 0)) (drop (arity_of op) args)

-- a slot and a word, to the end of a line, or these bytes are none
abbrev pub AreSlotAndWord : List ℕ → Option (ℕ × ℕ) → Type 0
AreSlotAndWord rest r =
    MatchOption r ((s a : ℕ) → s < 64 → a < 256 → rest ≢ after_spaces (decimal s ∷ decimal a ∷ []))
    (λ p. (p.0 < 64) × (p.1 < 256) × (rest ≡ after_spaces (decimal p.0 ∷ decimal p.1 ∷ [])))

-- no item of this kind has these fields
abbrev pub HasNoFields : Kind → List ℕ → Type 0
HasNoFields kinds.Slots rest = (n : ℕ) → n < 65 → rest ≢ after_spaces (decimal n ∷ [])
HasNoFields kinds.Words rest = (n : ℕ) → n < 257 → rest ≢ after_spaces (decimal n ∷ [])
HasNoFields kinds.In rest = (label : List ℕ) → IsLabel label → rest ≢ after_spaces (label ∷ [])
HasNoFields kinds.Out rest = (label : List ℕ) (n : ℕ) → IsLabel label → n < 256 → rest ≢ after_spaces (label ∷ decimal n ∷ [])
HasNoFields kinds.Load rest = (s a : ℕ) → s < 64 → a < 256 → rest ≢ after_spaces (decimal s ∷ decimal a ∷ [])
HasNoFields kinds.Store rest = (s a : ℕ) → s < 64 → a < 256 → rest ≢ after_spaces (decimal s ∷ decimal a ∷ [])
HasNoFields (kinds.Apply op) rest = (s : ℕ) (args : List Source) → IsApply 64 op s args → All HasSmallConstant args → rest ≢ after_spaces (decimal s ∷ map operand_text (take (arity_of op) args))
HasNoFields kinds.End rest = rest ≢ []

-- the item of this kind that has these fields, or there is none
abbrev pub AreFieldsOf : Kind → List ℕ → Option Item → Type 0
AreFieldsOf kind rest r = MatchOption r (HasNoFields kind rest) (λ i. IsItem i × (kind_of i ≡ kind) × (rest ≡ after_spaces (fields_of i)))

-- the item that a line says, or it says none
abbrev pub IsItemOf : List ℕ → Option Item → Type 0
IsItemOf text r = MatchOption r ((i : Item) → IsItem i → text ≢ spelled i) (λ i. IsItem i × (text ≡ spelled i))
