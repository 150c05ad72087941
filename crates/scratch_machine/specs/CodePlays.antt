-- A code plays a list of moves on a graph where both lists can be gone through together: what each move needs of its instruction,
-- which vertex each slot and word then has, and the law that such a code computes the graph's outputs.
use Rattle.std.specs.Prelude.{◌≡◌, ℕ, None, Some, cond, nat_lt, Ok, ℤ, List, [], ◌∷◌, length, take, slice_get, ⊤}
use Rattle.comp_graph.specs.declared.operation.Op.{Op}
use Rattle.comp_graph.specs.declared.node.Operand.{Operand}
use Rattle.comp_graph.specs.declared.node.Operand.TheVariants.{Vertex, Const as Constant}
use Rattle.comp_graph.specs.declared.node.Node.{Node}
use Rattle.comp_graph.specs.declared.node.Output.{Output}
use Rattle.comp_graph.specs.Operations.{arity_of}
use Rattle.comp_graph.specs.Graphs.{GraphParts, IsGraph, operands_of}
use Rattle.pebble_rules.specs.declared.moves.Move.{Move}
use Rattle.pebble_rules.specs.declared.moves.Move.TheVariants.{Load as LoadMove, Store as StoreMove, Compute, DropRed, DropBlue}
use Rattle.pebble_rules.specs.Transfers.{loads, stores}
use Rattle.scratch_machine.specs.declared.code.Source.{Source}
use Rattle.scratch_machine.specs.declared.code.Source.TheVariants.{Slot, Const}
use Rattle.scratch_machine.specs.declared.code.Instr.{Instr}
use Rattle.scratch_machine.specs.declared.code.Instr.TheVariants.{Load, Store, Apply}
use Rattle.scratch_machine.specs.declared.code.OutWord.{OutWord}
use Rattle.scratch_machine.specs.Cells.{Cells, empty, put, cleared, IsNowhere}
use Rattle.scratch_machine.specs.Codes.{CodeParts, IsCode}
use Rattle.scratch_machine.specs.Machines.{run}
use Rattle.scratch_machine.specs.Values.{AreValues, output_values}

-- the vertex that each slot has, and each word
pub record Places : Type 0 where
  pub slots : Cells ℕ
  pub words : Cells ℕ

-- an operand that is a vertex is named by a slot that has it, and a constant is the same
abbrev pub Names : Cells ℕ → Operand → Source → Type 0
Names slots (Vertex u) (Slot k) = slots k ≡ Some u
Names slots (Vertex u) (Const c) = ⊥
Names slots (Constant d) (Slot k) = ⊥
Names slots (Constant d) (Const c) = c ≡ d

-- each operand is named by the source in its place
abbrev pub NamesAll : Cells ℕ → List Operand → List Source → Type 0
NamesAll slots [] [] = ⊤
NamesAll slots [] (a ∷ args) = ⊥
NamesAll slots (x ∷ xs) [] = ⊥
NamesAll slots (x ∷ xs) (a ∷ args) = Names slots x a × NamesAll slots xs args

-- `load s a` plays the load of v: word a has v, slot s is free, and v is in no slot
pub record IsLoadOf (p : Places) (v s a : ℕ) : Type 0 where
  pub from_word : p.words a ≡ Some v
  pub free_slot : p.slots s ≡ None
  pub in_no_slot : IsNowhere p.slots v

-- `store s a` plays the store of v: slot s has v, and word a is free
pub record IsStoreOf (p : Places) (v s a : ℕ) : Type 0 where
  pub from_slot : p.slots s ≡ Some v
  pub free_word : p.words a ≡ None

-- an operation plays the computation of v: it is that of v's node at v's operands, slot s is free while they are read, and v is in
-- no slot
pub record IsComputeOf (g : GraphParts) (p : Places) (v : ℕ) (op : Op) (s : ℕ) (args : List Source) : Type 0 where
  pub node : Node
  pub is_node : slice_get g.nodes v ≡ Some node
  pub same_op : node.op ≡ op
  pub operands : NamesAll p.slots (operands_of node) (take (arity_of op) args)
  pub free_slot : p.slots s ≡ None
  pub in_no_slot : IsNowhere p.slots v

-- slot s has v, and the rest what it had
abbrev pub with_slot : Places → ℕ → ℕ → Places
with_slot p s v = record { slots = put p.slots s v; words = p.words }

-- word a has v, and the rest what it had
abbrev pub with_word : Places → ℕ → ℕ → Places
with_word p a v = record { slots = p.slots; words = put p.words a v }

-- slot s has nothing, and the rest what it had
abbrev pub without_slot : Places → ℕ → Places
without_slot p s = record { slots = cleared p.slots s; words = p.words }

-- the instructions play the moves from p, and q is what the slots and words have at the end; removing a red pebble takes no
-- instruction, and no blue one is removed
abbrev pub Plays : GraphParts → Places → List Move → List Instr → Places → Type 0
Plays g p [] [] q = p ≡ q
Plays g p [] (i ∷ is) q = ⊥
Plays g p (LoadMove v ∷ ms) (Load s a ∷ is) q = IsLoadOf p v s a × Plays g (with_slot p s v) ms is q
Plays g p (LoadMove v ∷ ms) _ q = ⊥
Plays g p (StoreMove v ∷ ms) (Store s a ∷ is) q = IsStoreOf p v s a × Plays g (with_word p a v) ms is q
Plays g p (StoreMove v ∷ ms) _ q = ⊥
Plays g p (Compute v ∷ ms) (Apply op s args ∷ is) q = IsComputeOf g p v op s args × Plays g (with_slot p s v) ms is q
Plays g p (Compute v ∷ ms) _ q = ⊥
Plays g p (DropRed v ∷ ms) is q = (s : ℕ) × (p.slots s ≡ Some v) × Plays g (without_slot p s) ms is q
Plays g p (DropBlue v ∷ ms) is q = ⊥

-- no slot has a vertex, and word k has input k
abbrev pub first_places : GraphParts → Places
first_places g = record { slots = empty; words = λ k. cond (nat_lt k (length g.names)) (Some k) None }

-- each output's word has that output's vertex
abbrev pub HasOutputs : Places → List Output → List OutWord → Type 0
HasOutputs p [] [] = ⊤
HasOutputs p [] (w ∷ ws) = ⊥
HasOutputs p (o ∷ os) [] = ⊥
HasOutputs p (o ∷ os) (w ∷ ws) = (p.words w.word ≡ Some o.vertex) × HasOutputs p os ws

-- the code plays the moves
pub record CodePlays (g : GraphParts) (c : CodeParts) (ms : List Move) : Type 0 where
  pub last : Places
  pub plays : Plays g (first_places g) ms c.instructions last
  pub outputs : HasOutputs last g.outputs c.outputs

-- a code that plays a list of moves gives the output values on every input, with exactly the loads and stores of the moves
abbrev pub CodeComputesOutputs : Type 0
CodeComputesOutputs = (g : GraphParts) (c : CodeParts) (ms : List Move) → IsCode c → CodePlays g c ms
    → (inputs : List ℤ) → length inputs ≡ length g.names → (value : ℕ → ℤ) → AreValues g inputs value
    → run c inputs ≡ Ok (record { outputs = output_values g value; loads = loads ms; stores = stores ms })

-- the vertices have values on these inputs, and the run of the code gives those of the outputs, with this many loads and stores
pub record GivesOutputs (g : GraphParts) (c : CodeParts) (inputs : List ℤ) (loaded saved : ℕ) : Type 0 where
  pub value : ℕ → ℤ
  pub values : AreValues g inputs value
  pub runs : run c inputs ≡ Ok (record { outputs = output_values g value; loads = loaded; stores = saved })

-- so a code that plays a list of moves runs to its end on every list of as many values as there are inputs
abbrev pub CodesRun : Type 0
CodesRun = (g : GraphParts) (c : CodeParts) (ms : List Move) → IsGraph g → IsCode c → CodePlays g c ms
    → (inputs : List ℤ) → length inputs ≡ length g.names → GivesOutputs g c inputs (loads ms) (stores ms)
