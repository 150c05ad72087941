-- What executed assignments do to elements, for any machine: the items of a right side are gone through with a stack.
use Rattle.std.specs.Prelude.{◌-◌, ◌++◌, ◌∷◌, ℕ, pos, List, [], length, take, drop, Result, Ok}
use Rattle.comp_graph.specs.declared.operation.Op.{Op}
use Rattle.comp_graph.specs.Operations.{arity_of}
use Rattle.kernel_ast.specs.declared.element.Fault.{Fault}
use Rattle.kernel_ast.specs.Steps.{and_then, each}
use Rattle.kernel_ast.specs.Machine.{Machine, Elements, State, read_option, unset, put}
use Rattle.loop_unroll.specs.declared.flat.Item.{Item}
use Rattle.loop_unroll.specs.declared.flat.Item.TheVariants.{Number, Read, Apply}
use Rattle.loop_unroll.specs.declared.flat.Flat.{Flat}

-- a value joins the stack
abbrev pub pushed : {V S : Type 0} → List V → Result (V × S) Fault → Result (List V × S) Fault
pushed stack o = and_then o (λ v. Ok (stack ++ v.0 ∷ [], v.1))

-- how many values stand below the operands of an operation
abbrev pub below : {V : Type 0} → Op → List V → ℕ
below op stack = length stack - arity_of op

-- one item: a constant or what an element holds joins the stack, and an operation takes its operands from it
abbrev pub play : {V S : Type 0} → Machine V S → Elements V → Item → List V × S → Result (List V × S) Fault
play M elements (Number n) r = Ok (r.0 ++ M.constant n ∷ [], r.1)
play M elements (Read c at) r = pushed r.0 (read_option (unset at) (elements c) r.1)
play M elements (Apply op at) r = pushed (take (below op r.0) r.0) (M.operate op at (drop (below op r.0) r.0) r.1)

-- the first value of a stack, and 0 where there is none
abbrev pub bottom : {V S : Type 0} → Machine V S → List V → V
bottom M [] = M.constant (pos 0)
bottom M (v ∷ more) = v

-- an executed assignment: its right side is gone through, and then its element holds what is left
unfoldable pub play_flat : {V S : Type 0} → Machine V S → Flat → State V S → Result (State V S) Fault
play_flat M f s = and_then (each (play M s.0) f.items ([], s.1)) (λ r. Ok (put s.0 f.target (bottom M r.0), r.1))
