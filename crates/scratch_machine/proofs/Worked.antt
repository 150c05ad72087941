-- A worked code: y = x + 1 with two slots is played, so the law is not empty.
use Rattle.std.proofs.Common.{◌≡◌, pos, Ok, [], ◌∷◌, refl, arith, codes}
use Rattle.std.proofs.lemmas.Option.{none-some, cond_some}
use Rattle.std.specs.Int.{int_wrap}
use Rattle.comp_graph.specs.declared.operation.Op.TheVariants.{Input, Add}
use Rattle.comp_graph.specs.declared.node.Operand.TheVariants.{Vertex, Const as Constant}
use Rattle.comp_graph.specs.declared.node.Node.{Node}
use Rattle.comp_graph.specs.Graphs.{GraphParts}
use Rattle.pebble_rules.specs.declared.moves.Move.TheVariants.{Load as LoadMove, Store as StoreMove, Compute}
use Rattle.scratch_machine.specs.declared.code.Source.TheVariants.{Slot, Const}
use Rattle.scratch_machine.specs.declared.code.Instr.TheVariants.{Load, Store, Apply}
use Rattle.scratch_machine.specs.Cells.{put, empty}
use Rattle.scratch_machine.specs.Codes.{CodeParts}
use Rattle.scratch_machine.specs.Machines.{run}
use Rattle.scratch_machine.specs.CodePlays.{CodePlays}

abbrev sum_node : Node
sum_node = record { op = Add; args = Vertex 0 ∷ Constant (pos 1) ∷ Constant (pos 0) ∷ [] }

abbrev graph : GraphParts
graph = record {
  title = codes "p";
  nodes = record { op = Input; args = Constant (pos 0) ∷ Constant (pos 0) ∷ Constant (pos 0) ∷ [] } ∷ sum_node ∷ [];
  names = codes "x" ∷ [];
  outputs = record { label = codes "y"; vertex = 1 } ∷ [];
}

abbrev code : CodeParts
code = record {
  slots = 2;
  words = 2;
  inputs = codes "x" ∷ [];
  outputs = record { label = codes "y"; word = 1 } ∷ [];
  instructions = Load 0 0 ∷ Apply Add 1 (Slot 0 ∷ Const (pos 1) ∷ Const (pos 0) ∷ []) ∷ Store 1 1 ∷ [];
}

pub played : CodePlays graph code (LoadMove 0 ∷ Compute 1 ∷ StoreMove 1 ∷ [])
played = record {
  last = record { slots = put (put empty 0 0) 1 1; words = put (λ k. _) 1 1 };
  plays = (
    record { from_word = refl; free_slot = refl; in_no_slot = λ q e. none-some 0 e },
    (
      record {
        node = sum_node;
        is_node = refl;
        same_op = refl;
        operands = (refl, (refl, tt));
        free_slot = refl;
        in_no_slot = λ q e. (let at = cond_some _ 0 1 e in let same = at.1 in omega arith);
      },
      (record { from_slot = refl; free_word = refl }, refl),
    ),
  );
  outputs = (refl, tt);
}

-- its run at 41
pub ran : run code (pos 41 ∷ []) ≡ Ok (record { outputs = pos 42 ∷ []; loads = 1; stores = 1 })
unfolding int_wrap
ran = refl
