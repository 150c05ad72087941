-- Operands with nodes are a picture of numbers with origins and the log.
use Rattle.std.proofs.Common.{if◌then◌else◌, ◌≡◌, ◌++◌, ℕ, ℤ, pos, nat_lt, Bool, true, false, ◌&&◌, List, [], ◌∷◌, map, length, refl, sym, ap, ◌∙◌, Option, Some, None, Ok, Err, slice_index_or}
use Rattle.std.proofs.lemmas.List.{map-append, length-map}
use Rattle.comp_graph.specs.declared.operation.Op.{Op}
use Rattle.comp_graph.specs.declared.operation.Op.TheVariants as op
use Rattle.comp_graph.specs.declared.node.Operand.{Operand}
use Rattle.comp_graph.specs.declared.node.Operand.TheVariants.{Vertex, Const}
use Rattle.comp_graph.specs.declared.node.Node.{Node}
use Rattle.comp_graph.specs.Operations.{value_at}
use Rattle.kernel_ast.specs.KernelParts.{KernelParts}
use Rattle.kernel_ast.specs.Steps.{and_then}
use Rattle.kernel_ast.specs.Machine.{run_all}
use Rattle.kernel_ast.specs.Meaning.{Held, Entry, entry, constants, add_constant, numbered, numbered_input, append_entry, fold_or_append, set_output, with_number, too_many_vertices}
use Rattle.kernel_ast.specs.KernelGraph.{node_of}
use Rattle.kernel_ast.proofs.Machines.{mapped, both, Pictures, run_pictured}
use Rattle.three_address.specs.Lowering.{node, append_node, is_constant, are_constants, number_of, folded_value, settle, lowering, input_node}

abbrev pub origin : Held → Operand
origin a = a.origin

abbrev pub nodes_of : List Entry → List Node
nodes_of = map node_of

node_is : (o : Op) (args : List Operand) → node_of (entry o args) ≡ node o args
node_is o [] = refl
node_is o (a ∷ []) = refl
node_is o (a ∷ b ∷ []) = refl
node_is o (a ∷ b ∷ c ∷ more) = refl

appended : (number : List ℤ → ℤ) (at : ℕ) (o : Op) (args : List Operand) (log : List Entry)
    → mapped (both origin nodes_of) (and_then (append_entry at (entry o args) log) (with_number number)) ≡ append_node at o args (nodes_of log)
appended number at o args log =
    tested (nat_lt (length log) 256)
    ∙ ap (λ n. if nat_lt n 256 then Ok (Vertex n, nodes_of log ++ node o args ∷ []) else Err (too_many_vertices at)) (sym (length-map log node_of))
  where
    tested : (b : Bool) → mapped (both origin nodes_of) (and_then (if b then Ok (Vertex (length log), log ++ entry o args ∷ []) else Err (too_many_vertices at)) (with_number number))
        ≡ (if b then Ok (Vertex (length log), nodes_of log ++ node o args ∷ []) else Err (too_many_vertices at))
    tested true = ap (λ ns. Ok (Vertex (length log), ns)) (map-append node_of log (entry o args ∷ []) ∙ ap (λ n. nodes_of log ++ n ∷ []) (node_is o args))
    tested false = refl

abbrev constants_if : Bool → List Operand → Option (List ℤ)
constants_if b os = if b then Some (map number_of os) else None

constants_are : (os : List Operand) → constants os ≡ constants_if (are_constants os) os
constants_are [] = refl
constants_are (o ∷ os) = ap (add_constant o) (constants_are os) ∙ first o (are_constants os)
  where
    first : (o : Operand) (b : Bool) → add_constant o (constants_if b os) ≡ constants_if (is_constant o && b) (o ∷ os)
    first (Const n) true = refl
    first (Const n) false = refl
    first (Vertex v) true = refl
    first (Vertex v) false = refl

operated : (number : List ℤ → ℤ) (o : Op) (at : ℕ) (os : List Operand) (log : List Entry) (b : Bool)
    → mapped (both origin nodes_of) (and_then (fold_or_append o at os (constants_if b os) log) (with_number number)) ≡ (if b then Ok (Const (folded_value o os), nodes_of log) else append_node at o os (nodes_of log))
operated number o at os log true = refl
operated number o at os log false = appended number at o os log

settled : (number : List ℤ → ℤ) (at : ℕ) (o : Operand) (log : List Entry) → mapped (both origin nodes_of) (and_then (set_output at o log) (with_number number)) ≡ settle at o (nodes_of log)
settled number at (Vertex v) log = refl
settled number at (Const n) log = appended number at op.Set (Const n ∷ []) log

nodes_picture : Pictures numbered lowering origin nodes_of
nodes_picture = record {
  constant = λ n. refl;
  operate = λ o at args log.
      ap (λ c. mapped (both origin nodes_of) (and_then (fold_or_append o at (map origin args) c log) (with_number (λ vs. value_at o (map (λ a. a.number vs) args))))) (constants_are (map origin args))
      ∙ operated (λ vs. value_at o (map (λ a. a.number vs) args)) o at (map origin args) log (are_constants (map origin args));
  output = λ at v log. settled v.number at v.origin log;
}

-- a whole run over operands has the origins and the nodes of the log of the run over numbers
pub run_lowered : (k : KernelParts) → mapped (λ r. (map origin r.0, nodes_of r.1)) (run_all numbered numbered_input k []) ≡ run_all lowering input_node k []
run_lowered k =
    run_pictured numbered lowering origin nodes_of nodes_picture numbered_input input_node
    (λ at log. appended (λ vs. slice_index_or vs (length log) (pos 0)) at op.Input [] log) k []
