-- Laws of the graph of a well-formed kernel: it is a graph, it has the kernel's title and labels, and its values are the kernel's outputs.
use Rattle.std.proofs.Common.{if◌then◌else◌, ◌≡◌, ◌+◌, ◌<◌, ℕ, zero, suc, ℤ, pos, Bool, true, false, List, [], ◌∷◌, map, length, take, refl, sym, ap, subst, ◌∙◌, Option, Some, None, option_map, Result, Ok, Err, slice_get, slice_index_or, arith}
use Rattle.std.specs.List.{All, zip}
use Rattle.std.proofs.lemmas.List.{length-append, length-map, take-map}
use Rattle.std.proofs.lemmas.List.Elements.{All-nil, All-cons, All-head, All-tail}
use Rattle.std.proofs.lemmas.Option.{slice_get-map, get_or_from_slice_get}
use Rattle.comp_graph.specs.declared.operation.Op.{Op}
use Rattle.comp_graph.specs.declared.operation.Op.TheVariants as op
use Rattle.comp_graph.specs.declared.node.Operand.{Operand}
use Rattle.comp_graph.specs.declared.node.Operand.TheVariants.{Vertex, Const}
use Rattle.comp_graph.specs.declared.node.Output.{Output}
use Rattle.comp_graph.specs.Operations.{arity_of, value_of, value_at}
use Rattle.comp_graph.specs.Graphs.{GraphParts, IsGraph, IsNode, IsOperandBelow, operands_of}
use Rattle.scratch_machine.specs.Machines as machine
use Rattle.scratch_machine.specs.Values.{operand_value, AreValues, output_values}
use Rattle.kernel_ast.specs.declared.tree.DeclKind.{DeclKind}
use Rattle.kernel_ast.specs.declared.tree.DeclKind.TheVariants as kinds
use Rattle.kernel_ast.specs.declared.element.Cell.{Cell}
use Rattle.kernel_ast.specs.KernelParts.{KernelParts, Declared}
use Rattle.kernel_ast.specs.Walk.{walk_all}
use Rattle.kernel_ast.specs.Machine.{element_count, is_kind, cells_from, cells_of_decl, cells_of, run_all}
use Rattle.kernel_ast.specs.declared.element.Fault.{Fault}
use Rattle.kernel_ast.specs.Steps.{and_then}
use Rattle.kernel_ast.specs.Meaning.{Held, Entry, numbered, numbered_input, kernel_meaning, held_of, fault_of, shape_fault, outputs}
use Rattle.kernel_ast.specs.Labels.{labels_from, labels_of_decl, labels_of}
use Rattle.kernel_ast.specs.KernelGraph.{padded, node_of, vertex_of, output_of, graph_by, graph_of}
use Rattle.kernel_ast.specs.WellFormed.{IsWellFormed}
use Rattle.three_address.specs.Laws.{IsLabelled}
use Rattle.three_address.proofs.KernelLogs.{Valuation, Agrees, IsPut}
use Rattle.three_address.proofs.KernelRuns.{Ended, run_good, ok_next}

-- ---- the value of a node

three_values : (o : Op) (a b c : ℤ) → value_at o (take (arity_of o) (a ∷ b ∷ c ∷ [])) ≡ value_of o a b c
three_values op.Input a b c = refl
three_values op.Set a b c = refl
three_values op.Add a b c = refl
three_values op.Sub a b c = refl
three_values op.Mul a b c = refl
three_values op.And a b c = refl
three_values op.Or a b c = refl
three_values op.Xor a b c = refl
three_values op.Neg a b c = refl
three_values op.Min a b c = refl
three_values op.Max a b c = refl
three_values op.Sel a b c = refl
three_values op.Mad a b c = refl

padded_values : (value : ℕ → ℤ) (args : List Operand)
    → map (operand_value value) (padded args)
    ≡ slice_index_or (map (operand_value value) args) 0 (pos 0) ∷ slice_index_or (map (operand_value value) args) 1 (pos 0) ∷ slice_index_or (map (operand_value value) args) 2 (pos 0) ∷ []
padded_values value [] = refl
padded_values value (a ∷ []) = refl
padded_values value (a ∷ b ∷ []) = refl
padded_values value (a ∷ b ∷ c ∷ more) = refl

node_value : (value : ℕ → ℤ) (e : Entry) → value_at e.op (map (operand_value value) (operands_of (node_of e))) ≡ value_at e.op (map (operand_value value) e.operands)
node_value value e =
    ap (value_at e.op) (sym (take-map (operand_value value) (arity_of e.op) (padded e.operands)) ∙ ap (take (arity_of e.op)) (padded_values value e.operands))
    ∙ three_values e.op _ _ _

-- ---- counts of labels

length-labels_from : (d : Declared) (offset n : ℕ) → length (labels_from d offset n) ≡ n
length-labels_from d offset zero = refl
length-labels_from d offset (suc n) = ap suc (length-labels_from d (offset + 1) n)

length-cells_from : (decl offset n : ℕ) → length (cells_from decl offset n) ≡ n
length-cells_from decl offset zero = refl
length-cells_from decl offset (suc n) = ap suc (length-cells_from decl (offset + 1) n)

length-labels_of_decl : (kind : DeclKind) (decl : ℕ) (d : Declared) → length (labels_of_decl kind d) ≡ length (cells_of_decl kind decl d)
unfolding labels_of_decl cells_of_decl
length-labels_of_decl kind decl d = tested (is_kind kind d.1.kind)
  where
    tested : (b : Bool) → length (if b then labels_from d 0 (element_count d.1.sizes) else []) ≡ length {A = ℕ × Cell} (if b then map (λ (c : Cell). (d.1.at, c)) (cells_from decl 0 (element_count d.1.sizes)) else [])
    tested true =
        length-labels_from d 0 (element_count d.1.sizes)
        ∙ sym (length-map (cells_from decl 0 (element_count d.1.sizes)) (λ (c : Cell). (d.1.at, c)) ∙ length-cells_from decl 0 (element_count d.1.sizes))
    tested false = refl

-- there is a label for each element
pub length-labels_of : (kind : DeclKind) (decl : ℕ) (ds : List Declared) → length (labels_of kind ds) ≡ length (cells_of kind decl ds)
length-labels_of kind decl [] = refl
length-labels_of kind decl (d ∷ ds) =
    let here = length-labels_of_decl kind decl d in
    let more = length-labels_of kind (decl + 1) ds in
    let labels = length-append (labels_of_decl kind d) (labels_of kind ds) in
    let cells = length-append (cells_of_decl kind decl d) (cells_of kind (decl + 1) ds) in
    omega (arith, here, more, labels, cells)

-- ---- the output elements of a graph

abbrev outputs_by : List (List ℕ) → List Held → List Output
outputs_by labels found = map output_of (zip labels (map (λ (h : Held). h.origin) found))

outputs_below : (z : Valuation) (log : List Entry) (n : ℕ) (labels : List (List ℕ)) (found : List Held) → n ≡ length log → All (IsPut z log) found → All (λ o. o.vertex < n) (outputs_by labels found)
outputs_below z log n [] found e s = All-nil (λ (o : Output). o.vertex < n)
outputs_below z log n (l ∷ labels) [] e s = All-nil (λ (o : Output). o.vertex < n)
outputs_below z log n (l ∷ labels) (a ∷ found) e s =
    let here = All-head (IsPut z log) a found s in
    let below : vertex_of a.origin < n = known a.origin here.vertex here.sound.below in
    All-cons (λ (o : Output). o.vertex < n) (output_of (l, a.origin)) (outputs_by labels found) below (outputs_below z log n labels found e (All-tail (IsPut z log) a found s))
  where
    known : (o : Operand) → (v : ℕ) × (o ≡ Vertex v) → IsOperandBelow (length log) o → vertex_of o < n
    known (Vertex v) is h = omega (arith, e, h)
    known (Const c) is h = absurd (let clash : Const c ≡ Vertex is.0 = is.1 in cc)

outputs_valued : (z : Valuation) (log : List Entry) (labels : List (List ℕ)) (found : List Held) → length labels ≡ length found → Agrees z log → All (IsPut z log) found
    → map (λ h. h.number z.values) found ≡ map (λ o. z.value o.vertex) (outputs_by labels found)
outputs_valued z log [] [] e g s = refl
outputs_valued z log [] (a ∷ found) e g s = absurd (let clash : 0 ≡ suc (length found) = e in omega (arith, clash))
outputs_valued z log (l ∷ labels) [] e g s = absurd (let clash : suc (length labels) ≡ 0 = e in omega (arith, clash))
outputs_valued z log (l ∷ labels) (a ∷ found) e g s =
    let here = All-head (IsPut z log) a found s in
    let value : operand_value z.value a.origin ≡ z.value (vertex_of a.origin) = known a.origin here.vertex in
    let rest = outputs_valued z log labels found (omega (arith, e)) g (All-tail (IsPut z log) a found s) in
    λ i. (here.sound.number g ∙ value) i ∷ rest i
  where
    known : (o : Operand) → (v : ℕ) × (o ≡ Vertex v) → operand_value z.value o ≡ z.value (vertex_of o)
    known (Vertex v) is = refl
    known (Const c) is = absurd (let clash : Const c ≡ Vertex is.0 = is.1 in cc)

outputs_labelled : (labels : List (List ℕ)) (found : List Held) → length labels ≡ length found → map (λ o. o.label) (outputs_by labels found) ≡ labels
outputs_labelled [] found e = refl
outputs_labelled (l ∷ labels) [] e = absurd (let clash : suc (length labels) ≡ 0 = e in omega (arith, clash))
outputs_labelled (l ∷ labels) (a ∷ found) e = ap (λ ls. l ∷ ls) (outputs_labelled labels found (omega (arith, e)))

-- ---- the parts of a graph

-- the end of the run that a kernel's graph comes from
pub record HasRun (k : KernelParts) (graph : GraphParts) : Type 0 where
  pub found : List Held
  pub log : List Entry
  pub ran : run_all numbered numbered_input k [] ≡ Ok (found, log)
  pub meant : kernel_meaning k ≡ Ok (found, log)
  pub is : graph_by k (map (λ h. h.origin) found, log) ≡ graph

pub has_run : (k : KernelParts) (graph : GraphParts) → graph_of k ≡ Ok graph → HasRun k graph
has_run k graph e =
    let made = ok_next (kernel_meaning k) (λ (r : List Held × List Entry). Ok (graph_by k (map (λ h. h.origin) r.0, r.1))) graph e in
    let run = ok_next (walk_all k.decls k.body) (λ _. run_all numbered numbered_input k []) made.0 made.1 in
    let same : graph_by k (map (λ h. h.origin) (made.0).0, (made.0).1) ≡ graph = let f = made.2 in cc in
    record { found = (made.0).0; log = (made.0).1; ran = run.2; meant = made.1; is = same }

-- no values, where none are asked for
abbrev no_values : KernelParts → Valuation
no_values k = record { inputs = length (labels_of kinds.Input k.decls); values = []; value = λ v. pos 0; given = λ v h. refl }

ended : (z : Valuation) (k : KernelParts) (graph : GraphParts) → IsWellFormed k → z.inputs ≡ length (labels_of kinds.Input k.decls) → (r : HasRun k graph) → Ended z k (r.found, r.log)
ended z k graph well count r =
    let cells : length (cells_of kinds.Input 0 k.decls) ≡ z.inputs = omega (arith, count, length-labels_of kinds.Input 0 k.decls) in
    run_good z k (r.found, r.log) well.body cells r.ran

some_mapped : {A B : Type 0} (f : A → B) (o : Option A) (b : B) → option_map f o ≡ Some b → (a : A) × (o ≡ Some a) × (f a ≡ b)
some_mapped f None b e = absurd (cc)
some_mapped f (Some a) b e = let same : f a ≡ b = cc in (a, refl, same)

-- A well-formed kernel's graph is one.
pub IsGraph-graph_of : (k : KernelParts) (graph : GraphParts) → IsWellFormed k → graph_of k ≡ Ok graph → IsGraph graph
IsGraph-graph_of k graph well e =
    let r = has_run k graph e in
    let end = ended (no_values k) k graph well refl r in
    let long : length (map node_of r.log) ≡ length r.log = length-map r.log node_of in
    let small = end.is_log.start.small in
    let named = end.is_log.named in
    let whole : IsGraph (graph_by k (map (λ h. h.origin) r.found, r.log)) = record {
      small = omega (arith, long, small);
      named = omega (arith, long, named);
      nodes = λ v n at.
          let from = some_mapped node_of (slice_get r.log v) n (sym (slice_get-map node_of r.log v) ∙ at) in
          subst (IsNode (length (labels_of kinds.Input k.decls)) v) from.2 (end.is_log.start.nodes v from.0 from.1);
      outputs = outputs_below (no_values k) r.log (length (map node_of r.log)) (labels_of kinds.Output k.decls) r.found long end.given_out;
    } in
    subst IsGraph r.is whole

-- A kernel's graph has the kernel's title and the labels of its input and output elements.
pub IsLabelled-graph_of : (k : KernelParts) (graph : GraphParts) → IsWellFormed k → graph_of k ≡ Ok graph → IsLabelled k graph
IsLabelled-graph_of k graph well e =
    let r = has_run k graph e in
    let end = ended (no_values k) k graph well refl r in
    let count : length (labels_of kinds.Output k.decls) ≡ length r.found = omega (arith, end.counted, length-labels_of kinds.Output 0 k.decls) in
    let whole : IsLabelled k (graph_by k (map (λ h. h.origin) r.found, r.log)) =
    record { title = refl; inputs = refl; outputs = outputs_labelled (labels_of kinds.Output k.decls) r.found count } in
    subst (IsLabelled k) r.is whole

-- On each list of values of the inputs, the outputs of a well-formed kernel, evaluated along its tree, are the values of its graph's outputs.
pub outputs-graph_of : (k : KernelParts) (graph : GraphParts) (values : List ℤ) (value : ℕ → ℤ) → IsWellFormed k → graph_of k ≡ Ok graph
    → length values ≡ length graph.names → AreValues graph values value → outputs k values ≡ output_values graph value
outputs-graph_of k graph values value well e count are =
    let r = has_run k graph e in
    let labels = IsLabelled-graph_of k graph well e in
    let z : Valuation = record {
      inputs = length graph.names;
      values = values;
      value = value;
      given = λ v h.
          let low : v < length values = omega (arith, h, count) in
          get_or_from_slice_get values v (value v) (pos 0) (are.given v low);
    } in
    let end = ended z k graph well (ap length labels.inputs) r in
    let nodes : graph.nodes ≡ map node_of r.log = sym (ap (λ (g : GraphParts). g.nodes) r.is) in
    let agrees : Agrees z r.log = record {
      computed = λ v x at computes.
          let here : slice_get graph.nodes v ≡ Some (node_of x) = ap (λ ns. slice_get ns v) nodes ∙ slice_get-map node_of r.log v ∙ ap (option_map node_of) at in
          are.computed v (node_of x) here computes ∙ node_value value x;
    } in
    let long : length (labels_of kinds.Output k.decls) ≡ length r.found = omega (arith, end.counted, length-labels_of kinds.Output 0 k.decls) in
    ap (λ m. map (λ h. h.number values) (held_of m)) r.meant
    ∙ outputs_valued z r.log (labels_of kinds.Output k.decls) r.found long agrees end.given_out
    ∙ ap (λ (g : GraphParts). output_values g value) r.is

-- The graph of a kernel has the fault of its run.
pub fault_of-graph_of : (k : KernelParts) → fault_of (graph_of k) ≡ shape_fault k
fault_of-graph_of k = known (kernel_meaning k)
  where
    known : (o : Result (List Held × List Entry) Fault) → fault_of (and_then o (λ r. Ok (graph_by k (map (λ h. h.origin) r.0, r.1)))) ≡ fault_of o
    known (Ok r) = refl
    known (Err f) = refl

-- A fault of the walk is the first one.
pub graph_of-walk : (k : KernelParts) (fault : Fault) → walk_all k.decls k.body ≡ Err fault → graph_of k ≡ Err fault
graph_of-walk k fault is = ap (λ w. and_then (and_then w (λ _. run_all numbered numbered_input k [])) (λ r. Ok (graph_by k (map (λ h. h.origin) r.0, r.1)))) is
