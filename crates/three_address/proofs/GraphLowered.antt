-- The graph that is made step by step from the executed assignments is the graph of the kernel.
use Rattle.std.proofs.Common.{if◌then◌else◌, ◌≡◌, ◌+◌, ◌++◌, ℕ, zero, suc, Bool, true, false, List, [], ◌∷◌, map, length, refl, sym, ap, ◌∙◌, Result, Ok, Err, arith, append_assoc}
use Rattle.std.specs.List.{zip}
use Rattle.std.proofs.lemmas.List.{map-append, length_push, append-nil}
use Rattle.comp_graph.specs.declared.node.Operand.{Operand}
use Rattle.comp_graph.specs.declared.node.Node.{Node}
use Rattle.comp_graph.specs.declared.node.Output.{Output as OutputElement}
use Rattle.comp_graph.specs.Graphs.{GraphParts}
use Rattle.kernel_ast.specs.declared.tree.DeclKind.{DeclKind}
use Rattle.kernel_ast.specs.declared.tree.DeclKind.TheVariants.{Input, Output}
use Rattle.kernel_ast.specs.declared.element.Cell.{Cell}
use Rattle.kernel_ast.specs.declared.element.Fault.{Fault}
use Rattle.kernel_ast.specs.KernelParts.{KernelParts, Declared}
use Rattle.kernel_ast.specs.Steps.{and_then, each}
use Rattle.kernel_ast.specs.Walk.{walk_all}
use Rattle.kernel_ast.specs.Machine.{Elements, State, no_elements, enter, held, output_unset, leave, execute_all, element_count, is_kind, cells_from, cells_of_decl, cells_of, run_all}
use Rattle.kernel_ast.specs.Meaning.{Held, Entry, numbered, numbered_input}
use Rattle.kernel_ast.specs.Labels.{labels_from, labels_of_decl, labels_of}
use Rattle.kernel_ast.specs.KernelGraph.{output_of, graph_by, graph_of}
use Rattle.kernel_ast.specs.WellFormed.{IsWellFormed}
use Rattle.kernel_ast.proofs.Machines.{mapped}
use Rattle.loop_unroll.specs.declared.flat.Flat.{Flat}
use Rattle.loop_unroll.specs.Flats.{flats}
use Rattle.loop_unroll.specs.Plays.{play_flat}
use Rattle.loop_unroll.proofs.Walks.{flats_walked}
use Rattle.loop_unroll.proofs.Unrolls.{flats_execute}
use Rattle.three_address.specs.declared.element.Element.{Element}
use Rattle.three_address.specs.LabelledElements.{element, elements_from, elements_of_decl, elements_of}
use Rattle.three_address.specs.Lowering.{lowering, settle, input_node}
use Rattle.three_address.specs.Lowered.{Entering, entered, Leaving, left, lowered}
use Rattle.three_address.proofs.Pictured.{origin, nodes_of, run_lowered}

-- ---- elements, their cells and their labels

abbrev place_of : Element → ℕ × Cell
place_of e = (e.at, e.cell)

abbrev label : Element → List ℕ
label e = e.label

cells_of_elements_from : (decl : ℕ) (d : Declared) (offset n : ℕ) → map place_of (elements_from decl d offset n) ≡ map (λ (c : Cell). (d.1.at, c)) (cells_from decl offset n)
cells_of_elements_from decl d offset zero = refl
cells_of_elements_from decl d offset (suc n) = ap (λ cs. place_of (element decl d offset) ∷ cs) (cells_of_elements_from decl d (offset + 1) n)

labels_of_elements_from : (decl : ℕ) (d : Declared) (offset n : ℕ) → map label (elements_from decl d offset n) ≡ labels_from d offset n
labels_of_elements_from decl d offset zero = refl
labels_of_elements_from decl d offset (suc n) = ap (λ ls. label (element decl d offset) ∷ ls) (labels_of_elements_from decl d (offset + 1) n)

cells_of_elements_of_decl : (kind : DeclKind) (decl : ℕ) (d : Declared) → map place_of (elements_of_decl kind decl d) ≡ cells_of_decl kind decl d
unfolding elements_of_decl cells_of_decl
cells_of_elements_of_decl kind decl d = tested (is_kind kind d.1.kind)
  where
    tested : (b : Bool) → map place_of (if b then elements_from decl d 0 (element_count d.1.sizes) else []) ≡ (if b then map (λ (c : Cell). (d.1.at, c)) (cells_from decl 0 (element_count d.1.sizes)) else [])
    tested true = cells_of_elements_from decl d 0 (element_count d.1.sizes)
    tested false = refl

labels_of_elements_of_decl : (kind : DeclKind) (decl : ℕ) (d : Declared) → map label (elements_of_decl kind decl d) ≡ labels_of_decl kind d
unfolding elements_of_decl labels_of_decl
labels_of_elements_of_decl kind decl d = tested (is_kind kind d.1.kind)
  where
    tested : (b : Bool) → map label (if b then elements_from decl d 0 (element_count d.1.sizes) else []) ≡ (if b then labels_from d 0 (element_count d.1.sizes) else [])
    tested true = labels_of_elements_from decl d 0 (element_count d.1.sizes)
    tested false = refl

cells_of_elements : (kind : DeclKind) (decl : ℕ) (ds : List Declared) → map place_of (elements_of kind decl ds) ≡ cells_of kind decl ds
cells_of_elements kind decl [] = refl
cells_of_elements kind decl (d ∷ ds) =
    map-append place_of (elements_of_decl kind decl d) (elements_of kind (decl + 1) ds)
    ∙ (λ i. cells_of_elements_of_decl kind decl d i ++ cells_of_elements kind (decl + 1) ds i)

labels_of_elements : (kind : DeclKind) (decl : ℕ) (ds : List Declared) → map label (elements_of kind decl ds) ≡ labels_of kind ds
labels_of_elements kind decl [] = refl
labels_of_elements kind decl (d ∷ ds) =
    map-append label (elements_of_decl kind decl d) (elements_of kind (decl + 1) ds)
    ∙ (λ i. labels_of_elements_of_decl kind decl d i ++ labels_of_elements kind (decl + 1) ds i)

-- ---- inputs

abbrev with_labels : List (List ℕ) → State Operand (List Node) → Result Entering Fault
with_labels labels s = Ok (s, labels)

all_entered : (es : List Element) (s : State Operand (List Node)) (names : List (List ℕ))
    → each entered es (s, names) ≡ and_then (each (enter input_node) (map place_of es) s) (with_labels (names ++ map label es))
unfolding entered
all_entered [] s names = ap (λ ls. Ok (s, ls)) (sym (append-nil names))
all_entered (e ∷ es) s names = next (enter input_node (e.at, e.cell) s) (λ t. all_entered es t (names ++ e.label ∷ []) ∙ ap (λ ls. and_then (each (enter input_node) (map place_of es) t) (with_labels ls)) (append_assoc names (e.label ∷ []) (map label es)))
  where
    next : (o : Result (State Operand (List Node)) Fault)
        → ((t : State Operand (List Node)) → each entered es (t, names ++ e.label ∷ []) ≡ and_then (each (enter input_node) (map place_of es) t) (with_labels (names ++ e.label ∷ map label es)))
        → and_then (and_then o (λ t. Ok (t, names ++ e.label ∷ []))) (each entered es) ≡ and_then (and_then o (each (enter input_node) (map place_of es))) (with_labels (names ++ e.label ∷ map label es))
    next (Ok t) more = more t
    next (Err f) more = refl

-- ---- outputs

abbrev outputs_by : List (List ℕ) → List Operand → List OutputElement
outputs_by labels origins = map output_of (zip labels origins)

outputs_push : (labels : List (List ℕ)) (origins : List Operand) (l : List ℕ) (o : Operand) → length labels ≡ length origins
    → outputs_by (labels ++ l ∷ []) (origins ++ o ∷ []) ≡ outputs_by labels origins ++ output_of (l, o) ∷ []
outputs_push [] [] l o e = refl
outputs_push [] (p ∷ origins) l o e = absurd (let clash : 0 ≡ suc (length origins) = e in omega (arith, clash))
outputs_push (m ∷ labels) [] l o e = absurd (let clash : suc (length labels) ≡ 0 = e in omega (arith, clash))
outputs_push (m ∷ labels) (p ∷ origins) l o e = ap (λ outs. output_of (m, p) ∷ outs) (outputs_push labels origins l o (omega (arith, e)))

abbrev seen_by : List (List ℕ) → List Operand × List Node → Leaving
seen_by labels r = (outputs_by labels r.0, r.1)

all_left : (elements : Elements Operand) (es : List Element) (labels : List (List ℕ)) (origins : List Operand) (ns : List Node) → length labels ≡ length origins
    → each (left elements) es (outputs_by labels origins, ns) ≡ mapped (seen_by (labels ++ map label es)) (each (leave lowering elements) (map place_of es) (origins, ns))
unfolding left
all_left elements [] labels origins ns e = ap (λ ls. Ok (outputs_by ls origins, ns)) (sym (append-nil labels))
all_left elements (x ∷ es) labels origins ns e =
    next (held (output_unset x.at) (elements x.cell)) (λ w.
    ap (λ outs. each (left elements) es (outs, w.1)) (sym (outputs_push labels origins x.label w.0 e))
    ∙ all_left elements es (labels ++ x.label ∷ []) (origins ++ w.0 ∷ []) w.1 (let a = length_push labels x.label in let b = length_push origins w.0 in omega (arith, a, b, e))
    ∙ ap (λ ls. mapped (seen_by ls) (each (leave lowering elements) (map place_of es) (origins ++ w.0 ∷ [], w.1))) (append_assoc labels (x.label ∷ []) (map label es)))
  where
    next : (o : Result Operand Fault)
        → ((w : Operand × List Node) → each (left elements) es (outputs_by labels origins ++ output_of (x.label, w.0) ∷ [], w.1)
        ≡ mapped (seen_by (labels ++ x.label ∷ map label es)) (each (leave lowering elements) (map place_of es) (origins ++ w.0 ∷ [], w.1)))
        → and_then (and_then o (λ v. and_then (settle x.at v ns) (λ w. Ok (outputs_by labels origins ++ output_of (x.label, w.0) ∷ [], w.1)))) (each (left elements) es)
        ≡ mapped (seen_by (labels ++ x.label ∷ map label es)) (and_then (and_then o (λ v. and_then (settle x.at v ns) (λ w. Ok (origins ++ w.0 ∷ [], w.1)))) (each (leave lowering elements) (map place_of es)))
    next (Err f) more = refl
    next (Ok v) more = made (settle x.at v ns)
      where
        made : (o : Result (Operand × List Node) Fault)
            → and_then (and_then o (λ w. Ok (outputs_by labels origins ++ output_of (x.label, w.0) ∷ [], w.1))) (each (left elements) es)
            ≡ mapped (seen_by (labels ++ x.label ∷ map label es)) (and_then (and_then o (λ w. Ok (origins ++ w.0 ∷ [], w.1))) (each (leave lowering elements) (map place_of es)))
        made (Err f) = refl
        made (Ok w) = more w

-- ---- the whole

-- a graph by its output operands and its nodes
abbrev made_of : KernelParts → List Operand × List Node → GraphParts
made_of k r = record { title = k.title; nodes = r.1; names = labels_of Input k.decls; outputs = outputs_by (labels_of Output k.decls) r.0 }

abbrev finish : KernelParts → List (List ℕ) → Leaving → Result GraphParts Fault
finish k names r = Ok (record { title = k.title; nodes = r.1; names = names; outputs = r.0 })

-- the steps of the code are the run over operands, with labels
steps_run : (k : KernelParts) (fs : List Flat) → IsWellFormed k → flats k.decls k.body ≡ Ok fs → lowered k fs ≡ mapped (made_of k) (run_all lowering input_node k [])
unfolding lowered
steps_run k fs well is =
    ap (λ o. and_then o (λ start. and_then (each (play_flat lowering) fs start.0) (λ end. and_then (each (left end.0) (elements_of Output 0 k.decls) ([], end.1)) (finish k start.1))))
    (all_entered (elements_of Input 0 k.decls) (no_elements, []) []
    ∙ (λ i. and_then (each (enter input_node) (cells_of_elements Input 0 k.decls i) (no_elements, [])) (with_labels (labels_of_elements Input 0 k.decls i))))
    ∙ one (each (enter input_node) (cells_of Input 0 k.decls) (no_elements, []))
  where
    three : (names : List (List ℕ)) (o : Result (List Operand × List Node) Fault) → names ≡ labels_of Input k.decls
        → and_then (mapped (seen_by (labels_of Output k.decls)) o) (finish k names) ≡ mapped (made_of k) o
    three names (Ok r) e = ap (λ ns. Ok (record { title = k.title; nodes = r.1; names = ns; outputs = outputs_by (labels_of Output k.decls) r.0 })) e
    three names (Err f) e = refl

    out : (end : State Operand (List Node)) → each (left end.0) (elements_of Output 0 k.decls) ([], end.1) ≡ mapped (seen_by (labels_of Output k.decls)) (each (leave lowering end.0) (cells_of Output 0 k.decls) ([], end.1))
    out end =
        all_left end.0 (elements_of Output 0 k.decls) [] [] end.1 refl
        ∙ (λ i. mapped (seen_by (labels_of_elements Output 0 k.decls i)) (each (leave lowering end.0) (cells_of_elements Output 0 k.decls i) ([], end.1)))

    two : (o : Result (State Operand (List Node)) Fault)
        → and_then o (λ end. and_then (each (left end.0) (elements_of Output 0 k.decls) ([], end.1)) (finish k (labels_of Input k.decls)))
        ≡ mapped (made_of k) (and_then o (λ left. each (leave lowering left.0) (cells_of Output 0 k.decls) ([], left.1)))
    two (Ok end) = ap (λ o. and_then o (finish k (labels_of Input k.decls))) (out end) ∙ three (labels_of Input k.decls) (each (leave lowering end.0) (cells_of Output 0 k.decls) ([], end.1)) refl
    two (Err f) = refl

    one : (o : Result (State Operand (List Node)) Fault)
        → and_then (and_then o (with_labels (labels_of Input k.decls))) (λ start. and_then (each (play_flat lowering) fs start.0) (λ end. and_then (each (left end.0) (elements_of Output 0 k.decls) ([], end.1)) (finish k start.1)))
        ≡ mapped (made_of k) (and_then o (λ entered. and_then (execute_all lowering k.decls k.body entered) (λ left. each (leave lowering left.0) (cells_of Output 0 k.decls) ([], left.1))))
    one (Ok s) =
        ap (λ o. and_then o (λ end. and_then (each (left end.0) (elements_of Output 0 k.decls) ([], end.1)) (finish k (labels_of Input k.decls)))) (flats_execute lowering k.decls k.body fs s well.body is)
        ∙ two (execute_all lowering k.decls k.body s)
    one (Err f) = refl

graph_made : (k : KernelParts) (turns : ℕ) → walk_all k.decls k.body ≡ Ok turns → graph_of k ≡ mapped (made_of k) (run_all lowering input_node k [])
graph_made k turns walked =
    ap (λ w. and_then (and_then w (λ _. run_all numbered numbered_input k [])) (λ r. Ok (graph_by k (map (λ h. h.origin) r.0, r.1)))) walked
    ∙ known (run_all numbered numbered_input k []) ∙ ap (mapped (made_of k)) (run_lowered k)
  where
    known : (o : Result (List Held × List Entry) Fault) → and_then o (λ r. Ok (graph_by k (map (λ h. h.origin) r.0, r.1))) ≡ mapped (made_of k) (mapped (λ r. (map origin r.0, nodes_of r.1)) o)
    known (Ok r) = refl
    known (Err f) = refl

-- From the executed assignments of a well-formed kernel the steps make the kernel's graph, or have the fault that it has.
pub lowered_graph : (k : KernelParts) (fs : List Flat) → IsWellFormed k → flats k.decls k.body ≡ Ok fs → lowered k fs ≡ graph_of k
lowered_graph k fs well is =
    let walked : (turns : ℕ) × (walk_all k.decls k.body ≡ Ok turns) = flats_walked k.decls k.body fs is in
    steps_run k fs well is ∙ sym (graph_made k walked.0 walked.1)
