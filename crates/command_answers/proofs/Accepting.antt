-- Each text is accepted in one way or has one fault, and what follows for the graph of an accepted text.
use Rattle.std.proofs.Common.{◌≡◌, ◌⊎◌, ℕ, List, [], None, Some, Result, Ok, Err, refl, sym, ap, ◌∙◌, inl, inr}
use Rattle.comp_graph.specs.Graphs.{GraphParts, IsGraph}
use Rattle.kernel_ast.specs.declared.element.Fault.{Fault}
use Rattle.kernel_ast.specs.KernelGraph.{graph_of}
use Rattle.kernel_ast.specs.KernelParts.{KernelParts}
use Rattle.kernel_ast.specs.Machine.{run_all}
use Rattle.kernel_ast.specs.Meaning.{kernel_meaning, shape_fault, fault_of, numbered, numbered_input}
use Rattle.kernel_ast.specs.Places.{fault}
use Rattle.kernel_ast.specs.Steps.{and_then}
use Rattle.kernel_ast.specs.Walk.{walk_all}
use Rattle.kernel_parser.specs.declared.parse_end.ParseEnd.{ParseEnd}
use Rattle.kernel_parser.specs.declared.parse_end.ParseEnd.TheVariants.{Fault as Faulty, NoMemory}
use Rattle.kernel_parser.specs.KernelTexts as parsing
use Rattle.kernel_parser.specs.KernelTexts.{Reads}
use Rattle.kernel_parser.proofs.OneText as texts
use Rattle.loop_unroll.specs.declared.flat.Flat.{Flat}
use Rattle.loop_unroll.specs.declared.flat.ShapeEnd.{ShapeEnd}
use Rattle.loop_unroll.specs.declared.flat.ShapeEnd.TheVariants as shape
use Rattle.loop_unroll.specs.Ends.{Answers, Walked}
use Rattle.three_address.specs.Laws.{IsLabelled}
use Rattle.three_address.proofs.KernelGraphLaws.{IsGraph-graph_of, IsLabelled-graph_of}
use Rattle.command_answers.specs.Accepted.{IsAccepted, IsKernelFault, AcceptedOnce, OneKernelFault, NoFaultOfAccepted, AcceptedOrFault, EndMeans, end_of_text, end_of_shape}

-- ---- the fault of a run and the graph

-- a run has a fault exactly where there is no graph
fault_without_graph : {A B : Type 0} (o : Result A Fault) (f : A → B) (e : Fault) → and_then o (λ a. Ok (f a)) ≡ Err e → fault_of o ≡ Some e
fault_without_graph (Ok a) f e h = absurd (cc)
fault_without_graph (Err d) f e h = let same : d ≡ e = cc in ap Some same

no_fault_with_graph : {A B : Type 0} (o : Result A Fault) (f : A → B) (b : B) → and_then o (λ a. Ok (f a)) ≡ Ok b → fault_of o ≡ None
no_fault_with_graph (Ok a) f b h = refl
no_fault_with_graph (Err d) f b h = absurd (cc)

pub shape_fault_from_graph : (k : KernelParts) (f : Fault) → graph_of k ≡ Err f → shape_fault k ≡ Some f
shape_fault_from_graph k f h = fault_without_graph (kernel_meaning k) _ f h

pub faultless_from_graph : (k : KernelParts) (graph : GraphParts) → graph_of k ≡ Ok graph → shape_fault k ≡ None
faultless_from_graph k graph h = no_fault_with_graph (kernel_meaning k) _ graph h

-- ---- the laws

pub accepted_once : AcceptedOnce
accepted_once text k j g h a b =
    let kernel : k ≡ j = texts.one_kernel text k j a.reads b.reads in
    let graphs : Ok g ≡ Ok h = sym a.evaluated ∙ ap graph_of kernel ∙ b.evaluated in
    let graph : g ≡ h = cc in
    (kernel, graph)

pub one_kernel_fault : OneKernelFault
one_kernel_fault text c d at place (inl a) (inl b) = texts.one_text_fault text c d at place a b
one_kernel_fault text c d at place (inl a) (inr b) = absurd (texts.kernel_without_fault text b.kernel c at b.reads a)
one_kernel_fault text c d at place (inr a) (inl b) = absurd (texts.kernel_without_fault text a.kernel d place a.reads b)
one_kernel_fault text c d at place (inr a) (inr b) =
    let kernel : a.kernel ≡ b.kernel = texts.one_kernel text a.kernel b.kernel a.reads b.reads in
    let faults : Some (fault c at) ≡ Some (fault d place) = sym a.faulty ∙ ap shape_fault kernel ∙ b.faulty in
    let same : fault c at ≡ fault d place = cc in
    (ap (λ (f : Fault). f.code) same, ap (λ (f : Fault). f.at) same)

pub no_fault_of_accepted : NoFaultOfAccepted
no_fault_of_accepted text kernel graph code at a (inl f) = texts.kernel_without_fault text kernel code at a.reads f
no_fault_of_accepted text kernel graph code at a (inr f) =
    let same : kernel ≡ f.kernel = texts.one_kernel text kernel f.kernel a.reads f.reads in
    let both : None ≡ Some (fault code at) = sym (faultless_from_graph kernel graph a.evaluated) ∙ ap shape_fault same ∙ f.faulty in
    absurd (cc)

-- what a text is that stands for a kernel
abbrev Outcome : List ℕ → Type 0
Outcome text = ((kernel : KernelParts) × (graph : GraphParts) × IsAccepted text kernel graph) ⊎ ((code : ℕ) × (at : ℕ) × IsKernelFault text code at)

by_kernel : (text : List ℕ) (kernel : KernelParts) → Reads text kernel → (found : Result GraphParts Fault) → graph_of kernel ≡ found → Outcome text
by_kernel text kernel reads (Ok graph) e = inl (kernel, graph, record { reads = reads; evaluated = e })
by_kernel text kernel reads (Err f) e = inr (f.code, f.at, inr (record { kernel = kernel; reads = reads; faulty = shape_fault_from_graph kernel f e }))

pub accepted_or_fault : AcceptedOrFault
accepted_or_fault text = elim (texts.kernel_or_fault text) [
  | inl r ↦ by_kernel text r.0 r.1 (graph_of r.0) refl
  | inr f ↦ inr (f.0, f.1, inl f.2)
]

-- the end of reading is that of the text
pub end_means : (text : List ℕ) (end : ParseEnd) → parsing.EndMeans text end → EndMeans text (end_of_text end)
end_means text (Faulty code at) h = inl h
end_means text NoMemory h = tt

-- the end of the walk is that of the text
pub walk_end_means : (text : List ℕ) (kernel : KernelParts) (end : ShapeEnd) → Reads text kernel → Walked {A = List Flat} (walk_all kernel.decls kernel.body) (Err end) → EndMeans text (end_of_shape end)
walk_end_means text kernel (shape.Fault code at) reads h = inr (record { kernel = kernel; reads = reads; faulty = ap (λ w. fault_of (and_then w (λ turns. run_all numbered numbered_input kernel []))) h })
walk_end_means text kernel shape.NoMemory reads h = tt

-- the end of the values is that of the text
pub graph_end_means : (text : List ℕ) (kernel : KernelParts) (end : ShapeEnd) → Reads text kernel → Answers (graph_of kernel) (Err end) → EndMeans text (end_of_shape end)
graph_end_means text kernel (shape.Fault code at) reads h = inr (record { kernel = kernel; reads = reads; faulty = shape_fault_from_graph kernel (fault code at) h })
graph_end_means text kernel shape.NoMemory reads h = tt

-- ---- the graph of an accepted text

pub accepted_graph : {text : List ℕ} {kernel : KernelParts} {graph : GraphParts} → IsAccepted text kernel graph → IsGraph graph
accepted_graph {text} {kernel} {graph} a = IsGraph-graph_of kernel graph (texts.kernels_are_well_formed text kernel a.reads) a.evaluated

pub accepted_labels : {text : List ℕ} {kernel : KernelParts} {graph : GraphParts} → IsAccepted text kernel graph → IsLabelled kernel graph
accepted_labels {text} {kernel} {graph} a = IsLabelled-graph_of kernel graph (texts.kernels_are_well_formed text kernel a.reads) a.evaluated
