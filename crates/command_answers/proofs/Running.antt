-- What `run` answers to the values of a file.
use Rattle.std.proofs.Common.{◌≡◌, ◌≤◌, ℕ, ℤ, List, length, map, Option, None, Result, Ok, Err, IfOk, inl, inr, sym, ap, ◌∙◌, subst}
use Rattle.std.specs.Prelude.{Vec}
use Rattle.std.specs.declared.alloc.Global.{Global}
use Rattle.std.proofs.lemmas.List.{length-map}
use Rattle.comp_graph.specs.declared.node.Output.{Output}
use Rattle.comp_graph.specs.Graphs.{GraphParts}
use Rattle.desk_io.specs.Known.{ToldFile, TellsFile, TellsMoreFile, file_items}
use Rattle.kernel_ast.specs.declared.tree.DeclKind.TheVariants as kinds
use Rattle.kernel_ast.specs.KernelParts.{KernelParts}
use Rattle.kernel_ast.specs.Labels.{labels_of}
use Rattle.kernel_parser.proofs.OneText.{kernels_are_well_formed}
use Rattle.plan_report.specs.OutputsText.{outputs_text}
use Rattle.source_machine.specs.Inputs.{input_count}
use Rattle.source_machine.specs.RunEnds.{IsRun, IsWrongCount}
use Rattle.three_address.proofs.KernelGraphLaws.{length-labels_of, outputs-graph_of}
use Rattle.values_text.specs.Values.{Spells}
use Rattle.command_answers.specs.declared.answer.Answer.{Answer}
use Rattle.command_answers.specs.declared.answer.FileBytes.{FileBytes}
use Rattle.command_answers.specs.declared.answer.FileBytes.TheVariants.{Whole, TooLong}
use Rattle.command_answers.specs.declared.status.Status.{Status}
use Rattle.command_answers.specs.declared.status.Status.TheVariants.{Done, Values}
use Rattle.command_answers.specs.Accepted.{IsAccepted}
use Rattle.command_answers.specs.MadeAnswers.{Meets, IsFileOf}
use Rattle.command_answers.specs.RunAnswers.{Runs, IsNoValuesFile}
use Rattle.command_answers.specs.ValuesFiles.{values_fault_text}
use Rattle.command_answers.proofs.Accepting.{accepted_graph, accepted_labels}
use Rattle.scratch_machine.proofs.GraphValues.{values_exist}
use Rattle.command_answers.proofs.ToldBytes.{told_more_file}
use Rattle.command_answers.proofs.ValuesFiles.{no_room}

-- ---- values files

-- as many labels as there are input elements
labels_counted : (kernel : KernelParts) → length (labels_of kinds.Input kernel.decls) ≡ input_count kernel
labels_counted kernel = length-labels_of kinds.Input 0 kernel.decls

-- a file that spells another number of values holds none
pub wrong_count : (kernel : KernelParts) (bytes : List ℕ) (values : List ℤ) (needs got : ℕ) → ((others : List ℤ) → Spells bytes others → others ≡ values)
    → IsWrongCount kernel values needs got → IsNoValuesFile kernel bytes
wrong_count kernel bytes values needs got only wrong others file =
    let same : others ≡ values = only others file.spelled in
    wrong.differ (wrong.needed ∙ sym (labels_counted kernel) ∙ sym file.counted ∙ ap length same ∙ sym wrong.given)

-- ---- outputs

-- as many outputs as the graph has
pub outputs_counted : (text : List ℕ) (kernel : KernelParts) (graph : GraphParts) (values found : List ℤ) → IsAccepted text kernel graph → IsRun kernel values found
    → length graph.outputs ≡ length found
outputs_counted text kernel graph values found accepted ran =
    let counted : length values ≡ length graph.names = ran.count ∙ sym (labels_counted kernel) ∙ sym (ap length (accepted_labels accepted).inputs) in
    let valuation = values_exist graph (accepted_graph accepted) values counted in
    let same = outputs-graph_of kernel graph values valuation.0 (kernels_are_well_formed text kernel accepted.reads) accepted.evaluated counted valuation.1 in
    sym (ap length (ran.outputs ∙ same) ∙ length-map graph.outputs (λ (o : Output). valuation.0 o.vertex))

-- ---- answers

-- the answer where the file holds no values
pub is_wrong : (text : List ℕ) (file : ToldFile) (kernel : KernelParts) (graph : GraphParts) (bytes : List ℕ) (status : Status) (printed : List ℕ) (table : Option (List ℕ))
    → status ≡ Values → printed ≡ values_fault_text → table ≡ None → IsNoValuesFile kernel bytes → IsAccepted text kernel graph → TellsFile file bytes
    → Runs text file status printed table
is_wrong text file kernel graph bytes status printed table is line none wrong accepted held = inr (record {
  kernel = kernel;
  graph = graph;
  accepted = accepted;
  bytes = bytes;
  held = held;
  wrong = wrong;
  ends = is;
  line = line;
  none = none;
})

pub wrong_values : {E : Type 0} (r : Result Answer E) (kernel : KernelParts) (graph : GraphParts) (bytes : List ℕ)
    → IfOk r (λ a. a.status ≡ Values) → IfOk r (λ a. a.text.items ≡ values_fault_text) → IfOk r (λ a. file_items a.table ≡ None) → IsNoValuesFile kernel bytes
    → IfOk r (λ a. (text : List ℕ) (file : ToldFile) → IsAccepted text kernel graph → TellsFile file bytes → Meets (Runs text file) a)
wrong_values (Ok a) kernel graph bytes is line none wrong = λ text file accepted held.
    is_wrong text file kernel graph bytes a.status a.text.items (file_items a.table) is line none wrong accepted held
wrong_values (Err e) kernel graph bytes is line none wrong = tt

-- the answer where the file is too long
pub long_values : {E : Type 0} (r : Result Answer E) (kernel : KernelParts) (graph : GraphParts)
    → IfOk r (λ a. a.status ≡ Values) → IfOk r (λ a. a.text.items ≡ values_fault_text) → IfOk r (λ a. file_items a.table ≡ None)
    → IfOk r (λ a. (text : List ℕ) (file : ToldFile) → IsAccepted text kernel graph → TellsMoreFile file 1000000 → Meets (Runs text file) a)
long_values (Ok a) kernel graph is line none = λ text file accepted more.
    let told = told_more_file file 1000000 more in
    is_wrong text file kernel graph told.0 a.status a.text.items (file_items a.table) is line none (no_room (length (labels_of kinds.Input kernel.decls)) told.0 told.2) accepted told.1
long_values (Err e) kernel graph is line none = tt

-- what answers the bytes of a file answers what was read of it
pub of_whole : {E : Type 0} (r : Result Answer E) (kernel : KernelParts) (graph : GraphParts) (file : FileBytes) (held : Vec ℕ Global) (bytes : List ℕ)
    → file ≡ Whole held → bytes ≡ held.items
    → IfOk r (λ a. (text : List ℕ) (told : ToldFile) → IsAccepted text kernel graph → TellsFile told bytes → Meets (Runs text told) a)
    → IfOk r (λ a. (text : List ℕ) (told : ToldFile) → IsAccepted text kernel graph → IsFileOf told 1000000 file → Meets (Runs text told) a)
of_whole (Ok a) kernel graph file held bytes is same h = λ text told accepted of_file.
    h text told accepted (subst (TellsFile told) (sym same) (subst (IsFileOf told 1000000) is of_file).0)
of_whole (Err e) kernel graph file held bytes is same h = tt

pub of_long : {E : Type 0} (r : Result Answer E) (kernel : KernelParts) (graph : GraphParts) (file : FileBytes) → file ≡ TooLong
    → IfOk r (λ a. (text : List ℕ) (told : ToldFile) → IsAccepted text kernel graph → TellsMoreFile told 1000000 → Meets (Runs text told) a)
    → IfOk r (λ a. (text : List ℕ) (told : ToldFile) → IsAccepted text kernel graph → IsFileOf told 1000000 file → Meets (Runs text told) a)
of_long (Ok a) kernel graph file is h = λ text told accepted of_file. h text told accepted (subst (IsFileOf told 1000000) is of_file)
of_long (Err e) kernel graph file is h = tt

-- the answer where the file holds values
is_valued : (text : List ℕ) (file : ToldFile) (kernel : KernelParts) (graph : GraphParts) (bytes : List ℕ) (values found : List ℤ)
    (status : Status) (printed : List ℕ) (table : Option (List ℕ))
    → status ≡ Done → printed ≡ outputs_text (map (λ (o : Output). o.label) graph.outputs) found → table ≡ None → length bytes ≤ 1000000 → Spells bytes values → IsRun kernel values found
    → IsAccepted text kernel graph → TellsFile file bytes → Runs text file status printed table
is_valued text file kernel graph bytes values found status printed table is lines none short spelled ran accepted held = inl (record {
  kernel = kernel;
  graph = graph;
  accepted = accepted;
  bytes = bytes;
  held = held;
  values = values;
  given = record { short = short; spelled = spelled; counted = ran.count ∙ sym (labels_counted kernel) };
  ends = is;
  lines = lines ∙ ap (λ ls. outputs_text ls found) (accepted_labels accepted).outputs ∙ ap (outputs_text (labels_of kinds.Output kernel.decls)) ran.outputs;
  none = none;
})

pub right_values : {E : Type 0} (r : Result Answer E) (kernel : KernelParts) (graph : GraphParts) (bytes : List ℕ) (values found : List ℤ)
    → IfOk r (λ a. a.status ≡ Done) → IfOk r (λ a. a.text.items ≡ outputs_text (map (λ (o : Output). o.label) graph.outputs) found) → IfOk r (λ a. file_items a.table ≡ None)
    → length bytes ≤ 1000000 → Spells bytes values → IsRun kernel values found
    → IfOk r (λ a. (text : List ℕ) (file : ToldFile) → IsAccepted text kernel graph → TellsFile file bytes → Meets (Runs text file) a)
right_values (Ok a) kernel graph bytes values found is lines none short spelled ran = λ text file accepted held.
    is_valued text file kernel graph bytes values found a.status a.text.items (file_items a.table) is lines none short spelled ran accepted held
right_values (Err e) kernel graph bytes values found is lines none short spelled ran = tt
