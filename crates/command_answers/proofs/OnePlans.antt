-- A text has one answer of `plan`, and a trial kernel one of `trial`: the search fixes the numbers, the code and the table.
use Rattle.std.proofs.Common.{◌≡◌, ℕ, List, Option, Some, sym, ap, ◌∙◌, subst}
use Rattle.comp_graph.specs.Graphs.{GraphParts}
use Rattle.kernel_ast.specs.KernelParts.{KernelParts}
use Rattle.kernel_gen.specs.Trials.{trial_kernel}
use Rattle.plan_report.specs.TrialText.{trial_text}
use Rattle.potential_cert.specs.Table.{TableParts}
use Rattle.potential_cert.specs.TableBytes.{IsSpelling, table_bytes}
use Rattle.slot_alloc.specs.PlanCode.{plan_code}
use Rattle.command_words.specs.declared.commands.Planning.{Planning}
use Rattle.command_words.specs.declared.commands.TrialPlanning.{TrialPlanning}
use Rattle.command_answers.specs.declared.status.Status.{Status}
use Rattle.command_answers.specs.declared.status.Status.TheVariants.{Done}
use Rattle.command_answers.specs.Accepted.{IsAccepted}
use Rattle.command_answers.specs.PlanAnswers.{PlanNumbers, IsShown, IsPlanned, plan_asked, facts_of, plan_text, verdict_status}
use Rattle.command_answers.specs.TrialAnswers.{IsTried, planning_of}
use Rattle.command_answers.proofs.Accepting.{accepted_once}
use Rattle.command_answers.proofs.OneShown.{shown_is_one}

-- one table has one spelling
one_spelling : (t u : TableParts) (table : Option (List ℕ)) (bytes : List ℕ) → t ≡ u → table ≡ Some bytes → IsSpelling bytes t → table ≡ Some (table_bytes u)
one_spelling t u table bytes same written spelled = written ∙ ap (λ b. Some b) (spelled.bytes_are ∙ ap table_bytes same)

-- what `plan` answers to an accepted text: the verdict, the report and the bytes of whatever numbers and table are shown of its graph, and the
-- code of the plan that the search finds
pub planned_is : (asked : Planning) (text : List ℕ) (status : Status) (printed : List ℕ) (table : Option (List ℕ)) (kernel : KernelParts) (graph : GraphParts) (numbers : PlanNumbers) (t : TableParts)
    → IsPlanned asked text status printed table → IsAccepted text kernel graph → IsShown graph asked numbers t
    → (status ≡ verdict_status numbers.optimal)
    × (printed ≡ plan_text kernel.title graph asked (record { numbers = numbers; code = plan_code (plan_asked asked graph) }))
    × (table ≡ Some (table_bytes t))
planned_is asked text status printed table kernel graph numbers t h accepted shown =
    (h.ends ∙ ap (λ (n : PlanNumbers). verdict_status n.optimal) same.0, h.report ∙ texts, one_spelling h.table_parts t table h.bytes same.1 h.written h.spelled)
  where
    kernels : h.kernel ≡ kernel
    kernels = (accepted_once text h.kernel kernel h.graph graph h.accepted accepted).0

    graphs : h.graph ≡ graph
    graphs = (accepted_once text h.kernel kernel h.graph graph h.accepted accepted).1

    same : (h.plan.numbers ≡ numbers) × (h.table_parts ≡ t)
    same = shown_is_one graph asked h.plan.numbers numbers h.table_parts t (subst (λ g. IsShown g asked h.plan.numbers h.table_parts) graphs h.answer.shown) shown

    codes : h.plan.code ≡ plan_code (plan_asked asked graph)
    codes = h.answer.code ∙ ap (λ g. plan_code (plan_asked asked g)) graphs

    plans : h.plan ≡ record { numbers = numbers; code = plan_code (plan_asked asked graph) }
    plans = λ i. record { numbers = same.0 i; code = codes i }

    texts : plan_text h.kernel.title h.graph asked h.plan ≡ plan_text kernel.title graph asked (record { numbers = numbers; code = plan_code (plan_asked asked graph) })
    texts = λ i. plan_text (kernels i).title (graphs i) asked (plans i)

-- so two answers are one
pub one_plan : (asked : Planning) (text : List ℕ) (s t : Status) (p q : List ℕ) (a b : Option (List ℕ)) → IsPlanned asked text s p a → IsPlanned asked text t q b
    → (s ≡ t) × (p ≡ q) × (a ≡ b)
one_plan asked text s t p q a b h k =
    let here = planned_is asked text s p a k.kernel k.graph k.plan.numbers k.table_parts h k.accepted k.answer.shown in
    let there = planned_is asked text t q b k.kernel k.graph k.plan.numbers k.table_parts k k.accepted k.answer.shown in
    (here.0 ∙ sym there.0, here.1 ∙ sym there.1, here.2 ∙ sym there.2)

-- what `trial` answers: the lines and the bytes of whatever numbers and table are shown of the trial kernel's graph
pub tried_is : (asked : TrialPlanning) (status : Status) (printed : List ℕ) (table : Option (List ℕ)) (kernel : KernelParts) (graph : GraphParts) (numbers : PlanNumbers) (t : TableParts)
    → IsTried asked status printed table → IsAccepted (trial_kernel asked.statements) kernel graph → IsShown graph (planning_of asked) numbers t
    → (status ≡ Done) × (printed ≡ trial_text asked.statements (facts_of graph (planning_of asked) numbers)) × (table ≡ Some (table_bytes t))
tried_is asked status printed table kernel graph numbers t h accepted shown = (h.ends, h.lines ∙ texts, one_spelling h.table_parts t table h.bytes same.1 h.written h.spelled)
  where
    graphs : h.graph ≡ graph
    graphs = (accepted_once (trial_kernel asked.statements) h.kernel kernel h.graph graph h.accepted accepted).1

    same : (h.numbers ≡ numbers) × (h.table_parts ≡ t)
    same = shown_is_one graph (planning_of asked) h.numbers numbers h.table_parts t (subst (λ g. IsShown g (planning_of asked) h.numbers h.table_parts) graphs h.shown) shown

    texts : trial_text asked.statements (facts_of h.graph (planning_of asked) h.numbers) ≡ trial_text asked.statements (facts_of graph (planning_of asked) numbers)
    texts = λ i. trial_text asked.statements (facts_of (graphs i) (planning_of asked) (same.0 i))

-- so two answers are one
pub one_trial : (asked : TrialPlanning) (s t : Status) (p q : List ℕ) (a b : Option (List ℕ)) → IsTried asked s p a → IsTried asked t q b
    → (s ≡ t) × (p ≡ q) × (a ≡ b)
one_trial asked s t p q a b h k =
    let here = tried_is asked s p a k.kernel k.graph k.numbers k.table_parts h k.accepted k.shown in
    let there = tried_is asked t q b k.kernel k.graph k.numbers k.table_parts k k.accepted k.shown in
    (here.0 ∙ sym there.0, here.1 ∙ sym there.1, here.2 ∙ sym there.2)
