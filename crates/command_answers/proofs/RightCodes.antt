-- The code of a plan for the graph of a kernel is right.
use Rattle.std.proofs.Common.{◌≡◌, ℕ, ℤ, List, length, map, refl, sym, ap, ◌∙◌}
use Rattle.comp_graph.specs.declared.node.Output.{Output}
use Rattle.normal_steps.specs.Plans.{PlanParts}
use Rattle.scratch_machine.specs.declared.code.OutWord.{OutWord}
use Rattle.scratch_machine.specs.Values.{output_values}
use Rattle.pebble_rules.specs.Transfers.{loads, stores}
use Rattle.kernel_ast.specs.KernelParts.{KernelParts}
use Rattle.three_address.proofs.KernelGraphLaws.{outputs-graph_of}
use Rattle.kernel_parser.proofs.OneText.{kernels_are_well_formed}
use Rattle.slot_alloc.specs.Emitted.{layout_after_all, first_layout}
use Rattle.slot_alloc.specs.PlanCode.{IsPlanCode, plan_code, plan_moves}
use Rattle.command_answers.specs.Accepted.{IsAccepted}
use Rattle.command_answers.specs.RightCodes.{IsRightCode, RunsRight}
use Rattle.command_answers.proofs.Accepting.{accepted_labels}
use Rattle.command_answers.proofs.FirstPlans.{labels_kept}

-- the code of a plan for the graph of a kernel gives the source's outputs
runs_right : (plan : PlanParts) (text : List ℕ) (kernel : KernelParts) → IsPlanCode plan → IsAccepted text kernel plan.game.graph
    → (values : List ℤ) → length values ≡ length plan.game.graph.names → RunsRight kernel plan.game.weights (plan_code plan) plan.total values
runs_right plan text kernel right accepted values count =
    let ran = right.runs values count in
    let weighs = right.weighs in
    record {
      ending = record {
        outputs = output_values plan.game.graph ran.value;
        loads = loads (plan_moves plan);
        stores = stores (plan_moves plan);
      };
      runs = ran.runs;
      same = sym (outputs-graph_of kernel plan.game.graph values ran.value (kernels_are_well_formed text kernel accepted.reads) accepted.evaluated count ran.values);
      counted = weighs;
    }

-- and has the labels of its output elements
plan_labels : (plan : PlanParts) → map (λ (o : OutWord). o.label) (plan_code plan).outputs ≡ map (λ (o : Output). o.label) plan.game.graph.outputs
plan_labels plan = labels_kept (layout_after_all (first_layout plan.game.graph plan.game.slots) (plan_moves plan)) plan.game.graph.outputs

-- so it is right
pub right_code : (plan : PlanParts) (text : List ℕ) (kernel : KernelParts) → IsPlanCode plan → IsAccepted text kernel plan.game.graph → IsRightCode kernel plan.game (plan_code plan) plan.total
right_code plan text kernel right accepted =
    let names = accepted_labels accepted in
    record {
      slots = refl;
      bounds = right.valid;
      inputs = names.inputs;
      outputs = plan_labels plan ∙ names.outputs;
      right = λ values count. runs_right plan text kernel right accepted values (count ∙ ap length (sym names.inputs));
      played = record { moves = plan_moves plan; complete = right.complete; costs = right.costs; plays = right.plays };
    }
