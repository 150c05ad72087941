-- The own answers of `trial`: one to each trial kernel with enough slots, by the plan that the search finds and its table.
use Rattle.std.proofs.Common.{◌≡◌, ℕ, ◌<◌, List, Option, Some, refl, ap, subst, arith}
use Rattle.comp_graph.specs.Dags.{degree}
use Rattle.comp_graph.specs.Graphs.{GraphParts, dag_of}
use Rattle.comp_graph.specs.Games.{IsGame}
use Rattle.kernel_ast.specs.KernelParts.{KernelParts}
use Rattle.kernel_gen.specs.Trials.{trial_kernel}
use Rattle.plan_report.specs.TrialText.{trial_text}
use Rattle.potential_cert.specs.TableBytes.{table_bytes}
use Rattle.command_words.specs.declared.commands.Command.TheVariants.{Trial}
use Rattle.command_words.specs.declared.commands.TrialPlanning.{TrialPlanning}
use Rattle.command_answers.specs.declared.status.Status.{Status}
use Rattle.command_answers.specs.declared.status.Status.TheVariants.{Done}
use Rattle.command_answers.specs.Accepted.{IsAccepted}
use Rattle.pebble_cli.specs.Answers.{IsAdmitted, kernel_with_room, code_input}
use Rattle.command_answers.specs.PlanAnswers.{facts_of}
use Rattle.command_answers.specs.PlayedGames.{game_asked}
use Rattle.command_answers.specs.Status.{is_own}
use Rattle.desk_io.specs.Known.{ToldFile}
use Rattle.command_answers.specs.TrialAnswers.{IsTried, planning_of}
use Rattle.command_words.specs.Words.{IsInLimits}
use Rattle.command_answers.proofs.Accepting.{accepted_graph}
use Rattle.command_answers.proofs.FoundPlans.{found_shown, numbers_with, plan_is_possible}
use Rattle.pebble_cli.proofs.OwnAnswers.{IsKept, HasOwn, AreKept}
use Rattle.pebble_cli.proofs.PlanKept.{room_for}
use Rattle.command_answers.proofs.SomePlans.{table_asked, is_searched, is_spelled}
use Rattle.command_answers.proofs.FoundTrials.{trial_vertices}
use Rattle.command_answers.proofs.OnePlans.{one_trial}

-- a trial kernel with enough slots is admitted, whatever stands in the input
pub admits : (asked : TrialPlanning) (input : List ℕ) (kernel : KernelParts) (graph : GraphParts) → IsAccepted (trial_kernel asked.statements) kernel graph → degree (dag_of graph) < asked.slots
    → IsAdmitted (Trial asked) input
admits asked input kernel graph accepted room =
    kernel_with_room (trial_kernel asked.statements) refl (record { kernel = kernel; graph = graph; accepted = accepted; room = room_for (planning_of asked) graph room })

kept : (asked : TrialPlanning) (input : List ℕ) (file : ToldFile) (status : Status) (printed : List ℕ) (table : Option (List ℕ))
    → IsTried asked status printed table → IsKept (Trial asked) input file status printed table
kept asked input file status printed table h = record {
  admitted = admits asked input h.kernel h.graph h.accepted h.room;
  last = ap is_own h.ends;
  untold = λ e. absurd (cc);
  held = λ e. absurd (cc);
}

-- a plan answers an accepted kernel with enough slots
answered : (asked : TrialPlanning) (input : List ℕ) (file : ToldFile) (kernel : KernelParts) (graph : GraphParts) (game : IsGame (game_asked (planning_of asked) graph)) → IsInLimits (Trial asked)
    → IsAccepted (trial_kernel asked.statements) kernel graph → HasOwn (Trial asked) input file
answered asked input file kernel graph game limits accepted =
    let table = table_asked (planning_of asked) graph game in
    let numbers = numbers_with (planning_of asked) graph table in
    record {
      status = Done;
      printed = trial_text asked.statements (facts_of graph (planning_of asked) numbers);
      table = Some (table_bytes table);
      answer = record {
        kernel = kernel;
        graph = graph;
        accepted = accepted;
        vertices = trial_vertices asked.statements kernel graph limits.0.0 limits.0.1 accepted;
        room = game.room;
        numbers = numbers;
        table_parts = table;
        shown = found_shown (planning_of asked) graph table game (is_searched (planning_of asked) graph game);
        possible = plan_is_possible (planning_of asked) graph game;
        ends = refl;
        lines = refl;
        bytes = table_bytes table;
        written = refl;
        spelled = is_spelled (planning_of asked) graph game (omega arith) limits.1.0;
      };
    }

some : (asked : TrialPlanning) (input : List ℕ) (file : ToldFile) → IsInLimits (Trial asked) → IsAdmitted (Trial asked) input → HasOwn (Trial asked) input file
some asked input file limits (kernel_with_room text e h) =
    let same : text ≡ trial_kernel asked.statements = cc in
    let game : IsGame (game_asked (planning_of asked) h.graph) = record {
      valid = accepted_graph h.accepted;
      most = limits.1.1;
      room = h.room asked.slots refl;
      weights = record { load_some = omega arith; load_most = omega arith; store_some = omega arith; store_most = omega arith };
    } in
    answered asked input file h.kernel h.graph game limits (subst (λ t. IsAccepted t h.kernel h.graph) same h.accepted)
some asked input file limits (code_input code is h) = absurd (cc)

pub trial_kept : (asked : TrialPlanning) → AreKept (Trial asked)
trial_kept asked = record {
  each = kept asked;
  once = λ input file s t p q a b told h k. one_trial asked s t p q a b h k;
  some = λ input file limits held admitted. some asked input file limits admitted;
}
