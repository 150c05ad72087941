-- What a search finds of a trial kernel answers the trial.
use Rattle.std.proofs.Common.{◌≡◌, ℕ, ◌+◌, ◌≤◌, List, length, Some, refl, sym, ap, ◌∙◌, subst}
use Rattle.comp_graph.specs.Graphs.{GraphParts}
use Rattle.comp_graph.specs.Games.{GameParts, IsGame}
use Rattle.kernel_ast.specs.KernelParts.{KernelParts}
use Rattle.kernel_gen.specs.Trials.{trial_kernel}
use Rattle.kernel_gen.specs.Laws.{IsTrial}
use Rattle.kernel_gen.proofs.AcceptedTrials.{trials_accepted}
use Rattle.normal_steps.specs.Plans.{PlanParts, IsPlan}
use Rattle.plan_report.specs.TrialText.{trial_text}
use Rattle.potential_cert.specs.TableBytes.{IsSpelling}
use Rattle.branch_bound.specs.Founds.{IsFound}
use Rattle.branch_bound.specs.declared.searching.Found.{Found}
use Rattle.command_words.specs.declared.commands.TrialPlanning.{TrialPlanning}
use Rattle.command_answers.specs.declared.status.Status.{Status}
use Rattle.command_answers.specs.declared.status.Status.TheVariants.{Done}
use Rattle.command_answers.specs.Accepted.{IsAccepted}
use Rattle.command_answers.specs.MadeAnswers.{numbers_of}
use Rattle.command_answers.specs.PlanAnswers.{facts_of, first_plan_of}
use Rattle.command_answers.specs.PlayedGames.{HasPebbling, game_asked}
use Rattle.command_answers.specs.TrialAnswers.{IsTried, planning_of}
use Rattle.command_answers.proofs.Accepting.{accepted_once}
use Rattle.command_answers.proofs.FoundPlans.{found_for, found_is_shown, plan_is_possible}

-- the one graph of a trial kernel has a vertex for each input element and each statement
pub trial_vertices : (n : ℕ) (kernel : KernelParts) (graph : GraphParts) → 1 ≤ n → n ≤ 200 → IsAccepted (trial_kernel n) kernel graph → length graph.nodes ≡ 16 + n
trial_vertices n kernel graph some few accepted =
    let trial : IsTrial n = trials_accepted n some few in
    ap (λ (g : GraphParts). length g.nodes) (accepted_once (trial_kernel n) kernel trial.kernel graph trial.graph accepted trial.accepted).1 ∙ trial.vertices

-- what is printed and written of a search from the first plan answers the trial
pub found_is_tried : (asked : TrialPlanning) (game : GameParts) (first : PlanParts) (found : Found) (kernel : KernelParts) (status : Status) (printed bytes : List ℕ)
    → game ≡ game_asked (planning_of asked) game.graph → IsGame game → first ≡ first_plan_of game → IsFound first 2000 found → IsPlan found.plan → 1 ≤ asked.statements → asked.statements ≤ 200
    → IsAccepted (trial_kernel asked.statements) kernel game.graph → status ≡ Done → printed ≡ trial_text asked.statements (facts_of game.graph (planning_of asked) (numbers_of found))
    → IsSpelling bytes found.table → IsTried asked status printed (Some bytes)
found_is_tried asked game first found kernel status printed bytes played valid first_is at is_plan some few accepted ends lines spelled =
    let is = found_for (planning_of asked) game first found played valid first_is at is_plan in
    record {
      kernel = kernel;
      graph = game.graph;
      accepted = accepted;
      vertices = trial_vertices asked.statements kernel game.graph some few accepted;
      room = is.game.room;
      numbers = numbers_of found;
      table_parts = found.table;
      shown = found_is_shown (planning_of asked) game.graph found is;
      possible = subst (λ (p : PlanParts). HasPebbling (game_asked (planning_of asked) game.graph) p.total) (sym is.plan) (plan_is_possible (planning_of asked) game.graph is.game);
      ends = ends;
      lines = lines;
      bytes = bytes;
      written = refl;
      spelled = spelled;
    }
