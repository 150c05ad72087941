-- The own answers of `plan`: one to each accepted kernel with enough slots, by the plan that the search finds and its table.
use Rattle.std.proofs.Common.{◌≡◌, ℕ, ◌<◌, Bool, true, false, List, Option, None, Some, refl, ap, ◌∙◌, subst, arith}
use Rattle.comp_graph.specs.Dags.{degree}
use Rattle.comp_graph.specs.Graphs.{GraphParts, dag_of}
use Rattle.comp_graph.specs.Games.{IsGame}
use Rattle.kernel_ast.specs.KernelParts.{KernelParts}
use Rattle.potential_cert.specs.Table.{IsSupport}
use Rattle.potential_cert.specs.TableBytes.{table_bytes}
use Rattle.potential_cert.proofs.SupportLaws.{support_is_one, support_ignores_order}
use Rattle.command_words.specs.declared.commands.Command.TheVariants.{Plan}
use Rattle.command_words.specs.declared.commands.Planning.{Planning}
use Rattle.command_answers.specs.declared.status.Status.{Status}
use Rattle.command_answers.specs.Accepted.{IsAccepted}
use Rattle.pebble_cli.specs.Answers.{IsAdmitted, kernel_with_room, code_input}
use Rattle.command_answers.specs.PlanAnswers.{IsPlanned, plan_asked, rows_asked, plan_text, verdict_status}
use Rattle.pebble_cli.specs.PlanLaws.{IsBoundAsked}
use Rattle.command_answers.specs.PlayedGames.{game_asked, played_for}
use Rattle.command_answers.specs.Status.{is_own}
use Rattle.desk_io.specs.Known.{ToldFile}
use Rattle.command_words.specs.Words.{IsInLimits}
use Rattle.command_answers.proofs.Accepting.{accepted_once, accepted_graph}
use Rattle.command_answers.proofs.FoundPlans.{printed_with, found_answers}
use Rattle.command_answers.proofs.OnePlans.{one_plan}
use Rattle.pebble_cli.proofs.OwnAnswers.{IsKept, HasOwn, AreKept}
use Rattle.command_answers.proofs.SomePlans.{table_asked, is_searched, is_spelled}

pub verdict_is_own : (optimal : Bool) → is_own (verdict_status optimal) ≡ true
verdict_is_own true = refl
verdict_is_own false = refl

-- more slots than the degree
pub room_for : (asked : Planning) (graph : GraphParts) → degree (dag_of graph) < asked.slots → (count : ℕ) → Some asked.slots ≡ Some count → degree (dag_of graph) < count
room_for asked graph room count e = let same : asked.slots ≡ count = cc in omega (arith, room, same)

-- an accepted kernel with enough slots is admitted
pub admits : (asked : Planning) (input : List ℕ) (kernel : KernelParts) (graph : GraphParts) → IsAccepted input kernel graph → degree (dag_of graph) < asked.slots
    → IsAdmitted (Plan asked) input
admits asked input kernel graph accepted room =
    kernel_with_room input refl (record { kernel = kernel; graph = graph; accepted = accepted; room = room_for asked graph room })

kept : (asked : Planning) (input : List ℕ) (file : ToldFile) (status : Status) (printed : List ℕ) (table : Option (List ℕ))
    → IsPlanned asked input status printed table → IsKept (Plan asked) input file status printed table
kept asked input file status printed table h = record {
  admitted = admits asked input h.kernel h.graph h.accepted h.room;
  last = ap is_own h.ends ∙ verdict_is_own h.plan.numbers.optimal;
  untold = λ e. absurd (cc);
  held = λ e. absurd (cc);
}

-- the bound and the cost are those of the text's one graph
pub planned_numbers : (asked : Planning) (text : List ℕ) (kernel : KernelParts) (graph : GraphParts) (status : Status) (printed : List ℕ) (table : Option (List ℕ))
    → IsAccepted text kernel graph → (h : IsPlanned asked text status printed table)
    → IsBoundAsked asked graph h.plan.numbers.bound × (h.plan.numbers.cost ≡ (plan_asked asked graph).total)
planned_numbers asked text kernel graph status printed table accepted h =
    let same = (accepted_once text h.kernel kernel h.graph graph h.accepted accepted).1 in
    let rows = support_ignores_order (played_for asked h.graph) h.table_parts.rows (rows_asked asked h.graph) h.plan.numbers.cost h.plan.numbers.bound
    (λ r. ((h.answer.shown.rows r).1, (h.answer.shown.rows r).0)) h.answer.shown.support in
    let bound : IsBoundAsked asked h.graph h.plan.numbers.bound =
    subst (λ cost. IsSupport (played_for asked h.graph) (rows_asked asked h.graph) cost h.plan.numbers.bound) h.answer.shown.cost rows in
    (subst (λ g. IsBoundAsked asked g h.plan.numbers.bound) same bound, h.answer.shown.cost ∙ ap (λ g. (plan_asked asked g).total) same)

-- there is one such bound
pub one_bound : (asked : Planning) (graph : GraphParts) (a b : ℕ) → IsBoundAsked asked graph a → IsBoundAsked asked graph b → a ≡ b
one_bound asked graph a b = support_is_one (played_for asked graph) (rows_asked asked graph) (plan_asked asked graph).total a b

-- a plan answers an accepted kernel with enough slots
answered : (asked : Planning) (text : List ℕ) (kernel : KernelParts) (graph : GraphParts) (game : IsGame (game_asked asked graph)) → IsInLimits (Plan asked) → IsAccepted text kernel graph
    → HasOwn (Plan asked) text None
answered asked text kernel graph game limits accepted =
    let table = table_asked asked graph game in
    let plan = printed_with asked graph table in
    record {
      status = verdict_status plan.numbers.optimal;
      printed = plan_text kernel.title graph asked plan;
      table = Some (table_bytes table);
      answer = record {
        kernel = kernel;
        graph = graph;
        accepted = accepted;
        valid = game.valid;
        room = game.room;
        plan = plan;
        table_parts = table;
        answer = found_answers asked graph text kernel table game accepted (is_searched asked graph game);
        ends = refl;
        report = refl;
        bytes = table_bytes table;
        written = refl;
        spelled = is_spelled asked graph game limits.2 limits.0;
      };
    }

some : (asked : Planning) (input : List ℕ) (file : ToldFile) → IsInLimits (Plan asked) → IsAdmitted (Plan asked) input → HasOwn (Plan asked) input file
some asked input file limits (kernel_with_room text e h) =
    let same : text ≡ input = cc in
    let game : IsGame (game_asked asked h.graph) = record {
      valid = accepted_graph h.accepted;
      most = limits.1;
      room = h.room asked.slots refl;
      weights = limits.3;
    } in
    let last = answered asked text h.kernel h.graph game limits h.accepted in
    record {
      status = last.status;
      printed = last.printed;
      table = last.table;
      answer = subst (λ t. IsPlanned asked t last.status last.printed last.table) same last.answer;
    }
some asked input file limits (code_input code is h) = absurd (cc)

pub plan_kept : (asked : Planning) → AreKept (Plan asked)
plan_kept asked = record {
  each = kept asked;
  once = λ input file s t p q a b told h k. one_plan asked input s t p q a b h k;
  some = λ input file limits held admitted. some asked input file limits admitted;
}
