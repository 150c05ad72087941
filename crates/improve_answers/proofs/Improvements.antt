-- What was found for a game is an improvement: its plan has a right code, and its table bounds each complete pebbling.
use Rattle.std.proofs.Common.{◌≡◌, ◌≢◌, ◌≤◌, ◌<◌, ◌==◌, ◌↔◌, ℕ, Bool, false, List, [], ◌∷◌, length, Some, Option, inl, inr, refl, sym, ap, ◌∙◌, subst, arith}
use Rattle.std.proofs.lemmas.Bool.{cases_eq, eqb-true, eq-eqb, ne_eqb, false≢true}
use Rattle.comp_graph.specs.Games.{GameParts, IsGame, PebbleGame, game_of}
use Rattle.comp_graph.specs.Graphs.{GraphParts}
use Rattle.comp_graph.proofs.GraphLaws.{IsDag-dag_of}
use Rattle.forced_bounds.specs.Floor.{floor}
use Rattle.forced_bounds.proofs.Below.{floor_is_below_plays}
use Rattle.kernel_ast.specs.KernelParts.{KernelParts}
use Rattle.normal_steps.specs.Plans.{IsPlan}
use Rattle.normal_steps.proofs.Simulation.{plays_from_start_cost_no_more}
use Rattle.pebble_rules.specs.Rules.{start}
use Rattle.potential_cert.specs.declared.tables.Row.{Row}
use Rattle.potential_cert.specs.Table.{IsValid}
use Rattle.potential_cert.proofs.Bound.{bound_is_below_pebblings}
use Rattle.potential_cert.specs.TableBytes.{IsSpelling}
use Rattle.slot_alloc.specs.PlanCode.{plan_code}
use Rattle.slot_alloc.proofs.Right.{plan_code_is_right}
use Rattle.command_answers.specs.declared.status.Status.{Status}
use Rattle.command_answers.specs.Accepted.{IsAccepted}
use Rattle.command_answers.specs.PlanAnswers.{verdict_status}
use Rattle.command_answers.specs.RightCodes.{IsRightCode}
use Rattle.command_answers.proofs.Accepting.{accepted_labels}
use Rattle.command_answers.proofs.RightCodes.{right_code}
use Rattle.improve_answers.specs.declared.commands.Improving.{Improving}
use Rattle.improve_answers.specs.declared.finding.Improvement.{Improvement}
use Rattle.improve_answers.specs.Improved.{IsFoundFor, IsImprovement, IsImproved, game_improved, improved_text, numbers_found, rows_allowed}

-- two numbers differ exactly if the lower one is below the other
below_if_differs : (a b : ℕ) → a ≤ b → ((a == b) ≡ false) ↔ (a < b)
below_if_differs a b most = (λ e. differs e, λ less. ne_eqb a b (λ same. absurd (omega (arith, less, same))))
  where
    differs : (a == b) ≡ false → a < b
    differs e = elim (cases_eq a b) [ inl same ↦ absurd (false≢true (sym e ∙ eq-eqb a b same)) | inr other ↦ omega arith ]

-- without effort no rows are allowed
none_allowed : (effort rows : ℕ) → effort ≡ 0 → rows ≤ rows_allowed effort → rows ≡ 0
none_allowed effort rows none few = omega (arith, none, few)

-- without rows the bound of a valid table is at most the floor of the start
bound_without_rows : (g : PebbleGame) (rows : List Row) (bound : ℕ) → IsValid g rows bound → length rows ≡ 0 → bound ≤ floor g (start g)
bound_without_rows g [] bound valid none = elim valid.begins [ inl low ↦ low | inr row ↦ absurd row.1 ]
bound_without_rows g (r ∷ rs) bound valid none = absurd (omega (arith, none))

-- the code of a plan of the game is right
code_found : (asked : Improving) (graph : GraphParts) (text : List ℕ) (kernel : KernelParts) (found : Improvement) → IsGame (game_improved asked graph) → IsPlan found.plan
    → found.plan.game ≡ game_improved asked graph → IsAccepted text kernel graph → IsRightCode kernel (game_improved asked graph) (plan_code found.plan) found.plan.total
code_found asked graph text kernel found game valid of_game accepted =
    let right = plan_code_is_right found.plan (subst IsGame (sym of_game) game) valid in
    subst (λ g. IsRightCode kernel g (plan_code found.plan) found.plan.total) of_game
    (right_code found.plan text kernel right (subst (λ (g : GameParts). IsAccepted text kernel g.graph) (sym of_game) accepted))

-- what was found is an improvement
pub found_improves : (asked : Improving) (graph : GraphParts) (text : List ℕ) (kernel : KernelParts) (found : Improvement) → IsGame (game_improved asked graph) → IsPlan found.plan
    → IsFoundFor (game_improved asked graph) asked.effort found → IsAccepted text kernel graph
    → IsImprovement kernel graph asked (numbers_found found) found.plan found.table
found_improves asked graph text kernel found game valid is accepted = record {
  of_game = is.game;
  valid = valid;
  cost = refl;
  first = is.first;
  no_more = is.no_more;
  effortless = λ none. (is.still none, no_rows none, floor_is none);
  right = code_found asked graph text kernel found game valid is.game accepted;
  tabled = is.table.tabled;
  bound = refl;
  expanded = refl;
  few = is.table.few;
  lowest = bound_is_below_pebblings floor_is_below_plays plays_from_start_cost_no_more (game_of (game_improved asked graph)) (IsDag-dag_of graph game.valid) found.table.rows found.table.bound is.table.tabled.valid;
  floored = is.floored;
  is_optimal = (λ e. eqb-true found.table.bound found.plan.total e, λ e. eq-eqb found.table.bound found.plan.total e);
  is_open = below_if_differs found.table.bound found.plan.total is.table.within;
}
  where
    no_rows : asked.effort ≡ 0 → length found.table.rows ≡ 0
    no_rows none = none_allowed asked.effort (length found.table.rows) none is.table.few

    floor_is : asked.effort ≡ 0 → found.table.bound ≡ floor (game_of (game_improved asked graph)) (start (game_of (game_improved asked graph)))
    floor_is none =
        let most = bound_without_rows (game_of (game_improved asked graph)) found.table.rows found.table.bound is.table.tabled.valid (no_rows none) in
        let least = is.floored in
        omega (arith, most, least)

-- so what is printed and written of it answers the text
pub found_is_improved : (asked : Improving) (game : GameParts) (text : List ℕ) (kernel : KernelParts) (found : Improvement) (status : Status) (printed bytes : List ℕ)
    → game ≡ game_improved asked game.graph → IsGame game → IsPlan found.plan → IsFoundFor game asked.effort found → IsAccepted text kernel game.graph
    → status ≡ verdict_status (found.table.bound == found.plan.total) → printed ≡ improved_text game.graph.title game.graph asked (numbers_found found) found.plan
    → IsSpelling bytes found.table → IsImproved asked text status printed (Some bytes)
found_is_improved asked game text kernel found status printed bytes of_game valid plan is accepted ends report spelled = record {
  kernel = kernel;
  graph = game.graph;
  accepted = accepted;
  valid = valid.valid;
  room = (subst IsGame of_game valid).room;
  numbers = numbers_found found;
  plan = found.plan;
  certificate = found.table;
  answer = found_improves asked game.graph text kernel found (subst IsGame of_game valid) plan (subst (λ g. IsFoundFor g asked.effort found) of_game is) accepted;
  ends = ends;
  report = report ∙ ap (λ t. improved_text t game.graph asked (numbers_found found) found.plan) (accepted_labels accepted).title;
  bytes = bytes;
  written = refl;
  spelled = spelled;
}
