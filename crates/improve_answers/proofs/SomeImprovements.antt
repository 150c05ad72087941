-- There is an improvement of each game with each effort: its first plan, with the table without rows.
use Rattle.std.proofs.Common.{◌≡◌, ◌==◌, ◌≤◌, ◌<◌, ℕ, List, [], length, Option, Some, refl, subst, arith}
use Rattle.comp_graph.specs.Dags.{degree}
use Rattle.comp_graph.specs.Games.{GameParts, IsGame, game_of}
use Rattle.comp_graph.specs.Graphs.{GraphParts, dag_of}
use Rattle.comp_graph.specs.Lists.{IsIn}
use Rattle.forced_bounds.specs.Floor.{floor}
use Rattle.kernel_ast.specs.KernelParts.{KernelParts}
use Rattle.pebble_rules.specs.Rules.{start}
use Rattle.potential_cert.specs.Table.{TableParts}
use Rattle.potential_cert.specs.TableBytes.{IsInRange, IsSpelling, table_bytes}
use Rattle.command_answers.specs.declared.status.Status.{Status}
use Rattle.command_answers.specs.Accepted.{IsAccepted}
use Rattle.command_answers.specs.PlanAnswers.{first_plan_of, verdict_status}
use Rattle.command_answers.proofs.Accepting.{accepted_graph}
use Rattle.command_answers.proofs.FirstPlans.{first_plan_valid}
use Rattle.improve_answers.specs.declared.commands.ImproveCommand.TheVariants.{Improve}
use Rattle.improve_answers.specs.declared.commands.Improving.{Improving}
use Rattle.improve_answers.specs.declared.finding.Improvement.{Improvement}
use Rattle.improve_answers.specs.Improved.{IsFoundFor, IsImproved, game_improved, improved_text, numbers_found, rows_allowed}
use Rattle.improve_answers.specs.ImproveWords.{IsInLimits}
use Rattle.improve_answers.proofs.Improvements.{found_is_improved}
use Rattle.improve_answers.proofs.Tables.{floor_below_plan, floor_table_for}

-- the table without rows, with the floor of the start
abbrev floor_table : GameParts → TableParts
floor_table g = record {
  slots = g.slots;
  vertices = length g.graph.nodes;
  load = g.weights.load;
  store = g.weights.store;
  bound = floor (game_of g) (start (game_of g));
  rows = [];
}

-- the first plan with it
abbrev first_found : GameParts → Improvement
first_found g = record { first_cost = (first_plan_of g).total; plan = first_plan_of g; table = floor_table g }

is_found : (g : GameParts) (effort : ℕ) → IsGame g → IsFoundFor g effort (first_found g)
is_found g effort game =
    let low = floor_below_plan g (first_plan_of g) game (first_plan_valid g game) refl in
    record {
      game = refl;
      first = refl;
      no_more = omega arith;
      still = λ none. refl;
      table = floor_table_for g (rows_allowed effort) (first_plan_of g).total (floor_table g) game refl refl refl refl refl refl low;
      floored = omega arith;
    }

-- a table without rows whose bound has 32 bits can be spelled
spells : (t : TableParts) → IsInRange t → t.rows ≡ [] → t.bound ≤ 4294967295 → IsSpelling (table_bytes t) t
spells t range none low = record {
  fits = record {
    numbers = record {
      vertices = range.vertices;
      some_slots = range.some_slots;
      slots = range.slots;
      some_load = range.some_load;
      load = range.load;
      some_store = range.some_store;
      store = range.store;
      bound = omega (arith, low);
      rows = range.few;
    };
    rows = λ r i. absurd (subst (IsIn r) none i);
  };
  bytes_are = refl;
}

-- there is an answer
pub record HasImprovement (asked : Improving) (text : List ℕ) : Type 0 where
  pub status : Status
  pub printed : List ℕ
  pub table : Option (List ℕ)
  pub answer : IsImproved asked text status printed table

pub some_improvement : (asked : Improving) (text : List ℕ) (kernel : KernelParts) (graph : GraphParts) → IsInLimits (Improve asked) → IsAccepted text kernel graph
    → degree (dag_of graph) < asked.slots → HasImprovement asked text
some_improvement asked text kernel graph limits accepted room =
    let game : IsGame (game_improved asked graph) = record { valid = accepted_graph accepted; most = limits.1; room = room; weights = limits.3 } in
    let plan = first_plan_valid (game_improved asked graph) game in
    let found = is_found (game_improved asked graph) asked.effort game in
    let fits = plan.fits in
    let within = found.table.within in
    let spelled = spells (floor_table (game_improved asked graph)) found.table.in_range refl (omega (arith, fits, within)) in
    let status = verdict_status ((floor_table (game_improved asked graph)).bound == (first_plan_of (game_improved asked graph)).total) in
    let printed = improved_text graph.title graph asked (numbers_found (first_found (game_improved asked graph))) (first_plan_of (game_improved asked graph)) in
    let bytes = table_bytes (floor_table (game_improved asked graph)) in
    record {
      status = status;
      printed = printed;
      table = Some bytes;
      answer = found_is_improved asked (game_improved asked graph) text kernel (first_found (game_improved asked graph)) status printed bytes refl game plan found accepted refl refl spelled;
    }
