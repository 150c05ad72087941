-- There is an answer of `cover` for each game and each budget, by the definitions alone: the plan that the search finds, with the covered
-- table of its rows and their names.
use Rattle.std.proofs.Common.{ℕ, ◌^◌, ◌≤◌, ◌<◌, List, length, Option, Some, refl, sym, ap, subst, arith}
use Rattle.comp_graph.specs.Dags.{IsDag, degree}
use Rattle.comp_graph.specs.Games.{IsGame, PebbleGame}
use Rattle.comp_graph.specs.Graphs.{GraphParts, dag_of}
use Rattle.comp_graph.proofs.GraphLaws.{IsDag-dag_of}
use Rattle.branch_bound.proofs.RowLaws.{IsSmall}
use Rattle.cover_cert.specs.CoverAnswer.{AreCoverRows}
use Rattle.cover_cert.specs.CoverBytes.{IsCoverSpelling, cover_bytes}
use Rattle.cover_cert.specs.CoverSearch.{cover_rows, rows_covered, with_names}
use Rattle.cover_cert.specs.CoverSupport.{cover_support}
use Rattle.cover_cert.specs.CoverTable.{CoverRowParts, CoverTableParts}
use Rattle.cover_cert.proofs.CoverCheap.{cover_rows_are_cheap}
use Rattle.cover_cert.proofs.CoverRanges.{cover_can_be_spelled}
use Rattle.cover_cert.proofs.Results.{cover_search_has}
use Rattle.cover_cert.proofs.Supported.{cover_support_is_found}
use Rattle.first_plan.specs.FirstPlan.{first_steps}
use Rattle.comp_graph.specs.Lists.{IsIn}
use Rattle.forced_bounds.proofs.Ends.{floor_of_finish}
use Rattle.kernel_ast.specs.KernelParts.{KernelParts}
use Rattle.normal_steps.specs.Sound.{IsSound}
use Rattle.normal_steps.specs.Steps.{IsFinishing}
use Rattle.pebble_rules.specs.Rules.{start}
use Rattle.potential_cert.specs.declared.tables.Row.{Row}
use Rattle.potential_cert.specs.Table.{AreDistinct}
use Rattle.search_laws.proofs.Entries.{rows_apart, rows_in}
use Rattle.search_laws.proofs.Lists.{map_in}
use Rattle.search_laws.proofs.Turns.{played_sound}
use Rattle.command_words.specs.declared.commands.Covering.{Covering}
use Rattle.command_answers.specs.declared.status.Status.{Status}
use Rattle.command_answers.specs.Accepted.{IsAccepted}
use Rattle.command_answers.specs.CoverAnswers.{IsCovered, cover_asked, cover_plan_asked, planning_covered}
use Rattle.command_answers.specs.PlanAnswers.{plan_text, verdict_status}
use Rattle.command_answers.specs.PlayedGames.{game_asked, played_for}
use Rattle.command_answers.proofs.Accepting.{accepted_graph}
use Rattle.command_answers.proofs.FirstPlans.{first_plan_valid}
use Rattle.command_answers.proofs.FoundCovers.{IsTableOfSearch, cover_plan_valid, cover_printed_with, cover_shown, table_answers}
use Rattle.command_answers.proofs.FoundPlans.{first_finishes}
use Rattle.command_answers.proofs.RisingRows.{in_order, order_keeps, order_rises}

-- ---- the table

module _ (asked : Covering) (graph : GraphParts) (game : IsGame (game_asked (planning_covered asked) graph)) where
  abbrev g : PebbleGame
  g = played_for (planning_covered asked) graph

  -- the rows that the search makes, without their names
  abbrev made : List Row
  made = rows_covered g (first_steps g) asked.budget

  dag : IsDag g.dag
  dag = IsDag-dag_of graph game.valid

  finishing : IsFinishing g (start g) (first_steps g)
  finishing = first_finishes (planning_covered asked) graph game.valid game.room

  distinct : AreDistinct made
  distinct = rows_apart (cover_asked asked graph).search.entries (cover_search_has floor_of_finish g dag (first_steps g) finishing asked.budget).stands.kept.apart

  sound : (r : Row) → IsIn r made → IsSound g r.position
  sound r i =
      let stands = (cover_search_has floor_of_finish g dag (first_steps g) finishing asked.budget).stands in
      let e = rows_in r (cover_asked asked graph).search.entries i in
      subst (λ (q : Row). IsSound g q.position) (sym e.3) (played_sound g dag e.0.position e.0.cost e.0.play (stands.kept.played e.0 e.1))

  small : (r : Row) → IsIn r made → IsSmall r.position
  small r i =
      let few = game.valid.small in
      record {
        red = record { below = λ v m. let less = (sound r i).red_below v m in omega (arith, few, less) };
        blue = record { below = λ v m. let less = (sound r i).blue_below v m in omega (arith, few, less) };
      }

  abbrev rows : List CoverRowParts
  rows = cover_rows (in_order made) (cover_asked asked graph).names

  are_rows : AreCoverRows g (first_steps g) asked.budget rows
  are_rows = record { sorted = in_order made; rise = order_rises made small distinct; members = order_keeps made; named = refl }

  -- the covered table of the search
  abbrev pub cover_table_asked : CoverTableParts
  cover_table_asked = record {
    slots = asked.slots;
    vertices = length graph.nodes;
    load = 1;
    store = 1;
    bound = cover_support g rows (cover_plan_asked asked graph).total;
    rows = rows;
  }

  pub is_table_of_search : IsTableOfSearch asked graph cover_table_asked
  is_table_of_search = record {
    vertices = refl;
    slots = refl;
    load = refl;
    store = refl;
    rows = are_rows;
    support = cover_support_is_found g rows (cover_plan_asked asked graph).total;
  }

  cheap : (r : CoverRowParts) → IsIn r rows → r.cost < 2 ^ 32
  cheap r i =
      let q = map_in (with_names (in_order made) (cover_asked asked graph).names) r (in_order made) i in
      let less = cover_rows_are_cheap floor_of_finish g dag (first_steps g) finishing asked.budget q.0 ((order_keeps made q.0).1 q.1) in
      let fits = (first_plan_valid (game_asked (planning_covered asked) graph) game).fits in
      let cost = ap (λ (x : CoverRowParts). x.cost) q.2 in
      omega (arith, less, fits, cost)

  -- its spelling
  pub cover_is_spelled : asked.budget ≤ 8000 → IsCoverSpelling (cover_bytes cover_table_asked) cover_table_asked
  cover_is_spelled budget =
      let shown = cover_shown asked graph cover_table_asked game.valid game.room is_table_of_search in
      let few = shown.few in
      let most = is_table_of_search.support.within_cost in
      let fits = (cover_plan_valid asked graph game).fits in
      record {
        fits = cover_can_be_spelled (game_asked (planning_covered asked) graph) game cover_table_asked shown.tabled (omega (arith, few, budget)) (omega (arith, most, fits)) cheap;
        bytes_are = refl;
      }

-- ---- the answer

-- an accepted text with enough slots has an answer
pub covered_is_some : (asked : Covering) (text : List ℕ) (kernel : KernelParts) (graph : GraphParts) → asked.slots ≤ 64 → asked.budget ≤ 8000
    → IsAccepted text kernel graph → degree (dag_of graph) < asked.slots → (status : Status) × (printed : List ℕ) × (table : Option (List ℕ)) × IsCovered asked text status printed table
covered_is_some asked text kernel graph most budget accepted room =
    let game : IsGame (game_asked (planning_covered asked) graph) = record {
      valid = accepted_graph accepted;
      most = most;
      room = room;
      weights = record { load_some = omega arith; load_most = omega arith; store_some = omega arith; store_most = omega arith };
    } in
    let table = cover_table_asked asked graph game in
    let plan = cover_printed_with asked graph table in
    let status = verdict_status plan.numbers.optimal in
    let printed = plan_text graph.title graph (planning_covered asked) plan in (
      status,
      printed,
      Some (cover_bytes table),
      table_answers asked text kernel graph plan table status printed (cover_bytes table) game accepted refl (is_table_of_search asked graph game) refl refl (cover_is_spelled asked graph game budget),
    )
