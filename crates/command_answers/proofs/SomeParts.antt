-- There is an answer of `parts` for each game and each budget, by the definitions alone: the plan and a table of the search of each part.
use Rattle.std.proofs.Common.{◌≡◌, ℕ, zero, suc, ◌+◌, ◌≤◌, ◌<◌, List, [], ◌∷◌, ◌++◌, Option, Some, refl, ◌∙◌, subst, arith}
use Rattle.std.specs.Prelude.{flat_map}
use Rattle.std.specs.List.{All}
use Rattle.std.proofs.lemmas.List.Elements.{All-push}
use Rattle.comp_graph.specs.Dags.{degree}
use Rattle.comp_graph.specs.Graphs.{GraphParts, dag_of}
use Rattle.comp_graph.specs.Games.{GameParts, IsGame, unit_weights}
use Rattle.kernel_ast.specs.KernelParts.{KernelParts}
use Rattle.normal_steps.proofs.Simulation.{plays_from_start_cost_no_more}
use Rattle.first_plan.specs.FirstPlan.{first_steps}
use Rattle.forced_bounds.proofs.Below.{floor_is_below_plays}
use Rattle.potential_cert.specs.Table.{TableParts}
use Rattle.potential_cert.specs.TableBytes.{CanBeSpelled, IsInRange, table_bytes}
use Rattle.potential_cert.proofs.Bound.{bound_is_below_pebblings}
use Rattle.branch_bound.specs.Founds.{IsSearchedTable}
use Rattle.part_bounds.specs.declared.searching.PartBound.{PartBound}
use Rattle.part_bounds.specs.Bounds.{IsPartBound, ArePartBounds}
use Rattle.part_bounds.specs.Induced.{induced}
use Rattle.part_bounds.specs.Laws.{IsInducedGame}
use Rattle.part_bounds.specs.Parts.{part, part_game}
use Rattle.part_bounds.proofs.Games.{parts_are_games}
use Rattle.part_bounds.proofs.PartSearches.{AreFoundBelow, none_found_yet, one_more_found, all_found}
use Rattle.command_words.specs.declared.commands.PartPlanning.{PartPlanning}
use Rattle.command_words.specs.declared.commands.Planning.{Planning}
use Rattle.command_answers.specs.declared.status.Status.{Status}
use Rattle.command_answers.specs.declared.status.Status.TheVariants.{Done}
use Rattle.command_answers.specs.Accepted.{IsAccepted}
use Rattle.command_answers.specs.PartAnswers.{IsParted, bounds_text, game_in_parts}
use Rattle.command_answers.specs.PlanAnswers.{search_asked}
use Rattle.command_answers.specs.PlayedGames.{game_asked, played_for}
use Rattle.command_answers.proofs.Accepting.{accepted_graph}
use Rattle.command_answers.proofs.FoundParts.{found_is_parted}
use Rattle.command_answers.proofs.FoundPlans.{found_no_worse, plan_is_possible}
use Rattle.command_answers.proofs.SomePlans.{table_asked, is_searched, is_spelled}

-- a table that can be spelled is in its range
in_range : (t : TableParts) → CanBeSpelled t → IsInRange t
in_range t is = record {
  vertices = is.numbers.vertices;
  some_slots = is.numbers.some_slots;
  slots = is.numbers.slots;
  some_load = is.numbers.some_load;
  load = is.numbers.load;
  some_store = is.numbers.some_store;
  store = is.numbers.store;
  few = is.numbers.rows;
  red = λ r i. (is.rows r i).red;
  blue = λ r i. (is.rows r i).blue;
}

-- ---- one game

-- what is found of the game that is asked for, with a table that can be spelled
bound_of_game : (asked : Planning) (graph : GraphParts) → IsGame (game_asked asked graph) → asked.budget ≤ 8000
    → (one : PartBound) × IsPartBound (played_for asked graph) asked.budget one × CanBeSpelled one.table
bound_of_game asked graph game budget =
    let table = table_asked asked graph game in
    let no_worse = found_no_worse asked graph game.valid game.room in
    let possible = plan_is_possible asked graph game in
    let spelled = is_spelled asked graph game (omega (arith, budget)) (let room = game.room in omega (arith, room)) in (
      record { cost = (search_asked asked graph).cost; table = table },
      record {
        searched_cost = refl;
        no_more = no_worse.no_more;
        paid = (possible.moves, possible.complete, possible.costs ∙ no_worse.costs);
        table = subst (λ cost. IsSearchedTable (played_for asked graph) (first_steps (played_for asked graph)) asked.budget cost table) no_worse.costs (is_searched asked graph game);
        in_range = in_range table spelled.fits;
      },
      spelled.fits,
    )

-- ---- all parts

module _ (asked : PartPlanning) (graph : GraphParts) (game : IsGame (game_in_parts asked graph)) (budget : asked.budget ≤ 8000) where
  abbrev whole : GameParts
  whole = game_in_parts asked graph

  abbrev planning : Planning
  planning = record { slots = asked.slots; budget = asked.budget; weights = unit_weights }

  bound_of_part : (k : ℕ) → (one : PartBound) × IsPartBound (part_game whole asked.parts k) asked.budget one × CanBeSpelled one.table
  bound_of_part k =
      let is : IsInducedGame whole (part graph asked.parts k) = parts_are_games whole game asked.parts k in
      let found = bound_of_game planning (induced graph (part graph asked.parts k)) is.game budget in
      (found.0, subst (λ g. IsPartBound g asked.budget found.0) is.cut found.1, found.2)

  bounds_below : (n : ℕ) → (found : List PartBound) × AreFoundBelow whole asked.parts asked.budget n found × All (λ one. CanBeSpelled one.table) found
  bounds_below zero = ([], none_found_yet whole asked.parts asked.budget, λ k other less. absurd (omega (arith, less)))
  bounds_below (suc n) =
      let before = bounds_below n in
      let one = bound_of_part n in
      let next : n + 1 ≡ suc n = omega arith in (
        before.0 ++ one.0 ∷ [],
        subst (λ m. AreFoundBelow whole asked.parts asked.budget m (before.0 ++ one.0 ∷ [])) next (one_more_found whole asked.parts asked.budget n before.0 one.0 before.1 one.1),
        All-push (λ (one : PartBound). CanBeSpelled one.table) before.0 one.0 before.2 one.2,
      )

  pub bounds_of_parts : (found : List PartBound) × ArePartBounds whole asked.parts asked.budget found × All (λ one. CanBeSpelled one.table) found
  bounds_of_parts =
      let all = bounds_below asked.parts in
      (all.0, all_found (bound_is_below_pebblings floor_is_below_plays plays_from_start_cost_no_more) whole game asked.parts asked.budget all.0 all.1, all.2)

-- ---- the answer

-- an accepted text with enough slots has an answer
pub parted_is_some : (asked : PartPlanning) (text : List ℕ) (kernel : KernelParts) (graph : GraphParts) → 0 < asked.slots → asked.slots ≤ 64 → asked.budget ≤ 8000
    → IsAccepted text kernel graph → degree (dag_of graph) < asked.slots → (status : Status) × (printed : List ℕ) × (table : Option (List ℕ)) × IsParted asked text status printed table
parted_is_some asked text kernel graph some most budget accepted room =
    let game : IsGame (game_in_parts asked graph) = record {
      valid = accepted_graph accepted;
      most = most;
      room = room;
      weights = record { load_some = omega arith; load_most = omega arith; store_some = omega arith; store_most = omega arith };
    } in
    let found = bounds_of_parts asked graph game budget in
    let bytes = flat_map (λ (one : PartBound). table_bytes one.table) found.0 in (
      Done,
      bounds_text found.0,
      Some bytes,
      found_is_parted asked (game_in_parts asked graph) found.0 text kernel Done (bounds_text found.0) bytes refl game found.1 accepted refl refl
          (record { fit = found.2; bytes_are = refl }),
    )
