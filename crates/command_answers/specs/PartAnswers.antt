-- What `parts` answers to an accepted kernel with enough slots (this project's convention): what a search finds of the game on each part of the
-- graph, where a load and a store cost 1, the sum of the bounds, which is a bound for the whole game, and the tables one after another.
use Rattle.std.specs.Prelude.{◌≡◌, ◌<◌, ℕ, List, map, Option, Some}
use Rattle.comp_graph.specs.Dags.{degree}
use Rattle.comp_graph.specs.Graphs.{GraphParts, dag_of}
use Rattle.comp_graph.specs.Games.{GameParts, game_of, unit_weights}
use Rattle.kernel_ast.specs.KernelParts.{KernelParts}
use Rattle.part_bounds.specs.declared.searching.PartBound.{PartBound}
use Rattle.part_bounds.specs.Bounds.{ArePartBounds, AreSpellings, sum_of_bounds}
use Rattle.part_bounds.specs.Laws.{IsBound}
use Rattle.plan_report.specs.declared.parts.PartFacts.{PartFacts}
use Rattle.plan_report.specs.PartsText.{parts_text}
use Rattle.command_words.specs.declared.commands.PartPlanning.{PartPlanning}
use Rattle.command_answers.specs.declared.status.Status.{Status}
use Rattle.command_answers.specs.declared.status.Status.TheVariants.{Done}
use Rattle.command_answers.specs.Accepted.{IsAccepted}
use Rattle.command_answers.specs.PlayedGames.{game_parts}

-- the game that is cut into parts, on a graph: a load and a store cost 1
abbrev pub game_in_parts : PartPlanning → GraphParts → GameParts
game_in_parts asked graph = game_parts graph asked.slots unit_weights

-- the values of a part's line: its number of vertices, the cost of the plan that its search finds, and its bound
abbrev pub part_facts : PartBound → PartFacts
part_facts one = record { vertices = one.table.vertices; cost = one.cost; bound = one.table.bound }

-- the lines of the parts, and the sum of their bounds
abbrev pub bounds_text : List PartBound → List ℕ
bounds_text found = parts_text (map part_facts found) (sum_of_bounds found)

-- The text is accepted, and there are more slots than the degree of its graph; what is found is the search of the game on each part, from its
-- first plan and with the budget of positions, each with a complete pebbling of its cost and a valid table of its bound; and no complete
-- pebbling of the whole graph costs less than the sum of the bounds. The lines of the parts and the sum are printed, and the bytes of the
-- tables are written, in order of the parts.
pub record IsParted (asked : PartPlanning) (text : List ℕ) (status : Status) (printed : List ℕ) (table : Option (List ℕ)) : Type 0 where
  pub kernel : KernelParts
  pub graph : GraphParts
  pub accepted : IsAccepted text kernel graph
  pub room : degree (dag_of graph) < asked.slots
  pub bounds : List PartBound
  pub found : ArePartBounds (game_in_parts asked graph) asked.parts asked.budget bounds
  pub lowest : IsBound (game_of (game_in_parts asked graph)) (sum_of_bounds bounds)
  pub ends : status ≡ Done
  pub lines : printed ≡ bounds_text bounds
  pub bytes : List ℕ
  pub written : table ≡ Some bytes
  pub spelled : AreSpellings bytes bounds
