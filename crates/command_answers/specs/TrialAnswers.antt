-- What `trial` answers where its slots are enough for the trial kernel (this project's convention): five lines that say what was shown of its
-- plan, and the table of that plan.
use Rattle.std.specs.Prelude.{◌≡◌, ℕ, ◌+◌, ◌<◌, List, length, Option, Some}
use Rattle.comp_graph.specs.Dags.{degree}
use Rattle.comp_graph.specs.Graphs.{GraphParts, dag_of}
use Rattle.comp_graph.specs.Games.{unit_weights}
use Rattle.kernel_ast.specs.KernelParts.{KernelParts}
use Rattle.kernel_gen.specs.Trials.{trial_kernel}
use Rattle.plan_report.specs.TrialText.{trial_text}
use Rattle.potential_cert.specs.Table.{TableParts}
use Rattle.potential_cert.specs.TableBytes.{IsSpelling}
use Rattle.command_words.specs.declared.commands.Planning.{Planning}
use Rattle.command_words.specs.declared.commands.TrialPlanning.{TrialPlanning}
use Rattle.command_answers.specs.declared.status.Status.{Status}
use Rattle.command_answers.specs.declared.status.Status.TheVariants.{Done}
use Rattle.command_answers.specs.Accepted.{IsAccepted}
use Rattle.command_answers.specs.PlanAnswers.{PlanNumbers, IsShown, facts_of}
use Rattle.command_answers.specs.PlayedGames.{HasPebbling, game_asked}

-- the budget of positions that a trial kernel is planned with
abbrev pub trial_budget : ℕ
trial_budget = 2000

-- what is asked for of the plan of a trial kernel: a load and a store cost 1
abbrev pub planning_of : TrialPlanning → Planning
planning_of asked = record { slots = asked.slots; budget = trial_budget; weights = unit_weights }

-- The trial kernel is accepted, with a vertex for each of its 16 input elements and each statement, and there are more slots than the degree
-- of its graph; the numbers and the table are those of its plan, and a complete pebbling of that cost exists. The five lines are printed,
-- and the bytes of the table are written.
pub record IsTried (asked : TrialPlanning) (status : Status) (printed : List ℕ) (table : Option (List ℕ)) : Type 0 where
  pub kernel : KernelParts
  pub graph : GraphParts
  pub accepted : IsAccepted (trial_kernel asked.statements) kernel graph
  pub vertices : length graph.nodes ≡ 16 + asked.statements
  pub room : degree (dag_of graph) < asked.slots
  pub numbers : PlanNumbers
  pub table_parts : TableParts
  pub shown : IsShown graph (planning_of asked) numbers table_parts
  pub possible : HasPebbling (game_asked (planning_of asked) graph) numbers.cost
  pub ends : status ≡ Done
  pub lines : printed ≡ trial_text asked.statements (facts_of graph (planning_of asked) numbers)
  pub bytes : List ℕ
  pub written : table ≡ Some bytes
  pub spelled : IsSpelling bytes table_parts
