-- What `graph` answers to an accepted kernel (this project's convention): the text of its graph.
use Rattle.std.specs.Prelude.{◌≡◌, ℕ, List, Option, None}
use Rattle.comp_graph.specs.Graphs.{GraphParts}
use Rattle.kernel_ast.specs.KernelParts.{KernelParts}
use Rattle.plan_report.specs.GraphText.{graph_text}
use Rattle.command_answers.specs.declared.status.Status.{Status}
use Rattle.command_answers.specs.declared.status.Status.TheVariants.{Done}
use Rattle.command_answers.specs.Accepted.{IsAccepted}

-- The text is accepted, and the text of its graph is printed. No table is written.
pub record IsDrawn (text : List ℕ) (status : Status) (printed : List ℕ) (table : Option (List ℕ)) : Type 0 where
  pub kernel : KernelParts
  pub graph : GraphParts
  pub accepted : IsAccepted text kernel graph
  pub ends : status ≡ Done
  pub lines : printed ≡ graph_text graph
  pub none : table ≡ None
