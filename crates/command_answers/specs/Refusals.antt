-- The answers that stand before a command's own: to words that spell no command, to a kernel with a fault, and to too few slots (this
-- project's convention). No table is written with them.
use Rattle.std.specs.Prelude.{◌≡◌, ℕ, ◌+◌, ◌≤◌, List, ◌++◌, codes, Option, None}
use Rattle.std.specs.Fmt.{decimal}
use Rattle.comp_graph.specs.declared.costs.Weights.{Weights}
use Rattle.comp_graph.specs.Dags.{degree}
use Rattle.comp_graph.specs.Graphs.{GraphParts, dag_of}
use Rattle.kernel_ast.specs.KernelParts.{KernelParts}
use Rattle.pebble_rules.specs.declared.moves.Move.{Move}
use Rattle.pebble_rules.specs.Rules.{start, IsComplete}
use Rattle.command_answers.specs.declared.status.Status.{Status}
use Rattle.command_answers.specs.declared.status.Status.TheVariants.{Usage, Kernel, TooSmall}
use Rattle.command_answers.specs.Accepted.{IsAccepted, IsKernelFault}
use Rattle.command_answers.specs.PlayedGames.{played_on}

-- the line that says which words there are
abbrev pub usage_text : List ℕ
usage_text = codes "usage: pebble plan S TABLE [BUDGET [A B]], check S TABLE [A B], run VALUES, exec VALUES, graph, trial N S TABLE, cover S FILE [BUDGET], covercheck S FILE, parts S K FILE [BUDGET], judge S PLAY, tidy S PLAY, cache S TABLE [BUDGET]\n"

-- the line for a fault of the kernel, with its code and its place in bytes from 0
abbrev pub kernel_fault_text : ℕ → ℕ → List ℕ
kernel_fault_text code at = codes "kernel fault K" ++ (decimal code ++ (codes " at " ++ (decimal at ++ codes "\n")))

-- the line that says how many slots are needed
abbrev pub too_small_text : ℕ → List ℕ
too_small_text needs = codes "too small needs " ++ decimal needs ++ codes "\n"

-- the usage line is printed
pub record IsUsage (status : Status) (printed : List ℕ) (table : Option (List ℕ)) : Type 0 where
  pub ends : status ≡ Usage
  pub line : printed ≡ usage_text
  pub none : table ≡ None

-- the text has a fault, which is printed by its code and place
pub record IsFaulty (text : List ℕ) (status : Status) (printed : List ℕ) (table : Option (List ℕ)) : Type 0 where
  pub code : ℕ
  pub at : ℕ
  pub fault : IsKernelFault text code at
  pub ends : status ≡ Kernel
  pub line : printed ≡ kernel_fault_text code at
  pub none : table ≡ None

-- there are no more slots than the degree of the text's graph, so there is no complete pebbling, whatever a load and a
-- store cost; the degree plus 1 is printed
pub record IsTooSmall (slots : ℕ) (text : List ℕ) (status : Status) (printed : List ℕ) (table : Option (List ℕ)) : Type 0 where
  pub kernel : KernelParts
  pub graph : GraphParts
  pub accepted : IsAccepted text kernel graph
  pub small : slots ≤ degree (dag_of graph)
  pub impossible : (weights : Weights) (moves : List Move) → IsComplete (played_on graph slots weights) (start (played_on graph slots weights)) moves → ⊥
  pub ends : status ≡ TooSmall
  pub line : printed ≡ too_small_text (degree (dag_of graph) + 1)
  pub none : table ≡ None
