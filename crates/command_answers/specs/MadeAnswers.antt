-- How the answers and the bytes of the code stand to the definitions, for the contracts of the functions that make an answer.
use Rattle.std.specs.Prelude.{◌≡◌, ℕ, ◌≤◌, Bool, true, false, List, length, Result, Ok, Err, None}
use Rattle.std.specs.declared.option.Option.{Option}
use Rattle.branch_bound.specs.declared.searching.Found.{Found}
use Rattle.branch_bound.specs.declared.searching.Verdict.{Verdict}
use Rattle.branch_bound.specs.declared.searching.Verdict.TheVariants.{Optimal, Open}
use Rattle.comp_graph.specs.Games.{GameParts}
use Rattle.desk_io.specs.Known.{ToldFile, TellsFile, TellsMoreFile, file_items}
use Rattle.command_answers.specs.declared.answer.Answer.{Answer}
use Rattle.command_answers.specs.declared.answer.EarlyEnd.{EarlyEnd}
use Rattle.command_answers.specs.declared.answer.EarlyEnd.TheVariants.{Refused, ReadFault, NoMemory}
use Rattle.command_answers.specs.declared.answer.FileBytes.{FileBytes}
use Rattle.command_answers.specs.declared.answer.FileBytes.TheVariants.{Whole, TooLong}
use Rattle.command_answers.specs.declared.play.FilePlay.{FilePlay}
use Rattle.command_answers.specs.declared.play.FilePlay.TheVariants.{Complete, NoPlay}
use Rattle.command_answers.specs.declared.status.Status.{Status}
use Rattle.command_answers.specs.declared.status.Status.TheVariants.{Play}
use Rattle.slot_alloc.specs.PlanCode.{plan_code}
use Rattle.command_answers.specs.PlanAnswers.{PlanNumbers, PrintedPlan}
use Rattle.command_answers.specs.PlayAnswers.{HoldsPlay, HoldsNoPlay}

-- the status, the text and the table of the answer are so related
abbrev pub Meets : (Status → List ℕ → Option (List ℕ) → Type 0) → Answer → Type 0
Meets R answer = R answer.status answer.text.items (file_items answer.table)

-- a fact of the refusal, if there is one
abbrev pub IfRefused : {A : Type 0} → Result A EarlyEnd → (Answer → Type 0) → Type 0
IfRefused (Ok value) P = Unit {0}
IfRefused (Err (Refused answer)) P = P answer
IfRefused (Err ReadFault) P = Unit {0}
IfRefused (Err NoMemory) P = Unit {0}

-- a fact of the answer, if there is one: the command's own, or a refusal
abbrev pub IfAnswer : Result Answer EarlyEnd → (Answer → Type 0) → Type 0
IfAnswer (Ok answer) P = P answer
IfAnswer (Err (Refused answer)) P = P answer
IfAnswer (Err ReadFault) P = Unit {0}
IfAnswer (Err NoMemory) P = Unit {0}

-- the file is there with these bytes, at most so many, or with more than so many, as far as the desk tells it
abbrev pub IsFileOf : ToldFile → ℕ → FileBytes → Type 0
IsFileOf file limit (Whole bytes) = TellsFile file bytes.items × (length bytes.items ≤ limit)
IsFileOf file limit TooLong = TellsMoreFile file limit

-- whether the verdict of a search is Optimal
abbrev pub is_optimal : Verdict → Bool
is_optimal Optimal = true
is_optimal Open = false

-- the numbers of what a search found, with its verdict
abbrev pub numbers_of : Found → PlanNumbers
numbers_of found = record {
  first = found.first_cost;
  cost = found.plan.total;
  bound = found.table.bound;
  expanded = length found.table.rows;
  optimal = is_optimal found.verdict;
}

-- what is printed of it: its numbers, and the code of its plan
abbrev pub printed_of : Found → PrintedPlan
printed_of found = record { numbers = numbers_of found; code = plan_code found.plan }

-- the line says why the bytes hold no complete pebbling of the game
pub record RefusesPlay (game : GameParts) (bytes : List ℕ) (status : Status) (printed : List ℕ) (table : Option (List ℕ)) : Type 0 where
  pub holds_none : HoldsNoPlay game bytes printed
  pub ends : status ≡ Play
  pub none : table ≡ None

-- the bytes of a file hold this complete pebbling of the game, or this answer says why they hold none
abbrev pub IsPlayOf : GameParts → List ℕ → FilePlay → Type 0
IsPlayOf game bytes (Complete moves cost) = HoldsPlay game bytes moves.items cost
IsPlayOf game bytes (NoPlay answer) = Meets (RefusesPlay game bytes) answer

-- so does the file, as far as the desk tells it
abbrev pub IsFilePlay : GameParts → ToldFile → FilePlay → Type 0
IsFilePlay game file play = (bytes : List ℕ) × TellsFile file bytes × IsPlayOf game bytes play
