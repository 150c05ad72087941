-- What is printed of what the search that names covering rows found, for the contracts of the functions that make the answer of `cover`.
use Rattle.std.specs.Prelude.{length}
use Rattle.cover_cert.specs.declared.searching.CoverFound.{CoverFound}
use Rattle.slot_alloc.specs.PlanCode.{plan_code}
use Rattle.command_answers.specs.MadeAnswers.{is_optimal}
use Rattle.command_answers.specs.PlanAnswers.{PlanNumbers, PrintedPlan}

-- the numbers of what the search found, with its verdict
abbrev pub cover_numbers_of : CoverFound → PlanNumbers
cover_numbers_of found = record {
  first = found.first_cost;
  cost = found.plan.total;
  bound = found.table.bound;
  expanded = length found.table.rows;
  optimal = is_optimal found.verdict;
}

-- what is printed of it: its numbers, and the code of its plan
abbrev pub cover_printed_of : CoverFound → PrintedPlan
cover_printed_of found = record { numbers = cover_numbers_of found; code = plan_code found.plan }
