-- The answer to words that spell no command of `improve` (this project's convention).
use Rattle.std.specs.Prelude.{◌≡◌, ℕ, List, codes, Option, None}
use Rattle.command_answers.specs.declared.status.Status.{Status}
use Rattle.command_answers.specs.declared.status.Status.TheVariants.{Usage}

-- the line that says which words there are
abbrev pub usage_text : List ℕ
usage_text = codes "usage: improve improve S FILE [EFFORT [A B]], confirm S FILE [A B]\n"

-- the usage line is printed, and no table is written
pub record IsUsage (status : Status) (printed : List ℕ) (table : Option (List ℕ)) : Type 0 where
  pub ends : status ≡ Usage
  pub line : printed ≡ usage_text
  pub none : table ≡ None
