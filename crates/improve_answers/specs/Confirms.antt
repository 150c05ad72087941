-- What `confirm` answers to an accepted kernel with enough slots (this project's convention): what `check` answers, but that an accepted bound is
-- printed after the word `confirmed`. As there, a table file is one of at most 20,000,000 bytes that spell a table, and a longer one is refused.
use Rattle.std.specs.Prelude.{◌≡◌, ◌⊎◌, ◌++◌, ℕ, List, codes, Option}
use Rattle.std.specs.Fmt.{decimal}
use Rattle.command_words.specs.declared.commands.Checking.{Checking}
use Rattle.command_answers.specs.declared.status.Status.{Status}
use Rattle.desk_io.specs.Known.{ToldFile}
use Rattle.command_answers.specs.CheckAnswers.{IsCertified, IsRefusedFile}

-- the line for the bound of a table that is accepted
abbrev pub confirmed_text : ℕ → List ℕ
confirmed_text bound = codes "confirmed bound " ++ (decimal bound ++ codes "\n")

-- `check` accepts the file, of at most 20,000,000 bytes, with this line, and the bound of its table is printed as confirmed: no complete pebbling costs
-- less, whoever made the file
pub record IsConfirmed (asked : Checking) (text : List ℕ) (file : ToldFile) (status : Status) (printed : List ℕ) (table : Option (List ℕ)) : Type 0 where
  pub accepted : List ℕ
  pub certified : IsCertified asked text file status accepted table
  pub line : printed ≡ confirmed_text certified.certificate.bound

-- the two answers to a file, as far as the desk tells it: the bound that it proves, or the line of `check` that says why it proves none
abbrev pub Confirms : Checking → List ℕ → ToldFile → Status → List ℕ → Option (List ℕ) → Type 0
Confirms asked text file status printed table = IsConfirmed asked text file status printed table ⊎ IsRefusedFile asked text file status printed table
