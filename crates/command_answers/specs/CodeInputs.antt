-- Which inputs the program reads as code, and which line it prints of another (this project's convention).
use Rattle.std.specs.Prelude.{◌≡◌, ◌⊎◌, ◌<◌, ◌≤◌, ℕ, List, ◌++◌, length, codes, Option, None}
use Rattle.std.specs.Fmt.{decimal}
use Rattle.line_texts.specs.BadLines.{IsBadLine}
use Rattle.scratch_machine.specs.Codes.{CodeParts}
use Rattle.scratch_code.specs.CodeTexts.{AreCodeLines, ReadsAs}
use Rattle.command_answers.specs.declared.status.Status.{Status}
use Rattle.command_answers.specs.declared.status.Status.TheVariants.{Code}

-- the text has at most 20,000,000 bytes and reads as this code
pub record IsCodeInput (text : List ℕ) (code : CodeParts) : Type 0 where
  pub short : length text ≤ 20000000
  pub reads : ReadsAs text code

-- the line that is printed of a text that is no such code: 0 where the text is longer, and else its bad line, which is counted from 1
abbrev pub IsCodeFault : List ℕ → ℕ → Type 0
IsCodeFault text line = ((20000000 < length text) × (line ≡ 0)) ⊎ ((length text ≤ 20000000) × IsBadLine AreCodeLines text line)

-- the line for an input that is no code
abbrev pub code_fault_text : ℕ → List ℕ
code_fault_text line = codes "code fault line " ++ (decimal line ++ codes "\n")

-- the text is no code, and its line is printed. No table is written.
pub record IsNoCode (text : List ℕ) (status : Status) (printed : List ℕ) (table : Option (List ℕ)) : Type 0 where
  pub at : ℕ
  pub fault : IsCodeFault text at
  pub ends : status ≡ Code
  pub line : printed ≡ code_fault_text at
  pub none : table ≡ None

-- ---- laws

-- a text reads as one code at most
abbrev pub OneCode : Type 0
OneCode = (text : List ℕ) (code other : CodeParts) → IsCodeInput text code → IsCodeInput text other → code ≡ other

-- a text has one such line at most
abbrev pub OneCodeFault : Type 0
OneCodeFault = (text : List ℕ) (line other : ℕ) → IsCodeFault text line → IsCodeFault text other → line ≡ other

-- a text that reads as code has none
abbrev pub NoFaultOfCode : Type 0
NoFaultOfCode = (text : List ℕ) (code : CodeParts) (line : ℕ) → IsCodeInput text code → IsCodeFault text line → ⊥

-- each text reads as code or has such a line
abbrev pub CodeOrFault : Type 0
CodeOrFault = (text : List ℕ) → ((code : CodeParts) × IsCodeInput text code) ⊎ ((line : ℕ) × IsCodeFault text line)
