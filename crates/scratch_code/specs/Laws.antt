-- Laws of all codes and texts. Calls of this crate carry them.
use Rattle.std.specs.Prelude.{◌≡◌, ℕ, true, false, List, [], ◌++◌, ◌⊎◌}
use Rattle.std.specs.List.{All}
use Rattle.scratch_machine.specs.Codes.{CodeParts}
use Rattle.line_texts.specs.Lines.{IsLine, ended, is_comment, HasLines}
use Rattle.line_texts.specs.BadLines.{IsBadLine}
use Rattle.scratch_code.specs.CodeText.{lines_of_code, code_text}
use Rattle.scratch_code.specs.CodeTexts.{HasText, AreCodeLines, ReadsAs}

-- the text of a code reads as that code
abbrev pub ReadsBack : Type 0
ReadsBack = (c : CodeParts) → HasText c → ReadsAs (code_text c) c

-- and so it does behind comments
abbrev pub ReadsBehindComments : Type 0
ReadsBehindComments = (c : CodeParts) (comments : List (List ℕ)) → HasText c → All IsLine comments → All (λ line. is_comment line ≡ true) comments → ReadsAs (ended comments ++ code_text c) c

-- a text reads as one code at most
abbrev pub OneReading : Type 0
OneReading = (text : List ℕ) (c d : CodeParts) → ReadsAs text c → ReadsAs text d → c ≡ d

-- without comments a code has one text
abbrev pub OneText : Type 0
OneText = (text : List ℕ) (c : CodeParts) → (lines : HasLines text (lines_of_code c)) → All (λ line. is_comment line ≡ false) lines.all → text ≡ code_text c

-- no text of a code is a prefix of another's
abbrev pub NoPrefix : Type 0
NoPrefix = (c d : CodeParts) (more : List ℕ) → HasText c → HasText d → code_text d ≡ code_text c ++ more → (c ≡ d) × (more ≡ [])

-- a text has one bad line at most
abbrev pub OneBadLine : Type 0
OneBadLine = (text : List ℕ) (m n : ℕ) → IsBadLine AreCodeLines text m → IsBadLine AreCodeLines text n → m ≡ n

-- a text that reads as a code has no bad line
abbrev pub NeverBoth : Type 0
NeverBoth = (text : List ℕ) (c : CodeParts) (m : ℕ) → ReadsAs text c → IsBadLine AreCodeLines text m → ⊥

-- and each text reads as a code or has a bad line
abbrev pub AlwaysOne : Type 0
AlwaysOne = (text : List ℕ) → ((c : CodeParts) × ReadsAs text c) ⊎ ((m : ℕ) × IsBadLine AreCodeLines text m)
