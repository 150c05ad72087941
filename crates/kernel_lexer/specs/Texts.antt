-- The tokens of a text of bytes, and its first fault with its code and place. This project's convention.
use Rattle.std.specs.Str.{chars, IsUtf8, IsValidUpTo}
use Rattle.std.specs.Prelude.{◌⊎◌, take, ◌≡◌, ℕ, ◌-◌, List, length}
use Rattle.kernel_lexer.specs.declared.cut.TokenRule.{TokenRule}
use Rattle.kernel_lexer.specs.declared.cut.TokenRule.TheVariants.{BadByte, TooBig}
use Rattle.kernel_lexer.specs.declared.token.Token.{Token}
use Rattle.kernel_lexer.specs.declared.lex_end.LexEnd.{LexEnd}
use Rattle.kernel_lexer.specs.declared.lex_end.LexEnd.TheVariants as ends
use Rattle.kernel_lexer.specs.Spelling.{Text, bytes}
use Rattle.kernel_lexer.specs.Lexing.{AreTokens, FaultAfter}

-- the numbers of the faults
abbrev pub code_of : TokenRule → ℕ
code_of BadByte = 1
code_of TooBig = 2

-- The text is UTF-8, and these are its tokens.
abbrev pub AreTextTokens : List ℕ → List Token → Type 0
AreTextTokens text ts = IsUtf8 text × AreTokens (length text) (chars text) ts

-- the longest front that is UTF-8 has so many bytes
abbrev pub IsFront : List ℕ → ℕ → Type 0
IsFront text n = (IsUtf8 text × (n ≡ length text)) ⊎ IsValidUpTo text n

-- The first fault of characters that have so many bytes: its code and its place.
abbrev pub IsFirstFault : ℕ → Text → ℕ → ℕ → Type 0
IsFirstFault end text code at =
    (fault : TokenRule) × (ts : List Token) × (left : Text) × FaultAfter end text ts fault left × (code ≡ code_of fault) × (at ≡ end - bytes left)

-- The first fault of a text: it stands in the front that is UTF-8, or that front has none and ends before the text.
abbrev pub IsTextFault : List ℕ → ℕ → ℕ → Type 0
IsTextFault text code at =
    (n : ℕ) × IsFront text n
    × (IsFirstFault n (chars (take n text)) code at
    ⊎ ((code ≡ 1) × (at ≡ n) × IsValidUpTo text n × ((ts : List Token) × AreTokens n (chars (take n text)) ts)))

-- what the end of a text without tokens means; want of memory means nothing
abbrev pub TextEnd : List ℕ → LexEnd → Type 0
TextEnd text ends.NoMemory = Unit {0}
TextEnd text (ends.Fault code at) = IsTextFault text code at
