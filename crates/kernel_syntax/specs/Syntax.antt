-- The fault of a text's tokens against the grammar.
use Rattle.std.specs.Prelude.{◌≡◌, ℕ, List}
use Rattle.kernel_lexer.specs.declared.token.Token.{Token}
use Rattle.kernel_syntax.specs.declared.syntax.SyntaxEnd.{SyntaxEnd}
use Rattle.kernel_syntax.specs.declared.syntax.SyntaxEnd.TheVariants.{NoMemory, Fault}
use Rattle.kernel_syntax.specs.Grammar.{Whole}
use Rattle.kernel_syntax.specs.Reading.{place_of}
use Rattle.token_grammar.specs.Faults.{IsGrammarFault}

-- A fault is the first one of the tokens, at its token's place or at the end of the text.
abbrev pub FaultMeans : ℕ → ℕ → List Token → SyntaxEnd → Type 0
FaultMeans limit end tokens NoMemory = Unit {0}
FaultMeans limit end tokens (Fault fault at) = (rest : List Token) × IsGrammarFault Whole limit fault tokens rest × (at ≡ place_of end rest)
