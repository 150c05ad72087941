-- Laws of the grammar, and of the kinds of tokens. Calls of this crate carry them.
use Rattle.std.specs.Prelude.{◌≡◌, ℕ, ℤ, ◌≤◌, ◌⊎◌, List}
use Rattle.kernel_lexer.specs.declared.token.Token.{Token}
use Rattle.kernel_lexer.specs.declared.token.TokenKind.{TokenKind}
use Rattle.kernel_lexer.specs.declared.token.TokenKind.TheVariants.{Number}
use Rattle.kernel_syntax.specs.declared.raw.RawKernel.{RawKernel}
use Rattle.kernel_syntax.specs.Grammar.{Whole}
use Rattle.kernel_syntax.specs.Tokens.{tag}
use Rattle.token_grammar.specs.declared.fault.GrammarFault.{GrammarFault}
use Rattle.token_grammar.specs.Faults.{IsGrammarFault}

-- Tokens have at most one reading, whatever the levels.
abbrev pub OneReading : Type 0
OneReading = (d e : ℕ) (tokens : List Token) (a b : RawKernel) → Whole d tokens a → Whole e tokens b → a ≡ b

-- What is read within some levels is read within more.
abbrev pub MoreLevels : Type 0
MoreLevels = (d e : ℕ) (tokens : List Token) (a : RawKernel) → d ≤ e → Whole d tokens a → Whole e tokens a

-- Tokens have at most one first fault.
abbrev pub OneFault : Type 0
OneFault = (limit : ℕ) (f g : GrammarFault) (tokens r s : List Token) → IsGrammarFault Whole limit f tokens r → IsGrammarFault Whole limit g tokens s → (f ≡ g) × (r ≡ s)

-- Tokens that have a reading within the limit have no fault.
abbrev pub NeverBoth : Type 0
NeverBoth = (limit : ℕ) (tokens : List Token) (a : RawKernel) (f : GrammarFault) (rest : List Token) → Whole limit tokens a → IsGrammarFault Whole limit f tokens rest → ⊥

-- Tokens have a reading within the limit or a fault.
abbrev pub ReadingOrFault : Type 0
ReadingOrFault = (limit : ℕ) (tokens : List Token) → ((a : RawKernel) × Whole limit tokens a) ⊎ ((f : GrammarFault) × (rest : List Token) × IsGrammarFault Whole limit f tokens rest)

-- Kinds of tokens that have one number are one kind, or both are numbers.
abbrev pub KindsAreApart : Type 0
KindsAreApart = (a b : TokenKind) → tag a ≡ tag b → (a ≡ b) ⊎ ((m : ℤ) × (n : ℤ) × (a ≡ Number m) × (b ≡ Number n))
