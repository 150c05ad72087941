-- What the text of a kernel stands for, and its first fault (this project's convention). A text is read in four phases: its length, its
-- tokens, its syntax, its names. Each is over before the next begins, so a text's first fault is that of the first phase that has one.
use Rattle.std.specs.Prelude.{◌≡◌, ◌≤◌, ◌<◌, ◌⊎◌, ℕ, List, [], length, Some}
use Rattle.kernel_ast.specs.KernelParts.{KernelParts}
use Rattle.kernel_lexer.specs.declared.lex_end.LexEnd.{LexEnd}
use Rattle.kernel_lexer.specs.declared.lex_end.LexEnd.TheVariants as lexing
use Rattle.kernel_lexer.specs.declared.token.Token.{Token}
use Rattle.kernel_lexer.specs.Texts.{AreTextTokens, IsTextFault}
use Rattle.kernel_parser.specs.declared.parse_end.ParseEnd.{ParseEnd}
use Rattle.kernel_parser.specs.declared.parse_end.ParseEnd.TheVariants.{Fault, NoMemory}
use Rattle.kernel_syntax.specs.declared.raw.RawKernel.{RawKernel}
use Rattle.kernel_syntax.specs.declared.syntax.SyntaxEnd.{SyntaxEnd}
use Rattle.kernel_syntax.specs.declared.syntax.SyntaxEnd.TheVariants as syntax
use Rattle.kernel_syntax.specs.Grammar.{Whole}
use Rattle.kernel_parser.specs.Names.{name_faults}
use Rattle.kernel_syntax.specs.Reading.{place_of}
use Rattle.kernel_parser.specs.Resolved.{tree_of}
use Rattle.token_grammar.specs.declared.fault.GrammarFault.{GrammarFault}
use Rattle.token_grammar.specs.declared.fault.GrammarFault.TheVariants.{Syntax, TooDeep}
use Rattle.token_grammar.specs.Faults.{IsGrammarFault}
use Rattle.token_grammar.specs.Readers.{first}

-- ---- kernels

-- the most bytes that a text may have
abbrev pub most_bytes : ℕ
most_bytes = 65536

-- The text is not too long, these are its tokens, and this is how they are read.
pub record IsWritten (text : List ℕ) (tokens : List Token) (raw : RawKernel) : Type 0 where
  pub short : length text ≤ most_bytes
  pub spelled : AreTextTokens text tokens
  pub read : Whole 32 tokens raw

-- The text stands for this kernel: its names have no fault, and the kernel is what they make of the tree that is written.
pub record Reads (text : List ℕ) (kernel : KernelParts) : Type 0 where
  pub tokens : List Token
  pub raw : RawKernel
  pub written : IsWritten text tokens raw
  pub faultless : name_faults text raw ≡ []
  pub means : kernel ≡ tree_of text raw

-- ---- faults

-- the code of a text that is too long
abbrev pub too_long : ℕ
too_long = 15

-- 15: the text has more than 65,536 bytes; at the first byte too many
pub record IsTooLong (text : List ℕ) (code at : ℕ) : Type 0 where
  pub long : most_bytes < length text
  pub code_is : code ≡ too_long
  pub at_is : at ≡ most_bytes

-- 1, 2: the text is not too long, and its tokens have this first fault
pub record IsTokenFault (text : List ℕ) (code at : ℕ) : Type 0 where
  pub short : length text ≤ most_bytes
  pub fault : IsTextFault text code at

-- the codes of the faults of syntax
abbrev pub syntax_code : GrammarFault → ℕ
syntax_code Syntax = 3
syntax_code TooDeep = 13

-- 3, 13: the text has tokens, and the grammar has this first fault in them; at its token or the text's end
pub record IsSyntaxFault (text : List ℕ) (code at : ℕ) : Type 0 where
  pub short : length text ≤ most_bytes
  pub tokens : List Token
  pub spelled : AreTextTokens text tokens
  pub fault : GrammarFault
  pub rest : List Token
  pub here : IsGrammarFault Whole 32 fault tokens rest
  pub code_is : code ≡ syntax_code fault
  pub at_is : at ≡ place_of (length text) rest

-- 4, 5, 6, 9, 16: the text has a tree, and this is the first fault of the names in it
pub record IsNameFault (text : List ℕ) (code at : ℕ) : Type 0 where
  pub tokens : List Token
  pub raw : RawKernel
  pub written : IsWritten text tokens raw
  pub here : first (name_faults text raw) ≡ Some (record { code = code; at = at })

-- The text's first fault has this code, and is at this place.
abbrev pub IsFaultOfText : List ℕ → ℕ → ℕ → Type 0
IsFaultOfText text code at = IsTooLong text code at ⊎ (IsTokenFault text code at ⊎ (IsSyntaxFault text code at ⊎ IsNameFault text code at))

-- ---- how reading ends

-- without a kernel reading ends with the text's first fault; want of memory means nothing
abbrev pub EndMeans : List ℕ → ParseEnd → Type 0
EndMeans text (Fault code at) = IsFaultOfText text code at
EndMeans text NoMemory = Unit {0}

-- the end without tokens
abbrev pub lex_end : LexEnd → ParseEnd
lex_end (lexing.Fault code at) = Fault code at
lex_end lexing.NoMemory = NoMemory

-- the end without a tree
abbrev pub syntax_end : SyntaxEnd → ParseEnd
syntax_end (syntax.Fault fault at) = Fault (syntax_code fault) at
syntax_end syntax.NoMemory = NoMemory
