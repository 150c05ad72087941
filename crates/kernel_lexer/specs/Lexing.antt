-- The tokens of a list of characters, and its first fault. This project's convention.
use Rattle.std.specs.Prelude.{◌≡◌, ◌≢◌, ℕ, ◌-◌, Bool, true, false, ◌&&◌, ◌||◌, ◌==◌, if◌then◌else◌, List, [], ◌∷◌, ◌++◌, Some, None}
use Rattle.kernel_lexer.specs.declared.cut.TokenRule.{TokenRule}
use Rattle.kernel_lexer.specs.declared.cut.TokenRule.TheVariants.{BadByte, TooBig}
use Rattle.kernel_lexer.specs.declared.token.Token.{Token}
use Rattle.kernel_lexer.specs.Spelling.{Text, bytes, is_spelling, Longest, kind_of}

-- a space, a tab, a carriage return or a line feed
abbrev pub is_space : ℕ → Bool
is_space c = c == 32 || (c == 9 || (c == 13 || c == 10))

-- whether this character stands first
abbrev pub begins : ℕ → Text → Bool
begins c [] = false
begins c (d ∷ cs) = d == c

-- What is left behind spaces and comments. Two slashes begin a comment, in which all is passed over up to the next line feed.
abbrev pub skip : Bool → Text → Text
skip in_comment [] = []
skip true (c ∷ cs) = if c == 10 then skip false cs else skip true cs
skip false (c ∷ cs) = if is_space c then skip false cs else (if (c == 47) && begins 47 cs then skip true cs else c ∷ cs)

-- Behind spaces and comments stand this token and then the rest. Places count from the front of a text that ends at `end`.
pub record Begins (end : ℕ) (text : Text) (t : Token) (word rest : Text) : Type 0 where
  pub split : skip false text ≡ word ++ rest
  pub longest : Longest word rest
  pub kind : kind_of word ≡ Some t.kind
  pub from : t.from ≡ end - bytes (word ++ rest)
  pub to : t.to ≡ end - bytes rest

-- these are all the tokens of the text
abbrev pub AreTokens : ℕ → Text → List Token → Type 0
AreTokens end text [] = skip false text ≡ []
AreTokens end text (t ∷ ts) = (word : Text) × (rest : Text) × Begins end text t word rest × AreTokens end rest ts

-- What is at fault where a token should begin: no token begins there, or the longest is too big.
abbrev pub BreaksTokenRule : TokenRule → Text → Type 0
BreaksTokenRule BadByte left = (left ≢ []) × ((word rest : Text) → left ≡ word ++ rest → is_spelling word ≡ true → ⊥)
BreaksTokenRule TooBig left = (word : Text) × (rest : Text) × (left ≡ word ++ rest) × Longest word rest × (kind_of word ≡ None)

-- the fault comes after these tokens, and this is left from it on
abbrev pub FaultAfter : ℕ → Text → List Token → TokenRule → Text → Type 0
FaultAfter end text [] fault left = (skip false text ≡ left) × BreaksTokenRule fault left
FaultAfter end text (t ∷ ts) fault left = (word : Text) × (rest : Text) × Begins end text t word rest × FaultAfter end rest ts fault left
