-- The first fault of a text against a grammar whose rules have a number of levels: how many parts may stand in one another.
use Rattle.std.specs.Prelude.{◌≡◌, ℕ, List, [], ◌∷◌, ◌++◌}
use Rattle.token_grammar.specs.declared.fault.GrammarFault.{GrammarFault}
use Rattle.token_grammar.specs.declared.fault.GrammarFault.TheVariants.{Syntax, TooDeep}
use Rattle.token_grammar.specs.Phrases.{Phrase}

-- The tokens begin a word of the grammar with at most so many levels.
abbrev pub IsFrontOfWord : {T A : Type 0} → (ℕ → Phrase T A) → ℕ → List T → Type 0
IsFrontOfWord {T = T} {A = A} R levels tokens = (more : List T) × (value : A) × R levels (tokens ++ more) value

-- The token after those seen is at fault, or the text ends too early there: Syntax where no word of any number of levels goes on
-- so, TooDeep where some word does, but none within the limit.
abbrev pub IsFaultAt : {T A : Type 0} → (ℕ → Phrase T A) → ℕ → GrammarFault → List T → List T → Type 0
IsFaultAt {A = A} R limit Syntax seen [] = (levels : ℕ) (value : A) → R levels seen value → ⊥
IsFaultAt R limit Syntax seen (token ∷ rest) = (levels : ℕ) → IsFrontOfWord R levels (seen ++ token ∷ []) → ⊥
IsFaultAt R limit TooDeep seen [] = ⊥
IsFaultAt R limit TooDeep seen (token ∷ rest) = ((levels : ℕ) × IsFrontOfWord R levels (seen ++ token ∷ [])) × (IsFrontOfWord R limit (seen ++ token ∷ []) → ⊥)

-- A fault stands before the rest: the tokens before it begin a word within the limit, and with the next one they do not.
pub record IsGrammarFault {T A : Type 0} (R : ℕ → Phrase T A) (limit : ℕ) (fault : GrammarFault) (tokens rest : List T) : Type 0 where
  pub seen : List T
  pub split : tokens ≡ seen ++ rest
  pub before : IsFrontOfWord R limit seen
  pub here : IsFaultAt R limit fault seen rest
