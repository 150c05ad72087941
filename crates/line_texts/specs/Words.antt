-- The words of a line, parted by one space each (this project's convention).
use Rattle.std.specs.Prelude.{◌≡◌, ◌≢◌, ℕ, List, [], ◌∷◌, ◌++◌, ⊤, Option, MatchOption}
use Rattle.std.specs.List.{All}

-- the bytes end, or go on with this one
abbrev pub EndsAt : ℕ → List ℕ → Type 0
EndsAt stop [] = ⊤
EndsAt stop (b ∷ bs) = b ≡ stop

-- the front is all up to the first byte of this kind, or up to the end, and the rest stands behind it
pub record IsUpTo (stop : ℕ) (bytes front rest : List ℕ) : Type 0 where
  pub split : bytes ≡ front ++ rest
  pub free : All (λ b. b ≢ stop) front
  pub ends : EndsAt stop rest

-- bytes without a space
abbrev pub IsWord : List ℕ → Type 0
IsWord word = All (λ b. b ≢ 32) word

-- behind a word a line ends, or goes on with a space
abbrev pub EndsWord : List ℕ → Type 0
EndsWord = EndsAt 32

-- words, each after a space
abbrev pub after_spaces : List (List ℕ) → List ℕ
after_spaces [] = []
after_spaces (word ∷ words) = 32 ∷ (word ++ after_spaces words)

-- a line: its first word, then the others
abbrev pub line : List ℕ → List (List ℕ) → List ℕ
line word words = word ++ after_spaces words

-- ---- what readers of words answer, where a value has one spelling

-- the valid value that all these bytes spell, or they spell none
abbrev pub IsSpelled : {A : Type 0} → (A → List ℕ) → (A → Type 0) → List ℕ → Option A → Type 0
IsSpelled {A = A} spelling valid bytes r = MatchOption r ((a : A) → valid a → bytes ≢ spelling a) (λ a. (bytes ≡ spelling a) × valid a)

-- a valid value is spelled behind a space, and the rest stands behind its word
abbrev pub IsNext : {A : Type 0} → (A → List ℕ) → (A → Type 0) → List ℕ → A → List ℕ → Type 0
IsNext spelling valid bytes a rest = (bytes ≡ 32 ∷ (spelling a ++ rest)) × valid a × EndsWord rest

-- no valid value is spelled behind a space
abbrev pub HasNoNext : {A : Type 0} → (A → List ℕ) → (A → Type 0) → List ℕ → Type 0
HasNoNext {A = A} spelling valid bytes = (a : A) (rest : List ℕ) → valid a → EndsWord rest → bytes ≢ 32 ∷ (spelling a ++ rest)
