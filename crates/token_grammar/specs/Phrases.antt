-- Phrases: which words a rule of a grammar has, and what each of those words stands for. The forms are those of EBNF.
use Rattle.std.specs.Prelude.{◌≡◌, Bool, true, List, [], ◌∷◌, ◌++◌, ◌⊎◌, Option, Some, None}

-- A phrase over tokens T: that a word, a list of tokens, has the value a.
abbrev pub Phrase : Type 0 → Type 0 → Type 1
Phrase T A = List T → A → Type 0

-- one token that passes a test, and stands for itself
abbrev pub One : {T : Type 0} → (T → Bool) → Phrase T T
One passes word t = (word ≡ t ∷ []) × (passes t ≡ true)

-- one phrase and then another, which stand for the pair of their values
abbrev pub Both : {T A B : Type 0} → Phrase T A → Phrase T B → Phrase T (A × B)
Both {T = T} R S word p = (u : List T) × (v : List T) × (word ≡ u ++ v) × R u p.0 × S v p.1

-- one of two phrases
abbrev pub Either : {T A : Type 0} → Phrase T A → Phrase T A → Phrase T A
Either R S word a = R word a ⊎ S word a

-- a phrase, which stands for what is made of its value
abbrev pub Made : {T A B : Type 0} → (A → B) → Phrase T A → Phrase T B
Made {A = A} f R word b = (a : A) × R word a × (b ≡ f a)

-- any number of phrases one after the other, none included, which stand for the list of their values
abbrev pub Many : {T A : Type 0} → Phrase T A → Phrase T (List A)
Many R word [] = word ≡ []
Many {T = T} R word (a ∷ more) = (u : List T) × (v : List T) × (word ≡ u ++ v) × R u a × Many R v more

-- a phrase, or no token
abbrev pub Maybe : {T A : Type 0} → Phrase T A → Phrase T (Option A)
Maybe R word None = word ≡ []
Maybe R word (Some a) = R word a
