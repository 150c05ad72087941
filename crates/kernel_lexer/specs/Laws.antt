-- Laws of all texts, that calls of this crate carry.
use Rattle.std.specs.Prelude.{◌⊎◌, ◌≡◌, ◌≤◌, ◌<◌, ℕ, List, [], ◌∷◌, length, slice_range, Some}
use Rattle.std.specs.Str.{encode_utf8_all, IsUtf8}
use Rattle.kernel_lexer.specs.declared.token.Token.{Token}
use Rattle.kernel_lexer.specs.Spelling.{Text, kind_of}
use Rattle.kernel_lexer.specs.Texts.{AreTextTokens, IsTextFault}

-- a text has at most one list of tokens
abbrev pub OneTokenList : Type 0
OneTokenList = (text : List ℕ) (ts us : List Token) → AreTextTokens text ts → AreTextTokens text us → ts ≡ us

-- a text has at most one first fault
abbrev pub OneFirstFault : Type 0
OneFirstFault = (text : List ℕ) (c d at place : ℕ) → IsTextFault text c at → IsTextFault text d place → (c ≡ d) × (at ≡ place)

-- a text with tokens has no fault
abbrev pub NeverBoth : Type 0
NeverBoth = (text : List ℕ) (ts : List Token) (c at : ℕ) → AreTextTokens text ts → IsTextFault text c at → ⊥

-- each text has tokens or a first fault
abbrev pub AlwaysOne : Type 0
AlwaysOne = (text : List ℕ) → ((ts : List Token) × AreTextTokens text ts) ⊎ ((c : ℕ) × (at : ℕ) × IsTextFault text c at)

-- the token's span in the text is UTF-8, and spells what the token is
abbrev pub IsSpelled : List ℕ → Token → Type 0
IsSpelled text t = (word : Text) × IsUtf8 (slice_range text t.from t.to) × (slice_range text t.from t.to ≡ encode_utf8_all word) × (kind_of word ≡ Some t.kind)

-- From this place on the spans rise and stand within the text, and each spells what its token is.
abbrev pub AreSpans : List ℕ → ℕ → List Token → Type 0
AreSpans text place [] = place ≤ length text
AreSpans text place (t ∷ ts) = (place ≤ t.from) × (t.from < t.to) × IsSpelled text t × AreSpans text t.to ts

-- the spans of the tokens of a text are so
abbrev pub SpansRise : Type 0
SpansRise = (text : List ℕ) (ts : List Token) → AreTextTokens text ts → AreSpans text 0 ts
