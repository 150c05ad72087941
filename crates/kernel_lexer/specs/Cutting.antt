-- What the steps of the lexer say of the characters that are left.
use Rattle.std.specs.Str.{chars}
use Rattle.std.specs.Prelude.{◌≡◌, ℕ, Bool, true, false, if◌then◌else◌, List, [], ◌∷◌, ◌++◌, length, Option, Some, None}
use Rattle.std.specs.List.{list_any}
use Rattle.kernel_lexer.specs.declared.cut.Cut.{Cut}
use Rattle.kernel_lexer.specs.declared.cut.Cut.TheVariants.{Token, NoToken}
use Rattle.kernel_lexer.specs.declared.token.Mark.{Mark}
use Rattle.kernel_lexer.specs.declared.lex_end.LexEnd.{LexEnd}
use Rattle.kernel_lexer.specs.declared.lex_end.LexEnd.TheVariants as ends
use Rattle.kernel_lexer.specs.Spelling.{Text, bytes, starts, is_digit, signs, sign_of, Longest, kind_of}
use Rattle.kernel_lexer.specs.Lexing.{BreaksTokenRule, begins}
use Rattle.kernel_lexer.specs.Texts.{IsFirstFault}

-- the longest front whose characters pass
abbrev pub run : (ℕ → Bool) → Text → Text
run p [] = []
run p (c ∷ cs) = if p c then c ∷ run p cs else []

-- what is behind it
abbrev pub past : (ℕ → Bool) → Text → Text
past p [] = []
past p (c ∷ cs) = if p c then past p cs else c ∷ cs

-- whether a character begins a sign
abbrev pub begins_sign : ℕ → Bool
begins_sign c = list_any (λ k. begins c k.0) signs

-- a sign with its number of characters, where there is one, and else the other
abbrev pub sized_or : ℕ → Option Mark → Option (Mark × ℕ) → Option (Mark × ℕ)
sized_or n (Some m) other = Some (m, n)
sized_or n None other = other

-- the sign at the front with its number of characters: two where they are a sign, or else one
abbrev pub front_sign : Text → Option (Mark × ℕ)
front_sign [] = None
front_sign (c ∷ []) = sized_or 1 (sign_of (c ∷ [])) None
front_sign (c ∷ d ∷ cs) = sized_or 2 (sign_of (c ∷ d ∷ [])) (sized_or 1 (sign_of (c ∷ [])) None)

-- a word begins, and neither a number nor a sign
abbrev pub BeginsWord : Text → Type 0
BeginsWord text = (c : ℕ) × (tail : Text) × (text ≡ c ∷ tail) × (starts c ≡ true) × (is_digit c ≡ false) × (begins_sign c ≡ false)

-- a number begins, and neither a word nor a sign
abbrev pub BeginsNumber : Text → Type 0
BeginsNumber text = (c : ℕ) × (tail : Text) × (text ≡ c ∷ tail) × (starts c ≡ false) × (is_digit c ≡ true) × (begins_sign c ≡ false)

-- neither a word nor a number begins
abbrev pub BeginsOther : Text → Type 0
BeginsOther text = (c : ℕ) × (tail : Text) × (text ≡ c ∷ tail) × (starts c ≡ false) × (is_digit c ≡ false)

-- what a cut says of what is left
abbrev pub IsCut : Text → Cut → Type 0
IsCut left (Token kind len) = (rest : Text) × (word : Text) × (left ≡ word ++ rest) × (length word ≡ len) × Longest word rest × (kind_of word ≡ Some kind)
IsCut left (NoToken fault) = BreaksTokenRule fault left

-- what the end of characters without tokens means
abbrev pub CharsEnd : Text → LexEnd → Type 0
CharsEnd text ends.NoMemory = Unit {0}
CharsEnd text (ends.Fault code at) = IsFirstFault (bytes text) text code at

-- the same of a front of a text
abbrev pub FrontEnd : List ℕ → LexEnd → Type 0
FrontEnd front ends.NoMemory = Unit {0}
FrontEnd front (ends.Fault code at) = IsFirstFault (length front) (chars front) code at
