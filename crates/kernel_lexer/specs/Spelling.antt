-- How a token is spelled, and what a spelling stands for, on the characters of a text. This project's convention.
use Rattle.std.specs.Prelude.{◌≡◌, ℕ, ◌+◌, ◌-◌, ◌*◌, ◌^◌, Bool, true, false, ◌&&◌, ◌||◌, ◌==◌, nat_le, nat_lt, if◌then◌else◌, List, [], ◌∷◌, ◌++◌, length, fold, Option, Some, None, codes, pos, is_some}
use Rattle.std.specs.List.{list_all}
use Rattle.std.specs.Map.{lookup}
use Rattle.std.specs.Str.{encode_utf8_all, bytes_eq}
use Rattle.unicode_ident.specs.Ident.{is_xid_start, is_xid_continue}
use Rattle.kernel_lexer.specs.declared.token.Keyword.{Keyword}
use Rattle.kernel_lexer.specs.declared.token.Keyword.TheVariants.{Kernel, Input, Output, Temp, Loop, Min, Max, Sel, Mad, If, Else, By}
use Rattle.kernel_lexer.specs.declared.token.Mark.{Mark}
use Rattle.kernel_lexer.specs.declared.token.Mark.TheVariants.{OpenBrace, CloseBrace, OpenBracket, CloseBracket, OpenParen, CloseParen, Semicolon, Comma, Assign, Dots, Plus, Minus, Star, And, Or, Xor, Same, Differs, Less, AtMost, More, AtLeast}
use Rattle.kernel_lexer.specs.declared.token.TokenKind.{TokenKind}
use Rattle.kernel_lexer.specs.declared.token.TokenKind.TheVariants.{Name, Number, Word, Sign}

-- characters, each as its number
abbrev pub Text : Type 0
Text = List ℕ

-- how many bytes the characters have in UTF-8
abbrev pub bytes : Text → ℕ
bytes w = length (encode_utf8_all w)

-- ---- the three classes of tokens

-- a digit from 0 to 9
abbrev pub is_digit : ℕ → Bool
is_digit c = nat_le 48 c && nat_le c 57

-- a word begins with `_` or a character of XID_Start
abbrev pub starts : ℕ → Bool
starts c = is_xid_start c || c == 95

-- a word goes on with characters of XID_Continue
abbrev pub continues : ℕ → Bool
continues c = is_xid_continue c

-- a name or a reserved word
abbrev pub is_word : Text → Bool
is_word [] = false
is_word (c ∷ cs) = starts c && list_all continues cs

-- one digit or more
abbrev pub is_digits : Text → Bool
is_digits [] = false
is_digits (c ∷ cs) = list_all is_digit (c ∷ cs)

-- the signs
abbrev pub signs : List (Text × Mark)
signs =
    (codes "{", OpenBrace) ∷ (codes "}", CloseBrace) ∷ (codes "[", OpenBracket) ∷ (codes "]", CloseBracket) ∷ (codes "(", OpenParen) ∷ (codes ")", CloseParen)
    ∷ (codes ";", Semicolon) ∷ (codes ",", Comma) ∷ (codes "=", Assign) ∷ (codes "..", Dots) ∷ (codes "+", Plus) ∷ (codes "-", Minus) ∷ (codes "*", Star)
    ∷ (codes "&", And) ∷ (codes "|", Or) ∷ (codes "^", Xor) ∷ (codes "==", Same) ∷ (codes "!=", Differs) ∷ (codes "<", Less) ∷ (codes "<=", AtMost)
    ∷ (codes ">", More) ∷ (codes ">=", AtLeast) ∷ []

-- the sign that characters spell
abbrev pub sign_of : Text → Option Mark
sign_of w = lookup (λ k. bytes_eq w k) signs

-- the characters of a token: a word, digits or a sign
abbrev pub is_spelling : Text → Bool
is_spelling w = is_word w || (is_digits w || is_some (sign_of w))

-- The word is a token, and with more of what follows it is none.
pub record Longest (word rest : Text) : Type 0 where
  pub is : is_spelling word ≡ true
  pub longest : (more after : Text) → rest ≡ more ++ after → is_spelling (word ++ more) ≡ true → more ≡ []

-- ---- what a spelling stands for

-- the number that decimal digits stand for; zeros may lead
abbrev pub value : Text → ℕ
value = fold (λ n d. 10 * n + (d - 48)) 0

-- the reserved words
abbrev pub reserved : List (Text × Keyword)
reserved =
    (codes "kernel", Kernel) ∷ (codes "in", Input) ∷ (codes "out", Output) ∷ (codes "tmp", Temp) ∷ (codes "for", Loop) ∷ (codes "min", Min)
    ∷ (codes "max", Max) ∷ (codes "sel", Sel) ∷ (codes "mad", Mad) ∷ (codes "if", If) ∷ (codes "else", Else) ∷ (codes "by", By) ∷ []

-- the reserved word that characters spell
abbrev pub keyword : Text → Option Keyword
keyword w = lookup (λ k. bytes_eq w k) reserved

-- a word that is not reserved is a name
abbrev pub named : Option Keyword → TokenKind
named None = Name
named (Some k) = Word k

-- a sign as a token
abbrev pub signed : Option Mark → Option TokenKind
signed None = None
signed (Some m) = Some (Sign m)

-- What a spelling stands for, unless it is too big: a number is below 2 ^ 63, and a word has at most 64 bytes.
abbrev pub kind_of : Text → Option TokenKind
kind_of w =
    if is_digits w then (if nat_lt (value w) (2 ^ 63) then Some (Number (pos (value w))) else None)
    else (if is_word w then (if nat_le (bytes w) 64 then Some (named (keyword w)) else None)
    else signed (sign_of w))
