-- Which words of a values file are numbers, and which numbers (this project's convention).
use Rattle.std.specs.Prelude.{ℕ, ℤ, ◌+◌, ◌-◌, ◌*◌, ◌^◌, ◌==◌, ◌&&◌, not, nat_le, nat_lt, if◌then◌else◌, Bool, List, [], ◌∷◌, length, fold, pos, neg_ℤ, Option, Some, None}
use Rattle.std.specs.Char.{is_ascii_digit}
use Rattle.std.specs.List.{list_all}

-- one or more of the digits 0 to 9
abbrev pub are_digits : List ℕ → Bool
are_digits word = not (length word == 0) && list_all is_ascii_digit word

-- the number that digits spell; zeros may lead
abbrev pub value_of : List ℕ → ℕ
value_of = fold (λ n c. 10 * n + (c - 48)) 0

-- the number that digits spell behind a minus sign, from -9223372036854775808 on
abbrev pub negative_of : List ℕ → Option ℤ
negative_of digits = if are_digits digits && nat_le (value_of digits) (2 ^ 63) then Some (neg_ℤ (pos (value_of digits))) else None

-- the number that digits spell, up to 9223372036854775807
abbrev pub positive_of : List ℕ → Option ℤ
positive_of digits = if are_digits digits && nat_lt (value_of digits) (2 ^ 63) then Some (pos (value_of digits)) else None

-- the number that a word spells, if it spells one: digits, with a minus sign before them or without
abbrev pub number_of : List ℕ → Option ℤ
number_of [] = None
number_of (c ∷ cs) = if c == 45 then negative_of cs else positive_of (c ∷ cs)

-- a word behind its minus sign, if it has one
abbrev pub without_sign : List ℕ → List ℕ
without_sign [] = []
without_sign (c ∷ cs) = if c == 45 then cs else c ∷ cs
