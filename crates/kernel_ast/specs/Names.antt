-- Which bytes are a name in the text of a kernel (this project's convention).
use Rattle.std.specs.Prelude.{◌≡◌, ◌≤◌, ℕ, Bool, true, false, ◌&&◌, ◌||◌, ◌==◌, List, [], ◌∷◌, length, codes, IsUtf8, chars, bytes_eq}
use Rattle.std.specs.List.{list_all, list_any}
use Rattle.unicode_ident.specs.Ident.{is_xid_start, is_xid_continue}

-- a name begins with `_` or with a character of XID_Start
abbrev pub starts_name : ℕ → Bool
starts_name c = is_xid_start c || c == 95

-- and goes on with characters of XID_Continue
abbrev pub is_spelled : List ℕ → Bool
is_spelled [] = false
is_spelled (c ∷ cs) = starts_name c && list_all is_xid_continue cs

-- the words that are no names
abbrev pub reserved_words : List (List ℕ)
reserved_words =
    codes "kernel" ∷ codes "in" ∷ codes "out" ∷ codes "tmp" ∷ codes "for" ∷ codes "min" ∷ codes "max"
    ∷ codes "sel" ∷ codes "mad" ∷ codes "if" ∷ codes "else" ∷ codes "by" ∷ []

-- whether the bytes are one of these words
abbrev pub is_reserved : List ℕ → Bool
is_reserved bytes = list_any (bytes_eq bytes) reserved_words

-- the bytes are UTF-8, their characters spell a name, they are no reserved word, and there are at most 64 of them
pub record IsName (bytes : List ℕ) : Type 0 where
  pub utf8 : IsUtf8 bytes
  pub spelled : is_spelled (chars bytes) ≡ true
  pub free : is_reserved bytes ≡ false
  pub short : length bytes ≤ 64
