-- A small grammar that shows the forms: items and groups of them in brackets, within a number of levels.
use Rattle.std.specs.Prelude.{ℕ, zero, suc, Bool, List, ◌==◌, ◌||◌, sum}
use Rattle.token_grammar.specs.Phrases.{Phrase, One, Both, Either, Made, Many}
use Rattle.token_grammar.specs.Readers.{Reader, sees, one, deep, both, made, either, many}

-- a token that opens a group, one that closes it, and an item
abbrev pub is_open : ℕ → Bool
is_open t = t == 0

abbrev pub is_close : ℕ → Bool
is_close t = t == 1

abbrev pub is_item : ℕ → Bool
is_item t = t == 2

-- a token that begins a part
abbrev pub is_part : ℕ → Bool
is_part t = (t == 0) || (t == 2)

-- an item counts once
abbrev pub single : ℕ → ℕ
single t = 1

-- what a group counts: all that stands between its brackets
abbrev pub inside : ℕ × (List ℕ × ℕ) → ℕ
inside p = sum p.1.0

-- item = "2"
abbrev pub Item : Phrase ℕ ℕ
Item = Made single (One is_item)

-- group = "0" { part } "1"
abbrev pub Group : Phrase ℕ ℕ → Phrase ℕ ℕ
Group R = Made inside (Both (One is_open) (Both (Many R) (One is_close)))

-- part = group | item, with at most so many groups in one another, and the number of its items
abbrev pub Part : ℕ → Phrase ℕ ℕ
Part zero = Item
Part (suc levels) = Either (Group (Part levels)) Item

-- the readers of the three rules
abbrev pub item : Reader ℕ ℕ
item = made single (one is_item)

abbrev pub group : Reader ℕ ℕ → Reader ℕ ℕ
group p = made inside (both (one is_open) (both (many (sees is_part) p) (one is_close)))

abbrev pub part : ℕ → Reader ℕ ℕ
part zero = either (sees is_open) deep item
part (suc levels) = either (sees is_open) (group (part levels)) item
