-- The line of a move: it is one line and no comment, and no other move has it.
use Rattle.std.proofs.Common.{◌≡◌, ℕ, ◌<◌, ◌^◌, false, cond, Option, Some, None, List, [], ◌∷◌, ◌++◌, refl, sym, ◌∙◌, arith}
use Rattle.std.specs.List.{All}
use Rattle.std.specs.Str.{bytes_eq}
use Rattle.std.specs.Prelude.{codes}
use Rattle.std.specs.Fmt.{decimal}
use Rattle.std.proofs.lemmas.Fmt.{decimal_injective}
use Rattle.std.proofs.lemmas.List.Elements.{All-nil, All-cons}
use Rattle.pebble_rules.specs.declared.moves.Move.{Move}
use Rattle.pebble_rules.specs.declared.moves.Move.TheVariants.{Load, Store, Compute, DropRed, DropBlue}
use Rattle.pebble_rules.specs.Refusals.{vertex_of}
use Rattle.line_texts.specs.Lines.{IsLine, is_comment}
use Rattle.line_texts.specs.Words.{IsWord, IsUpTo, after_spaces}
use Rattle.line_texts.proofs.Cuts.{IsNot, has, has_not, not_in_decimal, line_is_line, same_line, same_front, ends_after}
use Rattle.play_files.specs.PlayText.{word_of, line_of_move}

-- the move that a word and a vertex name
abbrev found : List ℕ → ℕ → Option Move
found word v =
    cond (bytes_eq word (codes "load")) (Some (Load v))
    (cond (bytes_eq word (codes "store")) (Some (Store v))
    (cond (bytes_eq word (codes "compute")) (Some (Compute v))
    (cond (bytes_eq word (codes "drop")) (Some (DropRed v)) (cond (bytes_eq word (codes "unblue")) (Some (DropBlue v)) None))))

move_found : (m : Move) → found (word_of m) (vertex_of m) ≡ Some m
move_found (Load v) = refl
move_found (Store v) = refl
move_found (Compute v) = refl
move_found (DropRed v) = refl
move_found (DropBlue v) = refl

some_same : (m k : Move) → Some m ≡ Some k → m ≡ k
some_same m k e = cc

-- the word is a word, one line, no comment and not `end`
plain : (m : Move) → (has 32 (word_of m) ≡ false) × (has 10 (word_of m) ≡ false) × ((rest : List ℕ) → is_comment (word_of m ++ rest) ≡ false) × ((rest : List ℕ) → word_of m ++ rest ≡ codes "end" → ⊥)
plain (Load v) = (refl, refl, λ rest. refl, λ rest e. cc)
plain (Store v) = (refl, refl, λ rest. refl, λ rest e. cc)
plain (Compute v) = (refl, refl, λ rest. refl, λ rest e. cc)
plain (DropRed v) = (refl, refl, λ rest. refl, λ rest e. cc)
plain (DropBlue v) = (refl, refl, λ rest. refl, λ rest e. cc)

pub word_is_word : (m : Move) → IsWord (word_of m)
word_is_word m = has_not 32 (word_of m) (plain m).0

pub move_is_no_comment : (m : Move) → is_comment (line_of_move m) ≡ false
move_is_no_comment m = (plain m).2 (after_spaces (decimal (vertex_of m) ∷ []))

pub move_is_not_end : (m : Move) → line_of_move m ≡ codes "end" → ⊥
move_is_not_end m e = (plain m).3 (after_spaces (decimal (vertex_of m) ∷ [])) e

one_word : (k v : ℕ) → k < 48 → v < 2 ^ 64 → All (All (IsNot k)) (decimal v ∷ [])
one_word k v low small = All-cons (All (IsNot k)) (decimal v) [] (not_in_decimal k v low small) (All-nil (All (IsNot k)))

pub move_is_line : (m : Move) → vertex_of m < 2 ^ 16 → IsLine (line_of_move m)
move_is_line m small = line_is_line (word_of m) (decimal (vertex_of m) ∷ []) (has_not 10 (word_of m) (plain m).1) (one_word 10 (vertex_of m) (omega arith) (omega arith))

pub one_move : (m k : Move) → vertex_of m < 2 ^ 16 → vertex_of k < 2 ^ 16 → line_of_move m ≡ line_of_move k → m ≡ k
one_move m k a b e =
    let parts = same_line (word_of m) (word_of k) (decimal (vertex_of m) ∷ []) (decimal (vertex_of k) ∷ []) (word_is_word m) (word_is_word k)
    (one_word 32 (vertex_of m) (omega arith) (omega arith)) (one_word 32 (vertex_of k) (omega arith) (omega arith)) e in
    let digits : decimal (vertex_of m) ≡ decimal (vertex_of k) = cc in
    let vertex = decimal_injective (vertex_of m) (vertex_of k) (omega arith) (omega arith) digits in
    some_same m k (sym (move_found m) ∙ (λ i. found (parts.0 i) (vertex i)) ∙ move_found k)

-- the word of a move's line, and what is behind it
pub move_parts : (text word rest : List ℕ) (m : Move) → IsUpTo 32 text word rest → text ≡ line_of_move m → (word ≡ word_of m) × (rest ≡ after_spaces (decimal (vertex_of m) ∷ []))
move_parts text word rest m up e =
    same_front 32 word rest (word_of m) (after_spaces (decimal (vertex_of m) ∷ [])) up.free up.ends (word_is_word m) (ends_after (decimal (vertex_of m) ∷ [])) (sym up.split ∙ e)
