-- What a line could say, read off its words. The line of each item gives the item back.
use Rattle.std.proofs.Common.{◌≡◌, ℕ, zero, suc, ◌<◌, ◌^◌, ℤ, pos, negsuc, false, cond, eqb, List, [], ◌∷◌, ◌++◌, map, take, drop, length, Option, Some, None, refl, sym, ap, ◌∙◌, arith, append-nil}
use Rattle.std.proofs.Math.IntN.{neg_ℤ}
use Rattle.std.specs.Prelude.{FitsSigned}
use Rattle.std.specs.Int.{w64}
use Rattle.std.specs.Fmt.{decimal, signed_decimal}
use Rattle.std.specs.List.{All, slice_split}
use Rattle.std.specs.Str.Parse.{digits_value}
use Rattle.std.proofs.lemmas.Bool.{ne_eqb}
use Rattle.std.proofs.lemmas.Fmt.{decimal_is_IsNumeral}
use Rattle.std.proofs.lemmas.List.Elements.{All-head, All-tail, All-weaker}
use Rattle.std.proofs.lemmas.List.Splits.{slice_split_at, slice_split_none}
use Rattle.comp_graph.specs.Operations.{arity_of}
use Rattle.scratch_machine.specs.declared.code.Source.{Source}
use Rattle.scratch_machine.specs.declared.code.Source.TheVariants.{Slot, Const}
use Rattle.scratch_machine.specs.declared.code.Instr.TheVariants.{Load, Store, Apply}
use Rattle.line_texts.specs.Words.{IsWord, after_spaces, line}
use Rattle.line_texts.proofs.Cuts.{IsNot, not_in_decimal}
use Rattle.scratch_code.specs.declared.item.Item.{Item}
use Rattle.scratch_code.specs.declared.item.Item.TheVariants.{Slots, Words, In, Out, Do, End}
use Rattle.scratch_code.specs.declared.kind.Kind.{Kind}
use Rattle.scratch_code.specs.declared.kind.Kind.TheVariants as kinds
use Rattle.scratch_code.specs.CodeText.{operand_text}
use Rattle.scratch_code.specs.Items.{word_of_kind, kind_of, fields_of, spelled, IsItem, IsOperand}
use Rattle.scratch_code.proofs.FirstWords.{found, all_kinds, kind_found}
use Rattle.scratch_code.proofs.Spellings.{IsZero, operands_from, word_is_word, fields_are_words, item_is_kind}

-- ---- words

-- the words of a line
abbrev pub words_of : List ℕ → List (List ℕ)
words_of text = slice_split (λ b. eqb b 32) text

no_spaces : (w : List ℕ) → IsWord w → All (λ b. eqb b 32 ≡ false) w
no_spaces w all = All-weaker (IsNot 32) (λ b. eqb b 32 ≡ false) (λ b ne. ne_eqb b 32 ne) w all

words_back : (w : List ℕ) (ws : List (List ℕ)) → IsWord w → All IsWord ws → words_of (line w ws) ≡ w ∷ ws
words_back w [] a all = ap words_of (append-nil w) ∙ slice_split_none (λ b. eqb b 32) w (no_spaces w a)
words_back w (v ∷ vs) a all =
    slice_split_at (λ b. eqb b 32) w 32 (v ++ after_spaces vs) (no_spaces w a) refl
    ∙ ap (λ z. w ∷ z) (words_back v vs (All-head IsWord v vs all) (All-tail IsWord v vs all))

-- ---- numbers

number_back : (n : ℕ) → n < 2 ^ 64 → digits_value 10 (decimal n) ≡ n
number_back n small = (decimal_is_IsNumeral n small).1

-- the number that digits could write, behind a minus sign or without one
abbrev signed_of : List ℕ → ℤ
signed_of [] = pos (digits_value 10 [])
signed_of (b ∷ bs) = cond (eqb b 45) (neg_ℤ (pos (digits_value 10 bs))) (pos (digits_value 10 (b ∷ bs)))

no_sign : (bs : List ℕ) → All (IsNot 45) bs → signed_of bs ≡ pos (digits_value 10 bs)
no_sign [] all = refl
no_sign (b ∷ bs) all = ap (λ t. cond t (neg_ℤ (pos (digits_value 10 bs))) (pos (digits_value 10 (b ∷ bs)))) (ne_eqb b 45 (All-head (IsNot 45) b bs all))

signed_back : (z : ℤ) → FitsSigned w64 z → signed_of (signed_decimal z) ≡ z
signed_back (pos n) h = let small = h.sfits in no_sign (decimal n) (not_in_decimal 45 n (omega arith) (omega arith)) ∙ ap pos (number_back n (omega arith))
signed_back (negsuc n) h = let small = h.sfits in ap (λ m. neg_ℤ (pos m)) (number_back (suc n) (omega arith))

-- ---- operands

-- the operand that a word could spell
abbrev operand_of : List ℕ → Source
operand_of [] = Const (pos 0)
operand_of (b ∷ bs) = cond (eqb b 115) (Slot (digits_value 10 bs)) (Const (signed_of bs))

operand_back : (a : Source) → IsOperand a → operand_of (operand_text a) ≡ a
operand_back (Slot k) h = ap Slot (number_back k (omega arith))
operand_back (Const z) h = ap Const (signed_back z h)

-- so many operands, and 0 where there are no words
abbrev filled : ℕ → List (List ℕ) → List Source
filled zero ws = []
filled (suc k) [] = Const (pos 0) ∷ filled k []
filled (suc k) (w ∷ ws) = operand_of w ∷ filled k ws

filled_back : (k n : ℕ) (args : List Source) → length args ≡ k → All IsOperand args → All IsZero (drop n args) → filled k (map operand_text (take n args)) ≡ args
filled_back zero n [] e all zeros = refl
filled_back zero n (a ∷ args) e all zeros = absurd (omega arith)
filled_back (suc k) n [] e all zeros = absurd (omega arith)
filled_back (suc k) zero (a ∷ args) e all zeros =
    let one : Const (pos 0) ≡ a = sym (All-head IsZero a args zeros) in
    let rest = filled_back k zero args (omega arith) (All-tail IsOperand a args all) (All-tail IsZero a args zeros) in
    λ i. one i ∷ rest i
filled_back (suc k) (suc n) (a ∷ args) e all zeros =
    let one = operand_back a (All-head IsOperand a args all) in
    let rest = filled_back k n args (omega arith) (All-tail IsOperand a args all) zeros in
    λ i. one i ∷ rest i

-- ---- items

-- the item of a kind that these fields could be
abbrev guessed : Kind → List (List ℕ) → Option Item
guessed kinds.Slots (w ∷ []) = Some (Slots (digits_value 10 w))
guessed kinds.Words (w ∷ []) = Some (Words (digits_value 10 w))
guessed kinds.In (w ∷ []) = Some (In w)
guessed kinds.Out (w ∷ v ∷ []) = Some (Out (record { label = w; word = digits_value 10 v }))
guessed kinds.Load (w ∷ v ∷ []) = Some (Do (Load (digits_value 10 w) (digits_value 10 v)))
guessed kinds.Store (w ∷ v ∷ []) = Some (Do (Store (digits_value 10 w) (digits_value 10 v)))
guessed (kinds.Apply op) (w ∷ ws) = Some (Do (Apply op (digits_value 10 w) (filled 3 ws)))
guessed kinds.End [] = Some End
guessed _ _ = None

fields_back : (i : Item) → IsItem i → guessed (kind_of i) (fields_of i) ≡ Some i
fields_back (Slots n) h = ap (λ m. Some (Slots m)) (number_back n (omega arith))
fields_back (Words n) h = ap (λ m. Some (Words m)) (number_back n (omega arith))
fields_back (In label) h = refl
fields_back (Out o) h = let small = h.1 in let same = number_back o.word (omega arith) in λ i. Some (Out (record { label = o.label; word = same i }))
fields_back (Do (Load s a)) h =
    let b = h.0.0 in
    let c = h.0.1 in
    let slot = number_back s (omega arith) in
    let word = number_back a (omega arith) in
    λ i. Some (Do (Load (slot i) (word i)))
fields_back (Do (Store s a)) h =
    let b = h.0.0 in
    let c = h.0.1 in
    let slot = number_back s (omega arith) in
    let word = number_back a (omega arith) in
    λ i. Some (Do (Store (slot i) (word i)))
fields_back (Do (Apply op s args)) h =
    let b = h.0.within in
    let slot = number_back s (omega arith) in
    let same = filled_back 3 (arity_of op) args h.0.three (operands_from args h.0.operands h.1) h.0.rest in
    λ i. Some (Do (Apply op (slot i) (same i)))
fields_back End h = refl

of_kind : Option Kind → List (List ℕ) → Option Item
of_kind None ws = None
of_kind (Some kind) ws = guessed kind ws

of_words : List (List ℕ) → Option Item
of_words [] = None
of_words (w ∷ ws) = of_kind (found w all_kinds) ws

-- the item that a line could be
pub guess : List ℕ → Option Item
guess text = of_words (words_of text)

pub item_back : (i : Item) → IsItem i → guess (spelled i) ≡ Some i
unfolding guess of_words of_kind
item_back i h =
    ap of_words (words_back (word_of_kind (kind_of i)) (fields_of i) (word_is_word (kind_of i)) (fields_are_words i h))
    ∙ ap (λ k. of_kind k (fields_of i)) (kind_found (kind_of i) (item_is_kind i h))
    ∙ fields_back i h
