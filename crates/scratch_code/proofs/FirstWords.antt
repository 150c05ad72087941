-- The first word of a line tells its kind.
use Rattle.std.proofs.Common.{◌≡◌, ℕ, zero, suc, ◌+◌, ◌<◌, length, drop, get_or, arith, false, cond, List, [], ◌∷◌, ◌++◌, Option, Some, None, refl, sym, ap, ◌∙◌}
use Rattle.std.specs.Str.{bytes_eq}
use Rattle.comp_graph.specs.declared.operation.Op.TheVariants.{Input, Set, Add, Sub, Mul, And, Or, Xor, Neg, Min, Max, Sel, Mad}
use Rattle.line_texts.specs.Lines.{is_comment}
use Rattle.line_texts.proofs.Cuts.{has}
use Rattle.scratch_code.specs.declared.kind.Kind.{Kind}
use Rattle.scratch_code.specs.declared.kind.Kind.TheVariants.{Slots, Words, In, Out, Load, Store, Apply, End}
use Rattle.scratch_code.specs.Items.{word_of_kind, IsKind}

-- the first of these kinds with this word
abbrev pub found : List ℕ → List Kind → Option Kind
found word [] = None
found word (k ∷ ks) = cond (bytes_eq word (word_of_kind k)) (Some k) (found word ks)

-- all kinds of lines
abbrev pub all_kinds : List Kind
all_kinds =
    Slots ∷ Words ∷ In ∷ Out ∷ Load ∷ Store ∷ End ∷ Apply Set ∷ Apply Add ∷ Apply Sub ∷ Apply Mul ∷ Apply And ∷ Apply Or ∷ Apply Xor
    ∷ Apply Neg ∷ Apply Min ∷ Apply Max ∷ Apply Sel ∷ Apply Mad ∷ []

pub kind_found : (k : Kind) → IsKind k → found (word_of_kind k) all_kinds ≡ Some k
kind_found Slots ok = refl
kind_found Words ok = refl
kind_found In ok = refl
kind_found Out ok = refl
kind_found Load ok = refl
kind_found Store ok = refl
kind_found End ok = refl
kind_found (Apply Input) ok = absurd (ok refl)
kind_found (Apply Set) ok = refl
kind_found (Apply Add) ok = refl
kind_found (Apply Sub) ok = refl
kind_found (Apply Mul) ok = refl
kind_found (Apply And) ok = refl
kind_found (Apply Or) ok = refl
kind_found (Apply Xor) ok = refl
kind_found (Apply Neg) ok = refl
kind_found (Apply Min) ok = refl
kind_found (Apply Max) ok = refl
kind_found (Apply Sel) ok = refl
kind_found (Apply Mad) ok = refl

passed_one : (word : List ℕ) (kinds : List Kind) (n : ℕ) → n < length kinds → bytes_eq word (word_of_kind (get_or kinds n Slots)) ≡ false → found word (drop (suc n) kinds) ≡ found word (drop n kinds)
passed_one word [] n h e = absurd (omega arith)
passed_one word (k ∷ ks) zero h e = sym (ap (λ b. cond b (Some k) (found word ks)) e)
passed_one word (k ∷ ks) (suc n) h e = passed_one word ks n (omega arith) e

-- a kind whose word is another is passed over
pub passed_over : (word : List ℕ) (kinds : List Kind) (n : ℕ) → n < length kinds → bytes_eq word (word_of_kind (get_or kinds n Slots)) ≡ false → found word (drop (n + 1) kinds) ≡ found word (drop n kinds)
passed_over word kinds n h e = let next : n + 1 ≡ suc n = omega arith in ap (λ k. found word (drop k kinds)) next ∙ passed_one word kinds n h e

some_same : (k j : Kind) → Some k ≡ Some j → k ≡ j
some_same k j e = cc

pub kind_same : (k j : Kind) → IsKind k → IsKind j → word_of_kind k ≡ word_of_kind j → k ≡ j
kind_same k j a b e = some_same k j (sym (kind_found k a) ∙ ap (λ w. found w all_kinds) e ∙ kind_found j b)

-- the first word has no space and no line feed, and does not begin a comment
pub plain : (k : Kind) → (has 32 (word_of_kind k) ≡ false) × (has 10 (word_of_kind k) ≡ false) × ((rest : List ℕ) → is_comment (word_of_kind k ++ rest) ≡ false)
plain Slots = (refl, refl, λ rest. refl)
plain Words = (refl, refl, λ rest. refl)
plain In = (refl, refl, λ rest. refl)
plain Out = (refl, refl, λ rest. refl)
plain Load = (refl, refl, λ rest. refl)
plain Store = (refl, refl, λ rest. refl)
plain End = (refl, refl, λ rest. refl)
plain (Apply Input) = (refl, refl, λ rest. refl)
plain (Apply Set) = (refl, refl, λ rest. refl)
plain (Apply Add) = (refl, refl, λ rest. refl)
plain (Apply Sub) = (refl, refl, λ rest. refl)
plain (Apply Mul) = (refl, refl, λ rest. refl)
plain (Apply And) = (refl, refl, λ rest. refl)
plain (Apply Or) = (refl, refl, λ rest. refl)
plain (Apply Xor) = (refl, refl, λ rest. refl)
plain (Apply Neg) = (refl, refl, λ rest. refl)
plain (Apply Min) = (refl, refl, λ rest. refl)
plain (Apply Max) = (refl, refl, λ rest. refl)
plain (Apply Sel) = (refl, refl, λ rest. refl)
plain (Apply Mad) = (refl, refl, λ rest. refl)
