-- The operands of an operation, one after another to the end of a line.
use Rattle.std.proofs.Common.{◌≡◌, ◌≢◌, ℕ, zero, suc, ◌<◌, ◌≤◌, List, [], ◌∷◌, map, take, drop, length, get_or, refl, sym, ap, ◌∙◌, subst, arith, length-drop}
use Rattle.std.specs.List.{All}
use Rattle.std.proofs.lemmas.List.Elements.{All-nil, All-cons, All-head, All-take, All-drop}
use Rattle.comp_graph.specs.declared.operation.Op.{Op}
use Rattle.comp_graph.specs.declared.operation.Op.TheVariants.{Input, Set, Add, Sub, Mul, And, Or, Xor, Neg, Min, Max, Sel, Mad}
use Rattle.comp_graph.specs.Operations.{arity_of}
use Rattle.scratch_machine.specs.declared.code.Source.{Source}
use Rattle.scratch_machine.specs.declared.code.Source.TheVariants.{Slot, Const}
use Rattle.scratch_machine.specs.Codes.{IsSource, IsConstant, IsApply}
use Rattle.line_texts.specs.Words.{IsWord, after_spaces, HasNoNext, IsNext}
use Rattle.line_texts.proofs.Cuts.{same_tail, same_words, ends_after}
use Rattle.scratch_code.specs.CodeText.{operand_text}
use Rattle.scratch_code.specs.CodeTexts.{HasSmallConstant}
use Rattle.scratch_code.specs.Items.{IsOperand, AreOperands}
use Rattle.scratch_code.proofs.Spellings.{operand_has_not, operands_have_not, operands_from, operands_same, args_same}

-- the first n operands, each after a space
abbrev pub texts : ℕ → List Source → List ℕ
texts n args = after_spaces (map operand_text (take n args))

abbrev pub HasNoOperand : List ℕ → Type 0
HasNoOperand = HasNoNext operand_text IsOperand

abbrev pub IsBehindOperand : List ℕ → Source → List ℕ → Type 0
IsBehindOperand = IsNext operand_text IsOperand

operand_is_word : (a : Source) → IsOperand a → IsWord (operand_text a)
operand_is_word a h = operand_has_not 32 (omega arith) a h

no_first : (n : ℕ) (args : List Source) (rest : List ℕ) → 0 < n → 0 < length args → All IsOperand args → HasNoOperand rest → rest ≡ texts n args → ⊥
no_first zero args rest p q all none e = absurd (omega arith)
no_first (suc n) [] rest p q all none e = absurd (omega arith)
no_first (suc n) (a ∷ args) rest p q all none e = none a (texts n args) (All-head IsOperand a args all) (ends_after (map operand_text (take n args))) e

behind_first : (n : ℕ) (args : List Source) (rest : List ℕ) (first : Source) (more : List ℕ) → 0 < length args → All IsOperand args → IsBehindOperand rest first more → rest ≡ texts (suc n) args → more ≡ texts n (drop 1 args)
behind_first n [] rest first more q all at e = absurd (omega arith)
behind_first n (a ∷ args) rest first more q all at e =
    (same_tail rest (operand_text first) more (operand_text a) (texts n args) at.0 (operand_is_word first at.1) at.2
    (operand_is_word a (All-head IsOperand a args all)) (ends_after (map operand_text (take n args))) e).1

-- an operation takes at most three operands
pub few_operands : (op : Op) → arity_of op ≤ 3
few_operands Input = omega arith
few_operands Set = omega arith
few_operands Add = omega arith
few_operands Sub = omega arith
few_operands Mul = omega arith
few_operands And = omega arith
few_operands Or = omega arith
few_operands Xor = omega arith
few_operands Neg = omega arith
few_operands Min = omega arith
few_operands Max = omega arith
few_operands Sel = omega arith
few_operands Mad = omega arith

-- an operation of code takes at least one
some_operand : (op : Op) → op ≢ Input → 0 < arity_of op
some_operand Input ne = absurd (ne refl)
some_operand Set ne = omega arith
some_operand Add ne = omega arith
some_operand Sub ne = omega arith
some_operand Mul ne = omega arith
some_operand And ne = omega arith
some_operand Or ne = omega arith
some_operand Xor ne = omega arith
some_operand Neg ne = omega arith
some_operand Min ne = omega arith
some_operand Max ne = omega arith
some_operand Sel ne = omega arith
some_operand Mad ne = omega arith

pub some_arity : (op : Op) → op ≢ Input → (0 < arity_of op) × (arity_of op ≤ 3)
some_arity op ne = (some_operand op ne, few_operands op)

module _ (op : Op) (args : List Source) (ok : AreOperands op args) where
  some_args : 0 < length args
  some_args = (let three = ok.three in omega arith)

  left : length (drop 1 args) ≡ 2
  left = (let three = ok.three in omega (arith, length-drop 1 args))

  last : length (drop 1 (drop 1 args)) ≡ 1
  last = (let two = left in omega (arith, length-drop 1 (drop 1 args)))

  pub none_at_first : (rest : List ℕ) → op ≢ Input → HasNoOperand rest → rest ≡ texts (arity_of op) args → ⊥
  none_at_first rest ne none e = no_first (arity_of op) args rest (some_operand op ne) some_args ok.operands none e

  pub after_one : (rest : List ℕ) (first : Source) (more : List ℕ) (n : ℕ) → arity_of op ≡ suc n → IsBehindOperand rest first more → rest ≡ texts (arity_of op) args → more ≡ texts n (drop 1 args)
  after_one rest first more n a at e = behind_first n args rest first more some_args ok.operands at (e ∙ ap (λ k. texts k args) a)

  pub after_two : (rest : List ℕ) (first second : Source) (more end : List ℕ) (n : ℕ) → arity_of op ≡ suc (suc n) → IsBehindOperand rest first more → IsBehindOperand more second end → rest ≡ texts (arity_of op) args
      → end ≡ texts n (drop 1 (drop 1 args))
  after_two rest first second more end n a at next e =
      behind_first n (drop 1 args) more second end (let two = left in omega arith) (All-drop IsOperand 1 args ok.operands) next (after_one rest first more (suc n) a at e)

  pub after_three : (rest : List ℕ) (first second third : Source) (more next end : List ℕ) → arity_of op ≡ 3 → IsBehindOperand rest first more → IsBehindOperand more second next → IsBehindOperand next third end
      → rest ≡ texts (arity_of op) args → end ≡ []
  after_three rest first second third more next end a at behind behind_it e =
      behind_first 0 (drop 1 (drop 1 args)) next third end (let one = last in omega arith) (All-drop IsOperand 1 (drop 1 args) (All-drop IsOperand 1 args ok.operands)) behind_it
      (after_two rest first second more next 1 a at behind e)

  pub none_at_second : (rest : List ℕ) (first : Source) (more : List ℕ) → op ≢ Input → arity_of op ≢ 1 → IsBehindOperand rest first more → HasNoOperand more → rest ≡ texts (arity_of op) args → ⊥
  none_at_second rest first more ne not_one at none e =
      let some = some_arity op ne in
      at_arity (arity_of op) refl some.0
    where
      at_arity : (n : ℕ) → arity_of op ≡ n → 0 < n → ⊥
      at_arity zero a p = absurd (omega arith)
      at_arity (suc n) a p =
          no_first n (drop 1 args) more (omega arith) (let two = left in omega arith) (All-drop IsOperand 1 args ok.operands) none (after_one rest first more n a at e)

  pub none_at_third : (rest : List ℕ) (first second : Source) (more end : List ℕ) → op ≢ Input → arity_of op ≢ 1 → arity_of op ≢ 2 → IsBehindOperand rest first more → IsBehindOperand more second end → HasNoOperand end → rest ≡ texts (arity_of op) args → ⊥
  none_at_third rest first second more end ne not_one not_two at next none e =
      let some = some_arity op ne in
      let three : arity_of op ≡ 3 = omega arith in
      no_first 1 (drop 1 (drop 1 args)) end (omega arith) (let one = last in omega arith) (All-drop IsOperand 1 (drop 1 args) (All-drop IsOperand 1 args ok.operands)) none
      (after_two rest first second more end 1 three at next e)

-- what code may have are operands
pub apply_operands : (op : Op) (s : ℕ) (args : List Source) → IsApply 64 op s args → All HasSmallConstant args → AreOperands op args
apply_operands op s args h small = record { three = h.three; operands = operands_from args h.operands small; rest = h.rest }

source_of : (a : Source) → IsOperand a → IsSource 64 a
source_of (Slot k) h = h
source_of (Const z) h = tt

small_of : (a : Source) → IsOperand a → HasSmallConstant a
small_of (Slot k) h = tt
small_of (Const z) h = h

constant_first : (op : Op) (args : List Source) → length args ≡ 3 → (op ≡ Set → IsConstant (get_or args 0 (Slot 0))) → op ≡ Set → All IsConstant (take (arity_of op) args)
constant_first op [] three c e = absurd (omega arith)
constant_first op (a ∷ args) three c e = subst (λ o. All IsConstant (take (arity_of o) (a ∷ args))) (sym e) (All-cons IsConstant a [] (c e) (All-nil IsConstant))

pub operands_apply : (op : Op) (s : ℕ) (args : List Source) → op ≢ Input → s < 64 → AreOperands op args → (op ≡ Set → IsConstant (get_or args 0 (Slot 0))) → IsApply 64 op s args × All HasSmallConstant args
operands_apply op s args ne below ok c = (
  record {
    no_input = ne;
    within = below;
    three = ok.three;
    operands = λ k d h. source_of _ (ok.operands k d h);
    rest = ok.rest;
    set_constant = constant_first op args ok.three c;
  },
  λ k d h. small_of _ (ok.operands k d h),
)

first_constant : (op : Op) (args : List Source) → length args ≡ 3 → op ≡ Set → All IsConstant (take (arity_of op) args) → IsConstant (get_or args 0 (Slot 0))
first_constant op [] three e all = absurd (omega arith)
first_constant op (a ∷ args) three e all = All-head IsConstant a [] (subst (λ o. All IsConstant (take (arity_of o) (a ∷ args))) e all)

-- operands stand on a line in one way
pub same_operands : (op : Op) (xs ys : List Source) → AreOperands op xs → AreOperands op ys → texts (arity_of op) xs ≡ texts (arity_of op) ys → xs ≡ ys
same_operands op xs ys a b e =
    let n = arity_of op in
    let words = same_words (map operand_text (take (arity_of op) xs)) (map operand_text (take (arity_of op) ys))
    (operands_have_not 32 (omega arith) (take (arity_of op) xs) (All-take IsOperand (arity_of op) xs a.operands))
    (operands_have_not 32 (omega arith) (take (arity_of op) ys) (All-take IsOperand (arity_of op) ys b.operands)) e in
    args_same (arity_of op) xs ys (a.three ∙ sym b.three)
    (operands_same (take (arity_of op) xs) (take (arity_of op) ys) (All-take IsOperand (arity_of op) xs a.operands) (All-take IsOperand (arity_of op) ys b.operands) words) a.rest b.rest

-- where the operands that are there may not begin the operation, none that code may have are there
pub not_allowed : (op : Op) (s : ℕ) (args others : List Source) → AreOperands op args → op ≡ Set → (IsConstant (get_or args 0 (Slot 0)) → ⊥) → IsApply 64 op s others → All HasSmallConstant others
    → texts (arity_of op) args ≡ texts (arity_of op) others → ⊥
not_allowed op s args others ok set never h small e =
    let same = same_operands op args others ok (apply_operands op s others h small) e in
    never (subst (λ xs. IsConstant (get_or xs 0 (Slot 0))) (sym same) (first_constant op others h.three set (h.set_constant set)))
