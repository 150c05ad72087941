-- The order of positions: no two positions are equal in it.
use Rattle.std.proofs.Common.{◌≡◌, ℕ, zero, suc, inl, inr, take, drop, ◌*◌, ◌+◌, ◌/◌, ◌%◌, ◌<◌, Bool, true, false, cond, ◌↔◌, refl, sym, ap, ◌∙◌, arith}
use Rattle.std.specs.declared.cmp.Ordering.{Ordering}
use Rattle.std.specs.declared.cmp.Ordering.TheVariants.{Equal}
use Rattle.std.specs.FinSet.{contains, slice_cmp-IsAntisymmetric, nat_cmp-IsAntisymmetric}
use Rattle.std.specs.Int.{bit_at}
use Rattle.std.proofs.lemmas.Cmp.{tied_itself, nat_list_cmp_total}
use Rattle.std.proofs.lemmas.Bool.{false_from_ne_true, cases_lt}
use Rattle.comp_graph.specs.Vertices.{Vertices, AllBelow}
use Rattle.comp_graph.specs.Words.{word_of, words_of}
use Rattle.comp_graph.specs.WordLaws.{bit_at-word_of}
use Rattle.comp_graph.specs.Sets.{same}
use Rattle.pebble_rules.specs.declared.position.Position.{Position}
use Rattle.pebble_rules.specs.Positions.{position_words, position_order}

abbrev bit : Bool → ℕ
bit b = cond b 1 0

same_bit : (a b : Bool) → bit a ≡ bit b → a ≡ b
same_bit true true e = refl
same_bit true false e = absurd (omega arith)
same_bit false true e = absurd (omega arith)
same_bit false false e = refl

-- sets with the same words have the same members below 256
same_members_in_word : (s t : Vertices) (k i : ℕ) → i < 64 → word_of s k ≡ word_of t k → contains s (k * 64 + i) ≡ contains t (k * 64 + i)
same_members_in_word s t k i h e = same_bit _ _ (sym (bit_at-word_of s k i h) ∙ ap (λ w. bit_at w i) e ∙ bit_at-word_of t k i h)

same_word : (s t : Vertices) → words_of s ≡ words_of t → (k : ℕ) → k < 4 → word_of s k ≡ word_of t k
same_word s t e zero h = cc
same_word s t e (suc zero) h = cc
same_word s t e (suc (suc zero)) h = cc
same_word s t e (suc (suc (suc zero))) h = cc
same_word s t e (suc (suc (suc (suc k)))) h = absurd (omega arith)

same_members : (s t : Vertices) → words_of s ≡ words_of t → (v : ℕ) → v < 256 → contains s v ≡ contains t v
same_members s t e v h =
    let split : (v / 64) * 64 + v % 64 ≡ v = omega arith in
    ap (contains s) (sym split) ∙ same_members_in_word s t (v / 64) (v % 64) (omega arith) (same_word s t e (v / 64) (omega arith)) ∙ ap (contains t) split

-- sets of numbers below 256 with the same words are equal
pub same_from_words : (s t : Vertices) → AllBelow 256 s → AllBelow 256 t → words_of s ≡ words_of t → s ≡ t
same_from_words s t small_s small_t e = same s t (λ v. elim (cases_lt v 256) [
  | inl h ↦ same_members s t e v h
  | inr h ↦
      false_from_ne_true (contains s v) (λ m. absurd (omega (arith, small_s.below v m)))
      ∙ sym (false_from_ne_true (contains t v) (λ m. absurd (omega (arith, small_t.below v m))))
])

pub order_equal : (p q : Position) (r : Ordering) → AllBelow 256 p.red → AllBelow 256 p.blue → AllBelow 256 q.red → AllBelow 256 q.blue
    → r ≡ position_order p q → (r ≡ Equal) ↔ (p ≡ q)
order_equal p q r small_p_red small_p_blue small_q_red small_q_blue is = (
  λ e.
      let words : position_words p ≡ position_words q = slice_cmp-IsAntisymmetric nat_cmp-IsAntisymmetric (position_words p) (position_words q) (sym is ∙ e) in
      let red : p.red ≡ q.red = same_from_words p.red q.red small_p_red small_q_red (ap (take 4) words) in
      let blue : p.blue ≡ q.blue = same_from_words p.blue q.blue small_p_blue small_q_blue (ap (drop 4) words) in
      (λ i. record { red = red i; blue = blue i }),
  λ e. is ∙ ap (position_order p) (sym e) ∙ tied_itself nat_list_cmp_total (position_words p),
)
