-- A list of 256 numbers below 256 without two equal ones has an inverse.
use Rattle.std.proofs.Common.{◌≡◌, ℕ, ◌+◌, ◌<◌, ◌≤◌, Bool, true, false, List, length, get_or, inl, inr, refl, sym, ap, ◌∙◌, subst, arith}
use Rattle.std.specs.FinSet.{contains, empty, insert}
use Rattle.std.proofs.Math.ListN.{set as put}
use Rattle.std.proofs.lemmas.Bool.{cases_lt}
use Rattle.std.proofs.lemmas.List.{get_or-set_same, get_or-set_other, length-set, get_or_past}
use Rattle.std.proofs.lemmas.Grind.{get_or_default_zero}
use Rattle.comp_graph.specs.Vertices.{Vertices, ◌∈◌, ◌∉◌, size, set_below}
use Rattle.comp_graph.specs.Sets.{membership}
use Rattle.comp_graph.proofs.Sets.{insert_cases, in_insert, in_insert_same, size_empty, size_insert_new, size_set_below, count_below_le, same_from_size, in_set_below}
use Rattle.window_laws.specs.Images.{renaming_of}
use Rattle.window_images.specs.Permutations.{IsPermutation, IsUndone, ArePermutationParts, IsRenamingBy}
use Rattle.window_images.specs.Making.{IsTwice, IsInverse}

-- a number at one of the first k places, with that place
pub record IsFrom (xs : List ℕ) (k w : ℕ) : Type 0 where
  pub place : ℕ
  pub early : place < k
  pub is : get_or xs place 0 ≡ w

-- the numbers at the first k places are the members of a set, none is twice there, and another list has the place of each
pub record AreMet (xs : List ℕ) (k : ℕ) (met : Vertices) (back : List ℕ) : Type 0 where
  pub long : length back ≡ 256
  pub many : size met ≡ k
  pub member : (u : ℕ) → u < k → get_or xs u 0 ∈ met
  pub undone : (u : ℕ) → u < k → get_or back (get_or xs u 0) 0 ≡ u
  pub from : (w : ℕ) → w ∈ met → IsFrom xs k w

abbrev none : Vertices
none = empty

none_has : (v : ℕ) → v ∈ none → ⊥
none_has v h = grind (arith, membership)

pub none_met : (xs back : List ℕ) (met : Vertices) → met ≡ empty → length back ≡ 256 → AreMet xs 0 met back
none_met xs back met e long = record {
  long = long;
  many = ap size e ∙ size_empty;
  member = λ u h. absurd (omega (arith, h));
  undone = λ u h. absurd (omega (arith, h));
  from = λ w h. absurd (none_has w (subst (λ s. w ∈ s) e h));
}

out_of : (b : Bool) → b ≡ true → b ≡ false → ⊥
out_of b t f = let clash : true ≡ false = sym t ∙ f in cc

pub one_met : (xs back : List ℕ) (k : ℕ) (met more : Vertices) (left : List ℕ) → AreMet xs k met back → length xs ≡ 256 → get_or xs k 0 < 256
    → get_or xs k 0 ∉ met → more ≡ insert met (get_or xs k 0) → left ≡ put back (get_or xs k 0) k → AreMet xs (k + 1) more left
one_met xs back k met more left are long small fresh more_is left_is =
    let w : ℕ = get_or xs k 0 in
    subst (λ s. AreMet xs (k + 1) s left) (sym more_is) (subst (AreMet xs (k + 1) (insert met w)) (sym left_is) (record {
      long = length-set back w k ∙ are.long;
      many = size_insert_new met w fresh ∙ ap (λ n. n + 1) are.many;
      member = λ u h. elim (cases_lt u k) [
        | inl l ↦ in_insert met w (get_or xs u 0) (are.member u l)
        | inr g ↦ let e : u ≡ k = omega (arith, h, g) in subst (λ v. get_or xs v 0 ∈ insert met w) (sym e) (in_insert_same met w)
      ];
      undone = λ u h. elim (cases_lt u k) [
        | inl l ↦
            get_or-set_other back w (get_or xs u 0) k 0 (λ e. out_of (contains met w) (subst (λ x. x ∈ met) e (are.member u l)) fresh)
            ∙ are.undone u l
        | inr g ↦
            let e : u ≡ k = omega (arith, h, g) in
            ap (λ v. get_or (put back w k) (get_or xs v 0) 0) e ∙ get_or-set_same back w k 0 (omega (arith, small, are.long)) ∙ sym e
      ];
      from = λ x h. elim (insert_cases met w x h) [
        | inl e ↦ record { place = k; early = omega arith; is = sym e }
        | inr m ↦ let old = are.from x m in record { place = old.place; early = omega (arith, old.early); is = old.is }
      ];
    }))

-- the number was there before
pub twice_met : (xs back : List ℕ) (k : ℕ) (met : Vertices) → AreMet xs k met back → length xs ≡ 256 → k < 256 → get_or xs k 0 ∈ met → IsTwice xs
twice_met xs back k met are long small again =
    let old = are.from (get_or xs k 0) again in
    record { first = old.place; second = k; apart = old.early; within = omega (arith, small, long); same = old.is }

-- all the numbers are in the set, because there are 256 of them
pub all_met : (xs back : List ℕ) (met : Vertices) → AreMet xs 256 met back → ((v : ℕ) → v < 256 → get_or xs v 0 < 256) → IsInverse xs back
all_met xs back met are small =
    let all : ℕ → Bool = λ _. true in
    let within : (w : ℕ) → w ∈ met → w ∈ set_below all 256 =
    (λ w h. let old = are.from w h in in_set_below 256 all w (subst (λ x. x < 256) old.is (small old.place old.early)) refl) in
    let whole : met ≡ set_below all 256 =
    same_from_size met (set_below all 256) within (omega (arith, are.many, size_set_below all 256, count_below_le all 256)) in
    let place : (w : ℕ) → w < 256 → IsFrom xs 256 w = (λ w h. are.from w (subst (λ s. w ∈ s) (sym whole) (in_set_below 256 all w h refl))) in
    let back_of : (w : ℕ) (h : w < 256) → get_or back w 0 ≡ (place w h).place =
    (λ w h. sym (ap (λ x. get_or back x 0) (place w h).is) ∙ are.undone (place w h).place (place w h).early) in
    record {
      all_there = are.long;
      below = small;
      below_back = λ w h. subst (λ x. x < 256) (sym (back_of w h)) (place w h).early;
      there_back = λ w h. ap (λ x. get_or xs x 0) (back_of w h) ∙ (place w h).is;
      back_there = are.undone;
    }

-- ---- a list, and the same with each further number at its own place

module _ (list whole : List ℕ) (short : length list ≤ 256) (long : length whole ≡ 256)
    (each : (v : ℕ) → v < 256 → get_or whole v 0 ≡ get_or list v v) where
  inside : (v : ℕ) → v < length list → get_or whole v 0 ≡ get_or list v 0
  inside v h = each v (omega (arith, h, short)) ∙ get_or_default_zero list v v h

  beyond : (v : ℕ) → v < 256 → length list ≤ v → get_or whole v 0 ≡ v
  beyond v small past = each v small ∙ get_or_past list v v past

  -- if the longer list has a number twice, the list is no permutation
  pub twice_is_none : IsTwice whole → IsPermutation list → ⊥
  twice_is_none twice is =
      let a : ℕ = twice.first in
      let b : ℕ = twice.second in
      let b_small : b < 256 = omega (arith, twice.within, long) in
      elim (cases_lt b (length list)) [
        | inl b_in ↦
            let a_in : a < length list = omega (arith, twice.apart, b_in) in
            let e : a ≡ b = is.once a b a_in b_in (sym (inside a a_in) ∙ twice.same ∙ inside b b_in) in
            omega (arith, twice.apart, e)
        | inr b_out ↦
            elim (cases_lt a (length list)) [
              | inl a_in ↦
                  let low = is.below a a_in in
                  let e : get_or list a 0 ≡ b = sym (inside a a_in) ∙ twice.same ∙ beyond b b_small b_out in
                  omega (arith, low, e, b_out)
              | inr a_out ↦
                  let e : a ≡ b = sym (beyond a (omega (arith, twice.apart, b_small)) a_out) ∙ twice.same ∙ beyond b b_small b_out in
                  omega (arith, twice.apart, e)
            ]
      ]

  module _ (back : List ℕ) (are : IsInverse whole back) where
    same_place : (v w : ℕ) → v < 256 → w < 256 → get_or whole v 0 ≡ get_or whole w 0 → v ≡ w
    same_place v w v_small w_small e = sym (are.back_there v v_small) ∙ ap (λ x. get_or back x 0) e ∙ are.back_there w w_small

    permutation : IsPermutation list
    permutation = record {
      below = λ v h.
          let v_small : v < 256 = omega (arith, h, short) in
          let e = inside v h in
          elim (cases_lt (get_or whole v 0) (length list)) [
            | inl l ↦ omega (arith, l, e)
            | inr g ↦
                let small = are.below v v_small in
                let kept = same_place (get_or whole v 0) v small v_small (beyond (get_or whole v 0) small g) in
                absurd (omega (arith, kept, g, h))
          ];
      once = λ v w v_in w_in e.
          same_place v w (omega (arith, v_in, short)) (omega (arith, w_in, short)) (inside v v_in ∙ e ∙ sym (inside w w_in));
    }

    at_there : (v : ℕ) → v < 256 → get_or whole v v ≡ get_or whole v 0
    at_there v h = get_or_default_zero whole v v (omega (arith, h, long))

    at_back : (v : ℕ) → v < 256 → get_or back v v ≡ get_or back v 0
    at_back v h = get_or_default_zero back v v (omega (arith, h, are.all_there))

    past_there : (v : ℕ) → 256 ≤ v → get_or whole v v ≡ v
    past_there v h = get_or_past whole v v (omega (arith, h, long))

    past_back : (v : ℕ) → 256 ≤ v → get_or back v v ≡ v
    past_back v h = get_or_past back v v (omega (arith, h, are.all_there))

    undone : IsUndone (renaming_of whole back)
    undone = record {
      there_back = λ v. elim (cases_lt v 256) [
        | inl h ↦ ap (λ x. get_or whole x x) (at_back v h) ∙ at_there (get_or back v 0) (are.below_back v h) ∙ are.there_back v h
        | inr h ↦ ap (λ x. get_or whole x x) (past_back v h) ∙ past_there v h
      ];
      back_there = λ v. elim (cases_lt v 256) [
        | inl h ↦ ap (λ x. get_or back x x) (at_there v h) ∙ at_back (get_or whole v 0) (are.below v h) ∙ are.back_there v h
        | inr h ↦ ap (λ x. get_or back x x) (past_there v h) ∙ past_back v h
      ];
    }

    pub are_parts : ArePermutationParts (record { there = whole; back = back })
    are_parts = record { all_there = long; all_back = are.all_there; undone = undone }

    pub is_renaming_by : IsRenamingBy list (record { there = whole; back = back })
    is_renaming_by = record {
      permutation = permutation;
      there = λ v. elim (cases_lt v 256) [
        | inl h ↦ at_there v h ∙ each v h
        | inr h ↦ past_there v h ∙ sym (get_or_past list v v (omega (arith, h, short)))
      ];
      undone = undone;
    }
