-- Laws of sets of vertices that the model of `VertexSet` and its comparison rest on: what each call has, and when two sets are equal.
use Rattle.std.proofs.Common.{◌≡◌, ℕ, Bool, true, false, cond, not, zero, suc, ltb, eqb, ◌&&◌, ◌||◌, ◌↔◌, IsTrue, refl, sym, ap, ◌∙◌, arith}
use Rattle.std.specs.Ordering.{nat_cmp}
use Rattle.std.specs.Cmp.{nat_cmp_total, unsigned_tied, IsEquivalence}
use Rattle.std.specs.FinSet as set
use Rattle.std.specs.FinSet.{nat_cmp-IsAntisymmetric}
use Rattle.std.proofs.lemmas.Bool.{and_left, and_parts, and_from, le-ltb}
use Rattle.std.proofs.lemmas.Bool.Decides.{nat_tests}
use Rattle.comp_graph.specs.Vertices.{Vertices, IsWithin, set_below}

-- two sets with the same members are equal
pub same : (s t : Vertices) → ((v : ℕ) → set.contains s v ≡ set.contains t v) → s ≡ t
same = set.same_set nat_cmp_total nat_cmp-IsAntisymmetric

pub has_empty : (v : ℕ) → set.contains (set.empty {R = nat_cmp}) v ≡ false
has_empty v = set.contains-empty nat_cmp v

pub has_insert : (s : Vertices) (k v : ℕ) → set.contains (set.insert s k) v ≡ (eqb v k || set.contains s v)
has_insert s k v = set.contains-insert nat_cmp_total s k v ∙ ap (λ b. b || set.contains s v) (unsigned_tied v k)

pub has_remove : (s : Vertices) (k v : ℕ) → set.contains (set.remove s k) v ≡ (not (eqb v k) && set.contains s v)
has_remove s k v = set.contains-remove nat_cmp_total s k v ∙ ap (λ b. not b && set.contains s v) (unsigned_tied v k)

pub has_union : (s t : Vertices) (v : ℕ) → set.contains (set.union s t) v ≡ (set.contains s v || set.contains t v)
has_union = set.contains-union nat_cmp_total

pub has_both : (s t : Vertices) (v : ℕ) → set.contains (set.intersection s t) v ≡ (set.contains s v && set.contains t v)
has_both = set.contains-intersection nat_cmp_total

pub has_difference : (s t : Vertices) (v : ℕ) → set.contains (set.difference s t) v ≡ (set.contains s v && not (set.contains t v))
has_difference = set.contains-difference nat_cmp_total

-- what each call has: bind the facts at the point, then `grind (arith, membership)`
pub ruleset membership = (has_empty, has_insert, has_remove, has_union, has_both, has_difference, nat_tests)

-- ---- two sets that are within each other

pub is_subset-IsWithin : (s t : Vertices) → set.is_subset s t ≡ true → IsWithin s t
is_subset-IsWithin = set.is_subset-contains nat_cmp_total

pub IsWithin-is_subset : (s t : Vertices) → IsWithin s t → set.is_subset s t ≡ true
IsWithin-is_subset = set.contains-is_subset nat_cmp_total

pub same_from_within : (s t : Vertices) → IsWithin s t → IsWithin t s → s ≡ t
same_from_within s t there back = same s t (λ v. let a = there v in let b = back v in grind (arith, nat_tests))

-- whether two sets are one
abbrev pub same_members : Vertices → Vertices → Bool
same_members s t = set.is_subset s t && set.is_subset t s

pub same_members-true : (s t : Vertices) → same_members s t ≡ true → s ≡ t
same_members-true s t e =
    let both = and_parts (set.is_subset s t) (set.is_subset t s) e in
    same_from_within s t (is_subset-IsWithin s t both.0) (is_subset-IsWithin t s both.1)

pub same_members-itself : (s : Vertices) → same_members s s ≡ true
same_members-itself s = let all = IsWithin-is_subset s s (λ v e. e) in and_from _ _ all all

pub same_members-laws : IsEquivalence same_members
same_members-laws = record {
  refl = same_members-itself;
  symm = λ s t. turned (set.is_subset s t) (set.is_subset t s);
  congr = λ s t u e. ap (λ x. same_members x u) (same_members-true s t e);
}
  where
    turned : (a b : Bool) → (a && b) ≡ (b && a)
    turned true true = refl
    turned true false = refl
    turned false true = refl
    turned false false = refl

pub IsWithin-decided : (s t : Vertices) (r : Bool) → r ≡ set.is_subset s t → IsTrue r ↔ IsWithin s t
IsWithin-decided s t r e = (λ h. is_subset-IsWithin s t (sym e ∙ h), λ all. e ∙ IsWithin-is_subset s t all)

-- ---- the numbers below n that pass a test

below_next : (p : ℕ → Bool) (n v : ℕ) → p n ≡ true → (eqb v n || (ltb v n && p v)) ≡ (ltb v (suc n) && p v)
below_next p n v e = grind (arith, nat_tests)

below_same : (p : ℕ → Bool) (n v : ℕ) → p n ≡ false → (ltb v n && p v) ≡ (ltb v (suc n) && p v)
below_same p n v e = grind (arith, nat_tests)

pub has_set_below : (p : ℕ → Bool) (n v : ℕ) → set.contains (set_below p n) v ≡ (ltb v n && p v)
unfolding set_below
has_set_below p zero v = has_empty v ∙ sym (and_left (ltb v 0) (p v) (le-ltb v 0 (omega arith)))
has_set_below p (suc n) v =
    elim (p n) as (λ b. p n ≡ b → set.contains (cond b (set.insert (set_below p n) n) (set_below p n)) v ≡ (ltb v (suc n) && p v)) [
      | true ↦ λ e. has_insert (set_below p n) n v ∙ ap (λ b. eqb v n || b) (has_set_below p n v) ∙ below_next p n v e
      | false ↦ λ e. has_set_below p n v ∙ below_same p n v e
    ] refl
