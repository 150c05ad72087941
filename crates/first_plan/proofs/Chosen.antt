-- Of the members of a set, the one that is needed last.
use Rattle.std.proofs.Common.{◌≡◌, ℕ, ◌+◌, ◌≤◌, ◌<◌, ◌⊎◌, inl, inr, Bool, true, false, ◌&&◌, eqb, cond, refl, sym, ap, ◌∙◌, subst, arith}
use Rattle.std.proofs.lemmas.Bool.Decides.{nat_tests}
use Rattle.std.specs.FinSet as set
use Rattle.comp_graph.specs.Vertices.{Vertices, ◌∈◌, ◌∉◌, AllBelow, greatest_below}
use Rattle.comp_graph.specs.Dags.{Dag}
use Rattle.comp_graph.proofs.DagLaws.{greatest_below_at, greatest_below_some}
use Rattle.first_plan.specs.NextUses.{next_use}
use Rattle.first_plan.specs.Victims.{furthest_use, last_needed, IsLastNeeded}
use Rattle.first_plan.specs.Laws.{LastNeededIsLast}
use Rattle.first_plan.proofs.Passing.{greatest_passing-is}

-- the value of a member, and 0 for another number
abbrev pub value : Dag → ℕ → Vertices → ℕ → ℕ
value d v s u = cond (set.contains s u) (next_use d v u) 0

member_value : (d : Dag) (v : ℕ) (s : Vertices) (u : ℕ) → u ∈ s → value d v s u ≡ next_use d v u
member_value d v s u h = ap (λ b. cond b (next_use d v u) 0) h

value_member : (here : Bool) (n : ℕ) → 0 < cond here n 0 → (here ≡ true) × (cond here n 0 ≡ n)
value_member true n h = (refl, refl)
value_member false n h = absurd (omega arith)

-- no member's next use lies further
pub furthest_bounds : (d : Dag) (v : ℕ) (s : Vertices) (u : ℕ) → u < d.count → u ∈ s → next_use d v u ≤ furthest_use d v s
unfolding furthest_use
furthest_bounds d v s u l h = let most = greatest_below_at d.count u (value d v s) l in let is = member_value d v s u h in omega arith

-- a member's next use lies as far
record IsAttained (d : Dag) (v : ℕ) (s : Vertices) : Type 0 where
  at : ℕ
  below : at < d.count
  member : at ∈ s
  same : next_use d v at ≡ furthest_use d v s

zero_or_more : (n : ℕ) → (n ≡ 0) ⊎ (0 < n)
zero_or_more n = grind arith

attained : (d : Dag) (v : ℕ) (s : Vertices) (x : ℕ) → x < d.count → x ∈ s → IsAttained d v s
unfolding furthest_use
attained d v s x l h =
    elim (zero_or_more (greatest_below d.count (value d v s))) [
      | inl e ↦
          let most = greatest_below_at d.count x (value d v s) l in
          let is = member_value d v s x h in
          record { at = x; below = l; member = h; same = omega arith }
      | inr more ↦
          let some = greatest_below_some d.count (value d v s) more in
          let is = value_member (set.contains s some.0) (next_use d v some.0) (subst (λ n. 0 < n) (sym some.2) more) in
          record { at = some.0; below = some.1; member = is.0; same = sym is.1 ∙ some.2 }
    ]

-- the test that the one that is needed last passes
abbrev pub is_furthest : Dag → ℕ → Vertices → ℕ → Bool
is_furthest d v s u = set.contains s u && eqb (next_use d v u) (furthest_use d v s)

passes : (here : Bool) (a b : ℕ) → here ≡ true → a ≡ b → (here && eqb a b) ≡ true
passes here a b h e = grind (arith, nat_tests)

passed : (here : Bool) (a b : ℕ) → (here && eqb a b) ≡ true → (here ≡ true) × (a ≡ b)
passed here a b h = grind (arith, nat_tests)

pub last_needed_is_last : LastNeededIsLast
unfolding last_needed
last_needed_is_last d v s below x h =
    let one = attained d v s x (below.below x h) h in
    let is = greatest_passing-is d.count (is_furthest d v s) one.at one.below (passes _ _ _ one.member one.same) in
    let found = passed _ _ _ is.passes in
    record {
      member = found.0;
      furthest = λ y m. let most = furthest_bounds d v s y (below.below y m) m in let same = found.1 in omega arith;
      greatest = λ y m e. is.most y (below.below y m) (passes _ _ _ m (e ∙ found.1));
    }

-- there is one alone
pub last_needed-by : (d : Dag) (v : ℕ) (s : Vertices) → AllBelow d.count s → (u : ℕ) → IsLastNeeded d v s u → last_needed d v s ≡ u
last_needed-by d v s below u is =
    let other = last_needed_is_last d v s below u is.member in
    let a = is.furthest (last_needed d v s) other.member in
    let b = other.furthest u is.member in
    let same : next_use d v (last_needed d v s) ≡ next_use d v u = omega arith in
    let c = is.greatest (last_needed d v s) other.member same in
    let e = other.greatest u is.member (sym same) in
    omega arith

-- ---- the members below n, looked at one by one

-- `best` is the one of the members below n that is needed last, and `furthest` its next use; both are 0 where there is no member
pub record IsBestBelow (d : Dag) (v : ℕ) (s : Vertices) (n best furthest : ℕ) : Type 0 where
  pub none_further : (x : ℕ) → x < n → x ∈ s → next_use d v x ≤ furthest
  pub none_greater : (x : ℕ) → x < n → x ∈ s → next_use d v x ≡ furthest → x ≤ best
  pub some : (x : ℕ) → x < n → x ∈ s → (best ∈ s) × (next_use d v best ≡ furthest)
  pub more : 0 < furthest → (best ∈ s) × (next_use d v best ≡ furthest)

last_or_before : (n x : ℕ) → x < n + 1 → (x ≡ n) ⊎ (x < n)
last_or_before n x h = grind arith

pub best_none : (d : Dag) (v : ℕ) (s : Vertices) → IsBestBelow d v s 0 0 0
best_none d v s = record {
  none_further = λ x l h. absurd (omega arith);
  none_greater = λ x l h e. absurd (omega arith);
  some = λ x l h. absurd (omega arith);
  more = λ l. absurd (omega arith);
}

-- n is needed as late as the best so far, or later
pub best_next : (d : Dag) (v : ℕ) (s : Vertices) (n best furthest next : ℕ) → IsBestBelow d v s n best furthest → n ∈ s → next ≡ next_use d v n → furthest ≤ next
    → IsBestBelow d v s (n + 1) n next
best_next d v s n best furthest next before here e later = record {
  none_further = λ x l h. elim (last_or_before n x l) [
    | inl same ↦ let is = ap (next_use d v) same in omega arith
    | inr old ↦ let most = before.none_further x old h in omega arith
  ];
  none_greater = λ x l h same. omega arith;
  some = λ x l h. (here, sym e);
  more = λ l. (here, sym e);
}

-- it is needed earlier
pub best_kept : (d : Dag) (v : ℕ) (s : Vertices) (n best furthest next : ℕ) → IsBestBelow d v s n best furthest → next ≡ next_use d v n → next < furthest
    → IsBestBelow d v s (n + 1) best furthest
best_kept d v s n best furthest next before e earlier = record {
  none_further = λ x l h. elim (last_or_before n x l) [
    | inl same ↦ let is = ap (next_use d v) same in omega arith
    | inr old ↦ before.none_further x old h
  ];
  none_greater = λ x l h at. elim (last_or_before n x l) [
    | inl same ↦ let is = ap (next_use d v) same in absurd (omega arith)
    | inr old ↦ before.none_greater x old h at
  ];
  some = λ x l h. before.more (omega arith);
  more = before.more;
}

-- it is no member
pub best_passed : (d : Dag) (v : ℕ) (s : Vertices) (n best furthest : ℕ) → IsBestBelow d v s n best furthest → n ∉ s → IsBestBelow d v s (n + 1) best furthest
best_passed d v s n best furthest before out = record {
  none_further = λ x l h. before.none_further x (earlier x l h) h;
  none_greater = λ x l h at. before.none_greater x (earlier x l h) h at;
  some = λ x l h. before.some x (earlier x l h) h;
  more = before.more;
}
  where
    earlier : (x : ℕ) → x < n + 1 → x ∈ s → x < n
    earlier x l h = elim (last_or_before n x l) [
      | inl same ↦ absurd (let clash : true ≡ false = sym h ∙ ap (set.contains s) same ∙ out in cc)
      | inr old ↦ old
    ]

pub best_at : (d : Dag) (v : ℕ) (s : Vertices) (n best furthest best′ furthest′ : ℕ) → best′ ≡ best → furthest′ ≡ furthest → IsBestBelow d v s n best furthest → IsBestBelow d v s n best′ furthest′
best_at d v s n best furthest best′ furthest′ e f h = subst (λ x. IsBestBelow d v s n x furthest′) (sym e) (subst (λ y. IsBestBelow d v s n best y) (sym f) h)

-- all are looked at
pub best_is : (d : Dag) (v : ℕ) (s : Vertices) (n best furthest x : ℕ) → IsBestBelow d v s n best furthest → AllBelow d.count s → d.count ≤ n → x ∈ s → IsLastNeeded d v s best
best_is d v s n best furthest x all below many h =
    let small : (y : ℕ) → y ∈ s → y < n = λ y m. (let l = below.below y m in omega arith) in
    let one = all.some x (small x h) h in
    record {
      member = one.0;
      furthest = λ y m. let most = all.none_further y (small y m) m in let is = one.1 in omega arith;
      greatest = λ y m e. all.none_greater y (small y m) m (e ∙ one.1);
    }

pub best_victim : (d : Dag) (v : ℕ) (s : Vertices) (n best furthest x : ℕ) → IsBestBelow d v s n best furthest → AllBelow d.count s → d.count ≤ n → x ∈ s → best ≡ last_needed d v s
best_victim d v s n best furthest x all below many h = sym (last_needed-by d v s below best (best_is d v s n best furthest x all below many h))

pub best_use : (d : Dag) (v : ℕ) (s : Vertices) (n best furthest x : ℕ) → IsBestBelow d v s n best furthest → AllBelow d.count s → d.count ≤ n → x ∈ s → furthest ≡ next_use d v best
best_use d v s n best furthest x all below many h = sym (all.some x (let l = below.below x h in omega arith) h).1
