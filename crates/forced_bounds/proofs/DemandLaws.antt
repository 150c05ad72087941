-- What the pass over the needed vertices has found. The vertices from n on have been looked at.
use Rattle.std.proofs.Common.{◌≡◌, ℕ, suc, ◌≤◌, ◌<◌, Bool, true, not, ◌&&◌, ◌||◌, Option, Some, None, MatchOption, is_some, ◌⊎◌, inl, inr, refl, sym, ◌∙◌, subst, arith}
use Rattle.std.specs.FinSet.{empty, contains, union, difference}
use Rattle.comp_graph.specs.Vertices.{Vertices, ◌∈◌, ◌∉◌, IsWithin, AllBelow, IsLeast as IsLeastMember}
use Rattle.comp_graph.specs.Dags.{Dag, IsDag}
use Rattle.comp_graph.specs.Sets.{membership, same}
use Rattle.comp_graph.proofs.Sets.{difference_first, difference_second, in_set_below, set_below_parts}
use Rattle.comp_graph.proofs.DagLaws.{both, either, or-true, and-true, any_below_at, any_below_some}
use Rattle.pebble_rules.specs.declared.position.Position.{Position}
use Rattle.forced_bounds.specs.Floor.{needed, wanted}
use Rattle.forced_bounds.specs.Least.{HoldsNeeded}
use Rattle.forced_bounds.proofs.Paths.{same_test, not_true, true_not}
use Rattle.forced_bounds.proofs.Sets.{needed_is_least}

pub record IsSwept (g : Dag) (p : Position) (n : ℕ) (found read : Vertices) : Type 0 where
  pub least : (t : Vertices) → HoldsNeeded g p t → IsWithin found t
  pub starts : (v : ℕ) → v ∈ g.outputs → v ∉ union p.red p.blue → v ∈ found
  pub closed : (v u : ℕ) → n ≤ v → v ∈ found → u ∈ g.preds v → u ∉ union p.red p.blue → u ∈ found
  pub read_by : (u : ℕ) → u ∈ read → (v : ℕ) × (v ∈ found) × (u ∈ g.preds v)
  pub reads : (v u : ℕ) → n ≤ v → v ∈ found → u ∈ g.preds v → u ∈ read

-- ---- members of unions and differences

in_union_first : (s t : Vertices) (u : ℕ) → u ∈ s → u ∈ union s t
in_union_first s t u h = grind (arith, membership)

in_union_second : (s t : Vertices) (u : ℕ) → u ∈ t → u ∈ union s t
in_union_second s t u h = grind (arith, membership)

in_difference : (s t : Vertices) (u : ℕ) → u ∈ s → u ∉ t → u ∈ difference s t
in_difference s t u h out = grind (arith, membership)

union_cases : (s t : Vertices) (u : ℕ) → u ∈ union s t → (u ∈ s) ⊎ (u ∈ t)
union_cases s t u h = grind (arith, membership)

-- a member of the first set, or of what the second has and the third has not
added_cases : (s t p : Vertices) (u : ℕ) → u ∈ union s (difference t p) → (u ∈ s) ⊎ ((u ∈ t) × (u ∉ p))
added_cases s t p u h = elim (union_cases s (difference t p) u h) [ inl here ↦ inl here | inr more ↦ inr (difference_first t p u more, difference_second t p u more) ]

in_and_out : (s : Vertices) (u : ℕ) → u ∈ s → u ∉ s → ⊥
in_and_out s u h out = grind arith

not_in_empty : (s : Vertices) → s ≡ empty → (v : ℕ) → v ∈ s → ⊥
not_in_empty s e v h = let none = subst (λ s. v ∈ s) e h in grind (arith, membership)

or_left : (a b : Bool) → a ≡ true → (a || b) ≡ true
or_left a b h = grind arith

-- ---- the pass

pub swept_start : (g : Dag) → IsDag g → (p : Position) (found read : Vertices) → found ≡ difference g.outputs (union p.red p.blue) → read ≡ empty → IsSwept g p g.count found read
swept_start g dag p found read e f = record {
  least = λ t holds v h. holds.outputs v (out_of v (here v h)) (bare_of v (here v h));
  starts = λ v out bare. subst (λ s. v ∈ s) (sym e) (in_difference g.outputs (union p.red p.blue) v out bare);
  closed = λ v u far h. absurd (too_far v far h);
  read_by = λ u h. absurd (not_in_empty read f u h);
  reads = λ v u far h. absurd (too_far v far h);
}
  where
    here : (v : ℕ) → v ∈ found → v ∈ difference g.outputs (union p.red p.blue)
    here v h = subst (λ s. v ∈ s) e h

    out_of : (v : ℕ) → v ∈ difference g.outputs (union p.red p.blue) → v ∈ g.outputs
    out_of v h = difference_first g.outputs (union p.red p.blue) v h

    bare_of : (v : ℕ) → v ∈ difference g.outputs (union p.red p.blue) → v ∉ union p.red p.blue
    bare_of v h = difference_second g.outputs (union p.red p.blue) v h

    too_far : (v : ℕ) → g.count ≤ v → v ∈ found → ⊥
    too_far v far h = let below = dag.outputs_are_vertices v (out_of v (here v h)) in omega arith

equal_or_more : (n v : ℕ) → n ≤ v → (n ≡ v) ⊎ (suc n ≤ v)
equal_or_more n v h = grind arith

-- vertex n is needed: its predecessors are read, and those without a pebble are needed
pub swept_in : (g : Dag) → IsDag g → (p : Position) (n : ℕ) (found read : Vertices) → IsSwept g p (suc n) found read → n ∈ found
    → IsSwept g p n (union found (difference (g.preds n) (union p.red p.blue))) (union read (g.preds n))
swept_in g dag p n found read swept h = record {
  least = λ t holds v i. by_least t holds v (cases v i);
  starts = λ v out bare. left v (swept.starts v out bare);
  closed = λ v u far i pred bare. elim (equal_or_more n v far) [
    | inl e ↦ right u (subst (λ v. u ∈ g.preds v) (sym e) pred) bare
    | inr more ↦ left u (swept.closed v u more (old v more (cases v i)) pred bare)
  ];
  read_by = λ u i. elim (read_cases u i) [
    | inl before ↦ let v = swept.read_by u before in (v.0, left v.0 v.1, v.2)
    | inr pred ↦ (n, left n h, pred)
  ];
  reads = λ v u far i pred. elim (equal_or_more n v far) [
    | inl e ↦ let here = subst (λ v. u ∈ g.preds v) (sym e) pred in in_union_second read (g.preds n) u here
    | inr more ↦ let before = swept.reads v u more (old v more (cases v i)) pred in in_union_first read (g.preds n) u before
  ];
}
  where
    left : (v : ℕ) → v ∈ found → v ∈ union found (difference (g.preds n) (union p.red p.blue))
    left v i = in_union_first found (difference (g.preds n) (union p.red p.blue)) v i

    right : (u : ℕ) → u ∈ g.preds n → u ∉ union p.red p.blue → u ∈ union found (difference (g.preds n) (union p.red p.blue))
    right u pred bare = in_union_second found (difference (g.preds n) (union p.red p.blue)) u (in_difference (g.preds n) (union p.red p.blue) u pred bare)

    cases : (v : ℕ) → v ∈ union found (difference (g.preds n) (union p.red p.blue)) → (v ∈ found) ⊎ ((v ∈ g.preds n) × (v ∉ union p.red p.blue))
    cases v i = added_cases found (g.preds n) (union p.red p.blue) v i

    by_least : (t : Vertices) → HoldsNeeded g p t → (v : ℕ) → (v ∈ found) ⊎ ((v ∈ g.preds n) × (v ∉ union p.red p.blue)) → v ∈ t
    by_least t holds v (inl i) = swept.least t holds v i
    by_least t holds v (inr pred) = holds.preds n v (swept.least t holds n h) pred.0 pred.1

    old : (v : ℕ) → suc n ≤ v → (v ∈ found) ⊎ ((v ∈ g.preds n) × (v ∉ union p.red p.blue)) → v ∈ found
    old v more (inl i) = i
    old v more (inr pred) = absurd (let less = dag.preds_below n v pred.0 in omega arith)

    read_cases : (u : ℕ) → u ∈ union read (g.preds n) → (u ∈ read) ⊎ (u ∈ g.preds n)
    read_cases u i = union_cases read (g.preds n) u i

-- vertex n is not needed
pub swept_out : (g : Dag) (p : Position) (n : ℕ) (found read : Vertices) → IsSwept g p (suc n) found read → n ∉ found → IsSwept g p n found read
swept_out g p n found read swept out = record {
  least = swept.least;
  starts = swept.starts;
  closed = λ v u far h pred bare. elim (equal_or_more n v far) [
    | inl e ↦ absurd (not_here v e h)
    | inr more ↦ swept.closed v u more h pred bare
  ];
  read_by = swept.read_by;
  reads = λ v u far h pred. elim (equal_or_more n v far) [
    | inl e ↦ absurd (not_here v e h)
    | inr more ↦ swept.reads v u more h pred
  ];
}
  where
    not_here : (v : ℕ) → n ≡ v → v ∈ found → ⊥
    not_here v e h = in_and_out found n (subst (λ v. v ∈ found) (sym e) h) out

pub swept_at : (g : Dag) (p : Position) (n m : ℕ) → n ≡ m → (s t : Vertices) → s ≡ t → (a b : Vertices) → a ≡ b → IsSwept g p n s a → IsSwept g p m t b
swept_at g p n m e s t f a b h swept = subst (λ m. IsSwept g p m t b) e (subst (λ t. IsSwept g p n t b) f (subst (λ b. IsSwept g p n s b) h swept))

-- ---- when all have been looked at

all_needed : (g : Dag) → IsDag g → (p : Position) (found read : Vertices) → IsSwept g p 0 found read → (v : ℕ) → contains found v ≡ contains (needed g p) v
all_needed g dag p found read swept v =
    let there = swept.least (needed g p) (needed_is_least g dag p).closed v in
    let back = (needed_is_least g dag p).least found holds v in
    same_test _ _ there back
  where
    holds : HoldsNeeded g p found
    holds = record { outputs = swept.starts; preds = λ v u h pred bare. swept.closed v u (omega arith) h pred bare }

pub needed_below : (g : Dag) (p : Position) (v : ℕ) → v ∈ needed g p → v < g.count
needed_below g p v h = (set_below_parts g.count _ v h).0

-- what is needed, and what it reads that is not red
pub swept_end : (g : Dag) → IsDag g → (p : Position) (found read : Vertices) → IsSwept g p 0 found read → union found (difference read p.red) ≡ wanted g p
swept_end g dag p found read swept =
    same (union found (difference read p.red)) (wanted g p) (λ u. same_test _ _ (to_wanted u) (from_wanted u))
  where
    is_needed : (v : ℕ) → v ∈ found → v ∈ needed g p
    is_needed v h = sym (all_needed g dag p found read swept v) ∙ h

    is_found : (v : ℕ) → v ∈ needed g p → v ∈ found
    is_found v h = all_needed g dag p found read swept v ∙ h

    cases : (u : ℕ) → u ∈ union found (difference read p.red) → (u ∈ found) ⊎ ((u ∈ read) × (u ∉ p.red))
    cases u h = added_cases found read p.red u h

    left : (u : ℕ) → u ∈ found → u ∈ union found (difference read p.red)
    left u h = in_union_first found (difference read p.red) u h

    right : (u : ℕ) → u ∈ read → u ∉ p.red → u ∈ union found (difference read p.red)
    right u h out = in_union_second found (difference read p.red) u (in_difference read p.red u h out)

    to_wanted : (u : ℕ) → u ∈ union found (difference read p.red) → u ∈ wanted g p
    to_wanted u h = elim (cases u h) [
      | inl here ↦ let need = is_needed u here in in_set_below g.count _ u (needed_below g p u need) (or_left (contains (needed g p) u) _ need)
      | inr pred ↦
          let v = swept.read_by u pred.0 in
          let need = is_needed v.0 v.1 in
          let below = needed_below g p v.0 need in
          let less = dag.preds_below v.0 u v.2 in
          in_set_below g.count _ u (omega arith)
          (or-true (contains (needed g p) u) _ (and-true (not (contains p.red u)) _ (true_not _ pred.1)
          (any_below_at g.count v.0 (λ v. contains (needed g p) v && contains (g.preds v) u) below (and-true _ _ need v.2))))
    ]

    from_wanted : (u : ℕ) → u ∈ wanted g p → u ∈ union found (difference read p.red)
    from_wanted u h = elim (either (contains (needed g p) u) _ ((set_below_parts g.count _ u h).1)) [
      | inl need ↦ left u (is_found u need)
      | inr reads ↦
          let parts = both (not (contains p.red u)) _ reads in
          let v = any_below_some g.count (λ v. contains (needed g p) v && contains (g.preds v) u) parts.1 in
          let pred = both (contains (needed g p) v.0) (contains (g.preds v.0) u) v.2 in
          right u (swept.reads v.0 u (omega arith) (is_found v.0 pred.0) pred.1) (not_true _ parts.0)
    ]

-- ---- how far up they lie

-- the members from n on are below the top
abbrev pub IsHigh : ℕ → Vertices → ℕ → Type 0
IsHigh n found top = (v : ℕ) → n ≤ v → v ∈ found → v < top

pub high_start : (g : Dag) → IsDag g → (p : Position) (found read : Vertices) (top : ℕ) → IsSwept g p g.count found read → found ≡ difference g.outputs (union p.red p.blue) → IsHigh g.count found top
high_start g dag p found read top swept e v far h =
    absurd (let below = dag.outputs_are_vertices v (difference_first g.outputs (union p.red p.blue) v (subst (λ s. v ∈ s) e h)) in omega arith)

pub high_in : (g : Dag) → IsDag g → (p : Position) (n top more : ℕ) (found : Vertices) → IsHigh (suc n) found top → top ≤ more → n < more → IsHigh n (union found (difference (g.preds n) (union p.red p.blue))) more
high_in g dag p n top more found high above here v far h = elim (equal_or_more n v far) [
  | inl e ↦ omega (arith, e)
  | inr beyond ↦ elim (union_cases found (difference (g.preds n) (union p.red p.blue)) v h) [
    | inl old ↦ let low = high v beyond old in omega arith
    | inr pred ↦ absurd (let less = dag.preds_below n v (difference_first (g.preds n) (union p.red p.blue) v pred) in omega arith)
  ]
]

pub high_out : (n top : ℕ) (found : Vertices) → IsHigh (suc n) found top → n ∉ found → IsHigh n found top
high_out n top found high out v far h = elim (equal_or_more n v far) [
  | inl e ↦ absurd (in_and_out found n (subst (λ v. v ∈ found) (sym e) h) out)
  | inr beyond ↦ high v beyond h
]

pub high_at : (n m : ℕ) → n ≡ m → (s t : Vertices) → s ≡ t → (top : ℕ) → IsHigh n s top → IsHigh m t top
high_at n m e s t f top high = subst (λ m. IsHigh m t top) e (subst (λ t. IsHigh n t top) f high)

pub high_end : (g : Dag) → IsDag g → (p : Position) (found read all : Vertices) (top : ℕ) → IsSwept g p 0 found read → IsHigh 0 found top → all ≡ union found (difference read p.red) → AllBelow top all
high_end g dag p found read all top swept high e = record {
  below = λ v h. elim (union_cases found (difference read p.red) v (subst (λ s. v ∈ s) e h)) [
    | inl here ↦ high v (omega arith) here
    | inr pred ↦
        let w = swept.read_by v (difference_first read p.red v pred) in
        let less = dag.preds_below w.0 v w.2 in
        let low = high w.0 (omega arith) w.1 in
        omega arith
  ];
}

-- ---- where nothing is needed

pub none_by_least : (o : Option ℕ) (r : Bool) (s : Vertices) → MatchOption o (s ≡ empty) (IsLeastMember s) → is_some o ≡ not r → r ≡ true → s ≡ empty
none_by_least None r s match is h = match
none_by_least (Some v) r s match is h = absurd (grind arith)

pub none_below : (s : Vertices) (top : ℕ) → s ≡ empty → AllBelow top s
none_below s top e = record { below = λ v h. absurd (not_in_empty s e v h) }

pub none_wanted : (g : Dag) → IsDag g → (p : Position) (found : Vertices) → found ≡ difference g.outputs (union p.red p.blue) → found ≡ empty → found ≡ wanted g p
none_wanted g dag p found e none =
    same found (union found (difference empty p.red)) (λ v. same_test _ _ (left v) (back v)) ∙ swept_end g dag p found empty (record {
      least = (swept_start g dag p found empty e refl).least;
      starts = (swept_start g dag p found empty e refl).starts;
      closed = λ v u far h pred bare. absurd (not_in_empty found none v h);
      read_by = λ u h. absurd (not_in_empty empty refl u h);
      reads = λ v u far h pred. absurd (not_in_empty found none v h);
    })
  where
    left : (v : ℕ) → v ∈ found → v ∈ union found (difference empty p.red)
    left v h = in_union_first found (difference empty p.red) v h

    back : (v : ℕ) → v ∈ union found (difference empty p.red) → v ∈ found
    back v h = elim (union_cases found (difference empty p.red) v h) [ inl here ↦ here | inr none ↦ absurd (not_in_empty empty refl v (difference_first empty p.red v none)) ]
