-- What the walk back from a vertex has found: its cone so far, and the members of it whose predecessors are still to be looked at.
use Rattle.std.proofs.Common.{◌≡◌, ℕ, ◌-◌, ◌≤◌, ◌<◌, Bool, true, false, Option, Some, None, MatchOption, is_some, ◌⊎◌, inl, inr, sym, ◌∙◌, subst, arith}
use Rattle.std.specs.FinSet.{empty, contains, insert, remove, union, intersection, difference}
use Rattle.comp_graph.specs.Vertices.{Vertices, ◌∈◌, ◌∉◌, IsWithin, IsOutside, IsLeast as IsLeastMember, size}
use Rattle.comp_graph.specs.Dags.{Dag, IsDag}
use Rattle.comp_graph.specs.Sets.{membership, has_empty}
use Rattle.comp_graph.proofs.Sets.{size_insert_new, size_le_below, difference_first, difference_second, in_insert, in_insert_same}
use Rattle.forced_bounds.specs.Least.{HoldsCone}
use Rattle.forced_bounds.specs.Reached.{IsFreeCone, IsMetCone}

pub record IsSpread (g : Dag) (v : ℕ) (avoid met cone ahead : Vertices) : Type 0 where
  pub itself : v ∈ cone
  pub below : (u : ℕ) → u ∈ union cone ahead → u ≤ v
  pub least : (t : Vertices) → HoldsCone g avoid v t → IsWithin (union cone ahead) t
  pub closed : (w u : ℕ) → w ∈ cone → u ∈ g.preds w → u ∉ avoid → u ∈ union cone ahead
  pub free : IsOutside (union cone ahead) met
  pub apart : IsOutside ahead cone

union_cases : (s t : Vertices) (u : ℕ) → u ∈ union s t → (u ∈ s) ⊎ (u ∈ t)
union_cases s t u h = grind (arith, membership)

in_left : (s t : Vertices) (u : ℕ) → u ∈ s → u ∈ union s t
in_left s t u h = grind (arith, membership)

pub in_right : (s t : Vertices) (u : ℕ) → u ∈ t → u ∈ union s t
in_right s t u h = grind (arith, membership)

removed : (s : Vertices) (w u : ℕ) → u ∈ remove s w → u ∈ s
removed s w u h = grind (arith, membership)

removed_other : (s : Vertices) (w u : ℕ) → u ∈ remove s w → u ≡ w → ⊥
removed_other s w u h e = let here = subst (λ u. u ∈ remove s w) e h in grind (arith, membership)

kept_other : (s : Vertices) (w u : ℕ) → u ∈ s → (u ≡ w → ⊥) → u ∈ remove s w
kept_other s w u h other = grind (arith, membership)

not_inserted : (s : Vertices) (w u : ℕ) → u ∉ s → (u ≡ w → ⊥) → u ∉ insert s w
not_inserted s w u h other = grind (arith, membership)

in_difference : (s t : Vertices) (u : ℕ) → u ∈ s → u ∉ t → u ∈ difference s t
in_difference s t u h out = grind (arith, membership)

insert_parts : (s : Vertices) (w u : ℕ) → u ∈ insert s w → (u ≡ w) ⊎ (u ∈ s)
insert_parts s w u h = grind (arith, membership)

same_or_other : (u w : ℕ) → (u ≡ w) ⊎ ((u ≡ w) → ⊥)
same_or_other u w = grind arith

pub spread_start : (g : Dag) → IsDag g → (v : ℕ) (avoid met cone ahead : Vertices) → cone ≡ insert empty v → ahead ≡ difference (g.preds v) avoid → v ∉ met → IsOutside ahead met → IsSpread g v avoid met cone ahead
spread_start g dag v avoid met cone ahead e f out free = record {
  itself = subst (λ s. v ∈ s) (sym e) (grind (arith, membership));
  below = λ u h. elim (cases u h) [ inl is ↦ omega (arith, is) | inr pred ↦ let less = dag.preds_below v u pred.0 in omega arith ];
  least = λ t holds u h. elim (cases u h) [
    | inl is ↦ subst (λ u. u ∈ t) (sym is) holds.itself
    | inr pred ↦ holds.preds v u holds.itself pred.0 pred.1
  ];
  closed = λ w u h pred bare. into u (subst (λ w. u ∈ g.preds w) (only_itself w h) pred) bare;
  free = λ u h. elim (cases u h) [
    | inl is ↦ subst (λ u. u ∉ met) (sym is) out
    | inr pred ↦ free u (back u pred.0 pred.1)
  ];
  apart = λ u h. not_itself u (pred_of u h);
}
  where
    only_itself : (w : ℕ) → w ∈ cone → w ≡ v
    only_itself w h = let here = subst (λ s. w ∈ s) e h in grind (arith, membership)

    pred_of : (u : ℕ) → u ∈ ahead → (u ∈ g.preds v) × (u ∉ avoid)
    pred_of u h = let here = subst (λ s. u ∈ s) f h in (grind (arith, membership), grind (arith, membership))

    back : (u : ℕ) → u ∈ g.preds v → u ∉ avoid → u ∈ ahead
    back u pred bare = subst (λ s. u ∈ s) (sym f) (grind (arith, membership))

    into : (u : ℕ) → u ∈ g.preds v → u ∉ avoid → u ∈ union cone ahead
    into u pred bare = let here = back u pred bare in grind (arith, membership)

    split : (u : ℕ) → u ∈ union cone ahead → (u ∈ cone) ⊎ (u ∈ ahead)
    split u h = grind (arith, membership)

    cases : (u : ℕ) → u ∈ union cone ahead → (u ≡ v) ⊎ ((u ∈ g.preds v) × (u ∉ avoid))
    cases u h = elim (split u h) [ inl here ↦ inl (only_itself u here) | inr here ↦ inr (pred_of u here) ]

    not_itself : (u : ℕ) → (u ∈ g.preds v) × (u ∉ avoid) → u ∉ cone
    not_itself u pred = subst (λ s. u ∉ s) (sym e) (let less = dag.preds_below v u pred.0 in grind (arith, membership))

-- one ahead vertex is looked at, and none of what it reads is in `met`
pub spread_more : (g : Dag) → IsDag g → (v w : ℕ) (avoid met cone ahead more : Vertices) → IsSpread g v avoid met cone ahead → w ∈ ahead
    → more ≡ difference (difference (g.preds w) avoid) (insert cone w) → IsOutside more met → IsSpread g v avoid met (insert cone w) (union (remove ahead w) more)
spread_more g dag v w avoid met cone ahead more is h e free = record {
  itself = in_insert cone w v is.itself;
  below = λ u i. elim (cases u i) [
    | inl old ↦ is.below u old
    | inr new ↦ let less = dag.preds_below w u (parts u new).0 in let low = is.below w seen in omega arith
  ];
  least = λ t holds u i. elim (cases u i) [
    | inl old ↦ is.least t holds u old
    | inr new ↦ holds.preds w u (is.least t holds w seen) (parts u new).0 (parts u new).1
  ];
  closed = λ x u i pred bare. elim (insert_cases x i) [
    | inl e ↦ next u (subst (λ x. u ∈ g.preds x) e pred) bare
    | inr old ↦ kept u (is.closed x u old pred bare)
  ];
  free = λ u i. elim (cases u i) [ inl old ↦ is.free u old | inr new ↦ free u new ];
  apart = λ u i. elim (open_cases u i) [
    | inl old ↦ not_inserted cone w u (is.apart u old.0) old.1
    | inr new ↦ difference_second (difference (g.preds w) avoid) (insert cone w) u (subst (λ s. u ∈ s) e new)
  ];
}
  where
    seen : w ∈ union cone ahead
    seen = in_right cone ahead w h

    insert_cases : (x : ℕ) → x ∈ insert cone w → (x ≡ w) ⊎ (x ∈ cone)
    insert_cases x i = insert_parts cone w x i

    parts : (u : ℕ) → u ∈ more → (u ∈ g.preds w) × (u ∉ avoid)
    parts u i = let there = difference_first _ _ u (subst (λ s. u ∈ s) e i) in (difference_first _ _ u there, difference_second _ _ u there)

    cases : (u : ℕ) → u ∈ union (insert cone w) (union (remove ahead w) more) → (u ∈ union cone ahead) ⊎ (u ∈ more)
    cases u i = elim (union_cases (insert cone w) (union (remove ahead w) more) u i) [
      | inl a ↦ elim (insert_cases u a) [ inl e ↦ inl (subst (λ u. u ∈ union cone ahead) (sym e) seen) | inr old ↦ inl (in_left cone ahead u old) ]
      | inr b ↦ elim (union_cases (remove ahead w) more u b) [ inl old ↦ inl (in_right cone ahead u (removed ahead w u old)) | inr new ↦ inr new ]
    ]

    kept : (u : ℕ) → u ∈ union cone ahead → u ∈ union (insert cone w) (union (remove ahead w) more)
    kept u i = elim (union_cases cone ahead u i) [
      | inl old ↦ in_left (insert cone w) (union (remove ahead w) more) u (in_insert cone w u old)
      | inr old ↦ elim (same_or_other u w) [
        | inl e ↦ in_left (insert cone w) (union (remove ahead w) more) u (subst (λ u. u ∈ insert cone w) (sym e) (in_insert_same cone w))
        | inr other ↦ in_right (insert cone w) (union (remove ahead w) more) u (in_left (remove ahead w) more u (kept_other ahead w u old other))
      ]
    ]

    open_cases : (u : ℕ) → u ∈ union (remove ahead w) more → ((u ∈ ahead) × ((u ≡ w) → ⊥)) ⊎ (u ∈ more)
    open_cases u i = elim (union_cases (remove ahead w) more u i) [
      | inl old ↦ inl (removed ahead w u old, removed_other ahead w u old)
      | inr new ↦ inr new
    ]

    fresh : (u : ℕ) → u ∈ g.preds w → u ∉ avoid → u ∉ insert cone w → u ∈ more
    fresh u pred bare out = subst (λ s. u ∈ s) (sym e) (in_difference _ _ u (in_difference _ _ u pred bare) out)

    either_way : (u : ℕ) → (contains (insert cone w) u ≡ true) ⊎ (contains (insert cone w) u ≡ false)
    either_way u = grind arith

    next : (u : ℕ) → u ∈ g.preds w → u ∉ avoid → u ∈ union (insert cone w) (union (remove ahead w) more)
    next u pred bare = elim (either_way u) [
      | inl here ↦ in_left (insert cone w) (union (remove ahead w) more) u here
      | inr out ↦ in_right (insert cone w) (union (remove ahead w) more) u (in_right (remove ahead w) more u (fresh u pred bare out))
    ]

-- one ahead vertex reads a member of `met`
pub spread_met : (g : Dag) (v w u : ℕ) (avoid met cone ahead more : Vertices) → IsSpread g v avoid met cone ahead → w ∈ ahead
    → more ≡ difference (difference (g.preds w) avoid) (insert cone w) → u ∈ more → u ∈ met → IsMetCone g v avoid met
spread_met g v w u avoid met cone ahead more is h e new hit = record {
  vertex = u;
  is_met = hit;
  reached = λ t holds. holds.preds w u (is.least t holds w (grind (arith, membership))) parts.0 parts.1;
}
  where
    parts : (u ∈ g.preds w) × (u ∉ avoid)
    parts = let there = difference_first _ _ u (subst (λ s. u ∈ s) e new) in (difference_first _ _ u there, difference_second _ _ u there)

-- nothing is ahead
pub spread_end : (g : Dag) (v : ℕ) (avoid met cone ahead : Vertices) → IsSpread g v avoid met cone ahead → ahead ≡ empty → IsFreeCone g v avoid met cone
spread_end g v avoid met cone ahead is none = record {
  least = record {
    closed = record { itself = is.itself; preds = λ w u h pred bare. all u (is.closed w u h pred bare) };
    least = λ t holds u h. is.least t holds u (seen u h);
  };
  free = λ u h. is.free u (seen u h);
}
  where
    all : (u : ℕ) → u ∈ union cone ahead → u ∈ cone
    all u h = let here = subst (λ s. u ∈ union cone s) none h in grind (arith, membership)

    seen : (u : ℕ) → u ∈ cone → u ∈ union cone ahead
    seen u h = grind (arith, membership)

pub spread_at : (g : Dag) (v : ℕ) (avoid met s t a b : Vertices) → s ≡ t → a ≡ b → IsSpread g v avoid met s a → IsSpread g v avoid met t b
spread_at g v avoid met s t a b e f is = subst (λ t. IsSpread g v avoid met t b) e (subst (λ b. IsSpread g v avoid met s b) f is)

-- a vertex that is looked at makes the cone larger, and it is never larger than all vertices
pub spread_smaller : (g : Dag) (v w : ℕ) (avoid met cone ahead : Vertices) → IsSpread g v avoid met cone ahead → w ∈ ahead → v < 256 → 256 - size (insert cone w) < 256 - size cone
spread_smaller g v w avoid met cone ahead is h small =
    let more = size_insert_new cone w (is.apart w h) in
    let few = size_le_below 256 (insert cone w) (record { below = λ u i. let low = is.below u (old u i) in omega arith }) in
    omega arith
  where
    old : (u : ℕ) → u ∈ insert cone w → u ∈ union cone ahead
    old u i = grind (arith, membership)

-- ---- what the least member of the common ones tells

pub common_by_least : (o : Option ℕ) (r : Bool) (s t both : Vertices) → both ≡ intersection s t → MatchOption o (both ≡ empty) (IsLeastMember both) → r ≡ is_some o → r ≡ true → (u : ℕ) × (u ∈ s) × (u ∈ t)
common_by_least None r s t both e match is h = absurd (grind arith)
common_by_least (Some u) r s t both e match is h = let here = subst (λ s. u ∈ s) e match.member in (u, first here, second here)
  where
    first : u ∈ intersection s t → u ∈ s
    first h = grind (arith, membership)

    second : u ∈ intersection s t → u ∈ t
    second h = grind (arith, membership)

pub apart_by_least : (o : Option ℕ) (r : Bool) (s t both : Vertices) → both ≡ intersection s t → MatchOption o (both ≡ empty) (IsLeastMember both) → r ≡ is_some o → r ≡ false → IsOutside s t
apart_by_least None r s t both e match is h = λ v i. out v i (subst (λ d. contains d v ≡ false) (sym match ∙ e) (has_empty v))
  where
    out : (v : ℕ) → v ∈ s → contains (intersection s t) v ≡ false → v ∉ t
    out v i none = grind (arith, membership)
apart_by_least (Some u) r s t both e match is h = absurd (grind arith)

pub outside_part : (s t part met : Vertices) → part ≡ difference s t → IsOutside s met → IsOutside part met
outside_part s t part met e free u h = free u (difference_first s t u (subst (λ s. u ∈ s) e h))
