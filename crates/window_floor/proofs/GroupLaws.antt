-- The groups of a window are groups, and what the calls need to find them.
use Rattle.std.proofs.Common.{◌≡◌, ℕ, suc, zero, ◌≤◌, ◌<◌, min, Bool, true, false, not, ◌&&◌, cond, List, [], ◌∷◌, ◌++◌, ◌⊎◌, inl, inr, refl, sym, ap, ◌∙◌, subst, arith}
use Rattle.std.specs.FinSet.{contains, difference}
use Rattle.std.proofs.lemmas.Bool.{cases_Bool}
use Rattle.comp_graph.specs.Lists.{IsIn}
use Rattle.comp_graph.specs.Sets.{same_members, same_members-true, same_members-itself, membership}
use Rattle.comp_graph.specs.Vertices.{Vertices, ◌∈◌, ◌∉◌, IsWithin, IsOutside, any_below}
use Rattle.comp_graph.specs.Dags.{IsDag}
use Rattle.comp_graph.specs.Games.{PebbleGame}
use Rattle.comp_graph.proofs.DagLaws.{both, and-true, any_below_at, live_vertex}
use Rattle.comp_graph.proofs.Sets.{in_set_below, set_below_parts}
use Rattle.forced_bounds.proofs.Paths.{not_true}
use Rattle.window_game.specs.Windows.{Window}
use Rattle.window_laws.specs.Entry.{Group, IsGroup, SharesNoMember, AreGroups}
use Rattle.window_floor.specs.Workers.{is_worker, workers_of}
use Rattle.window_floor.specs.Groups.{alike, missed, least_missed, group_at, starts_group, groups_below, groups_of, GroupsAreGroups}
use Rattle.window_floor.proofs.WorkerLaws.{workers_are_tested}

-- whether u is a worker whose Work loads the same values at a charge as that of v
abbrev pub alike_test : PebbleGame → Window → ℕ → ℕ → Bool
alike_test g w v u = contains (workers_of g w) u && same_members (w.loads u) (w.loads v)

pub alike_parts : (g : PebbleGame) (w : Window) (v u : ℕ) → u ∈ alike g w v → (u ∈ workers_of g w) × (w.loads u ≡ w.loads v)
alike_parts g w v u h =
    let a = both (contains (workers_of g w) u) (same_members (w.loads u) (w.loads v)) (set_below_parts g.dag.count (alike_test g w v) u h).1 in
    (a.0, same_members-true _ _ a.1)

pub in_alike : (g : PebbleGame) (w : Window) (v u : ℕ) → u ∈ workers_of g w → w.loads u ≡ w.loads v → u ∈ alike g w v
in_alike g w v u h e =
    in_set_below g.dag.count (alike_test g w v) u (set_below_parts g.dag.count (is_worker g w) u h).0
    (and-true _ _ h (subst (λ s. same_members (w.loads u) s ≡ true) e (same_members-itself (w.loads u))))

-- ---- what an entry loads

min_first : (a b : ℕ) → min a b ≤ a
min_first a b = grind arith

min_second : (a b : ℕ) → min a b ≤ b
min_second a b = grind arith

out_of_members : (all members : Vertices) (u : ℕ) → u ∈ all → u ∉ members → u ∈ difference all members
out_of_members all members u h out = grind (arith, membership)

below_or_last : (u v : ℕ) → u < suc v → (u ≡ v) ⊎ (u < v)
below_or_last u v h = grind arith

pub least_missed_below : (g : PebbleGame) (w : Window) (members loads : Vertices) (n u : ℕ) → u < n
    → u ∈ workers_of g w → u ∉ members → least_missed g w members loads n ≤ missed g loads u
least_missed_below g w members loads zero u l h out = absurd (omega arith)
least_missed_below g w members loads (suc v) u l h out =
    elim (contains (difference (workers_of g w) members) v) as (λ b. contains (difference (workers_of g w) members) v ≡ b
    → cond b (min (least_missed g w members loads v) (missed g loads v)) (least_missed g w members loads v) ≤ missed g loads u) [
      | true ↦ λ e. elim (below_or_last u v l) [
        | inl last ↦ subst (λ z. min (least_missed g w members loads v) (missed g loads v) ≤ missed g loads z) (sym last) (min_second _ _)
        | inr less ↦ (let a = least_missed_below g w members loads v u less h out in let b = min_first (least_missed g w members loads v) (missed g loads v) in omega arith)
      ]
      | false ↦ λ e. elim (below_or_last u v l) [
        | inl last ↦ absurd (let is = subst (λ z. z ∈ difference (workers_of g w) members) last (out_of_members (workers_of g w) members u h out) in grind arith)
        | inr less ↦ least_missed_below g w members loads v u less h out
      ]
    ] refl

pub group_at_is_group : (g : PebbleGame) → IsDag g.dag → (w : Window) (v : ℕ) → IsGroup g w (group_at g w v)
group_at_is_group g dag w v = record {
  loaded = λ u h. subst (λ s. IsWithin (w.loads v) s) (sym (alike_parts g w v u h).1) (λ q i. i);
  entered = λ u is out.
      least_missed_below g w (alike g w v) (w.loads v) g.dag.count u (live_vertex g.dag dag u is.live) ((workers_are_tested g dag w u).1 is) out;
}

-- ---- no two have a member in common

pub record IsStarted (g : PebbleGame) (w : Window) (n : ℕ) (x : Group) : Type 0 where
  pub first : ℕ
  pub below : first < n
  pub starts : starts_group g w first ≡ true
  pub is : x ≡ group_at g w first

started_later : (g : PebbleGame) (w : Window) (n : ℕ) (x : Group) → IsStarted g w n x → IsStarted g w (suc n) x
started_later g w n x s = record { first = s.first; below = (let l = s.below in omega arith); starts = s.starts; is = s.is }

in_appended : (x : Group) (xs ys : List Group) → IsIn x (xs ++ ys) → IsIn x xs ⊎ IsIn x ys
in_appended x [] ys h = inr h
in_appended x (y ∷ xs) ys (inl e) = inl (inl e)
in_appended x (y ∷ xs) ys (inr h) = elim (in_appended x xs ys h) [ inl here ↦ inl (inr here) | inr there ↦ inr there ]

pub all_started : (g : PebbleGame) (w : Window) (n : ℕ) (x : Group) → IsIn x (groups_below g w n) → IsStarted g w n x
all_started g w zero x h = absurd h
all_started g w (suc v) x h = elim (in_appended x (groups_below g w v) _ h) [
  | inl before ↦ started_later g w v x (all_started g w v x before)
  | inr here ↦ last (starts_group g w v) refl here
]
  where
    last : (b : Bool) → starts_group g w v ≡ b → IsIn x (cond b (group_at g w v ∷ []) []) → IsStarted g w (suc v) x
    last true e (inl is) = record { first = v; below = omega arith; starts = e; is = is }
    last true e (inr none) = absurd none
    last false e none = absurd none

clash : (s : Vertices) (u : ℕ) → u ∈ s → u ∉ s → ⊥
clash s u a b = grind arith

starts_first : (g : PebbleGame) (w : Window) (v u : ℕ) → starts_group g w v ≡ true → u < v → u ∈ alike g w v → ⊥
starts_first g w v u starts l h =
    let a = both (contains (workers_of g w) v) _ starts in
    let b = both (not (any_below v (λ u. contains (alike g w v) u))) _ a.1 in
    let some = any_below_at v u (λ u. contains (alike g w v) u) l h in
    let none = not_true _ b.0 in
    absurd (differ _ some none)
  where
    differ : (b : Bool) → b ≡ true → b ≡ false → ⊥
    differ b t f = grind arith

pub starts_worker : (g : PebbleGame) (w : Window) (v : ℕ) → starts_group g w v ≡ true → v ∈ workers_of g w
starts_worker g w v h = (both (contains (workers_of g w) v) _ h).0

apart_at : (g : PebbleGame) (w : Window) (u v : ℕ) → starts_group g w u ≡ true → starts_group g w v ≡ true → u < v → IsOutside (alike g w u) (alike g w v)
apart_at g w u v first second l q h = elim (cases_Bool (contains (alike g w v) q)) as (λ _. q ∉ alike g w v) [
  | inl is ↦ absurd (starts_first g w v u second l (in_alike g w v u (starts_worker g w u first) (sym (alike_parts g w u q h).1 ∙ (alike_parts g w v q is).1)))
  | inr out ↦ out
]

shares_more : (x y : Group) (xs : List Group) → SharesNoMember x xs → IsOutside x.members y.members → SharesNoMember x (xs ++ y ∷ [])
shares_more x y [] h out = (out, tt)
shares_more x y (z ∷ xs) h out = (h.0, shares_more x y xs h.1 out)

groups_more : (g : PebbleGame) (w : Window) (y : Group) → IsGroup g w y → (xs : List Group) → AreGroups g w xs
    → ((x : Group) → IsIn x xs → IsOutside x.members y.members) → AreGroups g w (xs ++ y ∷ [])
groups_more g w y is [] h out = (is, tt, tt)
groups_more g w y is (x ∷ xs) h out =
    (h.0, shares_more x y xs h.1 (out x (inl refl)), groups_more g w y is xs h.2 (λ z i. out z (inr i)))

append_none : (xs : List Group) → xs ++ [] ≡ xs
append_none [] = refl
append_none (x ∷ xs) = ap (λ ys. x ∷ ys) (append_none xs)

pub are_groups_below : (g : PebbleGame) → IsDag g.dag → (w : Window) (n : ℕ) → AreGroups g w (groups_below g w n)
are_groups_below g dag w zero = tt
are_groups_below g dag w (suc v) = more (starts_group g w v) refl (are_groups_below g dag w v)
  where
    more : (b : Bool) → starts_group g w v ≡ b → AreGroups g w (groups_below g w v) → AreGroups g w (groups_below g w v ++ cond b (group_at g w v ∷ []) [])
    more true e before = groups_more g w (group_at g w v) (group_at_is_group g dag w v) (groups_below g w v) before (λ x i.
        let s = all_started g w v x i in
        subst (λ (y : Group). IsOutside y.members (alike g w v)) (sym s.is) (apart_at g w s.first v s.starts e s.below))
    more false e before = subst (AreGroups g w) (sym (append_none (groups_below g w v))) before

pub groups_are_groups : GroupsAreGroups
unfolding groups_of
groups_are_groups g dag w = are_groups_below g dag w g.dag.count

-- ---- the loop over the vertices

pub all_groups : (g : PebbleGame) (w : Window) (n : ℕ) (xs : List Group) → xs ≡ groups_below g w n → n ≡ g.dag.count → xs ≡ groups_of g w
unfolding groups_of
all_groups g w n xs are all = are ∙ ap (groups_below g w) all
