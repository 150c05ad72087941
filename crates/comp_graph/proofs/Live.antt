-- One pass from the last vertex down finds the live vertices.
use Rattle.std.proofs.Common.{◌≡◌, ℕ, ◌+◌, ◌<◌, ◌≤◌, sym, ap, ◌∙◌, subst, inl, inr, ⊎_elim, arith}
use Rattle.std.specs.FinSet as set
use Rattle.std.proofs.lemmas.Bool.{cases_lt, or_cases, or_left, or_right, false≢true, cases_Bool}
use Rattle.comp_graph.specs.Vertices.{Vertices, ◌∈◌, ◌∉◌, IsWithin}
use Rattle.comp_graph.specs.Sets.{has_union, same, membership, has_set_below}
use Rattle.comp_graph.specs.Dags.{Dag, IsDag, IsPath, here, edge, IsLive, IsLiveSet, is_live, live_of}
use Rattle.comp_graph.proofs.DagLaws.{live_by_paths, live_vertex}

-- the vertices from n on have been looked at
pub record IsSwept (d : Dag) (n : ℕ) (live : Vertices) : Type 0 where
  pub sound : (v : ℕ) → v ∈ live → IsLive d v
  pub outputs : IsWithin d.outputs live
  pub closed : (v u : ℕ) → n ≤ v → v < d.count → v ∈ live → u ∈ d.preds v → u ∈ live

pub IsSwept-start : (d : Dag) → IsDag d → IsSwept d d.count d.outputs
IsSwept-start d ok = record {
  sound = λ v e. record { output = v; is_output = e; path = here };
  outputs = λ v e. e;
  closed = λ v u h l e _. absurd (omega arith);
}

pub IsSwept-in : (d : Dag) (n : ℕ) (live : Vertices) → IsDag d → n < d.count → IsSwept d (n + 1) live → n ∈ live → IsSwept d n (set.union live (d.preds n))
IsSwept-in d n live ok vertex before member = record {
  sound = λ v e. ⊎_elim (before.sound v) (behind v) (or_cases _ _ (sym (has_union live (d.preds n) v) ∙ e));
  outputs = λ v e. old v (before.outputs v e);
  closed = λ v u h l e p. ⊎_elim (λ in_live. of_live v u h l in_live p) (λ in_preds. absurd (omega (arith, ok.preds_below n v in_preds))) (or_cases _ _ (sym (has_union live (d.preds n) v) ∙ e));
}
  where
    old : (v : ℕ) → v ∈ live → v ∈ set.union live (d.preds n)
    old v e = has_union live (d.preds n) v ∙ or_left _ _ e

    new : (v : ℕ) → v ∈ d.preds n → v ∈ set.union live (d.preds n)
    new v e = has_union live (d.preds n) v ∙ or_right _ _ e

    behind : (v : ℕ) → v ∈ d.preds n → IsLive d v
    behind v e = let user = before.sound n member in record { output = user.output; is_output = user.is_output; path = edge n vertex e user.path }

    of_live : (v u : ℕ) → n ≤ v → v < d.count → v ∈ live → u ∈ d.preds v → u ∈ set.union live (d.preds n)
    of_live v u h l e p = elim (cases_lt n v) [
      | inl more ↦ old u (before.closed v u (omega arith) l e p)
      | inr g ↦ let same : v ≡ n = omega arith in new u (subst (λ m. u ∈ d.preds m) same p)
    ]

pub IsSwept-out : (d : Dag) (n : ℕ) (live : Vertices) → IsSwept d (n + 1) live → n ∉ live → IsSwept d n live
IsSwept-out d n live before absent = record {
  sound = before.sound;
  outputs = before.outputs;
  closed = λ v u h l e p. elim (cases_lt n v) [
    | inl more ↦ before.closed v u (omega arith) l e p
    | inr g ↦ let same : v ≡ n = omega arith in absurd (false≢true (sym absent ∙ sym (ap (set.contains live) same) ∙ e))
  ];
}

pub IsSwept-end : (d : Dag) (live : Vertices) → IsSwept d 0 live → IsLiveSet d live
IsSwept-end d live all = record { members = λ v. (all.sound v, λ l. back v l.output l.path (all.outputs l.output l.is_output)) }
  where
    back : (v u : ℕ) → IsPath d v u → u ∈ live → v ∈ live
    back v u here e = e
    back v u (edge w below p rest) e = all.closed w v (omega arith) below (back w u rest e) p

pub IsSwept-at : (d : Dag) (n m : ℕ) {s t : Vertices} → n ≡ m → s ≡ t → IsSwept d n s → IsSwept d m t
IsSwept-at d n m {t = t} e is all = subst (λ k. IsSwept d k t) e (subst (IsSwept d n) is all)

-- a member of the set of live vertices, by the test
pub has_live_of : (d : Dag) → IsDag d → (v : ℕ) → set.contains (live_of d) v ≡ is_live d v
has_live_of d ok v = has_set_below (is_live d) d.count v ∙ elim (cases_Bool (is_live d v)) [
  | inl live ↦ let vertex = live_vertex d ok v live in grind (arith, membership)
  | inr dead ↦ grind (arith, membership)
]

-- the set whose members are the live vertices
pub live_of_is : (d : Dag) (live : Vertices) → IsDag d → IsLiveSet d live → live ≡ live_of d
live_of_is d live ok is = same _ _ (λ v.
    let by_test = has_live_of d ok v in
    elim (cases_Bool (is_live d v)) [
      | inl e ↦ (is.members v).1 ((live_by_paths d ok v).0 e) ∙ sym e ∙ sym by_test
      | inr e ↦ elim (cases_Bool (set.contains live v)) [
        | inl member ↦ absurd (false≢true (sym e ∙ (live_by_paths d ok v).1 ((is.members v).0 member)))
        | inr out ↦ out ∙ sym e ∙ sym by_test
      ]
    ])

pub live_of_is_live : (d : Dag) → IsDag d → IsLiveSet d (live_of d)
live_of_is_live d ok = record {
  members = λ v. (λ e. (live_by_paths d ok v).0 (sym (has_live_of d ok v) ∙ e), λ l. has_live_of d ok v ∙ (live_by_paths d ok v).1 l);
}
