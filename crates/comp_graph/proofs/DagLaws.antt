-- Laws of live vertices and of the degree: tests below a number, paths to an output, and the greatest number of predecessors.
use Rattle.std.proofs.Common.{◌≡◌, ℕ, zero, suc, ◌+◌, ◌≤◌, ◌<◌, max, Bool, true, false, ◌&&◌, ◌||◌, ◌⊎◌, inl, inr, cond, sym, refl, ap, ◌∙◌, arith}
use Rattle.std.specs.FinSet as set
use Rattle.comp_graph.specs.Vertices.{◌∈◌, size, any_below, greatest_below}
use Rattle.comp_graph.specs.Dags.{Dag, IsDag, IsPath, here, edge, IsLive, IsDegree, leads_to_output, is_live, degree}
use Rattle.comp_graph.specs.Laws.{LiveByPaths, DegreeIsGreatest}
use Rattle.comp_graph.proofs.Sets.{size_le_below}

pub either : (a b : Bool) → (a || b) ≡ true → (a ≡ true) ⊎ (b ≡ true)
either true b h = inl refl
either false b h = inr h

pub both : (a b : Bool) → (a && b) ≡ true → (a ≡ true) × (b ≡ true)
both true b h = (refl, h)
both false b h = absurd (grind arith)

last_or_before : (k n : ℕ) → k < suc n → (k ≡ n) ⊎ (k < n)
last_or_before k n h = grind arith

any_step : (n k : ℕ) (test : ℕ → Bool) → (k ≡ n) ⊎ (k < n) → test k ≡ true → (k < n → any_below n test ≡ true) → any_below (suc n) test ≡ true
any_step n k test (inl e) h before = grind arith
any_step n k test (inr l) h before = let some = before l in grind arith

pub any_below_at : (n k : ℕ) (test : ℕ → Bool) → k < n → test k ≡ true → any_below n test ≡ true
any_below_at zero k test l h = absurd (omega arith)
any_below_at (suc n) k test l h = any_step n k test (last_or_before k n l) h (λ l. any_below_at n k test l h)

abbrev Passing : ℕ → (ℕ → Bool) → Type 0
Passing n test = (k : ℕ) × (k < n) × (test k ≡ true)

pub any_below_some : (n : ℕ) (test : ℕ → Bool) → any_below n test ≡ true → Passing n test
any_below_some zero test h = absurd (grind arith)
any_below_some (suc n) test h =
    let before : any_below n test ≡ true → Passing (suc n) test = λ e. let r = any_below_some n test e in (r.0, omega arith, r.2) in
    elim (either (test n) (any_below n test) h) [ inl last ↦ (n, omega arith, last) | inr e ↦ before e ]

-- ---- live vertices

pub leads_at_output : (g : Dag) (k v : ℕ) → v ∈ g.outputs → leads_to_output g k v ≡ true
leads_at_output g zero v h = h
leads_at_output g (suc k) v h = ap (λ b. b || any_below g.count (λ w. set.contains (g.preds w) v && leads_to_output g k w)) h

pub or-true : (a b : Bool) → b ≡ true → (a || b) ≡ true
or-true true b h = refl
or-true false b h = h

pub and-true : (a b : Bool) → a ≡ true → b ≡ true → (a && b) ≡ true
and-true true b g h = h
and-true false b g h = g

pub leads_by : (g : Dag) (k v w : ℕ) → w < g.count → v ∈ g.preds w → leads_to_output g k w ≡ true → leads_to_output g (suc k) v ≡ true
leads_by g k v w l h rest =
    or-true (set.contains g.outputs v) _ (any_below_at g.count w (λ w. set.contains (g.preds w) v && leads_to_output g k w) l (and-true _ _ h rest))

-- an output, or a vertex with a successor from which a path leads on
abbrev pub LeadsOn : Dag → ℕ → ℕ → Type 0
LeadsOn g k v = (w : ℕ) × (w < g.count) × (v ∈ g.preds w) × (leads_to_output g k w ≡ true)

leads_on : (g : Dag) (k v : ℕ) → Passing g.count (λ w. set.contains (g.preds w) v && leads_to_output g k w) → LeadsOn g k v
leads_on g k v r = let p = both (set.contains (g.preds r.0) v) (leads_to_output g k r.0) r.2 in (r.0, r.1, p.0, p.1)

pub leads_cases : (g : Dag) (k v : ℕ) → leads_to_output g (suc k) v ≡ true → (v ∈ g.outputs) ⊎ LeadsOn g k v
leads_cases g k v h =
    elim (either (set.contains g.outputs v) (any_below g.count (λ w. set.contains (g.preds w) v && leads_to_output g k w)) h) [
      | inl out ↦ inl out
      | inr some ↦ inr (leads_on g k v (any_below_some g.count _ some))
    ]

pub leads_vertex : (g : Dag) → IsDag g → (k v : ℕ) → leads_to_output g k v ≡ true → v < g.count
leads_vertex g dag zero v h = dag.outputs_are_vertices v h
leads_vertex g dag (suc k) v h =
    elim (leads_cases g k v h) [
      | inl out ↦ dag.outputs_are_vertices v out
      | inr on ↦ let below = dag.preds_below on.0 v on.2 in omega arith
    ]

leads_short_on : (g : Dag) → IsDag g → (k v j : ℕ) → g.count ≤ v + j → ((w j : ℕ) → g.count ≤ w + j → leads_to_output g k w ≡ true → leads_to_output g j w ≡ true) → LeadsOn g k v → leads_to_output g j v ≡ true
leads_short_on g dag k v zero far shorter on = absurd (let below = dag.preds_below on.0 v on.2 in omega arith)
leads_short_on g dag k v (suc j) far shorter on =
    let below = dag.preds_below on.0 v on.2 in
    leads_by g j v on.0 on.1 on.2 (shorter on.0 j (omega arith) on.3)

-- a path from v has fewer edges than there are vertices above v
leads_short : (g : Dag) → IsDag g → (k v j : ℕ) → g.count ≤ v + j → leads_to_output g k v ≡ true → leads_to_output g j v ≡ true
leads_short g dag zero v j far h = leads_at_output g j v h
leads_short g dag (suc k) v j far h =
    elim (leads_cases g k v h) [
      | inl out ↦ leads_at_output g j v out
      | inr on ↦ leads_short_on g dag k v j far (λ w i. leads_short g dag k w i) on
    ]

pub live_vertex : (g : Dag) → IsDag g → (v : ℕ) → is_live g v ≡ true → v < g.count
live_vertex g dag v h = leads_vertex g dag g.count v h

pub live_output : (g : Dag) (v : ℕ) → v ∈ g.outputs → is_live g v ≡ true
live_output g v h = leads_at_output g g.count v h

pub live_before : (g : Dag) → IsDag g → (v w : ℕ) → v ∈ g.preds w → is_live g w ≡ true → is_live g v ≡ true
live_before g dag v w h live =
    leads_short g dag (suc g.count) v g.count (omega arith) (leads_by g g.count v w (live_vertex g dag w live) h live)

-- ---- the degree

greatest_step : (n k : ℕ) (f : ℕ → ℕ) → (k ≡ n) ⊎ (k < n) → (k < n → f k ≤ greatest_below n f) → f k ≤ greatest_below (suc n) f
greatest_step n k f (inl e) before = grind arith
greatest_step n k f (inr l) before = let some = before l in grind arith

pub greatest_below_at : (n k : ℕ) (f : ℕ → ℕ) → k < n → f k ≤ greatest_below n f
greatest_below_at zero k f l = absurd (omega arith)
greatest_below_at (suc n) k f l = greatest_step n k f (last_or_before k n l) (λ l. greatest_below_at n k f l)

abbrev Greatest : ℕ → (ℕ → ℕ) → Type 0
Greatest n f = (k : ℕ) × (k < n) × (f k ≡ greatest_below n f)

greatest_cases : (a b : ℕ) → (max a b ≡ a) ⊎ ((max a b ≡ b) × (a < b))
greatest_cases a b = grind arith

pub greatest_below_some : (n : ℕ) (f : ℕ → ℕ) → 0 < greatest_below n f → Greatest n f
greatest_below_some zero f h = absurd (omega arith)
greatest_below_some (suc n) f h =
    elim (greatest_cases (f n) (greatest_below n f)) [
      | inl last ↦ (n, omega arith, sym last)
      | inr before ↦ let r = greatest_below_some n f (omega arith) in (r.0, omega arith, r.2 ∙ sym before.0)
    ]

pub degree_bounds : (g : Dag) → IsDag g → (v : ℕ) → is_live g v ≡ true → size (g.preds v) ≤ degree g
degree_bounds g dag v live =
    let most = greatest_below_at g.count v (λ v. cond (is_live g v) (size (g.preds v)) 0) (live_vertex g dag v live) in
    let value : cond (is_live g v) (size (g.preds v)) 0 ≡ size (g.preds v) = ap (λ b. cond b (size (g.preds v)) 0) live in
    omega arith

live_value : (b : Bool) (n : ℕ) → 0 < cond b n 0 → (b ≡ true) × (cond b n 0 ≡ n)
live_value true n h = (refl, refl)
live_value false n h = absurd (omega arith)

pub degree_some : (g : Dag) → 0 < degree g → (v : ℕ) × (is_live g v ≡ true) × (size (g.preds v) ≡ degree g)
degree_some g h =
    let r = greatest_below_some g.count (λ v. cond (is_live g v) (size (g.preds v)) 0) h in
    let value = live_value (is_live g r.0) (size (g.preds r.0)) (omega arith) in
    (r.0, value.0, sym value.1 ∙ r.2)

-- ---- the test and the paths

path_from_leads : (g : Dag) (k v : ℕ) → leads_to_output g k v ≡ true → IsLive g v
path_from_leads g zero v h = record { output = v; is_output = h; path = here }
path_from_leads g (suc k) v h =
    elim (leads_cases g k v h) [
      | inl out ↦ record { output = v; is_output = out; path = here }
      | inr on ↦ let rest = path_from_leads g k on.0 on.3 in record { output = rest.output; is_output = rest.is_output; path = edge on.0 on.1 on.2 rest.path }
    ]

live_from_path : (g : Dag) → IsDag g → (v u : ℕ) → IsPath g v u → is_live g u ≡ true → is_live g v ≡ true
live_from_path g dag v u here h = h
live_from_path g dag v u (edge w below pred rest) h = live_before g dag v w pred (live_from_path g dag w u rest h)

pub live_by_paths : LiveByPaths
live_by_paths g dag v = (path_from_leads g g.count v, λ l. live_from_path g dag v l.output l.path (live_output g l.output l.is_output))

zero_or_more : (n : ℕ) → (n ≡ 0) ⊎ (0 < n)
zero_or_more n = grind arith

pub degree_is_greatest : DegreeIsGreatest
degree_is_greatest g dag = record {
  bounds = λ v l. degree_bounds g dag v ((live_by_paths g dag v).1 l);
  is_met = elim (zero_or_more (degree g)) [
    | inl none ↦ inl none
    | inr some ↦ let w = degree_some g some in inr (w.0, (live_by_paths g dag w.0).0 w.1, w.2)
  ];
}

-- at most one number is the degree
pub degree_unique : (g : Dag) (j k : ℕ) → IsDegree g j → IsDegree g k → j ≤ k
degree_unique g j k a b = elim a.is_met [ inl none ↦ omega arith | inr w ↦ omega (arith, b.bounds w.0 w.1, w.2) ]

-- the degree of a graph of n vertices is below n, or 0
pub degree_below : (g : Dag) → IsDag g → (n : ℕ) → g.count ≤ n → 0 < n → degree g < n
degree_below g dag n few some =
    elim (zero_or_more (degree g)) [
      | inl none ↦ omega arith
      | inr more ↦
          let w = degree_some g more in
          let vertex = live_vertex g dag w.0 w.1 in
          omega (arith, w.2, size_le_below w.0 (g.preds w.0) (record { below = λ u e. dag.preds_below w.0 u e }))
    ]
