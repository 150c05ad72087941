-- For windows that share no charge a play pays no more than it costs.
use Rattle.std.proofs.Common.{◌≡◌, ℕ, ◌+◌, ◌*◌, ◌≤◌, cond, List, [], ◌∷◌, inl, inr, ap, arith}
use Rattle.std.specs.Prelude.{⊤}
use Rattle.std.specs.FinSet.{contains, intersection, difference}
use Rattle.std.proofs.lemmas.Bool.{cases_Bool}
use Rattle.comp_graph.specs.Vertices.{Vertices, ◌∈◌, ◌∉◌, IsWithin, IsOutside, size}
use Rattle.comp_graph.specs.Sets.{membership}
use Rattle.comp_graph.specs.Dags.{IsDag}
use Rattle.comp_graph.specs.Games.{PebbleGame}
use Rattle.comp_graph.proofs.Sets.{size_rest}
use Rattle.pebble_rules.specs.Rules.{start}
use Rattle.pebble_rules.specs.declared.position.Position.{Position}
use Rattle.normal_steps.specs.declared.step.Step.{Step}
use Rattle.normal_steps.specs.declared.step.Step.TheVariants.{Work, Drop, Spill}
use Rattle.normal_steps.specs.Steps.{stepped, step_cost, finish_cost, IsFinishing}
use Rattle.normal_steps.specs.Simulation.{PlaysFromStartCostNoMore}
use Rattle.window_game.specs.Windows.{Window}
use Rattle.window_game.specs.Views.{paid_by, paid_at_finish, paid, PlaysAreSeen}
use Rattle.window_game.specs.Bounds.{IsApartFrom, AreAllApart, AreWindows, sum_over, PaidOnce, AreBoundsIn, total, BoundsAddUp}

sum_over-add : (f h : Window → ℕ) (ws : List Window) → sum_over (λ w. f w + h w) ws ≡ sum_over f ws + sum_over h ws
sum_over-add f h [] = omega arith
sum_over-add f h (w ∷ ws) = let rest = sum_over-add f h ws in omega arith

-- ---- sets that share no member

abbrev AreWithin : (Window → Vertices) → Vertices → List Window → Type 0
AreWithin f s [] = ⊤
AreWithin f s (w ∷ ws) = IsWithin (f w) s × AreWithin f s ws

abbrev AreOutside : (Window → Vertices) → Vertices → List Window → Type 0
AreOutside f s [] = ⊤
AreOutside f s (w ∷ ws) = IsOutside s (f w) × AreOutside f s ws

abbrev ArePairsOutside : (Window → Vertices) → List Window → Type 0
ArePairsOutside f [] = ⊤
ArePairsOutside f (w ∷ ws) = AreOutside f (f w) ws × ArePairsOutside f ws

within_rest : (f : Window → Vertices) (s t : Vertices) (ws : List Window) → AreWithin f s ws → AreOutside f t ws → AreWithin f (difference s t) ws
within_rest f s t [] a b = tt
within_rest f s t (w ∷ ws) a b = (λ v h. one v (a.0 v h) (b.0 v) h, within_rest f s t ws a.1 b.1)
  where
    one : (v : ℕ) → v ∈ s → (v ∈ t → v ∉ f w) → v ∈ f w → v ∈ difference s t
    one v a b h = elim (cases_Bool (contains t v)) [
      | inl both ↦ absurd (let out = b both in grind arith)
      | inr out ↦ grind (arith, membership)
    ]

pub sizes_add_up : (f : Window → Vertices) (c : ℕ) (s : Vertices) (ws : List Window) → AreWithin f s ws → ArePairsOutside f ws → sum_over (λ w. c * size (f w)) ws ≤ c * size s
sizes_add_up f c s [] a b = omega arith
sizes_add_up f c s (w ∷ ws) a b =
    let rest = sizes_add_up f c (difference s (f w)) ws (within_rest f s (f w) ws a.1 b.0) b.1 in
    let parts = ap (λ n. c * n) (size_rest (f w) s a.0) in
    omega arith

-- ---- one step

module _ (g : PebbleGame) where
  loads_within : (p : Position) (v : ℕ) (ws : List Window) → AreWindows g ws → AreWithin (λ w. difference (w.loads v) p.red) (difference (g.dag.preds v) p.red) ws
  loads_within p v [] all = tt
  loads_within p v (w ∷ ws) all = (λ u h. one u (all.0.loads_read v u) h, loads_within p v ws all.1)
    where
      one : (u : ℕ) → (u ∈ w.loads v → u ∈ g.dag.preds v) → u ∈ difference (w.loads v) p.red → u ∈ difference (g.dag.preds v) p.red
      one u read h = grind (arith, membership)

loads_outside : (r : Vertices) (v : ℕ) (w : Window) (ws : List Window) → IsApartFrom w ws → AreOutside (λ x. difference (x.loads v) r) (difference (w.loads v) r) ws
loads_outside r v w [] a = tt
loads_outside r v w (x ∷ xs) a = (λ u h. one u (a.0.loads v u) h, loads_outside r v w xs a.1)
  where
    one : (u : ℕ) → (u ∈ w.loads v → u ∉ x.loads v) → u ∈ difference (w.loads v) r → u ∉ difference (x.loads v) r
    one u apart h = grind (arith, membership)

loads_pairs : (r : Vertices) (v : ℕ) (ws : List Window) → AreAllApart ws → ArePairsOutside (λ x. difference (x.loads v) r) ws
loads_pairs r v [] a = tt
loads_pairs r v (w ∷ ws) a = (loads_outside r v w ws a.0, loads_pairs r v ws a.1)

stores_within : (out blue : Vertices) (ws : List Window) → AreWithin (λ w. difference (intersection out w.stores) blue) (difference out blue) ws
stores_within out blue [] = tt
stores_within out blue (w ∷ ws) = (λ u h. grind (arith, membership), stores_within out blue ws)

stores_outside : (out blue : Vertices) (w : Window) (ws : List Window) → IsApartFrom w ws → AreOutside (λ x. difference (intersection out x.stores) blue) (difference (intersection out w.stores) blue) ws
stores_outside out blue w [] a = tt
stores_outside out blue w (x ∷ xs) a = (λ u h. one u (a.0.stores u) h, stores_outside out blue w xs a.1)
  where
    one : (u : ℕ) → (u ∈ w.stores → u ∉ x.stores) → u ∈ difference (intersection out w.stores) blue → u ∉ difference (intersection out x.stores) blue
    one u apart h = grind (arith, membership)

stores_pairs : (out blue : Vertices) (ws : List Window) → AreAllApart ws → ArePairsOutside (λ x. difference (intersection out x.stores) blue) ws
stores_pairs out blue [] a = tt
stores_pairs out blue (w ∷ ws) a = (stores_outside out blue w ws a.0, stores_pairs out blue ws a.1)

spilled_in_none : (u c : ℕ) (w : Window) (ws : List Window) → IsApartFrom w ws → u ∈ w.stores → sum_over (λ x. cond (contains x.stores u) c 0) ws ≡ 0
spilled_in_none u c w [] a h = omega arith
spilled_in_none u c w (x ∷ xs) a h =
    let here = ap (λ b. cond b c 0) (a.0.stores u h) in
    let rest = spilled_in_none u c w xs a.1 h in
    omega arith

spilled_once : (u c : ℕ) (ws : List Window) → AreAllApart ws → sum_over (λ x. cond (contains x.stores u) c 0) ws ≤ c
spilled_once u c [] a = omega arith
spilled_once u c (w ∷ ws) a = elim (cases_Bool (contains w.stores u)) [
  | inl h ↦
      (let here = ap (λ b. cond b c 0) h in
      let rest = spilled_in_none u c w ws a.0 h in
      omega arith)
  | inr h ↦
      (let here = ap (λ b. cond b c 0) h in
      let rest = spilled_once u c ws a.1 in
      omega arith)
]

nothing_paid : (ws : List Window) → sum_over (λ w. 0) ws ≡ 0
nothing_paid [] = omega arith
nothing_paid (w ∷ ws) = let rest = nothing_paid ws in omega arith

step_paid_once : (g : PebbleGame) (ws : List Window) → AreWindows g ws → AreAllApart ws → (p : Position) (s : Step) → sum_over (λ w. paid_by g w p s) ws ≤ step_cost g p s
step_paid_once g ws all apart p (Work v) =
    sizes_add_up (λ w. difference (w.loads v) p.red) g.load (difference (g.dag.preds v) p.red) ws (loads_within g p v ws all) (loads_pairs p.red v ws apart)
step_paid_once g ws all apart p (Drop u) = let none = nothing_paid ws in omega arith
step_paid_once g ws all apart p (Spill u) = spilled_once u g.store ws apart

finish_paid_once : (g : PebbleGame) (ws : List Window) → AreAllApart ws → (p : Position) → sum_over (λ w. paid_at_finish g w p) ws ≤ finish_cost g p
finish_paid_once g ws apart p =
    sizes_add_up (λ w. difference (intersection g.dag.outputs w.stores) p.blue) g.store (difference g.dag.outputs p.blue) ws
    (stores_within g.dag.outputs p.blue ws) (stores_pairs g.dag.outputs p.blue ws apart)

-- ---- all steps

pub paid_once : PaidOnce
paid_once g ws all apart p [] = let finish = finish_paid_once g ws apart p in omega arith
paid_once g ws all apart p (s ∷ ss) =
    let split = sum_over-add (λ w. paid_by g w p s) (λ w. paid g w (stepped g p s) ss) ws in
    let here = step_paid_once g ws all apart p s in
    let rest = paid_once g ws all apart (stepped g p s) ss in
    omega arith

bounds_below : PlaysAreSeen → (g : PebbleGame) → IsDag g.dag → (ws : List Window) → AreWindows g ws → (bounds : List ℕ) → AreBoundsIn g ws bounds
    → (ss : List Step) → IsFinishing g (start g) ss → total bounds ≤ sum_over (λ w. paid g w (start g) ss) ws
bounds_below show g dag [] all [] below ss finishing = omega arith
bounds_below show g dag [] all (b ∷ bs) below ss finishing = absurd below
bounds_below show g dag (w ∷ ws) all [] below ss finishing = absurd below
bounds_below show g dag (w ∷ ws) all (b ∷ bs) below ss finishing =
    let seen = show g dag w all.0 ss finishing in
    let here = below.0 seen.steps seen.finishing in
    let costs = seen.costs in
    let rest = bounds_below show g dag ws all.1 bs below.1 ss finishing in
    omega arith

pub bounds_add_up : PlaysAreSeen → PlaysFromStartCostNoMore → BoundsAddUp
bounds_add_up show from_start g dag ws all apart bounds below ms complete =
    let play = from_start g dag ms complete in
    let most = bounds_below show g dag ws all bounds below play.steps play.finishing in
    let once = paid_once g ws all apart (start g) play.steps in
    let costs = play.costs in
    omega arith
