-- What the calls need of the graph, the loop over the vertices, and the sets that are answered.
use Rattle.std.proofs.Common.{◌≡◌, ℕ, suc, ◌+◌, ◌<◌, ◌↔◌, Bool, true, false, cond, length, refl, sym, ap, ◌∙◌, subst, arith, ltb, IsTrue, ◌≤◌}
use Rattle.std.specs.FinSet.{empty, insert, intersection, difference}
use Rattle.comp_graph.specs.Vertices.{Vertices, ◌∈◌, AllBelow, set_below}
use Rattle.comp_graph.specs.Graphs.{IsGraph, dag_of}
use Rattle.comp_graph.specs.Games.{PebbleGame, GameParts, game_of}
use Rattle.comp_graph.proofs.DagLaws.{live_vertex}
use Rattle.comp_graph.proofs.Sets.{AllBelow-set_below}
use Rattle.comp_graph.proofs.GraphLaws.{IsDag-dag_of}
use Rattle.pebble_rules.specs.declared.position.Position.{Position}
use Rattle.normal_steps.specs.declared.step.Step.{Step}
use Rattle.normal_steps.specs.declared.step.Step.TheVariants.{Work, Drop, Spill}
use Rattle.normal_steps.specs.StepTests.{is_crowded}
use Rattle.window_game.specs.Windows.{Window}
use Rattle.window_game.specs.Plays.{IsStepIn}
use Rattle.window_steps.specs.StepTests.{can_work_in}
use Rattle.window_steps.specs.LegalSteps.{AreStepSets}
use Rattle.window_steps.proofs.Tests.{step_true, true_step, ltb_true, true_ltb}
use Rattle.window_steps.proofs.Listed.{AreRemovableIn, none, roomy_none, crowded_red, works_legal}

-- a Work is on a vertex of the graph
pub work_vertex : (g : GameParts) → IsGraph g.graph → (w : Window) (p : Position) (s : Step) (v : ℕ) → s ≡ Work v
    → IsStepIn (game_of g) w p s → v < length g.graph.nodes
work_vertex g ok w p s v e is =
    let can : IsStepIn (game_of g) w p (Work v) = subst (IsStepIn (game_of g) w p) e is in
    live_vertex (dag_of g.graph) (IsDag-dag_of g.graph ok) v can.0.live

pub work_number : (g : GameParts) → IsGraph g.graph → (w : Window) (p : Position) (s : Step) (v : ℕ) → s ≡ Work v
    → IsStepIn (game_of g) w p s → v < 256
work_number g ok w p s v e is = let vertex = work_vertex g ok w p s v e is in let small = ok.small in omega arith

-- the test of a Work says whether it is legal
pub work_tested : (g : PebbleGame) (w : Window) (p : Position) (s : Step) (v : ℕ) (is : Bool) → s ≡ Work v → is ≡ can_work_in g w p v
    → IsTrue is ↔ IsStepIn g w p s
work_tested g w p s v is e tested = (
  λ h. subst (IsStepIn g w p) (sym e) (step_true g w p (Work v) (sym tested ∙ h)),
  λ can. tested ∙ true_step g w p (Work v) (subst (IsStepIn g w p) e can),
)

-- a Work on a number beyond the vertices is not legal
pub no_vertex : (g : GameParts) → IsGraph g.graph → (w : Window) (p : Position) (s : Step) (v n : ℕ) → s ≡ Work v → n ≡ length g.graph.nodes → n ≤ v
    → IsTrue (ltb v n) ↔ IsStepIn (game_of g) w p s
no_vertex g ok w p s v n e counted past = (
  λ h. absurd (not_below v n past h),
  λ is. absurd (let vertex = work_vertex g ok w p s v e is in omega arith),
)
  where
    not_below : (v n : ℕ) → n ≤ v → ltb v n ≡ true → ⊥
    not_below v n past h = grind arith

-- ---- the loop over the vertices

pub none_below : (test : ℕ → Bool) (s : Vertices) → s ≡ empty → s ≡ set_below test 0
unfolding set_below
none_below test s e = e

below_next : (test : ℕ → Bool) (n : ℕ) (here : Bool) → test n ≡ here → set_below test (n + 1) ≡ cond here (insert (set_below test n) n) (set_below test n)
unfolding set_below
below_next test n here e = (let one : n + 1 ≡ suc n = omega arith in ap (set_below test) one) ∙ ap (λ b. cond b (insert (set_below test n) n) (set_below test n)) e

pub one_more : (test : ℕ → Bool) (n : ℕ) (s t : Vertices) (here : Bool) → s ≡ set_below test n → here ≡ test n → here ≡ true
    → t ≡ insert s n → t ≡ set_below test (n + 1)
one_more test n s t here before tested is grown = grown ∙ ap (λ q. insert q n) before ∙ sym (below_next test n true (sym tested ∙ is))

pub none_more : (test : ℕ → Bool) (n : ℕ) (s t : Vertices) (here : Bool) → s ≡ set_below test n → here ≡ test n → here ≡ false
    → t ≡ s → t ≡ set_below test (n + 1)
none_more test n s t here before tested out same = same ∙ before ∙ sym (below_next test n false (sym tested ∙ out))

pub works_are : (g : GameParts) → IsGraph g.graph → (w : Window) (p : Position) (n : ℕ) (s : Vertices)
    → s ≡ set_below (can_work_in (game_of g) w p) n → n ≡ length g.graph.nodes → (v : ℕ) → (v ∈ s) ↔ IsStepIn (game_of g) w p (Work v)
works_are g ok w p n s are all v =
    subst (λ t. (v ∈ t) ↔ IsStepIn (game_of g) w p (Work v)) (sym (are ∙ ap (set_below (can_work_in (game_of g) w p)) all))
    (works_legal (game_of g) (IsDag-dag_of g.graph ok) w p v)

pub works_bounded : (g : GameParts) → IsGraph g.graph → (test : ℕ → Bool) (n : ℕ) (s : Vertices) → s ≡ set_below test n → n ≡ length g.graph.nodes → AllBelow 256 s
works_bounded g ok test n s are all = record {
  below = λ v h.
      let l = (AllBelow-set_below test n).below v (subst (λ t. v ∈ t) are h) in
      let small = ok.small in
      omega arith;
}

-- ---- the answered sets

pub with_sets : (g : PebbleGame) (w : Window) (p : Position) (works drops spills a b : Vertices)
    → ((v : ℕ) → (v ∈ works) ↔ IsStepIn g w p (Work v)) → AreRemovableIn g w p a b → drops ≡ a → spills ≡ b
    → AreStepSets g w p works drops spills
with_sets g w p works drops spills a b worked rest d s = record {
  worked = worked;
  dropped = λ u. subst (λ t. (u ∈ t) ↔ IsStepIn g w p (Drop u)) (sym d) (rest.dropped u);
  spilled = λ u. subst (λ t. (u ∈ t) ↔ IsStepIn g w p (Spill u)) (sym s) (rest.spilled u);
}

pub roomy_sets : (g : PebbleGame) (w : Window) (p : Position) (works drops spills : Vertices) (crowded : Bool)
    → ((v : ℕ) → (v ∈ works) ↔ IsStepIn g w p (Work v)) → crowded ≡ is_crowded g p → crowded ≡ false → drops ≡ empty → spills ≡ empty
    → AreStepSets g w p works drops spills
roomy_sets g w p works drops spills crowded worked tested roomy d s =
    with_sets g w p works drops spills none none worked (roomy_none g w p (λ some. apart (is_crowded g p) (true_ltb _ _ some) (sym tested ∙ roomy))) d s
  where
    apart : (b : Bool) → b ≡ true → b ≡ false → ⊥
    apart b t f = let clash : true ≡ false = sym t ∙ f in cc

pub crowded_sets : (g : PebbleGame) (w : Window) (p : Position) (works spills : Vertices) (crowded : Bool)
    → ((v : ℕ) → (v ∈ works) ↔ IsStepIn g w p (Work v)) → crowded ≡ is_crowded g p → crowded ≡ true
    → spills ≡ difference (intersection p.red w.stores) p.blue → AreStepSets g w p works p.red spills
crowded_sets g w p works spills crowded worked tested is s =
    with_sets g w p works p.red spills p.red (difference (intersection p.red w.stores) p.blue) worked (crowded_red g w p (ltb_true _ _ (sym tested ∙ is))) refl s
