-- The legal steps as sets and in order.
use Rattle.std.proofs.Common.{◌≡◌, ℕ, ◌+◌, ◌<◌, ◌↔◌, Bool, true, false, cond, refl, sym, ◌∙◌, arith}
use Rattle.std.specs.FinSet.{empty, intersection, difference}
use Rattle.std.specs.List.{Contains}
use Rattle.std.proofs.lemmas.List.Elements.{All-contains}
use Rattle.comp_graph.proofs.Lists.{contains_in, in_contains}
use Rattle.comp_graph.specs.Vertices.{Vertices, ◌∈◌, size}
use Rattle.comp_graph.specs.Dags.{IsDag, degree}
use Rattle.comp_graph.specs.Games.{PebbleGame}
use Rattle.comp_graph.specs.Sets.{membership}
use Rattle.comp_graph.proofs.Sets.{both_parts, left_parts, in_both, in_difference, in_set_below, set_below_parts}
use Rattle.comp_graph.proofs.DagLaws.{live_vertex}
use Rattle.pebble_rules.specs.declared.position.Position.{Position}
use Rattle.normal_steps.specs.declared.step.Step.{Step}
use Rattle.normal_steps.specs.declared.step.Step.TheVariants.{Work, Drop, Spill}
use Rattle.normal_steps.specs.LegalSteps.{listed}
use Rattle.normal_steps.specs.StepTests.{is_crowded}
use Rattle.normal_steps.proofs.Listed.{all_listed, work_listed, drop_listed, spill_listed, listed_in_order}
use Rattle.window_game.specs.Windows.{Window}
use Rattle.window_game.specs.Plays.{IsStepIn}
use Rattle.window_steps.specs.StepTests.{can_work_in}
use Rattle.window_steps.specs.LegalSteps.{StepSetsAreListed, works_in, StepSetsAreTested}
use Rattle.window_steps.proofs.Tests.{step_true, true_step, ltb_true, true_ltb}

pub step_sets_are_listed : StepSetsAreListed
step_sets_are_listed g w p works drops spills are n small small_red = record {
  legal = λ s. (
    λ i. All-contains (IsStepIn g w p) (listed n works drops spills) s
        (all_listed n (IsStepIn g w p) works drops spills (λ v h. (are.worked v).0 h) (λ u h. (are.dropped u).0 h) (λ u h. (are.spilled u).0 h)) (in_contains s _ i),
    λ can. contains_in _ s (back s can),
  );
  in_order = listed_in_order n works drops spills;
}
  where
    back : (s : Step) → IsStepIn g w p s → Contains (listed n works drops spills) s
    back (Work v) can = let h = (are.worked v).1 can in work_listed n works drops spills v (small.below v h) h
    back (Drop u) can = drop_listed n works drops spills u (small_red.below u can.0) ((are.dropped u).1 can)
    back (Spill u) can = spill_listed n works drops spills u (small_red.below u can.0.red) ((are.spilled u).1 can)

-- ---- Drop and Spill

abbrev pub none : Vertices
none = empty

none_has : (u : ℕ) → u ∈ none → ⊥
none_has u h = grind (arith, membership)

-- the sets for Drop and Spill: none, or the red vertices
pub record AreRemovableIn (g : PebbleGame) (w : Window) (p : Position) (drops spills : Vertices) : Type 0 where
  pub dropped : (u : ℕ) → (u ∈ drops) ↔ IsStepIn g w p (Drop u)
  pub spilled : (u : ℕ) → (u ∈ spills) ↔ IsStepIn g w p (Spill u)

pub roomy_none : (g : PebbleGame) (w : Window) (p : Position) → (g.slots < size p.red + degree g.dag + 1 → ⊥) → AreRemovableIn g w p none none
roomy_none g w p roomy = record {
  dropped = λ u. (λ h. absurd (none_has u h), λ can. absurd (roomy can.1));
  spilled = λ u. (λ h. absurd (none_has u h), λ can. absurd (roomy can.1));
}

pub crowded_red : (g : PebbleGame) (w : Window) (p : Position) → g.slots < size p.red + degree g.dag + 1
    → AreRemovableIn g w p p.red (difference (intersection p.red w.stores) p.blue)
crowded_red g w p crowded = record {
  dropped = λ u. (λ h. (h, crowded), λ can. can.0);
  spilled = λ u. (
    λ h.
        let a = left_parts (intersection p.red w.stores) p.blue u h in
        let b = both_parts p.red w.stores u a.0 in
        (record { red = b.0; charged = b.1; not_blue = a.1 }, crowded),
    λ can. in_difference (intersection p.red w.stores) p.blue u (in_both p.red w.stores u can.0.red can.0.charged) can.0.not_blue,
  );
}

removable : (g : PebbleGame) (w : Window) (p : Position) (b : Bool) → is_crowded g p ≡ b
    → AreRemovableIn g w p (cond b p.red empty) (cond b (difference (intersection p.red w.stores) p.blue) empty)
removable g w p true e = crowded_red g w p (ltb_true _ _ e)
removable g w p false e = roomy_none g w p (λ crowded. apart (is_crowded g p) (true_ltb _ _ crowded) e)
  where
    apart : (b : Bool) → b ≡ true → b ≡ false → ⊥
    apart b t f = let clash : true ≡ false = sym t ∙ f in cc

-- ---- Work

pub works_legal : (g : PebbleGame) → IsDag g.dag → (w : Window) (p : Position) (v : ℕ) → (v ∈ works_in g w p) ↔ IsStepIn g w p (Work v)
works_legal g dag w p v = (
  λ h. step_true g w p (Work v) (set_below_parts g.dag.count (can_work_in g w p) v h).1,
  λ can. in_set_below g.dag.count (can_work_in g w p) v (live_vertex g.dag dag v can.0.live) (true_step g w p (Work v) can),
)

pub step_sets_are_tested : StepSetsAreTested
step_sets_are_tested g dag w p =
    let rest = removable g w p (is_crowded g p) refl in
    record { worked = works_legal g dag w p; dropped = rest.dropped; spilled = rest.spilled }
