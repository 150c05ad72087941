-- The whole graph as a window.
use Rattle.std.proofs.Common.{◌≡◌, ℕ, ◌*◌, true, cond, List, [], ◌∷◌, inl, inr, sym, refl, ap, ◌∙◌, subst, arith}
use Rattle.std.specs.FinSet.{intersection, difference}
use Rattle.comp_graph.specs.Vertices.{Vertices, ◌∈◌, IsWithin, size}
use Rattle.comp_graph.specs.Sets.{same, membership}
use Rattle.comp_graph.specs.Dags.{IsDag, is_live, live_of}
use Rattle.comp_graph.specs.Games.{PebbleGame}
use Rattle.comp_graph.proofs.Sets.{worked_cases, in_removed}
use Rattle.comp_graph.proofs.Live.{has_live_of}
use Rattle.comp_graph.proofs.DagLaws.{live_before, live_output}
use Rattle.pebble_rules.specs.Rules.{start}
use Rattle.pebble_rules.specs.declared.position.Position.{Position}
use Rattle.normal_steps.specs.declared.step.Step.{Step}
use Rattle.normal_steps.specs.declared.step.Step.TheVariants.{Work, Drop, Spill}
use Rattle.normal_steps.specs.Steps.{IsStep, stepped, step_cost, IsPlay, total_cost}
use Rattle.window_game.specs.Windows.{whole}
use Rattle.window_game.specs.Views.{paid_by, paid}
use Rattle.window_laws.specs.Whole.{WholeIsWindow, WholeIsPaid}

all_live : (o l b : Vertices) → IsWithin o l → difference (intersection o l) b ≡ difference o b
all_live o l b within = same _ _ (λ q. let at = within q in grind (arith, membership))

pub same_loads : (p l r : Vertices) → IsWithin p l → difference (intersection p l) r ≡ difference p r
same_loads p l r within = same _ _ (λ q. let at = within q in grind (arith, membership))

first_of_both : (s t : Vertices) (q : ℕ) → q ∈ intersection s t → q ∈ s
first_of_both s t q h = grind (arith, membership)

second_of_both : (s t : Vertices) (q : ℕ) → q ∈ intersection s t → q ∈ t
second_of_both s t q h = grind (arith, membership)

module _ (g : PebbleGame) (dag : IsDag g.dag) where
  abbrev pub AllLive : Vertices → Type 0
  AllLive s = (v : ℕ) → v ∈ s → is_live g.dag v ≡ true

  pub live_next : (p : Position) → AllLive p.red → (s : Step) → IsStep g p s → AllLive (stepped g p s).red
  live_next p all (Work v) can q h = elim (worked_cases p.red (g.dag.preds v) v q h) [
    | inl e ↦ subst (λ x. is_live g.dag x ≡ true) (sym e) can.live
    | inr (inl red) ↦ all q red
    | inr (inr pred) ↦ live_before g.dag dag q v pred can.live
  ]
  live_next p all (Drop u) can q h = all q (in_removed p.red u q h)
  live_next p all (Spill u) can q h = all q (in_removed p.red u q h)

  pub outputs_live : IsWithin g.dag.outputs (live_of g.dag)
  outputs_live q h = has_live_of g.dag dag q ∙ live_output g.dag q h

  step_paid : (p : Position) → AllLive p.red → (s : Step) → IsStep g p s → paid_by g (whole g) p s ≡ step_cost g p s
  step_paid p all (Work v) can = ap (λ s. g.load * size s) (same_loads (g.dag.preds v) (live_of g.dag) p.red (λ q h. has_live_of g.dag dag q ∙ live_before g.dag dag q v h can.live))
  step_paid p all (Drop u) can = refl
  step_paid p all (Spill u) can = ap (λ b. cond b g.store 0) (has_live_of g.dag dag u ∙ all u can.drop.red)

  all_paid : (p : Position) → AllLive p.red → (ss : List Step) → IsPlay g p ss → paid g (whole g) p ss ≡ total_cost g p ss
  all_paid p all [] play =
      let sets = ap (λ s. g.store * size s) (all_live g.dag.outputs (live_of g.dag) p.blue outputs_live) in
      omega arith
  all_paid p all (s ∷ ss) play =
      let here = step_paid p all s play.0 in
      let rest = all_paid (stepped g p s) (live_next p all s play.0) ss play.1 in
      omega arith

pub whole_is_paid : WholeIsPaid
whole_is_paid g dag ss play = all_paid g dag (start g) (λ v h. absurd (grind (arith, membership))) ss play

pub whole_is_window : WholeIsWindow
whole_is_window g dag = record {
  loads_read = λ v u h. first_of_both (g.dag.preds v) (live_of g.dag) u h;
  loads_tracked = λ v u h. second_of_both (g.dag.preds v) (live_of g.dag) u h;
  stores_tracked = λ q h. h;
  required_live = λ v h. absurd (grind (arith, membership));
  required_computed = λ v h. absurd (grind (arith, membership));
  required_uncharged = λ v h. absurd (grind (arith, membership));
}
