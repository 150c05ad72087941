-- What the tests of the steps of a window say.
use Rattle.std.proofs.Common.{◌≡◌, ℕ, ◌<◌, ltb, leb, Bool, true, false, not, ap, arith}
use Rattle.std.specs.FinSet.{contains, union, intersection}
use Rattle.comp_graph.specs.Vertices.{size}
use Rattle.comp_graph.specs.Dags.{is_live}
use Rattle.comp_graph.specs.Games.{PebbleGame}
use Rattle.comp_graph.proofs.DagLaws.{both, and-true}
use Rattle.pebble_rules.specs.declared.position.Position.{Position}
use Rattle.normal_steps.specs.declared.step.Step.{Step}
use Rattle.normal_steps.specs.declared.step.Step.TheVariants.{Work, Drop, Spill}
use Rattle.normal_steps.specs.Steps.{worked}
use Rattle.normal_steps.specs.StepTests.{is_within, is_crowded}
use Rattle.normal_steps.proofs.Workable.{leb_true, true_leb}
use Rattle.normal_steps.proofs.StepTestLaws.{within_true, true_within}
use Rattle.window_game.specs.Windows.{Window, known, sees}
use Rattle.window_game.specs.Plays.{is_useful, IsStepIn}
use Rattle.window_steps.specs.StepTests.{is_step_in, StepsAreTestedIn, FinishIsTestedIn}

pub ltb_true : (a b : ℕ) → ltb a b ≡ true → a < b
ltb_true a b h = grind arith

pub true_ltb : (a b : ℕ) → a < b → ltb a b ≡ true
true_ltb a b h = grind arith

not_true : (b : Bool) → not b ≡ true → b ≡ false
not_true b h = grind arith

true_not : (b : Bool) → b ≡ false → not b ≡ true
true_not b h = ap not h

pub step_true : (g : PebbleGame) (w : Window) (p : Position) (s : Step) → is_step_in g w p s ≡ true → IsStepIn g w p s
step_true g w p (Work v) h =
    let a = both (sees g w v) _ h in
    let b = both (is_live g.dag v) _ a.1 in
    let c = both (not (contains g.dag.inputs v)) _ b.1 in
    let d = both (is_within (intersection (g.dag.preds v) (known w)) (union p.red p.blue)) _ c.1 in
    let e = both (leb (size (worked g p.red v)) g.slots) (is_useful g w p v) d.1 in
    (record { seen = a.0; live = b.0; no_input = not_true _ c.0; preds_held = within_true _ _ d.0; fits = leb_true _ _ e.0 }, e.1)
step_true g w p (Drop u) h = let a = both (contains p.red u) (is_crowded g p) h in (a.0, ltb_true _ _ a.1)
step_true g w p (Spill u) h =
    let a = both (contains p.red u) _ h in
    let b = both (contains w.stores u) _ a.1 in
    let c = both (not (contains p.blue u)) (is_crowded g p) b.1 in
    (record { red = a.0; charged = b.0; not_blue = not_true _ c.0 }, ltb_true _ _ c.1)

pub true_step : (g : PebbleGame) (w : Window) (p : Position) (s : Step) → IsStepIn g w p s → is_step_in g w p s ≡ true
true_step g w p (Work v) can =
    and-true _ _ can.0.seen (and-true _ _ can.0.live (and-true _ _ (true_not _ can.0.no_input)
    (and-true _ _ (true_within _ _ can.0.preds_held) (and-true _ _ (true_leb _ _ can.0.fits) can.1))))
true_step g w p (Drop u) can = and-true _ _ can.0 (true_ltb _ _ can.1)
true_step g w p (Spill u) can =
    and-true _ _ can.0.red (and-true _ _ can.0.charged (and-true _ _ (true_not _ can.0.not_blue) (true_ltb _ _ can.1)))

pub steps_are_tested : StepsAreTestedIn
steps_are_tested g w p s = (step_true g w p s, true_step g w p s)

pub finish_is_tested : FinishIsTestedIn
finish_is_tested g w p = (
  λ h.
      let a = both (is_within (intersection g.dag.outputs w.tracked) (union p.red p.blue)) (is_within w.required p.blue) h in
      record { outputs_held = within_true _ _ a.0; required_done = within_true _ _ a.1 },
  λ can. and-true _ _ (true_within _ _ can.outputs_held) (true_within _ _ can.required_done),
)
