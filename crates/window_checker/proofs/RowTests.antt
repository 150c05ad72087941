-- What the tests of a row have shown so far.
use Rattle.std.proofs.Common.{◌≡◌, ℕ, ◌+◌, ◌<◌, Bool, true, false, inl, inr, sym, ◌∙◌, subst, arith}
use Rattle.std.proofs.lemmas.Bool.{cases_lt}
use Rattle.comp_graph.specs.Vertices.{Vertices, ◌∈◌}
use Rattle.comp_graph.specs.Games.{PebbleGame}
use Rattle.pebble_rules.specs.declared.position.Position.{Position}
use Rattle.normal_steps.specs.declared.step.Step.{Step}
use Rattle.normal_steps.specs.declared.step.Step.TheVariants.{Work, Drop, Spill}
use Rattle.window_game.specs.Windows.{Window}
use Rattle.window_game.specs.Plays.{IsStepIn}
use Rattle.window_steps.specs.LegalSteps.{AreStepSets}

pub apart : (b : Bool) → b ≡ true → b ≡ false → ⊥
apart b t f = let clash : true ≡ false = sym t ∙ f in cc

-- members below n, one more
pub one_more : (P : ℕ → Type 0) (s : Vertices) (n : ℕ) → ((u : ℕ) → u < n → u ∈ s → P u) → (n ∈ s → P n) → (u : ℕ) → u < n + 1 → u ∈ s → P u
one_more P s n before here u h member = elim (cases_lt u n) [
  | inl l ↦ before u l member
  | inr past ↦ let e : n ≡ u = omega (arith, h, past) in subst P e (here (subst (λ x. x ∈ s) (sym e) member))
]

-- the steps on three sets are the legal ones
pub each_step : (g : PebbleGame) (w : Window) (p : Position) (works drops spills : Vertices) → AreStepSets g w p works drops spills → (P : Step → Type 0)
    → ((v : ℕ) → v ∈ works → P (Work v)) → ((v : ℕ) → v ∈ drops → P (Drop v)) → ((v : ℕ) → v ∈ spills → P (Spill v))
    → (s : Step) → IsStepIn g w p s → P s
each_step g w p works drops spills are P a b c (Work v) legal = a v ((are.worked v).1 legal)
each_step g w p works drops spills are P a b c (Drop u) legal = b u ((are.dropped u).1 legal)
each_step g w p works drops spills are P a b c (Spill u) legal = c u ((are.spilled u).1 legal)
