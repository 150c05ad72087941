-- What a window shows of a play of the game, this project's own, and what the play pays for the window's charges. The laws: the steps
-- shown can be made in the window and cost there exactly what the play pays, and the window has a play of no greater cost.
use Rattle.std.specs.Prelude.{◌≡◌, ℕ, ◌+◌, ◌*◌, ◌≤◌, List, [], ◌∷◌, cond}
use Rattle.std.specs.FinSet as set
use Rattle.comp_graph.specs.Vertices.{IsWithin, size}
use Rattle.comp_graph.specs.Dags.{IsDag}
use Rattle.comp_graph.specs.Games.{PebbleGame}
use Rattle.pebble_rules.specs.Rules.{start}
use Rattle.pebble_rules.specs.declared.position.Position.{Position}
use Rattle.normal_steps.specs.declared.step.Step.{Step}
use Rattle.normal_steps.specs.declared.step.Step.TheVariants.{Work, Drop, Spill}
use Rattle.normal_steps.specs.Steps.{stepped, IsFinishing}
use Rattle.window_game.specs.Windows.{Window, IsWindow, sees}
use Rattle.window_game.specs.Plays.{start_in, IsPossiblePlay, play_after_in, CanFinishIn, IsFinishingIn, total_cost_in}

-- the step in front of these, if the window shows it; a Spill whose store is not charged is shown as a Drop
abbrev pub shown_before : PebbleGame → Window → Step → List Step → List Step
shown_before g w (Work v) ss = cond (sees g w v) (Work v ∷ ss) ss
shown_before g w (Drop u) ss = cond (set.contains w.tracked u) (Drop u ∷ ss) ss
shown_before g w (Spill u) ss =
    cond (set.contains w.stores u) (Spill u ∷ ss) (cond (set.contains w.tracked u) (Drop u ∷ ss) ss)

-- what the window shows of a list of steps
abbrev pub shown : PebbleGame → Window → List Step → List Step
shown g w [] = []
shown g w (s ∷ ss) = shown_before g w s (shown g w ss)

-- what a step of the game pays for the window's charges
abbrev pub paid_by : PebbleGame → Window → Position → Step → ℕ
paid_by g w p (Work v) = g.load * size (set.difference (w.loads v) p.red)
paid_by g w p (Drop u) = 0
paid_by g w p (Spill u) = cond (set.contains w.stores u) g.store 0

-- what the finish pays for them
abbrev pub paid_at_finish : PebbleGame → Window → Position → ℕ
paid_at_finish g w p = g.store * size (set.difference (set.intersection g.dag.outputs w.stores) p.blue)

-- what a play from p pays for them, with its finish
abbrev pub paid : PebbleGame → Window → Position → List Step → ℕ
paid g w p [] = paid_at_finish g w p
paid g w p (s ∷ ss) = paid_by g w p s + paid g w (stepped g p s) ss

-- the steps are possible in the window one after another from the start, the play can then finish, and it costs this with its finish
pub record IsSeenAs (g : PebbleGame) (w : Window) (ss : List Step) (pays : ℕ) : Type 0 where
  pub play : IsPossiblePlay g w (start_in g w) ss
  pub finishes : CanFinishIn g w (play_after_in g w (start_in g w) ss)
  pub costs : total_cost_in g w (start_in g w) ss ≡ pays

-- the steps that a window shows of a play that finishes are possible there, can finish, and cost what the play pays for the window
abbrev pub PlaysShow : Type 0
PlaysShow =
    (g : PebbleGame) → IsDag g.dag → (w : Window) → IsWindow g w
    → (ss : List Step) → IsFinishing g (start g) ss → IsSeenAs g w (shown g w ss) (paid g w (start g) ss)

-- a play of the window from p that finishes and costs at most this
pub record FinishesWithinIn (g : PebbleGame) (w : Window) (p : Position) (most : ℕ) : Type 0 where
  pub steps : List Step
  pub finishing : IsFinishingIn g w p steps
  pub costs : total_cost_in g w p steps ≤ most

-- possible steps that can finish have a play of timely steps that finishes and costs no more, from any position whose red pebbles are
-- on tracked vertices
abbrev pub PlaysInTime : Type 0
PlaysInTime =
    (g : PebbleGame) → IsDag g.dag → (w : Window) → IsWindow g w → (p : Position) → IsWithin p.red w.tracked
    → (ss : List Step) → IsPossiblePlay g w p ss → CanFinishIn g w (play_after_in g w p ss)
    → FinishesWithinIn g w p (total_cost_in g w p ss)

-- so for each play that finishes the window has a play that costs at most what the given play pays for the window
abbrev pub PlaysAreSeen : Type 0
PlaysAreSeen =
    (g : PebbleGame) → IsDag g.dag → (w : Window) → IsWindow g w
    → (ss : List Step) → IsFinishing g (start g) ss → FinishesWithinIn g w (start_in g w) (paid g w (start g) ss)
