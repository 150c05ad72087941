-- The bound of a valid table of a window.
use Rattle.std.proofs.Common.{◌≡◌, ℕ, zero, suc, ◌+◌, ◌≤◌, List, [], ◌∷◌, length, inl, inr, sym, subst, arith}
use Rattle.comp_graph.specs.Games.{PebbleGame}
use Rattle.pebble_rules.specs.declared.position.Position.{Position}
use Rattle.normal_steps.specs.declared.step.Step.{Step}
use Rattle.comp_graph.specs.Lists.{IsIn}
use Rattle.potential_cert.specs.declared.tables.Row.{Row}
use Rattle.window_game.specs.Windows.{Window, IsWindow}
use Rattle.window_game.specs.Plays.{start_in, IsStepIn, stepped_in, step_cost_in, CanFinishIn, IsFinishingIn, total_cost_in}
use Rattle.window_laws.specs.Sound.{IsSoundIn}
use Rattle.window_laws.specs.Images.{Renaming, AreAutomorphisms}
use Rattle.window_laws.specs.Tables.{IsSettled, IsValidIn, TablesBoundWindows}
use Rattle.window_laws.proofs.SoundIn.{step_sound_in, start_is_sound_in}
use Rattle.window_laws.proofs.Renamed.{images_stand}

module _ (g : PebbleGame) (w : Window) (ok : IsWindow g w) (rs : List Renaming) (autos : AreAutomorphisms g w rs) (rows : List Row) (bound : ℕ) (valid : IsValidIn g w rs rows bound) where
  settled_step : (r : Row) → IsIn r rows → (p : Position) → r.position ≡ p → (s : Step) → IsStepIn g w p s → IsSettled g w rs rows bound (stepped_in g w p s) (r.cost + step_cost_in g w p s)
  settled_step r is p e s can = subst (λ p. IsSettled g w rs rows bound (stepped_in g w p s) (r.cost + step_cost_in g w p s)) e (valid.steps r is s (subst (λ p. IsStepIn g w p s) (sym e) can))

  -- a play that begins at a row
  from_row : (n : ℕ) (ss : List Step) → length ss ≤ n → (r : Row) → IsIn r rows → (p : Position) → r.position ≡ p → IsSoundIn g w p → IsFinishingIn g w p ss
      → bound ≤ r.cost + total_cost_in g w p ss
  from_row n [] less r is p e sound finishing =
      let most = valid.finishes r is (subst (CanFinishIn g w) (sym e) finishing.finishes) in
      subst (λ p. bound ≤ r.cost + total_cost_in g w p []) e (omega arith)
  from_row zero (s ∷ ss) less r is p e sound finishing = absurd (omega arith)
  from_row (suc n) (s ∷ ss) less r is p e sound finishing =
      let next = stepped_in g w p s in
      let settled = settled_step r is p e s finishing.play.0 in
      let stands = images_stand g w ok rs autos next settled.0 (step_sound_in g w ok p sound s finishing.play.0) settled.1 in
      let match = stands.matched ss (record { play = finishing.play.1; finishes = finishing.finishes }) in
      let shorter = match.shorter in
      let costs = match.costs in
      elim settled.2 [
        | inl row ↦
            (let rest = from_row n match.steps (omega arith) row.0 row.1 settled.0 row.2 stands.sound match.finishing in
            let within = row.3 in
            omega arith)
        | inr most ↦
            (let rest = most.1 stands.sound match.steps match.finishing in
            let enough = most.2 in
            omega arith)
      ]

  bound_below : (ss : List Step) → IsFinishingIn g w (start_in g w) ss → bound ≤ total_cost_in g w (start_in g w) ss
  bound_below ss finishing =
      let settled = valid.begins in
      let stands = images_stand g w ok rs autos (start_in g w) settled.0 (start_is_sound_in g w) settled.1 in
      let match = stands.matched ss finishing in
      let costs = match.costs in
      elim settled.2 [
        | inl row ↦
            (let rest = from_row (length match.steps) match.steps (omega arith) row.0 row.1 settled.0 row.2 stands.sound match.finishing in
            let within = row.3 in
            omega arith)
        | inr most ↦
            (let rest = most.1 stands.sound match.steps match.finishing in
            let enough = most.2 in
            omega arith)
      ]

pub tables_bound_windows : TablesBoundWindows
tables_bound_windows g w ok rs autos rows bound valid ss finishing = bound_below g w ok rs autos rows bound valid ss finishing
