-- A covered table of a game can be written: its numbers are in their ranges, and its names fit.
use Rattle.std.proofs.Common.{ℕ, zero, suc, ◌^◌, ◌≤◌, ◌<◌, List, [], ◌∷◌, length, refl, arith}
use Rattle.comp_graph.specs.Games.{GameParts, IsGame, PebbleGame, game_of}
use Rattle.normal_steps.specs.Sound.{IsSound}
use Rattle.normal_steps.specs.StepTests.{legal_steps}
use Rattle.comp_graph.specs.Lists.{IsIn}
use Rattle.potential_cert.specs.Places.{IsAt}
use Rattle.potential_cert.proofs.Places.{at_below}
use Rattle.cover_cert.specs.declared.tables.Cover.{Cover}
use Rattle.cover_cert.specs.CoverBytes.{CanBeSpelled, IsCoverInRange, NameFits}
use Rattle.cover_cert.specs.CoverTable.{CoverRowParts, CoverTableParts, IsCoverTableOf, NamesHold}
use Rattle.cover_cert.proofs.CoverLengths.{few_names, few_steps}

element : {X : Type 0} → (k : ℕ) (xs : List X) → k < length xs → (x : X) × IsAt x k xs
element k [] less = absurd (omega arith)
element zero (x ∷ xs) less = (x, refl)
element (suc k) (x ∷ xs) less = element k xs (omega arith)

-- a name has a place below 384, and the number of a row
name_fits : (g : PebbleGame) (rows : List CoverRowParts) (r : CoverRowParts) → g.dag.count ≤ 256 → g.slots ≤ 64 → IsSound g r.position → NamesHold g rows r → length rows < 2 ^ 32
    → (n : Cover) → IsIn n r.names → NameFits n
name_fits g rows r small most sound holds few n i =
    let steps = few_steps g r.position small most sound in
    let place = holds.below n i in
    let step = element n.step (legal_steps g r.position) place in
    let by = holds.covered n i step.0 step.1 in
    let row = at_below by.row n.row rows by.at in
    record { step = omega (arith, steps, place); row = omega (arith, row, few) }

module _ (game : GameParts) (is : IsGame game) (t : CoverTableParts) (of_game : IsCoverTableOf (game_of game) t) (few : length t.rows < 2 ^ 32) where
  some_slots : 1 ≤ t.slots
  some_slots = let slots = of_game.slots in let room = is.room in omega (arith, slots, room)

  pub cover_in_range : IsCoverInRange t
  cover_in_range =
      let vertices = of_game.vertices in
      let small = is.valid.small in
      record {
        vertices = omega (arith, vertices, small);
        some_slots = some_slots;
        slots = let slots = of_game.slots in let most = is.most in omega (arith, slots, most);
        some_load = let load = of_game.load in let some_load = is.weights.load_some in omega (arith, load, some_load);
        load = let load = of_game.load in let most = is.weights.load_most in omega (arith, load, most);
        some_store = let store = of_game.store in let some_store = is.weights.store_some in omega (arith, store, some_store);
        store = let store = of_game.store in let most = is.weights.store_most in omega (arith, store, most);
        few = few;
        red = λ r i. record { below = λ v m. let less = (of_game.holds.sound r i).red_below v m in omega (arith, vertices, less) };
        blue = λ r i. record { below = λ v m. let less = (of_game.holds.sound r i).blue_below v m in omega (arith, vertices, less) };
        names = λ r i. few_names (game_of game) t.rows r small is.most (of_game.holds.sound r i) (of_game.holds.names r i);
      }

  -- with a bound and costs of 32 bits it has a spelling
  pub cover_can_be_spelled : t.bound < 2 ^ 32 → ((r : CoverRowParts) → IsIn r t.rows → r.cost < 2 ^ 32) → CanBeSpelled t
  cover_can_be_spelled bound costs =
      let range = cover_in_range in
      record {
        numbers = record {
          vertices = range.vertices;
          some_slots = range.some_slots;
          slots = range.slots;
          some_load = range.some_load;
          load = range.load;
          some_store = range.some_store;
          store = range.store;
          bound = bound;
          rows = few;
        };
        rows = λ r i. record {
          plain_fits = record { cost = costs r i; red = range.red r i; blue = range.blue r i };
          few = let most = range.names r i in omega (arith, most);
          names = name_fits (game_of game) t.rows r is.valid.small is.most (of_game.holds.sound r i) (of_game.holds.names r i) few;
        };
      }
