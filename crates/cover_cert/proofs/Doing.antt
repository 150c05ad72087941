-- The steps of a row, gone through one by one.
use Rattle.std.proofs.Common.{◌≡◌, ℕ, ◌+◌, ◌*◌, ◌≤◌, ◌<◌, List, [], ◌∷◌, ◌++◌, length, length-append, inl, None, Some, refl, sym, ap, ◌∙◌, subst, arith, append_assoc}
use Rattle.comp_graph.specs.Games.{PebbleGame, GameParts, IsGame, game_of}
use Rattle.comp_graph.proofs.GraphLaws.{IsDag-dag_of}
use Rattle.pebble_rules.specs.declared.position.Position.{Position}
use Rattle.normal_steps.specs.Sound.{IsSound}
use Rattle.normal_steps.specs.Steps.{IsStep}
use Rattle.normal_steps.specs.StepTests.{legal_steps}
use Rattle.normal_steps.specs.declared.step.Step.{Step}
use Rattle.comp_graph.specs.Lists.{IsIn}
use Rattle.potential_cert.specs.declared.tables.Row.{Row}
use Rattle.search_laws.proofs.Lists.{in_right}
use Rattle.search_laws.proofs.Tests.{legal_steps_legal}
use Rattle.search_laws.specs.Turning.{IsExpanding}
use Rattle.search_laws.proofs.Turning.{still_expanding}
use Rattle.branch_bound.specs.declared.frontier.Best.{Best}
use Rattle.branch_bound.specs.declared.frontier.Frontier.{Frontier}
use Rattle.branch_bound.specs.Frontiers.{HasTried, IsFrontier, best_of, store_of}
use Rattle.cover_cert.specs.declared.making.Made.{Made}
use Rattle.cover_cert.specs.CoverMaking.{NamesFirst, made_namings, made_row}
use Rattle.cover_cert.specs.CoverSearch.{Naming}
use Rattle.cover_cert.specs.CoverTurns.{AreMade, AreNamedOrTried, HasMade, IsDoing, row_at}
use Rattle.cover_cert.proofs.MadeLists.{append_none}
use Rattle.cover_cert.proofs.StepsDone.{done_more, done_named, done_none, done_tried, still_made}

module _ (game : GameParts) (is : IsGame game) (k : ℕ) (r : Row) (rows : List Row) (f : Frontier) (b : Best) where
  abbrev g : PebbleGame
  g = game_of game

  pub doing_begin : IsFrontier f → length game.graph.nodes ≤ 64 * f.rows.words → IsExpanding (store_of f) k → row_at (store_of f) k ≡ r → f.queues.current ≡ r.cost → AreMade (store_of f) rows
      → (ss : List Step) → legal_steps g r.position ≡ ss → length f.rows.slots + length ss < 4294967295 → IsDoing game k r rows f f b b [] 0 ss
  doing_begin frontier wide expanding row current made ss same room = record {
    steps = [];
    all_are = same;
    count = refl;
    has_done = record { frontier = frontier; done = done_none g k 0 (store_of f) (best_of b); size = omega arith; words = refl; current = refl };
    wide = wide;
    expanding = expanding;
    row = row;
    current = current;
    room = room;
    made = made;
  }

  module _ (n : Frontier) (c : Best) (names : List Naming) (number : ℕ) (x : Step) (rest : List Step) (on : IsDoing game k r rows f n b c names number (x ∷ rest)) where
    pub doing_legal : IsSound g r.position → IsStep g r.position x
    doing_legal sound = legal_steps_legal g (IsDag-dag_of game.graph is.valid) r.position sound x (subst (IsIn x) (sym on.all_are) (in_right x on.steps (x ∷ rest) (inl refl)))

    pub doing_room : length n.rows.slots < 4294967295
    doing_room = let room = on.room in omega arith

    pub doing_few : length (legal_steps g r.position) ≤ 384 → number < 384
    doing_few few = let all = ap length on.all_are in let many = length-append on.steps (x ∷ rest) in let count = on.count in omega arith

    next_steps : legal_steps g r.position ≡ (on.steps ++ x ∷ []) ++ rest
    next_steps = on.all_are ∙ sym (append_assoc on.steps (x ∷ []) rest)

    next_count : number + 1 ≡ length (on.steps ++ x ∷ [])
    next_count = let many = length-append on.steps (x ∷ []) in let count = on.count in omega arith

    first_number : number ≡ 0 + length on.steps
    first_number = let count = on.count in omega arith

    -- the step gets a name
    pub doing_named : (by : Position) → NamesFirst g rows r x (Some by) → IsDoing game k r rows f n b c (names ++ record { row = r.position; step = number; by = by } ∷ []) (number + 1) rest
    doing_named by first =
        let here = subst (λ r. NamesFirst g rows r x (Some by)) (sym on.row) first in
        let one = subst (λ r. AreNamedOrTried g k number (store_of n) (best_of c) (store_of n) (best_of c) (x ∷ []) (record { row = r.position; step = number; by = by } ∷ [])) on.row
        (done_named g (IsDag-dag_of game.graph is.valid) k number (store_of n) (best_of c) x rows on.made by here) in
        record {
          steps = on.steps ++ x ∷ [];
          all_are = next_steps;
          count = next_count;
          has_done = record {
            frontier = on.has_done.frontier;
            done = done_more g k 0 number (store_of f) (store_of n) (store_of n) (best_of b) (best_of c) (best_of c) on.steps (x ∷ []) names _ first_number on.has_done.done one;
            size = let size = on.has_done.size in let many = length-append on.steps (x ∷ []) in omega arith;
            words = on.has_done.words;
            current = on.has_done.current;
          };
          wide = on.wide;
          expanding = on.expanding;
          row = on.row;
          current = on.current;
          room = let room = on.room in omega arith;
          made = on.made;
        }

    -- the step is tried
    pub doing_tried : NamesFirst g rows r x None → (m : Frontier) (d : Best) → HasTried g k n m c d (x ∷ []) → IsDoing game k r rows f m b d names (number + 1) rest
    doing_tried none m d tried =
        let here = subst (λ r. NamesFirst g rows r x None) (sym on.row) none in
        let one = done_tried g (IsDag-dag_of game.graph is.valid) k number (store_of n) (best_of c) x rows on.made here (store_of m) (best_of d) tried.tried in
        let all = done_more g k 0 number (store_of f) (store_of n) (store_of m) (best_of b) (best_of c) (best_of d) on.steps (x ∷ []) names [] first_number on.has_done.done one in
        record {
          steps = on.steps ++ x ∷ [];
          all_are = next_steps;
          count = next_count;
          has_done = record {
            frontier = tried.frontier;
            done = subst (AreNamedOrTried g k 0 (store_of f) (best_of b) (store_of m) (best_of d) (on.steps ++ x ∷ [])) (append_none names) all;
            size = let size = on.has_done.size in let more = tried.size in let many = length-append on.steps (x ∷ []) in omega arith;
            words = tried.words ∙ on.has_done.words;
            current = tried.current ∙ on.has_done.current;
          };
          wide = subst (λ words. length game.graph.nodes ≤ 64 * words) (sym tried.words) on.wide;
          expanding = still_expanding g k (store_of n) (store_of m) (best_of c) (best_of d) (x ∷ []) on.expanding tried.tried;
          row = ap (λ p. record { position = p.position; cost = p.cost }) tried.tried.here ∙ on.row;
          current = tried.current ∙ on.current;
          room = let room = on.room in let size = tried.size in omega arith;
          made = still_made (store_of n) (store_of m) rows tried.tried.grows tried.tried.rows tried.tried.still on.made;
        }

  pub doing_as : (n m : Frontier) (c d : Best) (names others : List Naming) (number : ℕ) (rest : List Step) → m ≡ n → d ≡ c → others ≡ names → IsDoing game k r rows f n b c names number rest
      → IsDoing game k r rows f m b d others number rest
  doing_as n m c d names others number rest frontier best same on =
      subst (λ m. IsDoing game k r rows f m b d others number rest) (sym frontier)
      (subst (λ d. IsDoing game k r rows f n b d others number rest) (sym best) (subst (λ names. IsDoing game k r rows f n b c names number rest) (sym same) on))

  -- all steps are named or tried
  pub doing_end : (n : Frontier) (c : Best) (names : List Naming) (number : ℕ) → IsDoing game k r rows f n b c names number [] → length (legal_steps g r.position) ≤ 384
      → (m : Made) → made_row m ≡ r → made_namings m ≡ names → r ≡ row_at (store_of f) k → HasMade g k f n b c m
  doing_end n c names number on few m row same at =
      let all : on.steps ≡ legal_steps g r.position = sym (append_none on.steps) ∙ sym on.all_are in
      let here : on.steps ≡ legal_steps g m.position = all ∙ ap (λ r. legal_steps g r.position) (sym row) in
      record {
        frontier = on.has_done.frontier;
        done = subst (AreNamedOrTried g k 0 (store_of f) (best_of b) (store_of n) (best_of c) (legal_steps g m.position)) (sym same)
            (subst (λ ss. AreNamedOrTried g k 0 (store_of f) (best_of b) (store_of n) (best_of c) ss names) here on.has_done.done);
        row = row ∙ at;
        size = let size = on.has_done.size in let many = ap length all in omega arith;
        words = on.has_done.words;
      }
