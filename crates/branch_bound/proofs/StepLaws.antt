-- A step from a row is tried.
use Rattle.std.proofs.Common.{◌≡◌, ℕ, ◌+◌, ◌*◌, ◌≤◌, ◌<◌, true, false, List, [], ◌∷◌, ◌++◌, length, length-append, inl, inr, Some, refl, sym, ap, ◌∙◌, subst, arith}
use Rattle.comp_graph.specs.Vertices.{size}
use Rattle.comp_graph.specs.Dags.{IsDag}
use Rattle.comp_graph.specs.Games.{PebbleGame, GameParts, IsGame, game_of}
use Rattle.comp_graph.specs.Sets.{membership}
use Rattle.comp_graph.proofs.GraphLaws.{IsDag-dag_of}
use Rattle.pebble_rules.specs.declared.position.Position.{Position}
use Rattle.pebble_rules.proofs.Possible.{true_or_false}
use Rattle.normal_steps.specs.Steps.{IsStep, stepped, step_cost, finish_cost, CanFinish}
use Rattle.normal_steps.specs.Sound.{IsSound}
use Rattle.normal_steps.specs.Plans.{HasBareOutput}
use Rattle.normal_steps.specs.LegalSteps.{AreLegalSteps}
use Rattle.normal_steps.specs.StepTests.{can_finish, legal_steps}
use Rattle.normal_steps.specs.declared.step.Step.{Step}
use Rattle.normal_steps.proofs.StepTestLaws.{legal_steps_are_one_list, legal_steps_are_listed}
use Rattle.comp_graph.specs.Lists.{IsIn}
use Rattle.forced_bounds.specs.Floor.{floor}
use Rattle.forced_bounds.specs.FloorLaws.{FloorOfFinish}
use Rattle.search_laws.specs.Search as search
use Rattle.search_laws.proofs.Lists.{in_right}
use Rattle.search_laws.proofs.Tests.{legal_steps_legal, can_finish_true, true_can_finish}
use Rattle.position_arena.specs.Arenas.{slot_at, IsAbsent, IsWithinWords}
use Rattle.search_laws.specs.Packing.{IsPut}
use Rattle.search_laws.specs.Turning.{IsExpanding, AreTried}
use Rattle.search_laws.proofs.Turning.{still_expanding, tried_none, tried_more, tried_beaten, tried_beaten_at, tried_known, tried_finishing, new_place, tried_new, tried_again}
use Rattle.branch_bound.specs.declared.frontier.Best.{Best}
use Rattle.branch_bound.specs.declared.frontier.Frontier.{Frontier}
use Rattle.branch_bound.specs.Frontiers.{place_at, place_of, store_of, best_of, IsFrontier, HasTried, IsTrying, HasExpanded}

-- ---- where the play cannot finish

pub bare_cannot : (g : PebbleGame) (p : Position) → HasBareOutput g p → can_finish g p ≡ false
bare_cannot g p bare = elim (true_or_false (can_finish g p)) [
  | inl can ↦ absurd (let held = can_finish_true g p can bare.output bare.is_output in let not_red = bare.not_red in let not_blue = bare.not_blue in grind (arith, membership))
  | inr cannot ↦ cannot
]

-- ---- one step

module _ (g : PebbleGame) (k : ℕ) (f : Frontier) (b : Best) (x : Step) (p : Position) (c : ℕ) (frontier : IsFrontier f) (at_p : (place_at f k).position ≡ p) (at_c : (place_at f k).cost ≡ c) (h : ℕ)
    (h_is : h ≡ c + step_cost g p x) where
  h_here : h ≡ (place_at f k).cost + step_cost g (place_at f k).position x
  h_here = let costs = ap (λ p. step_cost g p x) at_p in omega (arith, h_is, at_c)

  q_here : stepped g (place_at f k).position x ≡ stepped g p x
  q_here = ap (λ p. stepped g p x) at_p

  same_frontier : AreTried g k (store_of f) (best_of b) (store_of f) (best_of b) (x ∷ []) → HasTried g k f f b b (x ∷ [])
  same_frontier tried = record { frontier = frontier; tried = tried; size = omega arith; words = refl; current = refl }

  -- the step costs too much by itself
  pub step_dear : b.cost ≤ h → HasTried g k f f b b (x ∷ [])
  step_dear dear = same_frontier (tried_beaten g k (store_of f) (best_of b) x (omega (arith, h_here)))

  module _ (q : Position) (q_is : q ≡ stepped g p x) where
    to_q : q ≡ stepped g (place_at f k).position x
    to_q = q_is ∙ sym q_here

    floor_here : floor g q ≡ floor g (stepped g (place_at f k).position x)
    floor_here = ap (floor g) to_q

    pub step_beaten : b.cost ≤ h + floor g q → HasTried g k f f b b (x ∷ [])
    step_beaten beaten = same_frontier (tried_beaten g k (store_of f) (best_of b) x (omega (arith, h_here, floor_here)))

    at_place : (j : ℕ) → (slot_at f.rows j).position ≡ q → (place_at f j).position ≡ stepped g (place_at f k).position x
    at_place j same = same ∙ to_q

    pub step_known : (j : ℕ) → j < length f.rows.slots → (slot_at f.rows j).position ≡ q → (place_at f j).cost ≤ h → HasTried g k f f b b (x ∷ [])
    step_known j within same cheap = same_frontier (tried_known g k (store_of f) (best_of b) x j within (at_place j same) (omega (arith, h_here)))

    pub step_beaten_at : (j : ℕ) → j < length f.rows.slots → (slot_at f.rows j).position ≡ q → b.cost ≤ h + (place_at f j).floor → HasTried g k f f b b (x ∷ [])
    step_beaten_at j within same beaten = same_frontier (tried_beaten_at g k (store_of f) (best_of b) x j within (at_place j same) (omega (arith, h_here)))

    module _ (is : IsExpanding (store_of f) k) where
      pub step_finished : (rest : ℕ) → rest ≡ finish_cost g q → rest ≡ floor g q → h + floor g q < b.cost → can_finish g q ≡ true
          → HasTried g k f f b (record { cost = h + rest; from = Some k; step = x }) (x ∷ [])
      step_finished rest rest_is floor_is better can =
          let finish_here : rest ≡ finish_cost g (stepped g (place_at f k).position x) = rest_is ∙ ap (finish_cost g) to_q in
          let same : (place_at f k).cost + step_cost g (place_at f k).position x + finish_cost g (stepped g (place_at f k).position x) ≡ h + rest = omega (arith, h_here, finish_here) in
          record {
            frontier = frontier;
            tried = subst (λ cost. AreTried g k (store_of f) (best_of b) (store_of f) (record { cost = cost; from = Some k; step = x }) (x ∷ [])) same
                (tried_finishing g k (store_of f) (best_of b) x is (omega (arith, h_here, floor_here)) (ap (can_finish g) (sym to_q) ∙ can) (omega (arith, same, floor_is)));
            size = omega arith;
            words = refl;
            current = refl;
          }

      module _ (n : Frontier) (after : IsFrontier n) (words : n.rows.words ≡ f.rows.words) (current : n.queues.current ≡ f.queues.current) where
        same_place : (fl : ℕ) → place_of q (record { cost = h; parent = k; step = x }) search.waiting fl ≡ new_place g k (store_of f) (best_of b) x fl
        same_place fl =
            ap (λ q. record { position = q; cost = h; parent = k; step = x; mark = search.waiting; floor = fl }) to_q
            ∙ ap (λ h. record { position = stepped g (place_at f k).position x; cost = h; parent = k; step = x; mark = search.waiting; floor = fl }) h_here

        pub step_added : (fl : ℕ) → IsPut (store_of f) (store_of n) (length f.rows.slots) (place_of q (record { cost = h; parent = k; step = x }) search.waiting fl)
            → length n.rows.slots ≡ length f.rows.slots + 1 → IsAbsent f.rows q → fl ≡ floor g q → h + fl < b.cost → can_finish g q ≡ false → HasTried g k f n b b (x ∷ [])
        step_added fl put size absent floor_is better cannot = record {
          frontier = after;
          tried = tried_new g k (store_of f) (best_of b) x is (store_of n) fl (subst (IsPut (store_of f) (store_of n) (length f.rows.slots)) (same_place fl) put)
              (omega (arith, size)) (floor_is ∙ floor_here) (omega (arith, h_here, floor_here, floor_is)) (ap (can_finish g) (sym to_q) ∙ cannot)
              (λ j within same. absent j within (same ∙ sym to_q));
          size = omega (arith, size);
          words = words;
          current = current;
        }

        pub step_improved : (j : ℕ) → j < length f.rows.slots → (slot_at f.rows j).position ≡ q → h < (place_at f j).cost
            → IsPut (store_of f) (store_of n) j (place_of (slot_at f.rows j).position (record { cost = h; parent = k; step = x }) search.waiting (place_at f j).floor)
            → length n.rows.slots ≡ length f.rows.slots → h + (place_at f j).floor < b.cost → HasTried g k f n b b (x ∷ [])
        step_improved j within same dearer put size better = record {
          frontier = after;
          tried = tried_again g k (store_of f) (best_of b) x is (store_of n) j within (at_place j same) (omega (arith, h_here))
              (subst (IsPut (store_of f) (store_of n) j) (ap (λ q. place_of q (record { cost = h; parent = k; step = x }) search.waiting (place_at f j).floor) same ∙ same_place (place_at f j).floor) put)
              (omega (arith, size)) (omega (arith, h_here));
          size = omega (arith, size);
          words = words;
          current = current;
        }

-- ---- many steps

append_assoc : {X : Type 0} → (xs ys zs : List X) → (xs ++ ys) ++ zs ≡ xs ++ (ys ++ zs)
append_assoc [] ys zs = refl
append_assoc (x ∷ xs) ys zs = ap (λ xs. x ∷ xs) (append_assoc xs ys zs)

append_none : {X : Type 0} → (xs : List X) → xs ++ [] ≡ xs
append_none [] = refl
append_none (x ∷ xs) = ap (λ xs. x ∷ xs) (append_none xs)

pub none_tried : (g : PebbleGame) (k : ℕ) (f : Frontier) (b : Best) → IsFrontier f → HasTried g k f f b b []
none_tried g k f b is = record { frontier = is; tried = tried_none g k (store_of f) (best_of b); size = omega arith; words = refl; current = refl }

pub then_tried : (g : PebbleGame) (k : ℕ) (f n m : Frontier) (b c d : Best) (xs ys : List Step) → HasTried g k f n b c xs → HasTried g k n m c d ys → HasTried g k f m b d (xs ++ ys)
then_tried g k f n m b c d xs ys one two = record {
  frontier = two.frontier;
  tried = tried_more g k (store_of f) (store_of n) (store_of m) (best_of b) (best_of c) (best_of d) xs ys one.tried two.tried;
  size = let a = one.size in let z = two.size in let n = length-append xs ys in omega arith;
  words = two.words ∙ one.words;
  current = two.current ∙ one.current;
}

-- the list that the iterator gives
pub same_steps : (game : GameParts) → IsGame game → (p : Position) → IsSound (game_of game) p → (ss : List Step) → AreLegalSteps (game_of game) p ss → legal_steps (game_of game) p ≡ ss
same_steps game is p sound ss are =
    legal_steps_are_one_list (game_of game) p (legal_steps (game_of game) p) ss (legal_steps_are_listed (game_of game) (IsDag-dag_of game.graph is.valid) p sound.red_below) are

pub few_steps : (game : GameParts) → IsGame game → (p : Position) → IsSound (game_of game) p → (n : ℕ) → (size p.red ≤ 64 → n ≤ 384) → n ≤ 384
few_steps game is p sound n few = let most = is.most in let fits = sound.fits in few (omega arith)

module _ (game : GameParts) (is : IsGame game) (k : ℕ) (p : Position) (cost : ℕ) (f : Frontier) (b : Best) where
  abbrev g : PebbleGame
  g = game_of game

  pub trying_none : IsFrontier f → length game.graph.nodes ≤ 64 * f.rows.words → IsExpanding (store_of f) k → (place_at f k).position ≡ p → (place_at f k).cost ≡ cost → f.queues.current ≡ cost
      → (ss : List Step) → legal_steps g p ≡ ss → length f.rows.slots + length ss < 4294967295 → IsTrying game k p cost f f b b ss
  trying_none frontier wide expanding position costs current ss same room = record {
    steps = [];
    all_are = same;
    tried = none_tried g k f b frontier;
    wide = wide;
    expanding = expanding;
    position = position;
    costs = costs;
    current = current;
    room = room;
  }

  module _ (n : Frontier) (c : Best) (x : Step) (rest : List Step) (on : IsTrying game k p cost f n b c (x ∷ rest)) where
    pub next_legal : IsSound g p → IsStep g p x
    next_legal sound = legal_steps_legal g (IsDag-dag_of game.graph is.valid) p sound x (subst (IsIn x) (sym on.all_are) (in_right x on.steps (x ∷ rest) (inl refl)))

    pub next_room : length n.rows.slots < 4294967295
    next_room = let room = on.room in omega arith

    pub trying_more : (m : Frontier) (d : Best) → HasTried g k n m c d (x ∷ []) → IsTrying game k p cost f m b d rest
    trying_more m d tried = record {
      steps = on.steps ++ x ∷ [];
      all_are = on.all_are ∙ sym (append_assoc on.steps (x ∷ []) rest);
      tried = then_tried g k f n m b c d on.steps (x ∷ []) on.tried tried;
      wide = subst (λ words. length game.graph.nodes ≤ 64 * words) (sym tried.words) on.wide;
      expanding = still_expanding g k (store_of n) (store_of m) (best_of c) (best_of d) (x ∷ []) on.expanding tried.tried;
      position = ap (λ p. p.position) tried.tried.here ∙ on.position;
      costs = ap (λ p. p.cost) tried.tried.here ∙ on.costs;
      current = tried.current ∙ on.current;
      room = let room = on.room in let size = tried.size in omega arith;
    }

  pub trying_all : (n : Frontier) (c : Best) → length (legal_steps g p) ≤ 384 → p ≡ (place_at f k).position → IsTrying game k p cost f n b c [] → HasExpanded g k f n b c
  trying_all n c few at on =
      let same : on.steps ≡ legal_steps g p = sym (append_none on.steps) ∙ sym on.all_are in
      record {
        frontier = on.tried.frontier;
        tried = subst (AreTried g k (store_of f) (best_of b) (store_of n) (best_of c)) (same ∙ ap (legal_steps g) at) on.tried.tried;
        size = let size = on.tried.size in let lengths = ap length same in omega (arith, few);
        words = on.tried.words;
      }

-- ---- where a step leads to

pub sound_fits : (game : GameParts) (words : ℕ) (p : Position) → IsSound (game_of game) p → length game.graph.nodes ≤ 64 * words → IsWithinWords words p
sound_fits game words p sound wide = record {
  red = record { below = λ v i. let less = sound.red_below v i in omega (arith, wide, less) };
  blue = record { below = λ v i. let less = sound.blue_below v i in omega (arith, wide, less) };
}

pub can_at : (g : PebbleGame) (p : Position) → CanFinish g p → can_finish g p ≡ true
can_at g p can = true_can_finish g p can

pub rest_is_floor : FloorOfFinish → (g : PebbleGame) → IsDag g.dag → (p : Position) → CanFinish g p → (rest : ℕ) → rest ≡ finish_cost g p → rest ≡ floor g p
rest_is_floor ends g dag p can rest is = is ∙ sym (ends g dag p can)
