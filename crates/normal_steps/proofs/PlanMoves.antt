-- The moves of a play that finishes are a complete pebbling of its cost.
use Rattle.std.proofs.Common.{◌≡◌, ℕ, ◌*◌, ◌≤◌, ◌<◌, List, [], ◌∷◌, ◌++◌, map, length, sym, refl, ap, ◌∙◌, subst, arith, append_assoc}
use Rattle.std.specs.FinSet.{insert, union, difference}
use Rattle.comp_graph.specs.Vertices.{Vertices, ◌∈◌, IsWithin, size, rising}
use Rattle.comp_graph.specs.Dags.{IsDag}
use Rattle.comp_graph.specs.Games.{PebbleGame}
use Rattle.pebble_rules.specs.Rules.{start, IsMove, moved, IsPebbling, position_after, cost, computed}
use Rattle.pebble_rules.specs.declared.position.Position.{Position}
use Rattle.normal_steps.specs.Steps.{IsStep, CanWork, stepped, step_cost, CanFinish, worked_by}
use Rattle.normal_steps.specs.PlanMoves.{step_moves, play_moves, IsPlayed, PlaysArePebblings, PlansArePebblings}
use Rattle.pebble_rules.specs.declared.moves.Move.{Move}
use Rattle.pebble_rules.specs.declared.moves.Move.TheVariants.{Load, Store, Compute}
use Rattle.normal_steps.specs.declared.step.Step.{Step}
use Rattle.normal_steps.specs.declared.step.Step.TheVariants.{Work, Drop, Spill}
use Rattle.comp_graph.proofs.Sets.{size_empty, set_of, in_insert_same, in_insert, size_within, size_remove, union_difference, union_empty, difference_first, difference_second}
use Rattle.comp_graph.specs.Sets.{membership, same}
use Rattle.comp_graph.proofs.DagLaws.{live_vertex}
use Rattle.pebble_rules.proofs.Possible.{append_position, append_pebbling}
use Rattle.pebble_rules.proofs.Replays.{append_costs}
use Rattle.comp_graph.proofs.Rising.{length-rising, set_of_rising}

-- ---- a list of loads

insert_first : (s t : Vertices) (k : ℕ) → union (insert s k) t ≡ union s (insert t k)
insert_first s t k = same _ _ (λ q. grind (arith, membership))

within_union : (s t : Vertices) (k : ℕ) → IsWithin (insert s k) (union s (insert t k))
within_union s t k q h = grind (arith, membership)

pub loads_after : (p : Position) (ks : List ℕ) → position_after p (map Load ks) ≡ record { red = union p.red (set_of ks); blue = p.blue }
loads_after p [] = ap (λ r. record { red = r; blue = p.blue }) (sym (union_empty p.red))
loads_after p (k ∷ ks) = loads_after (moved p (Load k)) ks ∙ ap (λ r. record { red = r; blue = p.blue }) (insert_first p.red (set_of ks) k)

pub loads_allowed : (g : PebbleGame) (p : Position) (ks : List ℕ) → IsWithin (set_of ks) p.blue → size (union p.red (set_of ks)) ≤ g.slots → IsPebbling g p (map Load ks)
loads_allowed g p [] h fits = tt
loads_allowed g p (k ∷ ks) h fits =
    let less = size_within _ _ (within_union p.red (set_of ks) k) in
    let same_size = ap size (insert_first p.red (set_of ks) k) in (
      record { needs = h k (in_insert_same (set_of ks) k); fits = omega arith },
      loads_allowed g (moved p (Load k)) ks (λ w i. h w (in_insert (set_of ks) k w i)) (omega arith),
    )

pub loads_cost : (g : PebbleGame) (ks : List ℕ) → cost g (map Load ks) ≡ g.load * length ks
loads_cost g [] = omega arith
loads_cost g (k ∷ ks) = omega (arith, loads_cost g ks)

loads_compute : (ks : List ℕ) (ms : List Move) → computed (map Load ks ++ ms) ≡ computed ms
loads_compute [] ms = refl
loads_compute (k ∷ ks) ms = loads_compute ks ms

-- ---- a list of stores

stores_after : (p : Position) (ks : List ℕ) → position_after p (map Store ks) ≡ record { red = p.red; blue = union p.blue (set_of ks) }
stores_after p [] = ap (λ b. record { red = p.red; blue = b }) (sym (union_empty p.blue))
stores_after p (k ∷ ks) = stores_after (moved p (Store k)) ks ∙ ap (λ b. record { red = p.red; blue = b }) (insert_first p.blue (set_of ks) k)

stores_allowed : (g : PebbleGame) (p : Position) (ks : List ℕ) → IsWithin (set_of ks) p.red → size p.red ≤ g.slots → IsPebbling g p (map Store ks)
stores_allowed g p [] h fits = tt
stores_allowed g p (k ∷ ks) h fits =
    (record { needs = h k (in_insert_same (set_of ks) k); fits = fits }, stores_allowed g (moved p (Store k)) ks (λ w i. h w (in_insert (set_of ks) k w i)) fits)

stores_cost : (g : PebbleGame) (ks : List ℕ) → cost g (map Store ks) ≡ g.store * length ks
stores_cost g [] = omega arith
stores_cost g (k ∷ ks) = omega (arith, stores_cost g ks)

stores_compute : (ks : List ℕ) → computed (map Store ks) ≡ []
stores_compute [] = refl
stores_compute (k ∷ ks) = stores_compute ks

-- ---- a step

record StepIsPlayed (g : PebbleGame) (p : Position) (s : Step) : Type 0 where
  allowed : IsPebbling g p (step_moves g p s)
  after : position_after p (step_moves g p s) ≡ stepped g p s
  costs : cost g (step_moves g p s) ≡ step_cost g p s
  fits : size (stepped g p s).red ≤ g.slots
  computes : (ms : List Move) → computed (step_moves g p s ++ ms) ≡ worked_by s (computed ms)

module _ (g : PebbleGame) (dag : IsDag g.dag) (p : Position) (v : ℕ) (can : CanWork g p v) where
  missing_below : (q : ℕ) → q ∈ difference (g.dag.preds v) p.red → q < g.dag.count
  missing_below q h =
      let vertex = live_vertex g.dag dag v can.live in let below = dag.preds_below v q (difference_first (g.dag.preds v) p.red q h) in omega arith

  missing_blue : IsWithin (difference (g.dag.preds v) p.red) p.blue
  missing_blue q h =
      let first = difference_first (g.dag.preds v) p.red q h in let second = difference_second (g.dag.preds v) p.red q h in
      let held = can.preds_held q first in grind (arith, membership)

  loaded_red : union p.red (set_of (rising g.dag.count (difference (g.dag.preds v) p.red))) ≡ union p.red (g.dag.preds v)
  loaded_red = ap (λ s. union p.red s) (set_of_rising g.dag.count _ missing_below) ∙ union_difference p.red (g.dag.preds v)

  loaded : position_after p (map Load (rising g.dag.count (difference (g.dag.preds v) p.red))) ≡ record { red = union p.red (g.dag.preds v); blue = p.blue }
  loaded = loads_after p _ ∙ ap (λ r. record { red = r; blue = p.blue }) loaded_red

  grows : (s : Vertices) (k : ℕ) → IsWithin s (insert s k)
  grows s k q h = in_insert s k q h

  loads_pebble : IsPebbling g p (map Load (rising g.dag.count (difference (g.dag.preds v) p.red)))
  loads_pebble =
      loads_allowed g p (rising g.dag.count (difference (g.dag.preds v) p.red))
      (subst (λ s. IsWithin s p.blue) (sym (set_of_rising g.dag.count _ missing_below)) missing_blue)
      (let less = size_within _ _ (grows (union p.red (g.dag.preds v)) v) in let fits = can.fits in let whole = ap size loaded_red in omega arith)

  preds_loaded : IsWithin (g.dag.preds v) (union p.red (g.dag.preds v))
  preds_loaded q h = grind (arith, membership)

  compute_allowed : IsMove g (record { red = union p.red (g.dag.preds v); blue = p.blue }) (Compute v)
  compute_allowed = record {
    needs = record { vertex = live_vertex g.dag dag v can.live; no_input = can.no_input; preds_red = preds_loaded };
    fits = can.fits;
  }

  work_played : StepIsPlayed g p (Work v)
  work_played = record {
    allowed = append_pebbling g p _ (Compute v ∷ []) loads_pebble (subst (λ q. IsMove g q (Compute v)) (sym loaded) compute_allowed, tt);
    after = append_position p (map Load (rising g.dag.count (difference (g.dag.preds v) p.red))) (Compute v ∷ []) ∙ ap (λ q. moved q (Compute v)) loaded;
    costs =
        let whole = append_costs g (map Load (rising g.dag.count (difference (g.dag.preds v) p.red))) (Compute v ∷ []) in
        let loads = loads_cost g (rising g.dag.count (difference (g.dag.preds v) p.red)) in
        let many = ap (λ n. g.load * n) (length-rising g.dag.count _ missing_below) in
        omega arith;
    fits = can.fits;
    computes = λ ms. ap computed (append_assoc (map Load (rising g.dag.count (difference (g.dag.preds v) p.red))) (Compute v ∷ []) ms) ∙ loads_compute (rising g.dag.count (difference (g.dag.preds v) p.red)) (Compute v ∷ ms);
  }

drop_played : (g : PebbleGame) (p : Position) (u : ℕ) → size p.red ≤ g.slots → u ∈ p.red → StepIsPlayed g p (Drop u)
drop_played g p u few red =
    let less = size_remove p.red u red in
    record {
      allowed = (record { needs = red; fits = omega arith }, tt);
      after = refl;
      costs = omega arith;
      fits = omega arith;
      computes = λ ms. refl;
    }

spill_played : (g : PebbleGame) (p : Position) (u : ℕ) → size p.red ≤ g.slots → u ∈ p.red → StepIsPlayed g p (Spill u)
spill_played g p u few red =
    let less = size_remove p.red u red in
    record {
      allowed = (record { needs = red; fits = few }, (record { needs = red; fits = omega arith }, tt));
      after = refl;
      costs = omega arith;
      fits = omega arith;
      computes = λ ms. refl;
    }

step_played : (g : PebbleGame) → IsDag g.dag → (p : Position) → size p.red ≤ g.slots → (s : Step) → IsStep g p s → StepIsPlayed g p s
step_played g dag p few (Work v) can = work_played g dag p v can
step_played g dag p few (Drop u) can = drop_played g p u few can.red
step_played g dag p few (Spill u) can = spill_played g p u few can.drop.red

-- ---- the finish

finish_below : (g : PebbleGame) → IsDag g.dag → (p : Position) (q : ℕ) → q ∈ difference g.dag.outputs p.blue → q < g.dag.count
finish_below g dag p q h = dag.outputs_are_vertices q (difference_first g.dag.outputs p.blue q h)

finish_set : (g : PebbleGame) → IsDag g.dag → (p : Position) → set_of (rising g.dag.count (difference g.dag.outputs p.blue)) ≡ difference g.dag.outputs p.blue
finish_set g dag p = set_of_rising g.dag.count _ (finish_below g dag p)

finish_red : (g : PebbleGame) (p : Position) → CanFinish g p → IsWithin (difference g.dag.outputs p.blue) p.red
finish_red g p can q h =
    let first = difference_first g.dag.outputs p.blue q h in let second = difference_second g.dag.outputs p.blue q h in
    let held = can q first in grind (arith, membership)

stored_blue : (s t : Vertices) → IsWithin s (union t (difference s t))
stored_blue s t q h = grind (arith, membership)

finish_played : (g : PebbleGame) → IsDag g.dag → (p : Position) → size p.red ≤ g.slots → CanFinish g p → IsPlayed g p []
finish_played g dag p few can = record {
  complete = record {
    pebbling = stores_allowed g p _ (subst (λ s. IsWithin s p.red) (sym (finish_set g dag p)) (finish_red g p can)) few;
    outputs_blue = subst (λ q. IsWithin g.dag.outputs q.blue) (sym (stores_after p _ ∙ ap (λ s. record { red = p.red; blue = union p.blue s }) (finish_set g dag p))) (stored_blue g.dag.outputs p.blue);
  };
  costs =
      let stores = stores_cost g (rising g.dag.count (difference g.dag.outputs p.blue)) in
      let many = ap (λ n. g.store * n) (length-rising g.dag.count _ (finish_below g dag p)) in
      omega arith;
  computes = stores_compute (rising g.dag.count (difference g.dag.outputs p.blue));
}

step_then : (g : PebbleGame) (p : Position) (s : Step) (ss : List Step) → StepIsPlayed g p s → IsPlayed g (stepped g p s) ss → IsPlayed g p (s ∷ ss)
step_then g p s ss first rest =
    let at_end = append_position p (step_moves g p s) (play_moves g (stepped g p s) ss) ∙ ap (λ q. position_after q (play_moves g (stepped g p s) ss)) first.after in
    record {
      complete = record {
        pebbling = append_pebbling g p (step_moves g p s) _ first.allowed (subst (λ q. IsPebbling g q (play_moves g (stepped g p s) ss)) (sym first.after) rest.complete.pebbling);
        outputs_blue = subst (λ q. IsWithin g.dag.outputs q.blue) (sym at_end) rest.complete.outputs_blue;
      };
      costs = let a = first.costs in let b = rest.costs in omega (arith, append_costs g (step_moves g p s) (play_moves g (stepped g p s) ss));
      computes = first.computes _ ∙ ap (worked_by s) rest.computes;
    }

pub plays_are_pebblings : PlaysArePebblings
plays_are_pebblings g dag p few [] h = finish_played g dag p few h.finishes
plays_are_pebblings g dag p few (s ∷ ss) h =
    let first = step_played g dag p few s h.play.0 in
    step_then g p s ss first (plays_are_pebblings g dag (stepped g p s) first.fits ss (record { play = h.play.1; finishes = h.finishes }))

pub plans_are_pebblings : PlansArePebblings
plans_are_pebblings g dag ss h = plays_are_pebblings g dag (start g) (let none = size_empty in omega arith) ss h
