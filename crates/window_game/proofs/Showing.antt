-- The steps that a window shows of a play are possible there, and cost what the play pays for the window's charges.
use Rattle.std.proofs.Common.{◌≡◌, ℕ, ◌+◌, ◌*◌, Bool, true, false, cond, ltb, ◌||◌, List, [], ◌∷◌, inl, inr, sym, refl, ap, subst, arith}
use Rattle.std.specs.FinSet.{empty, contains, insert, remove, union, intersection, difference}
use Rattle.std.proofs.lemmas.Bool.{cases_Bool}
use Rattle.std.proofs.lemmas.Bool.Decides.{nat_tests}
use Rattle.comp_graph.specs.Vertices.{Vertices, ◌∈◌, ◌∉◌, IsWithin, IsOutside, size}
use Rattle.comp_graph.specs.Sets.{same, membership}
use Rattle.comp_graph.specs.Dags.{IsDag, IsPath, here, edge, is_live}
use Rattle.comp_graph.specs.Games.{PebbleGame}
use Rattle.comp_graph.proofs.Sets.{size_within, size_empty, size_of_member, both_parts, either_two, in_both, in_insert, insert_cases, worked_cases, in_removed}
use Rattle.comp_graph.proofs.DagLaws.{live_by_paths}
use Rattle.pebble_rules.specs.Rules.{start}
use Rattle.pebble_rules.specs.declared.position.Position.{Position}
use Rattle.pebble_rules.proofs.Possible.{no_preds}
use Rattle.normal_steps.specs.declared.step.Step.{Step}
use Rattle.normal_steps.specs.declared.step.Step.TheVariants.{Work, Drop, Spill}
use Rattle.normal_steps.specs.Steps.{CanWork, CanDrop, CanSpill, IsStep, stepped, IsPlay, play_after, CanFinish}
use Rattle.window_game.specs.Windows.{Window, IsWindow, kept, known, sees}
use Rattle.window_game.specs.Plays.{start_in, IsPossibleStep, stepped_in, step_cost_in, IsPossiblePlay, play_after_in, CanFinishIn, total_cost_in}
use Rattle.window_game.specs.Views.{shown_before, shown, paid_by, paid, PlaysShow}

abbrev at_position : Vertices → Vertices → Position
at_position r b = record { red = r; blue = b }

-- ---- sets

left_of : (s t : Vertices) (q : ℕ) → q ∈ s → q ∈ union s t
left_of s t q h = grind (arith, membership)

right_of : (s t : Vertices) (q : ℕ) → q ∈ t → q ∈ union s t
right_of s t q h = grind (arith, membership)

-- the red vertices that are tracked, after Work
red_worked : (r t p : Vertices) (v : ℕ) → intersection (insert (union (intersection r t) p) v) t ≡ intersection (insert (union r p) v) t
red_worked r t p v = same _ _ (λ q. grind (arith, membership))

red_unseen : (r t p : Vertices) (v : ℕ) → v ∉ t → IsOutside p t → intersection (insert (union r p) v) t ≡ intersection r t
red_unseen r t p v out apart = same _ _ (λ q. let at = apart q in grind (arith, membership))

worked_within : (r t p : Vertices) (v : ℕ) → IsWithin (insert (union (intersection r t) p) v) (insert (union r p) v)
worked_within r t p v q h = grind (arith, membership)

-- the vertices that are seen as blue, after Work
blue_kept : (b t d k : Vertices) (v : ℕ) → v ∈ k → insert (union (intersection b t) (intersection d k)) v ≡ union (intersection b t) (intersection (insert d v) k)
blue_kept b t d k v h = same _ _ (λ q. grind (arith, membership))

blue_not_kept : (b t d k : Vertices) (v : ℕ) → v ∉ k → union (intersection b t) (intersection d k) ≡ union (intersection b t) (intersection (insert d v) k)
blue_not_kept b t d k v h = same _ _ (λ q. grind (arith, membership))

blue_worked : (b t d k : Vertices) (v : ℕ) → cond (contains k v) (insert (union (intersection b t) (intersection d k)) v) (union (intersection b t) (intersection d k))
    ≡ union (intersection b t) (intersection (insert d v) k)
blue_worked b t d k v = elim (contains k v) as (λ c. contains k v ≡ c → cond c (insert (union (intersection b t) (intersection d k)) v) (union (intersection b t) (intersection d k)) ≡ union (intersection b t) (intersection (insert d v) k)) [
  | true ↦ λ h. blue_kept b t d k v h
  | false ↦ λ h. blue_not_kept b t d k v h
] refl

-- Drop and Spill
red_dropped : (r t : Vertices) (u : ℕ) → remove (intersection r t) u ≡ intersection (remove r u) t
red_dropped r t u = same _ _ (λ q. grind (arith, membership))

red_drop_unseen : (r t : Vertices) (u : ℕ) → u ∉ t → intersection (remove r u) t ≡ intersection r t
red_drop_unseen r t u h = same _ _ (λ q. grind (arith, membership))

blue_stored : (b t c : Vertices) (u : ℕ) → u ∈ t → insert (union (intersection b t) c) u ≡ union (intersection (insert b u) t) c
blue_stored b t c u h = same _ _ (λ q. grind (arith, membership))

blue_stored_before : (b t c : Vertices) (u : ℕ) → u ∈ c → union (intersection b t) c ≡ union (intersection (insert b u) t) c
blue_stored_before b t c u h = same _ _ (λ q. grind (arith, membership))

blue_store_unseen : (b t c : Vertices) (u : ℕ) → u ∉ t → union (intersection (insert b u) t) c ≡ union (intersection b t) c
blue_store_unseen b t c u h = same _ _ (λ q. grind (arith, membership))

-- charged loads, and outputs whose store is charged
loads_seen : (l r t : Vertices) → IsWithin l t → difference l (intersection r t) ≡ difference l r
loads_seen l r t within = same _ _ (λ q. let at = within q in grind (arith, membership))

stores_seen : (o c b t k : Vertices) → IsWithin c t → IsOutside c k → (d : Vertices) → difference (intersection o c) (union (intersection b t) (intersection d k)) ≡ difference (intersection o c) b
stores_seen o c b t k within apart d = same _ _ (λ q. let at = within q in let out = apart q in grind (arith, membership))

-- ---- what is kept along a play: all pebbles are on inputs and on vertices that were worked on, whose operands are such vertices too

record IsKnown (g : PebbleGame) (p : Position) (done : Vertices) : Type 0 where
  red_made : IsWithin p.red (union g.dag.inputs done)
  blue_made : IsWithin p.blue (union g.dag.inputs done)
  operands_made : (v : ℕ) → v ∈ done → IsWithin (g.dag.preds v) (union g.dag.inputs done)
  inputs_blue : IsWithin g.dag.inputs p.blue

abbrev done_after : Vertices → Step → Vertices
done_after done (Work v) = insert done v
done_after done (Drop u) = done
done_after done (Spill u) = done

more_made : (i d : Vertices) (v q : ℕ) → q ∈ union i d → q ∈ union i (insert d v)
more_made i d v q h = grind (arith, membership)

new_made : (i d : Vertices) (v : ℕ) → v ∈ union i (insert d v)
new_made i d v = grind (arith, membership)

module _ (g : PebbleGame) (dag : IsDag g.dag) where
  -- an operand of a legal Work is an input or was worked on
  operand_made : (p : Position) (done : Vertices) → IsKnown g p done → (v : ℕ) → CanWork g p v → IsWithin (g.dag.preds v) (union g.dag.inputs done)
  operand_made p done is v can u pred = elim (either_two p.red p.blue u (can.preds_held u pred)) [
    | inl red ↦ is.red_made u red
    | inr blue ↦ is.blue_made u blue
  ]

  known_start : IsKnown g (start g) empty
  known_start = record {
    red_made = λ v h. absurd (grind (arith, membership));
    blue_made = λ v h. left_of g.dag.inputs empty v h;
    operands_made = λ v h. absurd (grind (arith, membership));
    inputs_blue = λ v h. h;
  }

  known_next : (p : Position) (done : Vertices) → IsKnown g p done → (s : Step) → IsStep g p s → IsKnown g (stepped g p s) (done_after done s)
  known_next p done is (Work v) can = record {
    red_made = λ q h. elim (worked_cases p.red (g.dag.preds v) v q h) [
      | inl e ↦ subst (λ x. x ∈ union g.dag.inputs (insert done v)) (sym e) (new_made g.dag.inputs done v)
      | inr (inl red) ↦ more_made g.dag.inputs done v q (is.red_made q red)
      | inr (inr pred) ↦ more_made g.dag.inputs done v q (operand_made p done is v can q pred)
    ];
    blue_made = λ q h. more_made g.dag.inputs done v q (is.blue_made q h);
    operands_made = λ x h u pred. more_made g.dag.inputs done v u (elim (insert_cases done v x h) [
      | inl e ↦ operand_made p done is v can u (subst (λ y. u ∈ g.dag.preds y) e pred)
      | inr old ↦ is.operands_made x old u pred
    ]);
    inputs_blue = is.inputs_blue;
  }
  known_next p done is (Drop u) can = record {
    red_made = λ q h. is.red_made q (in_removed p.red u q h);
    blue_made = is.blue_made;
    operands_made = is.operands_made;
    inputs_blue = is.inputs_blue;
  }
  known_next p done is (Spill u) can = record {
    red_made = λ q h. is.red_made q (in_removed p.red u q h);
    blue_made = λ q h. elim (insert_cases p.blue u q h) [
      | inl e ↦ subst (λ x. x ∈ union g.dag.inputs done) (sym e) (is.red_made u can.drop.red)
      | inr old ↦ is.blue_made q old
    ];
    operands_made = is.operands_made;
    inputs_blue = λ q h. in_insert p.blue u q (is.inputs_blue q h);
  }

  -- at the end of a play that finishes each live vertex is an input or was worked on
  made_along : (p : Position) (done : Vertices) → IsKnown g p done → CanFinish g p → (v o : ℕ) → IsPath g.dag v o → o ∈ g.dag.outputs → v ∈ union g.dag.inputs done
  made_along p done is finish v o here out = elim (either_two p.red p.blue v (finish v out)) [
    | inl red ↦ is.red_made v red
    | inr blue ↦ is.blue_made v blue
  ]
  made_along p done is finish v o (edge x below pred rest) out = elim (either_two g.dag.inputs done x (made_along p done is finish x o rest out)) [
    | inl input ↦ absurd (no_preds (g.dag.preds x) v (dag.inputs_have_no_preds x input) pred)
    | inr old ↦ is.operands_made x old v pred
  ]

  live_made : (p : Position) (done : Vertices) → IsKnown g p done → CanFinish g p → (v : ℕ) → is_live g.dag v ≡ true → v ∈ union g.dag.inputs done
  live_made p done is finish v live =
      let out = (live_by_paths g.dag dag v).0 live in
      made_along p done is finish v out.output out.path out.is_output

  -- ---- the view of a window

  module _ (w : Window) (ok : IsWindow g w) where
    abbrev view : Position → Vertices → Position
    view p done = at_position (intersection p.red w.tracked) (union (intersection p.blue w.tracked) (intersection done (kept w)))

    -- a step of the game shows as a step of the window
    record ShowsAs (p : Position) (done : Vertices) (s : Step) (q : Position) (after : Vertices) (c : ℕ) : Type 0 where
      step : IsPossibleStep g w (view p done) s
      leads : stepped_in g w (view p done) s ≡ view q after
      costs : step_cost_in g w (view p done) s ≡ c

    operands_seen : (p : Position) (done : Vertices) → IsKnown g p done → (v : ℕ) → CanWork g p v
        → IsWithin (intersection (g.dag.preds v) (known w)) (union (view p done).red (view p done).blue)
    operands_seen p done is v can q h =
        let pair = both_parts (g.dag.preds v) (known w) q h in
        elim (either_two w.tracked w.required q pair.1) [
          | inl tracked ↦ (let held = can.preds_held q pair.0 in held_seen q held tracked)
          | inr required ↦ (let made = operand_made p done is v can q pair.0 in let out = ok.required_computed q required in done_seen q made out required)
        ]
      where
        held_seen : (q : ℕ) → q ∈ union p.red p.blue → q ∈ w.tracked → q ∈ union (intersection p.red w.tracked) (union (intersection p.blue w.tracked) (intersection done (kept w)))
        held_seen q h t = grind (arith, membership)

        done_seen : (q : ℕ) → q ∈ union g.dag.inputs done → q ∉ g.dag.inputs → q ∈ w.required → q ∈ union (intersection p.red w.tracked) (union (intersection p.blue w.tracked) (intersection done (kept w)))
        done_seen q h out r = grind (arith, membership)

    work_shows : (p : Position) (done : Vertices) → IsKnown g p done → (v : ℕ) → CanWork g p v → sees g w v ≡ true
        → ShowsAs p done (Work v) (stepped g p (Work v)) (insert done v) (paid_by g w p (Work v))
    work_shows p done is v can seen = record {
      step = record {
        seen = seen;
        live = can.live;
        no_input = can.no_input;
        preds_held = operands_seen p done is v can;
        fits = let less = size_within _ _ (worked_within p.red w.tracked (g.dag.preds v) v) in let fits = can.fits in omega arith;
      };
      leads = λ i. at_position (red_worked p.red w.tracked (g.dag.preds v) v i) (blue_worked p.blue w.tracked done (kept w) v i);
      costs = ap (λ s. g.load * size s) (loads_seen (w.loads v) p.red w.tracked (ok.loads_tracked v));
    }

    -- Work that the window does not see changes nothing there
    record ShowsNothing (p : Position) (done : Vertices) (q : Position) (after : Vertices) (c : ℕ) : Type 0 where
      stays : view q after ≡ view p done
      free : c ≡ 0

    unseen_parts : (a : Bool) (n : ℕ) → (a || ltb 0 n) ≡ false → (a ≡ false) × (n ≡ 0)
    unseen_parts a n e = (grind (arith, nat_tests), grind (arith, nat_tests))

    unknown : (v : ℕ) → v ∉ known w → (v ∉ w.tracked) × (v ∉ kept w)
    unknown v h = (grind (arith, membership), grind (arith, membership))

    no_common : (s t : Vertices) → size (intersection s t) ≡ 0 → IsOutside s t
    no_common s t none q h = elim (cases_Bool (contains t q)) as (λ _. q ∉ t) [
      | inl both ↦ absurd (let some = size_of_member (intersection s t) q (in_both s t q h both) in omega arith)
      | inr out ↦ out
    ]

    none_loaded : (l r p t : Vertices) → IsWithin l p → IsWithin l t → IsOutside p t → difference l r ≡ empty
    none_loaded l r p t a b apart = same _ _ (λ q. let x = a q in let y = b q in let z = apart q in grind (arith, membership))

    work_unseen : (p : Position) (done : Vertices) (v : ℕ) → sees g w v ≡ false → ShowsNothing p done (stepped g p (Work v)) (insert done v) (paid_by g w p (Work v))
    work_unseen p done v unseen =
        let parts = unseen_parts (contains (known w) v) (size (intersection (g.dag.preds v) w.tracked)) unseen in
        let out = unknown v parts.0 in
        let apart = no_common (g.dag.preds v) w.tracked parts.1 in
        record {
          stays = λ i. at_position (red_unseen p.red w.tracked (g.dag.preds v) v out.0 apart i) (sym (blue_not_kept p.blue w.tracked done (kept w) v out.1) i);
          free =
              let none = ap (λ s. g.load * size s) (none_loaded (w.loads v) p.red (g.dag.preds v) w.tracked (ok.loads_read v) (ok.loads_tracked v) apart) in
              let zero = ap (λ n. g.load * n) size_empty in
              omega arith;
        }

    -- Drop
    drop_shows : (p : Position) (done : Vertices) → IsKnown g p done → (u : ℕ) → CanDrop g p u → u ∈ w.tracked → ShowsAs p done (Drop u) (stepped g p (Drop u)) done 0
    drop_shows p done is u can tracked = record {
      step = in_both p.red w.tracked u can.red tracked;
      leads = λ i. at_position (red_dropped p.red w.tracked u i) (view p done).blue;
      costs = refl;
    }

    drop_unseen : (p : Position) (done : Vertices) (u : ℕ) → u ∉ w.tracked → ShowsNothing p done (stepped g p (Drop u)) done 0
    drop_unseen p done u out = record {
      stays = λ i. at_position (red_drop_unseen p.red w.tracked u out i) (view p done).blue;
      free = refl;
    }

    -- Spill
    charged_not_kept : IsOutside w.stores (kept w)
    charged_not_kept q h = elim (cases_Bool (contains w.required q)) as (λ _. q ∉ kept w) [
      | inl required ↦ absurd (let out = ok.required_uncharged q required in grind arith)
      | inr out ↦ grind (arith, membership)
    ]

    not_blue_seen : (p : Position) (done : Vertices) (u : ℕ) → u ∉ p.blue → u ∉ kept w → u ∉ (view p done).blue
    not_blue_seen p done u a b = grind (arith, membership)

    spill_shows : (p : Position) (done : Vertices) → IsKnown g p done → (u : ℕ) → CanSpill g p u → u ∈ w.stores
        → ShowsAs p done (Spill u) (stepped g p (Spill u)) done (cond true g.store 0)
    spill_shows p done is u can charged = record {
      step = record {
        red = in_both p.red w.tracked u can.drop.red (ok.stores_tracked u charged);
        charged = charged;
        not_blue = not_blue_seen p done u can.not_blue (charged_not_kept u charged);
      };
      leads = λ i. at_position (red_dropped p.red w.tracked u i) (blue_stored p.blue w.tracked (intersection done (kept w)) u (ok.stores_tracked u charged) i);
      costs = refl;
    }

    done_kept : (u : ℕ) (done : Vertices) → u ∈ union g.dag.inputs done → u ∉ g.dag.inputs → u ∈ w.tracked → u ∉ w.stores → u ∈ intersection done (kept w)
    done_kept u done a b c d = grind (arith, membership)

    no_input_unless_blue : (p : Position) (u : ℕ) → (u ∈ g.dag.inputs → u ∈ p.blue) → u ∉ p.blue → u ∉ g.dag.inputs
    no_input_unless_blue p u a b = elim (cases_Bool (contains g.dag.inputs u)) as (λ _. u ∉ g.dag.inputs) [
      | inl input ↦ absurd (let blue = a input in grind arith)
      | inr out ↦ out
    ]

    spill_shows_as_drop : (p : Position) (done : Vertices) → IsKnown g p done → (u : ℕ) → CanSpill g p u → u ∉ w.stores → u ∈ w.tracked
        → ShowsAs p done (Drop u) (stepped g p (Spill u)) done (cond false g.store 0)
    spill_shows_as_drop p done is u can free tracked =
        let before = done_kept u done (is.red_made u can.drop.red) (no_input_unless_blue p u (is.inputs_blue u) can.not_blue) tracked free in
        record {
          step = in_both p.red w.tracked u can.drop.red tracked;
          leads = λ i. at_position (red_dropped p.red w.tracked u i) (blue_stored_before p.blue w.tracked (intersection done (kept w)) u before i);
          costs = refl;
        }

    spill_unseen : (p : Position) (done : Vertices) (u : ℕ) → u ∉ w.tracked → ShowsNothing p done (stepped g p (Spill u)) done (cond false g.store 0)
    spill_unseen p done u out = record {
      stays = λ i. at_position (red_drop_unseen p.red w.tracked u out i) (blue_store_unseen p.blue w.tracked (intersection done (kept w)) u out i);
      free = refl;
    }

    -- ---- plays

    -- steps are a play of the window from p that finishes and costs this much
    record ShowsFrom (p : Position) (ss : List Step) (pays : ℕ) : Type 0 where
      play : IsPossiblePlay g w p ss
      finishes : CanFinishIn g w (play_after_in g w p ss)
      costs : total_cost_in g w p ss ≡ pays

    one_more : (p : Position) (done : Vertices) (s : Step) (q : Position) (after : Vertices) (c : ℕ) (ss : List Step) (pays : ℕ)
        → ShowsAs p done s q after c → ShowsFrom (view q after) ss pays → ShowsFrom (view p done) (s ∷ ss) (c + pays)
    one_more p done s q after c ss pays first rest =
        let moved : ShowsFrom (stepped_in g w (view p done) s) ss pays = subst (λ x. ShowsFrom x ss pays) (sym first.leads) rest in
        record {
          play = (first.step, moved.play);
          finishes = moved.finishes;
          costs = let a = first.costs in let b = moved.costs in omega arith;
        }

    none_more : (p : Position) (done : Vertices) (q : Position) (after : Vertices) (c : ℕ) (ss : List Step) (pays : ℕ)
        → ShowsNothing p done q after c → ShowsFrom (view q after) ss pays → ShowsFrom (view p done) ss (c + pays)
    none_more p done q after c ss pays first rest =
        let moved : ShowsFrom (view p done) ss pays = subst (λ x. ShowsFrom x ss pays) first.stays rest in
        record {
          play = moved.play;
          finishes = moved.finishes;
          costs = let a = first.free in let b = moved.costs in omega arith;
        }

    step_shows : (p : Position) (done : Vertices) → IsKnown g p done → (s : Step) → IsStep g p s → (ss : List Step) (pays : ℕ)
        → ShowsFrom (view (stepped g p s) (done_after done s)) ss pays → ShowsFrom (view p done) (shown_before g w s ss) (paid_by g w p s + pays)
    step_shows p done is (Work v) can ss pays rest =
        elim (sees g w v) as (λ b. sees g w v ≡ b → ShowsFrom (view p done) (cond b (Work v ∷ ss) ss) (paid_by g w p (Work v) + pays)) [
          | true ↦ λ seen. one_more p done (Work v) _ _ _ ss pays (work_shows p done is v can seen) rest
          | false ↦ λ unseen. none_more p done _ _ _ ss pays (work_unseen p done v unseen) rest
        ] refl
    step_shows p done is (Drop u) can ss pays rest =
        elim (contains w.tracked u) as (λ b. contains w.tracked u ≡ b → ShowsFrom (view p done) (cond b (Drop u ∷ ss) ss) (0 + pays)) [
          | true ↦ λ tracked. one_more p done (Drop u) _ _ _ ss pays (drop_shows p done is u can tracked) rest
          | false ↦ λ out. none_more p done _ _ _ ss pays (drop_unseen p done u out) rest
        ] refl
    step_shows p done is (Spill u) can ss pays rest =
        elim (contains w.stores u) as (λ b. contains w.stores u ≡ b
        → ShowsFrom (view p done) (cond b (Spill u ∷ ss) (cond (contains w.tracked u) (Drop u ∷ ss) ss)) (cond b g.store 0 + pays)) [
          | true ↦ λ charged. one_more p done (Spill u) _ _ _ ss pays (spill_shows p done is u can charged) rest
          | false ↦ λ free. elim (contains w.tracked u) as (λ b. contains w.tracked u ≡ b → ShowsFrom (view p done) (cond b (Drop u ∷ ss) ss) (cond false g.store 0 + pays)) [
            | true ↦ λ tracked. one_more p done (Drop u) _ _ _ ss pays (spill_shows_as_drop p done is u can free tracked) rest
            | false ↦ λ out. none_more p done _ _ _ ss pays (spill_unseen p done u out) rest
          ] refl
        ] refl

    -- ---- the finish

    held_seen : (p : Position) (done : Vertices) (q : ℕ) → q ∈ union p.red p.blue → q ∈ w.tracked → q ∈ union (view p done).red (view p done).blue
    held_seen p done q h t = grind (arith, membership)

    required_seen : (p : Position) (done : Vertices) (q : ℕ) → q ∈ union g.dag.inputs done → q ∉ g.dag.inputs → q ∈ w.required → q ∈ (view p done).blue
    required_seen p done q h out r = grind (arith, membership)

    finish_shows : (p : Position) (done : Vertices) → IsKnown g p done → CanFinish g p → ShowsFrom (view p done) [] (paid g w p [])
    finish_shows p done is finish = record {
      play = tt;
      finishes = record {
        outputs_held = λ q h. let pair = both_parts g.dag.outputs w.tracked q h in held_seen p done q (finish q pair.0) pair.1;
        required_done = λ q h. required_seen p done q (live_made p done is finish q (ok.required_live q h)) (ok.required_computed q h) h;
      };
      costs =
          let sets = ap (λ s. g.store * size s) (stores_seen g.dag.outputs w.stores p.blue w.tracked (kept w) ok.stores_tracked charged_not_kept done) in
          omega arith;
    }

    play_shows : (p : Position) (done : Vertices) → IsKnown g p done → (ss : List Step) → IsPlay g p ss → CanFinish g (play_after g p ss) → ShowsFrom (view p done) (shown g w ss) (paid g w p ss)
    play_shows p done is [] play finish = finish_shows p done is finish
    play_shows p done is (s ∷ ss) play finish =
        step_shows p done is s play.0 (shown g w ss) (paid g w (stepped g p s) ss)
        (play_shows (stepped g p s) (done_after done s) (known_next p done is s play.0) ss play.1 finish)

    start_seen : view (start g) empty ≡ start_in g w
    start_seen = λ i. at_position (no_red i) (no_done i)
      where
        no_red : intersection empty w.tracked ≡ empty
        no_red = same _ _ (λ q. grind (arith, membership))

        no_done : union (intersection g.dag.inputs w.tracked) (intersection empty (kept w)) ≡ intersection g.dag.inputs w.tracked
        no_done = same _ _ (λ q. grind (arith, membership))

    plays_show_from_start : (ss : List Step) → IsPlay g (start g) ss → CanFinish g (play_after g (start g) ss) → ShowsFrom (start_in g w) (shown g w ss) (paid g w (start g) ss)
    plays_show_from_start ss play finish = subst (λ x. ShowsFrom x (shown g w ss) (paid g w (start g) ss)) start_seen (play_shows (start g) empty known_start ss play finish)

pub plays_show : PlaysShow
plays_show g dag w ok ss finishing =
    let seen = plays_show_from_start g dag w ok ss finishing.play finishing.finishes in
    record { play = seen.play; finishes = seen.finishes; costs = seen.costs }
