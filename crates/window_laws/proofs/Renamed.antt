-- Images of positions under automorphisms of a window stand for them.
use Rattle.std.proofs.Common.{◌≡◌, ℕ, ◌+◌, ◌*◌, ◌<◌, not, eqb, ltb, ◌&&◌, ◌||◌, Bool, true, false, cond, List, [], ◌∷◌, length, inl, inr, sym, refl, ap, ◌∙◌, subst, arith}
use Rattle.std.specs.FinSet.{empty, contains, insert, remove, union, intersection, difference}
use Rattle.std.proofs.lemmas.Bool.{cases_Bool}
use Rattle.std.proofs.lemmas.Bool.Decides.{nat_tests}
use Rattle.comp_graph.specs.Vertices.{Vertices, ◌∈◌, ◌∉◌, IsWithin, size}
use Rattle.comp_graph.specs.Sets.{same, membership, has_insert, has_remove, has_union, has_both, has_difference}
use Rattle.comp_graph.specs.Dags.{degree}
use Rattle.comp_graph.specs.Games.{PebbleGame}
use Rattle.comp_graph.proofs.Sets.{by_insert, size_insert_new, size_remove, size_split, size_within}
use Rattle.pebble_rules.specs.declared.position.Position.{Position}
use Rattle.normal_steps.specs.declared.step.Step.{Step}
use Rattle.normal_steps.specs.declared.step.Step.TheVariants.{Work, Drop, Spill}
use Rattle.normal_steps.specs.Steps.{worked}
use Rattle.comp_graph.specs.Lists.{IsIn}
use Rattle.window_game.specs.Windows.{Window, IsWindow, kept, known}
use Rattle.window_game.specs.Plays.{CanWorkIn, is_useful, IsStepIn, stepped_in, step_cost_in, IsPlayIn, play_after_in, CanFinishIn, finish_cost_in, total_cost_in}
use Rattle.window_laws.specs.Sound.{IsSoundIn}
use Rattle.window_laws.specs.Entry.{IsWorker, held_for}
use Rattle.window_laws.specs.Images.{Renaming, IsImage, IsImageOf, IsAutomorphism, IsTurnedTo, stays, turned, StandsFor, ImagesStand}
use Rattle.window_laws.proofs.SoundIn.{step_sound_in}

two : {a b c d : Bool} (f : Bool → Bool → Bool) → a ≡ b → c ≡ d → f a c ≡ f b d
two f e h = λ i. f (e i) (h i)

abbrev none : Vertices
none = empty

none_has : (v : ℕ) → v ∉ none
none_has v = grind (arith, membership)

-- ---- images of sets

both_none : (a b : ℕ) → contains none a ≡ contains none b
both_none a b = none_has a ∙ sym (none_has b)

removed : (s : Vertices) (k : ℕ) → k ∉ s → (x : ℕ) → contains (remove (insert s k) k) x ≡ contains s x
removed s k new x = ap (λ d. contains d x) (back_again s k new)
  where
    back_again : (s : Vertices) (k : ℕ) → k ∉ s → remove (insert s k) k ≡ s
    back_again s k new = same _ _ (λ q. grind (arith, membership))

added : (s : Vertices) (k : ℕ) → k ∈ insert s k
added s k = grind (arith, membership)

inner_bools : (a b c : Bool) → (a && b) ≡ ((a && (b || c)) && b)
inner_bools true true c = refl
inner_bools true false true = refl
inner_bools true false false = refl
inner_bools false b c = refl

-- the tracked ones are among the known ones
inner : (p t q : Vertices) → intersection p t ≡ intersection (intersection p (union t q)) t
inner p t q = same _ _ (λ x.
    has_both p t x ∙ inner_bools (contains p x) (contains t x) (contains q x)
    ∙ sym (has_both (intersection p (union t q)) t x ∙ ap (λ b. b && contains t x) (has_both p (union t q) x ∙ ap (λ b. contains p x && b) (has_union t q x))))

parts_bools : (e a p t : Bool) → ((e || (a || p)) && t) ≡ ((e || (a || (p && t))) && t)
parts_bools true a p t = refl
parts_bools false true p t = refl
parts_bools false false true true = refl
parts_bools false false true false = refl
parts_bools false false false t = refl

has_worked : (a p t : Vertices) (v x : ℕ) → contains (intersection (insert (union a p) v) t) x ≡ ((eqb x v || (contains a x || contains p x)) && contains t x)
has_worked a p t v x = has_both (insert (union a p) v) t x ∙ ap (λ b. b && contains t x) (has_insert (union a p) v x ∙ ap (λ b. eqb x v || b) (has_union a p x))

-- of the operands those that are tracked matter
parts : (a p t : Vertices) (v : ℕ) → intersection (insert (union a p) v) t ≡ intersection (insert (union a (intersection p t)) v) t
parts a p t v = same _ _ (λ x.
    has_worked a p t v x ∙ parts_bools (eqb x v) (contains a x) (contains p x) (contains t x)
    ∙ sym (has_worked a (intersection p t) t v x ∙ ap (λ b. (eqb x v || (contains a x || b)) && contains t x) (has_both p t x)))

module _ (r : Renaming) (there_back : (v : ℕ) → r.there (r.back v) ≡ v) (back_there : (v : ℕ) → r.back (r.there v) ≡ v) where
  -- one vertex is the other's image
  one_image : (v q : ℕ) → eqb q (r.there v) ≡ eqb (r.back q) v
  one_image v q = elim (cases_Bool (eqb q (r.there v))) as (λ _. eqb q (r.there v) ≡ eqb (r.back q) v) [
    | inl is ↦
        (let e = ap r.back (equal q (r.there v) is) ∙ back_there v in
        is ∙ sym (equals (r.back q) v e))
    | inr not ↦ not ∙ sym (elim (cases_Bool (eqb (r.back q) v)) as (λ _. eqb (r.back q) v ≡ false) [
      | inl also ↦ absurd (let e = sym (there_back q) ∙ ap r.there (equal (r.back q) v also) in let is = equals q (r.there v) e in grind arith)
      | inr no_more ↦ no_more
    ])
  ]
    where
      equal : (a b : ℕ) → eqb a b ≡ true → a ≡ b
      equal a b h = grind (arith, nat_tests)

      equals : (a b : ℕ) → a ≡ b → eqb a b ≡ true
      equals a b h = grind (arith, nat_tests)

  insert_image : (s t : Vertices) (v : ℕ) → IsImage r s t → IsImage r (insert s v) (insert t (r.there v))
  insert_image s t v is q = has_insert t (r.there v) q ∙ two (λ a b. a || b) (one_image v q) (is q) ∙ sym (has_insert s v (r.back q))

  remove_image : (s t : Vertices) (v : ℕ) → IsImage r s t → IsImage r (remove s v) (remove t (r.there v))
  remove_image s t v is q = has_remove t (r.there v) q ∙ two (λ a b. not a && b) (one_image v q) (is q) ∙ sym (has_remove s v (r.back q))

  union_image : (s t u v : Vertices) → IsImage r s t → IsImage r u v → IsImage r (union s u) (union t v)
  union_image s t u v a b q = has_union t v q ∙ two (λ a b. a || b) (a q) (b q) ∙ sym (has_union s u (r.back q))

  both_image : (s t u v : Vertices) → IsImage r s t → IsImage r u v → IsImage r (intersection s u) (intersection t v)
  both_image s t u v a b q = has_both t v q ∙ two (λ a b. a && b) (a q) (b q) ∙ sym (has_both s u (r.back q))

  difference_image : (s t u v : Vertices) → IsImage r s t → IsImage r u v → IsImage r (difference s u) (difference t v)
  difference_image s t u v a b q = has_difference t v q ∙ two (λ a b. a && not b) (a q) (b q) ∙ sym (has_difference s u (r.back q))

  image_within : (s t u v : Vertices) → IsImage r s t → IsImage r u v → IsWithin s u → IsWithin t v
  image_within s t u v a b within q h = b q ∙ within (r.back q) (sym (a q) ∙ h)

  -- an image has as many members
  size_image : (s t : Vertices) → IsImage r s t → size t ≡ size s
  size_image = by_insert (λ s. (t : Vertices) → IsImage r s t → size t ≡ size s)
      (λ t is. ap size (same t none (λ q. is q ∙ both_none (r.back q) q)))
      (λ s k new before t is.
      let fewer = before (remove t (r.there k)) (λ q. remove_image (insert s k) t k is q ∙ removed s k new (r.back q)) in
      let member : r.there k ∈ t = is (r.there k) ∙ ap (contains (insert s k)) (back_there k) ∙ added s k in
      let one = size_remove t (r.there k) member in
      let more = size_insert_new s k new in
      omega arith)

-- ---- positions

abbrev renamed_step : Renaming → Step → Step
renamed_step r (Work v) = Work (r.there v)
renamed_step r (Drop u) = Drop (r.there u)
renamed_step r (Spill u) = Spill (r.there u)

abbrev renamed : Renaming → List Step → List Step
renamed r [] = []
renamed r (s ∷ ss) = renamed_step r s ∷ renamed r ss

-- what is known of a set inside another
narrow : (a k : Vertices) (q : ℕ) (t : Bool) → contains k q ≡ true → contains (intersection a k) q ≡ t → contains a q ≡ t
narrow a k q t is e = sym (has_both a k q ∙ ap (λ b. contains a q && b) is ∙ simple (contains a q)) ∙ e
  where
    simple : (b : Bool) → (b && true) ≡ b
    simple true = refl
    simple false = refl

module _ (g : PebbleGame) (w : Window) (ok : IsWindow g w) (r : Renaming) (auto : IsAutomorphism g w r) where
  known_image : IsImage r (known w) (known w)
  known_image = union_image r auto.there_back auto.back_there w.tracked w.tracked w.required w.required auto.tracked auto.required

  kept_image : IsImage r (kept w) (kept w)
  kept_image =
      union_image r auto.there_back auto.back_there w.required w.required (difference w.tracked w.stores) (difference w.tracked w.stores) auto.required
      (difference_image r auto.there_back auto.back_there w.tracked w.tracked w.stores w.stores auto.tracked auto.stores)

  at_there : (s t : Vertices) → IsImage r s t → (v : ℕ) → contains t (r.there v) ≡ contains s v
  at_there s t is v = is (r.there v) ∙ ap (contains s) (auto.back_there v)

  -- operands that are tracked
  tracked_operands : (v : ℕ) → IsWorker g w v → IsImage r (intersection (g.dag.preds v) w.tracked) (intersection (g.dag.preds (r.there v)) w.tracked)
  tracked_operands v work q =
      ap (λ s. contains s q) (inner (g.dag.preds (r.there v)) w.tracked w.required)
      ∙ both_image r auto.there_back auto.back_there (intersection (g.dag.preds v) (known w)) (intersection (g.dag.preds (r.there v)) (known w)) w.tracked w.tracked (auto.operands v work) auto.tracked q
      ∙ sym (ap (λ s. contains s (r.back q)) (inner (g.dag.preds v) w.tracked w.required))

  -- the red vertices after Work
  worked_image : (red other : Vertices) → IsImage r red other → (v : ℕ) → IsWorker g w v
      → IsImage r (intersection (worked g red v) w.tracked) (intersection (worked g other (r.there v)) w.tracked)
  worked_image red other is v work q =
      ap (λ s. contains s q) (parts other (g.dag.preds (r.there v)) w.tracked (r.there v))
      ∙ both_image r auto.there_back auto.back_there (insert (union red (intersection (g.dag.preds v) w.tracked)) v)
      (insert (union other (intersection (g.dag.preds (r.there v)) w.tracked)) (r.there v)) w.tracked w.tracked
      (insert_image r auto.there_back auto.back_there (union red (intersection (g.dag.preds v) w.tracked)) (union other (intersection (g.dag.preds (r.there v)) w.tracked)) v
      (union_image r auto.there_back auto.back_there red other (intersection (g.dag.preds v) w.tracked) (intersection (g.dag.preds (r.there v)) w.tracked) is (tracked_operands v work)))
      auto.tracked q
      ∙ sym (ap (λ s. contains s (r.back q)) (parts red (g.dag.preds v) w.tracked v))

  -- the slots that a Work needs
  slots_by_parts : (red : Vertices) (v : ℕ) → IsWithin red w.tracked → size (worked g red v) ≡ size (intersection (worked g red v) w.tracked) + size (difference (held_for g v) w.tracked)
  slots_by_parts red v within =
      let parts = size_split (worked g red v) w.tracked in
      let outer = ap size (outside red (g.dag.preds v) w.tracked v within) in
      omega arith
    where
      outside : (a p t : Vertices) (v : ℕ) → IsWithin a t → difference (insert (union a p) v) t ≡ difference (insert p v) t
      outside a p t v within = same _ _ (λ x. let at = within x in grind (arith, membership))

  blue_image : (b c : Vertices) → IsImage r b c → (v : ℕ) → IsImage r (cond (contains (kept w) v) (insert b v) b) (cond (contains (kept w) (r.there v)) (insert c (r.there v)) c)
  blue_image b c is v =
      subst (λ t. IsImage r (cond (contains (kept w) v) (insert b v) b) (cond t (insert c (r.there v)) c)) (sym (at_there (kept w) (kept w) kept_image v))
      (by_case (contains (kept w) v))
    where
      by_case : (t : Bool) → IsImage r (cond t (insert b v) b) (cond t (insert c (r.there v)) c)
      by_case true = insert_image r auto.there_back auto.back_there b c v is
      by_case false = is

  -- ---- steps

  record StepsAlong (p q : Position) (s : Step) : Type 0 where
    step : IsStepIn g w q (renamed_step r s)
    image : IsImageOf r (stepped_in g w p s) (stepped_in g w q (renamed_step r s))
    costs : step_cost_in g w q (renamed_step r s) ≡ step_cost_in g w p s

  worker : (p : Position) (v : ℕ) → CanWorkIn g w p v → IsWorker g w v
  worker p v can = record {
    seen = can.seen;
    live = can.live;
    no_input = can.no_input;
    fits = let less = size_within _ _ (alone p.red (g.dag.preds v) v) in let fits = can.fits in omega arith;
  }
    where
      alone : (r p : Vertices) (v : ℕ) → IsWithin (insert p v) (insert (union r p) v)
      alone r p v q h = grind (arith, membership)

  -- a useful Work has a useful image
  useful_along : (p q : Position) → IsImageOf r p q → (v : ℕ) → IsWorker g w v → is_useful g w q (r.there v) ≡ is_useful g w p v
  useful_along p q is v work =
      three (at_there (difference w.tracked p.red) (difference w.tracked q.red) (difference_image r auto.there_back auto.back_there w.tracked w.tracked p.red q.red auto.tracked is.red) v)
      (at_there (difference (kept w) p.blue) (difference (kept w) q.blue) (difference_image r auto.there_back auto.back_there (kept w) (kept w) p.blue q.blue kept_image is.blue) v)
      (size_image r auto.there_back auto.back_there (difference (intersection (g.dag.preds v) w.tracked) (union (w.loads v) p.red)) (difference (intersection (g.dag.preds (r.there v)) w.tracked) (union (w.loads (r.there v)) q.red))
      (difference_image r auto.there_back auto.back_there (intersection (g.dag.preds v) w.tracked) (intersection (g.dag.preds (r.there v)) w.tracked) (union (w.loads v) p.red) (union (w.loads (r.there v)) q.red)
      (tracked_operands v work) (union_image r auto.there_back auto.back_there (w.loads v) (w.loads (r.there v)) p.red q.red (auto.loads v work) is.red)))
    where
      three : {a b c d : Bool} {m n : ℕ} → a ≡ b → c ≡ d → m ≡ n → (a || (c || ltb 0 m)) ≡ (b || (d || ltb 0 n))
      three e h k = λ i. e i || (h i || ltb 0 (k i))

  work_along : (p q : Position) → IsSoundIn g w p → IsImageOf r p q → (v : ℕ) → IsStepIn g w p (Work v) → StepsAlong p q (Work v)
  work_along p q sound is v can =
      let work = worker p v can.0 in
      let image = auto.workers v work in
      record {
        step = (
          record {
            seen = image.seen;
            live = image.live;
            no_input = image.no_input;
            preds_held = image_within r auto.there_back auto.back_there (intersection (g.dag.preds v) (known w)) (intersection (g.dag.preds (r.there v)) (known w)) (union p.red p.blue) (union q.red q.blue)
                (auto.operands v work) (union_image r auto.there_back auto.back_there p.red q.red p.blue q.blue is.red is.blue) can.0.preds_held;
            fits =
                let here = slots_by_parts p.red v sound.red_tracked in
                let there = slots_by_parts q.red (r.there v) (image_within r auto.there_back auto.back_there p.red q.red w.tracked w.tracked is.red auto.tracked sound.red_tracked) in
                let inner = size_image r auto.there_back auto.back_there _ _ (worked_image p.red q.red is.red v work) in
                let outer = auto.rest v work in
                let fits = can.0.fits in
                omega arith;
          },
          useful_along p q is v work ∙ can.1,
        );
        image = record { red = worked_image p.red q.red is.red v work; blue = blue_image p.blue q.blue is.blue v };
        costs = ap (λ n. g.load * n) (size_image r auto.there_back auto.back_there (difference (w.loads v) p.red) (difference (w.loads (r.there v)) q.red)
            (difference_image r auto.there_back auto.back_there (w.loads v) (w.loads (r.there v)) p.red q.red (auto.loads v work) is.red));
      }

  crowded_along : (p q : Position) → IsImageOf r p q → g.slots < size p.red + degree g.dag + 1 → g.slots < size q.red + degree g.dag + 1
  crowded_along p q is crowded = let many = size_image r auto.there_back auto.back_there p.red q.red is.red in omega arith

  step_along : (p q : Position) → IsSoundIn g w p → IsImageOf r p q → (s : Step) → IsStepIn g w p s → StepsAlong p q s
  step_along p q sound is (Work v) can = work_along p q sound is v can
  step_along p q sound is (Drop u) can = record {
    step = (at_there p.red q.red is.red u ∙ can.0, crowded_along p q is can.1);
    image = record { red = remove_image r auto.there_back auto.back_there p.red q.red u is.red; blue = is.blue };
    costs = refl;
  }
  step_along p q sound is (Spill u) can = record {
    step = (
      record {
        red = at_there p.red q.red is.red u ∙ can.0.red;
        charged = at_there w.stores w.stores auto.stores u ∙ can.0.charged;
        not_blue = at_there p.blue q.blue is.blue u ∙ can.0.not_blue;
      },
      crowded_along p q is can.1,
    );
    image = record {
      red = remove_image r auto.there_back auto.back_there p.red q.red u is.red;
      blue = insert_image r auto.there_back auto.back_there p.blue q.blue u is.blue;
    };
    costs = refl;
  }

  -- ---- the finish

  charged_outputs : IsImage r (intersection g.dag.outputs w.stores) (intersection g.dag.outputs w.stores)
  charged_outputs q =
      ap (λ s. contains s q) (charged_inner g.dag.outputs w.stores w.tracked ok.stores_tracked)
      ∙ both_image r auto.there_back auto.back_there (intersection g.dag.outputs w.tracked) (intersection g.dag.outputs w.tracked) w.stores w.stores auto.outputs auto.stores q
      ∙ sym (ap (λ s. contains s (r.back q)) (charged_inner g.dag.outputs w.stores w.tracked ok.stores_tracked))
    where
      charged_inner : (o c t : Vertices) → IsWithin c t → intersection o c ≡ intersection (intersection o t) c
      charged_inner o c t within = same _ _ (λ x. let at = within x in grind (arith, membership))

  finish_along : (p q : Position) → IsImageOf r p q → CanFinishIn g w p → CanFinishIn g w q
  finish_along p q is finish = record {
    outputs_held = image_within r auto.there_back auto.back_there (intersection g.dag.outputs w.tracked) (intersection g.dag.outputs w.tracked) (union p.red p.blue) (union q.red q.blue)
        auto.outputs (union_image r auto.there_back auto.back_there p.red q.red p.blue q.blue is.red is.blue) finish.outputs_held;
    required_done = image_within r auto.there_back auto.back_there w.required w.required p.blue q.blue auto.required is.blue finish.required_done;
  }

  finish_cost_along : (p q : Position) → IsImageOf r p q → finish_cost_in g w q ≡ finish_cost_in g w p
  finish_cost_along p q is = ap (λ n. g.store * n) (size_image r auto.there_back auto.back_there _ _
      (difference_image r auto.there_back auto.back_there (intersection g.dag.outputs w.stores) (intersection g.dag.outputs w.stores) p.blue q.blue charged_outputs is.blue))

  sound_along : (p q : Position) → IsImageOf r p q → IsSoundIn g w p → IsSoundIn g w q
  sound_along p q is sound = record {
    red_tracked = image_within r auto.there_back auto.back_there p.red q.red w.tracked w.tracked is.red auto.tracked sound.red_tracked;
    blue_known = image_within r auto.there_back auto.back_there p.blue q.blue (known w) (known w) is.blue known_image sound.blue_known;
    inputs_blue = image_within r auto.there_back auto.back_there (intersection g.dag.inputs w.tracked) (intersection g.dag.inputs w.tracked) p.blue q.blue auto.inputs is.blue sound.inputs_blue;
    fits = let many = size_image r auto.there_back auto.back_there p.red q.red is.red in let fits = sound.fits in omega arith;
  }

  -- ---- plays

  record PlaysAlong (p q : Position) (ss : List Step) : Type 0 where
    play : IsPlayIn g w q (renamed r ss)
    finishes : CanFinishIn g w (play_after_in g w q (renamed r ss))
    costs : total_cost_in g w q (renamed r ss) ≡ total_cost_in g w p ss

  play_along : (ss : List Step) (p q : Position) → IsSoundIn g w p → IsImageOf r p q → IsPlayIn g w p ss → CanFinishIn g w (play_after_in g w p ss) → PlaysAlong p q ss
  play_along [] p q sound is play finish = record {
    play = tt;
    finishes = finish_along p q is finish;
    costs = let e = finish_cost_along p q is in omega arith;
  }
  play_along (s ∷ ss) p q sound is play finish =
      let here = step_along p q sound is s play.0 in
      let rest = play_along ss (stepped_in g w p s) (stepped_in g w q (renamed_step r s)) (step_sound_in g w ok p sound s play.0) here.image play.1 finish in
      record {
        play = (here.step, rest.play);
        finishes = rest.finishes;
        costs = let a = here.costs in let b = rest.costs in omega arith;
      }

  same_length : (ss : List Step) → length (renamed r ss) ≡ length ss
  same_length [] = refl
  same_length (s ∷ ss) = let rest = same_length ss in omega arith

  image_stands : (p q : Position) → IsSoundIn g w p → IsImageOf r p q → StandsFor g w q p
  image_stands p q sound is = record {
    sound = sound_along p q is sound;
    matched = λ ss finishing.
        let along = play_along ss p q sound is finishing.play finishing.finishes in
        record {
          steps = renamed r ss;
          finishing = record { play = along.play; finishes = along.finishes };
          shorter = let e = same_length ss in omega arith;
          costs = let e = along.costs in omega arith;
        };
  }

-- ---- one after another

stands_itself : (g : PebbleGame) (w : Window) (p : Position) → IsSoundIn g w p → StandsFor g w p p
stands_itself g w p sound = record { sound = sound; matched = λ ss finishing. record { steps = ss; finishing = finishing; shorter = omega arith; costs = omega arith } }

stands_after : (g : PebbleGame) (w : Window) (p q t : Position) → StandsFor g w q p → StandsFor g w t q → StandsFor g w t p
stands_after g w p q t a b = record {
  sound = b.sound;
  matched = λ ss finishing.
      let first = a.matched ss finishing in
      let second = b.matched first.steps first.finishing in
      record {
        steps = second.steps;
        finishing = second.finishing;
        shorter = let x = first.shorter in let y = second.shorter in omega arith;
        costs = let x = first.costs in let y = second.costs in omega arith;
      };
}

turned_stands : (g : PebbleGame) (w : Window) → IsWindow g w → (rs : List Renaming) → ((r : Renaming) → IsIn r rs → IsAutomorphism g w r)
    → (p q : Position) → IsSoundIn g w p → IsTurnedTo rs p q → StandsFor g w q p
turned_stands g w ok rs autos _ _ sound (stays {p = p}) = stands_itself g w p sound
turned_stands g w ok rs autos _ _ sound (turned {p = p} {q = q} r next is image rest) =
    let first = image_stands g w ok r (autos r is) p next sound image in
    stands_after g w p next q first (turned_stands g w ok rs autos next q first.sound rest)

pub images_stand : ImagesStand
images_stand g w ok rs autos p q sound turned_to = turned_stands g w ok rs autos p q sound turned_to
