-- What the tests of steps say, and that the legal steps in order are one list.
use Rattle.std.proofs.Common.{◌≡◌, ℕ, suc, ◌<◌, ◌↔◌, ltb, leb, Bool, true, false, not, cond, ◌&&◌, ◌==◌, List, [], ◌∷◌, inl, inr, refl, sym, ap, ◌∙◌, subst, arith}
use Rattle.std.specs.List.{All, AllPairs}
use Rattle.std.specs.FinSet.{empty, contains, union, difference}
use Rattle.std.proofs.lemmas.Bool.{and_parts}
use Rattle.std.proofs.lemmas.List.Elements.{All-contains}
use Rattle.comp_graph.specs.Lists.{IsIn}
use Rattle.comp_graph.proofs.Lists.{in_contains}
use Rattle.comp_graph.specs.Vertices.{Vertices, ◌∈◌, IsWithin, size}
use Rattle.comp_graph.specs.Dags.{IsDag, is_live}
use Rattle.comp_graph.specs.Games.{PebbleGame}
use Rattle.comp_graph.specs.Sets.{membership, same, has_set_below}
use Rattle.comp_graph.proofs.Sets.{size_empty, no_member, AllBelow-set_below}
use Rattle.comp_graph.proofs.DagLaws.{both, and-true, live_vertex}
use Rattle.pebble_rules.specs.declared.position.Position.{Position}
use Rattle.normal_steps.specs.declared.step.Step.{Step}
use Rattle.normal_steps.specs.declared.step.Step.TheVariants.{Work, Drop, Spill}
use Rattle.normal_steps.specs.Steps.{worked, IsStep, CanWork, CanDrop}
use Rattle.normal_steps.specs.LegalSteps.{Precedes, AreWorkable}
use Rattle.normal_steps.specs.StepTests.{is_within, can_work, is_crowded, is_step, can_finish, works_of, drops_of, spills_of, legal_steps, StepsAreTested, FinishIsTested, LegalStepsAreOneList, LegalStepsAreListed}
use Rattle.normal_steps.proofs.Workable.{leb_true, true_leb}
use Rattle.normal_steps.proofs.AllLegal.{AreRemovable, listed_legal, none_removable, red_removable}

none_outside : (s t : Vertices) (v : ℕ) → difference s t ≡ empty → v ∈ s → v ∈ t
none_outside s t v e h = let has = ap (λ d. contains d v) e in grind (arith, membership)

size_none : (s : Vertices) → (size s == 0) ≡ true → size s ≡ 0
size_none s h = grind arith

pub within_true : (s t : Vertices) → is_within s t ≡ true → IsWithin s t
within_true s t h v i = none_outside s t v (no_member (difference s t) (size_none (difference s t) h)) i

pub true_within : (s t : Vertices) → IsWithin s t → is_within s t ≡ true
true_within s t h =
    let e : difference s t ≡ empty = same _ _ (λ q. let old = h q in grind (arith, membership)) in
    let n = ap size e in
    let z = size_empty in
    grind arith

ltb_true : (a b : ℕ) → ltb a b ≡ true → a < b
ltb_true a b h = grind arith

true_ltb : (a b : ℕ) → a < b → ltb a b ≡ true
true_ltb a b h = grind arith

not_true : (b : Bool) → not b ≡ true → b ≡ false
not_true b h = grind arith

true_not : (b : Bool) → b ≡ false → not b ≡ true
true_not b h = ap not h

drop_true : (g : PebbleGame) (p : Position) (u : ℕ) → (contains p.red u && is_crowded g p) ≡ true → CanDrop g p u
drop_true g p u h = let parts = both (contains p.red u) (is_crowded g p) h in record { red = parts.0; crowded = ltb_true _ _ parts.1 }

true_drop : (g : PebbleGame) (p : Position) (u : ℕ) → CanDrop g p u → (contains p.red u && is_crowded g p) ≡ true
true_drop g p u can = and-true _ _ can.red (true_ltb _ _ can.crowded)

work_true : (g : PebbleGame) (p : Position) (v : ℕ) → can_work g p v ≡ true → CanWork g p v
work_true g p v h =
    let a = both (is_live g.dag v) _ h in
    let b = both (not (contains g.dag.inputs v)) _ a.1 in
    let c = both (not (contains p.red v)) _ b.1 in
    let d = both (is_within (g.dag.preds v) (union p.red p.blue)) (leb (size (worked g p.red v)) g.slots) c.1 in
    record { live = a.0; no_input = not_true _ b.0; not_red = not_true _ c.0; preds_held = within_true _ _ d.0; fits = leb_true _ _ d.1 }

true_work : (g : PebbleGame) (p : Position) (v : ℕ) → CanWork g p v → can_work g p v ≡ true
true_work g p v can =
    and-true _ _ can.live (and-true _ _ (true_not _ can.no_input) (and-true _ _ (true_not _ can.not_red)
    (and-true _ _ (true_within _ _ can.preds_held) (true_leb _ _ can.fits))))

step_true : (g : PebbleGame) (p : Position) (s : Step) → is_step g p s ≡ true → IsStep g p s
step_true g p (Work v) h = work_true g p v h
step_true g p (Drop u) h = drop_true g p u h
step_true g p (Spill u) h =
    let parts = both (contains p.red u && is_crowded g p) (not (contains p.blue u)) h in record { drop = drop_true g p u parts.0; not_blue = not_true _ parts.1 }

true_step : (g : PebbleGame) (p : Position) (s : Step) → IsStep g p s → is_step g p s ≡ true
true_step g p (Work v) can = true_work g p v can
true_step g p (Drop u) can = true_drop g p u can
true_step g p (Spill u) can = and-true _ _ (true_drop g p u can.drop) (true_not _ can.not_blue)

pub steps_are_tested : StepsAreTested
steps_are_tested g p s = (step_true g p s, true_step g p s)

pub finish_is_tested : FinishIsTested
unfolding can_finish
finish_is_tested g p = (within_true g.dag.outputs (union p.red p.blue), true_within g.dag.outputs (union p.red p.blue))

-- ---- the legal steps as the tests list them

works_are_workable : (g : PebbleGame) → IsDag g.dag → (p : Position) → AreWorkable g p (works_of g p)
works_are_workable g dag p = record {
  members = λ v. (
    λ h. work_true g p v (and_parts (ltb v g.dag.count) (can_work g p v) (sym (has_set_below (can_work g p) g.dag.count v) ∙ h)).1,
    λ can. has_set_below (can_work g p) g.dag.count v ∙ and-true _ _ (true_ltb v g.dag.count (live_vertex g.dag dag v can.live)) (true_work g p v can),
  );
}

removable : (g : PebbleGame) (p : Position) (b : Bool) → is_crowded g p ≡ b → AreRemovable g p (cond b p.red empty) (cond b (difference p.red p.blue) empty)
removable g p true e = red_removable g p (difference p.red p.blue) refl (ltb_true _ _ e)
removable g p false e = none_removable g p empty empty refl refl (λ crowded. apart (is_crowded g p) (true_ltb _ _ crowded) e)
  where
    apart : (b : Bool) → b ≡ true → b ≡ false → ⊥
    apart b t f = let clash : true ≡ false = sym t ∙ f in cc

pub legal_steps_are_listed : LegalStepsAreListed
unfolding legal_steps
legal_steps_are_listed g dag p below =
    listed_legal g.dag.count g p (works_of g p) (drops_of g p) (spills_of g p) (works_are_workable g dag p) (AllBelow-set_below (can_work g p) g.dag.count) (record { below = below })
    (removable g p (is_crowded g p) refl)

-- ---- one list

no_loop : (x : Step) → Precedes x x → ⊥
no_loop (Work v) h = omega arith
no_loop (Drop v) h = omega arith
no_loop (Spill v) h = omega arith

no_way_back : (x y : Step) → Precedes x y → Precedes y x → ⊥
no_way_back (Work v) (Work w) h k = omega arith
no_way_back (Work v) (Drop w) h k = k
no_way_back (Work v) (Spill w) h k = k
no_way_back (Drop v) (Work w) h k = h
no_way_back (Drop v) (Drop w) h k = omega arith
no_way_back (Drop v) (Spill w) h k = k
no_way_back (Spill v) (Work w) h k = h
no_way_back (Spill v) (Drop w) h k = h
no_way_back (Spill v) (Spill w) h k = omega arith

each_in : (P : Step → Type 0) (xs : List Step) (s : Step) → All P xs → IsIn s xs → P s
each_in P xs s all i = All-contains P xs s all (in_contains s xs i)

after_first : (x : Step) (xs : List Step) → AllPairs Precedes (x ∷ xs) → All (Precedes x) xs
after_first x xs h k d below = h 0 (suc k) d (omega arith) (omega arith)

later_pairs : (x : Step) (xs : List Step) → AllPairs Precedes (x ∷ xs) → AllPairs Precedes xs
later_pairs x xs h i j d l below = h (suc i) (suc j) d (omega arith) (omega arith)

abbrev SameSteps : List Step → List Step → Type 0
SameSteps xs ys = (s : Step) → IsIn s xs ↔ IsIn s ys

same_first : (x y : Step) (xs ys : List Step) → SameSteps (x ∷ xs) (y ∷ ys) → AllPairs Precedes (x ∷ xs) → AllPairs Precedes (y ∷ ys) → x ≡ y
same_first x y xs ys alike a b =
    elim ((alike x).0 (inl refl)) [
      | inl e ↦ e
      | inr later_x ↦ elim ((alike y).1 (inl refl)) [
        | inl e ↦ sym e
        | inr later_y ↦ absurd (no_way_back x y (each_in (Precedes x) xs y (after_first x xs a) later_y) (each_in (Precedes y) ys x (after_first y ys b) later_x))
      ]
    ]

rest_within : (x : Step) (xs ys : List Step) → ((s : Step) → IsIn s (x ∷ xs) → IsIn s (x ∷ ys)) → AllPairs Precedes (x ∷ xs) → (s : Step) → IsIn s xs → IsIn s ys
rest_within x xs ys alike a s h =
    elim (alike s (inr h)) [
      | inl e ↦ absurd (no_loop x (subst (Precedes x) e (each_in (Precedes x) xs s (after_first x xs a) h)))
      | inr later ↦ later
    ]

one_order : (xs ys : List Step) → SameSteps xs ys → AllPairs Precedes xs → AllPairs Precedes ys → xs ≡ ys
one_order [] [] alike a b = refl
one_order [] (y ∷ ys) alike a b = absurd ((alike y).1 (inl refl))
one_order (x ∷ xs) [] alike a b = absurd ((alike x).0 (inl refl))
one_order (x ∷ xs) (y ∷ ys) alike a b =
    let e : x ≡ y = same_first x y xs ys alike a b in
    let there = subst (λ z. (s : Step) → IsIn s (x ∷ xs) → IsIn s (z ∷ ys)) (sym e) (λ s. (alike s).0) in
    let back = subst (λ z. (s : Step) → IsIn s (z ∷ ys) → IsIn s (x ∷ xs)) (sym e) (λ s. (alike s).1) in
    let b_at_x = subst (λ z. AllPairs Precedes (z ∷ ys)) (sym e) b in
    let rest = one_order xs ys (λ s. (rest_within x xs ys there a s, rest_within x ys xs back b_at_x s)) (later_pairs x xs a) (later_pairs y ys b) in
    (λ i. e i ∷ rest i)

pub legal_steps_are_one_list : LegalStepsAreOneList
legal_steps_are_one_list g p xs ys a b =
    one_order xs ys (λ s. (λ h. (b.legal s).1 ((a.legal s).0 h), λ h. (a.legal s).1 ((b.legal s).0 h))) a.in_order b.in_order
