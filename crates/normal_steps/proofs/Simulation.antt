-- Each move of a pebbling is answered by normal steps.
use Rattle.std.proofs.Common.{◌≡◌, ℕ, zero, suc, ◌+◌, ◌*◌, ◌≤◌, ◌<◌, Bool, true, false, ◌||◌, List, [], ◌∷◌, ◌++◌, ◌⊎◌, inl, inr, sym, refl, ap, subst, arith, mul-le-mul_left}
use Rattle.std.specs.FinSet.{contains, insert, remove, union, intersection, difference}
use Rattle.comp_graph.specs.Vertices.{Vertices, ◌∈◌, ◌∉◌, IsWithin, size}
use Rattle.comp_graph.specs.Dags.{IsDag, is_live}
use Rattle.comp_graph.specs.Games.{PebbleGame}
use Rattle.normal_steps.specs.Subsequences.{IsSubsequence, none, left_out, kept}
use Rattle.pebble_rules.specs.Rules.{start, IsMove, moved, move_cost, cost, position_after, computed_by, computed}
use Rattle.pebble_rules.specs.declared.position.Position.{Position}
use Rattle.normal_steps.specs.Steps.{CanWork, CanDrop, CanSpill, IsStep, worked, stepped, step_cost, IsPlay, play_after, play_cost, CanFinish, finish_cost, work_vertices}
use Rattle.normal_steps.specs.Simulation.{Debts, no_debts, weight, Follows, IsAnswered, EachMoveIsAnswered, EachPebblingIsAnswered, PlaysCostNoMore, PlaysFromStartCostNoMore}
use Rattle.pebble_rules.specs.declared.moves.Move.{Move}
use Rattle.pebble_rules.specs.declared.moves.Move.TheVariants.{Load, Store, Compute, DropRed, DropBlue}
use Rattle.normal_steps.specs.declared.step.Step.{Step}
use Rattle.normal_steps.specs.declared.step.Step.TheVariants.{Work, Drop, Spill}
use Rattle.comp_graph.proofs.Sets.{size_empty, size_insert_new, size_insert_le, size_remove, size_split, size_within, size_union_le, member_outside}
use Rattle.comp_graph.proofs.Appended.{after_both, allowed_both, total_both}
use Rattle.comp_graph.specs.Sets.{membership, has_union}
use Rattle.pebble_rules.proofs.Possible.{true_or_false}
use Rattle.comp_graph.proofs.DagLaws.{live_before, live_output, degree_bounds}

pub none_of : (ys : List ℕ) → IsSubsequence [] ys
none_of [] = none
none_of (y ∷ ys) = left_out y (none_of ys)

-- ---- answered by nothing

stay : (g : PebbleGame) (raw normal : Position) (debts owed : Debts) (paid : ℕ) (vertices : List ℕ)
    → Follows g raw normal owed → weight g owed ≤ paid + weight g debts → IsAnswered g raw normal debts paid vertices
stay g raw normal debts owed paid vertices follows costs = record {
  steps = [];
  owed = owed;
  play = tt;
  follows = follows;
  costs = omega arith;
  works = none_of vertices;
}

module _ (g : PebbleGame) (raw normal : Position) (debts : Debts) (f : Follows g raw normal debts) (v : ℕ) where
  -- the load is owed
  pub load_owed : v ∈ normal.blue → v ∉ normal.red → Follows g (moved raw (Load v)) normal (record debts { loads = insert debts.loads v })
  load_owed blue not_red = record {
    stores_red = f.stores_red;
    stores_not_blue = f.stores_not_blue;
    loads_blue = λ w h. let old = f.loads_blue w in grind (arith, membership);
    loads_not_red = λ w h. let old = f.loads_not_red w in grind (arith, membership);
    red = λ w live h. let old = f.red w live in grind (arith, membership);
    blue = f.blue;
  }

  -- the load changes nothing
  pub load_free : v ∈ raw.blue → (v ∉ normal.blue) ⊎ ((v ∈ normal.red) ⊎ (v ∈ debts.loads)) → Follows g (moved raw (Load v)) normal debts
  load_free here why = record {
    stores_red = f.stores_red;
    stores_not_blue = f.stores_not_blue;
    loads_blue = f.loads_blue;
    loads_not_red = f.loads_not_red;
    red = λ w live h. let old = f.red w live in let held = f.blue w live in let owed = f.stores_red w in grind (arith, membership);
    blue = f.blue;
  }

  -- the store is owed
  pub store_owed : v ∈ normal.red → v ∉ normal.blue → Follows g (moved raw (Store v)) normal (record debts { stores = insert debts.stores v })
  store_owed red not_blue = record {
    stores_red = λ w h. let old = f.stores_red w in grind (arith, membership);
    stores_not_blue = λ w h. let old = f.stores_not_blue w in grind (arith, membership);
    loads_blue = f.loads_blue;
    loads_not_red = f.loads_not_red;
    red = f.red;
    blue = λ w live h. let old = f.blue w live in grind (arith, membership);
  }

  -- the store changes nothing
  pub store_free : v ∈ raw.red → (v ∉ normal.red) ⊎ ((v ∈ normal.blue) ⊎ (v ∈ debts.stores)) → Follows g (moved raw (Store v)) normal debts
  store_free here why = record {
    stores_red = f.stores_red;
    stores_not_blue = f.stores_not_blue;
    loads_blue = f.loads_blue;
    loads_not_red = f.loads_not_red;
    red = f.red;
    blue = λ w live h. let old = f.blue w live in let held = f.red w live in let owed = f.loads_blue w in grind (arith, membership);
  }

  pub drop_red_free : Follows g (moved raw (DropRed v)) normal debts
  drop_red_free = record {
    stores_red = f.stores_red;
    stores_not_blue = f.stores_not_blue;
    loads_blue = f.loads_blue;
    loads_not_red = f.loads_not_red;
    red = λ w live h. let old = f.red w live in grind (arith, membership);
    blue = f.blue;
  }

  pub drop_blue_free : Follows g (moved raw (DropBlue v)) normal debts
  drop_blue_free = record {
    stores_red = f.stores_red;
    stores_not_blue = f.stores_not_blue;
    loads_blue = f.loads_blue;
    loads_not_red = f.loads_not_red;
    red = f.red;
    blue = λ w live h. let old = f.blue w live in grind (arith, membership);
  }

  -- a computation of a vertex that is not live, or that is red or owed already, changes nothing
  pub compute_free : (is_live g.dag v ≡ false) ⊎ (v ∈ union normal.red debts.loads) → Follows g (moved raw (Compute v)) normal debts
  compute_free why = record {
    stores_red = f.stores_red;
    stores_not_blue = f.stores_not_blue;
    loads_blue = f.loads_blue;
    loads_not_red = f.loads_not_red;
    red = λ w live h. let old = f.red w live in grind (arith, membership);
    blue = f.blue;
  }

three : (a b c : Bool) → ((a ≡ true) × (b ≡ false) × (c ≡ false)) ⊎ ((a ≡ false) ⊎ ((b ≡ true) ⊎ (c ≡ true)))
three true true c = inr (inr (inl refl))
three true false true = inr (inr (inr refl))
three true false false = inl (refl, refl, refl)
three false b c = inr (inl refl)

insert_weight : (s : Vertices) (k w : ℕ) → k ∉ s → w * size (insert s k) ≡ w * size s + w
insert_weight s k w h = let e = ap (λ n. w * n) (size_insert_new s k h) in omega arith

load_answered : (g : PebbleGame) (raw normal : Position) (debts : Debts) → Follows g raw normal debts → (v : ℕ) → v ∈ raw.blue → IsAnswered g (moved raw (Load v)) normal debts g.load []
load_answered g raw normal debts f v here =
    elim (three (contains normal.blue v) (contains normal.red v) (contains debts.loads v)) [
      | inl owed ↦
          stay g (moved raw (Load v)) normal debts (record debts { loads = insert debts.loads v }) g.load []
          (load_owed g raw normal debts f v owed.0 owed.1)
          (let more = insert_weight debts.loads v g.load owed.2 in omega arith)
      | inr why ↦ stay g (moved raw (Load v)) normal debts debts g.load [] (load_free g raw normal debts f v here why) (omega arith)
    ]

store_answered : (g : PebbleGame) (raw normal : Position) (debts : Debts) → Follows g raw normal debts → (v : ℕ) → v ∈ raw.red → IsAnswered g (moved raw (Store v)) normal debts g.store []
store_answered g raw normal debts f v here =
    elim (three (contains normal.red v) (contains normal.blue v) (contains debts.stores v)) [
      | inl owed ↦
          stay g (moved raw (Store v)) normal debts (record debts { stores = insert debts.stores v }) g.store []
          (store_owed g raw normal debts f v owed.0 owed.1)
          (let more = insert_weight debts.stores v g.store owed.2 in omega arith)
      | inr why ↦ stay g (moved raw (Store v)) normal debts debts g.store [] (store_free g raw normal debts f v here why) (omega arith)
    ]

-- ---- a removal of a red pebble that the pebbling does without

module _ (g : PebbleGame) (raw : Position) where
  pub drop_follows : (normal : Position) (debts : Debts) → Follows g raw normal debts → (u : ℕ) → u ∉ raw.red → u ∉ debts.stores → Follows g raw (stepped g normal (Drop u)) debts
  drop_follows normal debts f u not_raw not_owed = record {
    stores_red = λ w h. let old = f.stores_red w in grind (arith, membership);
    stores_not_blue = f.stores_not_blue;
    loads_blue = f.loads_blue;
    loads_not_red = λ w h. let old = f.loads_not_red w in grind (arith, membership);
    red = λ w live h. let old = f.red w live in grind (arith, membership);
    blue = f.blue;
  }

  pub spill_follows : (normal : Position) (debts : Debts) → Follows g raw normal debts → (u : ℕ) → u ∉ raw.red → u ∈ debts.stores
      → Follows g raw (stepped g normal (Spill u)) (record debts { stores = remove debts.stores u })
  spill_follows normal debts f u not_raw owed = record {
    stores_red = λ w h. let old = f.stores_red w in grind (arith, membership);
    stores_not_blue = λ w h. let old = f.stores_not_blue w in grind (arith, membership);
    loads_blue = λ w h. let old = f.loads_blue w in grind (arith, membership);
    loads_not_red = λ w h. let old = f.loads_not_red w in grind (arith, membership);
    red = λ w live h. let old = f.red w live in grind (arith, membership);
    blue = λ w live h. let old = f.blue w live in grind (arith, membership);
  }

-- ---- a computation

module _ (g : PebbleGame) (dag : IsDag g.dag) (raw : Position) (v : ℕ) (live : is_live g.dag v ≡ true) (move : IsMove g raw (Compute v)) where
  -- the predecessors of v are red or owed
  preds_at_hand : (normal : Position) (debts : Debts) → Follows g raw normal debts → IsWithin (g.dag.preds v) (union normal.red debts.loads)
  preds_at_hand normal debts f w h = f.red w (live_before g.dag dag w v h live) (move.needs.preds_red w h)

  -- ---- where there is room

  pub work_follows : (normal : Position) (debts : Debts) → Follows g raw normal debts → v ∉ debts.loads
      → Follows g (moved raw (Compute v)) (stepped g normal (Work v)) (record debts { loads = difference debts.loads (g.dag.preds v) })
  work_follows normal debts f not_owed = record {
    stores_red = λ w h. let old = f.stores_red w in grind (arith, membership);
    stores_not_blue = f.stores_not_blue;
    loads_blue = λ w h. let old = f.loads_blue w in grind (arith, membership);
    loads_not_red = λ w h. let old = f.loads_not_red w in grind (arith, membership);
    red = λ w live h. let old = f.red w live in grind (arith, membership);
    blue = f.blue;
  }

  pub work_is_step : (normal : Position) (debts : Debts) → Follows g raw normal debts → v ∉ normal.red → size (worked g normal.red v) ≤ g.slots → CanWork g normal v
  work_is_step normal debts f not_red room = record {
    live = live;
    no_input = move.needs.no_input;
    not_red = not_red;
    preds_held = λ w h. let held = preds_at_hand normal debts f w h in let old = f.loads_blue w in grind (arith, membership);
    fits = room;
  }

  -- what the step loads is owed
  loaded_owed : (normal : Position) (debts : Debts) → Follows g raw normal debts → IsWithin (difference (g.dag.preds v) normal.red) (intersection debts.loads (g.dag.preds v))
  loaded_owed normal debts f w h = let held = preds_at_hand normal debts f w in grind (arith, membership)

  pub work_pays : (normal : Position) (debts : Debts) → Follows g raw normal debts
      → g.load * size (difference (g.dag.preds v) normal.red) + g.load * size (difference debts.loads (g.dag.preds v)) ≤ g.load * size debts.loads
  work_pays normal debts f =
      let less = mul-le-mul_left g.load (size_within _ _ (loaded_owed normal debts f)) in
      let parts = ap (λ n. g.load * n) (size_split debts.loads (g.dag.preds v)) in
      omega arith

  work_answered : (normal : Position) (debts : Debts) → Follows g raw normal debts → v ∉ normal.red → v ∉ debts.loads → size (worked g normal.red v) ≤ g.slots
      → IsAnswered g (moved raw (Compute v)) normal debts 0 (v ∷ [])
  work_answered normal debts f not_red not_owed room = record {
    steps = Work v ∷ [];
    owed = record debts { loads = difference debts.loads (g.dag.preds v) };
    play = (work_is_step normal debts f not_red room, tt);
    follows = work_follows normal debts f not_owed;
    costs = let pays = work_pays normal debts f in omega arith;
    works = kept v none;
  }

  -- ---- where there is none, a red vertex that the pebbling has not red makes room

  abbrev Victim : Position → ℕ → Type 0
  Victim normal u = CanDrop g normal u × (u ∉ raw.red) × (0 < size normal.red)

  pub missing_raw : (normal : Position) (u : ℕ) → u ∈ worked g normal.red v → u ∉ insert raw.red v → (u ∉ raw.red) × (u ∈ normal.red)
  missing_raw normal u held missing = let red = move.needs.preds_red u in (grind (arith, membership), grind (arith, membership))

  victim : (normal : Position) → g.slots < size (worked g normal.red v) → (u : ℕ) × Victim normal u
  victim normal full =
      let fits = move.fits in
      let m = member_outside (insert raw.red v) (worked g normal.red v) (omega arith) in
      let is = missing_raw normal m.0 m.1 m.2 in
      let few = degree_bounds g.dag dag v live in
      let one = size_insert_le (union normal.red (g.dag.preds v)) v in
      let rest = size_union_le normal.red (g.dag.preds v) in
      let some = size_remove normal.red m.0 is.1 in
      (m.0, (record { red = is.1; crowded = omega arith }, is.0, omega arith))

  drop_first : (normal : Position) (debts : Debts) (u : ℕ) → CanDrop g normal u
      → IsAnswered g (moved raw (Compute v)) (stepped g normal (Drop u)) debts 0 (v ∷ [])
      → IsAnswered g (moved raw (Compute v)) normal debts 0 (v ∷ [])
  drop_first normal debts u can rest = record {
    steps = Drop u ∷ rest.steps;
    owed = rest.owed;
    play = (can, rest.play);
    follows = rest.follows;
    costs = let costs = rest.costs in omega arith;
    works = rest.works;
  }

  spill_first : (normal : Position) (debts : Debts) (u : ℕ) → CanSpill g normal u → u ∈ debts.stores
      → IsAnswered g (moved raw (Compute v)) (stepped g normal (Spill u)) (record debts { stores = remove debts.stores u }) 0 (v ∷ [])
      → IsAnswered g (moved raw (Compute v)) normal debts 0 (v ∷ [])
  spill_first normal debts u can owed rest = record {
    steps = Spill u ∷ rest.steps;
    owed = rest.owed;
    play = (can, rest.play);
    follows = rest.follows;
    costs =
        let costs = rest.costs in
        let less = ap (λ n. g.store * n) (size_remove debts.stores u owed) in
        omega arith;
    works = rest.works;
  }

  pub still_not_red : (s : Vertices) (u w : ℕ) → w ∉ s → w ∉ remove s u
  still_not_red s u w h = grind (arith, membership)

  fits_or_not : (a b : ℕ) → (a ≤ b) ⊎ (b < a)
  fits_or_not a b = grind arith

  room_made : (turns : ℕ) (normal : Position) (debts : Debts) → size normal.red ≤ turns → Follows g raw normal debts → v ∉ normal.red → v ∉ debts.loads
      → IsAnswered g (moved raw (Compute v)) normal debts 0 (v ∷ [])
  room_made zero normal debts few f not_red not_owed =
      elim (fits_or_not (size (worked g normal.red v)) g.slots) [
        | inl room ↦ work_answered normal debts f not_red not_owed room
        | inr full ↦ absurd (let u = victim normal full in let some = u.1.2 in omega arith)
      ]
  room_made (suc turns) normal debts few f not_red not_owed =
      elim (fits_or_not (size (worked g normal.red v)) g.slots) [
        | inl room ↦ work_answered normal debts f not_red not_owed room
        | inr full ↦
            let u = victim normal full in
            let can = u.1.0 in
            let less = size_remove normal.red u.0 can.red in
            elim (true_or_false (contains debts.stores u.0)) [
              | inl owed ↦
                  spill_first normal debts u.0 (record { drop = can; not_blue = f.stores_not_blue u.0 owed }) owed
                  (room_made turns (stepped g normal (Spill u.0)) (record debts { stores = remove debts.stores u.0 })
                  (omega arith) (spill_follows g raw normal debts f u.0 u.1.1 owed) (still_not_red normal.red u.0 v not_red) not_owed)
              | inr free ↦
                  drop_first normal debts u.0 can
                  (room_made turns (stepped g normal (Drop u.0)) debts
                  (omega arith) (drop_follows g raw normal debts f u.0 u.1.1 free) (still_not_red normal.red u.0 v not_red) not_owed)
            ]
      ]

two : (a b : Bool) → ((a || b) ≡ true) ⊎ ((a ≡ false) × (b ≡ false))
two true b = inl refl
two false true = inl refl
two false false = inr (refl, refl)

held_or_not : (s t : Vertices) (v : ℕ) → (v ∈ union s t) ⊎ ((v ∉ s) × (v ∉ t))
held_or_not s t v = subst (λ b. (b ≡ true) ⊎ ((v ∉ s) × (v ∉ t))) (sym (has_union s t v)) (two (contains s v) (contains t v))

compute_answered : (g : PebbleGame) → IsDag g.dag → (raw normal : Position) (debts : Debts) → Follows g raw normal debts → (v : ℕ) → IsMove g raw (Compute v)
    → IsAnswered g (moved raw (Compute v)) normal debts 0 (v ∷ [])
compute_answered g dag raw normal debts f v move =
    elim (true_or_false (is_live g.dag v)) [
      | inr dead ↦ stay g (moved raw (Compute v)) normal debts debts 0 (v ∷ []) (compute_free g raw normal debts f v (inl dead)) (omega arith)
      | inl live ↦ elim (held_or_not normal.red debts.loads v) [
        | inl held ↦ stay g (moved raw (Compute v)) normal debts debts 0 (v ∷ []) (compute_free g raw normal debts f v (inr held)) (omega arith)
        | inr not ↦ room_made g dag raw v live move (size normal.red) normal debts (omega arith) f not.0 not.1
      ]
    ]

pub each_move_is_answered : EachMoveIsAnswered
each_move_is_answered g dag raw normal debts f (Load v) move = load_answered g raw normal debts f v move.needs
each_move_is_answered g dag raw normal debts f (Store v) move = store_answered g raw normal debts f v move.needs
each_move_is_answered g dag raw normal debts f (Compute v) move = compute_answered g dag raw normal debts f v move
each_move_is_answered g dag raw normal debts f (DropRed v) move = stay g _ normal debts debts 0 [] (drop_red_free g raw normal debts f v) (omega arith)
each_move_is_answered g dag raw normal debts f (DropBlue v) move = stay g _ normal debts debts 0 [] (drop_blue_free g raw normal debts f v) (omega arith)

-- ---- one play after another

pub append_after : (g : PebbleGame) (p : Position) (ss ts : List Step) → play_after g p (ss ++ ts) ≡ play_after g (play_after g p ss) ts
append_after g = after_both (stepped g) (play_after g) (λ p. refl) (λ p s ss. refl)

pub append_play : (g : PebbleGame) (p : Position) (ss ts : List Step) → IsPlay g p ss → IsPlay g (play_after g p ss) ts → IsPlay g p (ss ++ ts)
append_play g = allowed_both (stepped g) (play_after g) (λ p. refl) (λ p s ss. refl) (IsStep g) (IsPlay g) (λ p s ss both. both) (λ p s ss first rest. (first, rest))

pub append_cost : (g : PebbleGame) (p : Position) (ss ts : List Step) → play_cost g p (ss ++ ts) ≡ play_cost g p ss + play_cost g (play_after g p ss) ts
append_cost g = total_both (stepped g) (play_after g) (λ p. refl) (λ p s ss. refl) (step_cost g) (play_cost g) (λ p. refl) (λ p s ss. refl)

pub append_works : (ss ts : List Step) (us vs : List ℕ) → IsSubsequence (work_vertices ss) us → IsSubsequence (work_vertices ts) vs → IsSubsequence (work_vertices (ss ++ ts)) (us ++ vs)
append_works ss ts us vs h k = subst (λ ws. IsSubsequence ws (us ++ vs)) (sym (works_append ss ts)) (append_subsequences _ us h)
  where
    works_append : (ss ts : List Step) → work_vertices (ss ++ ts) ≡ work_vertices ss ++ work_vertices ts
    works_append [] ts = refl
    works_append (Work v ∷ ss) ts = ap (λ ws. v ∷ ws) (works_append ss ts)
    works_append (Drop v ∷ ss) ts = works_append ss ts
    works_append (Spill v ∷ ss) ts = works_append ss ts

    append_subsequences : (ws us : List ℕ) → IsSubsequence ws us → IsSubsequence (ws ++ work_vertices ts) (us ++ vs)
    append_subsequences ws us none = k
    append_subsequences ws us (left_out y h) = left_out y (append_subsequences _ _ h)
    append_subsequences ws us (kept x h) = kept x (append_subsequences _ _ h)

then_answered : (g : PebbleGame) (middle raw normal : Position) (debts : Debts) (paid more : ℕ) (us vs : List ℕ)
    → (first : IsAnswered g middle normal debts paid us)
    → IsAnswered g raw (play_after g normal first.steps) first.owed more vs
    → IsAnswered g raw normal debts (paid + more) (us ++ vs)
then_answered g middle raw normal debts paid more us vs first second = record {
  steps = first.steps ++ second.steps;
  owed = second.owed;
  play = append_play g normal first.steps second.steps first.play second.play;
  follows = subst (λ p. Follows g raw p second.owed) (sym (append_after g normal first.steps second.steps)) second.follows;
  costs = let a = first.costs in let b = second.costs in omega (arith, append_cost g normal first.steps second.steps);
  works = append_works first.steps second.steps us vs first.works second.works;
}

pub computed_append : (m : Move) (vs : List ℕ) → computed_by m [] ++ vs ≡ computed_by m vs
computed_append (Load v) vs = refl
computed_append (Store v) vs = refl
computed_append (Compute v) vs = refl
computed_append (DropRed v) vs = refl
computed_append (DropBlue v) vs = refl

pub each_pebbling_is_answered : EachPebblingIsAnswered
each_pebbling_is_answered g dag raw normal debts f [] h = stay g raw normal debts debts 0 [] f (omega arith)
each_pebbling_is_answered g dag raw normal debts f (m ∷ ms) h =
    let first = each_move_is_answered g dag raw normal debts f m h.0 in
    let second = each_pebbling_is_answered g dag (moved raw m) (play_after g normal first.steps) first.owed first.follows ms h.1 in
    subst (IsAnswered g (position_after (moved raw m) ms) normal debts (move_cost g m + cost g ms)) (computed_append m (computed ms))
    (then_answered g (moved raw m) _ normal debts (move_cost g m) (cost g ms) (computed_by m []) (computed ms) first second)

-- ---- the finish

pub finish_paid : (g : PebbleGame) (raw normal : Position) (owed : Debts) → Follows g raw normal owed → IsWithin g.dag.outputs raw.blue → finish_cost g normal ≤ weight g owed
finish_paid g raw normal owed f done =
    let stores = mul-le-mul_left g.store (size_within (difference g.dag.outputs normal.blue) owed.stores (λ w h.
    let live = live_output g.dag w in let blue = done w in let held = f.blue w in grind (arith, membership))) in
    omega arith

pub can_finish : (g : PebbleGame) (raw normal : Position) (owed : Debts) → Follows g raw normal owed → IsWithin g.dag.outputs raw.blue → CanFinish g normal
can_finish g raw normal owed f done w h =
    let live = live_output g.dag w in let blue = done w in let held = f.blue w in let red = f.stores_red w in grind (arith, membership)

pub plays_cost_no_more : PlaysCostNoMore
plays_cost_no_more g dag raw normal f ms complete =
    let all = each_pebbling_is_answered g dag raw normal no_debts f ms complete.pebbling in
    record {
      steps = all.steps;
      finishing = record { play = all.play; finishes = can_finish g _ _ all.owed all.follows complete.outputs_blue };
      costs =
          let paid = finish_paid g _ _ all.owed all.follows complete.outputs_blue in
          let costs = all.costs in
          let stores = ap (λ n. g.store * n) size_empty in
          let loads = ap (λ n. g.load * n) size_empty in
          omega arith;
      works = all.works;
    }

-- the start follows the start
pub start_follows : (g : PebbleGame) → Follows g (start g) (start g) no_debts
start_follows g = record {
  stores_red = λ w h. h;
  stores_not_blue = λ w h. absurd (grind (arith, membership));
  loads_blue = λ w h. absurd (grind (arith, membership));
  loads_not_red = λ w h. absurd (grind (arith, membership));
  red = λ w live h. absurd (grind (arith, membership));
  blue = λ w live h. grind (arith, membership);
}

pub plays_from_start_cost_no_more : PlaysFromStartCostNoMore
plays_from_start_cost_no_more g dag ms complete = plays_cost_no_more g dag (start g) (start g) (start_follows g) ms complete
