-- Steps can be put off: a play of the window makes a Drop or a Spill only if a Work lacks the slot, and only Works that are useful. This timely
-- play follows a given play of possible steps, and owes what the given play has paid and it has not.
use Rattle.std.proofs.Common.{◌≡◌, ℕ, zero, suc, ◌+◌, ◌*◌, ◌≤◌, ◌<◌, Bool, true, false, ltb, ◌||◌, cond, List, [], ◌∷◌, ◌++◌, ◌⊎◌, inl, inr, sym, refl, ap, subst, arith, mul-le-mul_left}
use Rattle.std.specs.FinSet.{empty, contains, insert, remove, union, intersection, difference}
use Rattle.std.proofs.lemmas.Bool.{cases_Bool}
use Rattle.std.proofs.lemmas.Bool.Decides.{nat_tests}
use Rattle.comp_graph.specs.Vertices.{Vertices, ◌∈◌, ◌∉◌, IsWithin, IsOutside, size}
use Rattle.comp_graph.specs.Sets.{membership}
use Rattle.comp_graph.specs.Dags.{IsDag, degree}
use Rattle.comp_graph.specs.Games.{PebbleGame}
use Rattle.comp_graph.proofs.Sets.{size_empty, size_insert_le, size_remove, size_within, size_union_le, size_split, size_of_member, member_outside, in_removed, insert_cases, either_two}
use Rattle.comp_graph.proofs.Appended.{after_both, allowed_both, total_both}
use Rattle.comp_graph.proofs.DagLaws.{degree_bounds}
use Rattle.pebble_rules.specs.declared.position.Position.{Position}
use Rattle.normal_steps.specs.declared.step.Step.{Step}
use Rattle.normal_steps.specs.declared.step.Step.TheVariants.{Work, Drop, Spill}
use Rattle.normal_steps.specs.Steps.{worked}
use Rattle.window_game.specs.Windows.{Window, IsWindow, kept}
use Rattle.window_game.specs.Plays.{CanWorkIn, CanSpillIn, IsPossibleStep, is_useful, IsStepIn, stepped_in, step_cost_in, IsPlayIn, IsPossiblePlay, play_after_in, play_cost_in, CanFinishIn, finish_cost_in, total_cost_in}
use Rattle.window_game.specs.Views.{PlaysShow, FinishesWithinIn, PlaysInTime, PlaysAreSeen}

-- what the given play has paid and the timely one has not: stores of red vertices, and loads of blue ones
record Debts : Type 0 where
  stores : Vertices
  loads : Vertices

module _ (g : PebbleGame) (dag : IsDag g.dag) (w : Window) (ok : IsWindow g w) where
  abbrev weight : Debts → ℕ
  weight d = g.store * size d.stores + g.load * size d.loads

  -- the position q follows p with these debts
  record Follows (p q : Position) (d : Debts) : Type 0 where
    tracked : IsWithin q.red w.tracked
    stores_red : IsWithin d.stores q.red
    stores_charged : IsWithin d.stores w.stores
    loads_blue : IsWithin d.loads q.blue
    loads_not_red : IsOutside d.loads q.red
    red : (v : ℕ) → v ∈ p.red → v ∈ union q.red d.loads
    blue : (v : ℕ) → v ∈ p.blue → v ∈ union q.blue d.stores

  -- a play from q answers a step to p that costs `paid`
  record IsAnswered (p q : Position) (d : Debts) (paid : ℕ) : Type 0 where
    steps : List Step
    owed : Debts
    play : IsPlayIn g w q steps
    follows : Follows p (play_after_in g w q steps) owed
    costs : play_cost_in g w q steps + weight owed ≤ paid + weight d

  stay : (p q : Position) (d owed : Debts) (paid : ℕ) → Follows p q owed → weight owed ≤ paid + weight d → IsAnswered p q d paid
  stay p q d owed paid follows costs = record { steps = []; owed = owed; play = tt; follows = follows; costs = omega arith }

  -- ---- Drop and Spill of the given play

  drop_follows : (p q : Position) (d : Debts) → Follows p q d → (u : ℕ) → Follows (stepped_in g w p (Drop u)) q d
  drop_follows p q d f u = record {
    tracked = f.tracked;
    stores_red = f.stores_red;
    stores_charged = f.stores_charged;
    loads_blue = f.loads_blue;
    loads_not_red = f.loads_not_red;
    red = λ v h. f.red v (in_removed p.red u v h);
    blue = f.blue;
  }

  more_right : (s t : Vertices) (k v : ℕ) → v ∈ union s t → v ∈ union s (insert t k)
  more_right s t k v h = grind (arith, membership)

  new_right : (s t : Vertices) (k : ℕ) → k ∈ union s (insert t k)
  new_right s t k = grind (arith, membership)

  left_of : (s t : Vertices) (v : ℕ) → v ∈ s → v ∈ union s t
  left_of s t v h = grind (arith, membership)

  spill_owed : (p q : Position) (d : Debts) → Follows p q d → (u : ℕ) → u ∈ w.stores → u ∈ q.red → Follows (stepped_in g w p (Spill u)) q (record d { stores = insert d.stores u })
  spill_owed p q d f u charged red = record {
    tracked = f.tracked;
    stores_red = λ v h. elim (insert_cases d.stores u v h) [ inl e ↦ subst (λ x. x ∈ q.red) (sym e) red | inr old ↦ f.stores_red v old ];
    stores_charged = λ v h. elim (insert_cases d.stores u v h) [ inl e ↦ subst (λ x. x ∈ w.stores) (sym e) charged | inr old ↦ f.stores_charged v old ];
    loads_blue = f.loads_blue;
    loads_not_red = f.loads_not_red;
    red = λ v h. f.red v (in_removed p.red u v h);
    blue = λ v h. elim (insert_cases p.blue u v h) [
      | inl e ↦ subst (λ x. x ∈ union q.blue (insert d.stores u)) (sym e) (new_right q.blue d.stores u)
      | inr old ↦ more_right q.blue d.stores u v (f.blue v old)
    ];
  }

  spill_blue : (p q : Position) (d : Debts) → Follows p q d → (u : ℕ) → u ∈ q.blue → Follows (stepped_in g w p (Spill u)) q d
  spill_blue p q d f u blue = record {
    tracked = f.tracked;
    stores_red = f.stores_red;
    stores_charged = f.stores_charged;
    loads_blue = f.loads_blue;
    loads_not_red = f.loads_not_red;
    red = λ v h. f.red v (in_removed p.red u v h);
    blue = λ v h. elim (insert_cases p.blue u v h) [
      | inl e ↦ subst (λ x. x ∈ union q.blue d.stores) (sym e) (left_of q.blue d.stores u blue)
      | inr old ↦ f.blue v old
    ];
  }

  spill_answered : (p q : Position) (d : Debts) → Follows p q d → (u : ℕ) → CanSpillIn g w p u → IsAnswered (stepped_in g w p (Spill u)) q d g.store
  spill_answered p q d f u can = elim (either_two q.red d.loads u (f.red u can.red)) [
    | inl red ↦ stay (stepped_in g w p (Spill u)) q d (record d { stores = insert d.stores u }) g.store (spill_owed p q d f u can.charged red)
        (let more = mul-le-mul_left g.store (size_insert_le d.stores u) in omega arith)
    | inr owed ↦ stay (stepped_in g w p (Spill u)) q d d g.store (spill_blue p q d f u (f.loads_blue u owed)) (omega arith)
  ]

  -- ---- a Work that is not useful is left out: what it loads is owed

  useless_parts : (a b : Bool) (n : ℕ) → (a || (b || ltb 0 n)) ≡ false → (a ≡ false) × (b ≡ false) × (n ≡ 0)
  useless_parts a b n e = (grind (arith, nat_tests), grind (arith, nat_tests), grind (arith, nat_tests))

  abbrev owed_loads : Position → Debts → ℕ → Vertices
  owed_loads q d v = union d.loads (difference (intersection (g.dag.preds v) w.tracked) q.red)

  no_member_of : (s : Vertices) → size s ≡ 0 → (v : ℕ) → v ∉ s
  no_member_of s none v = elim (cases_Bool (contains s v)) as (λ _. v ∉ s) [
    | inl is ↦ absurd (let some = size_of_member s v is in omega arith)
    | inr out ↦ out
  ]

  -- what would be loaded is loaded at a charge
  loaded_charged : (p l r t : Vertices) → size (difference (intersection p t) (union l r)) ≡ 0 → (u : ℕ) → u ∈ p → u ∈ t → u ∉ r → u ∈ l
  loaded_charged p l r t none u a b c = let out = no_member_of (difference (intersection p t) (union l r)) none u in grind (arith, membership)

  worked_cases : (s t k : Vertices) (v x : ℕ) → x ∈ intersection (insert (union s t) v) k → ((x ≡ v) ⊎ ((x ∈ s) ⊎ (x ∈ t))) × (x ∈ k)
  worked_cases s t k v x h = (cases s t k v x h, grind (arith, membership))
    where
      cases : (s t k : Vertices) (v x : ℕ) → x ∈ intersection (insert (union s t) v) k → (x ≡ v) ⊎ ((x ∈ s) ⊎ (x ∈ t))
      cases s t k v x h = grind (arith, membership)

  red_of : (q t : Vertices) (v : ℕ) → v ∉ difference t q → v ∈ t → v ∈ q
  red_of q t v out is = grind (arith, membership)

  in_owed : (r l p t : Vertices) (x : ℕ) → x ∈ p → x ∈ t → x ∈ union r (union l (difference (intersection p t) r))
  in_owed r l p t x a b = elim (cases_Bool (contains r x)) [
    | inl red ↦ grind (arith, membership)
    | inr out ↦ grind (arith, membership)
  ]

  still_owed : (r l m : Vertices) (x : ℕ) → x ∈ union r l → x ∈ union r (union l m)
  still_owed r l m x h = grind (arith, membership)

  loads_cases : (l p t r : Vertices) (x : ℕ) → x ∈ union l (difference (intersection p t) r) → (x ∈ l) ⊎ ((x ∈ p) × (x ∈ t) × (x ∉ r))
  loads_cases l p t r x h = elim (either_two l (difference (intersection p t) r) x h) [
    | inl old ↦ inl old
    | inr new ↦ inr (grind (arith, membership), grind (arith, membership), grind (arith, membership))
  ]

  operand_known : (p t r : Vertices) (x : ℕ) → x ∈ p → x ∈ t → x ∈ intersection p (union t r)
  operand_known p t r x a b = grind (arith, membership)

  -- a vertex with a pebble of p has one of q
  held : (p q : Position) (d : Debts) → Follows p q d → (x : ℕ) → x ∈ union p.red p.blue → x ∈ union q.red q.blue
  held p q d f x h = elim (either_two p.red p.blue x h) [
    | inl red ↦ elim (either_two q.red d.loads x (f.red x red)) [
      | inl is ↦ left_of q.red q.blue x is
      | inr owed ↦ (let is = f.loads_blue x owed in grind (arith, membership))
    ]
    | inr blue ↦ elim (either_two q.blue d.stores x (f.blue x blue)) [
      | inl is ↦ grind (arith, membership)
      | inr owed ↦ left_of q.red q.blue x (f.stores_red x owed)
    ]
  ]

  blue_unless_red : (r b : Vertices) (x : ℕ) → x ∈ union r b → x ∉ r → x ∈ b
  blue_unless_red r b x h out = grind (arith, membership)

  kept_blue : (b : Vertices) (k : Vertices) (v x : ℕ) → (v ∈ k → v ∈ b) → (pb : Vertices) (s : Vertices) → (x ∈ pb → x ∈ union b s) → x ∈ cond (contains k v) (insert pb v) pb → x ∈ union b s
  kept_blue b k v x is pb s old = elim (contains k v) as (λ c. contains k v ≡ c → x ∈ cond c (insert pb v) pb → x ∈ union b s) [
    | true ↦ λ member h. elim (insert_cases pb v x h) [
      | inl e ↦ subst (λ y. y ∈ union b s) (sym e) (left_of b s v (is member))
      | inr before ↦ old before
    ]
    | false ↦ λ out h. old h
  ] refl

  blue_of : (b k : Vertices) (v : ℕ) → v ∉ difference k b → v ∈ k → v ∈ b
  blue_of b k v out is = grind (arith, membership)

  work_left_out : (p q : Position) (d : Debts) → Follows p q d → (v : ℕ) → CanWorkIn g w p v → is_useful g w q v ≡ false
      → IsAnswered (stepped_in g w p (Work v)) q d (step_cost_in g w p (Work v))
  work_left_out p q d f v can useless =
      let parts = useless_parts _ _ _ useless in
      let charged = loaded_charged (g.dag.preds v) (w.loads v) q.red w.tracked parts.2 in
      stay (stepped_in g w p (Work v)) q d (record d { loads = owed_loads q d v }) (step_cost_in g w p (Work v))
      (record {
        tracked = f.tracked;
        stores_red = f.stores_red;
        stores_charged = f.stores_charged;
        loads_blue = λ x h. elim (loads_cases d.loads (g.dag.preds v) w.tracked q.red x h) [
          | inl old ↦ f.loads_blue x old
          | inr new ↦ blue_unless_red q.red q.blue x (held p q d f x (can.preds_held x (operand_known (g.dag.preds v) w.tracked w.required x new.0 new.1))) new.2
        ];
        loads_not_red = λ x h. elim (loads_cases d.loads (g.dag.preds v) w.tracked q.red x h) [
          | inl old ↦ f.loads_not_red x old
          | inr new ↦ new.2
        ];
        red = λ x h. let is = worked_cases p.red (g.dag.preds v) w.tracked v x h in elim is.0 [
          | inl e ↦ left_of q.red (owed_loads q d v) x (subst (λ y. y ∈ q.red) (sym e) (red_of q.red w.tracked v parts.0 (subst (λ y. y ∈ w.tracked) e is.1)))
          | inr (inl old) ↦ still_owed q.red d.loads (difference (intersection (g.dag.preds v) w.tracked) q.red) x (f.red x old)
          | inr (inr pred) ↦ in_owed q.red d.loads (g.dag.preds v) w.tracked x pred is.1
        ];
        blue = λ x h. kept_blue q.blue (kept w) v x (blue_of q.blue (kept w) v parts.1) p.blue d.stores (f.blue x) h;
      })
      (let within = size_within (owed_loads q d v) (union d.loads (difference (w.loads v) p.red)) (λ x h. elim (loads_cases d.loads (g.dag.preds v) w.tracked q.red x h) [
        | inl old ↦ left_of d.loads (difference (w.loads v) p.red) x old
        | inr new ↦ newly x (charged x new.0 new.1 new.2) new.2 (f.red x)
      ]) in
      let sum = size_union_le d.loads (difference (w.loads v) p.red) in
      let more = mul-le-mul_left g.load (let l : size (owed_loads q d v) ≤ size d.loads + size (difference (w.loads v) p.red) = omega arith in l) in
      omega arith)
    where
      newly : (x : ℕ) → x ∈ w.loads v → x ∉ q.red → (x ∈ p.red → x ∈ union q.red d.loads) → x ∈ union d.loads (difference (w.loads v) p.red)
      newly x l out old = elim (cases_Bool (contains p.red x)) [
        | inl red ↦ (let is = old red in grind (arith, membership))
        | inr none ↦ grind (arith, membership)
      ]

  -- ---- a Work that is useful is done, if there is room

  abbrev operands : ℕ → Vertices
  operands v = insert (g.dag.preds v) v

  stays_red : (r p t : Vertices) (v x : ℕ) → x ∈ r → x ∈ t → x ∈ intersection (insert (union r p) v) t
  stays_red r p t v x a b = grind (arith, membership)

  gets_red : (r p t : Vertices) (v x : ℕ) → x ∈ insert p v → x ∈ t → x ∈ intersection (insert (union r p) v) t
  gets_red r p t v x a b = grind (arith, membership)

  inner_red : (r p t : Vertices) (v x : ℕ) → x ∈ intersection (insert (union r p) v) t → x ∈ t
  inner_red r p t v x h = grind (arith, membership)

  not_red_then : (r p t : Vertices) (v x : ℕ) → x ∉ r → x ∉ insert p v → x ∉ intersection (insert (union r p) v) t
  not_red_then r p t v x a b = grind (arith, membership)

  left_parts : (s t : Vertices) (x : ℕ) → x ∈ difference s t → (x ∈ s) × (x ∉ t)
  left_parts s t x h = (grind (arith, membership), grind (arith, membership))

  still_loads : (l o r : Vertices) (x : ℕ) → x ∈ l → x ∉ o → x ∈ union r (difference l o)
  still_loads l o r x a b = grind (arith, membership)

  blue_more : (c : Bool) (b : Vertices) (v x : ℕ) → x ∈ b → x ∈ cond c (insert b v) b
  blue_more true b v x h = grind (arith, membership)
  blue_more false b v x h = h

  blue_then : (c : Bool) (pb qb s : Vertices) (v x : ℕ) → (x ∈ pb → x ∈ union qb s) → x ∈ cond c (insert pb v) pb → x ∈ union (cond c (insert qb v) qb) s
  blue_then true pb qb s v x old h = elim (insert_cases pb v x h) [
    | inl e ↦ grind (arith, membership)
    | inr before ↦ (let is = old before in grind (arith, membership))
  ]
  blue_then false pb qb s v x old h = old h

  operand_of : (p : Vertices) (v x : ℕ) → x ∈ p → x ∈ insert p v
  operand_of p v x h = grind (arith, membership)

  it_is_operand : (p : Vertices) (v : ℕ) → v ∈ insert p v
  it_is_operand p v = grind (arith, membership)

  work_follows : (p q : Position) (d : Debts) → Follows p q d → (v : ℕ)
      → Follows (stepped_in g w p (Work v)) (stepped_in g w q (Work v)) (record d { loads = difference d.loads (operands v) })
  work_follows p q d f v = record {
    tracked = λ x h. inner_red q.red (g.dag.preds v) w.tracked v x h;
    stores_red = λ x h. let red = f.stores_red x h in stays_red q.red (g.dag.preds v) w.tracked v x red (f.tracked x red);
    stores_charged = f.stores_charged;
    loads_blue = λ x h. blue_more (contains (kept w) v) q.blue v x (f.loads_blue x (left_parts d.loads (operands v) x h).0);
    loads_not_red = λ x h.
        let parts = left_parts d.loads (operands v) x h in
        not_red_then q.red (g.dag.preds v) w.tracked v x (f.loads_not_red x parts.0) parts.1;
    red = λ x h. let is = worked_cases p.red (g.dag.preds v) w.tracked v x h in elim is.0 [
      | inl e ↦ left_of _ _ x (gets_red q.red (g.dag.preds v) w.tracked v x (subst (λ y. y ∈ operands v) (sym e) (it_is_operand (g.dag.preds v) v)) is.1)
      | inr (inl old) ↦ old_red x old is.1
      | inr (inr pred) ↦ left_of _ _ x (gets_red q.red (g.dag.preds v) w.tracked v x (operand_of (g.dag.preds v) v x pred) is.1)
    ];
    blue = λ x h. blue_then (contains (kept w) v) p.blue q.blue d.stores v x (f.blue x) h;
  }
    where
      old_red : (x : ℕ) → x ∈ p.red → x ∈ w.tracked → x ∈ union (intersection (worked g q.red v) w.tracked) (difference d.loads (operands v))
      old_red x h t = elim (either_two q.red d.loads x (f.red x h)) [
        | inl is ↦ left_of _ _ x (stays_red q.red (g.dag.preds v) w.tracked v x is t)
        | inr owed ↦ elim (cases_Bool (contains (operands v) x)) [
          | inl operand ↦ left_of _ _ x (gets_red q.red (g.dag.preds v) w.tracked v x operand t)
          | inr out ↦ still_loads d.loads (operands v) (intersection (worked g q.red v) w.tracked) x owed out
        ]
      ]

  work_costs : (p q : Position) (d : Debts) → Follows p q d → (v : ℕ)
      → g.load * size (difference (w.loads v) q.red) + g.load * size (difference d.loads (operands v)) ≤ g.load * size (difference (w.loads v) p.red) + g.load * size d.loads
  work_costs p q d f v =
      let within = size_within (difference (w.loads v) q.red) (union (difference (w.loads v) p.red) (intersection d.loads (operands v))) (λ x h. covered x h) in
      let sum = size_union_le (difference (w.loads v) p.red) (intersection d.loads (operands v)) in
      let parts = size_split d.loads (operands v) in
      let all = mul-le-mul_left g.load (let l : size (difference (w.loads v) q.red) + size (difference d.loads (operands v)) ≤ size (difference (w.loads v) p.red) + size d.loads = omega arith in l) in
      omega arith
    where
      covered : (x : ℕ) → x ∈ difference (w.loads v) q.red → x ∈ union (difference (w.loads v) p.red) (intersection d.loads (operands v))
      covered x h =
          let parts = left_parts (w.loads v) q.red x h in
          let operand = operand_of (g.dag.preds v) v x (ok.loads_read v x parts.0) in
          elim (cases_Bool (contains p.red x)) [
            | inl red ↦ (let is = f.red x red in owed_one x is parts.1 operand)
            | inr out ↦ paid_one x parts.0 out
          ]
        where
          owed_one : (x : ℕ) → x ∈ union q.red d.loads → x ∉ q.red → x ∈ operands v → x ∈ union (difference (w.loads v) p.red) (intersection d.loads (operands v))
          owed_one x is out operand = right_one (difference (w.loads v) p.red) d.loads (operands v) x (blue_unless_red q.red d.loads x is out) operand
            where
              right_one : (a b c : Vertices) (x : ℕ) → x ∈ b → x ∈ c → x ∈ union a (intersection b c)
              right_one a b c x h k = grind (arith, membership)

          paid_one : (x : ℕ) → x ∈ w.loads v → x ∉ p.red → x ∈ union (difference (w.loads v) p.red) (intersection d.loads (operands v))
          paid_one x a b = left_one (w.loads v) p.red (intersection d.loads (operands v)) x a b
            where
              left_one : (a b c : Vertices) (x : ℕ) → x ∈ a → x ∉ b → x ∈ union (difference a b) c
              left_one a b c x h k = grind (arith, membership)

  work_answered : (p q : Position) (d : Debts) → Follows p q d → (v : ℕ) → CanWorkIn g w p v → is_useful g w q v ≡ true → size (worked g q.red v) ≤ g.slots
      → IsAnswered (stepped_in g w p (Work v)) q d (step_cost_in g w p (Work v))
  work_answered p q d f v can useful room = record {
    steps = Work v ∷ [];
    owed = record d { loads = difference d.loads (operands v) };
    play = (
      (
        record {
          seen = can.seen;
          live = can.live;
          no_input = can.no_input;
          preds_held = λ x h. held p q d f x (can.preds_held x h);
          fits = room;
        },
        useful,
      ),
      tt,
    );
    follows = work_follows p q d f v;
    costs = let pays = work_costs p q d f v in omega arith;
  }

  -- ---- if there is none, a red vertex that is not red in the given play makes room

  not_removed : (s : Vertices) (k x : ℕ) → x ∈ s → (x ≡ k → ⊥) → x ∈ remove s k
  not_removed s k x h other = grind (arith, membership)

  out_removed : (s : Vertices) (k x : ℕ) → x ∉ s → x ∉ remove s k
  out_removed s k x h = grind (arith, membership)

  removed_parts : (s : Vertices) (k x : ℕ) → x ∈ remove s k → (x ∈ s) × (x ≡ k → ⊥)
  removed_parts s k x h = (grind (arith, membership), other s k x h)
    where
      other : (s : Vertices) (k x : ℕ) → x ∈ remove s k → x ≡ k → ⊥
      other s k x h e = absurd (let at = subst (λ y. y ∈ remove s k) e h in grind (arith, membership))

  equal_or_not : (x y : ℕ) → (x ≡ y) ⊎ (x ≡ y → ⊥)
  equal_or_not x y = grind arith

  red_without : (r l : Vertices) (u x : ℕ) → x ∈ union r l → (x ≡ u → ⊥) → x ∈ union (remove r u) l
  red_without r l u x h other = grind (arith, membership)

  not_it : (s : Vertices) (u x : ℕ) → u ∉ s → x ∈ s → x ≡ u → ⊥
  not_it s u x out h e = absurd (let at = subst (λ y. y ∈ s) e h in grind arith)

  stored_without : (b s : Vertices) (u x : ℕ) → x ∈ union b s → (x ≡ u → ⊥) → x ∈ union b (remove s u)
  stored_without b s u x h other = grind (arith, membership)

  grown_blue : (b s : Vertices) (u x : ℕ) → x ∈ union b s → x ∈ union (insert b u) (remove s u)
  grown_blue b s u x h = elim (equal_or_not x u) [
    | inl e ↦ grind (arith, membership)
    | inr other ↦ grind (arith, membership)
  ]

  victim_dropped : (p q : Position) (d : Debts) → Follows p q d → (u : ℕ) → u ∉ p.red → (u ∈ p.blue → u ∈ q.blue)
      → Follows p (stepped_in g w q (Drop u)) (record d { stores = remove d.stores u })
  victim_dropped p q d f u out blue = record {
    tracked = λ x h. f.tracked x (in_removed q.red u x h);
    stores_red = λ x h. let parts = removed_parts d.stores u x h in not_removed q.red u x (f.stores_red x parts.0) parts.1;
    stores_charged = λ x h. f.stores_charged x (in_removed d.stores u x h);
    loads_blue = f.loads_blue;
    loads_not_red = λ x h. out_removed q.red u x (f.loads_not_red x h);
    red = λ x h. red_without q.red d.loads u x (f.red x h) (not_it p.red u x out h);
    blue = λ x h. elim (equal_or_not x u) [
      | inl e ↦ left_of q.blue (remove d.stores u) x (subst (λ y. y ∈ q.blue) (sym e) (blue (subst (λ y. y ∈ p.blue) e h)))
      | inr other ↦ stored_without q.blue d.stores u x (f.blue x h) other
    ];
  }

  victim_spilled : (p q : Position) (d : Debts) → Follows p q d → (u : ℕ) → u ∉ p.red
      → Follows p (stepped_in g w q (Spill u)) (record d { stores = remove d.stores u })
  victim_spilled p q d f u out = record {
    tracked = λ x h. f.tracked x (in_removed q.red u x h);
    stores_red = λ x h. let parts = removed_parts d.stores u x h in not_removed q.red u x (f.stores_red x parts.0) parts.1;
    stores_charged = λ x h. f.stores_charged x (in_removed d.stores u x h);
    loads_blue = λ x h. blue_more true q.blue u x (f.loads_blue x h);
    loads_not_red = λ x h. out_removed q.red u x (f.loads_not_red x h);
    red = λ x h. red_without q.red d.loads u x (f.red x h) (not_it p.red u x out h);
    blue = λ x h. grown_blue q.blue d.stores u x (f.blue x h);
  }

  drop_first : (p q : Position) (d owed : Debts) (u paid : ℕ) → IsStepIn g w q (Drop u) → weight owed ≤ weight d
      → IsAnswered p (stepped_in g w q (Drop u)) owed paid → IsAnswered p q d paid
  drop_first p q d owed u paid can less rest = record {
    steps = Drop u ∷ rest.steps;
    owed = rest.owed;
    play = (can, rest.play);
    follows = rest.follows;
    costs = let costs = rest.costs in omega arith;
  }

  spill_first : (p q : Position) (d owed : Debts) (u paid : ℕ) → IsStepIn g w q (Spill u) → g.store + weight owed ≤ weight d
      → IsAnswered p (stepped_in g w q (Spill u)) owed paid → IsAnswered p q d paid
  spill_first p q d owed u paid can less rest = record {
    steps = Spill u ∷ rest.steps;
    owed = rest.owed;
    play = (can, rest.play);
    follows = rest.follows;
    costs = let costs = rest.costs in omega arith;
  }

  removed_within : (s : Vertices) (u : ℕ) → IsWithin (remove s u) s
  removed_within s u x h = in_removed s u x h

  missing : (r s p : Vertices) (v u : ℕ) → u ∈ insert (union r p) v → u ∉ insert (union s p) v → (u ∈ r) × (u ∉ s)
  missing r s p v u a b = (grind (arith, membership), grind (arith, membership))

  -- a vertex that can go
  abbrev Victim : Position → Position → ℕ → Type 0
  Victim p q u = (u ∈ q.red) × (u ∉ p.red) × (g.slots < size q.red + degree g.dag + 1)

  victim : (p q : Position) (v : ℕ) → CanWorkIn g w p v → g.slots < size (worked g q.red v) → (u : ℕ) × Victim p q u
  victim p q v can full =
      let fits = can.fits in
      let m = member_outside (worked g p.red v) (worked g q.red v) (omega arith) in
      let is = missing q.red p.red (g.dag.preds v) v m.0 m.1 m.2 in
      let few = degree_bounds g.dag dag v can.live in
      let one = size_insert_le (union q.red (g.dag.preds v)) v in
      let rest = size_union_le q.red (g.dag.preds v) in
      (m.0, (is.0, is.1, omega arith))

  fits_or_not : (a b : ℕ) → (a ≤ b) ⊎ (b < a)
  fits_or_not a b = grind arith

  blue_known : (p q : Position) (d : Debts) → Follows p q d → (u : ℕ) → u ∉ d.stores → u ∈ p.blue → u ∈ q.blue
  blue_known p q d f u out h = let is = f.blue u h in grind (arith, membership)

  room_made : (turns : ℕ) (p q : Position) (d : Debts) → size q.red < turns → Follows p q d → (v : ℕ) → CanWorkIn g w p v
      → IsAnswered (stepped_in g w p (Work v)) q d (step_cost_in g w p (Work v))
  room_made zero p q d few f v can = absurd (omega arith)
  room_made (suc turns) p q d few f v can = elim (cases_Bool (is_useful g w q v)) [
    | inr useless ↦ work_left_out p q d f v can useless
    | inl useful ↦ elim (fits_or_not (size (worked g q.red v)) g.slots) [
      | inl room ↦ work_answered p q d f v can useful room
      | inr full ↦
          (let u = victim p q v can full in
          let less = size_remove q.red u.0 u.1.0 in
          elim (cases_Bool (contains q.blue u.0)) [
            | inl blue ↦ drop_first (stepped_in g w p (Work v)) q d (record d { stores = remove d.stores u.0 }) u.0 (step_cost_in g w p (Work v)) (u.1.0, u.1.2)
                (let fewer = mul-le-mul_left g.store (size_within _ _ (removed_within d.stores u.0)) in omega arith)
                (room_made turns p (stepped_in g w q (Drop u.0)) (record d { stores = remove d.stores u.0 }) (omega arith) (victim_dropped p q d f u.0 u.1.1 (λ _. blue)) v can)
            | inr not_blue ↦ elim (cases_Bool (contains d.stores u.0)) [
              | inl owed ↦ spill_first (stepped_in g w p (Work v)) q d (record d { stores = remove d.stores u.0 }) u.0 (step_cost_in g w p (Work v))
                  (record { red = u.1.0; charged = f.stores_charged u.0 owed; not_blue = not_blue }, u.1.2)
                  (let one = ap (λ n. g.store * n) (size_remove d.stores u.0 owed) in omega arith)
                  (room_made turns p (stepped_in g w q (Spill u.0)) (record d { stores = remove d.stores u.0 }) (omega arith) (victim_spilled p q d f u.0 u.1.1) v can)
              | inr free ↦ drop_first (stepped_in g w p (Work v)) q d (record d { stores = remove d.stores u.0 }) u.0 (step_cost_in g w p (Work v)) (u.1.0, u.1.2)
                  (let fewer = mul-le-mul_left g.store (size_within _ _ (removed_within d.stores u.0)) in omega arith)
                  (room_made turns p (stepped_in g w q (Drop u.0)) (record d { stores = remove d.stores u.0 }) (omega arith) (victim_dropped p q d f u.0 u.1.1 (blue_known p q d f u.0 free)) v can)
            ]
          ])
    ]
  ]

  step_answered : (p q : Position) (d : Debts) → Follows p q d → (s : Step) → IsPossibleStep g w p s → IsAnswered (stepped_in g w p s) q d (step_cost_in g w p s)
  step_answered p q d f (Work v) can = room_made (size q.red + 1) p q d (omega arith) f v can
  step_answered p q d f (Drop u) can = stay (stepped_in g w p (Drop u)) q d d 0 (drop_follows p q d f u) (omega arith)
  step_answered p q d f (Spill u) can = spill_answered p q d f u can

  -- ---- all steps

  append_after : (p : Position) (ss ts : List Step) → play_after_in g w p (ss ++ ts) ≡ play_after_in g w (play_after_in g w p ss) ts
  append_after = after_both (stepped_in g w) (play_after_in g w) (λ p. refl) (λ p s ss. refl)

  append_play : (p : Position) (ss ts : List Step) → IsPlayIn g w p ss → IsPlayIn g w (play_after_in g w p ss) ts → IsPlayIn g w p (ss ++ ts)
  append_play = allowed_both (stepped_in g w) (play_after_in g w) (λ p. refl) (λ p s ss. refl) (IsStepIn g w) (IsPlayIn g w) (λ p s ss both. both) (λ p s ss first rest. (first, rest))

  append_cost : (p : Position) (ss ts : List Step) → play_cost_in g w p (ss ++ ts) ≡ play_cost_in g w p ss + play_cost_in g w (play_after_in g w p ss) ts
  append_cost = total_both (stepped_in g w) (play_after_in g w) (λ p. refl) (λ p s ss. refl) (step_cost_in g w) (play_cost_in g w) (λ p. refl) (λ p s ss. refl)

  all_answered : (ss : List Step) (p q : Position) (d : Debts) → Follows p q d → IsPossiblePlay g w p ss → IsAnswered (play_after_in g w p ss) q d (play_cost_in g w p ss)
  all_answered [] p q d f play = stay p q d d 0 f (omega arith)
  all_answered (s ∷ ss) p q d f play =
      let first = step_answered p q d f s play.0 in
      let second = all_answered ss (stepped_in g w p s) (play_after_in g w q first.steps) first.owed first.follows play.1 in
      record {
        steps = first.steps ++ second.steps;
        owed = second.owed;
        play = append_play q first.steps second.steps first.play second.play;
        follows = subst (λ x. Follows (play_after_in g w (stepped_in g w p s) ss) x second.owed) (sym (append_after q first.steps second.steps)) second.follows;
        costs = let a = first.costs in let b = second.costs in omega (arith, append_cost q first.steps second.steps);
      }

  -- ---- the finish

  finish_within : (o c pb qb s : Vertices) → ((x : ℕ) → x ∈ pb → x ∈ union qb s) → IsWithin (difference (intersection o c) qb) (union (difference (intersection o c) pb) s)
  finish_within o c pb qb s held x h = elim (cases_Bool (contains pb x)) [
    | inl is ↦ (let at = held x is in grind (arith, membership))
    | inr out ↦ grind (arith, membership)
  ]

  finish_paid : (p q : Position) (d : Debts) → Follows p q d → finish_cost_in g w q ≤ finish_cost_in g w p + g.store * size d.stores
  finish_paid p q d f =
      let within = size_within _ _ (finish_within g.dag.outputs w.stores p.blue q.blue d.stores f.blue) in
      let sum = size_union_le (difference (intersection g.dag.outputs w.stores) p.blue) d.stores in
      let all = mul-le-mul_left g.store (let l : size (difference (intersection g.dag.outputs w.stores) q.blue) ≤ size (difference (intersection g.dag.outputs w.stores) p.blue) + size d.stores = omega arith in l) in
      omega arith

  not_charged : (s c : Vertices) (x : ℕ) → (x ∈ s → x ∈ c) → x ∉ c → x ∉ s
  not_charged s c x within out = elim (cases_Bool (contains s x)) as (λ _. x ∉ s) [
    | inl is ↦ absurd (let at = within is in grind arith)
    | inr no_member ↦ no_member
  ]

  finish_held : (p q : Position) (d : Debts) → Follows p q d → CanFinishIn g w p → CanFinishIn g w q
  finish_held p q d f finish = record {
    outputs_held = λ x h. held p q d f x (finish.outputs_held x h);
    required_done = λ x h. blue_known p q d f x (not_charged d.stores w.stores x (f.stores_charged x) (ok.required_uncharged x h)) (finish.required_done x h);
  }

  from_free : (p : Position) → IsWithin p.red w.tracked → (ss : List Step) → IsPossiblePlay g w p ss → CanFinishIn g w (play_after_in g w p ss) → FinishesWithinIn g w p (total_cost_in g w p ss)
  from_free p tracked ss play finish =
      let all = all_answered ss p p (record { stores = empty; loads = empty }) (record {
        tracked = tracked;
        stores_red = λ x h. absurd (grind (arith, membership));
        stores_charged = λ x h. absurd (grind (arith, membership));
        loads_blue = λ x h. absurd (grind (arith, membership));
        loads_not_red = λ x h. absurd (grind (arith, membership));
        red = λ x h. left_of p.red empty x h;
        blue = λ x h. left_of p.blue empty x h;
      }) play in
      record {
        steps = all.steps;
        finishing = record { play = all.play; finishes = finish_held _ _ all.owed all.follows finish };
        costs =
            let paid = finish_paid _ _ all.owed all.follows in
            let costs = all.costs in
            let stores = ap (λ n. g.store * n) size_empty in
            let loads = ap (λ n. g.load * n) size_empty in
            omega arith;
      }

pub plays_in_time : PlaysInTime
plays_in_time g dag w ok p tracked ss play finish = from_free g dag w ok p tracked ss play finish

pub plays_are_seen : PlaysShow → PlaysAreSeen
plays_are_seen show g dag w ok ss finishing =
    let seen = show g dag w ok ss finishing in
    let in_time = plays_in_time g dag w ok _ (λ x h. absurd (grind (arith, membership))) _ seen.play seen.finishes in
    record { steps = in_time.steps; finishing = in_time.finishing; costs = let a = seen.costs in let b = in_time.costs in omega arith }
