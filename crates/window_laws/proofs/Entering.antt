-- No play of a window that finishes costs less than the entry floor.
use Rattle.std.proofs.Common.{◌≡◌, ℕ, ◌+◌, ◌-◌, ◌*◌, ◌≤◌, ◌<◌, max, ltb, Bool, true, false, cond, List, [], ◌∷◌, length, ◌⊎◌, inl, inr, sym, refl, ap, ◌∙◌, subst, arith, mul-le-mul_left}
use Rattle.std.specs.Prelude.{⊤}
use Rattle.std.specs.FinSet.{empty, contains, insert, remove, union, intersection, difference}
use Rattle.std.proofs.lemmas.Bool.{cases_Bool}
use Rattle.std.proofs.lemmas.Bool.Decides.{nat_tests}
use Rattle.comp_graph.specs.Vertices.{Vertices, ◌∈◌, ◌∉◌, IsWithin, IsOutside, size}
use Rattle.comp_graph.specs.Sets.{same, membership}
use Rattle.comp_graph.specs.Games.{PebbleGame}
use Rattle.comp_graph.proofs.Sets.{size_within, size_insert_le, size_union_le, size_split, size_of_member, some_member, both_parts, insert_cases}
use Rattle.pebble_rules.specs.declared.position.Position.{Position}
use Rattle.normal_steps.specs.declared.step.Step.{Step}
use Rattle.normal_steps.specs.declared.step.Step.TheVariants.{Work, Drop, Spill}
use Rattle.comp_graph.specs.Lists.{IsIn}
use Rattle.window_game.specs.Windows.{Window, IsWindow, kept, known}
use Rattle.window_game.specs.Plays.{CanWorkIn, stepped_in, IsPlayIn, play_after_in, CanFinishIn, total_cost_in}
use Rattle.window_laws.specs.Entry.{Group, held_for, IsWorker, IsGroup, SharesNoMember, AreGroups, needed_in, Entry, entry_cost, unsaved, claim, entries, entries_cost, credit, entry_floor, EntryFloorHolds}
use Rattle.window_laws.specs.Cones.{touches, IsClosed, AreDisjoint, AreCones, cone_floor, ConeFloorHolds}
use Rattle.window_laws.specs.Floors.{GreaterFloorHolds}
use Rattle.window_laws.proofs.Needs.{WorksOn, needed_works}

-- ---- sets

saved_one : (d m b : Vertices) (x : ℕ) → IsWithin (difference d (difference m (insert b x))) (insert (difference d (difference m b)) x)
saved_one d m b x q h = grind (arith, membership)

saved_less : (d m b : Vertices) (x : ℕ) → IsWithin (difference d (difference m b)) (difference d (difference m (insert b x)))
saved_less d m b x q h = grind (arith, membership)

not_saved : (m b : Vertices) (x : ℕ) → x ∉ m → difference m (insert b x) ≡ difference m b
not_saved m b x h = same _ _ (λ q. grind (arith, membership))

output_one : (o b : Vertices) (x : ℕ) → IsWithin (difference o b) (insert (difference o (insert b x)) x)
output_one o b x q h = grind (arith, membership)

not_in_first : (s t : Vertices) (q : ℕ) → q ∉ s → q ∉ intersection s t
not_in_first s t q h = grind (arith, membership)

not_in_second : (s t : Vertices) (q : ℕ) → q ∉ t → q ∉ intersection s t
not_in_second s t q h = grind (arith, membership)

not_outside : (s t : Vertices) (q : ℕ) → IsOutside s t → q ∈ t → q ∉ s
not_outside s t q apart h = elim (cases_Bool (contains s q)) as (λ _. q ∉ s) [
  | inl is ↦ absurd (let out = apart q is in grind arith)
  | inr out ↦ out
]

loads_over : (d x r : Vertices) → IsWithin (union d x) (union (difference d r) (union r x))
loads_over d x r q h = grind (arith, membership)

less_red : (l d r : Vertices) → IsWithin d l → IsWithin (difference d r) (difference l r)
less_red l d r within q h = let at = within q in grind (arith, membership)

dropped_more : (d r : Vertices) (u : ℕ) → IsWithin (difference d r) (difference d (remove r u))
dropped_more d r u q h = grind (arith, membership)

room_dropped : (r x : Vertices) (u : ℕ) → IsWithin (union (remove r u) x) (union r x)
room_dropped r x u q h = grind (arith, membership)

room_worked : (r t p : Vertices) (v : ℕ) → IsWithin (union (intersection (insert (union r p) v) t) (insert p v)) (insert (union r p) v)
room_worked r t p v q h = grind (arith, membership)

room_alone : (r p : Vertices) (v : ℕ) → IsWithin (insert p v) (insert (union r p) v)
room_alone r p v q h = grind (arith, membership)

-- ---- lists of entries

record AreApart (e f : Entry) : Type 0 where
  members : IsOutside e.group.members f.group.members
  stores : IsOutside e.stores f.stores

abbrev ArePairs : List Entry → Type 0
ArePairs [] = ⊤
ArePairs (e ∷ es) = ((f : Entry) → IsIn f es → AreApart e f) × ArePairs es

-- a play works on a member
abbrev Enters : Vertices → List Step → Type 0
Enters m [] = ⊥
Enters m (Work y ∷ ss) = (y ∈ m) ⊎ Enters m ss
Enters m (Drop u ∷ ss) = Enters m ss
Enters m (Spill u ∷ ss) = Enters m ss

enters_by : (m : Vertices) (v : ℕ) → v ∈ m → (ss : List Step) → WorksOn v ss → Enters m ss
enters_by m v is [] h = absurd h
enters_by m v is (Work y ∷ ss) (inl e) = inl (subst (λ x. x ∈ m) e is)
enters_by m v is (Work y ∷ ss) (inr h) = inr (enters_by m v is ss h)
enters_by m v is (Drop u ∷ ss) h = enters_by m v is ss h
enters_by m v is (Spill u ∷ ss) h = enters_by m v is ss h

-- the entries without the one that the Work of v makes
abbrev leave : ℕ → List Entry → List Entry
leave v [] = []
leave v (e ∷ es) = cond (contains e.group.members v) es (e ∷ leave v es)

in_leave : (v : ℕ) (es : List Entry) (x : Entry) → IsIn x (leave v es) → IsIn x es
in_leave v [] x = λ h. h
in_leave v (e ∷ es) x = elim (contains e.group.members v) as (λ b. IsIn x (cond b es (e ∷ leave v es)) → IsIn x (e ∷ es)) [
  | true ↦ λ h. inr h
  | false ↦ λ h. elim h [ inl is ↦ inl is | inr rest ↦ inr (in_leave v es x rest) ]
]

pairs_leave : (v : ℕ) (es : List Entry) → ArePairs es → ArePairs (leave v es)
pairs_leave v [] pairs = tt
pairs_leave v (e ∷ es) pairs = elim (contains e.group.members v) as (λ b. ArePairs (cond b es (e ∷ leave v es))) [
  | true ↦ pairs.1
  | false ↦ (λ f h. pairs.0 f (in_leave v es f h), pairs_leave v es pairs.1)
]

left_out : (v : ℕ) (es : List Entry) → ArePairs es → (x : Entry) → IsIn x (leave v es) → v ∉ x.group.members
left_out v [] pairs x = λ h. absurd h
left_out v (e ∷ es) pairs x = elim (contains e.group.members v) as (λ b. contains e.group.members v ≡ b → IsIn x (cond b es (e ∷ leave v es)) → v ∉ x.group.members) [
  | true ↦ λ is h. (pairs.0 x h).members v is
  | false ↦ λ out h. elim h [
    | inl here ↦ subst (λ y. v ∉ y.group.members) (sym here) out
    | inr rest ↦ left_out v es pairs.1 x rest
  ]
] refl

-- ---- costs

module _ (g : PebbleGame) where
  less_cost : (e : Entry) (m n : ℕ) → n ≤ m → g.store * (e.group.least - m) ≤ g.store * (e.group.least - n)
  less_cost e m n h = mul-le-mul_left g.store (let l : e.group.least - m ≤ e.group.least - n = omega arith in l)

  cost_spilled : (e : Entry) (b : Vertices) (x : ℕ) → entry_cost g b e ≤ entry_cost g (insert b x) e + g.store
  cost_spilled e b x =
      let one = size_within _ _ (saved_one e.group.loads e.stores b x) in
      let more = size_insert_le (difference e.group.loads (difference e.stores b)) x in
      let parts = mul-le-mul_left g.store (less_by_one e.group.least (size (difference e.group.loads (difference e.stores b))) (size (difference e.group.loads (difference e.stores (insert b x)))) (omega arith)) in
      omega arith
    where
      less_by_one : (y m n : ℕ) → n ≤ m + 1 → y - m ≤ (y - n) + 1
      less_by_one y m n h = omega arith

  cost_same : (e : Entry) (b : Vertices) (x : ℕ) → x ∉ e.stores → entry_cost g (insert b x) e ≡ entry_cost g b e
  cost_same e b x out = ap (λ s. g.load * e.group.least + g.store * (e.group.least - size (difference e.group.loads s))) (not_saved e.stores b x out)

  cost_falls : (e : Entry) (b : Vertices) (x : ℕ) → entry_cost g (insert b x) e ≤ entry_cost g b e
  cost_falls e b x =
      let more = size_within _ _ (saved_less e.group.loads e.stores b x) in
      let less = less_cost e _ _ more in
      omega arith

  costs_same : (b : Vertices) (x : ℕ) (es : List Entry) → ((e : Entry) → IsIn e es → x ∉ e.stores) → entries_cost g (insert b x) es ≡ entries_cost g b es
  costs_same b x [] out = refl
  costs_same b x (e ∷ es) out =
      let here = cost_same e b x (out e (inl refl)) in
      let rest = costs_same b x es (λ f h. out f (inr h)) in
      omega arith

  costs_spilled : (b : Vertices) (x : ℕ) (es : List Entry) → ArePairs es → entries_cost g b es ≤ entries_cost g (insert b x) es + g.store
  costs_spilled b x [] pairs = omega arith
  costs_spilled b x (e ∷ es) pairs = elim (cases_Bool (contains e.stores x)) [
    | inl is ↦
        (let here = cost_spilled e b x in
        let rest = costs_same b x es (λ f h. (pairs.0 f h).stores x is) in
        omega arith)
    | inr out ↦
        (let here = cost_same e b x out in
        let rest = costs_spilled b x es pairs.1 in
        omega arith)
  ]

  -- the Work of v makes at most one entry
  costs_left : (b : Vertices) (v c : ℕ) (es : List Entry) → ((e : Entry) → IsIn e es → v ∈ e.group.members → entry_cost g b e ≤ c) → entries_cost g b es ≤ entries_cost g b (leave v es) + c
  costs_left b v c [] most = omega arith
  costs_left b v c (e ∷ es) most = elim (contains e.group.members v) as (λ t. contains e.group.members v ≡ t → entries_cost g b (e ∷ es) ≤ entries_cost g b (cond t es (e ∷ leave v es)) + c) [
    | true ↦ λ is. let here = most e (inl refl) is in omega arith
    | false ↦ λ out. let rest = costs_left b v c es (λ f h. most f (inr h)) in omega arith
  ] refl

  module _ (w : Window) (ok : IsWindow g w) where
    record IsEntry (e : Entry) : Type 0 where
      group : IsGroup g w e.group
      charged : IsWithin e.stores w.stores
      inner : IsOutside e.stores g.dag.outputs

    abbrev outputs_cost : Vertices → ℕ
    outputs_cost b = g.store * size (difference (intersection g.dag.outputs w.stores) b)

    outputs_spilled : (b : Vertices) (x : ℕ) → outputs_cost b ≤ outputs_cost (insert b x) + g.store
    outputs_spilled b x =
        let one = size_within _ _ (output_one (intersection g.dag.outputs w.stores) b x) in
        let more = size_insert_le (difference (intersection g.dag.outputs w.stores) (insert b x)) x in
        let parts = mul-le-mul_left g.store (let l : size (difference (intersection g.dag.outputs w.stores) b) ≤ size (difference (intersection g.dag.outputs w.stores) (insert b x)) + 1 = omega arith in l) in
        omega arith

    outputs_same : (b : Vertices) (x : ℕ) → x ∉ intersection g.dag.outputs w.stores → outputs_cost (insert b x) ≡ outputs_cost b
    outputs_same b x out = ap (λ s. g.store * size s) (not_saved (intersection g.dag.outputs w.stores) b x out)

    abbrev owed : Vertices → List Entry → ℕ
    owed b es = outputs_cost b + entries_cost g b es

    abbrev AreEntries : List Entry → Type 0
    AreEntries es = (e : Entry) → IsIn e es → IsEntry e

    owed_spilled : (b : Vertices) (x : ℕ) (es : List Entry) → AreEntries es → ArePairs es → owed b es ≤ owed (insert b x) es + g.store
    owed_spilled b x es all pairs = elim (cases_Bool (contains g.dag.outputs x)) [
      | inl output ↦
          (let here = outputs_spilled b x in
          let rest = costs_same b x es (λ e h. not_outside e.stores g.dag.outputs x (all e h).inner output) in
          omega arith)
      | inr inner ↦
          (let here = outputs_same b x (not_in_first g.dag.outputs w.stores x inner) in
          let rest = costs_spilled b x es pairs in
          omega arith)
    ]

    kept_not_charged : (v : ℕ) → v ∈ kept w → v ∉ w.stores
    kept_not_charged v h = elim (cases_Bool (contains w.required v)) as (λ _. v ∉ w.stores) [
      | inl required ↦ ok.required_uncharged v required
      | inr out ↦ grind (arith, membership)
    ]

    within_not : (s t : Vertices) (q : ℕ) → IsWithin s t → q ∉ t → q ∉ s
    within_not s t q within out = elim (cases_Bool (contains s q)) as (λ _. q ∉ s) [
      | inl is ↦ absurd (let at = within q is in grind arith)
      | inr not_in ↦ not_in
    ]

    owed_kept : (b : Vertices) (v : ℕ) (es : List Entry) → AreEntries es → owed b es ≤ owed (cond (contains (kept w) v) (insert b v) b) es
    owed_kept b v es all = elim (contains (kept w) v) as (λ c. contains (kept w) v ≡ c → owed b es ≤ owed (cond c (insert b v) b) es) [
      | true ↦ λ is.
          let free = kept_not_charged v is in
          let here = outputs_same b v (not_in_second g.dag.outputs w.stores v free) in
          let rest = costs_same b v es (λ e h. within_not e.stores w.stores v (all e h).charged free) in
          omega arith
      | false ↦ λ out. omega arith
    ] refl

    -- ---- one Work of a group

    worker : (p : Position) (v : ℕ) → CanWorkIn g w p v → IsWorker g w v
    worker p v can = record {
      seen = can.seen;
      live = can.live;
      no_input = can.no_input;
      fits = let less = size_within _ _ (room_alone p.red (g.dag.preds v) v) in let fits = can.fits in omega arith;
    }

    -- of what is loaded nothing has still to be stored
    loaded_saved : (p : Position) (v : ℕ) → CanWorkIn g w p v → (d m : Vertices) → IsWithin d (w.loads v) → IsWithin (difference d p.red) (difference d (difference m p.blue))
    loaded_saved p v can d m within q h =
        let charged = within q (first_of d p.red q h) in
        let held = can.preds_held q (operand (g.dag.preds v) w.tracked w.required q (ok.loads_read v q charged) (ok.loads_tracked v q charged)) in
        saved q h held
      where
        first_of : (s t : Vertices) (q : ℕ) → q ∈ difference s t → q ∈ s
        first_of s t q h = grind (arith, membership)

        operand : (p t r : Vertices) (q : ℕ) → q ∈ p → q ∈ t → q ∈ intersection p (union t r)
        operand p t r q a b = grind (arith, membership)

        saved : (q : ℕ) → q ∈ difference d p.red → q ∈ union p.red p.blue → q ∈ difference d (difference m p.blue)
        saved q h held = grind (arith, membership)

    -- after a Work of u that is outside the group
    entry_paid : (p : Position) (u v : ℕ) → IsWorker g w u → size (union p.red (held_for g u)) ≤ g.slots → CanWorkIn g w p v
        → (e : Entry) → IsEntry e → u ∉ e.group.members → v ∈ e.group.members → entry_cost g p.blue e ≤ 0 + g.load * size (difference e.group.loads p.red)
    entry_paid p u v work room can e is out member =
        let over = size_within _ _ (loads_over e.group.loads (held_for g u) p.red) in
        let sum = size_union_le (difference e.group.loads p.red) (union p.red (held_for g u)) in
        let least = is.group.entered u work out in
        let some : e.group.least ≤ size (difference e.group.loads p.red) = omega arith in
        let saved = size_within _ _ (loaded_saved p v can e.group.loads e.stores (is.group.loaded v member)) in
        let no_store = stores_nothing g.store e.group.least (size (difference e.group.loads (difference e.stores p.blue))) (omega arith) in
        let loads = mul-le-mul_left g.load some in
        omega arith
      where
        stores_nothing : (b y n : ℕ) → y ≤ n → b * (y - n) ≡ 0
        stores_nothing b y n h = let none : y - n ≡ 0 = omega arith in ap (λ k. b * k) none ∙ (let z : b * 0 ≡ 0 = omega arith in z)

    -- ---- cones

    touched_member : (p : Position) (v : ℕ) → CanWorkIn g w p v → (k : Vertices) → IsClosed g w p k → touches g k v ≡ true → (x : ℕ) × (x ∈ g.dag.preds v) × (x ∈ k)
    touched_member p v can k is touched =
        let some = some_member (intersection (held_for g v) k) (more (size (intersection (held_for g v) k)) touched) in
        let parts = both_parts (held_for g v) k some.0 some.1 in
        elim (insert_cases (g.dag.preds v) v some.0 parts.0) [
          | inl e ↦ is.fed v (subst (λ x. x ∈ k) e parts.1) (worker p v can)
          | inr pred ↦ (some.0, pred, parts.1)
        ]
      where
        more : (n : ℕ) → ltb 0 n ≡ true → 0 < n
        more n e = grind (arith, nat_tests)

    -- the Work loads a member of a cone that it touches
    touched_loads : (p : Position) (v : ℕ) → CanWorkIn g w p v → (k : Vertices) → IsClosed g w p k → touches g k v ≡ true → (x : ℕ) × (x ∈ k) × (x ∈ difference (w.loads v) p.red)
    touched_loads p v can k is touched =
        let m = touched_member p v can k is touched in
        elim (cases_Bool (contains w.tracked m.0)) [
          | inl tracked ↦ (m.0, m.2, loaded (w.loads v) p.red m.0 (is.charged m.0 v m.2 tracked (worker p v can) m.1) (is.not_red m.0 m.2))
          | inr out ↦ absurd (
              let held = can.preds_held m.0 (both_of (g.dag.preds v) (known w) m.0 m.1 (is.inside m.0 m.2)) in
              let not_red = is.not_red m.0 m.2 in
              let not_blue = is.not_done m.0 m.2 out in
              bare p.red p.blue m.0 held not_red not_blue)
        ]
      where
        loaded : (s t : Vertices) (q : ℕ) → q ∈ s → q ∉ t → q ∈ difference s t
        loaded s t q a b = grind (arith, membership)

        both_of : (s t : Vertices) (q : ℕ) → q ∈ s → q ∈ t → q ∈ intersection s t
        both_of s t q a b = grind (arith, membership)

        bare : (s t : Vertices) (q : ℕ) → q ∈ union s t → q ∉ s → q ∉ t → ⊥
        bare s t q a b c = absurd (grind (arith, membership))

    -- the cones that the Work of v does not touch
    abbrev untouched : ℕ → List Vertices → List Vertices
    untouched v [] = []
    untouched v (k ∷ ks) = cond (touches g k v) (untouched v ks) (k ∷ untouched v ks)

    in_untouched : (v : ℕ) (ks : List Vertices) (k : Vertices) → IsIn k (untouched v ks) → IsIn k ks × (touches g k v ≡ false)
    in_untouched v [] k = λ h. absurd h
    in_untouched v (l ∷ ls) k = elim (touches g l v) as (λ b. touches g l v ≡ b → IsIn k (cond b (untouched v ls) (l ∷ untouched v ls)) → IsIn k (l ∷ ls) × (touches g k v ≡ false)) [
      | true ↦ λ is h. let rest = in_untouched v ls k h in (inr rest.0, rest.1)
      | false ↦ λ out h. elim h [
        | inl here ↦ (inl here, subst (λ x. touches g x v ≡ false) (sym here) out)
        | inr later ↦ (let rest = in_untouched v ls k later in (inr rest.0, rest.1))
      ]
    ] refl

    disjoint_untouched : (v : ℕ) (ks : List Vertices) → AreDisjoint ks → AreDisjoint (untouched v ks)
    disjoint_untouched v [] all = tt
    disjoint_untouched v (k ∷ ks) all = elim (touches g k v) as (λ b. AreDisjoint (cond b (untouched v ks) (k ∷ untouched v ks))) [
      | true ↦ disjoint_untouched v ks all.1
      | false ↦ (λ l h. all.0 l (in_untouched v ks l h).0, disjoint_untouched v ks all.1)
    ]

    -- each touched cone has a member of its own in the set
    cones_counted : (v : ℕ) (ks : List Vertices) (s : Vertices) → AreDisjoint ks → ((k : Vertices) → IsIn k ks → touches g k v ≡ true → (x : ℕ) × (x ∈ k) × (x ∈ s))
        → length ks ≤ length (untouched v ks) + size s
    cones_counted v [] s all own = omega arith
    cones_counted v (k ∷ ks) s all own = elim (touches g k v) as (λ b. touches g k v ≡ b → length (k ∷ ks) ≤ length (cond b (untouched v ks) (k ∷ untouched v ks)) + size s) [
      | true ↦ λ is.
          let x = own k (inl refl) is in
          let rest = cones_counted v ks (difference s k) all.1 (λ l h t. let y = own l (inr h) t in (y.0, y.1, not_first s k y.0 y.2 (not_outside k l y.0 (all.0 l h) y.1))) in
          let parts = size_split s k in
          let one = size_of_member (intersection s k) x.0 (both_of s k x.0 x.2 x.1) in
          omega arith
      | false ↦ λ out. let rest = cones_counted v ks s all.1 (λ l h t. own l (inr h) t) in omega arith
    ] refl
      where
        not_first : (s k : Vertices) (q : ℕ) → q ∈ s → q ∉ k → q ∈ difference s k
        not_first s k q a b = grind (arith, membership)

        both_of : (s t : Vertices) (q : ℕ) → q ∈ s → q ∈ t → q ∈ intersection s t
        both_of s t q a b = grind (arith, membership)

    -- an untouched cone stays closed
    closed_after_work : (p : Position) (v : ℕ) (k : Vertices) → IsClosed g w p k → touches g k v ≡ false → IsClosed g w (stepped_in g w p (Work v)) k
    closed_after_work p v k is out = record {
      inside = is.inside;
      not_red = λ x h. red_after p.red (g.dag.preds v) w.tracked v x (is.not_red x h) (apart x h);
      not_done = λ x h t. done_after (contains (kept w) v) p.blue (g.dag.preds v) v x (is.not_done x h t) (apart x h);
      charged = is.charged;
      fed = is.fed;
    }
      where
        none : (n : ℕ) → ltb 0 n ≡ false → n ≡ 0
        none n e = grind (arith, nat_tests)

        apart : (x : ℕ) → x ∈ k → x ∉ held_for g v
        apart x h = elim (cases_Bool (contains (held_for g v) x)) as (λ _. x ∉ held_for g v) [
          | inl is_in ↦ absurd (let some = size_of_member (intersection (held_for g v) k) x (both_of (held_for g v) k x is_in h) in let zero_size = none (size (intersection (held_for g v) k)) out in omega arith)
          | inr not_in ↦ not_in
        ]
          where
            both_of : (s t : Vertices) (q : ℕ) → q ∈ s → q ∈ t → q ∈ intersection s t
            both_of s t q a b = grind (arith, membership)

        red_after : (r p t : Vertices) (v x : ℕ) → x ∉ r → x ∉ insert p v → x ∉ intersection (insert (union r p) v) t
        red_after r p t v x a b = grind (arith, membership)

        done_after : (c : Bool) (b p : Vertices) (v x : ℕ) → x ∉ b → x ∉ insert p v → x ∉ cond c (insert b v) b
        done_after true b p v x a c = grind (arith, membership)
        done_after false b p v x a c = a

    closed_after_drop : (p : Position) (u : ℕ) (k : Vertices) → IsClosed g w p k → IsClosed g w (stepped_in g w p (Drop u)) k
    closed_after_drop p u k is = record {
      inside = is.inside;
      not_red = λ x h. out_removed p.red u x (is.not_red x h);
      not_done = is.not_done;
      charged = is.charged;
      fed = is.fed;
    }
      where
        out_removed : (s : Vertices) (k x : ℕ) → x ∉ s → x ∉ remove s k
        out_removed s k x h = grind (arith, membership)

    closed_after_spill : (p : Position) (u : ℕ) (k : Vertices) → u ∈ w.tracked → IsClosed g w p k → IsClosed g w (stepped_in g w p (Spill u)) k
    closed_after_spill p u k tracked is = record {
      inside = is.inside;
      not_red = λ x h. out_removed p.red u x (is.not_red x h);
      not_done = λ x h t. out_grown p.blue w.tracked u x (is.not_done x h t) tracked t;
      charged = is.charged;
      fed = is.fed;
    }
      where
        out_removed : (s : Vertices) (k x : ℕ) → x ∉ s → x ∉ remove s k
        out_removed s k x h = grind (arith, membership)

        out_grown : (b t : Vertices) (u x : ℕ) → x ∉ b → u ∈ t → x ∉ t → x ∉ insert b u
        out_grown b t u x a is_in out = elim (cases_Bool (contains (insert b u) x)) as (λ _. x ∉ insert b u) [
          | inl insert_cases ↦ absurd (elim (cases b u x insert_cases) [
            | inl e ↦ (let at = ap (contains t) e in grind arith)
            | inr old ↦ grind arith
          ])
          | inr not_in ↦ not_in
        ]
          where
            cases : (s : Vertices) (k q : ℕ) → q ∈ insert s k → (q ≡ k) ⊎ (q ∈ s)
            cases s k q h = grind (arith, membership)

    -- the play touches the cone
    abbrev IsTouched : Vertices → List Step → Type 0
    IsTouched k [] = ⊥
    IsTouched k (Work y ∷ ss) = (touches g k y ≡ true) ⊎ IsTouched k ss
    IsTouched k (Drop u ∷ ss) = IsTouched k ss
    IsTouched k (Spill u ∷ ss) = IsTouched k ss

    touched_by : (k : Vertices) (v : ℕ) → touches g k v ≡ true → (ss : List Step) → WorksOn v ss → IsTouched k ss
    touched_by k v is [] h = absurd h
    touched_by k v is (Work y ∷ ss) (inl e) = inl (subst (λ x. touches g k x ≡ true) e is)
    touched_by k v is (Work y ∷ ss) (inr h) = inr (touched_by k v is ss h)
    touched_by k v is (Drop u ∷ ss) h = touched_by k v is ss h
    touched_by k v is (Spill u ∷ ss) h = touched_by k v is ss h

    -- what is still to be touched, and at which step
    record AreAhead (p : Position) (es : List Entry) (ks : List Vertices) (ss : List Step) : Type 0 where
      all : AreEntries es
      pairs : ArePairs es
      enters : (e : Entry) → IsIn e es → Enters e.group.members ss
      closed : (k : Vertices) → IsIn k ks → IsClosed g w p k
      touched : (k : Vertices) → IsIn k ks → IsTouched k ss
      disjoint : AreDisjoint ks
      apart : (k : Vertices) → IsIn k ks → (e : Entry) → IsIn e es → IsOutside k e.group.loads

    enters_left : (v : ℕ) (es : List Entry) → ArePairs es → (ss : List Step) → ((e : Entry) → IsIn e es → Enters e.group.members (Work v ∷ ss))
        → (e : Entry) → IsIn e (leave v es) → Enters e.group.members ss
    enters_left v es pairs ss all e h = elim (all e (in_leave v es e h)) [
      | inl member ↦ absurd (let out = left_out v es pairs e h in grind arith)
      | inr rest ↦ rest
    ]

    touched_later : (v : ℕ) (k : Vertices) (ss : List Step) → touches g k v ≡ false → IsTouched k (Work v ∷ ss) → IsTouched k ss
    touched_later v k ss out (inl is) = absurd (grind arith)
    touched_later v k ss out (inr rest) = rest

    ahead_of_work : (p : Position) (es : List Entry) (ks : List Vertices) (v : ℕ) (ss : List Step) → AreAhead p es ks (Work v ∷ ss)
        → AreAhead (stepped_in g w p (Work v)) (leave v es) (untouched v ks) ss
    ahead_of_work p es ks v ss ahead = record {
      all = λ e h. ahead.all e (in_leave v es e h);
      pairs = pairs_leave v es ahead.pairs;
      enters = enters_left v es ahead.pairs ss ahead.enters;
      closed = λ k h. let is = in_untouched v ks k h in closed_after_work p v k (ahead.closed k is.0) is.1;
      touched = λ k h. let is = in_untouched v ks k h in touched_later v k ss is.1 (ahead.touched k is.0);
      disjoint = disjoint_untouched v ks ahead.disjoint;
      apart = λ k h e i. ahead.apart k (in_untouched v ks k h).0 e (in_leave v es e i);
    }

    ahead_of_drop : (p : Position) (es : List Entry) (ks : List Vertices) (u : ℕ) (ss : List Step) → AreAhead p es ks (Drop u ∷ ss) → AreAhead (stepped_in g w p (Drop u)) es ks ss
    ahead_of_drop p es ks u ss ahead = record {
      all = ahead.all;
      pairs = ahead.pairs;
      enters = ahead.enters;
      closed = λ k h. closed_after_drop p u k (ahead.closed k h);
      touched = ahead.touched;
      disjoint = ahead.disjoint;
      apart = ahead.apart;
    }

    ahead_of_spill : (p : Position) (es : List Entry) (ks : List Vertices) (u : ℕ) (ss : List Step) → u ∈ w.tracked → AreAhead p es ks (Spill u ∷ ss) → AreAhead (stepped_in g w p (Spill u)) es ks ss
    ahead_of_spill p es ks u ss tracked ahead = record {
      all = ahead.all;
      pairs = ahead.pairs;
      enters = ahead.enters;
      closed = λ k h. closed_after_spill p u k tracked (ahead.closed k h);
      touched = ahead.touched;
      disjoint = ahead.disjoint;
      apart = ahead.apart;
    }

    -- ---- what a Work pays: the entry that it makes, and a load for each cone that it touches

    abbrev Found : ℕ → Vertices → List Entry → Type 0
    Found v b es = (e : Entry) × IsIn e es × (v ∈ e.group.members) × (entries_cost g b es ≡ entries_cost g b (leave v es) + entry_cost g b e)

    found_or_not : (v : ℕ) (b : Vertices) (es : List Entry) → Found v b es ⊎ (entries_cost g b es ≡ entries_cost g b (leave v es))
    found_or_not v b [] = inr refl
    found_or_not v b (e ∷ es) = elim (contains e.group.members v) as (λ t. contains e.group.members v ≡ t
        → ((f : Entry) × IsIn f (e ∷ es) × (v ∈ f.group.members) × (entries_cost g b (e ∷ es) ≡ entries_cost g b (cond t es (e ∷ leave v es)) + entry_cost g b f))
        ⊎ (entries_cost g b (e ∷ es) ≡ entries_cost g b (cond t es (e ∷ leave v es)))) [
          | true ↦ λ is. inl (e, inl refl, is, omega arith)
          | false ↦ λ out. elim (found_or_not v b es) [
            | inl f ↦ inl (f.0, inr f.1, f.2, let sum = f.3 in omega arith)
            | inr sum ↦ inr (omega arith)
          ]
        ] refl

    split_loads : (l d r : Vertices) → IsWithin d l → size (difference d r) + size (difference (difference l r) d) ≤ size (difference l r)
    split_loads l d r within =
        let parts = size_split (difference l r) d in
        let less = size_within (difference d r) (intersection (difference l r) d) (λ q h. let at = within q in inner q at h) in
        omega arith
      where
        inner : (q : ℕ) → (q ∈ d → q ∈ l) → q ∈ difference d r → q ∈ intersection (difference l r) d
        inner q at h = grind (arith, membership)

    outer : (s d : Vertices) (q : ℕ) → q ∈ s → q ∉ d → q ∈ difference s d
    outer s d q a b = grind (arith, membership)

    work_pays : (p : Position) (v : ℕ) (c : ℕ) (es : List Entry) (ks : List Vertices) (ss : List Step) → CanWorkIn g w p v → AreAhead p es ks (Work v ∷ ss)
        → ((e : Entry) → IsIn e es → v ∈ e.group.members → entry_cost g p.blue e ≤ c + g.load * size (difference e.group.loads p.red))
        → entries_cost g p.blue es + g.load * length ks ≤ entries_cost g p.blue (leave v es) + g.load * length (untouched v ks) + c + g.load * size (difference (w.loads v) p.red)
    work_pays p v c es ks ss can ahead most = elim (found_or_not v p.blue es) [
      | inl f ↦
          (let entry = most f.0 f.1 f.2 in
          let sum = f.3 in
          let count = cones_counted v ks (difference (difference (w.loads v) p.red) f.0.group.loads) ahead.disjoint (λ k h t.
          let x = touched_loads p v can k (ahead.closed k h) t in
          (x.0, x.1, outer (difference (w.loads v) p.red) f.0.group.loads x.0 x.2 (ahead.apart k h f.0 f.1 x.0 x.1))) in
          let parts = split_loads (w.loads v) f.0.group.loads p.red ((ahead.all f.0 f.1).group.loaded v f.2) in
          let all = mul-le-mul_left g.load (let l : length ks + size (difference f.0.group.loads p.red) ≤ length (untouched v ks) + size (difference (w.loads v) p.red) = omega arith in l) in
          omega arith)
      | inr sum ↦
          (let count = cones_counted v ks (difference (w.loads v) p.red) ahead.disjoint (λ k h t. touched_loads p v can k (ahead.closed k h) t) in
          let all = mul-le-mul_left g.load count in
          omega arith)
    ]

    -- ---- plays after a Work

    behind : (ss : List Step) (p : Position) (u : ℕ) (es : List Entry) (ks : List Vertices) → IsWorker g w u → size (union p.red (held_for g u)) ≤ g.slots
        → ((e : Entry) → IsIn e es → u ∉ e.group.members) → AreAhead p es ks ss
        → IsPlayIn g w p ss → CanFinishIn g w (play_after_in g w p ss) → owed p.blue es + g.load * length ks ≤ total_cost_in g w p ss
    behind [] p u [] [] work room out ahead play finish = omega arith
    behind [] p u [] (k ∷ ks) work room out ahead play finish = absurd (ahead.touched k (inl refl))
    behind [] p u (e ∷ es) ks work room out ahead play finish = absurd (ahead.enters e (inl refl))
    behind (Work v ∷ ss) p u es ks work room out ahead play finish =
        let can = play.0.0 in
        let once = work_pays p v 0 es ks ss can ahead (λ e h member. entry_paid p u v work room can e (ahead.all e h) (out e h) member) in
        let keeps = owed_kept p.blue v (leave v es) (λ e h. ahead.all e (in_leave v es e h)) in
        let next = size_within _ _ (room_worked p.red w.tracked (g.dag.preds v) v) in
        let fits = can.fits in
        let rest = behind ss (stepped_in g w p (Work v)) v (leave v es) (untouched v ks) (worker p v can) (omega arith) (λ e h. left_out v es ahead.pairs e h)
        (ahead_of_work p es ks v ss ahead) play.1 finish in
        omega arith
    behind (Drop x ∷ ss) p u es ks work room out ahead play finish =
        let less = size_within _ _ (room_dropped p.red (held_for g u) x) in
        let rest = behind ss (stepped_in g w p (Drop x)) u es ks work (omega arith) out (ahead_of_drop p es ks x ss ahead) play.1 finish in
        omega arith
    behind (Spill x ∷ ss) p u es ks work room out ahead play finish =
        let less = size_within _ _ (room_dropped p.red (held_for g u) x) in
        let rest = behind ss (stepped_in g w p (Spill x)) u es ks work (omega arith) out (ahead_of_spill p es ks x ss (ok.stores_tracked x play.0.0.charged) ahead) play.1 finish in
        let paid = owed_spilled p.blue x es ahead.all ahead.pairs in
        omega arith

    -- ---- plays with no Work before

    first : (ss : List Step) (p : Position) (c : ℕ) (es : List Entry) (ks : List Vertices)
        → ((e : Entry) → IsIn e es → entry_cost g p.blue e ≤ c + g.load * size (difference e.group.loads p.red)) → AreAhead p es ks ss
        → IsPlayIn g w p ss → CanFinishIn g w (play_after_in g w p ss) → owed p.blue es + g.load * length ks ≤ total_cost_in g w p ss + c
    first [] p c [] [] most ahead play finish = omega arith
    first [] p c [] (k ∷ ks) most ahead play finish = absurd (ahead.touched k (inl refl))
    first [] p c (e ∷ es) ks most ahead play finish = absurd (ahead.enters e (inl refl))
    first (Work v ∷ ss) p c es ks most ahead play finish =
        let can = play.0.0 in
        let once = work_pays p v c es ks ss can ahead (λ e h member. most e h) in
        let keeps = owed_kept p.blue v (leave v es) (λ e h. ahead.all e (in_leave v es e h)) in
        let next = size_within _ _ (room_worked p.red w.tracked (g.dag.preds v) v) in
        let fits = can.fits in
        let rest = behind ss (stepped_in g w p (Work v)) v (leave v es) (untouched v ks) (worker p v can) (omega arith) (λ e h. left_out v es ahead.pairs e h)
        (ahead_of_work p es ks v ss ahead) play.1 finish in
        omega arith
    first (Drop x ∷ ss) p c es ks most ahead play finish =
        let rest = first ss (stepped_in g w p (Drop x)) c es ks (λ e h.
        let here = most e h in let more = mul-le-mul_left g.load (size_within _ _ (dropped_more e.group.loads p.red x)) in omega arith)
        (ahead_of_drop p es ks x ss ahead) play.1 finish in
        omega arith
    first (Spill x ∷ ss) p c es ks most ahead play finish =
        let rest = first ss (stepped_in g w p (Spill x)) c es ks (λ e h.
        let here = most e h in
        let falls = cost_falls e p.blue x in
        let more = mul-le-mul_left g.load (size_within _ _ (dropped_more e.group.loads p.red x)) in
        omega arith) (ahead_of_spill p es ks x ss (ok.stores_tracked x play.0.0.charged) ahead) play.1 finish in
        let paid = owed_spilled p.blue x es ahead.all ahead.pairs in
        omega arith

    -- ---- the entries of a position

    unsaved_charged : (p : Position) (claimed : Vertices) (x : Group) → IsWithin (unsaved g w p claimed x) w.stores
    unsaved_charged p claimed x q h = grind (arith, membership)

    unsaved_inner : (p : Position) (claimed : Vertices) (x : Group) → IsOutside (unsaved g w p claimed x) g.dag.outputs
    unsaved_inner p claimed x q h = grind (arith, membership)

    unsaved_new : (p : Position) (claimed : Vertices) (x : Group) → IsOutside (unsaved g w p claimed x) claimed
    unsaved_new p claimed x q h = grind (arith, membership)

    some_of : (b : Bool) (s : Vertices) → IsWithin (cond b s empty) s
    some_of true s q h = h
    some_of false s q h = absurd (grind (arith, membership))

    claim_within : (p : Position) (claimed : Vertices) (x : Group) → IsWithin (claim g w p claimed x) (unsaved g w p claimed x)
    claim_within p claimed x = some_of (ltb (size (difference x.loads (unsaved g w p claimed x))) x.least) (unsaved g w p claimed x)

    -- what is known of each entry
    record IsFrom (p : Position) (claimed : Vertices) (groups : List Group) (e : Entry) : Type 0 where
      group : IsIn e.group groups
      charged : IsWithin e.stores w.stores
      inner : IsOutside e.stores g.dag.outputs
      new : IsOutside e.stores claimed
      wanted : (v : ℕ) × (v ∈ needed_in g w p) × (v ∈ e.group.members)

    old_outside : (s c d : Vertices) → IsOutside s (union c d) → (IsOutside s c) × (IsOutside s d)
    old_outside s c d apart = (λ q h. let at = apart q h in grind (arith, membership), λ q h. let at = apart q h in grind (arith, membership))

    wanted_of : (p : Position) (x : Group) → ltb 0 (size (intersection (needed_in g w p) x.members)) ≡ true → (v : ℕ) × (v ∈ needed_in g w p) × (v ∈ x.members)
    wanted_of p x e =
        let some = some_member (intersection (needed_in g w p) x.members) (more (size (intersection (needed_in g w p) x.members)) e) in
        let parts = both_parts (needed_in g w p) x.members some.0 some.1 in
        (some.0, parts.0, parts.1)
      where
        more : (n : ℕ) → ltb 0 n ≡ true → 0 < n
        more n e = grind (arith, nat_tests)

    later : (p : Position) (claimed : Vertices) (x : Group) (xs : List Group) (e : Entry) (more : Vertices) → IsFrom p (union claimed more) xs e → IsFrom p claimed (x ∷ xs) e
    later p claimed x xs e more rest = record {
      group = inr rest.group;
      charged = rest.charged;
      inner = rest.inner;
      new = (old_outside e.stores claimed more rest.new).0;
      wanted = rest.wanted;
    }

    from_groups : (p : Position) (claimed : Vertices) (groups : List Group) (e : Entry) → IsIn e (entries g w p claimed groups) → IsFrom p claimed groups e
    from_groups p claimed [] e = λ h. absurd h
    from_groups p claimed (x ∷ xs) e =
        elim (ltb 0 (size (intersection (needed_in g w p) x.members))) as (λ b. ltb 0 (size (intersection (needed_in g w p) x.members)) ≡ b
        → IsIn e (cond b (record { group = x; stores = claim g w p claimed x } ∷ entries g w p (union claimed (claim g w p claimed x)) xs) (entries g w p claimed xs))
        → IsFrom p claimed (x ∷ xs) e) [
          | true ↦ λ is h. elim h [
            | inl here ↦ subst (IsFrom p claimed (x ∷ xs)) (sym here) (record {
              group = inl refl;
              charged = λ q i. unsaved_charged p claimed x q (claim_within p claimed x q i);
              inner = λ q i. unsaved_inner p claimed x q (claim_within p claimed x q i);
              new = λ q i. unsaved_new p claimed x q (claim_within p claimed x q i);
              wanted = wanted_of p x is;
            })
            | inr rest ↦ later p claimed x xs e _ (from_groups p (union claimed (claim g w p claimed x)) xs e rest)
          ]
          | false ↦ λ out h. let rest = from_groups p claimed xs e h in record { group = inr rest.group; charged = rest.charged; inner = rest.inner; new = rest.new; wanted = rest.wanted }
        ] refl

    -- two of them share no member and no store
    shares_none : (x : Group) (xs : List Group) → SharesNoMember x xs → (y : Group) → IsIn y xs → IsOutside x.members y.members
    shares_none x [] none y h = absurd h
    shares_none x (z ∷ zs) none y (inl e) = subst (λ y. IsOutside x.members y.members) (sym e) none.0
    shares_none x (z ∷ zs) none y (inr h) = shares_none x zs none.1 y h

    turned : (s t : Vertices) → IsOutside s t → IsOutside t s
    turned s t apart q h = not_outside s t q apart h

    entries_pairs : (p : Position) (claimed : Vertices) (groups : List Group) → AreGroups g w groups → ArePairs (entries g w p claimed groups)
    entries_pairs p claimed [] are = tt
    entries_pairs p claimed (x ∷ xs) are =
        elim (ltb 0 (size (intersection (needed_in g w p) x.members))) as (λ b.
        ArePairs (cond b (record { group = x; stores = claim g w p claimed x } ∷ entries g w p (union claimed (claim g w p claimed x)) xs) (entries g w p claimed xs))) [
          | true ↦ (
            λ f h.
                let from = from_groups p (union claimed (claim g w p claimed x)) xs f h in
                record {
                  members = shares_none x xs are.1 f.group from.group;
                  stores = turned f.stores (claim g w p claimed x) (old_outside f.stores claimed (claim g w p claimed x) from.new).1;
                },
            entries_pairs p (union claimed (claim g w p claimed x)) xs are.2,
          )
          | false ↦ entries_pairs p claimed xs are.2
        ]

    group_of : (groups : List Group) → AreGroups g w groups → (x : Group) → IsIn x groups → IsGroup g w x
    group_of [] are x h = absurd h
    group_of (y ∷ ys) are x (inl e) = subst (IsGroup g w) (sym e) are.0
    group_of (y ∷ ys) are x (inr h) = group_of ys are.2 x h

    credited : (p : Position) (es : List Entry) (e : Entry) → IsIn e es → entry_cost g p.blue e ≤ credit g p es + g.load * size (difference e.group.loads p.red)
    credited p [] e h = absurd h
    credited p (f ∷ fs) e (inl here) =
        subst (λ e. entry_cost g p.blue e ≤ credit g p (f ∷ fs) + g.load * size (difference e.group.loads p.red)) (sym here)
        (at_first (entry_cost g p.blue f) (g.load * size (difference f.group.loads p.red)) (credit g p fs))
      where
        at_first : (a b c : ℕ) → a ≤ max (a - b) c + b
        at_first a b c = grind arith
    credited p (f ∷ fs) e (inr h) = let rest = credited p fs e h in at_rest _ _ _ _ rest
      where
        at_rest : (a b c d : ℕ) → a ≤ c + b → a ≤ max d c + b
        at_rest a b c d h = grind arith

    floor_below : (groups : List Group) → AreGroups g w groups → (p : Position) (ks : List Vertices) → AreCones g w groups p ks → (ss : List Step) → IsPlayIn g w p ss → CanFinishIn g w (play_after_in g w p ss)
        → owed p.blue (entries g w p empty groups) + g.load * length ks ≤ total_cost_in g w p ss + credit g p (entries g w p empty groups)
    floor_below groups are p ks cones ss play finish =
        first ss p (credit g p (entries g w p empty groups)) (entries g w p empty groups) ks (λ e h. credited p (entries g w p empty groups) e h)
        (record {
          all = λ e h. let from = from_groups p empty groups e h in record { group = group_of groups are e.group from.group; charged = from.charged; inner = from.inner };
          pairs = entries_pairs p empty groups are;
          enters = λ e h. let from = from_groups p empty groups e h in enters_by e.group.members from.wanted.0 from.wanted.2 ss (needed_works g w p ss play finish from.wanted.0 from.wanted.1);
          closed = cones.closed;
          touched = λ k h. let want = cones.wanted k h in touched_by k want.0 want.2 ss (needed_works g w p ss play finish want.0 want.1);
          disjoint = cones.disjoint;
          apart = cones.apart;
        })
        play finish

no_cones : (g : PebbleGame) (w : Window) (groups : List Group) (p : Position) → AreCones g w groups p []
no_cones g w groups p = record { closed = λ k h. absurd h; wanted = λ k h. absurd h; disjoint = tt; apart = λ k h. absurd h }

pub entry_floor_holds : EntryFloorHolds
unfolding entry_floor
entry_floor_holds g w ok groups are p sound ss finishing =
    let most = floor_below g w ok groups are p [] (no_cones g w groups p) ss finishing.play finishing.finishes in
    omega arith

pub cone_floor_holds : ConeFloorHolds
unfolding cone_floor
cone_floor_holds g w ok groups are p ks cones sound ss finishing =
    let most = floor_below g w ok groups are p ks cones ss finishing.play finishing.finishes in
    omega arith

pub greater_floor_holds : GreaterFloorHolds
greater_floor_holds g w p m n a b sound ss finishing =
    let one = a sound ss finishing in
    let other = b sound ss finishing in
    grind arith
