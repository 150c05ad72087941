-- What the pass over the vertices has taken. The vertices below n have been looked at.
use Rattle.std.proofs.Common.{◌≡◌, ℕ, zero, suc, ◌+◌, ◌-◌, ◌*◌, ◌≤◌, ◌<◌, Bool, true, false, not, ◌&&◌, ◌==◌, List, [], ◌∷◌, length, cond, ltb, ◌⊎◌, inl, inr, refl, sym, ap, ◌∙◌, subst, arith}
use Rattle.std.specs.List.{list_any}
use Rattle.std.specs.FinSet.{empty, contains, insert, union, intersection, difference}
use Rattle.comp_graph.specs.Vertices.{Vertices, ◌∈◌, ◌∉◌, IsWithin, AllBelow, size}
use Rattle.comp_graph.specs.Games.{PebbleGame}
use Rattle.comp_graph.specs.Dags.{Dag, IsDag}
use Rattle.pebble_rules.specs.declared.position.Position.{Position}
use Rattle.std.proofs.lemmas.Nat.{mul-le}
use Rattle.std.proofs.lemmas.Bool.Decides.{nat_tests}
use Rattle.comp_graph.specs.Graphs.{GraphParts, IsGraph, dag_of}
use Rattle.comp_graph.specs.Sets.{membership, same}
use Rattle.pebble_rules.proofs.Calls.{has_inputs}
use Rattle.comp_graph.proofs.Sets.{some_member}
use Rattle.comp_graph.proofs.DagLaws.{and-true}
use Rattle.pebble_rules.proofs.Possible.{not_member, true_or_false}
use Rattle.comp_graph.specs.Lists.{IsIn}
use Rattle.forced_bounds.specs.Floor.{wanted, computable, cone, meets, is_apart, taken, floor}
use Rattle.forced_bounds.specs.Least.{HoldsCone}
use Rattle.forced_bounds.specs.Reached.{IsFreeCone, IsMetCone}
use Rattle.forced_bounds.proofs.Paths.{same_test, point, path_first, path_join, path_rises, true_not}
use Rattle.forced_bounds.proofs.Sets.{computable_is_least, cone_is_least, cone_path, path_cone, far_not_computable, no_far_pred, red_computable}
use Rattle.forced_bounds.proofs.Below.{common_meets, any_in}

-- the cone of u has a member in common with the cone of a vertex taken
pub record IsMet (g : Dag) (p : Position) (n u : ℕ) : Type 0 where
  pub below : u < n
  pub outside : u ∉ computable g p
  pub vertex : ℕ
  pub is_taken : IsIn vertex (taken g p n)
  pub common : ℕ
  pub in_own : common ∈ cone g p u
  pub in_taken : common ∈ cone g p vertex

pub record IsTaken (g : Dag) (p : Position) (n : ℕ) (computed met : Vertices) (count : ℕ) : Type 0 where
  pub many : count ≡ length (taken g p n)
  pub looked : (u : ℕ) → u < n → contains computed u ≡ contains (computable g p) u
  pub left : (u : ℕ) → n ≤ u → contains computed u ≡ contains p.red u
  pub meets : (u : ℕ) → u ∈ met → IsMet g p n u
  pub all : (u t : ℕ) → IsIn t (taken g p n) → u ∈ cone g p t → u ∈ met
  pub few : count ≤ n

pub taken_start : (g : Dag) (p : Position) (computed met : Vertices) → computed ≡ p.red → met ≡ empty → IsTaken g p 0 computed met 0
taken_start g p computed met e f = record {
  many = refl;
  looked = λ u l. absurd (omega arith);
  left = λ u far. ap (λ s. contains s u) e;
  meets = λ u h. absurd (let none = subst (λ s. u ∈ s) f h in grind (arith, membership));
  all = λ u t i. absurd i;
  few = omega arith;
}

pub taken_at : (g : Dag) (p : Position) (n m : ℕ) → n ≡ m → (s t : Vertices) → s ≡ t → (a b : Vertices) → a ≡ b → (k l : ℕ) → k ≡ l → IsTaken g p n s a k → IsTaken g p m t b l
taken_at g p n m e s t f a b h k l i is =
    subst (λ m. IsTaken g p m t b l) e (subst (λ t. IsTaken g p n t b l) f (subst (λ b. IsTaken g p n s b l) h (subst (λ l. IsTaken g p n s a l) i is)))

last_or_less : (v n : ℕ) → v < suc n → (v ≡ n) ⊎ (v < n)
last_or_less v n h = grind arith

-- ---- one vertex more

same_list : (g : Dag) (p : Position) (n : ℕ) → is_apart g p n (taken g p n) ≡ false → taken g p (suc n) ≡ taken g p n
same_list g p n unfit = ap (λ b. cond b (n ∷ taken g p n) (taken g p n)) unfit

longer_list : (g : Dag) (p : Position) (n : ℕ) → is_apart g p n (taken g p n) ≡ true → taken g p (suc n) ≡ n ∷ taken g p n
longer_list g p n fit = ap (λ b. cond b (n ∷ taken g p n) (taken g p n)) fit

met_later : (g : Dag) (p : Position) (n u : ℕ) → ((t : ℕ) → IsIn t (taken g p n) → IsIn t (taken g p (suc n))) → IsMet g p n u → IsMet g p (suc n) u
met_later g p n u stay is = record {
  below = let low = is.below in omega arith;
  outside = is.outside;
  vertex = is.vertex;
  is_taken = stay is.vertex is.is_taken;
  common = is.common;
  in_own = is.in_own;
  in_taken = is.in_taken;
}

-- vertex n is not taken, and is looked at
not_taken : (g : Dag) (p : Position) (n : ℕ) (computed met : Vertices) (count : ℕ) → IsTaken g p n computed met count → is_apart g p n (taken g p n) ≡ false
    → (s : Vertices) → contains s n ≡ contains (computable g p) n → ((u : ℕ) → (u ≡ n → ⊥) → contains s u ≡ contains computed u) → IsTaken g p (suc n) s met count
not_taken g p n computed met count is unfit s here others = record {
  many = is.many ∙ ap length (sym (same_list g p n unfit));
  looked = λ u l. elim (last_or_less u n l) [
    | inl e ↦ subst (λ u. contains s u ≡ contains (computable g p) u) (sym e) here
    | inr less ↦ others u (λ e. omega arith) ∙ is.looked u less
  ];
  left = λ u far. others u (λ e. omega arith) ∙ is.left u (omega arith);
  meets = λ u h. met_later g p n u (λ t i. subst (IsIn t) (sym (same_list g p n unfit)) i) (is.meets u h);
  all = λ u t i h. is.all u t (subst (IsIn t) (same_list g p n unfit) i) h;
  few = let few = is.few in omega arith;
}

and-false : (a b : Bool) → a ≡ false → (a && b) ≡ false
and-false a b h = grind arith

not_apart : (g : Dag) (p : Position) (n : ℕ) → n ∉ difference (wanted g p) (computable g p) → is_apart g p n (taken g p n) ≡ false
not_apart g p n out = and-false _ _ out

out_of_both : (s t : Vertices) (n : ℕ) → n ∈ t → n ∉ difference s t
out_of_both s t n h = grind (arith, membership)

out_of_first : (s t : Vertices) (n : ℕ) → n ∉ s → n ∉ difference s t
out_of_first s t n h = grind (arith, membership)

-- vertex n is red
pub taken_red : (g : Dag) (p : Position) (n : ℕ) (computed met : Vertices) (count : ℕ) → n < g.count → IsTaken g p n computed met count → n ∈ computed → IsTaken g p (suc n) computed met count
taken_red g p n computed met count below is h =
    let there = red_computable g p n below (sym (is.left n (omega arith)) ∙ h) in
    not_taken g p n computed met count is (not_apart g p n (out_of_both (wanted g p) (computable g p) n there)) computed (h ∙ sym there) (λ u other. refl)

-- vertex n is no input, and all that it reads can become red without a load
pub taken_computed : (g : Dag) → IsDag g → (p : Position) (n : ℕ) (computed met : Vertices) (count : ℕ) → n < g.count → IsTaken g p n computed met count
    → n ∉ g.inputs → IsWithin (g.preds n) computed → IsTaken g p (suc n) (insert computed n) met count
taken_computed g dag p n computed met count below is source preds =
    let there = (computable_is_least g dag p).closed.computed n below source (λ u h. sym (is.looked u (dag.preds_below n u h)) ∙ preds u h) in
    not_taken g p n computed met count is (not_apart g p n (out_of_both (wanted g p) (computable g p) n there)) (insert computed n) (has_it ∙ sym there) others
  where
    has_it : n ∈ insert computed n
    has_it = grind (arith, membership)

    others : (u : ℕ) → (u ≡ n → ⊥) → contains (insert computed n) u ≡ contains computed u
    others u other = grind (arith, membership)

-- ---- vertices that need a load

not_within : (g : Dag) (p : Position) (n : ℕ) → IsDag g → n < g.count → (n ∈ g.inputs) ⊎ (IsWithin (g.preds n) (computable g p) → ⊥) → n ∉ p.red → n ∉ computable g p
not_within g p n dag below (inl input) bare = far_not_computable g dag p n below (n, input, point bare)
not_within g p n dag below (inr some) bare = not_member _ (λ h. some (λ w pred. no_far_pred g dag p n w below h bare pred))

-- why vertex n needs a load
abbrev pub Why : Dag → Vertices → ℕ → Type 0
Why g computed n = (n ∈ g.inputs) ⊎ (IsWithin (g.preds n) computed → ⊥)

pub why_reads : (g : Dag) (computed preds : Vertices) (n : ℕ) (b : Bool) → preds ≡ g.preds n → (IsWithin preds computed → b ≡ true) → b ≡ false → Why g computed n
why_reads g computed preds n b e test h = inr (λ within. let t = test (subst (λ s. IsWithin s computed) (sym e) within) in grind arith)

-- vertex n is not red, and is an input or reads what needs a load
pub needs_load : (g : Dag) → IsDag g → (p : Position) (n : ℕ) (computed met : Vertices) (count : ℕ) → n < g.count → IsTaken g p n computed met count
    → n ∉ computed → Why g computed n → n ∉ computable g p
needs_load g dag p n computed met count below is out why =
    not_within g p n dag below (elim why [
      | inl input ↦ inl input
      | inr some ↦ inr (λ within. some (λ u h. is.looked u (dag.preds_below n u h) ∙ within u h))
    ]) (sym (is.left n (omega arith)) ∙ out)

cone_below : (g : Dag) → IsDag g → (p : Position) (n u : ℕ) → u ∈ cone g p n → u ≤ n
cone_below g dag p n u h = path_rises g dag (computable g p) u n (cone_path g p n u h)

-- the members of a cone have cones within it
cone_joins : (g : Dag) → IsDag g → (p : Position) (n u w : ℕ) → n < g.count → u ∈ cone g p n → w ∈ cone g p u → w ∈ cone g p n
cone_joins g dag p n u w below h i = path_cone g dag p n w below (path_join g (computable g p) w u n (cone_path g p u w i) (cone_path g p n u h))

-- vertex n has a member of `met` in its cone
met_apart : (g : Dag) → IsDag g → (p : Position) (n : ℕ) (computed met : Vertices) (count u : ℕ) → n < g.count → IsTaken g p n computed met count → u ∈ met → u ∈ cone g p n
    → is_apart g p n (taken g p n) ≡ false
met_apart g dag p n computed met count u below is h in_cone =
    let why = is.meets u h in
    let joined = cone_joins g dag p n u why.common below in_cone why.in_own in
    and_not _ _
    (any_in (λ t. meets (cone g p n) (cone g p t)) (taken g p n) why.vertex why.is_taken (common_meets (cone g p n) (cone g p why.vertex) why.common joined why.in_taken))
  where
    and_not : (a b : Bool) → b ≡ true → (a && not b) ≡ false
    and_not a b h = grind arith

taken_by_met : (g : Dag) → IsDag g → (p : Position) (n : ℕ) (computed met : Vertices) (count u : ℕ) → n < g.count → IsTaken g p n computed met count
    → n ∉ computed → n ∉ computable g p → u ∈ met → u ∈ cone g p n → IsTaken g p (suc n) computed (insert met n) count
taken_by_met g dag p n computed met count u below is out far h in_cone =
    let unfit = met_apart g dag p n computed met count u below is h in_cone in
    let old = not_taken g p n computed met count is unfit computed (out ∙ sym far) (λ v other. refl) in
    record {
      many = old.many;
      looked = old.looked;
      left = old.left;
      meets = λ v i. elim (cases v i) [
        | inl e ↦ subst (IsMet g p (suc n)) (sym e) (here (old.meets u h))
        | inr before ↦ old.meets v before
      ];
      all = λ v t i k. more v (old.all v t i k);
      few = old.few;
    }
  where
    cases : (v : ℕ) → v ∈ insert met n → (v ≡ n) ⊎ (v ∈ met)
    cases v i = grind (arith, membership)

    more : (v : ℕ) → v ∈ met → v ∈ insert met n
    more v i = grind (arith, membership)

    here : IsMet g p (suc n) u → IsMet g p (suc n) n
    here why = record {
      below = omega arith;
      outside = far;
      vertex = why.vertex;
      is_taken = why.is_taken;
      common = why.common;
      in_own = cone_joins g dag p n u why.common below in_cone why.in_own;
      in_taken = why.in_taken;
    }

-- vertex n reads a member of `met`
pub taken_reads : (g : Dag) → IsDag g → (p : Position) (n : ℕ) (computed met : Vertices) (count u : ℕ) → n < g.count → IsTaken g p n computed met count
    → n ∉ computed → n ∉ computable g p → u ∈ g.preds n → u ∈ met → IsTaken g p (suc n) computed (insert met n) count
taken_reads g dag p n computed met count u below is out far pred h =
    let why = is.meets u h in
    let holds = (cone_is_least g dag p n below far).closed in
    taken_by_met g dag p n computed met count u below is out far h (holds.preds n u holds.itself pred why.outside)

-- vertex n need not become red
pub taken_unwanted : (g : Dag) (p : Position) (n : ℕ) (computed met : Vertices) (count : ℕ) → IsTaken g p n computed met count
    → n ∉ computed → n ∉ computable g p → n ∉ wanted g p → IsTaken g p (suc n) computed met count
taken_unwanted g p n computed met count is out far h =
    not_taken g p n computed met count is (not_apart g p n (out_of_first (wanted g p) (computable g p) n h)) computed (out ∙ sym far) (λ v other. refl)

-- ---- the walk back gives the cone

-- the cone is closed for what is computed so far
cone_reached : (g : Dag) → IsDag g → (p : Position) (n : ℕ) (computed met : Vertices) (count : ℕ) → n < g.count → IsTaken g p n computed met count → n ∉ computable g p
    → HoldsCone g computed n (cone g p n)
cone_reached g dag p n computed met count below is far =
    let holds = (cone_is_least g dag p n below far).closed in
    record {
      itself = holds.itself;
      preds = λ w u h pred bare.
          let less = dag.preds_below w u pred in
          let low = cone_below g dag p n w h in
          holds.preds w u h pred (sym (is.looked u (omega arith)) ∙ bare);
    }

-- the walk back met one
pub taken_met : (g : Dag) → IsDag g → (p : Position) (n : ℕ) (computed met : Vertices) (count : ℕ) → n < g.count → IsTaken g p n computed met count
    → n ∉ computed → n ∉ computable g p → IsMetCone g n computed met → IsTaken g p (suc n) computed (insert met n) count
taken_met g dag p n computed met count below is out far why =
    taken_by_met g dag p n computed met count why.vertex below is out far why.is_met (why.reached (cone g p n) (cone_reached g dag p n computed met count below is far))

cone_is : (g : Dag) → IsDag g → (p : Position) (n : ℕ) (computed met found : Vertices) (count : ℕ) → n < g.count → IsTaken g p n computed met count → n ∉ computable g p
    → IsFreeCone g n computed met found → (u : ℕ) → contains found u ≡ contains (cone g p n) u
cone_is g dag p n computed met found count below is far free u =
    let there = within u in
    let back = (cone_is_least g dag p n below far).least found (record {
      itself = free.least.closed.itself;
      preds = λ w u h pred bare.
          let less = dag.preds_below w u pred in
          let low = cone_below g dag p n w (within w h) in
          free.least.closed.preds w u h pred (is.looked u (omega arith) ∙ bare);
    }) u in
    same_test _ _ there back
  where
    within : IsWithin found (cone g p n)
    within = free.least.least (cone g p n) (cone_reached g dag p n computed met count below is far)

some_common : (s t : Vertices) → (size (intersection s t) == 0) ≡ false → (y : ℕ) × (y ∈ s) × (y ∈ t)
some_common s t h = let y = some_member (intersection s t) (grind arith) in (y.0, in_first y.0 y.1, in_second y.0 y.1)
  where
    in_first : (y : ℕ) → y ∈ intersection s t → y ∈ s
    in_first y i = grind (arith, membership)

    in_second : (y : ℕ) → y ∈ intersection s t → y ∈ t
    in_second y i = grind (arith, membership)

any_none : (test : ℕ → Bool) (ts : List ℕ) → ((t : ℕ) → IsIn t ts → test t ≡ false) → list_any test ts ≡ false
any_none test [] none = refl
any_none test (x ∷ ts) none = let here = none x (inl refl) in let rest = any_none test ts (λ t h. none t (inr h)) in grind arith

meets_not : (s t : Vertices) → ((y : ℕ) → y ∈ s → y ∈ t → ⊥) → meets s t ≡ false
meets_not s t none = elim (true_or_false (size (intersection s t) == 0)) [
  | inl h ↦ ap not h
  | inr h ↦ absurd (let y = some_common s t h in none y.0 y.1 y.2)
]

-- vertex n must become red, needs a load, and its cone is free
pub taken_apart : (g : Dag) → IsDag g → (p : Position) (n : ℕ) (computed met found : Vertices) (count : ℕ) → n < g.count → IsTaken g p n computed met count
    → n ∉ computed → n ∉ computable g p → n ∈ wanted g p → IsFreeCone g n computed met found → IsTaken g p (suc n) computed (union met found) (count + 1)
taken_apart g dag p n computed met found count below is out far want free = record {
  many = let many = is.many in let more = ap length list in omega arith;
  looked = λ u l. elim (last_or_less u n l) [
    | inl e ↦ subst (λ u. contains computed u ≡ contains (computable g p) u) (sym e) (out ∙ sym far)
    | inr less ↦ is.looked u less
  ];
  left = λ u high. is.left u (omega arith);
  meets = λ u h. elim (cases u h) [
    | inl old ↦ met_later g p n u (λ t i. subst (IsIn t) (sym list) (inr i)) (is.meets u old)
    | inr new ↦ here u (to_cone u new)
  ];
  all = λ u t i h. all_by u t (subst (IsIn t) list i) h;
  few = let few = is.few in omega arith;
}
  where
    to_cone : (u : ℕ) → u ∈ found → u ∈ cone g p n
    to_cone u h = sym (cone_is g dag p n computed met found count below is far free u) ∙ h

    of_cone : (u : ℕ) → u ∈ cone g p n → u ∈ found
    of_cone u h = cone_is g dag p n computed met found count below is far free u ∙ h

    clash : (b : Bool) → b ≡ true → b ≡ false → ⊥
    clash b t f = grind arith

    forced : n ∈ difference (wanted g p) (computable g p)
    forced = grind (arith, membership)

    none : list_any (λ t. meets (cone g p n) (cone g p t)) (taken g p n) ≡ false
    none = any_none (λ t. meets (cone g p n) (cone g p t)) (taken g p n) (λ t i.
        meets_not (cone g p n) (cone g p t) (λ y a b. clash _ (is.all y t i b) (free.free y (of_cone y a))))

    list : taken g p (suc n) ≡ n ∷ taken g p n
    list = longer_list g p n (and-true _ _ forced (true_not _ none))

    cases : (u : ℕ) → u ∈ union met found → (u ∈ met) ⊎ (u ∈ found)
    cases u h = grind (arith, membership)

    left : (u : ℕ) → u ∈ met → u ∈ union met found
    left u h = grind (arith, membership)

    right : (u : ℕ) → u ∈ found → u ∈ union met found
    right u h = grind (arith, membership)

    all_by : (u t : ℕ) → (t ≡ n) ⊎ IsIn t (taken g p n) → u ∈ cone g p t → u ∈ union met found
    all_by u t (inl e) h = right u (of_cone u (subst (λ t. u ∈ cone g p t) e h))
    all_by u t (inr i) h = left u (is.all u t i h)

    here : (u : ℕ) → u ∈ cone g p n → IsMet g p (suc n) u
    here u h =
        let path = cone_path g p n u h in
        let bare = path_first g (computable g p) u n path in
        let low = cone_below g dag p n u h in
        record {
          below = omega arith;
          outside = bare;
          vertex = n;
          is_taken = subst (IsIn n) (sym list) (inl refl);
          common = u;
          in_own = path_cone g dag p u u (omega arith) (point bare);
          in_taken = h;
        }

-- a vertex that was not looked at is not in `met`
pub not_met : (g : Dag) (p : Position) (n : ℕ) (computed met : Vertices) (count : ℕ) → IsTaken g p n computed met count → n ∉ met
not_met g p n computed met count is = not_member _ (λ h. let low = (is.meets n h).below in omega arith)

-- ---- above what is wanted nothing is taken

pub taken_beyond : (g : Dag) (p : Position) (top k : ℕ) → ((v : ℕ) → v ∈ wanted g p → v < top) → taken g p (k + top) ≡ taken g p top
taken_beyond g p top zero below = ap (taken g p) (omega arith)
taken_beyond g p top (suc k) below =
    let same : suc k + top ≡ suc (k + top) = omega arith in
    let out : (k + top) ∉ wanted g p = not_member _ (λ h. let low = below (k + top) h in omega arith) in
    ap (taken g p) same ∙ same_list g p (k + top) (not_apart g p (k + top) (out_of_first (wanted g p) (computable g p) (k + top) out)) ∙ taken_beyond g p top k below

-- all are taken below the top
pub taken_all : (g : Dag) (p : Position) (n top count : ℕ) (s computed met : Vertices) → IsTaken g p n computed met count → top ≤ n → n ≤ top → top ≤ g.count
    → s ≡ wanted g p → AllBelow top s → count ≡ length (taken g p g.count)
taken_all g p n top count s computed met is low high few same below =
    let here : n ≡ top = omega arith in
    let whole : (g.count - top) + top ≡ g.count = omega arith in
    is.many ∙ ap (λ n. length (taken g p n)) here ∙ ap length (sym (taken_beyond g p top (g.count - top) (λ v h. below.below v (subst (λ s. v ∈ s) (sym same) h))))
    ∙ ap (λ n. length (taken g p n)) whole

-- the stores and the loads
pub is_floor : (g : PebbleGame) (p : Position) (load store stores loads : ℕ) → load ≡ g.load → store ≡ g.store → stores ≡ size (difference g.dag.outputs p.blue)
    → loads ≡ length (taken g.dag p g.dag.count) → store * stores + load * loads ≡ floor g p
unfolding floor
is_floor g p load store stores loads a b d e = cc

-- ---- inputs

-- the inputs are the vertices below their number
pub input_below : (g : GraphParts) → IsGraph g → (v n : ℕ) → n ≡ length g.names → v < n → v ∈ (dag_of g).inputs
input_below g ok v n e low = test (contains (dag_of g).inputs v) (length g.names) (has_inputs g ok v) (omega (arith, e, low))
  where
    test : (b : Bool) (m : ℕ) → b ≡ (ltb v m && true) → v < m → b ≡ true
    test b m e h = grind (arith, nat_tests)

pub no_input_above : (g : GraphParts) → IsGraph g → (v n : ℕ) → n ≡ length g.names → n ≤ v → v ∉ (dag_of g).inputs
no_input_above g ok v n e high = test (contains (dag_of g).inputs v) (length g.names) (has_inputs g ok v) (omega (arith, e, high))
  where
    test : (b : Bool) (m : ℕ) → b ≡ (ltb v m && true) → m ≤ v → b ≡ false
    test b m e h = grind (arith, nat_tests)

-- nothing leads to an input
input_cone : (g : Dag) → IsDag g → (n : ℕ) (computed met : Vertices) → n ∈ g.inputs → n ∉ met → IsFreeCone g n computed met (insert empty n)
input_cone g dag n computed met source out = record {
  least = record {
    closed = record {
      itself = itself;
      preds = λ w u h pred bare. absurd (none u (subst (λ s. u ∈ s) (ap g.preds (only_one w h) ∙ dag.inputs_have_no_preds n source) pred));
    };
    least = λ t holds u h. subst (λ k. k ∈ t) (sym (only_one u h)) holds.itself;
  };
  free = λ u h. subst (λ k. k ∉ met) (sym (only_one u h)) out;
}
  where
    itself : n ∈ insert empty n
    itself = grind (arith, membership)

    only_one : (u : ℕ) → u ∈ insert empty n → u ≡ n
    only_one u h = grind (arith, membership)

    none : (u : ℕ) → u ∈ empty → ⊥
    none u h = grind (arith, membership)

-- vertex n is an input that must become red
pub taken_input : (g : Dag) → IsDag g → (p : Position) (n : ℕ) (computed met : Vertices) (count : ℕ) → n < g.count → IsTaken g p n computed met count
    → n ∉ computed → n ∈ g.inputs → n ∈ wanted g p → IsTaken g p (suc n) computed (insert met n) (count + 1)
taken_input g dag p n computed met count below is out source want =
    let far = needs_load g dag p n computed met count below is out (inl source) in
    let cone = input_cone g dag n computed met source (not_met g p n computed met count is) in
    subst (λ s. IsTaken g p (suc n) computed s (count + 1)) (same _ _ (λ u. grind (arith, membership)))
    (taken_apart g dag p n computed met (insert empty n) count below is out far want cone)

-- ---- where the count stops early

one_more : (g : Dag) (p : Position) (n : ℕ) → length (taken g p n) ≤ length (taken g p (suc n))
one_more g p n = elim (is_apart g p n (taken g p n)) as (λ b. length (taken g p n) ≤ length (cond b (n ∷ taken g p n) (taken g p n))) [ true ↦ omega arith | false ↦ omega arith ]

taken_grows : (g : Dag) (p : Position) (n k : ℕ) → length (taken g p n) ≤ length (taken g p (k + n))
taken_grows g p n zero =
    let same : n ≡ 0 + n = omega arith in
    subst (λ m. length (taken g p n) ≤ length (taken g p m)) same (omega arith)
taken_grows g p n (suc k) =
    let before = taken_grows g p n k in
    let more = one_more g p (k + n) in
    let same : suc k + n ≡ suc (k + n) = omega arith in
    subst (λ m. length (taken g p n) ≤ length (taken g p m)) (sym same) (omega (arith, before, more))

-- no more are taken so far than in all
pub taken_so_far : (g : Dag) (p : Position) (n count : ℕ) (computed met : Vertices) → IsTaken g p n computed met count → n ≤ g.count → count ≤ length (taken g p g.count)
taken_so_far g p n count computed met is few =
    let whole : (g.count - n) + n ≡ g.count = omega arith in
    let more = subst (λ m. length (taken g p n) ≤ length (taken g p m)) whole (taken_grows g p n (g.count - n)) in
    let many = is.many in
    omega (arith, more, many)

-- with fewer loads the sum is no more
pub under_floor : (g : PebbleGame) (p : Position) (load store stores loads : ℕ) → load ≡ g.load → store ≡ g.store → stores ≡ size (difference g.dag.outputs p.blue)
    → loads ≤ length (taken g.dag p g.dag.count) → store * stores + load * loads ≤ floor g p
under_floor g p load store stores loads a b d few =
    let all = is_floor g p load store stores (length (taken g.dag p g.dag.count)) a b d refl in
    let more = mul-le load loads load (length (taken g.dag p g.dag.count)) (omega arith) few in
    omega (arith, all, more)
