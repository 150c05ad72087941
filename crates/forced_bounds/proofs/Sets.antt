-- The sets of the floor by paths, and that they are the least of their kind.
use Rattle.std.proofs.Common.{◌≡◌, ℕ, zero, suc, ◌<◌, Bool, true, false, not, ◌&&◌, inl, inr, refl, subst, arith}
use Rattle.std.specs.FinSet.{contains, union}
use Rattle.comp_graph.proofs.Sets.{in_set_below, set_below_parts, not_set_below}
use Rattle.comp_graph.specs.Vertices.{Vertices, ◌∈◌, ◌∉◌, any_below}
use Rattle.comp_graph.specs.Dags.{Dag, IsDag}
use Rattle.pebble_rules.specs.declared.position.Position.{Position}
use Rattle.comp_graph.proofs.DagLaws.{both, and-true, any_below_at, any_below_some}
use Rattle.pebble_rules.proofs.Possible.{not_member, true_or_false}
use Rattle.forced_bounds.specs.Floor.{reaches, only, needed, computable, cone}
use Rattle.forced_bounds.specs.Least.{HoldsNeeded, HoldsComputable, HoldsCone, NeededIsLeast, ComputableIsLeast, ConeIsLeast}
use Rattle.forced_bounds.proofs.Paths.{IsPathOutside, point, edge, PathToTarget, path_of, of_path, path_end, path_push, path_last, path_rises, in_only, only_one, not_true, true_not}

-- ---- needed

pub needed_path : (g : Dag) (p : Position) (v : ℕ) → v ∈ needed g p → PathToTarget g (union p.red p.blue) g.outputs v
needed_path g p v h = path_of g _ _ g.count v ((set_below_parts g.count (reaches g (union p.red p.blue) g.outputs) v h).1)

pub path_needed : (g : Dag) → IsDag g → (p : Position) (v u : ℕ) → u ∈ g.outputs → IsPathOutside g (union p.red p.blue) v u → v ∈ needed g p
path_needed g dag p v u out path =
    let rises = path_rises g dag _ v u path in
    let below = dag.outputs_are_vertices u out in
    in_set_below g.count (reaches g (union p.red p.blue) g.outputs) v (omega arith) (of_path g dag _ _ v u out below path)

needed_closed : (g : Dag) → IsDag g → (p : Position) → HoldsNeeded g p (needed g p)
needed_closed g dag p = record {
  outputs = λ v out bare. path_needed g dag p v v out (point bare);
  preds = λ v u h pred bare. let path = needed_path g p v h in path_needed g dag p u path.0 path.1 (edge v bare pred path.2);
}

needed_within : (g : Dag) (p : Position) (t : Vertices) → HoldsNeeded g p t → (v u : ℕ) → u ∈ g.outputs → IsPathOutside g (union p.red p.blue) v u → v ∈ t
needed_within g p t holds v u out (point bare) = holds.outputs v out bare
needed_within g p t holds v u out (edge w bare pred rest) = holds.preds w v (needed_within g p t holds w u out rest) pred bare

pub needed_is_least : NeededIsLeast
needed_is_least g dag p = record {
  closed = needed_closed g dag p;
  least = λ t holds v h. let path = needed_path g p v h in needed_within g p t holds v path.0 path.1 path.2;
}

-- ---- computable

-- a path outside the red vertices leads from an input to v
abbrev pub IsFar : Dag → Position → ℕ → Type 0
IsFar g p v = (u : ℕ) × (u ∈ g.inputs) × IsPathOutside g p.red u v

abbrev far : Dag → Position → ℕ → Bool
far g p v = any_below g.count (λ u. contains g.inputs u && reaches g p.red (only v) u)

far_path : (g : Dag) (p : Position) (v : ℕ) → far g p v ≡ true → IsFar g p v
far_path g p v h =
    let u = any_below_some g.count (λ u. contains g.inputs u && reaches g p.red (only v) u) h in
    let parts = both (contains g.inputs u.0) (reaches g p.red (only v) u.0) u.2 in
    let path : PathToTarget g p.red (only v) u.0 = path_of g p.red (only v) g.count u.0 parts.1 in
    (u.0, parts.0, subst (λ w. IsPathOutside g p.red u.0 w) (only_one path.0 v path.1) path.2)

path_far : (g : Dag) → IsDag g → (p : Position) (v : ℕ) → v < g.count → IsFar g p v → far g p v ≡ true
path_far g dag p v below path =
    any_below_at g.count path.0 (λ u. contains g.inputs u && reaches g p.red (only v) u) (dag.inputs_are_vertices path.0 path.1)
    (and-true _ _ path.1 (of_path g dag p.red (only v) path.0 v (in_only v) below path.2))

not_not : (b : Bool) → not b ≡ false → b ≡ true
not_not true h = refl
not_not false h = absurd (grind arith)

-- a vertex that is not computable is far
pub not_computable : (g : Dag) (p : Position) (v : ℕ) → v < g.count → v ∉ computable g p → IsFar g p v
not_computable g p v below h = far_path g p v (not_not _ (not_set_below g.count (λ v. not (far g p v)) v below h))

pub is_computable : (g : Dag) (p : Position) (v : ℕ) → v < g.count → (IsFar g p v → ⊥) → v ∈ computable g p
is_computable g p v below h = in_set_below g.count (λ v. not (far g p v)) v below (true_not _ (not_member _ (λ is. h (far_path g p v is))))

-- a far vertex is not computable
pub far_not_computable : (g : Dag) → IsDag g → (p : Position) (v : ℕ) → v < g.count → IsFar g p v → v ∉ computable g p
far_not_computable g dag p v below path =
    not_member _ (λ is. let no = not_true _ ((set_below_parts g.count (λ v. not (far g p v)) v is).1) in let yes_far = path_far g dag p v below path in grind arith)

pub red_computable : (g : Dag) (p : Position) (v : ℕ) → v < g.count → v ∈ p.red → v ∈ computable g p
red_computable g p v below red = is_computable g p v below (λ path. let out = path_end g p.red path.0 v path.2 in grind arith)

-- a vertex that is no input and not computable has a predecessor that is not computable
pub far_pred : (g : Dag) → IsDag g → (p : Position) (v : ℕ) → v < g.count → v ∉ g.inputs → v ∉ computable g p → (w : ℕ) × (w ∈ g.preds v) × (w ∉ computable g p)
far_pred g dag p v below no_input h =
    let path = not_computable g p v below h in
    elim (path_last g p.red path.0 v path.2) [
      | inl e ↦ absurd (let input = path.1 in grind arith)
      | inr last ↦ (last.0, last.1, far_not_computable g dag p last.0 (let less = dag.preds_below v last.0 last.1 in omega arith) (path.0, path.1, last.2))
    ]

computable_closed : (g : Dag) → IsDag g → (p : Position) → HoldsComputable g p (computable g p)
computable_closed g dag p = record {
  red = λ v below red. red_computable g p v below red;
  computed = λ v below no_input preds. elim (true_or_false (contains (computable g p) v)) [
    | inl is ↦ is
    | inr out ↦ absurd (let w = far_pred g dag p v below no_input out in let held = preds w.0 w.1 in let not_held = w.2 in grind arith)
  ];
}

-- a predecessor of a computable vertex that is not red is computable
pub no_far_pred : (g : Dag) → IsDag g → (p : Position) (v w : ℕ) → v < g.count → v ∈ computable g p → v ∉ p.red → w ∈ g.preds v → w ∈ computable g p
no_far_pred g dag p v w below h not_red pred = elim (true_or_false (contains (computable g p) w)) [
  | inl is ↦ is
  | inr out ↦
      let less = dag.preds_below v w pred in
      absurd (
      let path = not_computable g p w (omega arith) out in
      let far = far_not_computable g dag p v below (path.0, path.1, path_push g p.red path.0 w v path.2 pred not_red) in
      grind arith)
]

computable_within : (g : Dag) → IsDag g → (p : Position) (t : Vertices) → HoldsComputable g p t → (k v : ℕ) → v < k → v ∈ computable g p → v ∈ t
computable_within g dag p t holds zero v l h = absurd (omega arith)
computable_within g dag p t holds (suc k) v l h =
    let below = (set_below_parts g.count (λ v. not (far g p v)) v h).0 in
    elim (true_or_false (contains p.red v)) [
      | inl red ↦ holds.red v below red
      | inr not_red ↦ holds.computed v below
          (not_member _ (λ input. let far = far_not_computable g dag p v below (v, input, point not_red) in grind arith))
          (λ w pred. computable_within g dag p t holds k w (let less = dag.preds_below v w pred in omega arith) (no_far_pred g dag p v w below h not_red pred))
    ]

pub computable_is_least : ComputableIsLeast
computable_is_least g dag p = record {
  closed = computable_closed g dag p;
  least = λ t holds v h. computable_within g dag p t holds (suc v) v (omega arith) h;
}

-- ---- cones

pub cone_path : (g : Dag) (p : Position) (z v : ℕ) → v ∈ cone g p z → IsPathOutside g (computable g p) v z
cone_path g p z v h =
    let path : PathToTarget g (computable g p) (only z) v = path_of g (computable g p) (only z) g.count v ((set_below_parts g.count (reaches g (computable g p) (only z)) v h).1) in
    subst (λ w. IsPathOutside g (computable g p) v w) (only_one path.0 z path.1) path.2

pub path_cone : (g : Dag) → IsDag g → (p : Position) (z v : ℕ) → z < g.count → IsPathOutside g (computable g p) v z → v ∈ cone g p z
path_cone g dag p z v below path =
    let rises = path_rises g dag _ v z path in
    in_set_below g.count (reaches g (computable g p) (only z)) v (omega arith) (of_path g dag _ _ v z (in_only z) below path)

cone_closed : (g : Dag) → IsDag g → (p : Position) (z : ℕ) → z < g.count → z ∉ computable g p → HoldsCone g (computable g p) z (cone g p z)
cone_closed g dag p z below out = record {
  itself = path_cone g dag p z z below (point out);
  preds = λ w u h pred not. path_cone g dag p z u below (edge w not pred (cone_path g p z w h));
}

cone_within : (g : Dag) (c : Vertices) (z : ℕ) (t : Vertices) → HoldsCone g c z t → (v : ℕ) → IsPathOutside g c v z → v ∈ t
cone_within g c z t holds v (point h) = holds.itself
cone_within g c z t holds v (edge w h pred rest) = holds.preds w v (cone_within g c z t holds w rest) pred h

pub cone_is_least : ConeIsLeast
cone_is_least g dag p z below out = record {
  closed = cone_closed g dag p z below out;
  least = λ t holds v h. cone_within g (computable g p) z t holds v (cone_path g p z v h);
}
