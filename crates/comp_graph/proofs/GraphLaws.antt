-- What a graph's nodes say of its sets.
use Rattle.std.proofs.Common.{◌≡◌, ℕ, ◌+◌, ◌<◌, ◌≤◌, Bool, true, ◌&&◌, List, [], ◌∷◌, ◌++◌, length, take, map, get_or, ltb, eqb, Option, Some, None, slice_get, ℤ, sym, refl, ap, ◌∙◌, subst, add-one, inl, inr, ⊎_elim, arith}
use Rattle.std.specs.Ordering.{nat_cmp}
use Rattle.std.specs.Cmp.{nat_cmp_total}
use Rattle.std.specs.FinSet as set
use Rattle.std.specs.FinSet.{nat_cmp-IsAntisymmetric}
use Rattle.std.specs.List.{All}
use Rattle.std.proofs.lemmas.List.{take_more, map-append}
use Rattle.std.proofs.lemmas.List.Elements.{All-head, All-tail}
use Rattle.std.proofs.lemmas.Option.{slice_get_cases, slice_get_within}
use Rattle.std.proofs.lemmas.Bool.{cases_Bool, false≢true, or_cases, eqb-true, and_left, and_parts, le-ltb, lt-ltb, ltb-true}
use Rattle.std.proofs.lemmas.Bool.Decides.{nat_tests}
use Rattle.std.proofs.lemmas.Grind.{common_steps}
use Rattle.comp_graph.specs.declared.operation.Op.{Op}
use Rattle.comp_graph.specs.declared.operation.Op.TheVariants.{Input, Set, Add, Sub, Mul, And, Or, Xor, Neg, Min, Max, Sel, Mad}
use Rattle.comp_graph.specs.declared.node.Operand.{Operand}
use Rattle.comp_graph.specs.declared.node.Operand.TheVariants.{Vertex, Const}
use Rattle.comp_graph.specs.declared.node.Node.{Node}
use Rattle.comp_graph.specs.declared.node.Output.{Output}
use Rattle.comp_graph.specs.Vertices.{Vertices, AllBelow, set_below}
use Rattle.comp_graph.specs.Sets.{same, membership, has_empty, has_insert, has_set_below}
use Rattle.comp_graph.specs.Dags.{IsDag}
use Rattle.comp_graph.specs.Operations.{arity_of}
use Rattle.comp_graph.specs.Graphs.{GraphParts, IsGraph, dag_of, operands_of, vertices_of, preds_of, is_input, is_input_node, inputs_of, outputs_of, IsOperandBelow}

-- ---- operands

insert_swap : (s : Vertices) (a b : ℕ) → set.insert (set.insert s a) b ≡ set.insert (set.insert s b) a
insert_swap s a b = same _ _ (λ v. grind (arith, membership))

pub vertices_of-push_vertex : (xs : List Operand) (v : ℕ) → vertices_of (xs ++ Vertex v ∷ []) ≡ set.insert (vertices_of xs) v
unfolding vertices_of
vertices_of-push_vertex [] v = refl
vertices_of-push_vertex (Vertex u ∷ xs) v = ap (λ s. set.insert s u) (vertices_of-push_vertex xs v) ∙ insert_swap (vertices_of xs) v u
vertices_of-push_vertex (Const k ∷ xs) v = vertices_of-push_vertex xs v

pub vertices_of-push_const : (xs : List Operand) (k : ℤ) → vertices_of (xs ++ Const k ∷ []) ≡ vertices_of xs
unfolding vertices_of
vertices_of-push_const [] k = refl
vertices_of-push_const (Vertex u ∷ xs) k = ap (λ s. set.insert s u) (vertices_of-push_const xs k)
vertices_of-push_const (Const j ∷ xs) k = vertices_of-push_const xs k

pub vertices_more_vertex : (xs : List Operand) (i : ℕ) (d : Operand) (v : ℕ) → i < length xs → get_or xs i d ≡ Vertex v → vertices_of (take (i + 1) xs) ≡ set.insert (vertices_of (take i xs)) v
vertices_more_vertex xs i d v h is = ap vertices_of (take_more xs i d h ∙ ap (λ x. take i xs ++ x ∷ []) is) ∙ vertices_of-push_vertex (take i xs) v

pub vertices_more_const : (xs : List Operand) (i : ℕ) (d : Operand) (k : ℤ) → i < length xs → get_or xs i d ≡ Const k → vertices_of (take (i + 1) xs) ≡ vertices_of (take i xs)
vertices_more_const xs i d k h is = ap vertices_of (take_more xs i d h ∙ ap (λ x. take i xs ++ x ∷ []) is) ∙ vertices_of-push_const (take i xs) k

vertices_below : (n : ℕ) (xs : List Operand) → All (IsOperandBelow n) xs → (v : ℕ) → set.contains (vertices_of xs) v ≡ true → v < n
unfolding vertices_of
vertices_below n [] all v e = absurd (false≢true (sym (has_empty v) ∙ e))
vertices_below n (Vertex u ∷ xs) all v e =
    ⊎_elim (λ (is : eqb v u ≡ true). omega (arith, eqb-true v u is, All-head (IsOperandBelow n) (Vertex u) xs all))
    (vertices_below n xs (All-tail (IsOperandBelow n) (Vertex u) xs all) v)
    (or_cases _ _ (sym (has_insert (vertices_of xs) u v) ∙ e))
vertices_below n (Const k ∷ xs) all v e = vertices_below n xs (All-tail (IsOperandBelow n) (Const k) xs all) v e

-- ---- predecessors

pub preds_of-node : (g : GraphParts) (v : ℕ) (n : Node) → slice_get g.nodes v ≡ Some n → preds_of g v ≡ vertices_of (operands_of n)
unfolding preds_of
preds_of-node g v n e = rw e refl

pub preds_of-past : (g : GraphParts) (v : ℕ) → slice_get g.nodes v ≡ None → preds_of g v ≡ set.empty
unfolding preds_of
preds_of-past g v e = rw e refl

-- a predecessor is an operand of a node
pub pred_of_node : (g : GraphParts) → IsGraph g → (v u : ℕ) → set.contains (preds_of g v) u ≡ true → (n : Node) × (slice_get g.nodes v ≡ Some n) × (set.contains (vertices_of (operands_of n)) u ≡ true)
pred_of_node g ok v u e = elim (slice_get g.nodes v) as (λ o. slice_get g.nodes v ≡ o → (n : Node) × (slice_get g.nodes v ≡ Some n) × (set.contains (vertices_of (operands_of n)) u ≡ true)) [
  | None ↦ λ is. absurd (false≢true (sym (has_empty u) ∙ sym (ap (λ s. set.contains s u) (preds_of-past g v is)) ∙ e))
  | Some n ↦ λ is. (n, is, sym (ap (λ s. set.contains s u) (preds_of-node g v n is)) ∙ e)
] refl

pub preds_of-below : (g : GraphParts) → IsGraph g → (v : ℕ) → AllBelow v (preds_of g v)
preds_of-below g ok v = record {
  below = λ u e.
      let w = pred_of_node g ok v u e in
      vertices_below v (operands_of w.0) (ok.nodes v w.0 w.1).below u w.2;
}

-- ---- inputs

pub contains-inputs_of : (g : GraphParts) (v : ℕ) (n : Node) → slice_get g.nodes v ≡ Some n → set.contains (inputs_of g) v ≡ is_input n.op
unfolding inputs_of
contains-inputs_of g v n e = has_set_below (λ u. is_input_node (slice_get g.nodes u)) (length g.nodes) v
    ∙ (λ i. lt-ltb v (length g.nodes) (slice_get_within g.nodes v n e) i && is_input_node (e i))

is_input-true : (o : Op) → o ≡ Input → is_input o ≡ true
is_input-true o e = ap is_input e

is_input-Input : (o : Op) → is_input o ≡ true → o ≡ Input
is_input-Input Input e = refl
is_input-Input Set e = cc
is_input-Input Add e = cc
is_input-Input Sub e = cc
is_input-Input Mul e = cc
is_input-Input And e = cc
is_input-Input Or e = cc
is_input-Input Xor e = cc
is_input-Input Neg e = cc
is_input-Input Min e = cc
is_input-Input Max e = cc
is_input-Input Sel e = cc
is_input-Input Mad e = cc

same_test : (v : ℕ) (b : Bool) (n : ℕ) → (b ≡ true → v < n) → (v < n → b ≡ true) → (ltb v n && true) ≡ (true && b)
same_test v b n to from = grind (arith, nat_tests)

-- the inputs are the first vertices, one for each name
pub inputs_of-first : (g : GraphParts) → IsGraph g → set_below (λ v. true) (length g.names) ≡ inputs_of g
unfolding inputs_of
inputs_of-first g ok = same _ _ (λ v.
    has_set_below (λ v. true) (length g.names) v
    ∙ each v (slice_get g.nodes v) refl
    ∙ sym (has_set_below (λ u. is_input_node (slice_get g.nodes u)) (length g.nodes) v))
  where
    each : (v : ℕ) (o : Option Node) → slice_get g.nodes v ≡ o → (ltb v (length g.names) && true) ≡ (ltb v (length g.nodes) && is_input_node (slice_get g.nodes v))
    each v None e =
        elim ((slice_get_cases g.nodes v).1) [
          | inl w ↦ absurd (let at = w.2 in cc)
          | inr w ↦
              let past = w.0 in
              let named = ok.named in
              and_left _ _ (le-ltb v (length g.names) (omega arith)) ∙ sym (and_left _ _ (le-ltb v (length g.nodes) past))
        ]
    each v (Some n) e =
        let first = (ok.nodes v n e).input_first in
        let here = slice_get_within g.nodes v n e in
        let to_name : is_input n.op ≡ true → v < length g.names = λ is. first.0 (is_input-Input n.op is) in
        let from_name : v < length g.names → is_input n.op ≡ true = λ l. is_input-true n.op (first.1 l) in
        let is_node : is_input_node (slice_get g.nodes v) ≡ is_input n.op = ap is_input_node e in
        same_test v (is_input n.op) (length g.names) to_name from_name
        ∙ (λ i. sym (lt-ltb v (length g.nodes) here) i && sym is_node i)

outputs_below : (n : ℕ) (os : List Output) → All (λ o. o.vertex < n) os → (v : ℕ) → set.contains (set.from_list {R = nat_cmp} (map (λ o. o.vertex) os)) v ≡ true → v < n
outputs_below n [] all v e = absurd (false≢true (sym (has_empty v) ∙ e))
outputs_below n (o ∷ os) all v e =
    ⊎_elim (λ (is : eqb v o.vertex ≡ true). omega (arith, eqb-true v o.vertex is, All-head (λ (x : Output). x.vertex < n) o os all))
    (outputs_below n os (All-tail (λ (x : Output). x.vertex < n) o os all) v)
    (or_cases _ _ (sym (has_insert (set.from_list (map (λ o. o.vertex) os)) o.vertex v) ∙ e))

no_operands : (n : Node) (u : ℕ) → n.op ≡ Input → set.contains (vertices_of (operands_of n)) u ≡ true → ⊥
unfolding vertices_of
no_operands n u e in_operands = false≢true (sym (has_empty u) ∙ ap (λ o. set.contains (vertices_of (take (arity_of o) n.args)) u) (sym e) ∙ in_operands)

pub IsDag-dag_of : (g : GraphParts) → IsGraph g → IsDag (dag_of g)
IsDag-dag_of g ok = record {
  preds_below = λ v w e. (preds_of-below g ok v).below w e;
  inputs_are_vertices = (subst (AllBelow (length g.nodes)) (inputs_of-first g ok) (record { below = λ v e. omega (arith, ok.named, ltb-true v (length g.names) (and_parts _ _ (sym (has_set_below (λ v. true) (length g.names) v) ∙ e)).0) })).below;
  outputs_are_vertices = λ v e. outputs_below (length g.nodes) g.outputs ok.outputs v (unfold outputs_of in e);
  inputs_have_no_preds = λ v is. same _ _ (λ u. elim (cases_Bool (set.contains (preds_of g v) u)) [
    | inl p ↦
        let w = pred_of_node g ok v u p in
        let input = is_input-Input w.0.op (sym (contains-inputs_of g v w.0 w.1) ∙ is) in
        absurd (no_operands w.0 u input w.2)
    | inr out ↦ out ∙ sym (has_empty u)
  ]);
}

-- ---- outputs

pub outputs_push : (os : List Output) (o : Output) → set.from_list {R = nat_cmp} (map (λ o. o.vertex) (os ++ o ∷ [])) ≡ set.insert (set.from_list (map (λ o. o.vertex) os)) o.vertex
outputs_push os o =
    ap set.from_list (map-append (λ (x : Output). x.vertex) os (o ∷ []))
    ∙ set.from_list_push nat_cmp_total nat_cmp-IsAntisymmetric (map (λ o. o.vertex) os) o.vertex

pub outputs_more : (os : List Output) (i : ℕ) (o : Output) → i < length os → o ≡ get_or os i o → set.from_list {R = nat_cmp} (map (λ o. o.vertex) (take (i + 1) os)) ≡ set.insert (set.from_list (map (λ o. o.vertex) (take i os))) o.vertex
outputs_more os i o h is =
    ap (λ l. set.from_list {R = nat_cmp} (map (λ (x : Output). x.vertex) l)) (take_more os i o h ∙ ap (λ x. take i os ++ x ∷ []) (sym is))
    ∙ outputs_push (take i os) o

pub outputs_all : (os : List Output) (i : ℕ) → length os ≤ i → set.from_list {R = nat_cmp} (map (λ o. o.vertex) (take i os)) ≡ set.from_list (map (λ o. o.vertex) os)
outputs_all os i h = ap (λ l. set.from_list {R = nat_cmp} (map (λ (x : Output). x.vertex) l)) (grind (arith, common_steps))

pub set_below-next : (n : ℕ) → set_below (λ v. true) (n + 1) ≡ set.insert (set_below (λ v. true) n) n
unfolding set_below
set_below-next n = rw add-one refl
