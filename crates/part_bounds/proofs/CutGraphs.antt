-- The graph of a part is a graph, and as the game sees it the one that is cut.
use Rattle.std.proofs.Common.{◌≡◌, ℕ, zero, suc, ◌≤◌, ◌<◌, Bool, cond, ltb, ◌&&◌, ◌⊎◌, List, [], ◌∷◌, inl, inr, map, length, drop, sym, refl, ap, ◌∙◌, subst, arith}
use Rattle.std.specs.Prelude.{Option, Some, None, slice_get, option_map, pos}
use Rattle.std.specs.List.{All}
use Rattle.std.proofs.lemmas.List.{take_all, length-map, take-map, drop-map}
use Rattle.std.proofs.lemmas.List.Elements.{All-map, All-weaker, All-nil, All-cons}
use Rattle.std.proofs.lemmas.Option.{slice_get-map, slice_get_within, slice_get_past}
use Rattle.std.proofs.lemmas.Bool.Decides.{nat_tests}
use Rattle.std.specs.FinSet.{contains, insert, empty}
use Rattle.comp_graph.specs.Vertices.{Vertices, ◌∈◌, AllBelow}
use Rattle.comp_graph.specs.Sets.{same, has_set_below, has_empty}
use Rattle.comp_graph.specs.declared.node.Operand.{Operand}
use Rattle.comp_graph.specs.declared.node.Operand.TheVariants.{Vertex, Const}
use Rattle.comp_graph.specs.declared.node.Node.{Node}
use Rattle.comp_graph.specs.declared.node.Output.{Output}
use Rattle.comp_graph.specs.Operations.{arity_of}
use Rattle.comp_graph.specs.Graphs.{GraphParts, IsGraph, IsNode, dag_of, operands_of, vertices_of, preds_of, is_input_node, inputs_of, outputs_of, IsOperandBelow, IsConstant}
use Rattle.comp_graph.proofs.GraphLaws.{IsDag-dag_of, preds_of-node, preds_of-past}
use Rattle.comp_graph.proofs.Sets.{set_of, count_below_le}
use Rattle.std.proofs.lemmas.Bool.{cases_Bool, cases_lt, false_from_ne_true}
use Rattle.part_bounds.specs.Cuts.{place, vertex_at, cut, cut_dag}
use Rattle.part_bounds.specs.Induced.{cut_operand, cut_node, kept, cut_outputs, induced}
use Rattle.part_bounds.specs.Laws.{GraphsAreInduced}
use Rattle.comp_graph.proofs.Sets.{count_below-less, count_below-grows}
use Rattle.part_bounds.proofs.Places.{is_at, vertex_at_past, has_cut, cut_empty, cut_insert, cut_insert_other}
use Rattle.part_bounds.proofs.Kept.{get_at, length_kept, get_kept}

no_members : (t : Vertices) → ((w : ℕ) → w ∈ t → ⊥) → t ≡ empty
no_members t none = same _ _ (λ w. false_from_ne_true (contains t w) (none w) ∙ sym (has_empty w))

-- ---- operands

-- the vertices among cut operands
cut_vertices : (n : ℕ) (s : Vertices) → AllBelow n s → (xs : List Operand) → vertices_of (map (cut_operand s) xs) ≡ cut s n (vertices_of xs)
unfolding vertices_of
cut_vertices n s below [] = sym (cut_empty s n)
cut_vertices n s below (Vertex u ∷ xs) = elim (cases_Bool (contains s u)) [
  | inl member ↦
      ap (λ b. vertices_of (cond b (Vertex (place s u)) (Const (pos 0)) ∷ map (cut_operand s) xs)) member
      ∙ ap (λ t. insert t (place s u)) (cut_vertices n s below xs)
      ∙ sym (cut_insert s n (vertices_of xs) u member (below.below u member))
  | inr out ↦
      ap (λ b. vertices_of (cond b (Vertex (place s u)) (Const (pos 0)) ∷ map (cut_operand s) xs)) out
      ∙ cut_vertices n s below xs
      ∙ sym (cut_insert_other s n (vertices_of xs) u out)
]
cut_vertices n s below (Const c ∷ xs) = cut_vertices n s below xs

operands_cut : (s : Vertices) (n : Node) → operands_of (cut_node s n) ≡ map (cut_operand s) (operands_of n)
operands_cut s n = take-map (cut_operand s) (arity_of n.op) n.args

-- a cut operand lies below the place of its vertex
cut_below_place : (s : Vertices) (v : ℕ) (x : Operand) → IsOperandBelow v x → IsOperandBelow (place s v) (cut_operand s x)
cut_below_place s v (Vertex u) less = elim (cases_Bool (contains s u)) [
  | inl member ↦ subst (λ b. IsOperandBelow (place s v) (cond b (Vertex (place s u)) (Const (pos 0)))) (sym member) (count_below-less s u v member less)
  | inr out ↦ subst (λ b. IsOperandBelow (place s v) (cond b (Vertex (place s u)) (Const (pos 0)))) (sym out) tt
]
cut_below_place s v (Const c) h = tt

cut_constant : (s : Vertices) (x : Operand) → IsConstant x → IsConstant (cut_operand s x)
cut_constant s (Vertex u) h = absurd h
cut_constant s (Const c) h = tt

cut_zero : (s : Vertices) (x : Operand) → x ≡ Const (pos 0) → cut_operand s x ≡ Const (pos 0)
cut_zero s x e = ap (cut_operand s) e

-- ---- one node

place_mono : (s : Vertices) (v w : ℕ) → v ≤ w → place s v ≤ place s w
place_mono s v zero h = let e : v ≡ zero = omega arith in let at = ap (place s) e in omega arith
place_mono s v (suc w) h = elim (last v w h) [
  | inl less ↦ (let old = place_mono s v w less in let grows = count_below-grows s w in omega arith)
  | inr is ↦ (let at = ap (place s) is in omega arith)
]
  where
    last : (v w : ℕ) → v ≤ suc w → (v ≤ w) ⊎ (v ≡ suc w)
    last v w h = grind arith

node_cut : (s : Vertices) (inputs v : ℕ) (n : Node) → v ∈ s → IsNode inputs v n → IsNode (place s inputs) (place s v) (cut_node s n)
node_cut s inputs v n member is = record {
  three = length-map n.args (cut_operand s) ∙ is.three;
  input_first = (λ input. count_below-less s v inputs member (is.input_first.0 input), λ less. is.input_first.1 (lower less));
  below = subst (All (IsOperandBelow (place s v))) (sym (operands_cut s n))
      (All-map (IsOperandBelow (place s v)) (cut_operand s) (operands_of n)
      (All-weaker (IsOperandBelow v) (λ x. IsOperandBelow (place s v) (cut_operand s x)) (λ x h. cut_below_place s v x h) (operands_of n) is.below));
  set_constant = λ set. subst (All IsConstant) (sym (operands_cut s n))
      (All-map IsConstant (cut_operand s) (operands_of n) (All-weaker IsConstant (λ x. IsConstant (cut_operand s x)) (λ x h. cut_constant s x h) (operands_of n) (is.set_constant set)));
  rest = subst (All (λ a. a ≡ Const (pos 0))) (sym (drop-map (cut_operand s) (arity_of n.op) n.args))
      (All-map (λ a. a ≡ Const (pos 0)) (cut_operand s) (drop (arity_of n.op) n.args)
      (All-weaker (λ a. a ≡ Const (pos 0)) (λ a. cut_operand s a ≡ Const (pos 0)) (λ a h. cut_zero s a h) (drop (arity_of n.op) n.args) is.rest));
}
  where
    lower : place s v < place s inputs → v < inputs
    lower less = elim (cases_lt v inputs) [
      | inl below ↦ below
      | inr above ↦ absurd (let mono = place_mono s inputs v above in omega arith)
    ]

-- ---- the outputs

cut_outputs_set : (n : ℕ) (s : Vertices) → AllBelow n s → (os : List Output) → set_of (map (λ o. o.vertex) (cut_outputs s os)) ≡ cut s n (set_of (map (λ o. o.vertex) os))
cut_outputs_set n s below [] = sym (cut_empty s n)
cut_outputs_set n s below (o ∷ os) = elim (cases_Bool (contains s o.vertex)) [
  | inl member ↦
      ap (λ b. set_of (map (λ o. o.vertex) (cond b (record { label = o.label; vertex = place s o.vertex } ∷ cut_outputs s os) (cut_outputs s os)))) member
      ∙ ap (λ t. insert t (place s o.vertex)) (cut_outputs_set n s below os)
      ∙ sym (cut_insert s n (set_of (map (λ o. o.vertex) os)) o.vertex member (below.below o.vertex member))
  | inr out ↦
      ap (λ b. set_of (map (λ o. o.vertex) (cond b (record { label = o.label; vertex = place s o.vertex } ∷ cut_outputs s os) (cut_outputs s os)))) out
      ∙ cut_outputs_set n s below os
      ∙ sym (cut_insert_other s n (set_of (map (λ o. o.vertex) os)) o.vertex out)
]

abbrev IsOutputBelow : ℕ → Output → Type 0
IsOutputBelow n o = o.vertex < n

cut_outputs_below : (n : ℕ) (s : Vertices) → AllBelow n s → (os : List Output) → All (IsOutputBelow (place s n)) (cut_outputs s os)
cut_outputs_below n s below [] = All-nil (IsOutputBelow (place s n))
cut_outputs_below n s below (o ∷ os) = elim (cases_Bool (contains s o.vertex)) [
  | inl member ↦
      subst (λ b. All (IsOutputBelow (place s n)) (cond b (record { label = o.label; vertex = place s o.vertex } ∷ cut_outputs s os) (cut_outputs s os))) (sym member)
      (All-cons (IsOutputBelow (place s n)) (record { label = o.label; vertex = place s o.vertex }) (cut_outputs s os) (count_below-less s o.vertex n member (below.below o.vertex member)) (cut_outputs_below n s below os))
  | inr out ↦
      subst (λ b. All (IsOutputBelow (place s n)) (cond b (record { label = o.label; vertex = place s o.vertex } ∷ cut_outputs s os) (cut_outputs s os))) (sym out)
      (cut_outputs_below n s below os)
]

-- ---- the graph

module _ (g : GraphParts) (valid : IsGraph g) (s : Vertices) (below : AllBelow (length g.nodes) s) where
  abbrev n : ℕ
  n = length g.nodes

  abbrev nodes' : List Node
  nodes' = map (cut_node s) (kept s 0 g.nodes)

  all_kept : {A : Type 0} (xs : List A) → length (kept s 0 xs) ≡ place s (length xs)
  all_kept xs = ap (λ ys. length (kept s 0 ys)) (sym (take_all (length xs) xs (omega arith))) ∙ length_kept s xs (length xs) (omega arith)

  many : length nodes' ≡ place s n
  many = length-map (kept s 0 g.nodes) (cut_node s) ∙ all_kept g.nodes

  node_at : (k : ℕ) → k < place s n → slice_get nodes' k ≡ option_map (cut_node s) (slice_get g.nodes (vertex_at s n k))
  node_at k less =
      slice_get-map (cut_node s) (kept s 0 g.nodes) k
      ∙ ap (option_map (cut_node s)) (ap (λ ys. slice_get (kept s 0 ys) k) (sym (take_all n g.nodes (omega arith))) ∙ get_kept s g.nodes n (omega arith) k less)

  preds_cut : (k : ℕ) → preds_of (induced g s) k ≡ cut s n (preds_of g (vertex_at s n k))
  unfolding induced
  preds_cut k = elim (cases_lt k (place s n)) [
    | inl less ↦
        let at = is_at s n k less in
        let node = get_at g.nodes (vertex_at s n k) at.below in
        preds_of-node (induced g s) k (cut_node s node.0) (node_at k less ∙ ap (option_map (cut_node s)) node.1)
        ∙ ap vertices_of (operands_cut s node.0) ∙ cut_vertices n s below (operands_of node.0)
        ∙ ap (cut s n) (sym (preds_of-node g (vertex_at s n k) node.0 node.1))
    | inr past ↦
        preds_of-past (induced g s) k (slice_get_past nodes' k (let e = many in omega arith))
        ∙ sym (cut_empty s n)
        ∙ ap (cut s n) (sym none)
        ∙ ap (λ v. cut s n (preds_of g v)) (sym (vertex_at_past s n k past))
  ]
    where
      none : preds_of g 0 ≡ empty
      none = no_members (preds_of g 0) (λ w h. let less = (IsDag-dag_of g valid).preds_below 0 w h in omega arith)

  inputs_cut : inputs_of (induced g s) ≡ cut s n (inputs_of g)
  unfolding induced inputs_of
  inputs_cut = same _ _ (λ k.
      has_set_below (λ v. is_input_node (slice_get nodes' v)) (length nodes') k
      ∙ ap (λ m. ltb k m && is_input_node (slice_get nodes' k)) many
      ∙ by_side k
      ∙ sym (has_cut s n (inputs_of g) k))
    where
      input_cut : (o : Option Node) → is_input_node (option_map (cut_node s) o) ≡ is_input_node o
      input_cut None = refl
      input_cut (Some x) = refl

      by_side : (k : ℕ) → (ltb k (place s n) && is_input_node (slice_get nodes' k)) ≡ (ltb k (place s n) && contains (inputs_of g) (vertex_at s n k))
      by_side k = elim (cases_lt k (place s n)) [
        | inl less ↦
            let at = is_at s n k less in
            ap (λ b. ltb k (place s n) && b) (ap is_input_node (node_at k less) ∙ input_cut (slice_get g.nodes (vertex_at s n k))
            ∙ whole (vertex_at s n k) (is_input_node (slice_get g.nodes (vertex_at s n k))) at.below
            ∙ sym (has_set_below (λ v. is_input_node (slice_get g.nodes v)) n (vertex_at s n k)))
        | inr past ↦ beyond k (place s n) _ _ past
      ]
        where
          whole : (v : ℕ) (b : Bool) → v < n → b ≡ (ltb v n && b)
          whole v b less = grind (arith, nat_tests)

          beyond : (k m : ℕ) (a b : Bool) → m ≤ k → (ltb k m && a) ≡ (ltb k m && b)
          beyond k m a b h = grind (arith, nat_tests)

  outputs_cut : outputs_of (induced g s) ≡ cut s n (outputs_of g)
  unfolding induced outputs_of
  outputs_cut = cut_outputs_set n s below g.outputs

  dag_cut : dag_of (induced g s) ≡ cut_dag (dag_of g) s
  unfolding induced
  dag_cut = λ i. record { count = many i; preds = λ k. preds_cut k i; inputs = inputs_cut i; outputs = outputs_cut i }

  graph_valid : IsGraph (induced g s)
  unfolding induced
  graph_valid = record {
    small = let e = many in let most = place_le n in let small = valid.small in omega arith;
    named = let e = many in let names = all_kept g.names in let mono = place_mono s (length g.names) n valid.named in omega arith;
    nodes = λ k node is.
        let less : k < place s n = (let within = slice_get_within nodes' k node is in let e = many in omega arith) in
        let at = is_at s n k less in
        let old = get_at g.nodes (vertex_at s n k) at.below in
        let same_node : cut_node s old.0 ≡ node = some_same (sym (node_at k less ∙ ap (option_map (cut_node s)) old.1) ∙ is) in
        subst (IsNode (length (kept s 0 g.names)) k) same_node
        (subst (λ m. IsNode m k (cut_node s old.0)) (sym (all_kept g.names))
        (subst (λ v. IsNode (place s (length g.names)) v (cut_node s old.0)) at.placed
        (node_cut s (length g.names) (vertex_at s n k) old.0 at.member (valid.nodes (vertex_at s n k) old.0 old.1))));
    outputs = subst (λ m. All (IsOutputBelow m) (cut_outputs s g.outputs)) (sym many) (cut_outputs_below n s below g.outputs);
  }
    where
      some_same : {A : Type 0} {x y : A} → Some x ≡ Some y → x ≡ y
      some_same e = cc

      place_le : (m : ℕ) → place s m ≤ m
      place_le m = count_below_le (contains s) m

pub graphs_are_induced : GraphsAreInduced
graphs_are_induced g valid s below = record { graph = graph_valid g valid s below; cut = dag_cut g valid s below }

-- these parts are those of the induced graph
pub induced_of : (g : GraphParts) (s : Vertices) (title : List ℕ) (nodes : List Node) (names : List (List ℕ)) (outputs : List Output)
    → title ≡ g.title → nodes ≡ map (cut_node s) (kept s 0 g.nodes) → names ≡ kept s 0 g.names → outputs ≡ cut_outputs s g.outputs
    → ◌≡◌ {A = GraphParts} (record { title = title; nodes = nodes; names = names; outputs = outputs }) (induced g s)
unfolding induced
induced_of g s title nodes names outputs a b c d = λ i. record { title = a i; nodes = b i; names = c i; outputs = d i }
