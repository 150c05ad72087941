-- What the calls do, one step at a time.
use Rattle.std.proofs.Common.{◌≡◌, ℕ, suc, ◌+◌, ◌≤◌, ◌<◌, Bool, true, false, cond, ltb, eqb, ◌&&◌, ◌⊎◌, List, [], ◌∷◌, ◌++◌, inl, inr, map, length, take, drop, get_or, sym, refl, ap, ◌∙◌, subst, arith, append-nil}
use Rattle.std.specs.Prelude.{Some, slice_get, pos}
use Rattle.std.specs.List.{All}
use Rattle.std.proofs.Math.ListN.{set, length-set, replicate, length-replicate}
use Rattle.std.proofs.lemmas.List.{take_more, map-append, take-append-drop, get_or-replicate, get_or-set_same, get_or-set_other}
use Rattle.std.proofs.lemmas.List.Elements.{All-append, All-weaker}
use Rattle.std.proofs.lemmas.Option.{slice_get-get_or}
use Rattle.std.proofs.lemmas.Bool.Decides.{nat_tests}
use Rattle.std.specs.FinSet.{contains, insert, remove, empty}
use Rattle.comp_graph.specs.Vertices.{Vertices, ◌∈◌, ◌∉◌, set_below, rising}
use Rattle.comp_graph.specs.Sets.{same, has_set_below, has_empty}
use Rattle.comp_graph.specs.declared.node.Operand.{Operand}
use Rattle.comp_graph.specs.declared.node.Operand.TheVariants.{Vertex, Const}
use Rattle.comp_graph.specs.declared.node.Node.{Node}
use Rattle.comp_graph.specs.declared.node.Output.{Output}
use Rattle.comp_graph.specs.Operations.{arity_of}
use Rattle.comp_graph.specs.Graphs.{GraphParts, IsGraph, IsNode, preds_of, inputs_of, IsOperandBelow}
use Rattle.comp_graph.proofs.GraphLaws.{IsDag-dag_of, inputs_of-first}
use Rattle.comp_graph.proofs.Rising.{rising-least, rising-empty}
use Rattle.first_plan.proofs.Calls.{below_next}
use Rattle.part_bounds.specs.Cuts.{place}
use Rattle.part_bounds.specs.Parts.{rising_readers, IsFirstReader, part_of, ArePartSets}
use Rattle.part_bounds.specs.Induced.{cut_node, kept, cut_outputs}
use Rattle.comp_graph.proofs.Sets.{count_below-in, count_below-out}
use Rattle.part_bounds.proofs.Kept.{kept_next, get_at}

next : (k : ℕ) → k + 1 ≡ suc k
next k = omega arith

-- ---- places

pub place_more : (s : Vertices) (u count : ℕ) → count ≡ place s u → u ∈ s → count + 1 ≡ place s (u + 1)
place_more s u count e h = let placed = count_below-in s u h in let at = ap (place s) (next u) in omega arith

pub place_same : (s : Vertices) (u count : ℕ) → count ≡ place s u → u ∉ s → count ≡ place s (u + 1)
place_same s u count e h = let placed = count_below-out s u h in let at = ap (place s) (next u) in omega arith

-- ---- numbers that pass

pub below_more : (p : ℕ → Bool) (n : ℕ) (s : Vertices) → s ≡ set_below p n → p n ≡ true → insert s n ≡ set_below p (n + 1)
below_more p n s e h = ap (λ t. insert t n) e ∙ sym (below_next p n true h)

pub below_same : (p : ℕ → Bool) (n : ℕ) (s : Vertices) → s ≡ set_below p n → p n ≡ false → s ≡ set_below p (n + 1)
below_same p n s e h = e ∙ sym (below_next p n false h)

-- ---- all parts at once

-- the vertices below n of each of so many parts
pub record AreBelow (g : GraphParts) (parts n : ℕ) (sets : List Vertices) : Type 0 where
  pub count : length sets ≡ parts
  pub each : (k : ℕ) → k < parts → (other : Vertices) → get_or sets k other ≡ set_below (λ v. eqb (part_of g parts v) k) n

pub no_vertex_yet : (g : GraphParts) (parts : ℕ) (none : Vertices) (sets : List Vertices) → none ≡ empty → sets ≡ replicate parts none → AreBelow g parts 0 sets
unfolding set_below
no_vertex_yet g parts none sets is_empty e = record {
  count = ap length e ∙ length-replicate parts none;
  each = λ k less other. ap (λ xs. get_or xs k other) e ∙ get_or-replicate parts k none other less ∙ is_empty;
}

-- vertex n joins the set of its part, which is part k
pub vertex_joins : (g : GraphParts) (parts n k : ℕ) (sets : List Vertices) (old new : Vertices) → AreBelow g parts n sets → k ≡ part_of g parts n → k < parts → old ≡ get_or sets k old → new ≡ insert old n
    → AreBelow g parts (n + 1) (set sets k new)
vertex_joins g parts n k sets old new before is less found joined = record {
  count = length-set sets k new ∙ before.count;
  each = λ j below other. elim (same_or_not j k) [
    | inl e ↦ subst (λ i. get_or (set sets k new) i other ≡ set_below (λ v. eqb (part_of g parts v) i) (n + 1)) (sym e)
        (get_or-set_same sets k new other (let many = before.count in omega arith) ∙ joined
        ∙ below_more (λ v. eqb (part_of g parts v) k) n old (found ∙ before.each k less old) (own (part_of g parts n) k is))
    | inr differs ↦ get_or-set_other sets k j new other differs ∙ before.each j below other
        ∙ below_same (λ v. eqb (part_of g parts v) j) n _ refl (another (part_of g parts n) j k is differs)
  ];
}
  where
    same_or_not : (x u : ℕ) → (x ≡ u) ⊎ (x ≡ u → ⊥)
    same_or_not x u = grind arith

    own : (q k : ℕ) → k ≡ q → eqb q k ≡ true
    own q k e = grind (arith, nat_tests)

    another : (q j k : ℕ) → k ≡ q → (j ≡ k → ⊥) → eqb q j ≡ false
    another q j k e differs = grind (arith, nat_tests)

pub all_joined : (g : GraphParts) (parts n : ℕ) (sets : List Vertices) → AreBelow g parts n sets → n ≡ length g.nodes → ArePartSets g parts sets
all_joined g parts n sets are e = record {
  count = are.count;
  each = λ k less other. are.each k less other ∙ ap (set_below (λ v. eqb (part_of g parts v) k)) e;
}

-- ---- readers

module _ (g : GraphParts) (u : ℕ) where
  abbrev reads : ℕ → Bool
  reads w = contains (preds_of g w) u

  -- a vertex that reads another is no input
  pub reader_is_no_input : IsGraph g → (w : ℕ) → u ∈ preds_of g w → length g.names ≤ w
  reader_is_no_input valid w here = elim (compared w (length g.names)) [
    | inl input ↦ absurd (clash (contains (preds_of g w) u) here (ap (λ t. contains t u) ((IsDag-dag_of g valid).inputs_have_no_preds w (is_input input)) ∙ has_empty u))
    | inr other ↦ other
  ]
    where
      compared : (x w : ℕ) → (x < w) ⊎ (w ≤ x)
      compared x w = grind arith

      clash : (b : Bool) → b ≡ true → b ≡ false → ⊥
      clash b a c = cc

      is_input : w < length g.names → w ∈ inputs_of g
      is_input input = ap (λ t. contains t w) (sym (inputs_of-first g valid)) ∙ has_set_below (λ v. true) (length g.names) w ∙ low input
        where
          low : w < length g.names → (ltb w (length g.names) && true) ≡ true
          low input = grind (arith, nat_tests)

  pub first_found : IsGraph g → (w : ℕ) → w < length g.nodes → ((x : ℕ) → x < w → u ∉ preds_of g x) → u ∈ preds_of g w → IsFirstReader g u w
  first_found valid w less none here = record {
    others = rising (length g.nodes) (remove (set_below reads (length g.nodes)) w);
    first = rising-least (set_below reads (length g.nodes)) w (length g.nodes) (record { member = in_readers; least = λ x h. least_reader x h }) less;
    no_input = reader_is_no_input valid w here;
    vertex = less;
  }
    where
      in_readers : w ∈ set_below reads (length g.nodes)
      in_readers = has_set_below reads (length g.nodes) w ∙ both (contains (preds_of g w) u) here
        where
          both : (b : Bool) → b ≡ true → (ltb w (length g.nodes) && b) ≡ true
          both b e = grind (arith, nat_tests)

      clash : (b : Bool) → b ≡ true → b ≡ false → ⊥
      clash b a c = cc

      least_reader : (x : ℕ) → x ∈ set_below reads (length g.nodes) → w ≤ x
      least_reader x h = elim (compared x w) [
        | inl lower ↦ absurd (clash (reads x) (second (ltb x (length g.nodes)) (reads x) (sym (has_set_below reads (length g.nodes) x) ∙ h)) (none x lower))
        | inr not_lower ↦ not_lower
      ]
        where
          compared : (x w : ℕ) → (x < w) ⊎ (w ≤ x)
          compared x w = grind arith

          second : (a b : Bool) → (a && b) ≡ true → b ≡ true
          second a b e = grind (arith, nat_tests)

  pub none_found : (w : ℕ) → length g.nodes ≤ w → ((x : ℕ) → x < w → u ∉ preds_of g x) → rising_readers g u ≡ []
  none_found w all none = ap (rising (length g.nodes)) (same (set_below reads (length g.nodes)) empty (λ x. has_set_below reads (length g.nodes) x ∙ by_side x ∙ sym (has_empty x))) ∙ rising-empty (length g.nodes)
    where
      by_side : (x : ℕ) → (ltb x (length g.nodes) && reads x) ≡ false
      by_side x = elim (compared x w) [
        | inl lower ↦ neither (ltb x (length g.nodes)) (reads x) (none x lower)
        | inr past ↦ outside (reads x) past
      ]
        where
          compared : (x w : ℕ) → (x < w) ⊎ (w ≤ x)
          compared x w = grind arith

          neither : (a b : Bool) → b ≡ false → (a && b) ≡ false
          neither a b e = grind (arith, nat_tests)

          outside : (b : Bool) → w ≤ x → (ltb x (length g.nodes) && b) ≡ false
          outside b past = grind (arith, nat_tests)

-- ---- lists

pub kept_more : {A : Type 0} (s : Vertices) (xs : List A) (n : ℕ) (x : A) → slice_get xs n ≡ Some x → n < length xs → n ∈ s → kept s 0 (take (n + 1) xs) ≡ kept s 0 (take n xs) ++ x ∷ []
kept_more s xs n x e less h = ap (λ k. kept s 0 (take k xs)) (next n) ∙ kept_next s xs n x e less ∙ ap (λ b. kept s 0 (take n xs) ++ cond b (x ∷ []) []) h

pub kept_same : {A : Type 0} (s : Vertices) (xs : List A) (n : ℕ) → n < length xs → n ∉ s → kept s 0 (take (n + 1) xs) ≡ kept s 0 (take n xs)
kept_same s xs n less h =
    let at = get_at xs n less in
    ap (λ k. kept s 0 (take k xs)) (next n) ∙ kept_next s xs n at.0 at.1 less ∙ ap (λ b. kept s 0 (take n xs) ++ cond b (at.0 ∷ []) []) h ∙ append-nil (kept s 0 (take n xs))

outputs_by : (b : Bool) (o : Output) (xs ys : List Output) → cond b (o ∷ (xs ++ ys)) (xs ++ ys) ≡ cond b (o ∷ xs) xs ++ ys
outputs_by true o xs ys = refl
outputs_by false o xs ys = refl

outputs_append : (s : Vertices) (xs ys : List Output) → cut_outputs s (xs ++ ys) ≡ cut_outputs s xs ++ cut_outputs s ys
outputs_append s [] ys = refl
outputs_append s (o ∷ os) ys =
    ap (λ ls. cond (contains s o.vertex) (record { label = o.label; vertex = place s o.vertex } ∷ ls) ls) (outputs_append s os ys)
    ∙ outputs_by (contains s o.vertex) (record { label = o.label; vertex = place s o.vertex }) (cut_outputs s os) (cut_outputs s ys)

pub outputs_more : (s : Vertices) (os : List Output) (i : ℕ) (o cut : Output) → i < length os → o ≡ get_or os i o → o.vertex ∈ s → cut ≡ record { label = o.label; vertex = place s o.vertex }
    → cut_outputs s (take (i + 1) os) ≡ cut_outputs s (take i os) ++ cut ∷ []
outputs_more s os i o cut less is h made =
    ap (cut_outputs s) (take_more os i o less ∙ ap (λ x. take i os ++ x ∷ []) (sym is)) ∙ outputs_append s (take i os) (o ∷ [])
    ∙ ap (λ b. cut_outputs s (take i os) ++ cond b (record { label = o.label; vertex = place s o.vertex } ∷ []) []) h
    ∙ ap (λ x. cut_outputs s (take i os) ++ x ∷ []) (sym made)

pub outputs_same : (s : Vertices) (os : List Output) (i : ℕ) (o : Output) → i < length os → o ≡ get_or os i o → o.vertex ∉ s → cut_outputs s (take (i + 1) os) ≡ cut_outputs s (take i os)
outputs_same s os i o less is h =
    ap (cut_outputs s) (take_more os i o less ∙ ap (λ x. take i os ++ x ∷ []) (sym is)) ∙ outputs_append s (take i os) (o ∷ [])
    ∙ ap (λ b. cut_outputs s (take i os) ++ cond b (record { label = o.label; vertex = place s o.vertex } ∷ []) []) h
    ∙ append-nil (cut_outputs s (take i os))

abbrev IsOutputBelow : ℕ → Output → Type 0
IsOutputBelow n o = o.vertex < n

-- ---- elements

pub names_more : (s : Vertices) (xs : List (List ℕ)) (n : ℕ) (x copy : List ℕ) → n < length xs → x ≡ get_or xs n x → copy ≡ x → n ∈ s → kept s 0 (take (n + 1) xs) ≡ kept s 0 (take n xs) ++ copy ∷ []
names_more s xs n x copy less is same_text h =
    kept_more s xs n (get_or xs n x) (slice_get-get_or xs n x less) less h ∙ ap (λ y. kept s 0 (take n xs) ++ y ∷ []) (sym is ∙ sym same_text)

pub nodes_more : (s : Vertices) (xs : List Node) (n : ℕ) (d cut : Node) → n < length xs → cut ≡ cut_node s (get_or xs n d) → n ∈ s
    → map (cut_node s) (kept s 0 (take (n + 1) xs)) ≡ map (cut_node s) (kept s 0 (take n xs)) ++ cut ∷ []
nodes_more s xs n d cut less is h =
    ap (map (cut_node s)) (kept_more s xs n (get_or xs n d) (slice_get-get_or xs n d less) less h)
    ∙ map-append (cut_node s) (kept s 0 (take n xs)) (get_or xs n d ∷ []) ∙ ap (λ y. map (cut_node s) (kept s 0 (take n xs)) ++ y ∷ []) (sym is)

pub nodes_same : (s : Vertices) (xs : List Node) (n : ℕ) → n < length xs → n ∉ s → map (cut_node s) (kept s 0 (take (n + 1) xs)) ≡ map (cut_node s) (kept s 0 (take n xs))
nodes_same s xs n less h = ap (map (cut_node s)) (kept_same s xs n less h)

-- ---- operands

zero_below : (v : ℕ) (a : Operand) → a ≡ Const (pos 0) → IsOperandBelow v a
zero_below v a e = subst (IsOperandBelow v) (sym e) tt

operand_weaker : (v n : ℕ) → v ≤ n → (a : Operand) → IsOperandBelow v a → IsOperandBelow n a
operand_weaker v n less (Vertex u) h = omega arith
operand_weaker v n less (Const c) h = tt

-- all places of a node's operands hold constants or vertices below 256
pub args_below : (inputs v : ℕ) (n : Node) → IsNode inputs v n → v ≤ 256 → All (IsOperandBelow 256) n.args
args_below inputs v n is small =
    subst (All (IsOperandBelow 256)) (take-append-drop (arity_of n.op) n.args)
    (All-append (IsOperandBelow 256) (take (arity_of n.op) n.args) (drop (arity_of n.op) n.args)
    (All-weaker (IsOperandBelow v) (IsOperandBelow 256) (operand_weaker v 256 small) (take (arity_of n.op) n.args) is.below)
    (All-weaker (λ a. a ≡ Const (pos 0)) (IsOperandBelow 256) (zero_below 256) (drop (arity_of n.op) n.args) is.rest))

pub node_below : (g : GraphParts) → IsGraph g → (xs : List Node) → xs ≡ g.nodes → (v : ℕ) (d : Node) → v < length xs → All (IsOperandBelow 256) (get_or xs v d).args
node_below g valid xs e v d less =
    args_below (length g.names) v (get_or xs v d) (valid.nodes v (get_or xs v d) (ap (λ ys. slice_get ys v) (sym e) ∙ slice_get-get_or xs v d less))
    (let many = ap length e in let small = valid.small in omega arith)

pub output_small : (g : GraphParts) → IsGraph g → (i : ℕ) (o : Output) (os : List Output) → os ≡ g.outputs → i < length os → o ≡ get_or os i o → o.vertex < 256
output_small g valid i o os e less is =
    let below : All (IsOutputBelow (length g.nodes)) os = subst (All (IsOutputBelow (length g.nodes))) (sym e) valid.outputs in
    let one : (get_or os i o).vertex < length g.nodes = below i o less in
    let at = ap (λ x. x.vertex) is in
    let small = valid.small in
    omega arith
