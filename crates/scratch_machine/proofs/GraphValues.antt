-- The vertices of a graph have values: they are found one after another, along the nodes. So the runs of a code have ends.
use Rattle.std.proofs.Common.{◌≡◌, ℕ, zero, suc, ◌+◌, ◌-◌, ◌<◌, ℤ, pos, Some, List, [], ◌∷◌, ◌++◌, length, map, drop, get_or, refl, sym, ap, ◌∙◌, subst, inl, inr, arith}
use Rattle.std.specs.Prelude.{slice_index_or}
use Rattle.std.specs.List.{All}
use Rattle.std.proofs.lemmas.Bool.{cases_lt}
use Rattle.std.proofs.lemmas.Option.{slice_get-get_or, slice_get_within, get_or_from_slice_get}
use Rattle.std.proofs.lemmas.List.{get_or_append_left, get_or_push, length_push, get_or-drop, length-drop}
use Rattle.std.proofs.lemmas.List.Elements.{All-head, All-tail}
use Rattle.comp_graph.specs.declared.node.Operand.{Operand}
use Rattle.comp_graph.specs.declared.node.Operand.TheVariants.{Vertex, Const}
use Rattle.comp_graph.specs.declared.node.Node.{Node}
use Rattle.comp_graph.specs.Graphs.{GraphParts, IsGraph, operands_of, IsOperandBelow}
use Rattle.comp_graph.specs.Operations.{value_at}
use Rattle.scratch_machine.specs.Values.{AreValues, operand_value, ValuesExist}
use Rattle.scratch_machine.specs.CodePlays.{CodesRun}
use Rattle.scratch_machine.proofs.Runs.{code_computes_outputs}

-- the value at a place, and 0 past the end
abbrev at : List ℤ → ℕ → ℤ
at known v = slice_index_or known v (pos 0)

-- the value of a node by the known values
abbrev node_value : List ℤ → Node → ℤ
node_value known n = value_at n.op (map (operand_value (at known)) (operands_of n))

-- the known values, and after them those of the nodes
abbrev grown : List ℤ → List Node → List ℤ
grown known [] = known
grown known (n ∷ ns) = grown (known ++ node_value known n ∷ []) ns

-- the values of a graph's vertices, where the inputs have these
abbrev values_of : GraphParts → List ℤ → ℕ → ℤ
values_of g inputs = at (grown inputs (drop (length g.names) g.nodes))

kept : (ns : List Node) (known : List ℤ) (k : ℕ) → k < length known → at (grown known ns) k ≡ at known k
kept [] known k h = refl
kept (n ∷ ns) known k h =
    kept ns (known ++ node_value known n ∷ []) k (omega (arith, length_push known (node_value known n)))
    ∙ get_or_append_left known (node_value known n ∷ []) (pos 0) k h

same_operands : (f h : ℕ → ℤ) (b : ℕ) (xs : List Operand) → All (IsOperandBelow b) xs → ((u : ℕ) → u < b → f u ≡ h u) → map (operand_value f) xs ≡ map (operand_value h) xs
same_operands f h b [] all e = refl
same_operands f h b (Vertex u ∷ xs) all e =
    let first = e u (All-head (IsOperandBelow b) (Vertex u) xs all) in
    let rest = same_operands f h b xs (All-tail (IsOperandBelow b) (Vertex u) xs all) e in
    λ i. first i ∷ rest i
same_operands f h b (Const c ∷ xs) all e = ap (λ ys. c ∷ ys) (same_operands f h b xs (All-tail (IsOperandBelow b) (Const c) xs all) e)

-- each node's value is that of its operation at the values that were found
grows : (ns : List Node) (known : List ℤ) (j : ℕ) (n : Node) → j < length ns → get_or ns j n ≡ n → All (IsOperandBelow (length known + j)) (operands_of n)
    → at (grown known ns) (length known + j) ≡ node_value (grown known ns) n
grows [] known j n h e below = absurd (omega arith)
grows (m ∷ ns) known zero n h e below =
    let first : length known + 0 ≡ length known = omega arith in
    ap (at (grown known (m ∷ ns))) first
    ∙ kept ns (known ++ node_value known m ∷ []) (length known) (omega (arith, length_push known (node_value known m)))
    ∙ get_or_push known (node_value known m) (pos 0) (length known) refl
    ∙ ap (node_value known) e
    ∙ ap (value_at n.op) (same_operands (at known) (at (grown known (m ∷ ns))) (length known + 0) (operands_of n) below (λ u l. sym (kept (m ∷ ns) known u (omega arith))))
grows (m ∷ ns) known (suc j) n h e below =
    let more = length_push known (node_value known m) in
    let same : length (known ++ node_value known m ∷ []) + j ≡ length known + suc j = omega arith in
    ap (at (grown known (m ∷ ns))) (sym same)
    ∙ grows ns (known ++ node_value known m ∷ []) j n (omega arith) e (subst (λ b. All (IsOperandBelow b) (operands_of n)) (sym same) below)

are_values : (g : GraphParts) → IsGraph g → (inputs : List ℤ) → length inputs ≡ length g.names → AreValues g inputs (values_of g inputs)
are_values g is inputs same = record {
  given = λ k h. slice_get-get_or inputs k (pos 0) h ∙ ap Some (sym (kept (drop (length g.names) g.nodes) inputs k h));
  computed = λ v n e ne.
      let within = slice_get_within g.nodes v n e in
      elim (cases_lt v (length g.names)) [
        | inl l ↦ absurd (ne ((is.nodes v n e).input_first.1 l))
        | inr late ↦
            let whole : length inputs + (v - length g.names) ≡ v = omega arith in
            let there : length g.names + (v - length g.names) ≡ v = omega arith in
            ap (values_of g inputs) (sym whole)
            ∙ grows (drop (length g.names) g.nodes) inputs (v - length g.names) n (omega (arith, length-drop (length g.names) g.nodes))
            (get_or-drop (length g.names) g.nodes (v - length g.names) n ∙ ap (λ k. get_or g.nodes k n) there ∙ get_or_from_slice_get g.nodes v n n e)
            (subst (λ b. All (IsOperandBelow b) (operands_of n)) (sym whole) (is.nodes v n e).below)
      ];
}

pub values_exist : ValuesExist
values_exist g is inputs same = (values_of g inputs, are_values g is inputs same)

-- so a code that plays moves runs to its end on each list of as many values as there are inputs
pub codes_run : CodesRun
codes_run g c ms is valid plays inputs same =
    let values = are_values g is inputs same in
    record { value = values_of g inputs; values = values; runs = code_computes_outputs g c ms valid plays inputs same (values_of g inputs) values }
