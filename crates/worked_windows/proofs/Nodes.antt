-- A list of nodes with an input first and then operations on earlier vertices is a graph's.
use Rattle.std.proofs.Common.{◌≡◌, ℕ, suc, zero, ◌+◌, ◌<◌, ◌≤◌, pos, List, [], ◌∷◌, length, Some, sym, ap, subst, arith, rules}
use Rattle.std.specs.Prelude.{⊤}
use Rattle.std.specs.List.{slice_get, All}
use Rattle.std.proofs.lemmas.List.Elements.{All-nil, All-cons}
use Rattle.comp_graph.specs.declared.operation.Op.TheVariants.{Input, Add, Sub}
use Rattle.comp_graph.specs.declared.node.Operand.TheVariants.{Vertex, Const}
use Rattle.comp_graph.specs.declared.node.Node.{Node}
use Rattle.comp_graph.specs.declared.node.Output.{Output}
use Rattle.comp_graph.specs.Graphs.{GraphParts, IsNode, IsGraph}

abbrev pub input : Node
input = record { op = Input; args = Const (pos 0) ∷ Const (pos 0) ∷ Const (pos 0) ∷ [] }

abbrev pub sum : ℕ → ℕ → Node
sum u v = record { op = Add; args = Vertex u ∷ Vertex v ∷ Const (pos 0) ∷ [] }

abbrev pub less : ℕ → ℕ → Node
less u v = record { op = Sub; args = Vertex u ∷ Vertex v ∷ Const (pos 0) ∷ [] }

pub input_node : (v : ℕ) → v < 4 → IsNode 4 v input
input_node v l = search rules

pub sum_node : (v a b : ℕ) → 4 ≤ v → a < v → b < v → IsNode 4 v (sum a b)
sum_node v a b l m n = search rules

pub less_node : (v a b : ℕ) → 4 ≤ v → a < v → b < v → IsNode 4 v (less a b)
less_node v a b l m n = search rules

-- the nodes from vertex v on
abbrev pub AreNodes : ℕ → List Node → Type 0
AreNodes v [] = ⊤
AreNodes v (n ∷ ns) = IsNode 4 v n × AreNodes (suc v) ns

unwrapped : (x n : Node) → Some x ≡ Some n → x ≡ n
unwrapped x n e = cc

pub node_at : (ns : List Node) (v k : ℕ) (n : Node) → AreNodes v ns → slice_get ns k ≡ Some n → IsNode 4 (v + k) n
node_at [] v k n are e = absurd (grind arith)
node_at (x ∷ ns) v zero n are e = subst (λ (y : Node). IsNode 4 (v + 0) y) (unwrapped x n e) (subst (λ u. IsNode 4 u x) (let z : v ≡ v + 0 = omega arith in z) are.0)
node_at (x ∷ ns) v (suc k) n are e = subst (λ u. IsNode 4 u n) (let z : suc v + k ≡ v + suc k = omega arith in z) (node_at ns (suc v) k n are.1 e)

abbrev pub twelve : List Node
twelve =
    input ∷ input ∷ input ∷ input ∷ sum 0 1 ∷ less 0 1 ∷ sum 2 3 ∷ less 2 3 ∷ sum 4 6 ∷ less 4 6 ∷ sum 5 7 ∷ less 5 7 ∷ []

twelve_are : AreNodes 0 twelve
twelve_are = (
  input_node 0 (omega arith),
  (
    input_node 1 (omega arith),
    (
      input_node 2 (omega arith),
      (
        input_node 3 (omega arith),
        (
          sum_node 4 0 1 (omega arith) (omega arith) (omega arith),
          (
            less_node 5 0 1 (omega arith) (omega arith) (omega arith),
            (
              sum_node 6 2 3 (omega arith) (omega arith) (omega arith),
              (
                less_node 7 2 3 (omega arith) (omega arith) (omega arith),
                (
                  sum_node 8 4 6 (omega arith) (omega arith) (omega arith),
                  (
                    less_node 9 4 6 (omega arith) (omega arith) (omega arith),
                    (
                      sum_node 10 5 7 (omega arith) (omega arith) (omega arith),
                      (
                        less_node 11 5 7 (omega arith) (omega arith) (omega arith),
                        tt,
                      ),
                    ),
                  ),
                ),
              ),
            ),
          ),
        ),
      ),
    ),
  ),
)

abbrev IsBelow : ℕ → Output → Type 0
IsBelow n o = o.vertex < n

pub butterfly_is : (g : GraphParts) → g.nodes ≡ twelve → length g.names ≡ 4 → (a b c d : Output) → g.outputs ≡ a ∷ b ∷ c ∷ d ∷ []
    → a.vertex ≡ 8 → b.vertex ≡ 9 → c.vertex ≡ 10 → d.vertex ≡ 11 → IsGraph g
butterfly_is g nodes names a b c d outputs e f h i =
    let all : length g.nodes ≡ 12 = ap length nodes in
    record {
      small = omega (arith, all);
      named = omega (arith, all, names);
      nodes = λ v n is. subst (λ k. IsNode k v n) (sym names) (subst (λ k. IsNode 4 k n) (let z : 0 + v ≡ v = omega arith in z) (node_at twelve 0 v n twelve_are (subst (λ ns. slice_get ns v ≡ Some n) nodes is)));
      outputs = subst (All (IsBelow (length g.nodes))) (sym outputs)
          (All-cons (IsBelow (length g.nodes)) a (b ∷ c ∷ d ∷ []) (omega (arith, all, e)) (All-cons (IsBelow (length g.nodes)) b (c ∷ d ∷ []) (omega (arith, all, f))
          (All-cons (IsBelow (length g.nodes)) c (d ∷ []) (omega (arith, all, h)) (All-cons (IsBelow (length g.nodes)) d [] (omega (arith, all, i)) (All-nil (IsBelow (length g.nodes)))))));
    }
