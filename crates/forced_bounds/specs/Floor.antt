-- The floor of a position: what every play from it that finishes has still to pay.
use Rattle.std.specs.Prelude.{ℕ, zero, suc, ◌+◌, ◌*◌, Bool, cond, not, ◌&&◌, ◌||◌, ◌==◌, List, [], ◌∷◌, length}
use Rattle.std.specs.List.{list_any}
use Rattle.std.specs.FinSet as set
use Rattle.comp_graph.specs.Vertices.{Vertices, any_below, set_below, size}
use Rattle.comp_graph.specs.Dags.{Dag}
use Rattle.comp_graph.specs.Games.{PebbleGame}
use Rattle.pebble_rules.specs.declared.position.Position.{Position}

-- a path of at most k edges leads from v to a target, and none of its vertices is in `avoid`
abbrev pub leads_outside : Dag → Vertices → Vertices → ℕ → ℕ → Bool
leads_outside g avoid targets zero v = not (set.contains avoid v) && set.contains targets v
leads_outside g avoid targets (suc k) v =
    not (set.contains avoid v)
    && (set.contains targets v || any_below g.count (λ w. set.contains (g.preds w) v && leads_outside g avoid targets k w))

-- a path outside `avoid` leads from v to a target: no path has as many edges as there are vertices
abbrev pub reaches : Dag → Vertices → Vertices → ℕ → Bool
reaches g avoid targets v = leads_outside g avoid targets g.count v

abbrev pub only : ℕ → Vertices
only v = set.insert set.empty v

-- the vertices that have no pebble and from which a path without pebbles leads to an output: each has still to be worked on
abbrev pub needed : Dag → Position → Vertices
needed g p = set_below (reaches g (set.union p.red p.blue) g.outputs) g.count

-- these, and their predecessors that are not red: each has still to become red
abbrev pub wanted : Dag → Position → Vertices
wanted g p = set_below (λ u.
    set.contains (needed g p) u
    || (not (set.contains p.red u) && any_below g.count (λ v. set.contains (needed g p) v && set.contains (g.preds v) u))) g.count

-- the vertices that can become red without a load: no path of vertices that are not red leads to them from an input
abbrev pub computable : Dag → Position → Vertices
computable g p = set_below (λ v. not (any_below g.count (λ u. set.contains g.inputs u && reaches g p.red (only v) u))) g.count

-- the vertices from which a path of vertices that cannot become red without a load leads to v
abbrev pub cone : Dag → Position → ℕ → Vertices
cone g p v = set_below (reaches g (computable g p) (only v)) g.count

-- the two sets have a common member
abbrev pub meets : Vertices → Vertices → Bool
meets s t = not (size (set.intersection s t) == 0)

-- v must become red, needs a load, and its cone meets no cone of these vertices
abbrev pub is_apart : Dag → Position → ℕ → List ℕ → Bool
is_apart g p v ts =
    set.contains (set.difference (wanted g p) (computable g p)) v && not (list_any (λ t. meets (cone g p v) (cone g p t)) ts)

-- the vertices below n, gone through in rising order: one is taken if it is apart from those taken before
abbrev pub taken : Dag → Position → ℕ → List ℕ
taken g p zero = []
taken g p (suc v) = cond (is_apart g p v (taken g p v)) (v ∷ taken g p v) (taken g p v)

-- a store of each output that is not blue, and a load for each vertex taken
unfoldable pub floor : PebbleGame → Position → ℕ
floor g p = g.store * size (set.difference g.dag.outputs p.blue) + g.load * length (taken g.dag p g.dag.count)
