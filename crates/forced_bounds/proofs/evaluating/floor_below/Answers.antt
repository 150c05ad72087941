use Rattle.std.proofs.Common.{ap, ◌∙◌, length, arith}
use Rattle.std.specs.FinSet as set
use Rattle.comp_graph.specs.Graphs.{dag_of}
use Rattle.comp_graph.specs.Games.{game_of}
use Rattle.forced_bounds.specs.Floor.{taken}
use Rattle.forced_bounds.proofs.Taken.{is_floor, under_floor}
use Rattle.forced_bounds.proofs.evaluating.floor_below.Goals as goal

pub returns-then-enough-least-clause-under : goal.returns-then-enough-least-clause-under
returns-then-enough-least-clause-under c =
    let stores = c.count-stores.ensures.value ∙ ap set.len (c.minus.ensures ∙ ap (λ s. set.difference s c.args.p.now.blue) (c.out_set.ensures ∙ ap (λ g. (dag_of g).outputs) c.graph-graph.ensures.value)) in
    let none = under_floor (game_of c.args.game.now) c.args.p.now c.weights-weights.result.load c.weights-weights.result.store c.count-stores.result 0
    (ap (λ w. w.load) c.weights-weights.ensures.value) (ap (λ w. w.store) c.weights-weights.ensures.value) stores (omega arith) in
    omega (arith, none)

pub returns-clause-exact : goal.returns-clause-exact
returns-clause-exact c = λ less.
    let stores = c.count-stores.ensures.value ∙ ap set.len (c.minus.ensures ∙ ap (λ s. set.difference s c.args.p.now.blue) (c.out_set.ensures ∙ ap (λ g. (dag_of g).outputs) c.graph-graph.ensures.value)) in
    is_floor (game_of c.args.game.now) c.args.p.now c.weights-weights.result.load c.weights-weights.result.store c.count-stores.result c.forced_loads.result
    (ap (λ w. w.load) c.weights-weights.ensures.value) (ap (λ w. w.store) c.weights-weights.ensures.value) stores
    (c.forced_loads.ensures.exact (omega (arith, less)) ∙ ap (λ g. length (taken (dag_of g) c.args.p.now (length g.nodes))) c.graph-graph.ensures.value)

pub returns-clause-under : goal.returns-clause-under
returns-clause-under c =
    let stores = c.count-stores.ensures.value ∙ ap set.len (c.minus.ensures ∙ ap (λ s. set.difference s c.args.p.now.blue) (c.out_set.ensures ∙ ap (λ g. (dag_of g).outputs) c.graph-graph.ensures.value)) in
    let same = ap (λ g. length (taken (dag_of g) c.args.p.now (length g.nodes))) c.graph-graph.ensures.value in
    under_floor (game_of c.args.game.now) c.args.p.now c.weights-weights.result.load c.weights-weights.result.store c.count-stores.result c.forced_loads.result
    (ap (λ w. w.load) c.weights-weights.ensures.value) (ap (λ w. w.store) c.weights-weights.ensures.value) stores
    (omega (arith, c.forced_loads.ensures.under, same))
