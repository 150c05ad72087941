use Rattle.std.proofs.Common.{ap, ◌∙◌, sym, refl, subst, suc, true, inl, ◌≡◌, ◌+◌, ◌<◌, arith}
use Rattle.std.specs.FinSet as set
use Rattle.comp_graph.specs.Vertices.{IsWithin, IsOutside}
use Rattle.comp_graph.specs.Graphs.{dag_of, vertices_of}
use Rattle.comp_graph.proofs.GraphLaws.{IsDag-dag_of}
use Rattle.forced_bounds.proofs.SpreadLaws.{outside_part}
use Rattle.forced_bounds.proofs.Taken.{Why, why_reads, input_below, no_input_above, taken_input, needs_load, taken_start, taken_at, taken_red, taken_computed, taken_reads, taken_met, taken_apart, taken_unwanted, taken_all, taken_so_far}
use Rattle.forced_bounds.proofs.evaluating.forced_loads.Goals.{then-has-2, else-has-2, then-all_in, else-all_in+then-some_in, else-all_in+else-some_in+then-has-3+in-Some, else-all_in+else-some_in+then-has-3+in-None, else-all_in+else-some_in+else-has-3}
use Rattle.forced_bounds.proofs.evaluating.forced_loads.Goals as goal

pub loop-v-init : goal.loop-v-init
loop-v-init c = taken_start (dag_of c.args.graph.now) c.args.p.now c.args.p.now.red c.empty-met.result refl c.empty-met.ensures

pub loop-v-preserved-then-has : goal.loop-v-preserved-then-has
loop-v-preserved-then-has c =
    let g = dag_of c.args.graph.now in
    taken_at g c.args.p.now (suc c.loop-v.v) (c.loop-v.v + 1) (omega arith) _ _ refl _ _ refl _ _ refl
    (taken_red g c.args.p.now c.loop-v.v c.loop-v.computed c.loop-v.met c.loop-v.taken (let few = c.wanted-targets.ensures.top in let less = c.loop-v-test.true in omega arith) c.loop-v.invariant (sym c.has.ensures.value ∙ c.if-has.true))

pub loop-v-preserved-then-v-inputs : goal.loop-v-preserved-then-v-inputs
loop-v-preserved-then-v-inputs c =
    let g = dag_of c.args.graph.now in
    let p = c.args.p.now in
    let v = c.loop-v.v in
    let computed = c.loop-v.computed in
    let met = c.loop-v.met in
    let taken = c.loop-v.taken in
    let dag = IsDag-dag_of c.args.graph.now c.wanted-targets.ensures.valid in
    let below : v < g.count = let few = c.wanted-targets.ensures.top in let less = c.loop-v-test.true in omega arith in
    let out = sym c.has.ensures.value ∙ c.if-has.false in
    let source = input_below c.args.graph.now c.inputs-inputs.ensures.valid v c.inputs-inputs.result c.inputs-inputs.ensures.value c.if-v-inputs.true in
    let next : suc v ≡ v + 1 = omega arith in
    let wants = ap (λ s. set.contains s v) (sym c.wanted-targets.ensures.value) ∙ sym c.has-then-v-inputs.ensures.value in
    elim c.if-has-2.branch [
      | then-has-2 w ↦
          taken_at g p (suc v) (v + 1) next _ _ refl _ _ (sym (w.met-is ∙ w.with-met.ensures)) _ _ (sym w.taken-is)
          (taken_input g dag p v computed met taken below c.loop-v.invariant out source (wants ∙ w.if-has-2.true))
      | else-has-2 w ↦
          taken_at g p (suc v) (v + 1) next _ _ refl _ _ (sym w.met-is) _ _ (sym w.taken-is)
          (taken_unwanted g p v computed met taken c.loop-v.invariant out (needs_load g dag p v computed met taken below c.loop-v.invariant out (inl source)) (wants ∙ w.if-has-2.false))
    ]

pub free_cone-requires-clause-apart : goal.free_cone-requires-clause-apart
free_cone-requires-clause-apart c =
    outside_part c.preds.result c.loop-v.computed c.minus-first.result c.loop-v.met c.minus-first.ensures
    (subst (λ s. IsOutside s c.loop-v.met) (c.read_by-operands.ensures.preds ∙ sym c.preds.ensures) (c.some_in.ensures.none c.if-some_in.false))

pub loop-v-preserved : goal.loop-v-preserved
loop-v-preserved c =
    let g = dag_of c.args.graph.now in
    let p = c.args.p.now in
    let v = c.loop-v.v in
    let computed = c.loop-v.computed in
    let met = c.loop-v.met in
    let taken = c.loop-v.taken in
    let dag = IsDag-dag_of c.args.graph.now c.wanted-targets.ensures.valid in
    let below : v < g.count = let few = c.wanted-targets.ensures.top in let less = c.loop-v-test.true in omega arith in
    let out = sym c.has.ensures.value ∙ c.if-has.false in
    let next : suc v ≡ v + 1 = omega arith in
    elim c.if-all_in.branch [
      | then-all_in w ↦
          let within = subst (λ s. IsWithin s computed) c.read_by-operands.ensures.preds (c.all_in.ensures.within w.if-all_in.true) in
          let source = no_input_above c.args.graph.now c.inputs-inputs.ensures.valid v c.inputs-inputs.result c.inputs-inputs.ensures.value c.if-v-inputs.false in
          taken_at g p (suc v) (v + 1) next _ _ (sym (w.computed-is ∙ w.with-computed.ensures)) _ _ (sym w.met-is) _ _ (sym w.taken-is)
          (taken_computed g dag p v computed met taken below c.loop-v.invariant source within)
      | else-all_in+then-some_in w ↦
          let why : Why g computed v = why_reads g computed (vertices_of c.read_by-operands.result.now) v c.all_in.result c.read_by-operands.ensures.preds c.all_in.ensures.outside w.if-all_in.false in
          let far = needs_load g dag p v computed met taken below c.loop-v.invariant out why in
          let shared = w.some_in.ensures.some w.if-some_in.true in
          taken_at g p (suc v) (v + 1) next _ _ (sym w.computed-is) _ _ (sym (w.met-is ∙ w.with-met-then-some_in.ensures)) _ _ (sym w.taken-is)
          (taken_reads g dag p v computed met taken shared.0 below c.loop-v.invariant out far (subst (λ s. set.contains s shared.0 ≡ true) c.read_by-operands.ensures.preds shared.1) shared.2)
      | else-all_in+else-some_in+then-has-3+in-Some w ↦
          let why : Why g computed v = why_reads g computed (vertices_of c.read_by-operands.result.now) v c.all_in.result c.read_by-operands.ensures.preds c.all_in.ensures.outside w.if-all_in.false in
          let far = needs_load g dag p v computed met taken below c.loop-v.invariant out why in
          let want = ap (λ s. set.contains s v) (sym c.wanted-targets.ensures.value) ∙ sym w.has-else-some_in.ensures.value ∙ w.if-has-3.true in
          taken_at g p (suc v) (v + 1) next _ _ (sym w.computed-is) _ _ (sym (w.met-is ∙ w.union-met.ensures)) _ _ (sym w.taken-is)
          (taken_apart g dag p v computed met w.in-Some.cone taken below c.loop-v.invariant out far want w.in-Some.ensures)
      | else-all_in+else-some_in+then-has-3+in-None w ↦
          let why : Why g computed v = why_reads g computed (vertices_of c.read_by-operands.result.now) v c.all_in.result c.read_by-operands.ensures.preds c.all_in.ensures.outside w.if-all_in.false in
          let far = needs_load g dag p v computed met taken below c.loop-v.invariant out why in
          taken_at g p (suc v) (v + 1) next _ _ (sym w.computed-is) _ _ (sym (w.met-is ∙ w.with-met-in-None.ensures)) _ _ (sym w.taken-is)
          (taken_met g dag p v computed met taken below c.loop-v.invariant out far w.in-None.ensures)
      | else-all_in+else-some_in+else-has-3 w ↦
          let why : Why g computed v = why_reads g computed (vertices_of c.read_by-operands.result.now) v c.all_in.result c.read_by-operands.ensures.preds c.all_in.ensures.outside w.if-all_in.false in
          let far = needs_load g dag p v computed met taken below c.loop-v.invariant out why in
          let unwanted = ap (λ s. set.contains s v) (sym c.wanted-targets.ensures.value) ∙ sym w.has-else-some_in.ensures.value ∙ w.if-has-3.false in
          taken_at g p (suc v) (v + 1) next _ _ (sym w.computed-is) _ _ (sym w.met-is) _ _ (sym w.taken-is)
          (taken_unwanted g p v computed met taken c.loop-v.invariant out far unwanted)
    ]

pub returns-then-enough-load-clause-under : goal.returns-then-enough-load-clause-under
returns-then-enough-load-clause-under c =
    taken_so_far (dag_of c.args.graph.now) c.args.p.now c.loop-v.v c.loop-v.taken c.loop-v.computed c.loop-v.met c.loop-v.invariant
    (let few = c.wanted-targets.ensures.top in let less = c.loop-v-test.true in omega arith)

pub returns-clause-exact : goal.returns-clause-exact
returns-clause-exact c = λ _.
    taken_all (dag_of c.args.graph.now) c.args.p.now c.loop-v.v c.wanted-targets.result.top c.loop-v.taken c.wanted-targets.result.vertices c.loop-v.computed c.loop-v.met c.loop-v.invariant
    (let over = c.loop-v-test.false in omega arith) (let within = c.loop-v.auto.v-end in omega arith) c.wanted-targets.ensures.top c.wanted-targets.ensures.value c.wanted-targets.ensures.below

pub returns-clause-under : goal.returns-clause-under
returns-clause-under c =
    taken_so_far (dag_of c.args.graph.now) c.args.p.now c.loop-v.v c.loop-v.taken c.loop-v.computed c.loop-v.met c.loop-v.invariant
    (let few = c.wanted-targets.ensures.top in let within = c.loop-v.auto.v-end in omega arith)

pub returns-clause-few : goal.returns-clause-few
returns-clause-few c =
    let few = c.loop-v.invariant.few in
    let within = c.loop-v.auto.v-end in
    let top = c.wanted-targets.ensures.top in
    let most = c.wanted-targets.ensures.valid.small in
    omega arith
