-- The slot that is taken is the lowest free one.
use Rattle.std.proofs.Common.{◌<◌, length, sym, ap, ◌∙◌, rules, arith}
use Rattle.comp_graph.specs.Vertices.{IsLeast}
use Rattle.slot_alloc.specs.Emitted.{slot_given_at}
use Rattle.slot_alloc.specs.Emitters.{layout_of}
use Rattle.slot_alloc.proofs.Placing.{IsLeast-is_lowest, set_changed}
use Rattle.slot_alloc.proofs.emitter.Emitter.place.Goals as goal

pub returns-clause-slot : goal.returns-clause-slot
returns-clause-slot c =
    let least : IsLeast c.args.self.now.free c.in-Some.slot = search rules in
    sym (IsLeast-is_lowest c.args.self.now.free c.in-Some.slot least (omega (arith, c.requires.below.below c.in-Some.slot least.member)))

pub returns-clause-layout : goal.returns-clause-layout
returns-clause-layout c =
    let least : IsLeast c.args.self.now.free c.in-Some.slot = search rules in
    let lowest_is = IsLeast-is_lowest c.args.self.now.free c.in-Some.slot least (omega (arith, c.requires.below.below c.in-Some.slot least.member)) in
    let within : c.args.v < length c.args.self.now.slot_of = search rules in
    (λ i. record { free = c.without-self.ensures i; slot_of = λ q. set_changed c.args.self.now.slot_of c.args.v c.in-Some.slot within q i; word_of = (layout_of c.args.self.now).word_of; words = c.args.self.now.words })
    ∙ ap (slot_given_at (layout_of c.args.self.now) c.args.v) (sym lowest_is)
