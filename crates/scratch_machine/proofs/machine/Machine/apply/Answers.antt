-- The operands by their places: a fault at the first that is empty, and else the operation's value in its slot.
use Rattle.std.proofs.Common.{◌≡◌, ◌<◌, length, Ok, sym, ◌∙◌, rules, w64, to_z, of_z}
use Rattle.comp_graph.specs.Operations.{value_of}
use Rattle.scratch_machine.specs.Exec.{cells_of, machine_of}
use Rattle.scratch_machine.specs.Cells.{put}
use Rattle.scratch_machine.proofs.Execs.{cells_of-set, fails_at_first, fails_at_second, fails_at_third, reads_all}
use Rattle.scratch_machine.proofs.machine.Machine.apply.Goals as goal

pub returns-in_default : goal.returns-in_default
returns-in_default c = λ at. fails_at_first at (machine_of c.args.self.now) c.args.op c.args.slot c.args.args c.requires.three c.requires.no_input c.requires.rest (sym c.operand.ensures ∙ c.in_default.is)

pub returns-in_default-operand : goal.returns-in_default-operand
returns-in_default-operand c = λ at. fails_at_second at (machine_of c.args.self.now) c.args.op c.args.slot c.args.args c.requires.three c.requires.no_input c.requires.rest _
    (sym c.operand.ensures ∙ c.in-Some.is) (sym c.operand-2.ensures ∙ c.in_default-operand.is)

pub returns-in_default-operand-2 : goal.returns-in_default-operand-2
returns-in_default-operand-2 c = λ at. fails_at_third at (machine_of c.args.self.now) c.args.op c.args.slot c.args.args c.requires.three c.requires.no_input c.requires.rest _ _
    (sym c.operand.ensures ∙ c.in-Some.is) (sym c.operand-2.ensures ∙ c.in-Some-operand.is) (sym c.operand-3.ensures ∙ c.in_default-operand-2.is)

pub returns : goal.returns
returns c = λ at.
    let m = c.args.self.now in
    let a : to_z w64 (of_z w64 c.in-Some.a) ≡ c.in-Some.a = search rules in
    let b : to_z w64 (of_z w64 c.in-Some-operand.b) ≡ c.in-Some-operand.b = search rules in
    let d : to_z w64 (of_z w64 c.in-Some-operand-2.c) ≡ c.in-Some-operand-2.c = search rules in
    let r : to_z w64 (of_z w64 c.value.result) ≡ c.value.result = search rules in
    let e : value_of c.args.op c.in-Some.a c.in-Some-operand.b c.in-Some-operand-2.c ≡ to_z w64 (of_z w64 c.value.result)
    = (λ i. value_of c.args.op (sym a i) (sym b i) (sym d i)) ∙ sym c.value.ensures ∙ sym r in
    let within : c.args.slot < length m.slots = search rules in
    reads_all at (machine_of m) c.args.op c.args.slot c.args.args c.requires.three c.requires.no_input c.requires.rest _ _ _
    (sym c.operand.ensures ∙ c.in-Some.is) (sym c.operand-2.ensures ∙ c.in-Some-operand.is) (sym c.operand-3.ensures ∙ c.in-Some-operand-2.is)
    ∙ (λ i. Ok (record { slots = put (cells_of m.slots) c.args.slot (e i); words = cells_of m.words; loads = m.loads; stores = m.stores }))
    ∙ (λ i. Ok (record { slots = λ q. sym (cells_of-set m.slots c.args.slot (to_z w64 (of_z w64 c.value.result)) within q) i; words = cells_of m.words; loads = m.loads; stores = m.stores }))
