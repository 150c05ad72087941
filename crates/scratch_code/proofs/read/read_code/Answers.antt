-- Each line that was passed leads on, one that was refused is the bad line, and so is the end where the code is not whole.
use Rattle.std.proofs.Common.{◌≡◌, length, sym, ap, subst, arith}
use Rattle.std.proofs.lemmas.List.{nil_from_length}
use Rattle.line_texts.specs.Steps.{IsPassed, IsRefused, IsLineAnswer}
use Rattle.line_texts.proofs.Fronts.{shorter}
use Rattle.scratch_code.specs.CodeTexts.{ReadsAs}
use Rattle.scratch_code.specs.Sections.{Step}
use Rattle.scratch_code.specs.Reading.{state_of}
use Rattle.scratch_code.proofs.Reader.{IsReadUpTo, first_line, line_read, bad_line, bad_last, bad_end, all_read, whole_code}
use Rattle.scratch_code.proofs.read.read_code.Goals as goal

pub lines-init : goal.lines-init
lines-init c = record {
  up = subst (λ s. IsReadUpTo c.args.text.now c.args.text.now 1 s) (sym c.new-draft.ensures) (first_line c.args.text.now);
  small = omega arith;
}

pub returns-in-Ok-false : goal.returns-in-Ok-false
returns-in-Ok-false c =
    let refused : IsRefused Step (state_of c.lines.draft) c.in-Some.next.now
    = subst (λ b. IsLineAnswer Step b (state_of c.lines.draft) c.in-Some.next.now (state_of c.read_line.new.self)) c.in-Ok-false.field-0-test c.in-Ok-false.ensures in
    bad_line c.args.text.now c.lines.rest.now c.lines.line (state_of c.lines.draft) c.lines.invariant.up c.in-Some.next.now c.in-Some.after.now c.in-Some.ensures refused

pub lines-preserved : goal.lines-preserved
lines-preserved c =
    let passed : IsPassed Step (state_of c.lines.draft) c.in-Some.next.now (state_of c.read_line.new.self)
    = subst (λ b. IsLineAnswer Step b (state_of c.lines.draft) c.in-Some.next.now (state_of c.read_line.new.self)) c.in-Ok-true.field-0-test c.in-Ok-true.ensures in
    let less = shorter c.lines.rest.now c.in-Some.next.now c.in-Some.after.now c.in-Some.ensures in
    let small = c.lines.invariant.small in
    record {
      up = line_read c.args.text.now c.lines.rest.now c.lines.line (state_of c.lines.draft) c.lines.invariant.up c.in-Some.next.now c.in-Some.after.now c.in-Some.ensures (state_of c.read_line.new.self) passed;
      small = omega arith;
    }

pub lines-smaller : goal.lines-smaller
lines-smaller c = shorter c.lines.rest.now c.in-Some.next.now c.in-Some.after.now c.in-Some.ensures

pub returns-then-not-is_empty : goal.returns-then-not-is_empty
returns-then-not-is_empty c =
    bad_last c.args.text.now c.lines.rest.now c.lines.line (state_of c.lines.draft) c.lines.invariant.up c.in_default.ensures
    (λ e. let none = ap length e in let test = c.is_empty.ensures in let out = c.if-not-is_empty.true in absurd (grind arith))

pub returns-in_default-stage : goal.returns-in_default-stage
returns-in_default-stage c =
    let none : length c.lines.rest.now ≡ 0 = (let test = c.is_empty.ensures in let out = c.if-not-is_empty.false in grind arith) in
    bad_end c.args.text.now c.lines.rest.now c.lines.line (state_of c.lines.draft) c.lines.invariant.up (nil_from_length c.lines.rest.now none) c.in_default-stage.not-Done

pub returns-in-Done : goal.returns-in-Done
returns-in-Done c =
    let none : length c.lines.rest.now ≡ 0 = (let test = c.is_empty.ensures in let out = c.if-not-is_empty.false in grind arith) in
    subst (ReadsAs c.args.text.now) (sym c.new.ensures)
    (all_read c.args.text.now c.lines.rest.now c.lines.line (state_of c.lines.draft) c.lines.invariant.up (nil_from_length c.lines.rest.now none) c.in-Done.is)

pub new-requires : goal.new-requires
new-requires c = (whole_code c.args.text.now c.lines.rest.now c.lines.line (state_of c.lines.draft) c.lines.invariant.up c.in-Done.is).bounds
