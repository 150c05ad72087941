-- Each line that was passed leads on, one that was refused is the bad line, and so is the end where the moves are not whole.
use Rattle.std.proofs.Common.{◌≡◌, length, sym, ap, subst, arith}
use Rattle.std.proofs.lemmas.List.{nil_from_length}
use Rattle.line_texts.specs.Steps.{IsPassed, IsRefused, IsLineAnswer}
use Rattle.play_files.specs.Reading.{state_of, IsNextLine}
use Rattle.play_files.proofs.Reader.{IsReadUpTo, first_line, line_read, bad_line, bad_last, bad_end, all_read}
use Rattle.line_texts.proofs.Fronts.{shorter}
use Rattle.play_files.proofs.reading.read_play.Goals as goal

pub lines-init : goal.lines-init
lines-init c = record {
  few = omega arith;
  up = λ small. subst (λ s. IsReadUpTo c.args.vertices small c.args.text.now c.args.text.now 1 s) (sym c.new-draft.ensures) (first_line c.args.vertices small c.args.text.now);
  small = omega arith;
}

pub returns-in-Ok-false : goal.returns-in-Ok-false
returns-in-Ok-false c =
    let refused : IsRefused (IsNextLine c.args.vertices) (state_of c.lines.draft) c.in-Some.next.now
    = subst (λ b. IsLineAnswer (IsNextLine c.args.vertices) b (state_of c.lines.draft) c.in-Some.next.now (state_of c.read_line.new.self)) c.in-Ok-false.field-0-test c.in-Ok-false.ensures in
    let few = c.lines.invariant.few in
    bad_line c.args.vertices few c.args.text.now c.lines.rest.now c.lines.line (state_of c.lines.draft) (c.lines.invariant.up few) c.in-Some.next.now c.in-Some.after.now c.in-Some.ensures refused

pub lines-preserved : goal.lines-preserved
lines-preserved c =
    let passed : IsPassed (IsNextLine c.args.vertices) (state_of c.lines.draft) c.in-Some.next.now (state_of c.read_line.new.self)
    = subst (λ b. IsLineAnswer (IsNextLine c.args.vertices) b (state_of c.lines.draft) c.in-Some.next.now (state_of c.read_line.new.self)) c.in-Ok-true.field-0-test c.in-Ok-true.ensures in
    let less = shorter c.lines.rest.now c.in-Some.next.now c.in-Some.after.now c.in-Some.ensures in
    let room = c.lines.invariant.small in
    record {
      few = c.lines.invariant.few;
      up = λ small. line_read c.args.vertices small c.args.text.now c.lines.rest.now c.lines.line (state_of c.lines.draft) (c.lines.invariant.up small) c.in-Some.next.now c.in-Some.after.now c.in-Some.ensures (state_of c.read_line.new.self) passed;
      small = omega arith;
    }

pub lines-smaller : goal.lines-smaller
lines-smaller c = shorter c.lines.rest.now c.in-Some.next.now c.in-Some.after.now c.in-Some.ensures

pub returns-then-not-is_empty : goal.returns-then-not-is_empty
returns-then-not-is_empty c =
    let few = c.lines.invariant.few in
    bad_last c.args.vertices few c.args.text.now c.lines.rest.now c.lines.line (state_of c.lines.draft) (c.lines.invariant.up few) c.in_default.ensures
    (λ e. let none = ap length e in let test = c.is_empty.ensures in let out = c.if-not-is_empty.true in absurd (grind arith))

pub returns-then-not-draft : goal.returns-then-not-draft
returns-then-not-draft c =
    let few = c.lines.invariant.few in
    let none : length c.lines.rest.now ≡ 0 = (let test = c.is_empty.ensures in let out = c.if-not-is_empty.false in grind arith) in
    bad_end c.args.vertices few c.args.text.now c.lines.rest.now c.lines.line (state_of c.lines.draft) (c.lines.invariant.up few) (nil_from_length c.lines.rest.now none) (λ end. let out = c.if-not-draft.true in cc)

pub returns : goal.returns
returns c =
    let few = c.lines.invariant.few in
    let none : length c.lines.rest.now ≡ 0 = (let test = c.is_empty.ensures in let out = c.if-not-is_empty.false in grind arith) in
    all_read c.args.vertices few c.args.text.now c.lines.rest.now c.lines.line (state_of c.lines.draft) (c.lines.invariant.up few) (nil_from_length c.lines.rest.now none) c.if-not-draft.false
