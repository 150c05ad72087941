-- Each part is the next of the text's; an empty one is passed over, and a part that is no number leaves the text without a list.
use Rattle.std.proofs.Common.{◌≡◌, [], ◌∷◌, ◌++◌, length, drop, w64, to_z, of_z, sym, ap, ◌∙◌, subst, arith, rules}
use Rattle.std.specs.List.{slice_split}
use Rattle.std.proofs.lemmas.List.{length_push}
use Rattle.std.proofs.lemmas.Bool.{eqb-true, eqb-false}
use Rattle.std.proofs.lemmas.Iterator.Splits.{YieldsList-from_slice_split}
use Rattle.std.proofs.lemmas.Iterator.Consumers.{YieldsList-turn, YieldsList-end}
use Rattle.values_text.specs.Values as spec
use Rattle.values_text.specs.Values.{Spells}
use Rattle.values_text.proofs.Parts.{behind, numbers_of, turn_empty, turn_value, turn_none, turns_end, one_list}
use Rattle.values_text.proofs.read.read_values.Goals as goal

pub loop-word-preserved-then-is_empty : goal.loop-word-preserved-then-is_empty
loop-word-preserved-then-is_empty c =
    let t = YieldsList-turn (YieldsList-from_slice_split _ spec.is_space c.args.text.now (cc) (cc) (cc) (λ x b q k. search rules)) c.loop-word.yielded _ c.loop-word.yielded_by _ _ c.in-Some.word c.in-Some.is c.next.ensures.steps in
    let empty : length c.in-Some.word.now ≡ 0 = eqb-true _ _ (sym c.is_empty.ensures ∙ c.if-is_empty.true) in
    turn_empty (slice_split spec.is_space c.args.text.now) _ _ c.in-Some.word.now c.loop-word.values.items t (length_push c.loop-word.yielded c.in-Some.word) empty c.loop-word.invariant

pub loop-word-preserved : goal.loop-word-preserved
loop-word-preserved c =
    let t = YieldsList-turn (YieldsList-from_slice_split _ spec.is_space c.args.text.now (cc) (cc) (cc) (λ x b q k. search rules)) c.loop-word.yielded _ c.loop-word.yielded_by _ _ c.in-Some.word c.in-Some.is c.next.ensures.steps in
    let filled = eqb-false _ _ (sym c.is_empty.ensures ∙ c.if-is_empty.false) in
    let same : to_z w64 (of_z w64 c.in-Some-number.value) ≡ c.in-Some-number.value = search rules in
    let added = c.in_ok-push-in-Some-number.ensures.items ∙ ap (λ z. c.loop-word.values.items ++ z ∷ []) same in
    let all = slice_split spec.is_space c.args.text.now in
    subst (λ z. behind z (numbers_of (drop (length (c.loop-word.yielded ++ c.in-Some.word ∷ [])) all)) ≡ numbers_of all) (sym added)
    (turn_value all _ _ c.in-Some.word.now c.loop-word.values.items c.in-Some-number.value t (length_push c.loop-word.yielded c.in-Some.word) (omega (arith, filled)) (sym c.number.ensures ∙ c.in-Some-number.is) c.loop-word.invariant)

pub returns-in-None-number-clause-shape : goal.returns-in-None-number-clause-shape
returns-in-None-number-clause-shape c = λ _.
    let t = YieldsList-turn (YieldsList-from_slice_split _ spec.is_space c.args.text.now (cc) (cc) (cc) (λ x b q k. search rules)) c.loop-word.yielded _ c.loop-word.yielded_by _ _ c.in-Some.word c.in-Some.is c.next.ensures.steps in
    let filled = eqb-false _ _ (sym c.is_empty.ensures ∙ c.if-is_empty.false) in
    turn_none c.args.text.now _ c.in-Some.word.now c.loop-word.values.items t (omega (arith, filled)) (sym c.number.ensures ∙ c.in-None-number.is) c.loop-word.invariant

pub returns-clause-spelled : goal.returns-clause-spelled
returns-clause-spelled c =
    let t = YieldsList-end (YieldsList-from_slice_split _ spec.is_space c.args.text.now (cc) (cc) (cc) (λ x b q k. search rules)) c.loop-word.yielded _ c.loop-word.yielded_by _ _ c.in-None.is c.next.ensures.steps in
    turns_end c.args.text.now _ c.loop-word.values.items t.1 c.loop-word.invariant

pub returns-clause-only : goal.returns-clause-only
returns-clause-only c = λ others spelled. one_list c.args.text.now others c.loop-word.values.items spelled (returns-clause-spelled c)
