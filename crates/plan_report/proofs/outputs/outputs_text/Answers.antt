-- Each pair is the next of the labels and values side by side, and adds its line.
use Rattle.std.proofs.Common.{◌≡◌, ℕ, ℤ, ◌+◌, ◌<◌, List, [], ◌∷◌, ◌++◌, length, map, drop, get_or, sym, ap, ◌∙◌, append_assoc, append-nil, w64, to_z, of_z, arith, rules}
use Rattle.std.specs.List.{zip}
use Rattle.std.proofs.lemmas.List.{at_drop_more, at_drop_all, length_push}
use Rattle.std.proofs.lemmas.Iterator.{YieldsList-from_slice, YieldsList-from_zip}
use Rattle.std.proofs.lemmas.Iterator.Consumers.{YieldsList-turn, YieldsList-end}
use Rattle.line_texts.specs.Lines.{ended}
use Rattle.plan_report.specs.OutputsText.{value_line}
use Rattle.plan_report.proofs.outputs.outputs_text.Goals as goal

abbrev pair_line : List ℕ × ℤ → List ℕ
pair_line p = value_line p.0 p.1

-- the text of pairs
abbrev pairs_text : List (List ℕ × ℤ) → List ℕ
pairs_text pairs = ended (map pair_line pairs)

more : (pairs : List (List ℕ × ℤ)) (n m : ℕ) (p : List ℕ × ℤ) (before after whole : List ℕ) → (n < length pairs) × (p ≡ get_or pairs n p) → m ≡ n + 1
    → after ≡ before ++ (pair_line p ++ 10 ∷ []) → before ++ pairs_text (drop n pairs) ≡ whole → after ++ pairs_text (drop m pairs) ≡ whole
more pairs n m p before after whole h next added is =
    let rest = pairs_text (drop (n + 1) pairs) in
    let here : pairs_text (drop n pairs) ≡ pair_line p ++ 10 ∷ rest = at_drop_more pairs_text pairs n p h.0 ∙ ap (λ z. pair_line z ++ 10 ∷ rest) (sym h.1) in
    let joined : (before ++ (pair_line p ++ 10 ∷ [])) ++ rest ≡ before ++ (pair_line p ++ 10 ∷ rest) = append_assoc before (pair_line p ++ 10 ∷ []) rest ∙ ap (λ z. before ++ z) (append_assoc (pair_line p) (10 ∷ []) rest) in
    ap (λ z. after ++ pairs_text (drop z pairs)) next ∙ ap (λ z. z ++ rest) added ∙ joined ∙ ap (λ z. before ++ z) (sym here) ∙ is

at_end : (pairs : List (List ℕ × ℤ)) (n : ℕ) (text whole : List ℕ) → n ≡ length pairs → text ++ pairs_text (drop n pairs) ≡ whole → text ≡ whole
at_end pairs n text whole e is = sym (append-nil text) ∙ ap (λ z. text ++ z) (sym (at_drop_all pairs_text pairs n (omega arith))) ∙ is

pub loop-name-preserved : goal.loop-name-preserved
loop-name-preserved c =
    let t = YieldsList-turn (YieldsList-from_zip (YieldsList-from_slice c.args.names.now (cc)) (YieldsList-from_slice c.args.values.now (cc))) c.loop-name.yielded c.loop-name.name-iterator c.loop-name.yielded_by c.next.result c.next.new.self (c.in-Some.name, c.in-Some.value) c.in-Some.is c.next.ensures.steps in
    let same : to_z w64 (of_z w64 c.in-Some.value.now) ≡ c.in-Some.value.now = search rules in
    let added = c.in_ok-add_value.ensures ∙ ap (λ z. c.loop-name.text.items ++ (value_line c.in-Some.name.now z ++ 10 ∷ [])) same in
    more (zip c.args.names.now c.args.values.now) _ _ (c.in-Some.name.now, c.in-Some.value.now) c.loop-name.text.items _ _ t (length_push c.loop-name.yielded (c.in-Some.name, c.in-Some.value)) added c.loop-name.invariant

pub returns : goal.returns
returns c =
    let t = YieldsList-end (YieldsList-from_zip (YieldsList-from_slice c.args.names.now (cc)) (YieldsList-from_slice c.args.values.now (cc))) c.loop-name.yielded c.loop-name.name-iterator c.loop-name.yielded_by c.next.result c.next.new.self c.in-None.is c.next.ensures.steps in
    at_end (zip c.args.names.now c.args.values.now) _ c.loop-name.text.items _ t.1 c.loop-name.invariant
