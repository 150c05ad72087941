-- Each statement adds its line, and the last two lines end the text.
use Rattle.std.proofs.Common.{◌≡◌, ℕ, suc, ◌+◌, ◌-◌, ◌<◌, ◌≤◌, List, [], ◌∷◌, ◌++◌, codes, sym, ap, ◌∙◌, arith, append_assoc, append-nil}
use Rattle.line_texts.specs.Lines.{ended}
use Rattle.line_texts.proofs.Fronts.{ended-append}
use Rattle.kernel_gen.specs.Trials.{heading, output, statement, statements, trial_kernel}
use Rattle.kernel_gen.proofs.trials.trial.Goals as goal

more : (n k : ℕ) (before after whole : List ℕ) → k < n → after ≡ before ++ (statement n k ++ 10 ∷ []) → before ++ ended (statements n k (n - k)) ≡ whole
    → after ++ ended (statements n (k + 1) (n - (k + 1))) ≡ whole
more n k before after whole h added is =
    let left : n - k ≡ suc (n - (k + 1)) = omega arith in
    let rest = ended (statements n (k + 1) (n - (k + 1))) in
    ap (λ z. z ++ rest) added ∙ append_assoc before (statement n k ++ 10 ∷ []) rest ∙ ap (λ z. before ++ z) (append_assoc (statement n k) (10 ∷ []) rest)
    ∙ ap (λ z. before ++ ended (statements n k z)) (sym left) ∙ is

whole : (n k : ℕ) (before after end : List ℕ) → n ≤ k → k ≤ n → before ++ ended (statements n k (n - k)) ≡ ended (heading ++ statements n 0 n)
    → after ≡ before ++ (output n ++ 10 ∷ []) → end ≡ after ++ (codes "}" ++ 10 ∷ []) → end ≡ trial_kernel n
whole n k before after end low high is added last =
    let none : n - k ≡ 0 = omega arith in
    let lines = heading ++ statements n 0 n in
    let first : before ≡ ended lines = sym (append-nil before) ∙ ap (λ z. before ++ ended (statements n k z)) (sym none) ∙ is in
    last ∙ ap (λ z. z ++ (codes "}" ++ 10 ∷ [])) (added ∙ ap (λ z. z ++ (output n ++ 10 ∷ [])) first)
    ∙ append_assoc (ended lines) (output n ++ 10 ∷ []) (codes "}" ++ 10 ∷ [])
    ∙ ap (λ z. ended lines ++ z) (append_assoc (output n) (10 ∷ []) (codes "}" ++ 10 ∷ []))
    ∙ sym (ended-append lines (output n ∷ codes "}" ∷ []))
    ∙ ap ended (append_assoc heading (statements n 0 n) (output n ∷ codes "}" ∷ []))

pub loop-k-preserved : goal.loop-k-preserved
loop-k-preserved c =
    more c.args.n c.loop-k.k c.loop-k.text.items _ _ c.loop-k-test.true
    (c.in_ok-add_line.ensures ∙ ap (λ z. c.loop-k.text.items ++ (z ++ 10 ∷ [])) (c.as_str.ensures.value ∙ c.in_ok-line.ensures)) c.loop-k.invariant

pub returns : goal.returns
returns c =
    whole c.args.n c.loop-k.k c.loop-k.text.items _ _ c.loop-k-test.false c.loop-k.auto.k-end c.loop-k.invariant
    (c.in_ok-add_line-2.ensures ∙ ap (λ z. c.loop-k.text.items ++ (z ++ 10 ∷ [])) (c.as_str-2.ensures.value ∙ c.in_ok-last.ensures)) c.in_ok-add_line-3.ensures
