-- The text so far and the statements that are left are the text of the heading and all statements.
use Rattle.std.proofs.Common.{◌≡◌, ◌-◌, ◌++◌}
use Rattle.line_texts.specs.Lines.{ended}
use Rattle.kernel_gen.specs.Trials.{heading, statements}
use Rattle.kernel_gen.proofs.trials.trial.Given as goal

abbrev pub invariant-loop-k : goal.invariant-loop-k
invariant-loop-k l = l.text.items ++ ended (statements l.n l.k (l.n - l.k)) ≡ ended (heading ++ statements l.n 0 l.n)
