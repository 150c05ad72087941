-- The play has made its reply, and the pebbling makes the move.
use Rattle.std.proofs.Common.{ap, ◌∙◌}
use Rattle.pebble_rules.specs.Rules.{moved}
use Rattle.play_files.specs.Tidying.{following_of}
use Rattle.play_files.proofs.follower.Follower.follow.Goals as goal

pub returns-clause-followed : goal.returns-clause-followed
returns-clause-followed c =
    let reply = following_of c.answer.new.self in
    let raw = c.moved-self.ensures ∙ ap (λ p. moved p c.args.mv) c.in_ok-answer.ensures.raw in
    (reply, c.in_ok-answer.ensures.reply, λ i. record { raw = raw i; normal = reply.normal; debts = reply.debts; steps = reply.steps })
