-- Words that are missing are 0.
use Rattle.std.proofs.Common.{◌∙◌}
use Rattle.position_arena.proofs.SlotLaws.{set_of_four}
use Rattle.position_arena.proofs.rows.set_from.Goals as goal

pub returns : goal.returns
returns c =
    c.from_words.ensures
    ∙ set_of_four c.args.words.now c.word_at.result c.word_at-2.result c.word_at-3.result c.word_at-4.result c.word_at.ensures c.word_at-2.ensures c.word_at-3.ensures c.word_at-4.ensures
