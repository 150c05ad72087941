-- What the index says of words it says of positions.
use Rattle.std.proofs.Common.{◌*◌, length, take, refl, ap, ◌∙◌}
use Rattle.position_arena.proofs.ArenaLaws.{absent_outside, found}
use Rattle.position_arena.proofs.SlotLaws.{length-row_words}
use Rattle.position_arena.proofs.rows.Positions.find.Goals as goal

pub returns : goal.returns
returns c =
    let key = c.words_of-key.ensures in
    found c.self.inside.words c.self.inside.store c.self.inside.places.items c.self.invariant c.args.self.now c.self.view_is c.args.p.now (take (2 * c.self.inside.words) c.words_of-key.result) (length (take (2 * c.self.inside.words) c.words_of-key.result)) c.find.result
    (c.if-not-fits.ensures.0 refl) key (ap length key ∙ length-row_words c.self.inside.words c.self.invariant.narrow c.args.p.now) c.find.ensures

pub returns-then-not-fits : goal.returns-then-not-fits
returns-then-not-fits c =
    absent_outside c.self.inside.words c.self.inside.store c.self.inside.places.items c.self.invariant c.args.self.now c.self.view_is c.args.p.now (λ is. let bad = c.if-not-fits.ensures.1 is in cc)
