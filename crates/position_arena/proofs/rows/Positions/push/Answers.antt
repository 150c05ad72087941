-- Where memory is refused the rows are as before; else there is a row more, and the index has it.
use Rattle.std.proofs.Common.{◌≡◌, ◌*◌, length, vec_len, ap, subst, arith, rules}
use Rattle.position_arena.specs.Index.{IsIndex, keys_of}
use Rattle.position_arena.proofs.ArenaLaws.{same_rows, written_rows, written_arena}
use Rattle.position_arena.proofs.rows.Positions.push.Goals as goal

pub invariant_of-self : goal.invariant_of-self
invariant_of-self c =
    same_rows c.self.inside.words c.self.inside.store c.reserve.new.self c.self.inside.places.items c.self.inside.places.items c.self.invariant c.in_err-reserve.ensures.wide c.in_err-reserve.ensures.rows c.self.invariant.index c.self.invariant.loose

pub invariant_of-self-in_err-reserve-2 : goal.invariant_of-self-in_err-reserve-2
invariant_of-self-in_err-reserve-2 c =
    let rows = c.in_ok-reserve.ensures.rows in
    same_rows c.self.inside.words c.self.inside.store c.reserve.new.self c.self.inside.places.items c.reserve-2.new.places.items c.self.invariant c.in_ok-reserve.ensures.wide rows
    (subst (λ rows. IsIndex (keys_of (2 * c.self.inside.words) rows) c.reserve-2.new.places.items) rows c.in_err-reserve-2.ensures.index) (omega (arith, ap length rows, c.in_err-reserve-2.ensures.loose))

pub invariant_of-self-2 : goal.invariant_of-self-2
invariant_of-self-2 c =
    let long : length c.words_of-row.result ≡ 10 = search rules in
    let size : vec_len c.reserve-2.new.places ≡ length c.reserve-2.new.places.items = search rules in
    written_rows c.self.inside.words c.self.inside.store c.self.inside.places.items c.self.invariant c.args.self.now c.self.view_is c.args.p.now c.args.head c.requires.fits (record { cost = c.link_of.ensures.cost; parent = c.link_of.ensures.parent; vertex = c.number_of.ensures.vertex }) c.requires.room c.reserve.new.self c.push.new.self c.in_ok-reserve.ensures.wide c.in_ok-reserve.ensures.rows c.words_of-row.result long c.words_of-row.ensures c.link_of.result c.number_of.result c.link_of.ensures.value c.number_of.ensures.value c.push.ensures
    c.reserve-2.new.places.items c.deref_mut.result.now c.insert.new.places c.hash.result c.len-place.result c.reserve-2.new.places.len c.in_ok-reserve-2.ensures.index c.in_ok-reserve-2.ensures.room c.deref_mut.ensures.value c.hash.ensures c.len-place.ensures c.insert.ensures size

pub returns-clause-ok : goal.returns-clause-ok
returns-clause-ok c =
    let long : length c.words_of-row.result ≡ 10 = search rules in
    written_arena c.self.inside.words c.self.inside.store c.self.inside.places.items c.self.invariant c.args.self.now c.self.view_is c.args.p.now c.args.head c.requires.fits (record { cost = c.link_of.ensures.cost; parent = c.link_of.ensures.parent; vertex = c.number_of.ensures.vertex }) c.requires.room c.reserve.new.self c.push.new.self c.in_ok-reserve.ensures.wide c.in_ok-reserve.ensures.rows c.words_of-row.result long c.words_of-row.ensures c.link_of.result c.number_of.result c.link_of.ensures.value c.number_of.ensures.value c.push.ensures
