-- Two other numbers in a row change no other row.
use Rattle.std.proofs.Common.{◌≡◌, vec_len, length, refl, arith, rules}
use Rattle.position_arena.proofs.StoreLaws.{row_chunk, place_inside, set_store, set_table}
use Rattle.position_arena.proofs.store.Store.set_two.Goals as goal

pub index_mut-chunk-requires : goal.index_mut-chunk-requires
index_mut-chunk-requires c =
    let size : vec_len c.self.inside.chunks ≡ length c.self.inside.chunks.items = search rules in
    let within = row_chunk c.self.inside.wide c.self.inside.len c.self.inside.chunks.items c.self.invariant c.args.self.now c.self.view_is c.args.k c.requires.row in omega (arith, size, within)

pub set_two-requires : goal.set_two-requires
set_two-requires c = place_inside c.self.inside.wide c.self.inside.len c.self.inside.chunks.items c.self.invariant c.args.self.now c.self.view_is c.args.k c.requires.row c.index_mut-chunk.result.now c.index_mut-chunk.ensures.value c.args.at c.args.first c.args.second c.requires.place _ refl

pub invariant_of-self : goal.invariant_of-self
invariant_of-self c = set_store c.self.inside.wide c.self.inside.len c.self.inside.chunks.items c.self.invariant c.args.self.now c.self.view_is c.args.k c.requires.row c.index_mut-chunk.result.now c.index_mut-chunk.ensures.value c.args.at c.args.first c.args.second c.requires.place c.set_two.new.self c.set_two.ensures

pub returns : goal.returns
returns c = set_table c.self.inside.wide c.self.inside.len c.self.inside.chunks.items c.self.invariant c.args.self.now c.self.view_is c.args.k c.requires.row c.index_mut-chunk.result.now c.index_mut-chunk.ensures.value c.args.at c.args.first c.args.second c.requires.place c.set_two.new.self c.set_two.ensures
