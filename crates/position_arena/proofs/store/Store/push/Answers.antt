-- A row more lies behind the others in the last chunk that has any.
use Rattle.std.proofs.Common.{◌≡◌, vec_len, length, arith, rules}
use Rattle.position_arena.proofs.StoreLaws.{seen_len, has_room, next_within, row_fits, pushed_store, pushed_table}
use Rattle.position_arena.proofs.store.Store.push.Goals as goal

pub index_mut-chunk-requires : goal.index_mut-chunk-requires
index_mut-chunk-requires c =
    let size : vec_len c.self.inside.chunks ≡ length c.self.inside.chunks.items = search rules in
    let within = next_within c.self.inside.wide c.self.inside.len c.self.inside.chunks.items c.self.invariant (has_room c.self.inside.wide c.self.inside.len c.self.inside.chunks.items c.self.invariant c.args.self.now c.self.view_is c.requires.room) in omega (arith, size, within)

pub extend-requires : goal.extend-requires
extend-requires c = row_fits c.self.inside.wide c.self.inside.len c.self.inside.chunks.items c.self.invariant c.args.self.now c.self.view_is c.requires.room c.index_mut-chunk.result.now c.index_mut-chunk.ensures.value (length c.args.row.now) c.requires.wide

pub overflow_add-self : goal.overflow_add-self
overflow_add-self c = record { fits = omega (arith, c.requires.few, seen_len c.self.inside.wide c.self.inside.len c.self.inside.chunks.items c.self.invariant c.args.self.now c.self.view_is) }

pub invariant_of-self : goal.invariant_of-self
invariant_of-self c = pushed_store c.self.inside.wide c.self.inside.len c.self.inside.chunks.items c.self.invariant c.args.self.now c.self.view_is c.requires.room c.index_mut-chunk.result.now c.index_mut-chunk.ensures.value c.args.row.now c.requires.wide c.extend.new.self c.extend.ensures

pub returns : goal.returns
returns c = pushed_table c.self.inside.wide c.self.inside.len c.self.inside.chunks.items c.self.invariant c.args.self.now c.self.view_is c.requires.room c.index_mut-chunk.result.now c.index_mut-chunk.ensures.value c.args.row.now c.requires.wide c.extend.new.self c.extend.ensures
