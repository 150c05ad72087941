-- A row lies in its chunk.
use Rattle.std.proofs.Common.{◌≡◌, vec_len, length, ◌∙◌, arith, rules}
use Rattle.position_arena.proofs.StoreLaws.{row_chunk, row_inside, row_seen}
use Rattle.position_arena.proofs.store.Store.row.Goals as goal

pub index-chunk-requires : goal.index-chunk-requires
index-chunk-requires c =
    let size : vec_len c.self.inside.chunks ≡ length c.self.inside.chunks.items = search rules in
    let within = row_chunk c.self.inside.wide c.self.inside.len c.self.inside.chunks.items c.self.invariant c.args.self.now c.self.view_is c.args.k c.requires in omega (arith, size, within)

pub slice-requires : goal.slice-requires
slice-requires c = row_inside c.self.inside.wide c.self.inside.len c.self.inside.chunks.items c.self.invariant c.args.self.now c.self.view_is c.args.k c.requires c.index-chunk.result.now c.index-chunk.ensures

pub returns : goal.returns
returns c = c.slice.ensures ∙ row_seen c.self.inside.wide c.self.inside.len c.self.inside.chunks.items c.self.invariant c.args.self.now c.self.view_is c.args.k c.requires c.index-chunk.result.now c.index-chunk.ensures
