-- A chunk more has room, and changes no row.
use Rattle.std.proofs.Common.{◌≡◌, ◌<◌, vec_len, length, ap, ◌∙◌, arith, rules}
use Rattle.std.proofs.Common.{◌∷◌, [], ◌^◌}
use Rattle.std.proofs.lemmas.List.{length_push}
use Rattle.position_arena.specs.Stores.{values_below, laid_row}
use Rattle.position_arena.proofs.StoreLaws.{length-values_below, seen_len, seen_room, reserved_rows}
use Rattle.position_arena.proofs.store.Store.reserve.Goals as goal

pub overflow_mul-len : goal.overflow_mul-len
overflow_mul-len c =
    let size : vec_len c.self.inside.chunks ≡ length c.self.inside.chunks.items = search rules in let small : c.self.inside.len < 2 ^ 32 = search rules in
    record { fits = omega (arith, c.len.ensures, size, c.self.invariant.few, small) }

pub returns-in_ok-push-clause-room : goal.returns-in_ok-push-clause-room
returns-in_ok-push-clause-room c =
    let size : vec_len c.self.inside.chunks ≡ length c.self.inside.chunks.items = search rules in
    let more = ap length c.in_ok-push.ensures.items ∙ length_push c.self.inside.chunks.items c.in_ok-chunk.chunk in
    omega (arith, length-values_below (laid_row c.self.inside.wide c.push.new.self.items) c.self.inside.len, c.if-self-len.true, c.len.ensures, size, more)

pub returns-in_ok-push-clause-rows : goal.returns-in_ok-push-clause-rows
returns-in_ok-push-clause-rows c =
    ap (λ chunks. values_below (laid_row c.self.inside.wide chunks) c.self.inside.len) c.in_ok-push.ensures.items
    ∙ reserved_rows c.self.inside.wide c.self.inside.len c.self.inside.chunks.items c.self.invariant (c.in_ok-chunk.chunk ∷ []) ∙ ap (λ t. t.rows) c.self.view_is

pub returns-else-self-len-clause-room : goal.returns-else-self-len-clause-room
returns-else-self-len-clause-room c =
    let size : vec_len c.self.inside.chunks ≡ length c.self.inside.chunks.items = search rules in
    let other = c.if-self-len.false in
    omega (arith, seen_len c.self.inside.wide c.self.inside.len c.self.inside.chunks.items c.self.invariant c.args.self.now c.self.view_is, seen_room c.self.inside.wide c.self.inside.len c.self.inside.chunks.items c.self.invariant c.args.self.now c.self.view_is, c.self.invariant.enough, c.len.ensures, size, other)
