-- Another head leaves the words, the index and the other rows as they were.
use Rattle.std.proofs.Common.{◌≡◌, ◌+◌, ◌*◌, set, ◌∙◌}
use Rattle.position_arena.specs.SlotRows.{step_number, link_number, IsHead}
use Rattle.position_arena.specs.Stores.{with_rows, row_at}
use Rattle.position_arena.proofs.ArenaLaws.{head_rows, head_arena}
use Rattle.position_arena.proofs.rows.Positions.set_head.Goals as goal

pub invariant_of-self : goal.invariant_of-self
invariant_of-self c =
    let store = c.self.inside.store in let words = c.self.inside.words in
    head_rows words store c.self.inside.places.items c.self.invariant c.args.self.now c.self.view_is c.args.k c.requires c.args.head (record { cost = c.link_of.ensures.cost; parent = c.link_of.ensures.parent; vertex = c.number_of.ensures.vertex }) c.set_two.new.self
    (c.set_two.ensures ∙ (λ i. with_rows store (set store.rows c.args.k (set (set (row_at store c.args.k) (2 * words) (c.link_of.ensures.value i)) (2 * words + 1) (c.number_of.ensures.value i)))))

pub returns : goal.returns
returns c =
    let store = c.self.inside.store in let words = c.self.inside.words in
    head_arena words store c.self.inside.places.items c.self.invariant c.args.self.now c.self.view_is c.args.k c.requires c.args.head (record { cost = c.link_of.ensures.cost; parent = c.link_of.ensures.parent; vertex = c.number_of.ensures.vertex }) c.set_two.new.self
    (c.set_two.ensures ∙ (λ i. with_rows store (set store.rows c.args.k (set (set (row_at store c.args.k) (2 * words) (c.link_of.ensures.value i)) (2 * words + 1) (c.number_of.ensures.value i)))))
