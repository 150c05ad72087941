use Rattle.std.proofs.Common.{length, sym, ap, ◌∙◌, subst, arith}
use Rattle.comp_graph.specs.Games.{game_of}
use Rattle.normal_steps.specs.Sound.{IsSound}
use Rattle.comp_graph.specs.Lists.{IsIn}
use Rattle.potential_cert.specs.Order.{precedes}
use Rattle.potential_cert.specs.Table.{IsRising}
use Rattle.branch_bound.specs.Frontiers.{best_of, store_of}
use Rattle.cover_cert.specs.CoverTable.{CoverRowParts, IsCoverSupport, plain_rows}
use Rattle.cover_cert.proofs.CoverFoundLaws.{can_be_ordered, cover_table_is, numbered_rise, numbered_rows, numbered_sound}
use Rattle.cover_cert.proofs.searching.table_of.Goals as goal

pub table_rows-requires : goal.table_rows-requires
table_rows-requires c = can_be_ordered c.floor_at_ends.ensures.finish c.args.game.now c.requires.game c.args.first.now c.requires.finishing c.args.budget (store_of c.args.frontier.now) (best_of c.args.best.now) c.args.made.items c.requires.searched (let few = c.requires.few in omega arith)

pub cover_support-bound-requires-clause-rise : goal.cover_support-bound-requires-clause-rise
cover_support-bound-requires-clause-rise c =
    subst (λ rows. IsRising precedes (plain_rows rows)) (sym c.deref.ensures.value) (numbered_rise c.floor_at_ends.ensures.finish c.args.game.now c.requires.game c.args.first.now c.requires.finishing c.args.budget (store_of c.args.frontier.now) (best_of c.args.best.now) c.args.made.items c.requires.searched c.in_ok-rows.rows.items c.in_ok-rows.ensures)

pub cover_support-bound-requires-clause-sound : goal.cover_support-bound-requires-clause-sound
cover_support-bound-requires-clause-sound c =
    subst (λ rows. (r : CoverRowParts) → IsIn r rows → IsSound (game_of c.args.game.now) r.position) (sym c.deref.ensures.value) (numbered_sound c.floor_at_ends.ensures.finish c.args.game.now c.requires.game c.args.first.now c.requires.finishing c.args.budget (store_of c.args.frontier.now) (best_of c.args.best.now) c.args.made.items c.requires.searched c.in_ok-rows.rows.items c.in_ok-rows.ensures)

pub returns : goal.returns
returns c =
    cover_table_is c.floor_at_ends.ensures.finish c.args.game.now c.requires.game c.args.first.now c.requires.finishing c.args.budget (store_of c.args.frontier.now) (best_of c.args.best.now) c.args.made.items c.requires.searched _ (c.len.ensures.value ∙ ap (λ g. length g.nodes) c.graph.ensures.value) c.slots.ensures.value
    (ap (λ w. w.load) c.weights.ensures.value) (ap (λ w. w.store) c.weights.ensures.value) (numbered_rows c.floor_at_ends.ensures.finish c.args.game.now c.requires.game c.args.first.now c.requires.finishing c.args.budget (store_of c.args.frontier.now) (best_of c.args.best.now) c.args.made.items c.requires.searched c.in_ok-rows.rows.items c.in_ok-rows.ensures)
    (subst (λ rows. IsCoverSupport (game_of c.args.game.now) rows c.args.best.now.cost c.cover_support-bound.result) c.deref.ensures.value c.cover_support-bound.ensures)
