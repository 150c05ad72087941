-- The laws of the answers of `parts`: where its statuses stand.
use Rattle.std.proofs.Common.{refl}
use Rattle.command_words.specs.declared.commands.Command.TheVariants.{Parts}
use Rattle.pebble_cli.specs.PartLaws.{PartStatuses, PartsAreAnswered}
use Rattle.pebble_cli.proofs.Slotted.{refused_or, own_answer}

pub part_statuses : PartStatuses
part_statuses asked input file status printed table h = refused_or (Parts asked) asked.slots input file status printed table refl refl h (λ k. (k.ends, k))

pub parts_are_answered : PartsAreAnswered
parts_are_answered asked input file status printed table kernel graph h accepted room =
    let k = own_answer (Parts asked) asked.slots input file status printed table kernel graph refl refl h accepted room in
    (k.ends, k)
