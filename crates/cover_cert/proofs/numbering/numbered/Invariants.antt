use Rattle.std.proofs.Common.{◌≡◌, map, take}
use Rattle.cover_cert.specs.CoverMaking.{numbered_name}
use Rattle.cover_cert.proofs.numbering.numbered.Given as goal

abbrev pub invariant-loop-name : goal.invariant-loop-name
invariant-loop-name l = l.numbers.items ≡ map (numbered_name l.rows) (take l.name-index l.names)
