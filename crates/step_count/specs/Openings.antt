-- Steps stand in a ledger, which a blank opens. A function that makes steps of its own is handed the blank.
use Rattle.std.specs.Prelude.{◌≡◌, ℕ, ◌<◌}
use Rattle.std.specs.declared.sync.ledger.Blank.{Blank}

-- the blank opens the ledger with this name and these parts, of which there are some
pub record Opens (name parts : ℕ) (blank : Blank) : Type 0 where
  pub same_name : blank.name ≡ name
  pub same_parts : blank.parts ≡ parts
  pub some : 0 < parts
