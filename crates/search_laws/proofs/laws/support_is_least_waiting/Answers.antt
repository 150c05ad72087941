use Rattle.search_laws.proofs.Shortcut.{support_is_least_waiting as law}
use Rattle.search_laws.proofs.laws.support_is_least_waiting.Goals as goal

pub returns : goal.returns
returns c = law c.floor_at_ends.ensures.finish
