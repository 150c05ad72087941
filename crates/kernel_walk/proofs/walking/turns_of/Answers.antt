-- The statements of a well-formed kernel are light.
use Rattle.std.proofs.Common.{ap, ◌∙◌}
use Rattle.std.specs.List.{list_all}
use Rattle.kernel_walk.specs.LightStatements.{is_light}
use Rattle.kernel_walk.proofs.LightBodies.{body_fits_light}
use Rattle.kernel_walk.proofs.walking.turns_of.Goals as goal

pub statements-requires : goal.statements-requires
statements-requires c =
    record { light = ap (list_all is_light) c.body.ensures.value ∙ body_fits_light _ _ 0 c.body.ensures.well_formed.body }
