-- The statements of a kernel are light.
use Rattle.std.proofs.Common.{◌≡◌, true, sym, subst}
use Rattle.std.specs.List.{list_all}
use Rattle.kernel_walk.specs.LightStatements.{is_light}
use Rattle.kernel_walk.proofs.LightBodies.{body_fits_light}
use Rattle.loop_unroll.proofs.execution.flats_of.Goals as goal

pub statements-requires : goal.statements-requires
statements-requires c =
    record { light = subst (λ b. list_all is_light b ≡ true) (sym c.body.ensures.value) (body_fits_light c.args.kernel.now.decls c.args.kernel.now.body 0 c.body.ensures.well_formed.body) }
