use Rattle.std.proofs.Common.{◌++◌, ◌∷◌, [], ap, ◌∙◌}
use Rattle.window_cert.proofs.SetBytes.{no_bytes, added_byte}
use Rattle.window_cert.proofs.sets.add_set.Goals as goal

pub bytes-init : goal.bytes-init
bytes-init c = no_bytes c.args.bytes.now.items c.args.set.now

pub bytes-preserved : goal.bytes-preserved
bytes-preserved c =
    c.in_ok-push.ensures.items ∙ ap (λ b. c.bytes.bytes.items ++ b ∷ []) c.set_byte.ensures
    ∙ added_byte c.args.set.now c.bytes.k c.args.bytes.now.items c.bytes.bytes.items c.bytes.invariant
