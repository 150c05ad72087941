use Rattle.std.proofs.Common.{subst}
use Rattle.window_cert.specs.Faults.{FaultOfCert}
use Rattle.window_cert.proofs.FaultLaws.{cert_none}
use Rattle.window_cert.proofs.decoding.decode.Goals as goal

pub returns-in-Err-Shape-clause-shape : goal.returns-in-Err-Shape-clause-shape
returns-in-Err-Shape-clause-shape c at e =
    let fault = c.in-Err-Shape.ensures.fault c.in-Err-Shape.left c.in-Err-Shape.field-0-is in
    cert_none c.args.bytes.now c.in-Err-Shape.left (subst (λ bytes. FaultOfCert bytes c.in-Err-Shape.left) c.new-cursor.ensures fault)
