use Rattle.window_checker.proofs.OfProofs.{certs_bound_pebblings}
use Rattle.window_checker.proofs.laws.valid_certs_bound_pebblings.Goals as goal

pub returns : goal.returns
returns c = certs_bound_pebblings c.window_tables_bound_pebblings.ensures c.window_floor_holds.ensures
