-- A table that was read can be written.
use Rattle.potential_cert.proofs.Written.{in_range}
use Rattle.worked_searches.proofs.table_bytes.written_again.Goals as goal

pub write_table-requires : goal.write_table-requires
write_table-requires g c = in_range c.in-Ok.table c.in-Ok.ensures.ok.fits
