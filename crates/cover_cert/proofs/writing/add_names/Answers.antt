use Rattle.std.proofs.Common.{◌+◌, ◌++◌, take, get_or, refl, ap, ◌∙◌, append_assoc}
use Rattle.std.specs.Prelude.{flat_map}
use Rattle.potential_cert.specs.TableBytes.{big_endian}
use Rattle.potential_cert.proofs.Places.{index_at}
use Rattle.potential_cert.proofs.Written.{added_more, piece_more}
use Rattle.cert_checker.proofs.Checked.{each_in, each_row}
use Rattle.cert_checker.proofs.RowTests.{each_more}
use Rattle.cover_cert.specs.CoverBytes.{name_bytes, NameFits}
use Rattle.cover_cert.proofs.writing.add_names.Goals as goal

pub loop-name-preserved : goal.loop-name-preserved
loop-name-preserved c =
    let names = c.args.names.now in
    let k = c.loop-name.name-index in
    let n = get_or names k (record { step = 0; row = 0 }) in
    let at = index_at n (record { step = 0; row = 0 }) k names c.loop-name-test.true refl in
    record {
      bytes = added_more c.args.bytes.now.items c.loop-name.bytes.items c.add_u32.new.bytes.items (flat_map name_bytes (take k names)) (name_bytes n) (flat_map name_bytes (take (k + 1) names))
          c.loop-name.invariant.bytes
          (c.in_ok-add_u32.ensures.bytes ∙ ap (λ x. x ++ big_endian 4 n.row) c.in_ok-add_u16.ensures.bytes ∙ append_assoc c.loop-name.bytes.items (big_endian 2 n.step) (big_endian 4 n.row))
          (piece_more name_bytes n k names at);
      fit = each_more NameFits names k n at (record { step = c.in_ok-add_u16.ensures.small; row = c.in_ok-add_u32.ensures.small }) c.loop-name.invariant.fit;
    }

pub returns-clause-fit : goal.returns-clause-fit
returns-clause-fit c = each_in NameFits c.args.names.now (each_row NameFits c.args.names.now c.loop-name.name-index c.loop-name-test.false c.loop-name.invariant.fit)
