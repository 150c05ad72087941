-- An operation takes at most the three operands that there are places for.
use Rattle.std.proofs.Common.{◌≡◌, ◌≤◌, length, sym, arith, rules}
use Rattle.std.proofs.lemmas.List.{length-take-le}
use Rattle.scratch_code.proofs.Operands.{few_operands}
use Rattle.scratch_code.proofs.write.add_operation.Goals as goal

pub slice_bounds-operands-end : goal.slice_bounds-operands-end
slice_bounds-operands-end c =
    let three : length c.args.args ≡ 3 = search rules in
    let few = few_operands c.args.op in
    let within : c.from.result ≤ length c.args.args = omega (arith, c.arity.ensures, c.from.ensures) in
    sym (length-take-le c.from.result c.args.args within)
