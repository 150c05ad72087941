-- The declarations of a kernel are well formed, and its graph is a graph.
use Rattle.std.proofs.Common.{◌≡◌, ◌∙◌, rules, ap, sym, Ok}
use Rattle.three_address.specs.Lowered.{lowered}
use Rattle.three_address.specs.Declarations.{are_sized}
use Rattle.three_address.proofs.ElementsLeft.{sized_declared}
use Rattle.three_address.proofs.GraphLowered.{lowered_graph}
use Rattle.three_address.proofs.KernelGraphLaws.{IsGraph-graph_of}
use Rattle.three_address.proofs.graph.graph_from.Goals as goal

pub new-requires-2 : goal.new-requires-2
unfolding lowered
new-requires-2 c =
    let k = c.args.kernel.now in
    let made : lowered k c.args.flats.now ≡ Ok (record { title = c.in_ok-title.title; nodes = c.leave_all.new.self.nodes.items; names = c.enter_all.new.self.names.items; outputs = c.leave_all.new.self.found.items }) = search rules in
    IsGraph-graph_of k _ c.decls.ensures.well_formed (sym (lowered_graph k c.args.flats.now c.decls.ensures.well_formed c.requires) ∙ made)

pub enter_all-requires-clause-sized : goal.enter_all-requires-clause-sized
enter_all-requires-clause-sized c = ap are_sized c.decls.ensures.value ∙ sized_declared c.args.kernel.now.decls c.decls.ensures.well_formed.decls

pub leave_all-requires-clause-sized : goal.leave_all-requires-clause-sized
leave_all-requires-clause-sized c = ap are_sized c.decls-2.ensures.value ∙ sized_declared c.args.kernel.now.decls c.decls.ensures.well_formed.decls
