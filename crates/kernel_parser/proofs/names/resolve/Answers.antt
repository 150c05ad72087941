-- The kernel is well formed, and its parts are those of the definition.
use Rattle.std.proofs.Common.{rules, sym, subst, ◌∙◌}
use Rattle.kernel_ast.specs.WellFormed.{IsWellFormed}
use Rattle.kernel_parser.specs.Names.{name_faults}
use Rattle.kernel_parser.specs.Scopes.{EndsAt}
use Rattle.kernel_parser.proofs.GoodKernels.{kernel_holds}
use Rattle.kernel_parser.proofs.Wholes.{faults_are, tree_is}
use Rattle.kernel_parser.proofs.names.resolve.Goals as goal

pub returns-in_err-body-clause-fault : goal.returns-in_err-body-clause-fault
returns-in_err-body-clause-fault c =
    let o = c.in_err-body.field-0.0 in
    let e = faults_are c.args.text.now c.args.raw.now c.as_slice.result.now c.in_ok-decls.decls.entries c.as_slice-2.result.now c.new-loops.result.items
    c.as_slice.ensures c.in_ok-decls.ensures.declared c.as_slice-2.ensures c.new-loops.ensures.items c.in_ok-decls.ensures.faultless in
    let here : EndsAt (name_faults c.args.text.now c.args.raw.now) o = subst (λ z. EndsAt z o) (sym e) c.in_err-body.ensures.fault in
    search rules

pub new-requires-2 : goal.new-requires-2
new-requires-2 c =
    let e = faults_are c.args.text.now c.args.raw.now c.as_slice.result.now c.in_ok-decls.decls.entries c.as_slice-2.result.now c.new-loops.result.items
    c.as_slice.ensures c.in_ok-decls.ensures.declared c.as_slice-2.ensures c.new-loops.ensures.items c.in_ok-decls.ensures.faultless in
    let t = tree_is c.args.text.now c.args.raw.now c.as_slice.result.now c.in_ok-decls.decls.entries c.as_slice-2.result.now c.new-loops.result.items
    c.as_slice.ensures c.in_ok-decls.ensures.declared c.as_slice-2.ensures c.new-loops.ensures.items
    c.new.result c.in_ok-body.body (c.new.ensures ∙ c.in_ok-title.ensures.items ∙ c.word.ensures) c.in_ok-body.ensures.tree in
    subst IsWellFormed (sym t) (kernel_holds c.args.text.now c.args.raw.now c.requires (e ∙ c.in_ok-body.ensures.faultless))

pub returns-clause-faultless : goal.returns-clause-faultless
returns-clause-faultless c =
    faults_are c.args.text.now c.args.raw.now c.as_slice.result.now c.in_ok-decls.decls.entries c.as_slice-2.result.now c.new-loops.result.items
    c.as_slice.ensures c.in_ok-decls.ensures.declared c.as_slice-2.ensures c.new-loops.ensures.items c.in_ok-decls.ensures.faultless
    ∙ c.in_ok-body.ensures.faultless

pub returns-clause-tree : goal.returns-clause-tree
returns-clause-tree c =
    c.new-2.ensures
    ∙ tree_is c.args.text.now c.args.raw.now c.as_slice.result.now c.in_ok-decls.decls.entries c.as_slice-2.result.now c.new-loops.result.items
    c.as_slice.ensures c.in_ok-decls.ensures.declared c.as_slice-2.ensures c.new-loops.ensures.items
    c.new.result c.in_ok-body.body (c.new.ensures ∙ c.in_ok-title.ensures.items ∙ c.word.ensures) c.in_ok-body.ensures.tree
