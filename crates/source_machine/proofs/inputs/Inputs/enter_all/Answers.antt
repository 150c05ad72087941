-- The fault of one declaration is that of all, and one more is done.
use Rattle.std.proofs.Common.{rules, arith, ◌≡◌, ◌<◌, length, sym, ap, subst, ◌∙◌, Err}
use Rattle.kernel_ast.specs.declared.tree.DeclKind.TheVariants as kinds
use Rattle.kernel_ast.specs.Machine as machine
use Rattle.kernel_walk.specs.ElementLoops.{each_from}
use Rattle.kernel_walk.specs.Outcomes.{Gives}
use Rattle.kernel_walk.proofs.ElementLoops.{decls_kept, decls_stopped}
use Rattle.kernel_walk.proofs.Outcomes.{stops}
use Rattle.source_machine.specs.Numbers as spec
use Rattle.source_machine.specs.States.{entered}
use Rattle.source_machine.proofs.inputs.Inputs.enter_all.Goals as goal

pub returns-in_err-enter_declaration : goal.returns-in_err-enter_declaration
returns-in_err-enter_declaration c =
    let count : c.len-decl-end.result ≡ length c.args.kernel.now.decls = c.len-decl-end.ensures.len ∙ ap length c.decls.ensures.value in
    let below : c.each_declaration.decl < length c.args.kernel.now.decls = omega arith in
    let err : c.from_residual.result ≡ Err c.in_err-enter_declaration.field-0.0 = search rules in
    subst (λ r. Gives (each_from (machine.enter (spec.input c.args.values.now)) kinds.Input 0 c.args.kernel.now.decls (entered c.args.self.now)) (entered c.enter_declaration.new.self) r) (sym err)
    (stops _ _ (entered c.enter_declaration.new.self) c.in_err-enter_declaration.field-0.0
    (λ f is. decls_stopped (machine.enter (spec.input c.args.values.now)) kinds.Input c.args.kernel.now.decls c.each_declaration.decl _ f _ below c.each_declaration.invariant is) c.in_err-enter_declaration.ensures)

pub each_declaration-preserved : goal.each_declaration-preserved
each_declaration-preserved c =
    let count : c.len-decl-end.result ≡ length c.args.kernel.now.decls = c.len-decl-end.ensures.len ∙ ap length c.decls.ensures.value in
    let below : c.each_declaration.decl < length c.args.kernel.now.decls = omega arith in
    decls_kept (machine.enter (spec.input c.args.values.now)) kinds.Input c.args.kernel.now.decls c.each_declaration.decl _ _ _ below c.each_declaration.invariant c.in_ok-enter_declaration.ensures
