-- The next element is taken, or a declaration without one is skipped.
use Rattle.std.proofs.Common.{rules, arith, ◌≡◌, ◌∙◌, ◌∷◌, ◌+◌, sym, ap, Some, None, slice_get}
use Rattle.three_address.specs.ElementsLeft.{rest_from}
use Rattle.three_address.proofs.ElementsLeft.{rest_taken, rest_skipped, rest_ended, sizes_at}
use Rattle.three_address.proofs.elements.Elements.next.Goals as goal

pub has_element-requires : goal.has_element-requires
has_element-requires c =
    let at : slice_get c.loop-name.self.decls.now.entries c.loop-name.self.decl ≡ Some (c.in-Some.name.now, c.in-Some.decl.now) = search rules in
    sizes_at c.loop-name.self.decls.now.entries c.loop-name.self.decl (c.in-Some.name.now, c.in-Some.decl.now) at c.loop-name.self.sized

pub element_at-requires-clause-sizes : goal.element_at-requires-clause-sizes
element_at-requires-clause-sizes c =
    let at : slice_get c.loop-name.self.decls.now.entries c.loop-name.self.decl ≡ Some (c.in-Some.name.now, c.in-Some.decl.now) = search rules in
    sizes_at c.loop-name.self.decls.now.entries c.loop-name.self.decl (c.in-Some.name.now, c.in-Some.decl.now) at c.loop-name.self.sized

pub returns-then-has_element : goal.returns-then-has_element
returns-then-has_element c =
    let at : slice_get c.loop-name.self.decls.now.entries c.loop-name.self.decl ≡ Some (c.in-Some.name.now, c.in-Some.decl.now) = search rules in
    let decls = c.loop-name.self.decls.now.entries in
    let some = sym c.has_element.ensures.value ∙ c.if-has_element.true in
    sym c.loop-name.invariant ∙ rest_taken c.loop-name.self.kind decls c.loop-name.self.decl c.loop-name.self.offset (c.in-Some.name.now, c.in-Some.decl.now) at some
    ∙ ap (λ e. e ∷ rest_from c.loop-name.self.kind decls c.loop-name.self.decl (c.loop-name.self.offset + 1)) (sym c.in_ok-element.ensures)

pub loop-name-preserved : goal.loop-name-preserved
loop-name-preserved c =
    let at : slice_get c.loop-name.self.decls.now.entries c.loop-name.self.decl ≡ Some (c.in-Some.name.now, c.in-Some.decl.now) = search rules in
    let none = sym c.has_element.ensures.value ∙ c.if-has_element.false in
    rest_skipped c.loop-name.self.kind c.loop-name.self.decls.now.entries c.loop-name.self.decl c.loop-name.self.offset (c.in-Some.name.now, c.in-Some.decl.now) at none ∙ c.loop-name.invariant

pub overflow_add-self : goal.overflow_add-self
overflow_add-self c = let room = c.has_element.ensures.room c.if-has_element.true in omega (arith, room)

pub returns : goal.returns
returns c =
    let at : slice_get c.loop-name.self.decls.now.entries c.loop-name.self.decl ≡ None = search rules in
    sym c.loop-name.invariant ∙ rest_ended c.loop-name.self.kind c.loop-name.self.decls.now.entries c.loop-name.self.decl c.loop-name.self.offset at
