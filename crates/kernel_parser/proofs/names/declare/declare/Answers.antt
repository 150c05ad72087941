-- One declaration: its name and its sizes.
use Rattle.std.proofs.Common.{rules, ◌++◌, ◌∷◌, [], map, ap, subst, ◌∙◌}
use Rattle.std.specs.Str.{bytes_eq}
use Rattle.kernel_parser.specs.Names as spec
use Rattle.kernel_parser.specs.Names.{known_in, name_meaning}
use Rattle.kernel_parser.specs.Scopes.{EndsAt}
use Rattle.kernel_parser.proofs.Faults.{ends_later, twice_new, none_of}
use Rattle.indexmap.proofs.CallerLemmas.{insert_entry-new}
use Rattle.kernel_parser.proofs.names.declare.declare.Goals as goal

pub returns-in_err-sizes-clause-fault : goal.returns-in_err-sizes-clause-fault
returns-in_err-sizes-clause-fault c =
    let e = c.in_err-sizes.field-0.0 in
    let entries = c.args.decls.now.entries in
    let fresh = twice_new c.get_index_of-known.result (spec.declared_at entries c.in_ok-name.name) c.args.raw.now.name.from c.get_index_of-known.ensures.index (search rules) in
    let here : EndsAt (spec.sizes_faults c.args.raw.now.sizes) e = subst (λ s. EndsAt (spec.sizes_faults s) e) c.as_slice.ensures c.in_err-sizes.ensures.fault in
    let all = ends_later _ _ e fresh here in
    let whole : EndsAt (spec.twice_faults (name_meaning (known_in c.args.text.now entries []) c.args.raw.now.name) c.args.raw.now.name.from ++ spec.sizes_faults c.args.raw.now.sizes) e
    = subst (λ n. EndsAt (spec.twice_faults (spec.name_meaning_by (spec.open_at [] n) (spec.declared_at entries n)) c.args.raw.now.name.from ++ spec.sizes_faults c.args.raw.now.sizes) e) c.in_ok-name.ensures all in
    search rules

pub returns-clause-declared : goal.returns-clause-declared
returns-clause-declared c =
    let absent = none_of _ c.get_index_of-known.ensures.found (search rules) in
    c.in_ok-insert.ensures.entries
    ∙ insert_entry-new bytes_eq c.args.decls.now c.in_ok-name.name _ absent
    ∙ ap (λ n. c.args.decls.now.entries ++ (n, record { kind = c.args.raw.now.kind; sizes = c.in_ok-sizes.sizes; at = c.args.raw.now.name.from }) ∷ []) c.in_ok-name.ensures
    ∙ ap (λ s. c.args.decls.now.entries ++ (spec.word c.args.text.now c.args.raw.now.name, record { kind = c.args.raw.now.kind; sizes = s; at = c.args.raw.now.name.from }) ∷ [])
    (c.in_ok-sizes.ensures.sizes ∙ ap (λ s. map spec.size_of s) c.as_slice.ensures)
