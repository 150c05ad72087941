-- The places of a chain are those of its first operand, and then those of its links.
use Rattle.std.proofs.Common.{rules, ◌≡◌, ◌++◌, map, sym, ap, ◌∙◌, Ok, Err}
use Rattle.kernel_ast.specs.Walk.{joined, places_of}
use Rattle.kernel_walk.specs.PlacesLookedAt.{all_located, places_of_link}
use Rattle.kernel_walk.proofs.LocatedPlaces.{append_stopped, append_kept, joined_stopped, joined_kept, places_of_chain, places_of_operand}
use Rattle.kernel_walk.proofs.walking.+places.Goals as goal

pub look_at_places-returns-in_err-look_at_places-in-Chain : goal.look_at_places-returns-in_err-look_at_places-in-Chain
look_at_places-returns-in_err-look_at_places-in-Chain t c =
    let err : c.from_residual.result ≡ Err c.in_err-look_at_places-in-Chain.field-0.0 = search rules in
    let first : Err c.in_err-look_at_places-in-Chain.field-0.0 ≡ all_located c.args.kernel.now.decls c.args.indices.now (places_of c.in-Chain.first) =
    c.in_err-look_at_places-in-Chain.ensures ∙ ap (λ e. all_located c.args.kernel.now.decls c.args.indices.now (places_of e)) c.get-in-Chain.ensures in
    let opened : places_of c.args.expr.now ≡ places_of c.in-Chain.first ++ joined (map places_of_link c.in-Chain.rest) =
    ap places_of c.in-Chain.is ∙ places_of_chain c.in-Chain.first c.in-Chain.rest in
    err ∙ append_stopped _ _ (places_of c.in-Chain.first) (joined (map places_of_link c.in-Chain.rest)) _ first ∙ sym (ap (all_located c.args.kernel.now.decls c.args.indices.now) opened)

pub look_at_places-returns-in_ok-look_at_places-in-Chain : goal.look_at_places-returns-in_ok-look_at_places-in-Chain
look_at_places-returns-in_ok-look_at_places-in-Chain t c =
    let first : Ok c.in_ok-look_at_places-in-Chain.field-0 ≡ all_located c.args.kernel.now.decls c.args.indices.now (places_of c.in-Chain.first) =
    c.in_ok-look_at_places-in-Chain.ensures ∙ ap (λ e. all_located c.args.kernel.now.decls c.args.indices.now (places_of e)) c.get-in-Chain.ensures in
    let opened : places_of c.args.expr.now ≡ places_of c.in-Chain.first ++ joined (map places_of_link c.in-Chain.rest) =
    ap places_of c.in-Chain.is ∙ places_of_chain c.in-Chain.first c.in-Chain.rest in
    let more : c.look_at_links.result ≡ all_located c.args.kernel.now.decls c.args.indices.now (joined (map places_of_link c.in-Chain.rest)) = search rules in
    more ∙ append_kept _ _ (places_of c.in-Chain.first) (joined (map places_of_link c.in-Chain.rest)) _ first ∙ sym (ap (all_located c.args.kernel.now.decls c.args.indices.now) opened)

pub look_at_arguments-returns-in_err-look_at_places : goal.look_at_arguments-returns-in_err-look_at_places
look_at_arguments-returns-in_err-look_at_places t c =
    let err : c.from_residual.result ≡ Err c.in_err-look_at_places.field-0.0 = search rules in
    err ∙ joined_stopped places_of _ _ _ _ _ _ c.each_argument-test.true c.arg-item.is c.each_argument.invariant c.in_err-look_at_places.ensures

pub look_at_arguments-each_argument-preserved : goal.look_at_arguments-each_argument-preserved
look_at_arguments-each_argument-preserved t c =
    joined_kept places_of _ _ _ _ _ _ c.each_argument-test.true c.arg-item.is c.each_argument.invariant c.in_ok-look_at_places.ensures

pub look_at_links-returns-in_err-look_at_places : goal.look_at_links-returns-in_err-look_at_places
look_at_links-returns-in_err-look_at_places t c =
    let err : c.from_residual.result ≡ Err c.in_err-look_at_places.field-0.0 = search rules in
    let here = c.in_err-look_at_places.ensures ∙ ap (all_located c.args.kernel.now.decls c.args.indices.now) (places_of_operand c.link-item.result) in
    err ∙ joined_stopped places_of_link _ _ _ _ _ _ c.each_link-test.true c.link-item.is c.each_link.invariant here

pub look_at_links-each_link-preserved : goal.look_at_links-each_link-preserved
look_at_links-each_link-preserved t c =
    let here = c.in_ok-look_at_places.ensures ∙ ap (all_located c.args.kernel.now.decls c.args.indices.now) (places_of_operand c.link-item.result) in
    joined_kept places_of_link _ _ _ _ _ _ c.each_link-test.true c.link-item.is c.each_link.invariant here
