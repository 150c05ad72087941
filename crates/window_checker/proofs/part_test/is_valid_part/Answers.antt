use Rattle.std.proofs.Common.{◌≡◌, List, length, sym, ap, ◌∙◌, subst, arith}
use Rattle.comp_graph.specs.Games.{game_of}
use Rattle.window_cert.specs.contracts.certs.CertWindow as cert_window
use Rattle.window_images.specs.Permutations.{PermutationParts}
use Rattle.window_checker.specs.ValidCerts.{ArePermutations}
use Rattle.window_checker.proofs.Parts.{part_tested, same_window, window_with, from_some, tested_as}
use Rattle.window_checker.proofs.part_test.is_valid_part.Goals as goal

pub returns : goal.returns
returns c =
    let g = game_of c.args.game.now in
    let x = c.args.part.now in
    let count = c.len.ensures.value ∙ ap (λ g. length g.nodes) c.graph.ensures.value in
    let vertices = c.len-2.ensures.value ∙ ap (λ g. length g.nodes) c.graph-2.ensures.value in
    let many : length c.args.loads.now ≡ length c.args.game.now.graph.nodes = (let test = c.if-loads-len.false in omega arith) in
    let made = from_some ((ps : List PermutationParts) → ArePermutations c.len-2.result c.deref.result.now ps → ⊥)
    (λ ps. ArePermutations c.len-2.result c.deref.result.now ps.items) _ c.in-Some.permutations c.in_ok-permutations.ensures c.in-Some.is in
    let lists = c.deref.ensures.value ∙ ap (λ x. x.renamings) c.part.view_is in
    let are = subst (λ n. ArePermutations n x.renamings c.in-Some.permutations.items) vertices
    (subst (λ xss. ArePermutations c.len-2.result xss c.in-Some.permutations.items) lists made) in
    part_tested g x _ c.in-Some.permutations.items _ (same_window g x _ c.args.loads.now c.requires c.part.view_is)
    (ap length (sym c.requires) ∙ many) (c.is_window.ensures.0 c.if-not-is_window.false) are
    (tested_as g (window_with c.args.loads.now (cert_window.the_view c.part.inside)) c.deref-2.result.now c.in-Some.permutations.items c.deref-3.result.now x.rows c.part.inside.bound x.bound c.in_ok-proved.proved
    c.deref-2.ensures.value (c.deref-3.ensures.value ∙ ap (λ x. x.rows) c.part.view_is) (ap (λ x. x.bound) c.part.view_is) c.in_ok-proved.ensures)
