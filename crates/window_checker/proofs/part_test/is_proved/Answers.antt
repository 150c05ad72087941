use Rattle.window_checker.proofs.part_test.is_proved.Goals as goal

pub returns : goal.returns
returns c =
    let autos = c.are_automorphisms.ensures.0 c.if-not-are_automorphisms.false in
    (λ h. (autos, c.is_valid_table.ensures.0 h), λ both. c.is_valid_table.ensures.1 both.1)
