-- A word of the list is the bytes of a text of the slice, or empty past the end of both.
use Rattle.std.proofs.Common.{◌≤◌, [], length, map, string_bytes, sym, ap, ◌∙◌, arith}
use Rattle.std.proofs.lemmas.List.{get_or-map, get_or_past, length-map}
use Rattle.command_words.proofs.read.word_at.Goals as goal

pub returns-in-Some : goal.returns-in-Some
returns-in-Some c =
    let here = c.in-Some.ensures.lookup in
    c.as_str.ensures.value ∙ ap string_bytes here.1 ∙ sym (get_or-map string_bytes c.args.words.now c.args.place c.in-Some.word.now [] here.3.0)

pub returns-in-None : goal.returns-in-None
returns-in-None c =
    let past : length (map string_bytes c.args.words.now) ≤ c.args.place = omega (arith, length-map c.args.words.now string_bytes, c.in-None.ensures.lookup.3) in
    sym (get_or_past _ c.args.place [] past)
