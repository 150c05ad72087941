-- How pieces that are put or taken one after another make up the whole.
use Rattle.std.proofs.Common.{◌≡◌, ℕ, ◌+◌, ◌-◌, List, [], ◌++◌, length, take, drop, None, Some, refl, append_assoc}
use Rattle.std.specs.Bool.{⊤}
use Rattle.std.specs.declared.option.Option.{Option}
use Rattle.std.specs.Io.KnownBytes.{append_known, prepend_known}
use Rattle.std.proofs.Math.Seq.{take-add}
use Rattle.std.proofs.lemmas.List.{take_rest}
use Rattle.desk_io.specs.Known.{ToldFile, file_and, file_of}

-- these are the first bytes of the desk's file, if the desk tells it
abbrev pub BeginsFile : ToldFile → List ℕ → Type 0
BeginsFile None bytes = ⊤
BeginsFile (Some None) bytes = bytes ≡ []
BeginsFile (Some (Some known)) bytes = bytes ≡ take (length bytes) known

-- the first part of a text, and the next piece
pub part_and_piece : (text : List ℕ) (done count : ℕ) →
    take done text ++ take count (take (length text - done) (drop done text)) ≡ take (done + count) text
part_and_piece text done count = rw (take_rest text done, take-add done count text) refl

-- a piece that is put after the first part of a text makes the part longer
pub append_known-take : (old before now : Option (List ℕ)) (text : List ℕ) (done count : ℕ) →
    before ≡ append_known old (take done text) → now ≡ append_known before (take count (take (length text - done) (drop done text))) →
    now ≡ append_known old (take (done + count) text)
append_known-take None before now text done count before_is now_is = rw (now_is, before_is) refl
append_known-take (Some xs) before now text done count before_is now_is =
    rw (now_is, before_is, ← part_and_piece text done count) (rw append_assoc refl)

-- the same of a file that was empty at first
pub file_of-take : (old before now : ToldFile) (text : List ℕ) (done count : ℕ) →
    before ≡ file_of old (take done text) → now ≡ file_and before (take count (take (length text - done) (drop done text))) →
    now ≡ file_of old (take (done + count) text)
file_of-take None before now text done count before_is now_is = rw (now_is, before_is) refl
file_of-take (Some held) before now text done count before_is now_is =
    rw (now_is, before_is, ← part_and_piece text done count) refl

-- bytes that are taken one piece after another are taken as one
pub prepend_known-append : (old between now : Option (List ℕ)) (first second : List ℕ) →
    old ≡ prepend_known first between → between ≡ prepend_known second now → old ≡ prepend_known (first ++ second) now
prepend_known-append old between None first second old_is between_is = rw (old_is, between_is) refl
prepend_known-append old between (Some rest) first second old_is between_is = rw (old_is, between_is) (rw append_assoc refl)
