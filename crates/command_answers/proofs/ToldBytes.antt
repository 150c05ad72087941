-- There are bytes that a desk tells, also where it tells none.
use Rattle.std.proofs.Common.{◌≡◌, ◌<◌, ◌+◌, ℕ, List, [], length, replicate, None, Some, refl, sym, ◌∙◌, inl, arith}
use Rattle.std.proofs.lemmas.List.{length-replicate}
use Rattle.std.specs.declared.option.Option.{Option}
use Rattle.desk_io.specs.Known.{ToldFile, Tells, TellsMore, TellsFile, TellsMoreFile}
use Rattle.command_answers.specs.Accepted.{IsKernelFault}

pub told_text : (known : Option (List ℕ)) → (text : List ℕ) × Tells known text
told_text None = ([], tt)
told_text (Some known) = (known, refl)

pub told_more : (known : Option (List ℕ)) (limit : ℕ) → TellsMore known limit → (text : List ℕ) × Tells known text × (limit < length text)
told_more None limit more = (replicate (limit + 1) 0, tt, rw (length-replicate {A = ℕ} (limit + 1) 0) (omega arith))
told_more (Some known) limit more = (known, refl, more)

pub told_more_file : (known : ToldFile) (limit : ℕ) → TellsMoreFile known limit → (bytes : List ℕ) × TellsFile known bytes × (limit < length bytes)
told_more_file None limit more = (replicate (limit + 1) 0, tt, rw (length-replicate {A = ℕ} (limit + 1) 0) (omega arith))
told_more_file (Some None) limit more = absurd more
told_more_file (Some (Some known)) limit more = (known, refl, more)

-- a text of more than 65,536 bytes is fault 15 there
pub too_long : (text : List ℕ) → 65536 < length text → IsKernelFault text 15 65536
too_long text more = inl (inl (record { long = more; code_is = refl; at_is = refl }))

-- what a desk tells is the text that it is known to have
pub told_is : (known : Option (List ℕ)) (told text : List ℕ) → Tells known told → known ≡ Some text → told ≡ text
told_is None told text h e = absurd cc
told_is (Some known) told text h e = sym h ∙ (let same : known ≡ text = cc in same)

-- ---- the file

-- a file that tells bytes is not missing
pub not_missing : (file : ToldFile) (bytes : List ℕ) → TellsFile file bytes → file ≡ Some None → ⊥
not_missing None bytes held e = cc
not_missing (Some None) bytes held e = held
not_missing (Some (Some known)) bytes held e = cc

-- the bytes of a file that is told
pub told_bytes : (file : ToldFile) (held : Option (List ℕ)) (some others : List ℕ) → file ≡ Some held → TellsFile file some → TellsFile file others → some ≡ others
told_bytes None held some others e a b = absurd cc
told_bytes (Some None) held some others e a b = absurd a
told_bytes (Some (Some known)) held some others e a b = sym a ∙ b

-- the bytes of a file that is not missing
pub bytes_of : (file : ToldFile) → (file ≡ Some None → ⊥) → (bytes : List ℕ) × TellsFile file bytes
bytes_of None there = ([], tt)
bytes_of (Some None) there = absurd (there refl)
bytes_of (Some (Some known)) there = (known, refl)
