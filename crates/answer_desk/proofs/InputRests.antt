-- What takes leave of the input.
use Rattle.std.proofs.Common.{◌≡◌, ◌∙◌, ℕ, ◌≤◌, length, arith, List, [], Option, Some, None, refl, sym, ap, subst}
use Rattle.std.proofs.lemmas.List.{append-nil}
use Rattle.std.specs.Io.KnownBytes.{prepend_known}
use Rattle.desk_io.specs.Known.{Tells, TookAtMost, input_end}
use Rattle.answer_desk.specs.Takes.{LeavesRest}

-- an input that was read to its end is all that was taken
all_taken : (known : Option (List ℕ)) (text : List ℕ) → Tells known text → known ≡ prepend_known text (input_end known)
all_taken None text told = refl
all_taken (Some bytes) text told = ap (λ b. Some b) (told ∙ sym (append-nil text))

pub read_leaves : (known now : Option (List ℕ)) (text : List ℕ) → Tells known text → now ≡ input_end known → LeavesRest known now
read_leaves known now text told end = subst (λ n. LeavesRest known n) (sym end) (text, all_taken known text told)

-- of an input that stays nothing was taken
none_taken : (known : Option (List ℕ)) → known ≡ prepend_known [] known
none_taken None = refl
none_taken (Some bytes) = refl

pub idle_leaves : (known now : Option (List ℕ)) → now ≡ known → LeavesRest known now
idle_leaves known now same = subst (λ n. LeavesRest known n) (sym same) ([], none_taken known)

-- what is left stays where nothing more is taken
pub still_leaves : (known mid now : Option (List ℕ)) → now ≡ mid → LeavesRest known mid → LeavesRest known now
still_leaves known mid now same rest = subst (λ n. LeavesRest known n) (sym same) rest

-- ---- how much was taken

-- of an input that was read to its end within a limit at most so many bytes were taken
pub whole_within : (known mid now : Option (List ℕ)) (text : List ℕ) (limit : ℕ) → Tells known text → length text ≤ limit → mid ≡ input_end known → now ≡ mid
    → TookAtMost known now limit
whole_within known mid now text limit told short end same =
    subst (λ n. TookAtMost known n limit) (sym (same ∙ end)) (text, short, all_taken known text told)

-- of an input that stays nothing was taken
pub idle_within : (known now : Option (List ℕ)) (limit : ℕ) → now ≡ known → TookAtMost known now limit
idle_within known now limit same = subst (λ n. TookAtMost known n limit) (sym same) ([], omega arith, none_taken known)
