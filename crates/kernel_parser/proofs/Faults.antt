-- Where reading ends at the faults of one part after another.
use Rattle.std.proofs.Common.{◌≡◌, ◌++◌, ◌∷◌, [], ℕ, List, Bool, true, false, Option, Some, None, refl, sym, ap, subst}
use Rattle.std.specs.Option.{is_some}
use Rattle.kernel_parser.specs.declared.parse_end.ParseEnd.{ParseEnd}
use Rattle.kernel_parser.specs.declared.parse_end.ParseEnd.TheVariants.{Fault, NoMemory}
use Rattle.kernel_parser.specs.declared.names.fault.NameRule.TheVariants as faults
use Rattle.kernel_parser.specs.declared.names.fault.NameRule as names_fault
use Rattle.kernel_parser.specs.NameFaults.{NameFault, fault, unless}
use Rattle.kernel_parser.specs.Names.{name_meaning_by, twice_faults}
use Rattle.kernel_parser.specs.Scopes.{EndsAt}

-- the first part has a fault
pub ends_first : (xs ys : List NameFault) (e : ParseEnd) → EndsAt xs e → EndsAt (xs ++ ys) e
ends_first xs ys NoMemory h = tt
ends_first [] ys (Fault code at) h = absurd (cc)
ends_first (x ∷ xs) ys (Fault code at) h = h

-- the first part has none
pub ends_later : (xs ys : List NameFault) (e : ParseEnd) → xs ≡ [] → EndsAt ys e → EndsAt (xs ++ ys) e
ends_later xs ys e is h = subst (λ z. EndsAt (z ++ ys) e) (sym is) h

-- a name that is declared already
pub twice_known : (o d : Option ℕ) (at : ℕ) → o ≡ d → is_some o ≡ true → twice_faults (name_meaning_by None d) at ≡ fault faults.Twice at ∷ []
twice_known None d at e h = absurd (cc)
twice_known (Some k) d at e h = ap (λ z. twice_faults (name_meaning_by None z) at) (sym e)

-- a name that is not
pub twice_new : (o d : Option ℕ) (at : ℕ) → o ≡ d → is_some o ≡ false → twice_faults (name_meaning_by None d) at ≡ []
twice_new None d at e h = ap (λ z. twice_faults (name_meaning_by None z) at) (sym e)
twice_new (Some k) d at e h = absurd (cc)

-- there is none where its test fails
pub none_of : {A : Type 0} {b : Bool} (o : Option A) → b ≡ is_some o → b ≡ false → o ≡ None
none_of None e h = refl
none_of (Some a) e h = absurd (cc)

-- the test did not fail
pub passed : (test : Bool) (f : names_fault.NameRule) (at : ℕ) → unless test f at ≡ [] → test ≡ true
passed true f at h = refl
passed false f at h = absurd (cc)
