-- Faults as they are found.
use Rattle.std.proofs.Common.{◌≡◌, ℕ, ◌≤◌, ◌<◌, List, ◌∷◌, length, sym, ap, ◌∙◌, arith}
use Rattle.potential_cert.specs.Readings.{BeginsWithNumber}
use Rattle.potential_cert.specs.TableBytes.{big_endian}
use Rattle.window_cert.specs.declared.stop.Stop.{Stop}
use Rattle.window_cert.specs.declared.stop.Stop.TheVariants as stops
use Rattle.window_cert.specs.Readings.{BeginsWith, BeginsWithNone}
use Rattle.window_cert.specs.Faults.{IsMissing, IsWord, FaultOfNumber, form_bytes, IsForm}
use Rattle.window_cert.proofs.OneSet.{byte_apart}
use Rattle.window_cert.proofs.PieceLaws.{byte_read, short_number}

left_of : Stop → ℕ
left_of (stops.Shape left) = left
left_of stops.NoMemory = 0

pub same_left : (a b : ℕ) → stops.Shape a ≡ stops.Shape b → a ≡ b
unfolding left_of
same_left a b e = ap left_of e

pub missing : {X : Type 0} → (spell : X → List ℕ) (Fits : X → Type 0) (bytes : List ℕ) (a left : ℕ) → BeginsWithNone spell Fits bytes → a ≡ length bytes → stops.Shape a ≡ stops.Shape left → IsMissing spell Fits bytes left
missing spell Fits bytes a left none here e = record { none = none; here = sym (same_left a left e) ∙ here }

-- ---- numbers

pub missing_number : (bytes : List ℕ) (a left : ℕ) → length bytes < 4 → a ≡ length bytes → stops.Shape a ≡ stops.Shape left → FaultOfNumber bytes left
missing_number bytes a left short here e = missing (big_endian 4) IsWord bytes a left (λ rest n begins. short_number 4 bytes rest n begins.bytes_are short) here e

pub number_begins : (bytes r : List ℕ) (n : ℕ) → BeginsWithNumber 4 bytes r n → BeginsWith (big_endian 4) IsWord bytes r n
number_begins bytes r n begins = record { fits = let fits = begins.fits in omega arith; bytes_are = begins.bytes_are }

-- ---- forms

pub missing_form : (bytes : List ℕ) (a left : ℕ) → length bytes < 1 → a ≡ length bytes → stops.Shape a ≡ stops.Shape left → IsMissing form_bytes IsForm bytes left
missing_form bytes a left short here e = missing form_bytes IsForm bytes a left (λ rest form begins. let whole = ap length begins.bytes_are in omega arith) here e

pub other_missing : (bytes r : List ℕ) (form a left : ℕ) → BeginsWithNumber 1 bytes r form → 3 ≤ form → a ≡ length bytes → stops.Shape a ≡ stops.Shape left → IsMissing form_bytes IsForm bytes left
other_missing bytes r form a left number more here e =
    missing form_bytes IsForm bytes a left
    (λ rest own begins.
    let same = (byte_apart form own r rest (sym (byte_read form bytes r number) ∙ begins.bytes_are)).0 in
    let few = begins.fits in
    omega arith) here e

pub form_begins : (bytes r : List ℕ) (form own : ℕ) → BeginsWithNumber 1 bytes r form → form ≡ own → own ≤ 2 → BeginsWith form_bytes IsForm bytes r own
form_begins bytes r form own number is few = record { fits = few; bytes_are = byte_read form bytes r number ∙ ap (λ x. x ∷ r) is }
