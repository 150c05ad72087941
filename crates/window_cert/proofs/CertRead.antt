-- A certificate that all bytes are.
use Rattle.std.proofs.Common.{◌≡◌, ℕ, ◌≤◌, ◌<◌, true, false, eqb, List, [], ◌∷◌, ◌++◌, length, refl, sym, ap, ◌∙◌, subst, arith}
use Rattle.std.proofs.lemmas.Bool.Decides.{nat_tests}
use Rattle.window_cert.specs.Certs.{WindowParts, Numbers, CertParts, numbers_of}
use Rattle.window_cert.specs.Bytes.{counted, window_bytes, header_bytes, AllFit, WindowFits, HeaderFits, IsSpelling}
use Rattle.window_cert.specs.Readings.{BeginsWith, BeginsWithNone}
use Rattle.window_cert.proofs.Begins.{begins_one}
use Rattle.window_cert.proofs.Listed.{append_nothing}
use Rattle.window_cert.proofs.OneSpelling.{header_one, windows_one}

pub some_left : (n : ℕ) → eqb n 0 ≡ false → 0 < n
some_left n is = grind (arith, nat_tests)

pub none_left : (n : ℕ) → eqb n 0 ≡ true → n ≤ 0
none_left n is = grind (arith, nat_tests)

-- the windows of a spelling
abbrev windows_in : CertParts → List ℕ
windows_in c = counted (window_bytes c.vertices) c.windows

numbers_first : (bytes : List ℕ) (c : CertParts) → IsSpelling bytes c → BeginsWith header_bytes HeaderFits bytes (windows_in c) (numbers_of c)
numbers_first bytes c is = record { fits = is.fits.numbers; bytes_are = is.bytes_are }

pub no_numbers : (bytes : List ℕ) → BeginsWithNone header_bytes HeaderFits bytes → (c : CertParts) → IsSpelling bytes c → ⊥
no_numbers bytes none c is = none (windows_in c) (numbers_of c) (numbers_first bytes c is)

module _ (bytes r : List ℕ) (h : Numbers) (first : BeginsWith header_bytes HeaderFits bytes r h) where
  -- after the numbers that were read come the windows
  windows_behind : (c : CertParts) → IsSpelling bytes c → BeginsWith (counted (window_bytes h.vertices)) (AllFit (WindowFits h.vertices)) r [] c.windows
  windows_behind c is =
      let same = begins_one header_bytes HeaderFits header_one bytes r (windows_in c) h (numbers_of c) first (numbers_first bytes c is) in
      let count : h.vertices ≡ c.vertices = ap (λ h. h.vertices) same.0 in
      record {
        fits = subst (λ n. AllFit (WindowFits n) c.windows) (sym count) is.fits.windows;
        bytes_are = same.1 ∙ ap (λ n. counted (window_bytes n) c.windows) (sym count) ∙ sym (append_nothing (counted (window_bytes h.vertices) c.windows));
      }

  pub no_windows : BeginsWithNone (counted (window_bytes h.vertices)) (AllFit (WindowFits h.vertices)) r → (c : CertParts) → IsSpelling bytes c → ⊥
  no_windows none c is = none [] c.windows (windows_behind c is)

  module _ (s : List ℕ) (windows : List WindowParts) (second : BeginsWith (counted (window_bytes h.vertices)) (AllFit (WindowFits h.vertices)) r s windows) where
    pub more_left : 0 < length s → (c : CertParts) → IsSpelling bytes c → ⊥
    more_left some c is =
        let same = begins_one (counted (window_bytes h.vertices)) (AllFit (WindowFits h.vertices)) (windows_one h.vertices) r s [] windows c.windows second (windows_behind c is) in
        let none = ap length same.1 in
        omega arith

    nothing_in : (xs : List ℕ) → length xs ≤ 0 → xs ≡ []
    nothing_in [] l = refl
    nothing_in (x ∷ xs) l = absurd (omega arith)

    pub cert_read : length s ≤ 0 → IsSpelling bytes (record { vertices = h.vertices; slots = h.slots; load = h.load; store = h.store; bound = h.bound; windows = windows })
    cert_read none = record {
      fits = record { numbers = first.fits; windows = second.fits };
      bytes_are =
          first.bytes_are
          ∙ ap (λ x. header_bytes h ++ x) (second.bytes_are ∙ ap (λ x. counted (window_bytes h.vertices) windows ++ x) (nothing_in s none)
          ∙ append_nothing (counted (window_bytes h.vertices) windows));
    }
