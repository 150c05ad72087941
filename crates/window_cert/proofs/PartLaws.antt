-- The parts of a window at the front of bytes.
use Rattle.std.proofs.Common.{◌≡◌, ℕ, ◌+◌, ◌-◌, ◌≤◌, ◌<◌, false, List, [], ◌∷◌, ◌++◌, length, refl, sym, ap, ◌∙◌, inl, inr, arith, append_assoc}
use Rattle.std.specs.Prelude.{◌↔◌, IsTrue}
use Rattle.std.proofs.lemmas.List.{length-append}
use Rattle.std.specs.declared.cmp.Ordering.{Ordering}
use Rattle.std.specs.Ordering.{is_lt}
use Rattle.pebble_rules.specs.Positions.{position_order}
use Rattle.comp_graph.specs.Vertices.{Vertices, AllBelow}
use Rattle.comp_graph.specs.Lists.{IsIn}
use Rattle.potential_cert.specs.declared.tables.Row.{Row}
use Rattle.potential_cert.specs.Table.{IsRising}
use Rattle.potential_cert.specs.Order.{precedes}
use Rattle.potential_cert.specs.Places.{IsAt}
use Rattle.potential_cert.specs.Readings.{BeginsWithNumber}
use Rattle.cert_checker.proofs.Checked.{RiseBefore, first_fall_at, fall_refutes, not_less}
use Rattle.window_cert.specs.Certs.{each, of_tracked, by_works}
use Rattle.window_cert.specs.Bytes.{set_bytes, counted, charged_bytes, renaming_bytes, AllFit, ChargedFits, RenamingFits}
use Rattle.window_cert.specs.Readings.{BeginsWith, BeginsWithNone, BeginsWithMany, BeginsWithFewer}
use Rattle.window_cert.proofs.Begins.{counted_behind}
use Rattle.window_cert.proofs.PieceLaws.{byte_read, byte_fits}

-- ---- counted lists

module _ {X : Type 0} (spell : X → List ℕ) (Fits : X → Type 0) where
  pub no_list : (k : ℕ) (bytes r : List ℕ) → BeginsWithNumber 4 bytes r k → BeginsWithFewer spell Fits k r → BeginsWithNone (counted spell) (AllFit Fits) bytes
  no_list k bytes r number fewer rest xs begins = fewer rest xs (counted_behind spell Fits k bytes r rest xs number begins)

-- ---- charged loads

module _ (n form : ℕ) (bytes r : List ℕ) (number : BeginsWithNumber 1 bytes r form) where
  here : bytes ≡ form ∷ r
  here = byte_read form bytes r number

  pub read_each : form ≡ 0 → (s : List ℕ) (sets : List Vertices) → BeginsWithMany (set_bytes n) (AllBelow n) n r s sets → BeginsWith (charged_bytes n) (ChargedFits n) bytes s (each sets)
  read_each is s sets list = record { fits = (list.many, list.fit); bytes_are = here ∙ (λ i. is i ∷ list.bytes_are i) }

  pub read_tracked : form ≡ 1 → BeginsWith (charged_bytes n) (ChargedFits n) bytes r of_tracked
  read_tracked is = record { fits = tt; bytes_are = here ∙ ap (λ x. x ∷ r) is }

  pub read_works : form ≡ 2 → (s : List ℕ) (works : Vertices) → BeginsWith (set_bytes n) (AllBelow n) r s works → BeginsWith (charged_bytes n) (ChargedFits n) bytes s (by_works works)
  read_works is s works set = record { fits = set.fits; bytes_are = here ∙ (λ i. is i ∷ set.bytes_are i) }

-- ---- a renaming

-- the images read so far
pub record AreImages (k : ℕ) (bytes rest images : List ℕ) : Type 0 where
  pub many : length images ≡ k
  pub small : (v : ℕ) → IsIn v images → v < 256
  pub bytes_are : bytes ≡ images ++ rest

pub no_images : (bytes : List ℕ) → AreImages 0 bytes bytes []
no_images bytes = record { many = refl; small = λ v i. absurd i; bytes_are = refl }

pub image_more : (k image : ℕ) (bytes r s images : List ℕ) → AreImages k bytes r images → BeginsWithNumber 1 r s image → AreImages (k + 1) bytes s (images ++ image ∷ [])
image_more k image bytes r s images before number = record {
  many = let whole = length-append images (image ∷ []) in let many = before.many in omega arith;
  small = all_small images before.small;
  bytes_are = before.bytes_are ∙ ap (λ x. images ++ x) (byte_read image r s number) ∙ sym (append_assoc images (image ∷ []) s);
}
  where
    all_small : (xs : List ℕ) → ((v : ℕ) → IsIn v xs → v < 256) → (v : ℕ) → IsIn v (xs ++ image ∷ []) → v < 256
    all_small [] small v (inl e) = let fits = byte_fits image r s number in omega arith
    all_small [] small v (inr i) = absurd i
    all_small (x ∷ xs) small v (inl e) = small v (inl e)
    all_small (x ∷ xs) small v (inr i) = all_small xs (λ v i. small v (inr i)) v i

pub short_renaming : (n k : ℕ) (bytes r images : List ℕ) → AreImages k bytes r images → k < n → length r < 1 → BeginsWithNone renaming_bytes (RenamingFits n) bytes
short_renaming n k bytes r images before less short rest x begins =
    let whole = ap length begins.bytes_are ∙ length-append x rest in
    let many = begins.fits.many in
    let own = ap length before.bytes_are ∙ length-append images r in
    let few = before.many in
    omega arith

pub renaming_read : (n k : ℕ) (bytes r images : List ℕ) → AreImages k bytes r images → k ≡ n → BeginsWith renaming_bytes (RenamingFits n) bytes r images
renaming_read n k bytes r images before all = record { fits = record { many = before.many ∙ all; small = before.small }; bytes_are = before.bytes_are }

-- ---- rows that rise

pub not_rising : (rows : List Row) (n : ℕ) (q r : Row) (o : Ordering) → 1 ≤ n → IsAt q (n - 1) rows → IsAt r n rows → o ≡ position_order q.position r.position → is_lt o ≡ false → RiseBefore rows n → IsRising precedes rows → ⊥
not_rising rows n q r o some at_q at_r is less before rise =
    fall_refutes rows n (first_fall_at rows n q r some at_q at_r (not_less q.position r.position o is less) before) rise

-- a test that fails decides what cannot be
pub no_test : {P : Type 0} → (P → ⊥) → IsTrue false ↔ P
no_test none = (λ is. absurd (grind arith), λ p. absurd (none p))
