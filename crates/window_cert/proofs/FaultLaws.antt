-- Bytes with a fault spell no certificate, and they have it at one place.
use Rattle.std.proofs.Common.{◌≡◌, ℕ, zero, suc, ◌-◌, ◌<◌, List, ◌++◌, length, sym, ap, ◌∙◌, subst, ◌⊎◌, inl, inr, arith, append_assoc}
use Rattle.std.specs.Prelude.{flat_map}
use Rattle.comp_graph.specs.Vertices.{AllBelow}
use Rattle.potential_cert.specs.TableBytes.{big_endian}
use Rattle.potential_cert.specs.Readings.{BeginsWithNumber}
use Rattle.potential_cert.proofs.Codes.{number_one}
use Rattle.window_cert.specs.Bytes.{set_bytes, counted, charged_bytes, renaming_bytes, row_bytes, window_bytes, header_bytes, AllFit, ChargedFits, RenamingFits, RowFits, WindowFits, HeaderFits, IsSpelling}
use Rattle.window_cert.specs.Certs.{CertParts, Numbers}
use Rattle.window_cert.specs.Certs as certs
use Rattle.window_cert.specs.Parts.{sets_bytes, SetsFit}
use Rattle.window_cert.specs.Readings.{BeginsWith, BeginsWithNone, BeginsWithFewer}
use Rattle.window_cert.specs.Faults.{IsMissing, FaultOfBoth, in_first, in_second, FaultOfMany, IsWord, FaultOfNumber, FaultOfCounted, FaultOfSet, FaultFromSet, form_bytes, IsForm, FaultOfForm, FaultOfCharged, FaultOfSets, FaultOfRow, FaultOfRows, FaultOfTable, in_rows, in_order, FaultOfRenaming, FaultOfRenamings, FaultOfWindow, FaultOfWindows, IsLeft, FaultOfCert, FaultsSpellNone, FaultIsOne}
use Rattle.window_cert.proofs.Begins.{IsOne, begins_one, list_one, no_more, go_on}
use Rattle.window_cert.proofs.OneSet.{byte_apart, set_one}
use Rattle.window_cert.proofs.OneSpelling.{charged_one, renaming_one, renamings_one, row_one, window_one, windows_one, header_one}
use Rattle.window_cert.proofs.PieceLaws.{no_red, no_blue, no_cost}
use Rattle.window_cert.proofs.PartLaws.{no_list}
use Rattle.window_cert.proofs.WindowRead as window
use Rattle.window_cert.proofs.CertRead.{no_numbers, no_windows, more_left}

-- ---- no spelling begins at a fault

abbrev Refutes : {X : Type 0} → (X → List ℕ) → (X → Type 0) → (List ℕ → ℕ → Type 0) → Type 0
Refutes spell Fits Fault = (bytes : List ℕ) (left : ℕ) → Fault bytes left → BeginsWithNone spell Fits bytes

missing_none : {X : Type 0} → (spell : X → List ℕ) (Fits : X → Type 0) → Refutes spell Fits (IsMissing spell Fits)
missing_none spell Fits bytes left is = is.none

number_of : (bytes r : List ℕ) (n : ℕ) → BeginsWith (big_endian 4) IsWord bytes r n → BeginsWithNumber 4 bytes r n
number_of bytes r n begins = record { fits = let fits = begins.fits in omega arith; bytes_are = begins.bytes_are }

module _ {X : Type 0} (spell : X → List ℕ) (Fits : X → Type 0) (Fault : List ℕ → ℕ → Type 0) (one : IsOne spell Fits) (refutes : Refutes spell Fits Fault) where
  many_none : (count : ℕ) (bytes : List ℕ) (left : ℕ) → FaultOfMany spell Fits Fault count bytes left → BeginsWithFewer spell Fits count bytes
  many_none count bytes left is = no_more spell Fits one is.before count bytes is.rest is.items is.read is.less (refutes is.rest left is.fault)

  counted_none : Refutes (counted spell) (AllFit Fits) (FaultOfCounted spell Fits Fault)
  counted_none bytes left (in_first fault) rest xs begins =
      fault.none (flat_map spell xs ++ rest) (length xs) (record { fits = begins.fits.few; bytes_are = begins.bytes_are ∙ append_assoc (big_endian 4 (length xs)) (flat_map spell xs) rest })
  counted_none bytes left (in_second count r number fault) rest xs begins = no_list spell Fits count bytes r (number_of bytes r count number) (many_none count r left fault) rest xs begins

sets_none : (n : ℕ) (bytes : List ℕ) (left : ℕ) → FaultOfMany (set_bytes n) (AllBelow n) (FaultOfSet n) n bytes left → BeginsWithFewer (set_bytes n) (AllBelow n) n bytes
sets_none n bytes left = many_none (set_bytes n) (AllBelow n) (FaultOfSet n) (set_one n) (missing_none (set_bytes n) (AllBelow n)) n bytes left

charged_none : (n : ℕ) → Refutes (charged_bytes n) (ChargedFits n) (FaultOfCharged n)
charged_none n bytes left (in_first fault) rest (certs.each sets) begins = fault.none (flat_map (set_bytes n) sets ++ rest) 0 (record { fits = omega arith; bytes_are = begins.bytes_are })
charged_none n bytes left (in_first fault) rest certs.of_tracked begins = fault.none rest 1 (record { fits = omega arith; bytes_are = begins.bytes_are })
charged_none n bytes left (in_first fault) rest (certs.by_works works) begins = fault.none (set_bytes n works ++ rest) 2 (record { fits = omega arith; bytes_are = begins.bytes_are })
charged_none n bytes left (in_second zero r form fault) rest (certs.each sets) begins =
    sets_none n r left fault rest sets (record { many = begins.fits.0; fit = begins.fits.1; bytes_are = (byte_apart 0 0 r (flat_map (set_bytes n) sets ++ rest) (sym form.bytes_are ∙ begins.bytes_are)).1 })
charged_none n bytes left (in_second zero r form fault) rest certs.of_tracked begins = let other = (byte_apart 0 1 r rest (sym form.bytes_are ∙ begins.bytes_are)).0 in omega arith
charged_none n bytes left (in_second zero r form fault) rest (certs.by_works works) begins = let other = (byte_apart 0 2 r (set_bytes n works ++ rest) (sym form.bytes_are ∙ begins.bytes_are)).0 in omega arith
charged_none n bytes left (in_second (suc zero) r form fault) rest x begins = absurd fault
charged_none n bytes left (in_second (suc (suc k)) r form fault) rest (certs.each sets) begins = let other = (byte_apart (suc (suc k)) 0 r (flat_map (set_bytes n) sets ++ rest) (sym form.bytes_are ∙ begins.bytes_are)).0 in omega arith
charged_none n bytes left (in_second (suc (suc k)) r form fault) rest certs.of_tracked begins = let other = (byte_apart (suc (suc k)) 1 r rest (sym form.bytes_are ∙ begins.bytes_are)).0 in omega arith
charged_none n bytes left (in_second (suc (suc k)) r form fault) rest (certs.by_works works) begins =
    fault.none rest works (record { fits = begins.fits; bytes_are = (byte_apart (suc (suc k)) 2 r (set_bytes n works ++ rest) (sym form.bytes_are ∙ begins.bytes_are)).1 })

three_none : (n : ℕ) → Refutes (sets_bytes n) (SetsFit n) (FaultOfSets n)
three_none n bytes left (in_first fault) = window.no_stores n bytes fault.none
three_none n bytes left (in_second stores r1 first (in_first fault)) = window.no_tracked n bytes r1 stores first fault.none
three_none n bytes left (in_second stores r1 first (in_second tracked r2 second fault)) = window.no_required n bytes r1 stores first r2 tracked second fault.none

row_none : (n : ℕ) → Refutes (row_bytes n) (RowFits n) (FaultOfRow n)
row_none n bytes left (in_first fault) = no_red n bytes fault.none
row_none n bytes left (in_second red r1 first (in_first fault)) = no_blue n bytes r1 red first fault.none
row_none n bytes left (in_second red r1 first (in_second blue r2 second fault)) = no_cost n bytes r1 red first r2 blue second fault.none

renamings_none : (n : ℕ) → Refutes (counted renaming_bytes) (AllFit (RenamingFits n)) (FaultOfRenamings n)
renamings_none n = counted_none renaming_bytes (RenamingFits n) (FaultOfRenaming n) (renaming_one n) (missing_none renaming_bytes (RenamingFits n))

rows_none : (n : ℕ) → Refutes (counted (row_bytes n)) (AllFit (RowFits n)) (FaultOfRows n)
rows_none n = counted_none (row_bytes n) (RowFits n) (FaultOfRow n) (row_one n) (row_none n)

window_none : (n : ℕ) → Refutes (window_bytes n) (WindowFits n) (FaultOfWindow n)
window_none n bytes left (in_first fault) = window.no_charged n bytes (charged_none n bytes left fault)
window_none n bytes left (in_second charged r1 first (in_first fault)) = window.no_sets n bytes r1 charged first (three_none n r1 left fault)
window_none n bytes left (in_second charged r1 first (in_second sets r2 second (in_first fault))) = window.no_renamings n bytes r1 charged first r2 sets second (renamings_none n r2 left fault)
window_none n bytes left (in_second charged r1 first (in_second sets r2 second (in_second renamings r3 third (in_first fault)))) =
    window.no_bound n bytes r1 charged first r2 sets second r3 renamings third fault.none
window_none n bytes left (in_second charged r1 first (in_second sets r2 second (in_second renamings r3 third (in_second bound r4 fourth (in_rows fault))))) =
    window.no_rows n bytes r1 charged first r2 sets second r3 renamings third r4 bound (number_of r3 r4 bound fourth) (rows_none n r4 left fault)
window_none n bytes left (in_second charged r1 first (in_second sets r2 second (in_second renamings r3 third (in_second bound r4 fourth (in_order rows r5 read falls here))))) =
    window.no_rise n bytes r1 charged first r2 sets second r3 renamings third r4 bound (number_of r3 r4 bound fourth) r5 rows read falls

windows_none : (n : ℕ) → Refutes (counted (window_bytes n)) (AllFit (WindowFits n)) (FaultOfWindows n)
windows_none n = counted_none (window_bytes n) (WindowFits n) (FaultOfWindow n) (window_one n) (window_none n)

pub cert_none : (bytes : List ℕ) (left : ℕ) → FaultOfCert bytes left → (c : CertParts) → IsSpelling bytes c → ⊥
cert_none bytes left (in_first fault) = no_numbers bytes fault.none
cert_none bytes left (in_second h rest first (in_first fault)) = no_windows bytes rest h first (windows_none h.vertices rest left fault)
cert_none bytes left (in_second h rest first (in_second windows last second fault)) = more_left bytes rest h first last windows second fault.some

pub faults_spell_none : FaultsSpellNone
faults_spell_none bytes at is = cert_none bytes is.0 is.1

-- ---- a fault has one place

abbrev HasOne : (List ℕ → ℕ → Type 0) → Type 0
HasOne Fault = (bytes : List ℕ) (a b : ℕ) → Fault bytes a → Fault bytes b → a ≡ b

missing_one : {X : Type 0} → (spell : X → List ℕ) (Fits : X → Type 0) → HasOne (IsMissing spell Fits)
missing_one spell Fits bytes a b x y = x.here ∙ sym y.here

module _ {X : Type 0} (spell : X → List ℕ) (Fits : X → Type 0) (First : List ℕ → ℕ → Type 0) (Second : X → List ℕ → ℕ → Type 0) (one : IsOne spell Fits) (refutes : Refutes spell Fits First)
    (first_one : HasOne First) (second_one : (x : X) → HasOne (Second x)) where
  both_one : HasOne (FaultOfBoth spell Fits First Second)
  both_one bytes a b (in_first p) (in_first q) = first_one bytes a b p q
  both_one bytes a b (in_first p) (in_second y s begins q) = absurd (refutes bytes a p s y begins)
  both_one bytes a b (in_second x r begins p) (in_first q) = absurd (refutes bytes b q r x begins)
  both_one bytes a b (in_second x r begins p) (in_second y s others q) =
      let same = begins_one spell Fits one bytes r s x y begins others in
      second_one y s a b (subst (λ x. Second x s a) same.0 (subst (λ r. Second x r a) same.1 p)) q

module _ {X : Type 0} (spell : X → List ℕ) (Fits : X → Type 0) (Fault : List ℕ → ℕ → Type 0) (one : IsOne spell Fits) (refutes : Refutes spell Fits Fault) (fault_one : HasOne Fault) where
  three_ways : (k m : ℕ) → (k < m) ⊎ ((k ≡ m) ⊎ (m < k))
  three_ways k m = grind arith

  many_one : (count : ℕ) → HasOne (FaultOfMany spell Fits Fault count)
  many_one count bytes a b x y = elim (three_ways x.before y.before) [
    | inl less ↦ absurd (go_on spell Fits one x.before y.before bytes x.rest y.rest x.items y.items x.read y.read less (refutes x.rest a x.fault))
    | inr (inl same) ↦
        let many : length x.items ≡ length y.items = x.read.many ∙ same ∙ sym y.read.many in
        let rests = list_one spell Fits one x.items y.items x.rest y.rest many x.read.fit y.read.fit (sym x.read.bytes_are ∙ y.read.bytes_are) in
        fault_one y.rest a b (subst (λ r. Fault r a) rests.1 x.fault) y.fault
    | inr (inr more) ↦ absurd (go_on spell Fits one y.before x.before bytes y.rest x.rest y.items x.items y.read x.read more (refutes y.rest b y.fault))
  ]

  counted_fault_one : HasOne (FaultOfCounted spell Fits Fault)
  counted_fault_one = both_one (big_endian 4) IsWord FaultOfNumber (FaultOfMany spell Fits Fault) word_one (missing_none (big_endian 4) IsWord) (missing_one (big_endian 4) IsWord) many_one
    where
      word_one : IsOne (big_endian 4) IsWord
      word_one = λ x y r s p q e. number_one 4 x y r s p q e

word_is_one : IsOne (big_endian 4) IsWord
word_is_one x y r s p q e = number_one 4 x y r s p q e

from_set_one : (n : ℕ) (Rest : List ℕ → ℕ → Type 0) → HasOne Rest → HasOne (FaultFromSet n Rest)
from_set_one n Rest rest_one =
    both_one (set_bytes n) (AllBelow n) (FaultOfSet n) (λ s. Rest) (set_one n) (missing_none (set_bytes n) (AllBelow n)) (missing_one (set_bytes n) (AllBelow n)) (λ s. rest_one)

set_fault_one : (n : ℕ) → HasOne (FaultOfSet n)
set_fault_one n = missing_one (set_bytes n) (AllBelow n)

form_is_one : IsOne form_bytes IsForm
form_is_one x y r s p q e = byte_apart x y r s e

form_fault_one : (n form : ℕ) → HasOne (FaultOfForm n form)
form_fault_one n zero = many_one (set_bytes n) (AllBelow n) (FaultOfSet n) (set_one n) (missing_none (set_bytes n) (AllBelow n)) (set_fault_one n) n
form_fault_one n (suc zero) = λ bytes a b p q. absurd p
form_fault_one n (suc (suc form)) = set_fault_one n

charged_fault_one : (n : ℕ) → HasOne (FaultOfCharged n)
charged_fault_one n = both_one form_bytes IsForm (IsMissing form_bytes IsForm) (FaultOfForm n) form_is_one (missing_none form_bytes IsForm) (missing_one form_bytes IsForm) (form_fault_one n)

sets_fault_one : (n : ℕ) → HasOne (FaultOfSets n)
sets_fault_one n = from_set_one n (FaultFromSet n (FaultOfSet n)) (from_set_one n (FaultOfSet n) (set_fault_one n))

row_fault_one : (n : ℕ) → HasOne (FaultOfRow n)
row_fault_one n = from_set_one n (FaultFromSet n FaultOfNumber) (from_set_one n FaultOfNumber (missing_one (big_endian 4) IsWord))

rows_fault_one : (n : ℕ) → HasOne (FaultOfRows n)
rows_fault_one n = counted_fault_one (row_bytes n) (RowFits n) (FaultOfRow n) (row_one n) (row_none n) (row_fault_one n)

table_fault_one : (n : ℕ) → HasOne (FaultOfTable n)
table_fault_one n bytes a b (in_rows p) (in_rows q) = rows_fault_one n bytes a b p q
table_fault_one n bytes a b (in_rows p) (in_order rows rest read falls here) = absurd (rows_none n bytes a p rest rows read)
table_fault_one n bytes a b (in_order rows rest read falls here) (in_rows q) = absurd (rows_none n bytes b q rest rows read)
table_fault_one n bytes a b (in_order xs r p f here) (in_order ys s q g there) = here ∙ sym there

renamings_fault_one : (n : ℕ) → HasOne (FaultOfRenamings n)
renamings_fault_one n =
    counted_fault_one renaming_bytes (RenamingFits n) (FaultOfRenaming n) (renaming_one n) (missing_none renaming_bytes (RenamingFits n)) (missing_one renaming_bytes (RenamingFits n))

window_fault_one : (n : ℕ) → HasOne (FaultOfWindow n)
window_fault_one n =
    both_one (charged_bytes n) (ChargedFits n) (FaultOfCharged n) _ (charged_one n) (charged_none n) (charged_fault_one n)
    (λ c. both_one (sets_bytes n) (SetsFit n) (FaultOfSets n) _ (window.sets_one n) (three_none n) (sets_fault_one n)
    (λ s. both_one (counted renaming_bytes) (AllFit (RenamingFits n)) (FaultOfRenamings n) _ (renamings_one n) (renamings_none n) (renamings_fault_one n)
    (λ r. both_one (big_endian 4) IsWord FaultOfNumber _ word_is_one (missing_none (big_endian 4) IsWord) (missing_one (big_endian 4) IsWord) (λ b. table_fault_one n))))

windows_fault_one : (n : ℕ) → HasOne (FaultOfWindows n)
windows_fault_one n = counted_fault_one (window_bytes n) (WindowFits n) (FaultOfWindow n) (window_one n) (window_none n) (window_fault_one n)

left_one : HasOne IsLeft
left_one bytes a b x y = x.here ∙ sym y.here

cert_fault_one : HasOne FaultOfCert
cert_fault_one =
    both_one header_bytes HeaderFits (IsMissing header_bytes HeaderFits) _ header_one (missing_none header_bytes HeaderFits) (missing_one header_bytes HeaderFits)
    (λ h. both_one (counted (window_bytes h.vertices)) (AllFit (WindowFits h.vertices)) (FaultOfWindows h.vertices) _ (windows_one h.vertices) (windows_none h.vertices) (windows_fault_one h.vertices) (λ w. left_one))

pub fault_is_one : FaultIsOne
fault_is_one bytes a b x y = x.2 ∙ ap (λ left. length bytes - left) (cert_fault_one bytes x.0 y.0 x.1 y.1) ∙ sym y.2
