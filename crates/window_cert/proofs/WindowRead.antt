-- A window at the front of bytes.
use Rattle.std.proofs.Common.{◌≡◌, ℕ, List, ◌++◌, sym, ap, ◌∙◌, subst, arith, append_assoc}
use Rattle.comp_graph.specs.Vertices.{Vertices, AllBelow}
use Rattle.potential_cert.specs.declared.tables.Row.{Row}
use Rattle.potential_cert.specs.Table.{IsRising}
use Rattle.potential_cert.specs.Order.{precedes}
use Rattle.potential_cert.specs.TableBytes.{big_endian}
use Rattle.potential_cert.specs.Readings.{BeginsWithNumber}
use Rattle.potential_cert.proofs.Codes.{number_one}
use Rattle.window_cert.specs.declared.reading.ThreeSets.{ThreeSets}
use Rattle.window_cert.specs.Certs.{ChargedParts, WindowParts}
use Rattle.window_cert.specs.Bytes.{set_bytes, counted, charged_bytes, renaming_bytes, row_bytes, window_bytes, AllFit, ChargedFits, RenamingFits, RowFits, WindowFits}
use Rattle.window_cert.specs.Parts.{sets_bytes, SetsFit}
use Rattle.window_cert.specs.Readings.{BeginsWith, BeginsWithNone}
use Rattle.window_cert.specs.Faults.{IsWord}
use Rattle.window_cert.proofs.Begins.{IsOne, begins_one}
use Rattle.window_cert.proofs.OneSet.{set_one}
use Rattle.window_cert.proofs.OneSpelling.{charged_one, renamings_one, rows_one, window_cut}

-- ---- three sets

sets_cut : (n : ℕ) (x : ThreeSets) (r : List ℕ) → sets_bytes n x ++ r ≡ set_bytes n x.stores ++ (set_bytes n x.tracked ++ (set_bytes n x.required ++ r))
sets_cut n x r =
    append_assoc (set_bytes n x.stores) (set_bytes n x.tracked ++ set_bytes n x.required) r
    ∙ ap (λ y. set_bytes n x.stores ++ y) (append_assoc (set_bytes n x.tracked) (set_bytes n x.required) r)

pub sets_one : (n : ℕ) → IsOne (sets_bytes n) (SetsFit n)
sets_one n x y r s a b e =
    let stores = set_one n x.stores y.stores _ _ a.stores b.stores (sym (sets_cut n x r) ∙ e ∙ sets_cut n y s) in
    let tracked = set_one n x.tracked y.tracked _ _ a.tracked b.tracked stores.1 in
    let required = set_one n x.required y.required r s a.required b.required tracked.1 in
    ((λ i. record { stores = stores.0 i; tracked = tracked.0 i; required = required.0 i }), required.1)

pub no_stores : (n : ℕ) (bytes : List ℕ) → BeginsWithNone (set_bytes n) (AllBelow n) bytes → BeginsWithNone (sets_bytes n) (SetsFit n) bytes
no_stores n bytes none rest x begins =
    none (set_bytes n x.tracked ++ (set_bytes n x.required ++ rest)) x.stores (record { fits = begins.fits.stores; bytes_are = begins.bytes_are ∙ sets_cut n x rest })

module _ (n : ℕ) (bytes r1 : List ℕ) (stores : Vertices) (first : BeginsWith (set_bytes n) (AllBelow n) bytes r1 stores) where
  behind_stores : (rest : List ℕ) (x : ThreeSets) → BeginsWith (sets_bytes n) (SetsFit n) bytes rest x → r1 ≡ set_bytes n x.tracked ++ (set_bytes n x.required ++ rest)
  behind_stores rest x begins =
      (begins_one (set_bytes n) (AllBelow n) (set_one n) bytes r1 (set_bytes n x.tracked ++ (set_bytes n x.required ++ rest)) stores x.stores first
      (record { fits = begins.fits.stores; bytes_are = begins.bytes_are ∙ sets_cut n x rest })).1

  pub no_tracked : BeginsWithNone (set_bytes n) (AllBelow n) r1 → BeginsWithNone (sets_bytes n) (SetsFit n) bytes
  no_tracked none rest x begins = none (set_bytes n x.required ++ rest) x.tracked (record { fits = begins.fits.tracked; bytes_are = behind_stores rest x begins })

  module _ (r2 : List ℕ) (tracked : Vertices) (second : BeginsWith (set_bytes n) (AllBelow n) r1 r2 tracked) where
    pub no_required : BeginsWithNone (set_bytes n) (AllBelow n) r2 → BeginsWithNone (sets_bytes n) (SetsFit n) bytes
    no_required none rest x begins =
        let left = begins_one (set_bytes n) (AllBelow n) (set_one n) r1 r2 (set_bytes n x.required ++ rest) tracked x.tracked second
        (record { fits = begins.fits.tracked; bytes_are = behind_stores rest x begins }) in
        none rest x.required (record { fits = begins.fits.required; bytes_are = left.1 })

    pub sets_read : (r3 : List ℕ) (required : Vertices) → BeginsWith (set_bytes n) (AllBelow n) r2 r3 required
        → BeginsWith (sets_bytes n) (SetsFit n) bytes r3 (record { stores = stores; tracked = tracked; required = required })
    sets_read r3 required third = record {
      fits = record { stores = first.fits; tracked = second.fits; required = third.fits };
      bytes_are =
          first.bytes_are ∙ ap (λ x. set_bytes n stores ++ x) (second.bytes_are ∙ ap (λ x. set_bytes n tracked ++ x) third.bytes_are)
          ∙ sym (sets_cut n (record { stores = stores; tracked = tracked; required = required }) r3);
    }

-- ---- a window

-- the three sets of a window
abbrev sets_of : WindowParts → ThreeSets
sets_of w = record { stores = w.stores; tracked = w.tracked; required = w.required }

abbrev from_rows : ℕ → WindowParts → List ℕ → List ℕ
from_rows n w rest = counted (row_bytes n) w.rows ++ rest

abbrev from_bound : ℕ → WindowParts → List ℕ → List ℕ
from_bound n w rest = big_endian 4 w.bound ++ from_rows n w rest

abbrev from_renamings : ℕ → WindowParts → List ℕ → List ℕ
from_renamings n w rest = counted renaming_bytes w.renamings ++ from_bound n w rest

abbrev from_sets : ℕ → WindowParts → List ℕ → List ℕ
from_sets n w rest = sets_bytes n (sets_of w) ++ from_renamings n w rest

parts_cut : (n : ℕ) (w : WindowParts) (rest : List ℕ) → window_bytes n w ++ rest ≡ charged_bytes n w.charged ++ from_sets n w rest
parts_cut n w rest = window_cut n w rest ∙ ap (λ x. charged_bytes n w.charged ++ x) (sym (sets_cut n (sets_of w) (from_renamings n w rest)))

sets_fit : (n : ℕ) (w : WindowParts) → WindowFits n w → SetsFit n (sets_of w)
sets_fit n w fits = record { stores = fits.stores; tracked = fits.tracked; required = fits.required }

module _ (n : ℕ) (bytes : List ℕ) where
  abbrev Begins : List ℕ → WindowParts → Type 0
  Begins rest w = BeginsWith (window_bytes n) (WindowFits n) bytes rest w

  abbrev None : Type 0
  None = BeginsWithNone (window_bytes n) (WindowFits n) bytes

  pub no_charged : BeginsWithNone (charged_bytes n) (ChargedFits n) bytes → None
  no_charged none rest w begins = none (from_sets n w rest) w.charged (record { fits = begins.fits.charged; bytes_are = begins.bytes_are ∙ parts_cut n w rest })

  module _ (r1 : List ℕ) (charged : ChargedParts) (first : BeginsWith (charged_bytes n) (ChargedFits n) bytes r1 charged) where
    behind_charged : (rest : List ℕ) (w : WindowParts) → Begins rest w → BeginsWith (sets_bytes n) (SetsFit n) r1 (from_renamings n w rest) (sets_of w)
    behind_charged rest w begins = record {
      fits = sets_fit n w begins.fits;
      bytes_are =
          (begins_one (charged_bytes n) (ChargedFits n) (charged_one n) bytes r1 (from_sets n w rest) charged w.charged first
          (record { fits = begins.fits.charged; bytes_are = begins.bytes_are ∙ parts_cut n w rest })).1;
    }

    pub no_sets : BeginsWithNone (sets_bytes n) (SetsFit n) r1 → None
    no_sets none rest w begins = none (from_renamings n w rest) (sets_of w) (behind_charged rest w begins)

    module _ (r2 : List ℕ) (sets : ThreeSets) (second : BeginsWith (sets_bytes n) (SetsFit n) r1 r2 sets) where
      behind_sets : (rest : List ℕ) (w : WindowParts) → Begins rest w → BeginsWith (counted renaming_bytes) (AllFit (RenamingFits n)) r2 (from_bound n w rest) w.renamings
      behind_sets rest w begins = record {
        fits = begins.fits.renamings;
        bytes_are = (begins_one (sets_bytes n) (SetsFit n) (sets_one n) r1 r2 (from_renamings n w rest) sets (sets_of w) second (behind_charged rest w begins)).1;
      }

      pub no_renamings : BeginsWithNone (counted renaming_bytes) (AllFit (RenamingFits n)) r2 → None
      no_renamings none rest w begins = none (from_bound n w rest) w.renamings (behind_sets rest w begins)

      module _ (r3 : List ℕ) (renamings : List (List ℕ)) (third : BeginsWith (counted renaming_bytes) (AllFit (RenamingFits n)) r2 r3 renamings) where
        behind_renamings : (rest : List ℕ) (w : WindowParts) → Begins rest w → r3 ≡ from_bound n w rest
        behind_renamings rest w begins =
            (begins_one (counted renaming_bytes) (AllFit (RenamingFits n)) (renamings_one n) r2 r3 (from_bound n w rest) renamings w.renamings third (behind_sets rest w begins)).1

        pub no_bound : BeginsWithNone (big_endian 4) IsWord r3 → None
        no_bound none rest w begins = none (from_rows n w rest) w.bound (record { fits = begins.fits.bound; bytes_are = behind_renamings rest w begins })

        module _ (r4 : List ℕ) (bound : ℕ) (fourth : BeginsWithNumber 4 r3 r4 bound) where
          behind_bound : (rest : List ℕ) (w : WindowParts) → Begins rest w → BeginsWith (counted (row_bytes n)) (AllFit (RowFits n)) r4 rest w.rows
          behind_bound rest w begins = record {
            fits = begins.fits.rows;
            bytes_are =
                (number_one 4 bound w.bound r4 (from_rows n w rest) (let fits = fourth.fits in omega arith) begins.fits.bound
                (sym fourth.bytes_are ∙ behind_renamings rest w begins)).1;
          }

          pub no_rows : BeginsWithNone (counted (row_bytes n)) (AllFit (RowFits n)) r4 → None
          no_rows none rest w begins = none rest w.rows (behind_bound rest w begins)

          module _ (r5 : List ℕ) (rows : List Row) (fifth : BeginsWith (counted (row_bytes n)) (AllFit (RowFits n)) r4 r5 rows) where
            pub no_rise : (IsRising precedes rows → ⊥) → None
            no_rise falls rest w begins =
                let same = begins_one (counted (row_bytes n)) (AllFit (RowFits n)) (rows_one n) r4 r5 rest rows w.rows fifth (behind_bound rest w begins) in
                falls (subst (IsRising precedes) (sym same.0) begins.fits.rise)

            abbrev window_read : WindowParts
            window_read = record {
              charged = charged;
              stores = sets.stores;
              tracked = sets.tracked;
              required = sets.required;
              renamings = renamings;
              bound = bound;
              rows = rows;
            }

            pub window_begins : IsRising precedes rows → BeginsWith (window_bytes n) (WindowFits n) bytes r5 window_read
            window_begins rise = record {
              fits = record {
                charged = first.fits;
                stores = second.fits.stores;
                tracked = second.fits.tracked;
                required = second.fits.required;
                renamings = third.fits;
                bound = let fits = fourth.fits in omega arith;
                rows = fifth.fits;
                rise = rise;
              };
              bytes_are =
                  first.bytes_are ∙ ap (λ x. charged_bytes n charged ++ x) (second.bytes_are ∙ ap (λ x. sets_bytes n sets ++ x) (third.bytes_are
                  ∙ ap (λ x. counted renaming_bytes renamings ++ x) (fourth.bytes_are ∙ ap (λ x. big_endian 4 bound ++ x) fifth.bytes_are)))
                  ∙ sym (parts_cut n window_read r5);
            }
