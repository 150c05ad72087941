-- What delivering an answer leaves of a desk.
use Rattle.std.proofs.Common.{◌≡◌, ℕ, List, take, Option, None, Some, inl, inr, ◌∙◌, subst}
use Rattle.std.specs.Io.KnownBytes.{append_known}
use Rattle.desk_io.specs.declared.desk.Kind.{Kind}
use Rattle.desk_io.specs.declared.desk.Kind.TheVariants.{PutOutput, PutFile, ClearFile}
use Rattle.desk_io.specs.Counts.{Rose}
use Rattle.desk_io.specs.Known.{ToldFile, file_of}
use Rattle.answer_desk.specs.Deliver.{CutShort, TableCut, TextCut, SameWriteFaults, file_after}

-- where no write was tried in vain before, and none after, none was
pub then_same : {before mid now : Kind → ℕ} → SameWriteFaults before mid → SameWriteFaults mid now → SameWriteFaults before now
then_same a b = record { output = b.output ∙ a.output; file = b.file ∙ a.file; clear = b.clear ∙ a.clear }

-- where a write was cut short, the count of its kind rose
pub cut_rose : {D : Type 0} (file : D → ToldFile) (output : D → Option (List ℕ)) (faults : D → Kind → ℕ) (first old new : D) (printed : List ℕ) (table : Option (List ℕ))
    → SameWriteFaults (faults first) (faults old) → CutShort file output faults old new printed table → (kind : Kind) × Rose (faults first kind) (faults new kind)
cut_rose file output faults first old new printed None same cut =
    (PutOutput, subst (λ n. Rose n (faults new PutOutput)) same.output cut.cause)
cut_rose file output faults first old new printed (Some table) same (inl cut) =
    elim cut.cause [
      | inl cleared ↦ (ClearFile, subst (λ n. Rose n (faults new ClearFile)) same.clear cleared.0)
      | inr put ↦ (PutFile, subst (λ n. Rose n (faults new PutFile)) same.file put.0)
    ]
cut_rose file output faults first old new printed (Some table) same (inr cut) =
    (PutOutput, subst (λ n. Rose n (faults new PutOutput)) same.output cut.cause)

-- what was left of a desk on which nothing was written before is what was left of the desk at first
pub cut_from : {D : Type 0} (file : D → ToldFile) (output : D → Option (List ℕ)) (faults : D → Kind → ℕ) (first old new : D) (printed : List ℕ) (table : Option (List ℕ))
    → file old ≡ file first → output old ≡ output first → SameWriteFaults (faults first) (faults old) → CutShort file output faults old new printed table
    → CutShort file output faults first new printed table
cut_from file output faults first old new printed table same_file same_output same = by_table table
  where
    text_cut : (table : Option (List ℕ)) → TextCut file output faults old new printed table → TextCut file output faults first new printed table
    text_cut table cut = record {
      cause = subst (λ n. Rose n (faults new PutOutput)) same.output cut.cause;
      written = subst (λ f. file new ≡ file_after f table) same_file cut.written;
      prefix = (cut.prefix.0, cut.prefix.1, subst (λ o. output new ≡ append_known o (take cut.prefix.0 printed)) same_output cut.prefix.2);
      kept = (cut.kept.0 ∙ same.file, cut.kept.1 ∙ same.clear);
    }

    table_cut : (table : List ℕ) → TableCut file output faults old new table → TableCut file output faults first new table
    table_cut table cut = record {
      cause = elim cut.cause [
        | inl cleared ↦ inl (subst (λ n. Rose n (faults new ClearFile)) same.clear cleared.0, cleared.1 ∙ same_file, cleared.2 ∙ same.file)
        | inr put ↦ inr (subst (λ n. Rose n (faults new PutFile)) same.file put.0, put.1 ∙ same.clear, (put.2.0, put.2.1, subst (λ f. file new ≡ file_of f (take put.2.0 table)) same_file put.2.2))
      ];
      silent = cut.silent ∙ same_output;
      unsaid = cut.unsaid ∙ same.output;
    }

    by_table : (table : Option (List ℕ)) → CutShort file output faults old new printed table → CutShort file output faults first new printed table
    by_table None cut = text_cut None cut
    by_table (Some bytes) (inl cut) = inl (table_cut bytes cut)
    by_table (Some bytes) (inr cut) = inr (text_cut (Some bytes) cut)

-- without a table the file stays, also where the text is cut short
pub cut_keeps : {D : Type 0} (file : D → ToldFile) (output : D → Option (List ℕ)) (faults : D → Kind → ℕ) (old new : D) (printed : List ℕ) (table : Option (List ℕ))
    → table ≡ None → CutShort file output faults old new printed table → file new ≡ file old
cut_keeps file output faults old new printed None none cut = cut.written
cut_keeps file output faults old new printed (Some table) none cut = absurd (cc)

pub no_table_keeps : (now old : ToldFile) (table : Option (List ℕ)) → table ≡ None → now ≡ file_after old table → now ≡ old
no_table_keeps now old None none written = written
no_table_keeps now old (Some table) none written = absurd (cc)
