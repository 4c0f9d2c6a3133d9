-- A file's answer is that of the check where it refuses, else that of the file's words.
use mathlib.Core.Path.{◌≡◌, refl, sym, ap, subst, ◌∙◌}
use mathlib.Core.List.{List}
use Prim.Native.Nat.{ℕ}
use lib.ListN.{length}
use Rattle.trellis.specs.Outcome.{Outcome}
use Rattle.answers.specs.declared.merge.MergeRefusal.{MergeRefusal}
use Rattle.fields.specs.Fields.{file_words}
use Rattle.table.specs.File.{accepted, refused, table_file, file_outcome}
use Rattle.std.specs.Prelude.{Ok, Err, Result}
use Rattle.table.specs.Inner.Answer.{Checked, checked_outcome}
use Rattle.table.specs.declared.Sizes.{Sizes}
use Rattle.table.proofs.Exactly.{checked_table, checked_refused}
use Rattle.merging.specs.Merging.{Ends, left, merged_file, merging, merged_table}
use Rattle.merging.specs.Inner.Sizes.{sized_table, sized_file, sizing, EndsSized}
use Rattle.merging.proofs.LastStage.{ends_by}

pub table_asked : (file : List ℕ) {r : Checked} {s : Sizes} → checked_outcome r ≡ file_outcome (table_file file) → r ≡ Ok s
    → (table_file file ≡ accepted s.q s.n s.states (file_words file)) × (s.words ≡ length (file_words file))
table_asked file e s = checked_table file (ap checked_outcome (sym s) ∙ e)

module _ (file map section sizes : List ℕ) where
  left_unchanged : (o : Outcome) → table_file file ≡ refused o → merging file map section ≡ left o map section
  unfolding merging merged_file
  left_unchanged o e = ap (merged_file map section) e

  -- 1 to 4
  pub ends_refused : {r : Checked} {refusal : MergeRefusal} → checked_outcome r ≡ file_outcome (table_file file) → r ≡ Err refusal
      → EndsSized (merging file map section) (sizing file map sizes) (Err refusal) map section sizes
  unfolding sizing sized_file
  ends_refused {r} {refusal} e s =
      let refused_by = checked_refused file (Err refusal) (ap checked_outcome (sym s) ∙ e) refl in
      record {
        ends = ends_by (left_unchanged (checked_outcome (Err refusal)) refused_by) refl refl refl;
        sizes_are = sym (ap (sized_file map sizes) refused_by);
      }

  by_words : (q n states : ℕ) → table_file file ≡ accepted q n states (file_words file)
      → merging file map section ≡ merged_table q n states (file_words file) map section
  unfolding merging merged_file
  by_words q n states e = ap (merged_file map section) e

  pub ends_table : (q n states : ℕ) → table_file file ≡ accepted q n states (file_words file) → {a : Result ℕ MergeRefusal} {map2 section2 sizes2 : List ℕ}
      → EndsSized (merged_table q n states (file_words file) map section) (sized_table q n states (file_words file) map sizes) a map2 section2
      sizes2
      → EndsSized (merging file map section) (sizing file map sizes) a map2 section2 sizes2
  unfolding sizing sized_file
  ends_table q n states e {a} {map2} {section2} {sizes2} E = record {
    ends = subst (λ m. Ends m a map2 section2) (sym (by_words q n states e)) E.ends;
    sizes_are = E.sizes_are ∙ sym (ap (sized_file map sizes) e);
  }
