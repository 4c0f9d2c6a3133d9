-- What measuring answers for a table, with a map that is long enough for every table and no room for a section: a table that is refused or
-- not rectangular has its own refusal, 1 to 4 or 6, and one that has a section is answered by 7, with the counts of that section.
use mathlib.Core.Path.{◌≡◌, refl, sym, ap, ◌∙◌}
use mathlib.Core.List.{List, [], ◌∷◌}
use Prim.Native.Nat.{ℕ, ◌≤◌, ◌<◌}
use native.Mathlib.Omega.{arith}
use native.Mathlib.Nat.{le_of_eq}
use lib.ListN.{length, replicate, length-replicate}
use borrow.Author.Tests.{lt-ltb, le-ltb}
use Rattle.trellis.specs.Bounds.{most_symbols, most_words}
use Rattle.trellis.specs.Word.{Word}
use Rattle.trellis.specs.Witness.{Witness, found, nothing, witness}
use Rattle.trellis.specs.Outcome.{Outcome, outcome}
use Rattle.trellis.specs.Layout.{section_of}
use Rattle.outcomes.specs.Inner.Holds.{Holds}
use Rattle.outcomes.proofs.Held.{holds_by}
use Rattle.std.specs.Prelude.{Result, Ok, Err}
use Rattle.outcomes.specs.declared.Returned.{Returned}
use Rattle.answers.specs.Answers.{merged_outcome}
use Rattle.answers.specs.declared.merge.MergeRefusal.{MergeRefusal}
use Rattle.answers.specs.declared.merge.MergeRefusal.TheVariants.{Length, Size, Word as BadWord, Order, ShortMap, NotRectangular, ShortSection}
use Rattle.table.specs.File.{TableFile, refused, accepted, table_file}
use Rattle.table.proofs.Accepted.{accepted_good}
use Rattle.merging.specs.Merging.{map_length, written, merged, merged_table, merged_file, merging}
use Rattle.merging.specs.Inner.Sizes.{sized_by, sized_table, sized_file, sizing, Measured as Sized}
use Rattle.text.specs.Inner.Digits.{AllBelow}
use Rattle.listing.proofs.Room.{any_map, long_enough}
use Rattle.listing.proofs.Refusals.{Small, witness_refusal, file_refusal}
use Rattle.listing.proofs.Merged.{counts_inside, additions_over, selections_over}
use Rattle.input_parts.specs.Input.{any_table, witness_outcome, table_outcome, section_in}
use Rattle.input_parts.specs.Inner.Read.{additions_of, selections_of, Fault, TableMeasured}
use Rattle.input_parts.proofs.Head.{fault_by}

-- an answer of measuring, and the sizes that it leaves
record Answers (f : TableFile) (o : Outcome) (sizes : List ℕ) : Type 0 where
  refused_is : (o.number ≡ 7 → ⊥) → o ≡ table_outcome f
  small : (o.number ≡ 7 → ⊥) → AllBelow 6 (o.number ∷ o.values)
  some : 0 < o.number
  accepted_is : o.number ≡ 7 → table_outcome f ≡ outcome 0 []
  additions_are : o.number ≡ 7 → additions_of sizes ≡ additions_of (section_in f)
  selections_are : o.number ≡ 7 → selections_of sizes ≡ selections_of (section_in f)

module _ (map sizes : List ℕ) where
  module _ (q n states : ℕ) (table : List Word) (few_symbols : n ≤ most_symbols) (few_words : length table ≤ most_words) where
    by_witness : (w : Witness) → witness n table ≡ w
        → Answers (accepted q n states table) (merged q n states table map [] w).answer (sized_by q n states table sizes w)
    unfolding merged written sized_by
    by_witness (found t i j k) e = record {
      refused_is = λ h. sym (ap witness_outcome e);
      small = λ h. (witness_refusal n table few_symbols few_words t i j k e).small;
      some = omega arith;
      accepted_is = λ h. absurd (omega arith);
      additions_are = λ h. absurd (omega arith);
      selections_are = λ h. absurd (omega arith);
    }
    by_witness nothing e =
        simp (lt-ltb 0 (length (section_of q n states table)) (omega (arith, counts_inside q n states table)))
        (record {
          refused_is = λ h. absurd (h refl);
          small = λ h. absurd (h refl);
          some = omega arith;
          accepted_is = λ h. ap witness_outcome e;
          additions_are = λ h. additions_over q n states table sizes;
          selections_are = λ h. selections_over q n states table sizes;
        })

    by_table : map_length n table ≤ length map
        → Answers (accepted q n states table) (merged_table q n states table map []).answer (sized_table q n states table map sizes)
    unfolding merged_table sized_table
    by_table room = simp (le-ltb (length map) (map_length n table) room) (by_witness (witness n table) refl)

  module _ (map_long : any_map ≤ length map) (file : List ℕ) (short : Small (length file)) where
    by_file : (f : TableFile) → table_file file ≡ f → Answers f (merged_file map [] f).answer (sized_file map sizes f)
    unfolding merged_file sized_file
    by_file (refused o) e =
        let R = file_refusal file short e in
        record {
          refused_is = λ h. refl;
          small = λ h. R.small;
          some = R.some;
          accepted_is = λ h. absurd (omega (arith, R.low));
          additions_are = λ h. absurd (omega (arith, R.low));
          selections_are = λ h. absurd (omega (arith, R.low));
        }
    by_file (accepted q n states table) e =
        let G = accepted_good file e in
        by_table q n states table G.n_to G.count_to (omega (arith, (long_enough file e).0))

    answers : Answers (table_file file) (merging file map []).answer (sizing file map sizes)
    unfolding merging sizing
    answers = by_file (table_file file) refl

refused_other : (e : MergeRefusal) → ((k : ℕ) → e ≡ ShortSection k → ⊥) → (merged_outcome (Err e)).number ≡ 7 → ⊥
refused_other (Length k) h s = omega (arith, s)
refused_other (Size k) h s = omega (arith, s)
refused_other (BadWord k) h s = omega (arith, s)
refused_other (Order k) h s = omega (arith, s)
refused_other (ShortMap k) h s = omega (arith, s)
refused_other (NotRectangular t i j k) h s = omega (arith, s)
refused_other (ShortSection k) h s = h k refl

module _ (file : List ℕ) {r : Result ℕ MergeRefusal} {map none sizes : List ℕ} (short : length file ≤ any_table)
    (M : Sized file (replicate any_map 0) none r map sizes) where
  abbrev of_file : Answers (table_file file) (merging file (replicate any_map 0) []).answer (sizing file (replicate any_map 0) none)
  of_file = answers (replicate any_map 0) none (le_of_eq (sym (length-replicate {A = ℕ} any_map 0))) file (omega arith)

  number_is_lem : (merged_outcome r).number ≡ (merging file (replicate any_map 0) []).answer.number
  number_is_lem = ap (λ (o : Outcome). o.number) M.answer_is

  pub measured_never : {length : ℕ} → r ≡ Ok length → ⊥
  measured_never e =
      let zero : (merged_outcome r).number ≡ 0 = ap (λ r. (merged_outcome r).number) e in
      omega (arith, of_file.some, number_is_lem, zero)

  pub measured_refused : {refusal : MergeRefusal} → r ≡ Err refusal → ((k : ℕ) → refusal ≡ ShortSection k → ⊥) → {x : Returned}
      → Holds (merged_outcome (Err refusal)) x.number x.count x.values → Fault (table_outcome (table_file file)) x
  measured_refused {refusal} e h H =
      let a : merged_outcome (Err refusal) ≡ (merging file (replicate any_map 0) []).answer = ap merged_outcome (sym e) ∙ M.answer_is in
      let n : (merging file (replicate any_map 0) []).answer.number ≡ 7 → ⊥ =
      λ s. refused_other refusal h (ap (λ (o : Outcome). o.number) a ∙ s) in
      fault_by (sym (of_file.refused_is n)) (record {
        some = λ z. omega (arith, of_file.some, ap (λ (o : Outcome). o.number) a, H.number_is, z);
        told = record { holds = holds_by (sym a) H; small = of_file.small n };
      })

  pub measured_accepted : {k : ℕ} → r ≡ Err (ShortSection k) → {added selected : ℕ}
      → added ≡ additions_of sizes → selected ≡ selections_of sizes → TableMeasured (table_file file) added selected
  measured_accepted e a s =
      let seven : (merging file (replicate any_map 0) []).answer.number ≡ 7 =
      sym number_is_lem ∙ ap (λ r. (merged_outcome r).number) e in
      record {
        outcome_is = of_file.accepted_is seven;
        additions_are = a ∙ ap additions_of M.sizes_are ∙ of_file.additions_are seven;
        selections_are = s ∙ ap selections_of M.sizes_are ∙ of_file.selections_are seven;
      }
