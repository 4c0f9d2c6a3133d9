-- The entry: each check that fails ends the call as the definition says, and rows that pass them have a grown parity check. The reduced
-- rows of that check have the same table, so what is built of them is what the rows ask for.
use mathlib.Core.Path.{◌≡◌, refl, sym, ap, subst, ◌∙◌}
use mathlib.Core.Bool.{Bool, true, false, cond}
use mathlib.Core.List.{List}
use Prim.Native.Nat.{ℕ, ◌+◌, ◌*◌, ◌^◌, ◌≤◌, ◌<◌}
use native.Mathlib.Omega.{arith}
use native.Mathlib.Nat.{mul_comm, mul-le-mul}
use native.Mathlib.Numerals.{add-one}
use lib.ListN.{length, take}
use lib.Dec.{ltb}
use lib.Pow.{pow_mono}
use borrow.Author.Tests.{lt-ltb, ltb-true}
use Rattle.answers.specs.declared.merge_rows.MergeRowsRefusal.{MergeRowsRefusal}
use Rattle.std.specs.Prelude.{Option, Some, None, Result}
use Rattle.std.proofs.lemmas.Option.{cond_some, none-some}
use Rattle.trellis.specs.Bounds.{most_symbols, most_state_bits}
use Rattle.trellis.specs.Outcome.{bad_rows, dependent_row, short_buffer, short_map}
use Rattle.trellis.specs.Lists.{found_below}
use Rattle.answers.specs.Answers.{merged_rows_outcome}
use Rattle.answers.specs.declared.merge_rows.MergeRowsRefusal.TheVariants.{ShortFile, ShortMap}
use Rattle.std.specs.Prelude.{Err}
use Rattle.merging.specs.Merging.{map_length}
use Rattle.rows.specs.Sums.{first_dependent}
use Rattle.rows.specs.Table.{row_width, table_of, sizes_fit, first_wide}
use Rattle.rows.specs.Inner.Reduced.{Narrow, Spans, reduced_rows}
use Rattle.rows.proofs.Growing.{grown_spans, echelon}
use Rattle.rows.proofs.Vertices.{table_count}
use Rattle.rows.proofs.Meaning.{same_table, reduced_narrow}
use Rattle.parity.specs.Inner.Steps.{Checked, Basis}
use Rattle.row_checks.proofs.Checks.{fit_bits, fit_some, fit_symbols, fit_rows, not_wide}
use Rattle.merging_rows.specs.MergingRows.{MergingRows, left, rows_file, merged_rows, merging_rows}
use Rattle.merging_rows.specs.Inner.Stages.{BaseAsked, BuildAsked, RowsEnd}
use Rattle.merging_rows.proofs.Ways.{file_length, by_sizes, by_width, by_dependence, by_checks, by_file, by_map, same_rows}
use Rattle.merging_rows.proofs.Ending.{ends_by}

-- ---- rows that passed, reduced

module _ {s n : ℕ} {rows columns : List ℕ} (K : BaseAsked s n rows columns) {w : ℕ} (power : w ≡ 2 ^ length rows) where
  narrow : Narrow 16 rows
  narrow j h =
      let e : row_width s n ≤ 16 = omega (arith, K.states, K.symbols) in
      omega (arith, K.narrow j h, pow_mono {i = row_width s n} {j = 16} e)

  words_are : length (table_of s n rows) ≡ w
  words_are = table_count s n K.echelon narrow ∙ sym power

  file_is_lem : length (rows_file s n rows) ≡ 5 + 4 * w
  file_is_lem = file_length s n rows ∙ ap (λ k. 5 + 4 * k) words_are

  map_is_lem : map_length n (table_of s n rows) ≡ w * (n + 1)
  map_is_lem = ap (λ k. k * (n + 1)) words_are

  pub map_small : w ≤ 1024 → w * (n + 1) ≤ 9216
  map_small h = let q : n + 1 ≤ most_symbols + 1 = omega (arith, K.symbols) in
      let p : w * (n + 1) ≤ 1024 * (most_symbols + 1) = mul-le-mul h q in omega arith

  module _ (file map section : List ℕ) where
    pub short_file : length file < 5 + 4 * w → RowsEnd (merged_rows s n rows file map section) (Err (ShortFile (5 + 4 * w))) file map section
    short_file h = ends_by (by_file s n rows file map section (omega (arith, file_is_lem)))
        (record { answer_is = ap short_buffer (sym file_is_lem); file_is = refl; map_is = refl; section_is = refl })

    module _ (room : 5 + 4 * w ≤ length file) where
      pub short_map_lem : length map < w * (n + 1) → RowsEnd (merged_rows s n rows file map section) (Err (ShortMap (w * (n + 1)))) file map section
      short_map_lem h = ends_by (by_map s n rows file map section (omega (arith, file_is_lem)) (omega (arith, map_is_lem)))
          (record { answer_is = ap short_map (sym map_is_lem); file_is = refl; map_is = refl; section_is = refl })

  pub build_asked : {file map : List ℕ} → 5 + 4 * w ≤ length file → w * (n + 1) ≤ length map → BuildAsked s n rows columns w file map
  build_asked {file} {map} room h = record {
    asked = record {
      echelon = K.echelon;
      narrow = K.narrow;
      few = K.few;
      states = K.states;
      some = K.some;
      symbols = K.symbols;
      words = power;
      room = subst (λ k. k ≤ length map) (mul_comm w (n + 1) ∙ ap (λ k. k * w) (add-one n)) h;
    };
    file_room = room;
  }

-- ---- the checks

-- the end as one equation
whole : {m : MergingRows} {r : Result ℕ MergeRowsRefusal} {file map section : List ℕ} → RowsEnd m r file map section
    → left (merged_rows_outcome r) file map section ≡ m
whole R = λ i. left (R.answer_is i) (R.file_is i) (R.map_is i) (R.section_is i)

-- what a search came to
found_some : (m i : ℕ) {row : ℕ} → found_below m i ≡ Some row → (i < m) × (i ≡ row)
found_some m i e = let t = cond_some (ltb i m) i _ e in (ltb-true i m t.0, t.1)

found_none : (m i : ℕ) → found_below m i ≡ None → i < m → ⊥
found_none m i e h = none-some i (sym e ∙ ap (λ t. cond t (Some i) None) (lt-ltb i m h))

module _ (s n : ℕ) (rows : List ℕ) {b : Bool} (is : b ≡ sizes_fit s n (length rows)) where
  pub bad_sizes : (file map section : List ℕ) → b ≡ false
      → left (bad_rows (length rows)) file map section ≡ merging_rows s n rows file map section
  bad_sizes file map section e = sym (by_sizes s n rows file map section (sym is ∙ e))

  module _ (passed : b ≡ true) where
    fit : sizes_fit s n (length rows) ≡ true
    fit = sym is ∙ passed

    pub few_bits : s ≤ most_state_bits
    few_bits = fit_bits s n (length rows) fit

    pub few_symbols : n ≤ most_symbols
    few_symbols = fit_symbols s n (length rows) fit

    module _ {found : Option ℕ} (search : found ≡ found_below (length rows) (first_wide (row_width s n) rows)) where
      pub bad_row : (file map section : List ℕ) (row : ℕ) → found ≡ Some row
          → left (bad_rows row) file map section ≡ merging_rows s n rows file map section
      bad_row file map section row e =
          let at = found_some (length rows) (first_wide (row_width s n) rows) (sym search ∙ e) in
          ap (λ x. left (bad_rows x) file map section) (sym at.1) ∙ sym (by_width s n rows file map section fit at.0)

      module _ (none : found ≡ None) where
        not_found : first_wide (row_width s n) rows < length rows → ⊥
        not_found = found_none (length rows) (first_wide (row_width s n) rows) (sym search ∙ none)

        fits : Narrow (row_width s n) rows
        fits = not_wide (row_width s n) rows not_found

        pub check_asked : Narrow 16 rows
        check_asked j h =
            let e : row_width s n ≤ 16 = omega (arith, few_bits, few_symbols) in
            omega (arith, fits j h, pow_mono {i = row_width s n} {j = 16} e)

        pub bad_dependent : (file map section : List ℕ) (first : ℕ) → (first < length rows) × (first ≡ first_dependent rows)
            → left (dependent_row first) file map section ≡ merging_rows s n rows file map section
        bad_dependent file map section first C = ap (λ x. left (dependent_row x) file map section) C.1
            ∙ sym (by_dependence s n rows file map section fit not_found (omega (arith, C.0, C.1)))

        module _ {columns : List ℕ} (C : Checked rows columns (length rows)) where
          abbrev G : Spans 16 rows columns
          G = grown_spans (C.grown refl)

          module _ {array given : List ℕ} {count : ℕ} (R : Basis columns array count) (lent : given ≡ take count array) where
            given_are : given ≡ reduced_rows columns
            given_are = lent ∙ R.are

            pub base_asked : BaseAsked s n given columns
            base_asked = subst (λ l. BaseAsked s n l columns) (sym given_are) (record {
              echelon = echelon G;
              narrow = reduced_narrow (row_width s n) G fits;
              few = omega (arith, (C.grown refl).count, fit_rows s n (length rows) fit);
              states = few_bits;
              some = fit_some s n (length rows) fit;
              symbols = few_symbols;
            })

            pub as_built : (file map section : List ℕ) {r : Result ℕ MergeRowsRefusal} {file' map' section' : List ℕ}
                → RowsEnd (merged_rows s n given file map section) r file' map' section'
                → left (merged_rows_outcome r) file' map' section' ≡ merging_rows s n rows file map section
            as_built file map section E = whole E
                ∙ sym (by_checks s n rows file map section fit not_found (λ h. omega (arith, C.is))
                ∙ same_rows s n rows given file map section
                (same_table s n G check_asked ∙ ap (table_of s n) (sym given_are)))
