-- What merging generator rows comes to. The words are the sums of the rows, so the table is rectangular, for all rows. Rows that pass the
-- checks have few words, and these fit: their states are below 2 ^ s, since no row has bits above its width, and their symbols are bits. So
-- the file is accepted, and since there is no witness, merging it ends in refusal 5, refusal 7 or success, as merging the rows does. What
-- the rows' theory says of vertices and edges is cited.
use mathlib.Core.Path.{◌≡◌, refl, sym, ap, subst, ◌∙◌}
use mathlib.Core.Bool.{true, cond}
use mathlib.Core.List.{List}
use Prim.Native.Nat.{ℕ, suc, ◌+◌, ◌/◌, ◌^◌, ◌≤◌, ◌<◌}
use native.Mathlib.Omega.{arith}
use native.Mathlib.Nat.{mod-lt}
use native.Mathlib.Decide.{dec_lt}
use lib.ListN.{length, take, drop}
use lib.Seq.{take-append_seam}
use lib.Pow.{pow_pos, pow_mono, shr_lt}
use borrow.Author.Tests.{lt-ltb, eq-eqb}
use Rattle.trellis.specs.Bounds.{most_words}
use Rattle.trellis.specs.Lists.{◌∈◌, over}
use Rattle.trellis.specs.Label.{is_label}
use Rattle.trellis.specs.Word.{Word}
use Rattle.trellis.specs.Outcome.{short_map}
use Rattle.trellis.proofs.Witness.{witness_none}
use Rattle.packed.proofs.Packing.{label_packed}
use Rattle.table.specs.File.{table_file, accepted}
use Rattle.table.specs.Inner.Good.{GoodFile}
use Rattle.table.proofs.Exactly.{good_accepted}
use Rattle.merging.specs.Merging.{Merging, left, map_length, written, merged, merged_table, merged_file, merging}
use Rattle.merging.proofs.Success.{by_witness}
use Rattle.word_file.specs.TableBytes.{table_bytes}
use Rattle.rows.specs.Table.{row_width, spread, table_of, cut_at}
use Rattle.rows.specs.Inner.Reduced.{reduced_rows}
use Rattle.rows.proofs.Bits.{bit_lt}
use Rattle.rows.proofs.Words.{spread_lt}
use Rattle.rows.proofs.Tables.{in_table, of_table, word_sum, table_length, table_is, rectangular}
use Rattle.rows.proofs.Growing.{narrow_sum}
use Rattle.rows.proofs.Spanning.{spanned, spans_length, reduced_most}
use Rattle.rows.proofs.Steps.{symbol_bit}
use Rattle.rows.proofs.Meaning.{vertex_power, edge_power, share_syndrome}
use Rattle.row_checks.proofs.Checks.{fit_bits, fit_some, fit_symbols, fit_rows, wide_of, independent}
use Rattle.merging_rows.specs.MergingRows.{MergingRows, rows_file, with_file, merged_rows, merging_rows}
use Rattle.merging_rows.proofs.Ways.{file_length, by_checks, by_map, by_room}
use Rattle.demands.specs.Rows.{Sound, ExactlySums, BySyndromes, Powers, AsMerged, RowsMeaning}
use Rattle.demands.proofs.TableBytes.{count_back, words_back}

module _ (s n : ℕ) (rows : List ℕ) where
  abbrev table : List Word
  table = table_of s n rows

  exactly_sums : ExactlySums s n rows
  exactly_sums = record {
    every = λ w m. let k = of_table s n rows w m in record { row = k.row; sum = k.sum; is = k.is };
    only = λ x. (word_sum s n rows x, in_table s n rows x);
  }

  -- ---- what merging left, with the file

  as_by : {m m' : Merging} {r r' : MergingRows} → m ≡ m' → r ≡ r' → AsMerged s n rows m' r' → AsMerged s n rows m r
  as_by {m' = m'} {r = r} e f A = subst (λ x. AsMerged s n rows x r) (sym e) (subst (AsMerged s n rows m') (sym f) A)

  with_file_lem : (file map section : List ℕ) (m : Merging) → AsMerged s n rows m (with_file s n rows file map section m)
  unfolding with_file
  with_file_lem file map section m = record {
    answer = refl;
    map = refl;
    section = refl;
    file = λ z.
        ap (λ b. take (length (rows_file s n rows)) (cond b (over (rows_file s n rows) file) file)) (eq-eqb m.answer.number 0 z)
        ∙ take-append_seam (rows_file s n rows) (drop (length (rows_file s n rows)) file);
  }

  module _ (O : Sound s n rows) where
    some : 0 < n
    some = fit_some s n (length rows) O.fit

    -- ---- the words fit

    few : (1 ≤ length table) × (length table ≤ most_words)
    few =
        let S = spanned (row_width s n) rows O.narrow in
        let e = table_length s n rows ∙ spans_length S.spans O.narrow in
        let most = reduced_most S.spans O.narrow in
        let k = fit_rows s n (length rows) O.fit in (
          omega (arith, e, pow_pos (length (reduced_rows S.columns))),
          omega (arith, e, pow_mono {i = length (reduced_rows S.columns)} {j = 10} (omega arith)),
        )

    root_below : (w : Word) → w ∈ table → w.root < 2 ^ s
    root_below w m =
        let k = of_table s n rows w m in
        let e : row_width s n ≡ s + (n + s) = omega arith in
        subst (λ v. v.root < 2 ^ s) (sym k.is) (shr_lt {n = k.row} s (n + s)
        (subst (λ i. k.row < 2 ^ i) e (narrow_sum (row_width s n) rows O.narrow k.row k.sum)))

    goal_below : (w : Word) → w ∈ table → w.goal < 2 ^ s
    goal_below w m = let k = of_table s n rows w m in subst (λ v. v.goal < 2 ^ s) (sym k.is) (mod-lt k.row (pow_pos s))

    symbols_bits : (w : Word) → w ∈ table → is_label 2 n w.label ≡ true
    symbols_bits w m =
        let k = of_table s n rows w m in
        ap (λ (v : Word). is_label 2 n v.label) k.is ∙ (label_packed 2 n (spread n (k.row / 2 ^ s))).1 (record {
          short = spread_lt n (k.row / 2 ^ s);
          below = λ t h. subst (λ b. b < 2) (sym (symbol_bit s n t k.row h)) (bit_lt (cut_at s n (suc t)) k.row);
        })

    good : GoodFile (rows_file s n rows) 2 n (2 ^ s) table
    unfolding rows_file table_bytes
    good = record {
      q_is = refl;
      n_is = refl;
      states_is = refl;
      words_are = sym (words_back 2 n (2 ^ s) table);
      count_is = sym (count_back 2 n (2 ^ s) table);
      length_is = file_length s n rows;
      q_from = omega arith;
      q_to = omega arith;
      n_from = some;
      n_to = fit_symbols s n (length rows) O.fit;
      states_from = pow_pos s;
      states_to = pow_mono {i = s} {j = 4} (fit_bits s n (length rows) O.fit);
      count_from = few.0;
      count_to = few.1;
      roots_below = root_below;
      goals_below = goal_below;
      are_labels = symbols_bits;
      table = table_is s n rows some;
    }

    well_formed_lem : table_file (rows_file s n rows) ≡ accepted 2 n (2 ^ s) table
    well_formed_lem = good_accepted (rows_file s n rows) good

    -- ---- merged as their table is

    module _ (file map section : List ℕ) (room : length (rows_file s n rows) ≤ length file) where
      checked : merging_rows s n rows file map section ≡ merged_rows s n rows file map section
      checked =
          let w = wide_of (row_width s n) rows O.narrow in
          by_checks s n rows file map section O.fit (λ h. omega arith) ((independent rows).1 O.independent)

      short : length map < map_length n table → merging (rows_file s n rows) map section ≡ left (short_map (map_length n table)) map section
      unfolding merging merged_file merged_table
      short h = ap (merged_file map section) well_formed_lem ∙ simp (lt-ltb (length map) (map_length n table) h)

      -- 6 never arises
      whole : map_length n table ≤ length map → merging (rows_file s n rows) map section ≡ written 2 n (2 ^ s) table map section
      unfolding merged
      whole h =
          by_witness (rows_file s n rows) map section well_formed_lem h
          ∙ ap (merged 2 n (2 ^ s) table map section) ((witness_none n table).1 (rectangular s n rows))

      as_merged_lem : AsMerged s n rows (merging (rows_file s n rows) map section) (merging_rows s n rows file map section)
      as_merged_lem = go (dec_lt (length map) (map_length n table))
        where
          go : Dec (length map < map_length n table)
              → AsMerged s n rows (merging (rows_file s n rows) map section) (merging_rows s n rows file map section)
          go (yes h) =
              as_by (short h) (checked ∙ by_map s n rows file map section room h)
              (record { answer = refl; map = refl; section = refl; file = λ z. absurd (omega (arith, z)) })
          go (no h) =
              let fits : map_length n table ≤ length map = omega arith in
              as_by (whole fits) (checked ∙ by_room s n rows file map section room fits)
              (with_file_lem file map section (written 2 n (2 ^ s) table map section))

    -- ---- the section's vertices and edges

    by_syndromes_lem : BySyndromes s n rows
    by_syndromes_lem N columns C wide t inner deep i j h k =
        share_syndrome s n C (λ m l. omega (arith, O.narrow m l, pow_mono {i = row_width s n} {j = N} wide)) some t inner deep i j h k

    powers : Powers s n rows
    powers = record { vertices = vertex_power s n rows some O.narrow; edges = edge_power s n rows some O.narrow }

  pub rows_meaning : RowsMeaning s n rows
  rows_meaning = record {
    words = exactly_sums;
    rectangular = rectangular s n rows;
    well_formed = well_formed_lem;
    as_merged = as_merged_lem;
    by_syndromes = by_syndromes_lem;
    powers = powers;
  }
