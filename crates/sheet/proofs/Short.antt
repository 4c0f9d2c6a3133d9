-- Every sheet is short: a frame has at most 256 blocks, the numbers of a record have at most five digits, since the tables are within their
-- bounds, and sums over so many records at most seven. A refusal has at most five numbers of six digits.
use mathlib.Core.List.{List, [], ◌∷◌, flat_map}
use Prim.Native.Nat.{ℕ, zero, suc, ◌+◌, ◌*◌, ◌<◌, ◌≤◌}
use native.Mathlib.Omega.{arith}
use native.Mathlib.Nat.{suc-mul}
use lib.ListN.{length, length-append}
use Rattle.trellis.specs.Bounds.{most_symbols, most_words, most_sections, most_blocks}
use Rattle.trellis.specs.Lists.{run}
use Rattle.trellis.proofs.Lists.{length_run}
use Rattle.text.proofs.Short.{line_short}
use Rattle.records.specs.Records.{sum_over, additions_sum, selections_sum}
use Rattle.records.specs.declared.BlockRecord.{BlockRecord}
use Rattle.input_parts.specs.Input.{input_sections, input_blocks, input_index, table_at}
use Rattle.input_parts.proofs.Head.{few_sections_lem, blocks_few}
use Rattle.sheet_input.proofs.Right.{InputRight, index_below_lem, costs_few}
use Rattle.sheet_records.specs.Sheet.{block_word, total_word, block_record, records_of, block_line, total_line, sheet_lines}
use Rattle.sheet_records.specs.Inner.Made.{any_sheet}

-- ---- records with small numbers

-- no section of a table costs more, additions or selections
abbrev most_cost : ℕ
most_cost = most_symbols * most_words + most_words

record Few (r : BlockRecord) : Type 0 where
  index : r.index < most_blocks
  section : r.section < most_sections
  additions : r.additions ≤ most_cost
  selections : r.selections ≤ most_cost

abbrev AllFew : List BlockRecord → Type 0
AllFew [] = Unit
AllFew (r ∷ rs) = Few r × AllFew rs

run_few : (f : ℕ → BlockRecord) (at count : ℕ) → ((k : ℕ) → k < at + count → Few (f k)) → AllFew (run f at count)
unfolding run
run_few f at zero h = tt
run_few f at (suc count) h = (h at (omega arith), run_few f (suc at) count (λ k g. h k (omega arith)))

line_few : (r : BlockRecord) → Few r → length (block_line r) ≤ 30
unfolding block_line
line_few r F =
    line_short 4 block_word (r.index ∷ r.section ∷ r.additions ∷ r.selections ∷ [])
    (omega (arith, F.index), (omega (arith, F.section), (omega (arith, F.additions), (omega (arith, F.selections), tt))))

lines_few : (rs : List BlockRecord) → AllFew rs → length (flat_map block_line rs) ≤ length rs * 30
unfolding flat_map
lines_few [] F = omega arith
lines_few (r ∷ rs) F =
    omega (
      arith,
      line_few r F.0,
      lines_few rs F.1,
      length-append (block_line r) (flat_map block_line rs),
      suc-mul (length rs) 30,
    )

sum_few : (cost : BlockRecord → ℕ) → ((r : BlockRecord) → Few r → cost r ≤ most_cost) → (rs : List BlockRecord) → AllFew rs
    → sum_over cost rs ≤ length rs * most_cost
unfolding sum_over
sum_few cost few [] F = omega arith
sum_few cost few (r ∷ rs) F = omega (arith, few r F.0, sum_few cost few rs F.1, suc-mul (length rs) most_cost)

sheet_few : (rs : List BlockRecord) → AllFew rs → length rs ≤ most_blocks → length (sheet_lines rs) ≤ any_sheet
unfolding sheet_lines total_line
sheet_few rs F h =
    let a = sum_few (λ r. r.additions) (λ r f. f.additions) rs F in
    let s = sum_few (λ r. r.selections) (λ r f. f.selections) rs F in
    let t = line_short 6 total_word (additions_sum rs ∷ selections_sum rs ∷ []) (omega (arith, a), (omega (arith, s), tt)) in
    omega (arith, lines_few rs F, t, length-append (flat_map block_line rs) (total_line rs))

-- ---- the records of an input with no fault

module _ (input : List ℕ) (R : InputRight input) where
  pub few_blocks_lem : input_blocks input ≤ most_blocks
  few_blocks_lem = blocks_few input R.head.lengths_right

  record_few : (b : ℕ) → b < 0 + input_blocks input → Few (block_record input b)
  record_few b h =
      let i : input_index input b < input_sections input = index_below_lem input R.head b (omega arith) in
      let c = costs_few (table_at input (input_index input b)) (R.tables (input_index input b) i) in
      record {
        index = omega (arith, few_blocks_lem);
        section = omega (arith, few_sections_lem input R.head);
        additions = omega (arith, c.0);
        selections = omega (arith, c.1);
      }

  pub sheet_short : length (sheet_lines (records_of input)) ≤ any_sheet
  unfolding records_of
  sheet_short =
      sheet_few (records_of input)
      (run_few (block_record input) 0 (input_blocks input) record_few)
      (omega (arith, length_run (block_record input) 0 (input_blocks input), few_blocks_lem))
