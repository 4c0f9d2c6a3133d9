-- The sums over a list of a block sheet's records, and the outcome of counting them. Everything here computes.
use Rattle.std.specs.Prelude.{cond, List, [], ◌∷◌, ℕ, ◌+◌, length, ltb, Result, Ok, Err}
use Rattle.trellis.specs.Bounds.{most_blocks}
use Rattle.trellis.specs.Outcome.{Outcome, outcome, bad_block}
use Rattle.records.specs.declared.BlockRecord.{BlockRecord}
use Rattle.records.specs.declared.Sums.{Sums}
use Rattle.records.specs.declared.TooMany.{TooMany}

-- the sum of one cost over all records
unfoldable pub sum_over : (BlockRecord → ℕ) → List BlockRecord → ℕ
sum_over cost [] = 0
sum_over cost (r ∷ rs) = cost r + sum_over cost rs

abbrev pub additions_sum : List BlockRecord → ℕ
additions_sum records = sum_over (λ r. r.additions) records

abbrev pub selections_sum : List BlockRecord → ℕ
selections_sum records = sum_over (λ r. r.selections) records

-- both sums are returned, or 9 with the number of records where they are more than a frame can have blocks
abbrev pub counted_outcome : Result Sums TooMany → Outcome
counted_outcome (Ok sums) = outcome 0 (sums.additions ∷ sums.selections ∷ [])
counted_outcome (Err many) = bad_block many.count

unfoldable pub counting : List BlockRecord → Outcome
counting records =
    cond (ltb most_blocks (length records)) (bad_block (length records))
    (outcome 0 (additions_sum records ∷ selections_sum records ∷ []))
