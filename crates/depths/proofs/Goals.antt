-- The goals as a row. They are bytes, so they fit; and at depth n an ending is a goal, so they tell the endings there apart.
use mathlib.Core.Path.{sym, ◌∙◌}
use mathlib.Core.List.{List}
use Prim.Native.Nat.{ℕ, ◌≤◌, ◌<◌}
use native.Mathlib.Omega.{arith}
use lib.ListN.{length}
use Rattle.trellis.specs.Word.{Word, word_at}
use Rattle.runs.specs.Inner.Cuts.{ending_at}
use Rattle.runs.proofs.Keys.{tells_goals, tells_row}
use Rattle.depth_runs.specs.Inner.Rows.{at, Row, Bytes}
use Rattle.depths.specs.Inner.Words.{words, Held}
use Rattle.depths.specs.Inner.Merge.{EndingRow}
use Rattle.depths.proofs.Words.{held_length, word_goal}

pub record InBytes (bytes new : List ℕ) (i : ℕ) : Type 0 where
  pub i_le : i ≤ length bytes
  pub row : Row i (at bytes) new
  pub byte : (j : ℕ) → j < i → at bytes j < 256

pub goal_row : {n : ℕ} {roots labels goals row : List ℕ} → Held n roots labels goals → Bytes goals row
    → EndingRow n (words roots labels goals) n row
goal_row {n} {roots} {labels} {goals} {row} H B = record {
  small = record { len = B.row.len; lt = λ i h. omega (arith, B.row.is i (in_goals i h), B.byte i (in_goals i h)) };
  tells = tells_row (length table) (ending_at n table n) (λ i. (word_at table i).goal) (at row)
      (λ i h. B.row.is i (in_goals i h) ∙ sym (word_goal roots labels goals i h)) (tells_goals H.table);
}
  where
    table : List Word
    table = words roots labels goals

    in_goals : (i : ℕ) → i < length (words roots labels goals) → i < length goals
    in_goals i h = omega (arith, held_length H, H.aimed)
