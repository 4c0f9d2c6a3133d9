-- What is left to pay behind a block. Behind the last block it is `ends`; behind any other it is the next block's row of the cost table.
use mathlib.Core.Path.{◌≡◌, sym, ap, ◌∙◌}
use mathlib.Core.Bool.{cond}
use mathlib.Core.List.{List}
use Prim.Native.Nat.{ℕ, suc, ◌+◌, ◌-◌, ◌*◌, ◌≤◌, ◌<◌}
use native.Mathlib.Numerals.{add-one}
use native.Mathlib.Omega.{arith}
use lib.Dec.{ltb}
use lib.ListN.{length, get_or, take, drop, length-take, length-drop}
use lib.Seq.{get_or-take, get_or-drop}
use borrow.Author.Tests.{lt-ltb, le-ltb}
use Rattle.trellis.specs.Bounds.{most_states, costs_a_block}
use Rattle.left_behind.specs.Inner.Behind.{LeftBehind}

pub behind_last : {costs ends : List ℕ} {blocks b : ℕ} → length ends ≡ most_states → blocks ≤ b + 1 → LeftBehind costs ends blocks b ends
behind_last {costs} {ends} {blocks} {b} l h = record {
  long = l;
  at = λ s k.
      sym (ap (λ t. cond t (get_or costs (costs_a_block * suc b + s) 0) (get_or ends s 0)) (le-ltb (suc b) blocks (omega arith)));
}

-- a row of the table, as it is copied
pub behind_row : {costs ends left : List ℕ} {blocks b : ℕ} → b + 1 < blocks → costs_a_block * blocks ≤ length costs
    → left ≡ take (costs_a_block * (b + 1) + costs_a_block - costs_a_block * (b + 1)) (drop (costs_a_block * (b + 1)) costs)
    → LeftBehind costs ends blocks b left
behind_row {costs} {ends} {left} {blocks} {b} h l e = record { long = ap length row ∙ simp (length-take, length-drop) (omega arith); at = at }
  where
    first : ℕ
    first = costs_a_block * (b + 1)

    row : left ≡ take costs_a_block (drop first costs)
    row = let n : first + costs_a_block - first ≡ costs_a_block = omega arith in e ∙ ap (λ m. take m (drop first costs)) n

    at : (s : ℕ) → s < most_states
        → get_or left s 0 ≡ cond (ltb (suc b) blocks) (get_or costs (costs_a_block * suc b + s) 0) (get_or ends s 0)
    at s k =
        let p : first + s ≡ costs_a_block * suc b + s = omega (arith, add-one b) in
        ap (λ l. get_or l s 0) row ∙ get_or-take costs_a_block (drop first costs) s 0 k ∙ get_or-drop first costs s 0
        ∙ ap (λ i. get_or costs i 0) p
        ∙ sym (ap (λ t. cond t (get_or costs (costs_a_block * suc b + s) 0) (get_or ends s 0)) (lt-ltb (suc b) blocks (omega arith)))
