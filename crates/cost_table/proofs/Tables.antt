-- The loop over the blocks: what is left to pay and the notes are those of whatever chain the blocks are, from block b on. One block more
-- is passed as the laws of a chain say, and its row is put in its place.
use mathlib.Core.Path.{◌≡◌, refl, sym, ap, subst, ◌∙◌}
use mathlib.Core.Logic.{inr}
use mathlib.Core.List.{List}
use Prim.Native.Nat.{ℕ, suc, ◌-◌, ◌*◌, ◌≤◌, ◌<◌}
use native.Mathlib.Decide.{dec_lt}
use native.Mathlib.Omega.{arith}
use lib.ListN.{length, get_or, take, drop, replicate, length-replicate, get_or-replicate, get_or-eq_default}
use Rattle.trellis.specs.Bounds.{most_states, most_words, most_sections, costs_a_block}
use Rattle.trellis.specs.Layout.{n_of, vertex_count_of, root_state}
use Rattle.trellis.specs.Comparing.{symbol_cost, distance_by}
use Rattle.trellis.proofs.Lists.{rest_of}
use Rattle.paths.specs.Chain.{unreached}
use Rattle.paths.specs.Inner.OneBlock.{word_price}
use Rattle.paths.specs.Inner.Ranked.{top_rank, PriceRoom}
use Rattle.section_file.specs.Inner.View.{Seen}
use Rattle.block.specs.Inner.Prices.{Prices}
use Rattle.passes.specs.Inner.Blocks.{BlockPassed}
use Rattle.passes.specs.Inner.Chains.{Chain, LeftAt, NotesFrom, RowWritten}
use Rattle.passes.proofs.Chains.{Uses, row_more, left_last, left_more, note_more, notes_more}
use Rattle.cost_table.proofs.Rows.{one_below}
use Rattle.sections.specs.Inner.Found.{no_view}
use Rattle.cost_table.specs.Inner.Filled.{Working, BlockFilled, EndsAs, HeldBlocks, block_part, Ready, ChainOf, Unrooted, Filled}

pub record InFill (H : HeldBlocks) (ends old notes left prices even odd : List ℕ) (b : ℕ) : Type 0 where
  pub b_le : b ≤ length H.indices
  pub long : length notes ≡ length old
  pub working : Working left prices even odd
  pub kept : (i : ℕ) → costs_a_block * length H.indices ≤ i → get_or notes i 0 ≡ get_or old i 0
  pub unrooted : Unrooted H b notes
  pub left_is : (C : Chain) → ChainOf H C → EndsAs C ends → LeftAt C b left
  pub noted : (C : Chain) → ChainOf H C → EndsAs C ends → NotesFrom C b notes

-- prices that are not there yet
pub room_none : PriceRoom (replicate 32 0)
room_none = record { long = length-replicate {A = ℕ} 32 0; small = λ i. go i (dec_lt i 32) }
  where
    go : (i : ℕ) → Dec (i < 32) → get_or (replicate 32 0) i 0 ≤ top_rank
    go i (yes h) = let e = get_or-replicate {A = ℕ} 32 i 0 0 h in omega arith
    go i (no h) =
        let n = length-replicate {A = ℕ} 32 0 in
        let e = get_or-eq_default {A = ℕ} (replicate 32 0) 0 {n = i} (omega arith) in
        omega arith

pub fill_start : {H : HeldBlocks} {ends notes : List ℕ} → length ends ≡ most_states
    → InFill H ends notes notes ends (replicate 32 0) (replicate most_words 0) (replicate most_words 0) (length H.indices)
fill_start {H} {ends} {notes} h = record {
  b_le = omega arith;
  long = refl;
  working = record {
    left_long = h;
    room = room_none;
    even_long = length-replicate {A = ℕ} most_words 0;
    odd_long = length-replicate {A = ℕ} most_words 0;
  };
  kept = λ i k. refl;
  unrooted = record { at = λ c s k l. absurd (omega arith) };
  left_is = λ C O E. subst (λ b. LeftAt C b ends) O.blocks_is (left_last C ends E.at);
  noted = λ C O E. record { at = λ c s k l. absurd (omega (arith, O.blocks_is)) };
}

-- ---- one block, as the code takes it

pub block_filled : {l : List ℕ} {n received mask : ℕ} {prices left new notes : List ℕ} → n ≡ n_of l → Prices n received mask prices
    → BlockPassed l prices left new notes → BlockFilled l received mask left new notes
block_filled {received = received} {mask} {prices} e P B =
    record { prices = prices; priced = subst (λ n. Prices n received mask prices) e P; passed = B }

pub record BlockAt (H : HeldBlocks) (b i : ℕ) : Type 0 where
  pub index_lt : i < most_sections
  pub inside : get_or H.starts i 0 ≤ length H.sections
  pub part_is : take (length H.sections - get_or H.starts i 0) (drop (get_or H.starts i 0) H.sections) ≡ block_part H b
  pub seen : Seen (take (length H.sections - get_or H.starts i 0) (drop (get_or H.starts i 0) H.sections))
      (get_or H.views i no_view)
  pub few : b < 256

pub block_at : {H : HeldBlocks} {b i : ℕ} → Ready H → b < length H.indices → i ≡ get_or H.indices b 0 → BlockAt H b i
block_at {H} {b} {i} R h e =
    let p : take (length H.sections - get_or H.starts i 0) (drop (get_or H.starts i 0) H.sections) ≡ block_part H b
    = rest_of H.sections (get_or H.starts i 0) ∙ ap (λ j. drop (get_or H.starts j 0) H.sections) e in
    record {
      index_lt = omega (arith, R.index_below b h);
      inside = subst (λ j. get_or H.starts j 0 ≤ length H.sections) (sym e) (R.inside b h);
      part_is = p;
      seen = subst (λ l. Seen l (get_or H.views i no_view)) (sym p)
          (subst (λ j. Seen (block_part H b) (get_or H.views j no_view)) (sym e) (R.seen b h));
      few = omega (arith, R.many);
    }

-- `l` is the section as it is lent
module _ {H : HeldBlocks} {ends old mid notes left new_left prices new_prices even new_even odd new_odd row l : List ℕ} {b : ℕ}
    (I : InFill H ends old mid left prices even odd b) (h : 0 < b) (p : l ≡ block_part H (b - 1))
    (F : BlockFilled l (get_or H.received (b - 1) 0) (get_or H.erased (b - 1) 0) left new_left row)
    (W : Working new_left new_prices new_even new_odd) (P : RowWritten (costs_a_block * (b - 1)) row mid notes) where
  B : BlockFilled (block_part H (b - 1)) (get_or H.received (b - 1) 0) (get_or H.erased (b - 1) 0) left new_left row
  B = subst (λ x. BlockFilled x (get_or H.received (b - 1) 0) (get_or H.erased (b - 1) 0) left new_left row) p F

  below : b - 1 < length H.indices
  below = one_below I.b_le h

  next : b ≡ suc (b - 1)
  next = omega arith

  module _ (C : Chain) (O : ChainOf H C) (E : EndsAs C ends) where
    in_chain : b - 1 < C.blocks
    in_chain = omega (arith, O.blocks_is, below)

    uses : Uses C (b - 1) (block_part H (b - 1)) B.prices
    unfolding distance_by word_price
    uses = record {
      cost = symbol_cost (n_of (block_part H (b - 1))) (get_or H.received (b - 1) 0) (get_or H.erased (b - 1) 0);
      words_are = O.words_are (b - 1) below;
      price_is = O.price_is (b - 1) below;
      priced = record { at = B.priced.at };
    }

    behind : LeftAt C (suc (b - 1)) left
    behind = subst (λ c. LeftAt C c left) next (I.left_is C O E)

    here : LeftAt C (b - 1) new_left
    here = left_more C in_chain uses behind B.passed

    notes_here : NotesFrom C (b - 1) notes
    notes_here =
        notes_more C (subst (λ c. NotesFrom C c mid) next (I.noted C O E)) (note_more C in_chain uses behind B.passed) P

  unrooted_here : Unrooted H (b - 1) notes
  unrooted_here = record {
    at = λ c s g k e n.
        row_more (λ c s x. c < length H.indices
        → ((u : ℕ) → u < vertex_count_of (block_part H c) 0 → root_state (block_part H c) u ≡ s → ⊥) → x ≡ unreached) P
        (λ s e k n. B.passed.unrooted s e n) (λ c s g e k n. I.unrooted.at c s (omega arith) k e n) c s g e k n;
  }

  pub fill_more : InFill H ends old notes new_left new_prices new_even new_odd (b - 1)
  fill_more = record {
    b_le = omega (arith, I.b_le);
    long = P.long ∙ I.long;
    working = W;
    kept = λ i k. P.kept i (inr (omega (arith, below))) ∙ I.kept i k;
    unrooted = unrooted_here;
    left_is = here;
    noted = notes_here;
  }

pub fill_end : {H : HeldBlocks} {ends old notes left prices even odd : List ℕ} {b : ℕ}
    → InFill H ends old notes left prices even odd b → b ≤ 0 → Filled H ends left old notes
fill_end {H} {notes = notes} {left} {b = b} I h =
    let e : b ≡ 0 = omega arith in
    record {
      long = I.long;
      new_long = I.working.left_long;
      kept = I.kept;
      unrooted = subst (λ c. Unrooted H c notes) e I.unrooted;
      noted = λ C O E. subst (λ c. NotesFrom C c notes) e (I.noted C O E);
      left_is = λ C O E. subst (λ c. LeftAt C c left) e (I.left_is C O E);
    }
