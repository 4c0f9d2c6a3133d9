-- A block of a frame. Behind it the least distances of the chain are left to pay: the next row of the cost table, or nothing in the end
-- state. So the rows of its section hold the chain's least distances; and if the slots in front of it are the k best beginnings there,
-- those that have gone through it are the k best behind it. What comes of the kept beginnings stays what is kept of the whole chain, since
-- going on from each block to the next is how this is defined.
use mathlib.Core.Path.{◌≡◌, refl, sym, ap, subst, ◌∙◌}
use mathlib.Core.Bool.{cond}
use mathlib.Core.List.{List, flat_map}
use Prim.Native.Nat.{ℕ, suc, ◌+◌, ◌-◌, ◌*◌, ◌≤◌, ◌<◌}
use native.Mathlib.Decide.{dec_lt}
use native.Mathlib.Numerals.{add-one}
use native.Mathlib.Omega.{arith}
use lib.Dec.{ltb}
use lib.ListN.{get_or}
use borrow.Author.Tests.{lt-ltb, le-ltb}
use Rattle.trellis.specs.Bounds.{most_paths, most_states, costs_a_block}
use Rattle.trellis.specs.Layout.{n_of, vertex_count_of, roots_place, goals_place}
use Rattle.trellis.specs.Comparing.{symbol_cost, distance_by}
use Rattle.paths.specs.Chain.{unreached, ends_in}
use Rattle.paths.specs.Inner.Costs.{least}
use Rattle.paths.specs.Inner.Chains.{chain_least}
use Rattle.paths.specs.Inner.OneBlock.{word_price}
use Rattle.paths.proofs.Chain.{least_le}
use Rattle.ranking.specs.Inner.Kept.{keep_live}
use Rattle.ranking.specs.Inner.Growth.{narrow}
use Rattle.ranking.specs.Inner.Chain.{one_word, chain_rated}
use Rattle.section_file.specs.Inner.Sound.{Sound}
use Rattle.passes.specs.Inner.Blocks.{Costs}
use Rattle.beginnings.specs.Inner.Trails.{Slots}
use Rattle.beginnings.specs.Inner.Entering.{state_from, Enterable, Leavable, Left}
use Rattle.beginnings.proofs.Sections.{BlockUses, Prepared, block_uses, prepared}
use Rattle.beginnings.proofs.Rooted.{enterable}
use Rattle.beginnings.proofs.Blocks.{leavable, slots_next}
use Rattle.cost_table.specs.Inner.Filled.{EndRow}
use Rattle.frame.specs.Frame.{Frame, block_count, block_section, block_words, word_distance_by, word_distance}
use Rattle.left_behind.specs.Inner.Behind.{LeftBehind}
use Rattle.forward.specs.Inner.Blocks.{Through, Passable, Passed}
use Rattle.forward.specs.Inner.Fronts.{least_at, Tabled, KeptAt}
use Rattle.forward.proofs.First.{onward}

module _ (f : Frame) (b : ℕ) where
  abbrev part : List ℕ
  part = block_section f b

  abbrev word : ℕ
  word = get_or f.received b 0

  abbrev mask : ℕ
  mask = get_or f.erased b 0

  abbrev price : ℕ → ℕ → ℕ
  price = symbol_cost (n_of part) word mask

  -- the blocks behind this one, and the least distance over so many
  abbrev others : ℕ
  others = block_count f - suc b

  abbrev least_of : ℕ → ℕ → ℕ → ℕ
  least_of m c s = chain_least (block_words f) (ends_in f.end) (word_distance f) unreached m c s

  more : b < block_count f → block_count f - b ≡ suc others
  more h = omega arith

  uses : Sound part → BlockUses (block_words f) (word_distance f) b part price
  unfolding block_words word_distance_by distance_by word_price
  uses S = block_uses S refl (λ w. refl)

  module _ {costs ends left : List ℕ} (h : b < block_count f) (D : Tabled f costs) (E : EndRow f.end ends)
      (L : LeftBehind costs ends (block_count f) b left) where
    -- what is left to pay behind the block
    behind : (s : ℕ) → s < most_states → get_or left s 0 ≡ least_at f (suc b) s
    unfolding chain_least least
    behind s k = L.at s k ∙ go (dec_lt (suc b) (block_count f))
      where
        go : Dec (suc b < block_count f)
            → cond (ltb (suc b) (block_count f)) (get_or costs (costs_a_block * suc b + s) 0) (get_or ends s 0) ≡ least_at f (suc b) s
        go (yes i) = rw (lt-ltb (suc b) (block_count f) i) (D.at (suc b) s i k)
        go (no i) =
            let z : others ≡ 0 = omega arith in
            rw (le-ltb (suc b) (block_count f) (omega arith)) (E.at s k ∙ sym (ap (λ m. least_of m (suc b) s) z))

    module _ (S : Sound part) {k have : ℕ} {slots back : List ℕ} (few : k ≤ most_paths) (K : KeptAt f k b have slots back) where
      here : Slots back f.start (least_of (suc others) b) slots b have K.kept
      here = subst (λ m. Slots back f.start (least_of m b) slots b have K.kept) (more h) K.are

      pub enterable_here : Enterable part (roots_place part) (vertex_count_of part 0) slots have
      enterable_here = enterable (ends_in f.end) others (uses S) here

      module _ {prices rows items new : List ℕ} {count : ℕ} (T : Through part word mask left k have slots prices rows items new count) where
        costs_are : Costs part prices left price (least_of others (suc b))
        costs_are = record {
          priced = record { at = T.priced.at };
          behind = behind;
          bound = least_le (block_words f) (ends_in f.end) (word_distance f) unreached others (suc b);
        }

        ready : Prepared (block_words f) (ends_in f.end) (word_distance f) others b part price rows prices
        ready = prepared (uses S) costs_are.priced (T.rows_are.least price (least_of others (suc b)) costs_are)

        leavable_here : Leavable part (goals_place part) new count
        leavable_here = leavable ready here T.entered few T.gone

        kept_next : {new_slots new_back : List ℕ} → Left (state_from part (goals_place part)) new b count new_slots back new_back
            → KeptAt f k (suc b) count new_slots new_back
        unfolding narrow
        kept_next L = record {
          inside = h;
          few = T.gone.most;
          kept = keep_live (chain_rated (block_words f) (ends_in f.end) (word_distance f) unreached others (suc b)) unreached k
              (flat_map (one_word (block_words f) (ends_in f.end) (word_distance f) b) K.kept);
          are = slots_next ready here T.entered few T.gone K.few L;
          whole = sym (ap (λ m. onward f k m b K.kept) (more h)) ∙ K.whole;
        }

      pub passable_here : Passable part word mask left k have slots
      passable_here = record { leavable = λ prices rows items new count T. leavable_here T }

      pub passed_here : {new_slots new_back : List ℕ} {count : ℕ} → Passed part word mask left b k have slots back new_slots new_back count
          → KeptAt f k (b + 1) count new_slots new_back
      passed_here {new_slots} {new_back} {count} P =
          subst (λ c. KeptAt f k c count new_slots new_back) (sym (add-one b)) (kept_next P.through P.left_by)

pub kept_end : {f : Frame} {k b have : ℕ} {slots back : List ℕ} → KeptAt f k b have slots back → block_count f ≤ b
    → KeptAt f k (block_count f) have slots back
kept_end {f} {k} {b} {have} {slots} {back} K h =
    let e : b ≡ block_count f = omega (arith, K.inside) in subst (λ c. KeptAt f k c have slots back) e K
