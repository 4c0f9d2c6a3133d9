-- One number for a distance and a word. Label and goal together stay below `distance_unit`, so the number divided by it is the distance, and
-- a smaller distance always gives a smaller number. Symbol by symbol the costs add up to the distance, and the symbols, each at its
-- place, to the label; what is added behind the block brings the goal. So the least number over the words of a root has the least
-- distance; among the words of that distance it belongs to the one with the least label and goal, and as the words ascend, that is the
-- first of them: the word that the distances name. A number below the top is some word's own, with nothing cut off, so that its note tells
-- the word and the distance's remainder; the top's note ends in `no_goal`.
use mathlib.Core.Path.{◌≡◌, refl, sym, ap, subst, ◌∙◌}
use mathlib.Core.Option.{some as just}
use mathlib.Core.List.Memᴰ
use mathlib.Core.List.{List, ◌∷◌, map}
use Prim.Native.Nat.{ℕ, zero, suc, ◌+◌, ◌-◌, ◌*◌, ◌/◌, ◌%◌, ◌^◌, ◌≤◌, ◌<◌, min}
use native.Mathlib.Nat.{pow-suc, pow-succ', pow-le-pow_right, mul-le-mul_right, add-mul, mul_assoc, lt_of_lt_of_le}
use native.Mathlib.Omega.{arith}
use native.Mathlib.Decide.{dec_le}
use lib.Dec.{eqb, lit<}
use Rattle.trellis.specs.Bounds.{most_states, most_symbols}
use Rattle.trellis.specs.Lists.{◌∈◌, by_first, by_second, by_third}
use Rattle.trellis.specs.Word.{Word, word, Before}
use Rattle.trellis.specs.Own.{Edge}
use Rattle.trellis.specs.Section.{Path, leaving, paths_from, pack_onto, word_of, words_of}
use Rattle.paths.specs.Chain.{unreached, rooted_at}
use Rattle.paths.specs.Inner.Costs.{plus, min_all, least, first_with}
use Rattle.paths.specs.Inner.Sections.{section_least}
use Rattle.paths.specs.Inner.OneBlock.{onward_cost, least_over, first_over}
use Rattle.paths.specs.Inner.Ranked.{label_unit, distance_unit, ranked, top_rank, ranked_cost, ranked_left}
use Rattle.paths.specs.Inner.Ranked.{note_unit, note_goal, note_word, Noted}
use Rattle.paths.specs.Inner.Ordered.{Ordered}
use Rattle.paths.proofs.Ranks.{Ranks, ranks, least_under, least_of, least_front, least_first}
use Rattle.paths.proofs.Sections.{cost_from, section_trace}
use Rattle.paths.proofs.Ordered.{ordered_keep, ordered_as}
use Rattle.paths.proofs.Ascent.{Symbols, no_more, one_more, Bounded}
use Rattle.paths.proofs.Capped.{min_same, min_all_le}
use Rattle.paths.proofs.Trace.{of_first}
use Rattle.paths.proofs.Words.{rooted_words, whole_fits}
use Rattle.paths.proofs.Block.{Spells, block_cost}
use Rattle.paths.proofs.Blocks.{Uses, rooted, first_root}

-- ---- symbols

-- what stands in front counts above the symbols
pack_behind : {k : ℕ} {us : List ℕ} → Symbols k us → (x : ℕ) → pack_onto x us ≡ x * 4 ^ k + pack_onto 0 us
unfolding pack_onto
pack_behind no_more x = omega arith
pack_behind {k = suc k} {us = a ∷ rest} (one_more p s) x =
    let e : x * 4 ^ suc k ≡ x * 4 * 4 ^ k = ap (λ y. x * y) (pow-succ' 4 k) ∙ sym (mul_assoc x 4 (4 ^ k)) in
    let f : (x * 4 + a) * 4 ^ k ≡ x * 4 * 4 ^ k + a * 4 ^ k = add-mul (x * 4) a (4 ^ k) in
    let g : (0 * 4 + a) * 4 ^ k ≡ a * 4 ^ k = ap (λ y. y * 4 ^ k) (omega arith) in
    omega (arith, pack_behind s (x * 4 + a), pack_behind s (0 * 4 + a))

-- a label of k symbols is below 4 ^ k
pack_fits : {k : ℕ} {us : List ℕ} → Symbols k us → pack_onto 0 us < 4 ^ k
unfolding pack_onto
pack_fits no_more = omega arith
pack_fits {k = suc k} {us = a ∷ rest} (one_more p s) =
    let q : (0 * 4 + a) * 4 ^ k ≤ 3 * 4 ^ k = mul-le-mul_right (4 ^ k) (omega arith) in
    omega (arith, pack_behind s (0 * 4 + a), pack_fits s, pow-suc 4 k)

-- what the symbols add together: their cost, and their label
ranked_from : (n : ℕ) (cost : ℕ → ℕ → ℕ) {k : ℕ} {us : List ℕ} → Symbols k us → (t : ℕ) → t + k ≡ n
    → cost_from (ranked_cost n cost) t us ≡ cost_from cost t us * distance_unit + pack_onto 0 us * label_unit
unfolding cost_from pack_onto ranked_cost ranked
ranked_from n cost no_more t h = refl
ranked_from n cost {k = suc k} {us = a ∷ rest} (one_more p s) t h =
    let e : a * 4 ^ (n - suc t) ≡ a * 4 ^ k = ap (λ j. a * 4 ^ j) (omega arith) in
    let g : (0 * 4 + a) * 4 ^ k ≡ a * 4 ^ k = ap (λ y. y * 4 ^ k) (omega arith) in
    omega (arith, pack_behind s (0 * 4 + a), ranked_from n cost s (suc t) (omega arith))

-- ---- what is above top behind the block may as well be top

plus_capped : (top d x : ℕ) → plus top d x ≡ plus top d (min top x)
unfolding plus
plus_capped top d x = omega arith

least_capped : (edges : ℕ → List Edge) (cost : ℕ → ℕ → ℕ) (top : ℕ) (number : ℕ → ℕ) (k t v : ℕ)
    → section_least edges cost top number (suc k) t v ≡ section_least edges cost top (λ g. min top (number g)) (suc k) t v
unfolding section_least least
least_capped edges cost top number zero t v =
    min_same top (λ e. plus_capped top (cost t e.symbol) (number e.to)) (leaving v (edges t))
least_capped edges cost top number (suc k) t v =
    min_same top (λ e. ap (plus top (cost t e.symbol)) (least_capped edges cost top number k (suc t) e.to)) (leaving v (edges t))

-- ---- one block that is a section

-- what is asked of the section: at least one symbol and 8 at most, each below 4; goal states of 16 bits; words in word order
pub record Rankable (edges : ℕ → List Edge) (n goals : ℕ) (roots : List ℕ) (root_of goal_of : ℕ → ℕ) : Type 0 where
  pub some : 0 < n
  pub short : n ≤ most_symbols
  pub fits : Bounded edges n goals
  pub small : (g : ℕ) → g < goals → goal_of g < most_states
  pub ordered : Ordered Before (words_of n edges roots root_of goal_of)

-- a note with a label and a goal in it
record Reads (note label goal : ℕ) : Type 0 where
  label_is : label ≡ note % distance_unit / label_unit
  goal_is : goal ≡ note_goal note

reads : {rank : ℕ} (d label goal : ℕ) → rank ≡ d * distance_unit + (label * label_unit + goal) → label < 65536 → goal < most_states
    → Reads (rank % note_unit) label goal
reads d label goal e l g = record { label_is = omega arith; goal_is = omega arith }

module _ {ws : List Word} {price : Word → ℕ} {edges : ℕ → List Edge} {n goals : ℕ} {roots : List ℕ} {root_of goal_of : ℕ → ℕ}
    {cost : ℕ → ℕ → ℕ} (U : Uses ws price edges n roots root_of goal_of cost)
    (R : Rankable edges n goals roots root_of goal_of) (left : ℕ → ℕ) (bound : (s : ℕ) → left s ≤ unreached) where
  abbrev spell : ℕ → Path → Word
  spell v p = word_of root_of goal_of v p

  abbrev mine : ℕ → List Word
  mine v = map (spell v) (paths_from edges n 0 v)

  abbrev price_ranked : Word → ℕ
  price_ranked w = price w * distance_unit + w.label * label_unit

  abbrev left_ranked : ℕ → ℕ
  left_ranked s = min top_rank (ranked_left (left s) s)

  spells_ranked : (v : ℕ) → Spells (ranked_cost n cost) goal_of price_ranked (spell v) (paths_from edges n 0 v)
  unfolding word_of
  spells_ranked v =
      record {
        same_cost = λ p m. ap (λ d. d * distance_unit + pack_onto 0 p.symbols * label_unit) (U.same_cost v p m)
            ∙ sym (ranked_from n cost (whole_fits edges n goals R.fits R.some v p m).symbols_fit 0 (omega arith));
        same_goal = λ p. refl;
      }

  left_ranked_le : (s : ℕ) → left_ranked s ≤ top_rank
  left_ranked_le s = omega arith

  -- a word of vertex v
  record Mine (v : ℕ) (w : Word) : Type 0 where
    root_is : w.root ≡ root_of v
    label_lt : w.label < 65536
    goal_lt : w.goal < most_states

  mine_is : (v : ℕ) (w : Word) → w ∈ mine v → Mine v w
  unfolding word_of
  mine_is v w m =
      let x = Memᴰ.of_map (spell v) (paths_from edges n 0 v) m in
      let P = whole_fits edges n goals R.fits R.some v x.0 x.1 in
      let h : 4 ^ n ≤ 4 ^ 8 = pow-le-pow_right (lit< tt) R.short in
      subst (Mine v) x.2
      (record { root_is = refl; label_lt = lt_of_lt_of_le (pack_fits P.symbols_fit) h; goal_lt = R.small x.0.end P.end_fits })

  abbrev on_word : Word → ℕ
  on_word w = onward_cost ws price unreached left w

  abbrev on_rank : Word → ℕ
  on_rank w = plus top_rank (price_ranked w) (left_ranked w.goal)

  abbrev key : Word → ℕ
  key w = w.label * label_unit + w.goal

  abbrev uncut_cost : Word → ℕ
  uncut_cost w = price w + left w.goal

  mine_ranks : (v : ℕ) (w : Word) → w ∈ mine v → Ranks (on_word w) (uncut_cost w) (on_rank w) (key w)
  mine_ranks v w m =
      let M = mine_is v w m in
      subst (λ x. Ranks (on_word w) (uncut_cost w) x (key w)) (plus_capped top_rank (price_ranked w) (ranked_left (left w.goal) w.goal))
      (ranks left (price w) w.label w.goal (bound w.goal) M.label_lt (omega (arith, M.goal_lt)))

  -- the words of a vertex ascend by label and goal
  mine_ascend : (v : ℕ) → v ∈ roots → Ordered (λ x y. key x < key y) (mine v)
  unfolding rooted_at
  mine_ascend v m =
      ordered_as (λ x y j k. rises x y (mine_is v x j) (mine_is v y k))
      (subst (Ordered Before) (rooted_words edges n root_of goal_of roots U.roots_rise v m)
      (ordered_keep (λ w. eqb w.root (root_of v)) R.ordered))
    where
      rises : (x y : Word) → Mine v x → Mine v y → Before x y → key x < key y
      rises x y X Y (by_first p) = let i = X.root_is in let j = Y.root_is in absurd (omega arith)
      rises x y X Y (by_second p q) = let i = X.goal_lt in omega arith
      rises x y X Y (by_third p q r) = omega arith

  -- the least number from vertex v
  abbrev pub rank_from : ℕ → ℕ
  rank_from v = section_least edges (ranked_cost n cost) top_rank (λ g. ranked_left (left (goal_of g)) (goal_of g)) n 0 v

  rank_is : (v : ℕ) → min_all top_rank on_rank (mine v) ≡ rank_from v
  rank_is v =
      let e : suc (n - 1) ≡ n = omega (arith, R.some) in
      block_cost edges n v (spells_ranked v) top_rank left_ranked left_ranked_le
      ∙ sym (subst (λ k. section_least edges (ranked_cost n cost) top_rank (λ g. ranked_left (left (goal_of g)) (goal_of g)) k 0 v
      ≡ section_least edges (ranked_cost n cost) top_rank (λ g. left_ranked (goal_of g)) k 0 v) e
      (least_capped edges (ranked_cost n cost) top_rank (λ g. ranked_left (left (goal_of g)) (goal_of g)) (n - 1) 0 v))

  over_mine : (v : ℕ) → v ∈ roots → min_all unreached on_word (mine v) ≡ least_over ws price unreached left (root_of v)
  unfolding least_over
  over_mine v m = sym (ap (min_all unreached on_word) (rooted U v m))

  -- it has the least cost
  pub ranked_least : (v : ℕ) → v ∈ roots → rank_from v / distance_unit ≡ least_over ws price unreached left (root_of v)
  ranked_least v m = ap (λ x. x / distance_unit) (sym (rank_is v)) ∙ least_front (mine v) (mine_ranks v) ∙ over_mine v m

  -- a rank below the top is that of a word, which its note names
  record OwnWord (v : ℕ) : Type 0 where
    word_of_lem : Word
    same : word_of_lem ≡ note_word (root_of v) (rank_from v % note_unit)
    goal_lt : word_of_lem.goal < most_states
    adds_up : least_over ws price unreached left (root_of v) ≡ uncut_cost word_of_lem

  own_word : (v : ℕ) → v ∈ roots → rank_from v < top_rank → OwnWord v
  own_word v m h =
      let R = least_of top_rank on_rank (mine v) (subst (λ x. x < top_rank) (sym (rank_is v)) h) in
      let w = R.member in
      let M = mine_is v w R.listed in
      let K = mine_ranks v w R.listed in
      let e : rank_from v ≡ on_rank w = sym (rank_is v) ∙ R.is in
      let below : on_rank w < top_rank = subst (λ x. x < top_rank) e h in
      let N = reads (on_word w) w.label w.goal (e ∙ K.whole below) M.label_lt M.goal_lt in
      record {
        word_of_lem = w;
        same = λ i. word (M.root_is i) (N.label_is i) (N.goal_is i);
        goal_lt = M.goal_lt;
        adds_up = sym (ranked_least v m) ∙ ap (λ x. x / distance_unit) e ∙ K.front ∙ K.uncut below;
      }

  rank_le : (v : ℕ) → rank_from v ≤ top_rank
  rank_le v = subst (λ x. x ≤ top_rank) (rank_is v) (min_all_le top_rank on_rank (mine v))

  -- a note that is not that of no path is of a rank below the top
  note_below : (v : ℕ) → rank_from v % note_unit < unreached → rank_from v < top_rank
  note_below v h = let k = rank_le v in omega arith

  -- the first word of least cost has the least number
  first_named : (v : ℕ) → v ∈ roots → least_over ws price unreached left (root_of v) < unreached
      → first_over ws price unreached left (root_of v) ≡ just (note_word (root_of v) (rank_from v % note_unit))
  unfolding first_over word_of
  first_named v m h = first ∙ ap just same
    where
      c : ℕ
      c = least_over ws price unreached left (root_of v)

      w : Word
      w = spell v (section_trace edges cost unreached (λ g. left (goal_of g)) n 0 v)

      first : first_over ws price unreached left (root_of v) ≡ just w
      first = first_root U unreached left bound v m h

      named : first_with (λ x. eqb (on_word x) c) (mine v) ≡ just w
      named = sym (ap (first_with (λ x. eqb (on_word x) c)) (rooted U v m)) ∙ first

      M : Mine v w
      M = mine_is v w (of_first (λ x. eqb (on_word x) c) (mine v) named).0

      least : (x : Word) → x ∈ mine v → c ≤ on_word x
      least x k = subst (λ z. z ≤ on_word x) (over_mine v m) (least_under unreached on_word (mine v) x k)

      N : Reads (rank_from v % note_unit) w.label w.goal
      N =
          reads c w.label w.goal
          (sym (rank_is v) ∙ least_first (mine_ascend v m) (mine_ranks v) c h least w
          (mine_ranks v w (of_first (λ x. eqb (on_word x) c) (mine v) named).0).small named)
          M.label_lt M.goal_lt

      same : w ≡ note_word (root_of v) (rank_from v % note_unit)
      same = λ i. word (root_of v) (N.label_is i) (N.goal_is i)

  pub ranked_note : (v : ℕ) → v ∈ roots → Noted ws price left (root_of v) (rank_from v % note_unit)
  ranked_note v m = record {
    small = omega arith;
    none = none;
    goal_lt = λ h. goal_lt (own_word v m (note_below v h));
    remainder = λ h. let e = ranked_least v m in omega arith;
    adds_up = λ h. let O = own_word v m (note_below v h) in O.adds_up ∙ ap uncut_cost O.same;
    first = first_named v m;
  }
    where
      goal_lt : OwnWord v → note_goal (rank_from v % note_unit) < most_states
      goal_lt O = subst (λ w. w.goal < most_states) O.same O.goal_lt

      none : unreached ≤ rank_from v % note_unit → least_over ws price unreached left (root_of v) ≡ unreached
      none h = go (dec_le top_rank (rank_from v))
        where
          go : Dec (top_rank ≤ rank_from v) → least_over ws price unreached left (root_of v) ≡ unreached
          go (yes k) = let e = ranked_least v m in let l = rank_le v in omega arith
          go (no k) = let g = goal_lt (own_word v m (omega arith)) in absurd (omega arith)
