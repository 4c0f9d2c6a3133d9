-- A block of a chain and the section that it uses, here at the front of a list. If the section is sound and the block's words and their
-- costs are its own, then the block is this section as the theory of paths takes it; with its rows of least costs and its ranked prices it
-- is ready to be gone through. What is left to pay at its goals and roots is what is left from their states.
use mathlib.Core.Path.{◌≡◌, refl, sym, ap, subst, ◌∙◌}
use mathlib.Core.Bool.{Bool}
use mathlib.Core.List.{List}
use Prim.Native.Nat.{ℕ, suc, ◌-◌, ◌*◌, ◌/◌, ◌^◌, ◌≤◌, ◌<◌}
use native.Mathlib.Omega.{arith}
use native.Mathlib.Nat.{zero-add, pow-le-pow_right, mul-le-mul_right}
use lib.Dec.{lit<}
use Rattle.trellis.specs.Bounds.{most_symbols, most_states}
use Rattle.trellis.specs.Lists.{◌∈◌, each}
use Rattle.trellis.specs.Word.{Word}
use Rattle.trellis.specs.Own.{Edge}
use Rattle.trellis.specs.Section.{word_of}
use Rattle.trellis.specs.Layout.{n_of, vertex_count_of, root_state, goal_state, step_edges, section_words}
use Rattle.trellis.proofs.Lists.{in_each}
use Rattle.paths.specs.Chain.{unreached}
use Rattle.paths.specs.Inner.Chains.{chain_least}
use Rattle.paths.specs.Inner.OneBlock.{word_price}
use Rattle.paths.specs.Inner.Ranked.{distance_unit, ranked, ranked_cost}
use Rattle.paths.specs.Inner.Sections.{section_least}
use Rattle.paths.proofs.Packed.{cost_packed}
use Rattle.paths.proofs.Words.{whole_fits}
use Rattle.paths.proofs.Ordered.{run_ordered}
use Rattle.paths.proofs.Sections.{least_last}
use Rattle.paths.proofs.Chain.{least_le, least_block}
use Rattle.paths.proofs.Blocks.{Uses, least_root}
use Rattle.section_file.specs.Inner.Sound.{Sound}
use Rattle.section_file.proofs.Words.{bounded, edge_from}
use Rattle.lowering.specs.Inner.Rows.{Priced}
use Rattle.least_rows.specs.Inner.Rows.{row_at, LeastRows}
use Rattle.beginnings.specs.Inner.Standing.{Fitted}

-- the roots of the section at the front of l
abbrev pub roots_of : List ℕ → List ℕ
roots_of l = each (λ v. v) (vertex_count_of l 0)

-- block b is this section, which is sound, and its words cost what their symbols cost
pub record BlockUses (words : ℕ → List Word) (dist : ℕ → Word → ℕ) (b : ℕ) (l : List ℕ) (cost : ℕ → ℕ → ℕ) : Type 0 where
  pub sound : Sound l
  pub uses : Uses (words b) (dist b) (step_edges l) (n_of l) (roots_of l) (root_state l) (goal_state l) cost

-- and its rows and prices are there, where m blocks are left behind it
pub record Prepared (words : ℕ → List Word) (ends : ℕ → Bool) (dist : ℕ → Word → ℕ) (m b : ℕ) (l : List ℕ) (cost : ℕ → ℕ → ℕ)
    (rows prices : List ℕ) : Type 0 where
  pub block : BlockUses words dist b l cost
  pub fitted : Fitted (step_edges l) (n_of l) (vertex_count_of l) cost (λ g. chain_least words ends dist unreached m (suc b) (goal_state l g))
      rows prices

-- ---- a sound section

module _ {words : ℕ → List Word} {dist : ℕ → Word → ℕ} {b : ℕ} {l : List ℕ} {cost : ℕ → ℕ → ℕ} where
  pub block_uses : Sound l → words b ≡ section_words l → ((w : Word) → dist b w ≡ word_price (n_of l) cost w) → BlockUses words dist b l cost
  unfolding section_words word_price word_of
  block_uses S e f = record {
    sound = S;
    uses = record {
      words_are = e;
      roots_rise = run_ordered (λ v. v) 0 (vertex_count_of l 0) (λ j k a c. S.roots_ascend j k a (omega arith));
      same_cost = λ v p m.
          let P = whole_fits (step_edges l) (n_of l) (vertex_count_of l (n_of l)) (bounded S) S.n_from v p m in
          f (word_of (root_state l) (goal_state l) v p) ∙ cost_packed cost (n_of l) P.symbols_fit 0 0 (zero-add (n_of l));
    };
  }

to_below_lem : {l : List ℕ} → Sound l → (t : ℕ) → t < n_of l → (e : Edge) → e ∈ step_edges l t → e.to < vertex_count_of l (suc t)
to_below_lem {l} S t h e m =
    let E = edge_from S t e m in
    subst (λ (x : Edge). x.to < vertex_count_of l (suc t)) (sym E.is) (S.to_below t E.at h E.below)

-- a ranked price is a cost above a symbol's place in the label
cost_ranked : (n : ℕ) (cost : ℕ → ℕ → ℕ) (t a : ℕ) → t < n → n ≤ most_symbols → a < 4 → ranked_cost n cost t a / distance_unit ≡ cost t a
unfolding ranked_cost ranked
cost_ranked n cost t a h s k =
    let i : n - suc t ≤ 7 = omega arith in
    let p : 4 ^ (n - suc t) ≤ 4 ^ 7 = pow-le-pow_right (lit< tt) i in
    let j : a ≤ 3 = omega arith in
    let q : a * 4 ^ (n - suc t) ≤ 3 * 4 ^ (n - suc t) = mul-le-mul_right (4 ^ (n - suc t)) j in
    omega arith

pub prepared : {words : ℕ → List Word} {ends : ℕ → Bool} {dist : ℕ → Word → ℕ} {m b : ℕ} {l : List ℕ} {cost : ℕ → ℕ → ℕ}
    {rows prices : List ℕ} → BlockUses words dist b l cost → Priced l prices (ranked_cost (n_of l) cost)
    → LeastRows l cost (chain_least words ends dist unreached m (suc b)) rows → Prepared words ends dist m b l cost rows prices
prepared {words} {ends} {dist} {m} {b} {l} {cost} B P R = record {
  block = B;
  fitted = record {
    short = B.sound.n_to;
    row_is = R.at;
    price_is = λ t a h k. ap (λ p. p / distance_unit) (P.at t a h k) ∙ cost_ranked (n_of l) cost t a h B.sound.n_to k;
    symbol_lt = (bounded B.sound).symbol_lt;
    to_lt = to_below_lem B.sound;
    counts_le = B.sound.vertices_to;
  };
}

-- ---- what is left to pay

module _ {words : ℕ → List Word} {ends : ℕ → Bool} {dist : ℕ → Word → ℕ} {m b : ℕ} {l : List ℕ} {cost : ℕ → ℕ → ℕ} {rows prices : List ℕ}
    (W : Prepared words ends dist m b l cost rows prices) where
  abbrev behind : ℕ → ℕ
  behind s = chain_least words ends dist unreached m (suc b) s

  pub goal_lt : (g : ℕ) → g < vertex_count_of l (n_of l) → goal_state l g < most_states
  goal_lt g h = omega (arith, W.block.sound.goals_below g h, W.block.sound.states_to)

  -- at a goal
  pub row_goal : (g : ℕ) → g < vertex_count_of l (n_of l) → row_at rows (n_of l) g ≡ behind (goal_state l g)
  row_goal g h =
      let z : n_of l - n_of l ≡ 0 = omega arith in
      W.fitted.row_is (n_of l) g (omega arith) h
      ∙ ap (λ j. section_least (step_edges l) cost unreached (λ v. behind (goal_state l v)) j (n_of l) g) z
      ∙ least_last (step_edges l) cost unreached (λ v. behind (goal_state l v)) (n_of l) g

  -- and at a root
  pub row_root : (v : ℕ) → v < vertex_count_of l 0 → row_at rows 0 v ≡ chain_least words ends dist unreached (suc m) b (root_state l v)
  row_root v h =
      let z : n_of l - 0 ≡ n_of l = omega arith in
      W.fitted.row_is 0 v (omega arith) h
      ∙ ap (λ j. section_least (step_edges l) cost unreached (λ g. behind (goal_state l g)) j 0 v) z
      ∙ sym (least_block words ends dist unreached m b (root_state l v)
      ∙ least_root W.block.uses unreached behind (least_le words ends dist unreached m (suc b)) v
      (in_each (λ u. u) (vertex_count_of l 0) v v h refl))
