-- Keys that tell the endings at a depth apart. At depth n an ending is a goal. An ending at depth t is symbol t followed by an ending at
-- depth t + 1, so a key at t + 1 with that symbol is a key at t. And first words tell apart what they are first words of, so a key can be
-- kept below the number of words.
use mathlib.Core.Path.{◌≡◌, sym, ap, ap₂, ◌∙◌}
use mathlib.Core.List.{List}
use Prim.Native.Nat.{ℕ, suc, ◌+◌, ◌-◌, ◌*◌, ◌^◌, ◌<◌}
use native.Mathlib.Omega.{arith}
use native.Mathlib.Nat.{mod-lt, mod-one}
use lib.ListN.{length}
use lib.Dec.{lit<}
use Rattle.trellis.specs.Label.{symbol, back}
use Rattle.trellis.specs.Word.{Word, word_at, Table}
use Rattle.trellis.proofs.Labels.{back_suc, back_step, symbol_back}
use Rattle.trellis.proofs.Words.{ending_back, ending_goal, ending_eq}
use Rattle.runs.specs.Inner.Runs.{first_like, Tells}
use Rattle.runs.specs.Inner.Cuts.{above_goals, ending_at, step_key}
use Rattle.runs.proofs.FirstLike.{like_is, like_eq}
use Rattle.runs.proofs.Cuts.{same_ending_lem, ending_number_lem}

pub tells_first : (W : ℕ) (ending v : ℕ → ℕ) → Tells W ending v → Tells W ending (first_like v)
tells_first W ending v D i j a b = (λ e. (D i j a b).0 (sym (like_is v i) ∙ ap v e ∙ like_is v j), λ e. like_eq v i j ((D i j a b).1 e))

pub tells_row : (W : ℕ) (ending v w : ℕ → ℕ) → ((i : ℕ) → i < W → w i ≡ v i) → Tells W ending v → Tells W ending w
tells_row W ending v w h D i j a b = (λ e. (D i j a b).0 (sym (h i a) ∙ e ∙ h j b), λ e. h i a ∙ (D i j a b).1 e ∙ sym (h j b))

-- ---- one symbol more

pub symbol_lt : (n t x : ℕ) → symbol n t x < 4
unfolding symbol
symbol_lt n t x = mod-lt _ (lit< tt)

module _ {n : ℕ} {table : List Word} (G : Table n table) (t : ℕ) (deep : t < n) where
  abbrev symbol_at : ℕ → ℕ
  symbol_at i = symbol n t (word_at table i).label

  step_parts : (v : ℕ → ℕ) (i j : ℕ) → step_key n table t v i ≡ step_key n table t v j → (v i ≡ v j) × (symbol_at i ≡ symbol_at j)
  step_parts v i j e =
      let p = symbol_lt n t (word_at table i).label in
      let q = symbol_lt n t (word_at table j).label in
      (omega arith, omega arith)

  end_longer : (i j : ℕ) → i < length table → j < length table → symbol_at i ≡ symbol_at j
      → ending_at n table (suc t) i ≡ ending_at n table (suc t) j
      → ending_at n table t i ≡ ending_at n table t j
  end_longer i j a b p q =
      let E = same_ending_lem G (suc t) deep i j a b q in
      ending_number_lem n t (word_at table i) (word_at table j) (above_goals table) (ending_eq
      (back_suc n t (word_at table i).label deep ∙ ap₂ (λ x y. x * 4 ^ (n - suc t) + y) p (ending_back E)
      ∙ sym (back_suc n t (word_at table j).label deep))
      (ending_goal E))

  end_symbol : (i j : ℕ) → i < length table → j < length table → ending_at n table t i ≡ ending_at n table t j → symbol_at i ≡ symbol_at j
  end_symbol i j a b e =
      symbol_back n t (word_at table i).label (word_at table j).label deep (ending_back (same_ending_lem G t (omega arith) i j a b e))

  end_shorter : (i j : ℕ) → i < length table → j < length table → ending_at n table t i ≡ ending_at n table t j
      → ending_at n table (suc t) i ≡ ending_at n table (suc t) j
  end_shorter i j a b e =
      let E = same_ending_lem G t (omega arith) i j a b e in
      ending_number_lem n (suc t) (word_at table i) (word_at table j) (above_goals table)
      (ending_eq (back_step n t (word_at table i).label (word_at table j).label deep (ending_back E)) (ending_goal E))

  pub tells_step : (v : ℕ → ℕ) → Tells (length table) (ending_at n table (suc t)) v
      → Tells (length table) (ending_at n table t) (step_key n table t v)
  tells_step v D i j a b = (
    λ e. end_longer i j a b (step_parts v i j e).1 ((D i j a b).0 (step_parts v i j e).0),
    λ e. ap₂ (λ x y. x * 4 + y) ((D i j a b).1 (end_shorter i j a b e)) (end_symbol i j a b e),
  )

-- ---- at depth n

no_symbols : (n x y : ℕ) → back n n x ≡ back n n y
unfolding back
no_symbols n x y = let e : n - n ≡ 0 = omega arith in rw e (mod-one x ∙ sym (mod-one y))

pub tells_goals : {n : ℕ} {table : List Word} → Table n table → Tells (length table) (ending_at n table n) (λ i. (word_at table i).goal)
tells_goals {n} {table} G i j a b = (
  λ e. ending_number_lem n n (word_at table i) (word_at table j) (above_goals table)
      (ending_eq (no_symbols n (word_at table i).label (word_at table j).label) e),
  λ e. ending_goal (same_ending_lem G n (omega arith) i j a b e),
)
