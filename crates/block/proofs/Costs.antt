-- The prices of a step, written four at a time.
use mathlib.Core.Path.{◌≡◌, sym, ap, subst, ◌∙◌}
use mathlib.Core.List.{List}
use Prim.Native.Nat.{ℕ, zero, suc, ◌+◌, ◌-◌, ◌*◌, ◌^◌, ◌≤◌, ◌<◌}
use native.Mathlib.Nat.{add-zero, mul_assoc, pow-suc, pow-le-pow_right, mul-le-mul}
use native.Mathlib.Decide.{ℕ_discrete, dec_lt}
use native.Mathlib.Omega.{arith}
use lib.Dec.{lit<}
use lib.ListN.{length, get_or, set, length-set}
use lib.Seq.{get_or-set_same, get_or-set_other, set_out}
use Rattle.trellis.specs.Bounds.{most_symbols}
use Rattle.trellis.specs.Comparing.{symbol_cost}
use Rattle.paths.specs.Inner.Ranked.{label_unit, distance_unit, top_rank, ranked, ranked_cost, PriceRoom}
use Rattle.block.specs.Inner.Prices.{Prices}

-- what the symbols from t on add is there, and the next one's weight is known
pub record InPrices (n received erased : ℕ) (prices : List ℕ) (weight t : ℕ) : Type 0 where
  pub t_le : t ≤ n
  pub room : PriceRoom prices
  pub weight_is : weight ≡ 4 ^ (n - t) * label_unit
  pub light : weight ≤ distance_unit
  pub at : (u a : ℕ) → t ≤ u → u < n → a < 4 → get_or prices (4 * u + a) 0 ≡ ranked_cost n (symbol_cost n received erased) u a

pub prices_start : {n received erased : ℕ} {prices : List ℕ} → PriceRoom prices → InPrices n received erased prices label_unit n
prices_start {n} h =
    let e : n - n ≡ 0 = omega arith in
    record {
      t_le = omega arith;
      room = h;
      weight_is = sym (ap (λ k. 4 ^ k * label_unit) e);
      light = omega arith;
      at =
          λ u a k l. absurd (omega arith);
    }

pub step_inside : {n received erased weight t : ℕ} {prices : List ℕ} → InPrices n received erased prices weight t → 0 < t → t - 1 < n
step_inside I h = omega (arith, I.t_le)

-- four places written, one behind another
abbrev four : List ℕ → ℕ → ℕ → ℕ → ℕ → ℕ → List ℕ
four l i w x y z = set (set (set (set l i w) (i + 1) x) (i + 2) y) (i + 3) z

module _ (l : List ℕ) (i w x y z : ℕ) (h : i + 3 < length l) where
  four_0 : get_or (four l i w x y z) i 0 ≡ w
  four_0 =
      get_or-set_other (set (set (set l i w) (i + 1) x) (i + 2) y) (i + 3) i z 0 (λ k. absurd (omega arith))
      ∙ get_or-set_other (set (set l i w) (i + 1) x) (i + 2) i y 0 (λ k. absurd (omega arith))
      ∙ get_or-set_other (set l i w) (i + 1) i x 0 (λ k. absurd (omega arith))
      ∙ get_or-set_same l i w 0 (omega arith)

  four_1 : get_or (four l i w x y z) (i + 1) 0 ≡ x
  four_1 =
      get_or-set_other (set (set (set l i w) (i + 1) x) (i + 2) y) (i + 3) (i + 1) z 0 (λ k. absurd (omega arith))
      ∙ get_or-set_other (set (set l i w) (i + 1) x) (i + 2) (i + 1) y 0 (λ k. absurd (omega arith))
      ∙ get_or-set_same (set l i w) (i + 1) x 0 (simp length-set (omega arith))

  four_2 : get_or (four l i w x y z) (i + 2) 0 ≡ y
  four_2 =
      get_or-set_other (set (set (set l i w) (i + 1) x) (i + 2) y) (i + 3) (i + 2) z 0 (λ k. absurd (omega arith))
      ∙ get_or-set_same (set (set l i w) (i + 1) x) (i + 2) y 0 (simp length-set (omega arith))

  four_3 : get_or (four l i w x y z) (i + 3) 0 ≡ z
  four_3 = get_or-set_same (set (set (set l i w) (i + 1) x) (i + 2) y) (i + 3) z 0 (simp length-set (omega arith))

  four_other : (j : ℕ) → i + 3 < j → get_or (four l i w x y z) j 0 ≡ get_or l j 0
  four_other j k =
      get_or-set_other (set (set (set l i w) (i + 1) x) (i + 2) y) (i + 3) j z 0 (λ e. absurd (omega arith))
      ∙ get_or-set_other (set (set l i w) (i + 1) x) (i + 2) j y 0 (λ e. absurd (omega arith))
      ∙ get_or-set_other (set l i w) (i + 1) j x 0 (λ e. absurd (omega arith))
      ∙ get_or-set_other l i j w 0 (λ e. absurd (omega arith))

-- what holds of every number before and of the four holds of every number after
set_all : (P : ℕ → Type 0) (l : List ℕ) (i w : ℕ) → ((j : ℕ) → P (get_or l j 0)) → P w → (j : ℕ) → P (get_or (set l i w) j 0)
set_all P l i w all here j = go (dec_lt i (length l)) (ℕ_discrete j i)
  where
    go : Dec (i < length l) → Dec (j ≡ i) → P (get_or (set l i w) j 0)
    go (yes h) (yes e) = subst (λ k. P (get_or (set l i w) k 0)) (sym e) (subst P (sym (get_or-set_same l i w 0 h)) here)
    go (yes h) (no e) = subst P (sym (get_or-set_other l i j w 0 e)) (all j)
    go (no h) e = subst (λ k. P (get_or k j 0)) (sym (set_out l i w (omega arith))) (all j)

abbrev four_all : (P : ℕ → Type 0) (l : List ℕ) (i w x y z : ℕ) → ((j : ℕ) → P (get_or l j 0)) → P w → P x → P y → P z
    → (j : ℕ) → P (get_or (four l i w x y z) j 0)
four_all P l i w x y z all a b c d =
    set_all P (set (set (set l i w) (i + 1) x) (i + 2) y) (i + 3) z
    (set_all P (set (set l i w) (i + 1) x) (i + 2) y (set_all P (set l i w) (i + 1) x (set_all P l i w all a) b) c) d

-- what is written for the symbol a
price_is : (n t cost a weight : ℕ) → weight ≡ 4 ^ (n - suc t) * label_unit
    → cost * distance_unit + a * weight ≡ ranked cost (a * 4 ^ (n - suc t)) 0
unfolding ranked
price_is n t cost a weight e =
    let m : a * (4 ^ (n - suc t) * label_unit) ≡ a * 4 ^ (n - suc t) * label_unit = sym (mul_assoc a (4 ^ (n - suc t)) label_unit) in
    ap (λ x. cost * distance_unit + a * x) e ∙ omega (arith, m)

pub prices_more : {n received erased t weight c₀ c₁ c₂ c₃ w x y z : ℕ} {prices : List ℕ} → n ≤ most_symbols
    → InPrices n received erased prices weight t → 0 < t
    → c₀ ≡ symbol_cost n received erased (t - 1) 0 → (w ≡ c₀ * distance_unit + 0 * weight) × (w ≤ top_rank)
    → c₁ ≡ symbol_cost n received erased (t - 1) 1 → (x ≡ c₁ * distance_unit + 1 * weight) × (x ≤ top_rank)
    → c₂ ≡ symbol_cost n received erased (t - 1) 2 → (y ≡ c₂ * distance_unit + 2 * weight) × (y ≤ top_rank)
    → c₃ ≡ symbol_cost n received erased (t - 1) 3 → (z ≡ c₃ * distance_unit + 3 * weight) × (z ≤ top_rank)
    → InPrices n received erased (four prices (4 * (t - 1)) w x y z) (weight * 4) (t - 1)
unfolding ranked_cost
prices_more {n} {received} {erased} {t} {weight} {w = w} {x} {y} {z} {prices} few I h c₀-is a c₁-is b c₂-is c c₃-is d =
    record {
      t_le = omega (arith, I.t_le);
      room = record { long = simp length-set I.room.long; small = small };
      weight_is = weights;
      light = lighter;
      at = at;
    }
  where
    inside : 4 * (t - 1) + 3 < length prices
    inside = omega (arith, I.room.long, I.t_le)

    small : (i : ℕ) → get_or (four prices (4 * (t - 1)) w x y z) i 0 ≤ top_rank
    small i = four_all (λ k. k ≤ top_rank) prices (4 * (t - 1)) w x y z I.room.small a.1 b.1 c.1 d.1 i

    weights : weight * 4 ≡ 4 ^ (n - (t - 1)) * label_unit
    weights =
        let e : n - (t - 1) ≡ suc (n - t) = omega (arith, I.t_le) in
        omega (arith, I.weight_is, ap (λ k. 4 ^ k) e, pow-suc 4 (n - t))

    lighter : weight * 4 ≤ distance_unit
    lighter =
        let m : 4 ^ (n - (t - 1)) ≤ 4 ^ 8 = pow-le-pow_right (lit< tt) (let k : n - (t - 1) ≤ most_symbols = omega arith in k) in
        omega (arith, weights)

    heavy : weight ≡ 4 ^ (n - suc (t - 1)) * label_unit
    heavy = let e : n - t ≡ n - suc (t - 1) = omega arith in I.weight_is ∙ ap (λ k. 4 ^ k * label_unit) e

    is : (s : ℕ) {k : ℕ} → k ≡ symbol_cost n received erased (t - 1) s
        → k * distance_unit + s * weight ≡ ranked_cost n (symbol_cost n received erased) (t - 1) s
    is s {k} k_is = price_is n (t - 1) k s weight heavy ∙ ap (λ k. ranked k (s * 4 ^ (n - suc (t - 1))) 0) k_is

    here : (s : ℕ) → s < 4
        → get_or (four prices (4 * (t - 1)) w x y z) (4 * (t - 1) + s) 0 ≡ ranked_cost n (symbol_cost n received erased) (t - 1) s
    here zero l = rw (add-zero (4 * (t - 1))) (four_0 prices (4 * (t - 1)) w x y z inside ∙ a.0 ∙ is 0 c₀-is)
    here (suc zero) l = four_1 prices (4 * (t - 1)) w x y z inside ∙ b.0 ∙ is 1 c₁-is
    here (suc (suc zero)) l = four_2 prices (4 * (t - 1)) w x y z inside ∙ c.0 ∙ is 2 c₂-is
    here (suc (suc (suc zero))) l = four_3 prices (4 * (t - 1)) w x y z inside ∙ d.0 ∙ is 3 c₃-is
    here (suc (suc (suc (suc s)))) l = absurd (omega arith)

    at : (u s : ℕ) → t - 1 ≤ u → u < n → s < 4
        → get_or (four prices (4 * (t - 1)) w x y z) (4 * u + s) 0 ≡ ranked_cost n (symbol_cost n received erased) u s
    at u s l m k = go (ℕ_discrete u (t - 1))
      where
        go : Dec (u ≡ t - 1) → get_or (four prices (4 * (t - 1)) w x y z) (4 * u + s) 0 ≡ ranked_cost n (symbol_cost n received erased) u s
        go (yes e) = subst (λ v. get_or (four prices (4 * (t - 1)) w x y z) (4 * v + s) 0 ≡ ranked_cost n (symbol_cost n received erased) v s)
            (sym e) (here s k)
        go (no e) = four_other prices (4 * (t - 1)) w x y z inside (4 * u + s) (omega arith) ∙ I.at u s (omega arith) m k

pub prices_end : {n received erased weight t : ℕ} {prices : List ℕ} → InPrices n received erased prices weight t → t ≤ 0
    → Prices n received erased prices
prices_end I h = record { room = I.room; at = λ u a k. I.at u a (omega arith) k }

-- ---- the size of a price

pub symbol_least : (symbol weight : ℕ) → symbol ≤ 3 → weight ≤ distance_unit → symbol * weight ≤ 3 * distance_unit
symbol_least symbol weight h k = mul-le-mul h k
