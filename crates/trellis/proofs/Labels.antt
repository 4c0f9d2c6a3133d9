-- Laws of packed labels, for general n: a label is its front followed by its back at any depth, and its symbols decide both.
-- Each is one division with remainder by a power of 4, or one more symbol.
use mathlib.Core.Path.{◌≡◌, sym, ap, ap₂, subst, ◌∙◌}
use Prim.Native.Nat.{ℕ, zero, suc, ◌+◌, ◌*◌, ◌-◌, ◌/◌, ◌%◌, ◌^◌, ◌≤◌, ◌<◌}
use native.Mathlib.Omega.{arith}
use native.Mathlib.Nat.{le_refl, le_trans, le-div_iff_mul-le, div-mul-le_self, mul-lt-mul_of_pos_right, pow-suc, mod-lt, mod-one}
use native.Mathlib.Nat.{div-add-mod', div-eq_of_lt, div-div-eq-div-mul, mul_comm, not-suc-le-zero, add-zero, add-suc, suc-add, sub-zero}
use native.Mathlib.Nat.{sub_self, div-one}
use native.Mathlib.Decide.{ℕ_discrete, dec_lt}
use lib.Arith.{mod-mul, digits_div, digits_mod}
use lib.Dec.{lit<}
use Rattle.trellis.specs.Label.{symbol, front, back, spliced}

pub four_pos : (k : ℕ) → 0 < 4 ^ k
four_pos zero = omega arith
four_pos (suc k) = let h = four_pos k in omega (arith, pow-suc 4 k)

module _ (n : ℕ) where
  pub spliced_front : (t x y : ℕ) → front n t (spliced n t x y) ≡ front n t x
  unfolding front back spliced
  spliced_front t x y = digits_div (x / 4 ^ (n - t)) (mod-lt y (four_pos (n - t)))

  pub spliced_back : (t x y : ℕ) → back n t (spliced n t x y) ≡ back n t y
  unfolding front back spliced
  spliced_back t x y = digits_mod (x / 4 ^ (n - t)) (mod-lt y (four_pos (n - t)))

  -- a label is its front and its back
  pub by_parts : (t x y z : ℕ) → front n t z ≡ front n t x → back n t z ≡ back n t y → z ≡ spliced n t x y
  unfolding front back spliced
  by_parts t x y z p q = sym (div-add-mod' z (4 ^ (n - t))) ∙ ap₂ (λ a b. a * 4 ^ (n - t) + b) p q

  -- one symbol more
  exponent : (t : ℕ) → t < n → 4 ^ (n - t) ≡ 4 ^ (n - suc t) * 4
  exponent t h = ap (λ k. 4 ^ k) (omega arith) ∙ pow-suc 4 (n - suc t)

  front_pred : (t x : ℕ) → t < n → front n t x ≡ front n (suc t) x / 4
  unfolding front
  front_pred t x h = ap (λ k. x / k) (exponent t h) ∙ sym (div-div-eq-div-mul x (4 ^ (n - suc t)) 4)

  pub front_suc : (t x : ℕ) → t < n → front n (suc t) x ≡ front n t x * 4 + symbol n t x
  unfolding front symbol
  front_suc t x h = let p = front_pred t x h in omega arith

  pub back_suc : (t x : ℕ) → t < n → back n t x ≡ symbol n t x * 4 ^ (n - suc t) + back n (suc t) x
  unfolding back symbol
  back_suc t x h = ap (λ k. x % k) (exponent t h ∙ mul_comm (4 ^ (n - suc t)) 4) ∙ mod-mul x (lit< tt) (four_pos (n - suc t))

  -- the symbol in front of depth t + 1, and behind depth t
  pub symbol_front : (t x y : ℕ) → front n (suc t) x ≡ front n (suc t) y → symbol n t x ≡ symbol n t y
  unfolding front symbol
  symbol_front t x y p = ap (λ k. k % 4) p

  back_drop : (t x : ℕ) → t < n → back n (suc t) x ≡ back n t x % 4 ^ (n - suc t)
  unfolding back
  back_drop t x h = sym (digits_mod (symbol n t x) (mod-lt x (four_pos (n - suc t)))) ∙ ap (λ k. k % 4 ^ (n - suc t)) (sym (back_suc t x h))

  pub back_step : (t x y : ℕ) → t < n → back n t x ≡ back n t y → back n (suc t) x ≡ back n (suc t) y
  back_step t x y h p = back_drop t x h ∙ ap (λ k. k % 4 ^ (n - suc t)) p ∙ sym (back_drop t y h)

  back_symbol : (t x : ℕ) → t < n → symbol n t x ≡ back n t x / 4 ^ (n - suc t)
  unfolding back
  back_symbol t x h = sym (digits_div (symbol n t x) (mod-lt x (four_pos (n - suc t))))
      ∙ ap (λ k. k / 4 ^ (n - suc t)) (sym (back_suc t x h))

  pub symbol_back : (t x y : ℕ) → t < n → back n t x ≡ back n t y → symbol n t x ≡ symbol n t y
  symbol_back t x y h p = back_symbol t x h ∙ ap (λ k. k / 4 ^ (n - suc t)) p ∙ sym (back_symbol t y h)

  -- deeper backs agree
  pub back_later : (k t x y : ℕ) → t + k ≤ n → back n t x ≡ back n t y → back n (t + k) x ≡ back n (t + k) y
  back_later zero t x y h p = rw add-zero p
  back_later (suc k) t x y h p = rw (add-suc, ← suc-add) (back_later k (suc t) x y (omega arith) (back_step t x y (omega arith) p))

  pub front_step : (t x y : ℕ) → t < n → front n (suc t) x ≡ front n (suc t) y → front n t x ≡ front n t y
  front_step t x y h p = front_pred t x h ∙ ap (λ k. k / 4) p ∙ sym (front_pred t y h)

  -- labels with the same symbols
  pub front_by_symbols : (t x y : ℕ) → t ≤ n → x < 4 ^ n → y < 4 ^ n → ((u : ℕ) → u < t → symbol n u x ≡ symbol n u y)
      → front n t x ≡ front n t y
  unfolding front
  front_by_symbols zero x y h a b f = rw sub-zero (div-eq_of_lt a ∙ sym (div-eq_of_lt b))
  front_by_symbols (suc t) x y h a b f = front_suc t x h
      ∙ ap₂ (λ p q. p * 4 + q) (front_by_symbols t x y (omega arith) a b (λ u l. f u (omega arith))) (f t (omega arith))
      ∙ sym (front_suc t y h)

  pub back_by_symbols : (k t x y : ℕ) → t + k ≡ n → ((u : ℕ) → t ≤ u → u < n → symbol n u x ≡ symbol n u y) → back n t x ≡ back n t y
  unfolding back
  back_by_symbols zero t x y h f = let e : n - t ≡ 0 = omega arith in ap (λ k. x % 4 ^ k) e ∙ mod-one x ∙ sym (mod-one y)
      ∙ sym (ap (λ k. y % 4 ^ k) e)
  back_by_symbols (suc k) t x y h f = back_suc t x (omega arith)
      ∙ ap₂ (λ p q. p * 4 ^ (n - suc t) + q) (f t (omega arith) (omega arith))
      (back_by_symbols k (suc t) x y (omega arith) (λ u a b. f u (omega arith) b)) ∙ sym (back_suc t y (omega arith))

  pub front_mono : (t : ℕ) {x y : ℕ} → x ≤ y → front n t x ≤ front n t y
  unfolding front
  front_mono t {x} {y} h = (le-div_iff_mul-le (four_pos (n - t))).1 (le_trans (div-mul-le_self x (4 ^ (n - t))) h)

  -- a smaller front with the same back is a smaller label
  pub spliced_lower : (t x y : ℕ) → front n t x < front n t y → spliced n t x y < y
  unfolding front back spliced
  spliced_lower t x y h = let p = mul-lt-mul_of_pos_right h (four_pos (n - t)) in omega (arith, div-add-mod' y (4 ^ (n - t)))

  -- symbols in front of depth t
  pub symbol_before : (t u x y : ℕ) → t ≤ n → u < t → front n t x ≡ front n t y → symbol n u x ≡ symbol n u y
  symbol_before zero u x y h l p = absurd (not-suc-le-zero l)
  symbol_before (suc t) u x y h l p = go (ℕ_discrete u t) (symbol_before t u x y (omega arith))
    where
      go : Dec (u ≡ t) → (u < t → front n t x ≡ front n t y → symbol n u x ≡ symbol n u y) → symbol n u x ≡ symbol n u y
      go (yes e) r = subst (λ v. symbol n v x ≡ symbol n v y) (sym e) (symbol_front t x y p)
      go (no e) r = r (omega arith) (front_step t x y h p)

  pub front_all : (x : ℕ) → front n n x ≡ x
  unfolding front
  front_all x = rw sub_self (div-one x)

  -- a label is decided by its symbols
  pub by_symbols : (x y : ℕ) → x < 4 ^ n → y < 4 ^ n → ((t : ℕ) → t < n → symbol n t x ≡ symbol n t y) → x ≡ y
  by_symbols x y a b h = sym (front_all x) ∙ front_by_symbols n x y (le_refl n) a b h ∙ front_all y

  pub front_none : (x : ℕ) → x < 4 ^ n → front n 0 x ≡ 0
  unfolding front
  front_none x h = rw sub-zero (div-eq_of_lt h)

  -- behind one front, a smaller symbol makes a smaller label
  pub symbol_lower : (t x y : ℕ) → t < n → front n t x ≡ front n t y → symbol n t x < symbol n t y → x < y
  symbol_lower t x y h e s = go (dec_lt x y)
    where
      fronts : front n (suc t) x < front n (suc t) y
      fronts = omega (arith, front_suc t x h, front_suc t y h)

      go : Dec (x < y) → x < y
      go (yes p) = p
      go (no p) = absurd (omega (arith, fronts, front_mono (suc t) {x = y} {y = x} (omega arith)))
