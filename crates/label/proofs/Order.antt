-- The order of labels is the order of their symbols. Drop the last symbol of both: if what is left differs, it decides, for numbers (x / 4
-- < y / 4 gives x < y) as for symbols; if it is the same, the last symbols decide, and every symbol before them agrees. So by induction on
-- n.
use mathlib.Core.Path.{◌≡◌, refl, sym, ◌∙◌, ap}
use mathlib.Core.Logic.{◌↔◌}
use Prim.Native.Nat.{ℕ, zero, suc, ◌/◌, ◌%◌, ◌^◌, ◌<◌}
use native.Mathlib.Omega.{arith}
use native.Mathlib.Decide.{ℕ_discrete}
use native.Mathlib.Nat.{not-suc-le-zero}
use lib.Dec.{ltb}
use borrow.Author.Tests.{ltb-true, lt-ltb}
use Rattle.trellis.specs.Label.{symbol}
use Rattle.label.specs.Inner.Labels.{InOrder, Earlier}
use Rattle.label.proofs.Digits.{drop_short, symbol_last, symbol_drop}
use Rattle.trellis.proofs.Labels.{by_symbols}

module _ (n x y : ℕ) where
  -- what is left without the last symbols decides
  by_front : Earlier n (x / 4) (y / 4) → Earlier (suc n) x y
  by_front w = record {
    at = w.at;
    inside = omega arith;
    before = λ t l. symbol_drop n t x (omega arith) ∙ w.before t l ∙ sym (symbol_drop n t y (omega arith));
    smaller = rw (symbol_drop n w.at x w.inside, symbol_drop n w.at y w.inside) w.smaller;
  }

  -- the last symbols decide
  by_last : x / 4 ≡ y / 4 → x % 4 < y % 4 → Earlier (suc n) x y
  by_last e h = record {
    at = n;
    inside = omega arith;
    before = λ t l. symbol_drop n t x l ∙ ap (symbol n t) e ∙ sym (symbol_drop n t y l);
    smaller = rw (symbol_last n x, symbol_last n y) h;
  }

  in_front : (w : Earlier (suc n) x y) → w.at < n → Earlier n (x / 4) (y / 4)
  in_front w h = record {
    at = w.at;
    inside = h;
    before = λ t l. sym (symbol_drop n t x (omega arith)) ∙ w.before t l ∙ symbol_drop n t y (omega arith);
    smaller = rw (symbol_drop n w.at x h, symbol_drop n w.at y h) at w.smaller;
  }

  at_last : (w : Earlier (suc n) x y) → x < 4 ^ suc n → y < 4 ^ suc n → w.at ≡ n → x < y
  at_last w a b e =
      let front : x / 4 ≡ y / 4 =
      by_symbols n (x / 4) (y / 4) (drop_short n a) (drop_short n b)
      (λ t l. sym (symbol_drop n t x l) ∙ w.before t (omega arith) ∙ symbol_drop n t y l) in
      let last : x % 4 < y % 4 = rw (e, symbol_last n x, symbol_last n y) at w.smaller in
      omega arith

pub earlier : (n x y : ℕ) → x < 4 ^ n → y < 4 ^ n → x < y → Earlier n x y
earlier zero x y a b h = absurd (omega arith)
earlier (suc n) x y a b h = go (ℕ_discrete (x / 4) (y / 4)) (earlier n (x / 4) (y / 4) (drop_short n a) (drop_short n b))
  where
    go : Dec (x / 4 ≡ y / 4) → (x / 4 < y / 4 → Earlier n (x / 4) (y / 4)) → Earlier (suc n) x y
    go (yes e) r = by_last n x y e (omega arith)
    go (no e) r = by_front n x y (r (omega arith))

pub smaller : (n x y : ℕ) → x < 4 ^ n → y < 4 ^ n → Earlier n x y → x < y
smaller zero x y a b w = absurd (not-suc-le-zero w.inside)
smaller (suc n) x y a b w = go (ℕ_discrete w.at n) (smaller n (x / 4) (y / 4) (drop_short n a) (drop_short n b))
  where
    go : Dec (w.at ≡ n) → (Earlier n (x / 4) (y / 4) → x / 4 < y / 4) → x < y
    go (yes e) r = at_last n x y w a b e
    go (no e) r = let h = r (in_front n x y w (omega arith)) in omega arith

pub order : (n x y : ℕ) → x < 4 ^ n → y < 4 ^ n → (x < y) ↔ Earlier n x y
order n x y a b = (earlier n x y a b, smaller n x y a b)

pub in_order : (x y : ℕ) → InOrder x y (ltb x y)
in_order x y = record {
  as_numbers = refl;
  as_symbols = λ n a b. (λ e. earlier n x y a b (ltb-true x y e), λ w. lt-ltb x y (smaller n x y a b w));
}
