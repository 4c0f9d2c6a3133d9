-- An array of 16 that is filled from the front: with the first b numbers in place, the next one stands behind them.
use mathlib.Core.Path.{◌≡◌, refl, sym, ap, ap₂, subst, ◌∙◌}
use mathlib.Core.List.{List, [], ◌∷◌, ◌++◌, map}
use Prim.Native.Nat.{ℕ, ◌+◌, ◌≤◌, ◌<◌}
use native.Mathlib.Omega.{arith}
use native.Mathlib.Numerals.{add-one}
use native.Mathlib.Decide.{ℕ_discrete}
use lib.ListN.{length, get_or, take, set, length-set, length-map}
use lib.Seq.{length-take-le, take-suc, take-suc-set, take-length, get_or-set_same, get_or-set_other, ext_get_or}
use Rattle.std.proofs.lemmas.List.{get_or-take, get_or-map}
use Rattle.parity.specs.Inner.Front.{Front}

pub record Fills (vs : List ℕ) (b : ℕ) (array : List ℕ) : Type 0 where
  pub are : take b array ≡ take b vs
  pub most : b ≤ length vs
  pub sixteen : length array ≡ 16

pub fills_none : (vs : List ℕ) {array : List ℕ} → length array ≡ 16 → Fills vs 0 array
fills_none vs e = record { are = refl; most = omega arith; sixteen = e }

pub fills_next : {vs array : List ℕ} {b v : ℕ} → Fills vs b array → b < length vs → length vs ≤ 16 → v ≡ get_or vs b 0
    → Fills vs (b + 1) (set array b v)
fills_next {vs} {array} {b} {v} F h few e = record {
  are = ap (λ k. take k (set array b v)) (add-one b) ∙ take-suc-set array b v (omega (arith, F.sixteen))
      ∙ ap₂ (λ l x. l ++ (x ∷ [])) F.are e ∙ sym (take-suc vs b 0 h) ∙ ap (λ k. take k vs) (sym (add-one b));
  most = omega arith;
  sixteen = length-set array b v ∙ F.sixteen;
}

pub fills_all : {vs array : List ℕ} {b : ℕ} → Fills vs b array → length vs ≤ b → Front vs array
fills_all {vs} {array} {b} F h =
    let e : b ≡ length vs = omega (arith, F.most) in
    record {
      are = ap (λ k. take k array) (sym e) ∙ F.are ∙ ap (λ k. take k vs) e ∙ take-length vs;
      sixteen = F.sixteen;
    }

-- ---- an array of what a function gives of each row

pub each_next : (P : ℕ → ℕ → Type 0) (rows values : List ℕ) {b v : ℕ} → ((k : ℕ) → k < b → P (get_or rows k 0) (get_or values k 0))
    → b < length values → P (get_or rows b 0) v → (k : ℕ) → k < b + 1 → P (get_or rows k 0) (get_or (set values b v) k 0)
each_next P rows values {b} {v} before h here k l = go (ℕ_discrete k b)
  where
    go : Dec (k ≡ b) → P (get_or rows k 0) (get_or (set values b v) k 0)
    go (yes e) = subst (λ i. P (get_or rows i 0) (get_or (set values b v) i 0)) (sym e)
        (subst (λ x. P (get_or rows b 0) x) (sym (get_or-set_same values b v 0 h)) here)
    go (no d) = subst (λ x. P (get_or rows k 0) x) (sym (get_or-set_other values b k v 0 d)) (before k (omega arith))

pub front_each : (g : ℕ → ℕ) (rows : List ℕ) {array : List ℕ} → length array ≡ 16 → length rows ≤ 16
    → ((b : ℕ) → b < length rows → get_or array b 0 ≡ g (get_or rows b 0)) → Front (map g rows) array
front_each g rows {array} wide few each = record {
  are = ap (λ n. take n array) (length-map rows g)
      ∙ ext_get_or 0 (take (length rows) array) (map g rows) (length-take-le (length rows) array (omega arith) ∙ sym (length-map rows g))
      (λ i k. at i (omega (arith, length-take-le (length rows) array (omega arith))));
  sixteen = wide;
}
  where
    at : (i : ℕ) → i < length rows → get_or (take (length rows) array) i 0 ≡ get_or (map g rows) i 0
    at i k = get_or-take (length rows) array i 0 k ∙ each i k ∙ sym (get_or-map g rows i 0 0 k)
