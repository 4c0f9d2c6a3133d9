-- The digits of a number, found from the last one on: each turn of the loop moves one digit from the number that is left into the bytes
-- behind it.
use mathlib.Core.Path.{◌≡◌, refl, sym, ◌∙◌, ap, subst}
use mathlib.Core.List.{List, [], ◌∷◌, ◌++◌, append-nil, append_assoc}
use Prim.Native.Nat.{ℕ, zero, suc, ◌-◌, ◌/◌, ◌%◌, ◌^◌, ◌<◌, ◌≤◌}
use native.Mathlib.Nat.{le_of_suc-le-suc, not-suc-le-zero, pow-suc}
use native.Mathlib.Omega.{arith}
use lib.ListN.{length, set, take, drop, length-set, length-drop, drop_of_length-le}
use lib.Seq.{take_all}
use Rattle.text.specs.Line.{digit, decimal, spaced}
use Rattle.text.specs.Inner.Put.{Put, Spelt}
use Rattle.text.proofs.Putting.{put_then}
use Rattle.text.proofs.Decimal.{decimal_one, decimal_more}

-- the digits of x are those of `rest`, and those behind place `at`; there is room for them
pub record Left (x : ℕ) (out : List ℕ) (at rest : ℕ) : Type 0 where
  pub len : length out ≡ 20
  pub at_small : at ≤ 19
  pub small : rest < 10 ^ suc at
  pub are : decimal x ≡ decimal rest ++ drop (suc at) out

-- twenty digits are enough for every number of 64 bits
pub left_all : {x : ℕ} {out : List ℕ} → length out ≡ 20 → x < 2 ^ 64 → Left x out 19 x
left_all {x} {out} h s = record {
  len = h;
  at_small = omega arith;
  small = omega arith;
  are = sym (ap (λ r. decimal x ++ r) (drop_of_length-le out {i = 20} (omega (arith, h))) ∙ append-nil (decimal x));
}

drop_set : (l : List ℕ) (at v : ℕ) → at < length l → drop at (set l at v) ≡ v ∷ drop (suc at) l
drop_set [] at v h = absurd (not-suc-le-zero h)
drop_set (x ∷ l) zero v h = refl
drop_set (x ∷ l) (suc at) v h = drop_set l at v (le_of_suc-le-suc h)

-- digits go in front of the last one as long as ten or more is left, and there is room for them
pub left_room : {x : ℕ} {out : List ℕ} {at rest : ℕ} → Left x out at rest → 10 ≤ rest → 0 < at
left_room {x} {out} {at} {rest} L h = go at L.small
  where
    go : (at : ℕ) → rest < 10 ^ suc at → 0 < at
    go zero s = absurd (omega (arith, pow-suc 10 0))
    go (suc at) s = omega arith

next_digit : (x : ℕ) (out : List ℕ) (at rest v : ℕ) → Left x out (suc at) rest → 10 ≤ rest → v ≡ digit (rest % 10)
    → Left x (set out (suc at) v) at (rest / 10)
next_digit x out at rest v L h e = record {
  len = length-set out (suc at) v ∙ L.len;
  at_small = let s : suc at ≤ 19 = L.at_small in omega arith;
  small = omega (arith, L.small, pow-suc 10 (suc at));
  are =
      L.are ∙ ap (λ r. r ++ drop (suc (suc at)) out) (decimal_more rest h)
      ∙ append_assoc (decimal (rest / 10)) (digit (rest % 10) ∷ []) (drop (suc (suc at)) out)
      ∙ ap (λ r. decimal (rest / 10) ++ r)
      (ap (λ d. d ∷ drop (suc (suc at)) out) (sym e)
      ∙ sym (drop_set out (suc at) v (let s : suc at ≤ 19 = L.at_small in omega (arith, L.len))));
}

pub left_next : {x : ℕ} {out : List ℕ} {at rest v : ℕ} → Left x out at rest → 10 ≤ rest → v ≡ digit (rest % 10)
    → Left x (set out at v) (at - 1) (rest / 10)
left_next {x} {out} {at} {rest} {v} L h e = go at L (left_room L h)
  where
    go : (at : ℕ) → Left x out at rest → 0 < at → Left x (set out at v) (at - 1) (rest / 10)
    go zero L r = absurd (omega arith)
    go (suc at) L r =
        let p : at ≡ suc at - 1 = omega arith in
        subst (λ k. Left x (set out (suc at) v) k (rest / 10)) p (next_digit x out at rest v L h e)

pub left_none : {x : ℕ} {out : List ℕ} {at rest v : ℕ} → Left x out at rest → rest < 10 → v ≡ digit (rest % 10) → Spelt x (set out at v) at
left_none {x} {out} {at} {rest} {v} L h e = record {
  len = length-set out at v ∙ L.len;
  at_small = L.at_small;
  are =
      L.are ∙ ap (λ r. r ++ drop (suc at) out) (decimal_one rest h)
      ∙ ap (λ d. d ∷ drop (suc at) out) (sym e) ∙ sym (drop_set out at v (omega (arith, L.len, L.at_small)));
}

-- a space, and behind it what stands in the twenty bytes from the first digit on
pub number_put : {x at m e first : ℕ} {old mid new out : List ℕ}
    → Spelt x out first → Put old at (32 ∷ []) mid m → Put mid m (take (20 - first) (drop first out)) new e → Put old at (spaced x) new e
unfolding spaced
number_put {x} {at} {m} {e} {first} {old} {mid} {new} {out} S p q =
    subst (λ r. Put old at (32 ∷ r) new e) (all ∙ sym S.are) (put_then p q)
  where
    all : take (20 - first) (drop first out) ≡ drop first out
    all = take_all (20 - first) (drop first out) (omega (arith, length-drop first out, S.len))
