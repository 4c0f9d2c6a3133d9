-- One more candidate. Where fewer than k are kept it goes behind them. Else the last dearest of them is compared with it: where that costs
-- no more, all stays; where it costs more, those behind it move up one place, which is what `cut` leaves, and the candidate goes behind
-- them: so from the place that was freed on all cost less than the one that went, and those in front of it no more.
use mathlib.Core.Path.{◌≡◌, sym, ap, subst, ◌∙◌}
use mathlib.Core.Bool.{true, false}
use mathlib.Core.List.{List, [], ◌∷◌, ◌++◌}
use Prim.Native.Nat.{ℕ, suc, ◌+◌, ◌-◌, ◌≤◌, ◌<◌}
use native.Mathlib.Omega.{arith}
use native.Mathlib.Numerals.{add-one}
use native.Mathlib.Decide.{dec_le, ℕ_discrete}
use lib.Dec.{ltb}
use lib.ListN.{get_or-append, length, get_or, set, take, drop, length-set, length-take, length-drop, length-append}
use lib.Seq.{get_or-set_same, get_or-set_other, take-suc-set, ext_get_or, get_or-take, get_or-drop, get_or-append-add}
use borrow.Author.Tests.{lt-ltb, le-ltb}
use Rattle.trellis.specs.Bounds.{most_paths}
use Rattle.ranking.specs.Inner.Kept.{cut, dearest, admit}
use Rattle.dearest.specs.Inner.Items.{cost_in, LastDearest, Kept, Admitted}
use Rattle.dearest.specs.Inner.Loops.{CheaperFrom, ClosedUp}
use Rattle.dearest.proofs.LastDearest.{cut_is, dearest_is}

-- ---- what is held

pub worst_inside : {k : ℕ} {items : List ℕ} {count worst : ℕ} → Kept k items count worst → k ≤ count → worst < count
worst_inside K h = (K.dearest h).inside

pub put_long : {k : ℕ} {old : List ℕ} {count w at : ℕ} {mid : List ℕ} (i x : ℕ) → Kept k old count w → ClosedUp at old count mid
    → length (set mid i x) ≡ most_paths
put_long {mid = mid} i x K C = length-set mid i x ∙ C.long ∙ K.long

-- ---- taken out

module _ {items : List ℕ} {count w : ℕ} (D : LastDearest items count w) (fits : count ≤ length items) where
  abbrev front : List ℕ
  front = take w items

  abbrev back : List ℕ
  back = drop (suc w) (take count items)

  closed_is : {new : List ℕ} → ClosedUp w items count new → take (count - 1) new ≡ cut cost_in (take count items)
  closed_is {new} C = ext_get_or 0 (take (count - 1) new) (front ++ back) same_length at ∙ sym (cut_is D fits)
    where
      low : w < count
      low = D.inside

      same_length : length (take (count - 1) new) ≡ length (front ++ back)
      same_length =
          let a = length-take (count - 1) new in
          let b = length-append front back in
          omega (arith, C.long, length-take w items, length-drop (suc w) (take count items), length-take count items)

      at : (j : ℕ) → j < length (take (count - 1) new) → get_or (take (count - 1) new) j 0 ≡ get_or (front ++ back) j 0
      at j h = get_or-take (count - 1) new j 0 l ∙ go (dec_le w j)
        where
          l : j < count - 1
          l = omega (arith, length-take (count - 1) new)

          front_long : length front ≡ w
          front_long = omega (arith, length-take w items)

          go : Dec (w ≤ j) → get_or new j 0 ≡ get_or (front ++ back) j 0
          go (no q) =
              let a : j < w = omega arith in
              let f = front_long in
              let m = l in
              C.front j a ∙ sym (get_or-take w items j 0 a) ∙ sym (get_or-append front back 0 j (omega arith))
          go (yes q) =
              let k = j - w in
              let b = front_long in
              let m = l in
              let e : length front + k ≡ j = omega arith in
              let f : suc w + k ≡ suc j = omega arith in
              C.moved j q (omega arith) ∙ ap (λ i. get_or items i 0) (sym f) ∙ sym (get_or-take count items (suc w + k) 0 (omega arith))
              ∙ sym (get_or-drop (suc w) (take count items) k 0) ∙ sym (get_or-append-add front back k 0) ∙ ap (λ i. get_or (front ++ back) i 0) e

-- ---- admitted

pub admit_more : {k count : ℕ} {old : List ℕ} {x new worst : ℕ} → count < k → k ≤ most_paths → length old ≡ most_paths → new ≡ count + 1
    → Kept k (set old count x) (count + 1) worst → Admitted k count old x (set old count x) new worst
unfolding admit
admit_more {k} {count} {old} {x} {new} {worst} h l e n K = subst (λ m. Admitted k count old x (set old count x) m worst) (sym n) (record {
  kept = K;
  is =
      let t : length (take count old) < k = omega (arith, length-take count old) in
      rw (lt-ltb (length (take count old)) k t, add-one count) (take-suc-set old count x (omega arith));
})

pub admit_skip : {k count : ℕ} {old : List ℕ} {x w here there : ℕ} → Kept k old count w → k ≤ count → k ≤ most_paths
    → here ≡ cost_in (get_or old w 0) → there ≡ cost_in x → here ≤ there → Admitted k count old x old count w
unfolding admit
admit_skip {k} {count} {old} {x} {w} {here} {there} K a l f g h = record {
  kept = K;
  is =
      let b = K.most in
      let e = K.long in
      let t : k ≤ length (take count old) = omega (arith, length-take count old) in
      let d = dearest_is (K.dearest a) (omega arith) in
      let u : ltb (cost_in x) (dearest cost_in (take count old)) ≡ false
      = le-ltb (cost_in x) (dearest cost_in (take count old)) (omega arith) in
      rw (le-ltb (length (take count old)) k t, u);
}

module _ {k count : ℕ} {old mid : List ℕ} (x : ℕ) {w here there : ℕ} (K : Kept k old count w) (full : k ≤ count) (fits : k ≤ most_paths)
    (f : here ≡ cost_in (get_or old w 0)) (g : there ≡ cost_in x) (h : there < here) (C : ClosedUp w old count mid) where
  abbrev put : List ℕ
  put = set mid (count - 1) x

  low : w < count
  low = (K.dearest full).inside

  pub swap_cheaper : CheaperFrom put count w here
  swap_cheaper =
      record { some = omega (arith, low); inside = omega (arith, low); most = λ j l. go j l (dec_le w j); behind = back }
    where
      back : (j : ℕ) → w ≤ j → j < count → cost_in (get_or put j 0) < here
      back j a l = at (ℕ_discrete j (count - 1))
        where
          at : Dec (j ≡ count - 1) → cost_in (get_or put j 0) < here
          at (yes q) =
              let e : get_or put j 0 ≡ x = ap (λ i. get_or put i 0) q
              ∙ get_or-set_same mid (count - 1) x 0 (omega (arith, C.long, K.long, K.most)) in
              subst (λ z. cost_in z < here) (sym e) (subst (λ z. z < here) g h)
          at (no q) =
              let e : get_or put j 0 ≡ get_or old (suc j) 0 = get_or-set_other mid (count - 1) j x 0 q ∙ C.moved j a (omega arith) in
              let b = (K.dearest full).behind (suc j) (omega arith) (omega arith) in
              subst (λ z. cost_in z < here) (sym e) (omega arith)

      go : (j : ℕ) → j < count → Dec (w ≤ j) → cost_in (get_or put j 0) ≤ here
      go j l (yes a) = let b = back j a l in omega arith
      go j l (no a) =
          let e : get_or put j 0 ≡ get_or old j 0
          = get_or-set_other mid (count - 1) j x 0 (λ q. absurd (omega (arith, low))) ∙ C.front j (omega arith) in
          let b = (K.dearest full).before j (omega arith) in
          subst (λ z. cost_in z ≤ here) (sym e) (omega arith)

  pub admit_swap : {worst : ℕ} → LastDearest put count worst → Admitted k count old x put count worst
  unfolding admit
  admit_swap N = record {
    kept = record { most = K.most; long = put_long (count - 1) x K C; dearest = λ q. N };
    is =
        let b = K.most in
        let e = K.long in
        let D = K.dearest full in
        let t : k ≤ length (take count old) = omega (arith, length-take count old) in
        let d = dearest_is D (omega arith) in
        let u : ltb (cost_in x) (dearest cost_in (take count old)) ≡ true
        = lt-ltb (cost_in x) (dearest cost_in (take count old)) (omega arith) in
        let i = low in
        let z : count ≡ suc (count - 1) = omega arith in
        let s : take (suc (count - 1)) put ≡ take (count - 1) mid ++ (x ∷ [])
        = take-suc-set mid (count - 1) x (omega (arith, C.long)) in
        rw (le-ltb (length (take count old)) k t, u)
        (ap (λ n. take n put) z ∙ s ∙ ap (λ y. y ++ (x ∷ [])) (closed_is D (omega arith) C));
  }
