-- A member with k others before it, by cost and then by place, may be left out beforehand. Compare a cut with this member and without it:
-- it takes out the member itself, or the same other one both times, and that other one is none of those before it, so k are before it
-- still. After as many cuts as are needed the member is out in any case. Hence the first part of a list may be kept first: what a cut takes
-- out of it has all the rest of the part before it.
use mathlib.Core.Path.{◌≡◌, refl, sym, ap, ◌∙◌}
use mathlib.Core.Bool.{Bool, true, false, cond}
use mathlib.Core.Logic.{◌⊎◌, inl, inr, ⊎_elim}
use mathlib.Core.List.Memᴰ
use mathlib.Core.List.{List, [], ◌∷◌, ◌++◌, append_assoc}
use Prim.Native.Nat.{ℕ, zero, suc, ◌+◌, ◌-◌, ◌≤◌, ◌<◌}
use native.Mathlib.Omega.{arith}
use lib.Dec.{ltb, leb}
use lib.ListN.{length, length-append}
use borrow.Author.Tests.{ltb-true, ltb-false, lt-ltb, le-ltb, le-leb, lt-leb}
use Rattle.trellis.specs.Lists.{◌∈◌, one_if}
use Rattle.trellis.proofs.Bools.{settle}
use Rattle.ranking.specs.Inner.Kept.{all_below, cut, cuts, keep_best}
use Rattle.ranking.proofs.Lists.{count, count_append, count_le, count_all}
use Rattle.ranking.proofs.Cut.{below_each, each_below, not_below, Dearest, some_dearest, keep_steady}

module _ {A : Type 0} (cost : A → ℕ) where
  -- ---- all below a number, with a member more or less

  below_cons : (c : ℕ) (x : A) (xs : List A) → all_below cost c xs ≡ false → all_below cost c (x ∷ xs) ≡ false
  unfolding all_below
  below_cons c x xs e = rw e (go (ltb (cost x) c))
    where
      go : (b : Bool) → cond b false false ≡ false
      go true = refl
      go false = refl

  below_dear : (c : ℕ) (x : A) (xs : List A) → c ≤ cost x → all_below cost c (x ∷ xs) ≡ false
  unfolding all_below
  below_dear c x xs h = rw (le-ltb (cost x) c h)

  -- a member below c says nothing
  below_without : (c : ℕ) (front : List A) (z : A) (back : List A) → cost z < c
      → all_below cost c (front ++ (z ∷ back)) ≡ all_below cost c (front ++ back)
  unfolding all_below
  below_without c [] z back h = rw (lt-ltb (cost z) c h)
  below_without c (x ∷ front) z back h = ap (λ b. cond (ltb (cost x) c) b false) (below_without c front z back h)

  -- ---- one member among others

  abbrev pub up_to : ℕ → A → Bool
  up_to c x = leb (cost x) c

  abbrev pub under : ℕ → A → Bool
  under c x = ltb (cost x) c

  -- how many of those in front and behind come before z
  abbrev pub ahead : List A → A → List A → ℕ
  ahead front z back = count (up_to (cost z)) front + count (under (cost z)) back

  -- what is taken out is no cheaper than c, where some member is not below c
  record OneOut (c : ℕ) (xs less : List A) : Type 0 where
    counted : count (under c) less ≡ count (under c) xs
    one_less : suc (length less) ≡ length xs

  cut_count : (c : ℕ) (xs : List A) → all_below cost c xs ≡ false → OneOut c xs (cut cost xs)
  unfolding all_below cut count
  cut_count c [] e = let z : ◌≡◌ {A = ℕ} 0 1 = cc in absurd (omega arith)
  cut_count c (x ∷ xs) e = go (all_below cost (cost x) xs) refl (cut_count c xs)
    where
      dear : all_below cost (cost x) xs ≡ true → ltb (cost x) c ≡ false
      dear t = ⊎_elim low (λ k. k) (settle (ltb (cost x) c))
        where
          low : ltb (cost x) c ≡ true → ltb (cost x) c ≡ false
          low k =
              let l = ltb-true (cost x) c k in
              let i : all_below cost c xs ≡ true = each_below cost c xs (λ y m. let j = below_each cost (cost x) xs t y m in omega arith) in
              let f : all_below cost c xs ≡ false = ap (λ b. cond b (all_below cost c xs) false) (sym k) ∙ e in
              let z : ◌≡◌ {A = ℕ} 0 1 = cc in
              absurd (omega arith)

      more : all_below cost (cost x) xs ≡ false → all_below cost c xs ≡ false
      more t =
          ⊎_elim (λ k. ap (λ b. cond b (all_below cost c xs) false) (sym k) ∙ e)
          (λ k. not_below cost (cost x) c xs (ltb-false (cost x) c k) t)
          (settle (ltb (cost x) c))

      go : (b : Bool) → all_below cost (cost x) xs ≡ b → (all_below cost c xs ≡ false → OneOut c xs (cut cost xs))
          → OneOut c (x ∷ xs) (cond b xs (x ∷ cut cost xs))
      go true t r = record { counted = rw (dear t) (omega arith); one_less = refl }
      go false t r =
          let i = r (more t) in
          record { counted = ap (λ n. one_if (ltb (cost x) c) + n) i.counted; one_less = ap suc i.one_less }

  -- z stays, and another one is taken out, the same as without z
  record Around (front : List A) (z : A) (back : List A) : Type 0 where
    new_front : List A
    new_back : List A
    with_z : cut cost (front ++ (z ∷ back)) ≡ new_front ++ (z ∷ new_back)
    without : cut cost (front ++ back) ≡ new_front ++ new_back
    same : ahead new_front z new_back ≡ ahead front z back
    fewer : suc (length new_front + length new_back) ≡ length front + length back
    worse : all_below cost (cost z) (front ++ back) ≡ false

  around : (front : List A) (z : A) (back : List A) → (cut cost (front ++ (z ∷ back)) ≡ front ++ back) ⊎ Around front z back
  unfolding cut count
  around [] z back = ⊎_elim (λ e. inl (rw e)) (λ e. inr (stays e)) (settle (all_below cost (cost z) back))
    where
      stays : all_below cost (cost z) back ≡ false → Around [] z back
      stays e =
          let i = cut_count (cost z) back e in
          record {
            new_front = [];
            new_back = cut cost back;
            with_z = rw e;
            without = refl;
            same = ap (λ n. 0 + n) i.counted;
            fewer = omega (arith, i.one_less);
            worse = e;
          }
  around (a ∷ front) z back = go (settle (all_below cost (cost a) (front ++ (z ∷ back)))) (around front z back)
    where
      first_out : all_below cost (cost a) (front ++ (z ∷ back)) ≡ true → Around (a ∷ front) z back
      first_out e =
          let h = below_each cost (cost a) (front ++ (z ∷ back)) e z (Memᴰ.append_right front (Memᴰ.head refl)) in
          let f : all_below cost (cost a) (front ++ back) ≡ true = sym (below_without (cost a) front z back h) ∙ e in
          record {
            new_front = front;
            new_back = back;
            with_z = rw e;
            without = rw f;
            same = rw (lt-leb (cost a) (cost z) h) (omega arith);
            fewer = omega arith;
            worse = below_dear (cost z) a (front ++ back) (omega arith);
          }

      later_out : all_below cost (cost a) (front ++ (z ∷ back)) ≡ false → Around front z back → Around (a ∷ front) z back
      later_out e R =
          let f : all_below cost (cost a) (front ++ back) ≡ false
          = ⊎_elim (λ t. sym (below_without (cost a) front z back (ltb-true (cost z) (cost a) t)) ∙ e)
          (λ t. not_below cost (cost z) (cost a) (front ++ back) (ltb-false (cost z) (cost a) t) R.worse)
          (settle (ltb (cost z) (cost a))) in
          let n = R.same in
          let m = R.fewer in
          record {
            new_front = a ∷ R.new_front;
            new_back = R.new_back;
            with_z = rw e (ap (λ l. a ∷ l) R.with_z);
            without = rw f (ap (λ l. a ∷ l) R.without);
            same = omega arith;
            fewer = omega arith;
            worse = below_cons (cost z) a (front ++ back) R.worse;
          }

      go : (all_below cost (cost a) (front ++ (z ∷ back)) ≡ true) ⊎ (all_below cost (cost a) (front ++ (z ∷ back)) ≡ false)
          → (cut cost (front ++ (z ∷ back)) ≡ front ++ back) ⊎ Around front z back
          → (cut cost (a ∷ (front ++ (z ∷ back))) ≡ a ∷ (front ++ back)) ⊎ Around (a ∷ front) z back
      go (inl e) r = inr (first_out e)
      go (inr e) (inl r) = inl (rw e (ap (λ l. a ∷ l) r))
      go (inr e) (inr R) = inr (later_out e R)

  -- ---- keeping k

  abbrev pub lengths : List A → List A → ℕ
  lengths front back = length front + length back

  ahead_le : (front : List A) (z : A) (back : List A) → ahead front z back ≤ lengths front back
  ahead_le front z back = let a = count_le (up_to (cost z)) front in let b = count_le (under (cost z)) back in omega arith

  -- all cuts but one, with z and without
  cuts_without : (m : ℕ) (front : List A) (z : A) (back : List A) (k : ℕ) → lengths front back ≡ m + k → k ≤ ahead front z back
      → cuts cost (suc m) (front ++ (z ∷ back)) ≡ cuts cost m (front ++ back)
  unfolding cuts
  cuts_without zero front z back k e h = ⊎_elim (λ r. r) other (around front z back)
    where
      other : Around front z back → cut cost (front ++ (z ∷ back)) ≡ front ++ back
      other R = let n = R.same in let m = R.fewer in let l = ahead_le R.new_front z R.new_back in absurd (omega arith)
  cuts_without (suc m) front z back k e h =
      ⊎_elim (ap (cuts cost (suc m))) (λ R. other R (cuts_without m R.new_front z R.new_back k)) (around front z back)
    where
      other : (R : Around front z back)
          → (lengths R.new_front R.new_back ≡ m + k → k ≤ ahead R.new_front z R.new_back
          → cuts cost (suc m) (R.new_front ++ (z ∷ R.new_back)) ≡ cuts cost m (R.new_front ++ R.new_back))
          → cuts cost (suc m) (cut cost (front ++ (z ∷ back))) ≡ cuts cost (suc m) (front ++ back)
      other R r =
          let n = R.same in
          let f = R.fewer in
          ap (cuts cost (suc m)) R.with_z ∙ r (omega arith) (omega arith) ∙ ap (cuts cost m) (sym R.without)

  -- a member with k others before it may be left out
  pub keep_without : (k : ℕ) (front : List A) (z : A) (back : List A) → k ≤ ahead front z back
      → keep_best cost k (front ++ (z ∷ back)) ≡ keep_best cost k (front ++ back)
  unfolding keep_best
  keep_without k front z back h =
      let l = ahead_le front z back in
      let m = lengths front back - k in
      let a : length (front ++ (z ∷ back)) - k ≡ suc m = omega (arith, length-append front (z ∷ back)) in
      let b : length (front ++ back) - k ≡ m = omega (arith, length-append front back) in
      ap (λ j. cuts cost j (front ++ (z ∷ back))) a ∙ cuts_without m front z back k (omega arith) h
      ∙ ap (λ j. cuts cost j (front ++ back)) (sym b)

  under_append : (c : ℕ) (xs ys : List A) → count (under c) ys ≤ count (under c) (xs ++ ys)
  under_append c xs ys = omega (arith, count_append (under c) xs ys)

  -- and so may several
  pub keep_without_all : (k : ℕ) (front zs back : List A) → ((z : A) → z ∈ zs → k ≤ ahead front z back)
      → keep_best cost k (front ++ (zs ++ back)) ≡ keep_best cost k (front ++ back)
  keep_without_all k front [] back h = refl
  keep_without_all k front (z ∷ zs) back h =
      let l = h z (Memᴰ.head refl) in
      let u = under_append (cost z) zs back in
      keep_without k front z (zs ++ back) (omega arith) ∙ keep_without_all k front zs back (λ y m. h y (Memᴰ.tail m))

  -- ---- what is taken out of a part that has more than k

  all_ahead : (xs : List A) (D : Dearest cost xs) → ahead D.front D.last D.back ≡ length xs - 1
  all_ahead xs D =
      let a = count_all (up_to (cost D.last)) D.front (λ y m. le-leb (cost y) (cost D.last) (D.in_front y m)) in
      let b = count_all (under (cost D.last)) D.back (λ y m. lt-ltb (cost y) (cost D.last) (D.behind y m)) in
      let e = ap length D.split in
      omega (arith, length-append D.front (D.last ∷ D.back))

  -- the first part may be kept first
  pub keep_append_left : (k : ℕ) (xs ys : List A) → keep_best cost k (xs ++ ys) ≡ keep_best cost k (keep_best cost k xs ++ ys)
  keep_append_left k xs ys = keep_steady cost (λ l. keep_best cost k (l ++ ys)) (λ l. Unit {0}) k (λ l g h. step l h) (λ l g. g) xs tt
    where
      step : (l : List A) → k < length l → keep_best cost k (l ++ ys) ≡ keep_best cost k (cut cost l ++ ys)
      step l h =
          let D = some_dearest cost l (omega arith) in
          let a = all_ahead l D in
          let u = count_append (under (cost D.last)) D.back ys in
          ap (λ w. keep_best cost k (w ++ ys)) D.split ∙ ap (keep_best cost k) (append_assoc D.front (D.last ∷ D.back) ys)
          ∙ keep_without k D.front D.last (D.back ++ ys) (omega arith)
          ∙ ap (keep_best cost k) (sym (append_assoc D.front D.back ys)) ∙ ap (λ w. keep_best cost k (w ++ ys)) (sym D.left)
