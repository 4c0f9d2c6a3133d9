-- At the first inner depth that is not rectangular there is a witness, and it is the table's: no witness is at a smaller depth, since those
-- are rectangular, and a depth without a witness is rectangular.
use mathlib.Core.Path.{◌≡◌, refl, sym, ap, ◌∙◌}
use mathlib.Core.Bool.{Bool, true, false}
use mathlib.Core.List.{List}
use Prim.Native.Nat.{ℕ, ◌-◌, ◌≤◌, ◌<◌}
use native.Mathlib.Omega.{arith}
use Rattle.std.specs.Prelude.{Option, Some, None}
use native.Mathlib.Decide.{dec_lt}
use lib.ListN.{length}
use lib.Dec.{T}
use Rattle.trellis.specs.Lists.{◌∈◌, is_in}
use Rattle.trellis.specs.Word.{Word, word_at, same_word, beginning, ending, joined, RectangularAt}
use Rattle.trellis.specs.Outcome.{Outcome, not_rectangular}
use Rattle.trellis.specs.Witness.{Witness, found, nothing, when, refutes, over_k, over_j, witness_at, witness, Refuted}
use Rattle.trellis.proofs.Bools.{holds, fails}
use Rattle.trellis.proofs.Lists.{in_yes, in_of}
use Rattle.trellis.proofs.Words.{same_yes, same_self, word_in, rectangular_by}
use Rattle.trellis.proofs.Witness.{Hit, search_none, search_hit, refutes_of, witness_first, witness_none, none_found}
use Rattle.depths.specs.Inner.Merge.{FirstRefused}
use Rattle.lacking.specs.Inner.Search.{as_witness}
use Rattle.lacking.specs.declared.Triple.{Triple}
use Rattle.merging.specs.Merging.{refusal_of}

module _ (n : ℕ) (table : List Word) where
  -- a witness found at depth t is of depth t
  same_depth : (t a p q r : ℕ) → witness_at n table t ≡ found a p q r → a ≡ t
  unfolding witness_at over_j over_k
  same_depth t a p q r e =
      let I = search_hit (length table) 0 (over_j n table t) a p q r e in
      let J = search_hit (length table) 0 (over_k n table t I.place) a p q r I.is in
      let K = search_hit (length table) 0 (λ k. when (refutes n table t I.place J.place k) (found t I.place J.place k)) a p q r
      J.is in
      tag (refutes n table t I.place J.place K.place) I.place J.place K.place K.is
    where
      tag : (b : Bool) (i j k : ℕ) → when b (found t i j k) ≡ found a p q r → a ≡ t
      tag true i j k f = cc
      tag false i j k f = absurd (none_found f)

  -- a depth without a witness is rectangular
  no_witness : (t : ℕ) → 0 < t → t < n → witness_at n table t ≡ nothing → RectangularAt n t table
  unfolding witness_at over_j over_k
  no_witness t low deep e =
      rectangular_by n t table
      (λ i j k a b c x y. go i j k a b c x y (is_in same_word (joined n t (word_at table k) (word_at table j)) table) refl)
    where
      silent : (b : Bool) (i j k : ℕ) → when b (found t i j k) ≡ nothing → T b → ⊥
      silent true i j k f s = none_found (sym f)
      silent false i j k f s = s

      none : (i j k : ℕ) → i < length table → j < length table → k < length table → T (refutes n table t i j k) → ⊥
      none i j k a b c = silent (refutes n table t i j k) i j k
          (search_none (length table) 0 (λ k. when (refutes n table t i j k) (found t i j k))
          (search_none (length table) 0 (over_k n table t i)
          (search_none (length table) 0 (over_j n table t) e i (omega arith) (omega arith)) j (omega arith) (omega arith))
          k (omega arith) (omega arith))

      go : (i j k : ℕ) → i < length table → j < length table → k < length table
          → beginning n t (word_at table i) ≡ beginning n t (word_at table j)
          → ending n t (word_at table i) ≡ ending n t (word_at table k) → (b : Bool)
          → is_in same_word (joined n t (word_at table k) (word_at table j)) table ≡ b
          → joined n t (word_at table k) (word_at table j) ∈ table
      go i j k a b c x y true f = in_yes same_word same_yes same_self _ table (holds f)
      go i j k a b c x y false f = absurd (none i j k a b c (refutes_of n table t i j k
          (record {
            inner = (low, deep);
            words = (a, b, c);
            begins = x;
            ends = y;
            missing =
                λ m. fails f (in_of same_word same_yes same_self _ table m);
          })))

  witness_hit : (a b d g : ℕ) → witness n table ≡ found a b d g → Hit (witness_at n table) 1 (n - 1) (found a b d g)
  unfolding witness
  witness_hit a b d g e = search_hit (n - 1) 1 (witness_at n table) a b d g e

  -- ---- the first refused depth

  module _ (t : ℕ) (F : FirstRefused n table 1 t) where
    pub some_witness : witness_at n table t ≡ nothing → ⊥
    some_witness e = F.fails (no_witness t F.from F.inner e)

    pub first_depth : (i j k : ℕ) → witness_at n table t ≡ found t i j k → witness n table ≡ found t i j k
    first_depth i j k e = go (witness n table) refl
      where
        there : witness n table ≡ nothing → ⊥
        there q = F.fails ((witness_none n table).0 q t F.from F.inner)

        go : (w : Witness) → witness n table ≡ w → witness n table ≡ found t i j k
        go nothing q = absurd (there q)
        go (found a b d g) q = same (hit q)
          where
            hit : witness n table ≡ found a b d g → Hit (witness_at n table) 1 (n - 1) (found a b d g)
            hit q = witness_hit a b d g q

            same : Hit (witness_at n table) 1 (n - 1) (found a b d g) → witness n table ≡ found t i j k
            same H =
                let m = H.place in
                let am : a ≡ m = same_depth m a b d g H.is in
                let W = (witness_first n table a b d g q).refuted in
                let low : t ≤ a = not_sooner a W in
                let high : m ≤ t = not_later m H in
                let mt : m ≡ t = omega arith in
                q ∙ sym H.is ∙ ap (witness_at n table) mt ∙ e
              where
                not_sooner : (u : ℕ) → Refuted n table u b d g → t ≤ u
                not_sooner u W = pick (dec_lt u t)
                  where
                    pick : Dec (u < t) → t ≤ u
                    pick (yes l) = absurd (W.missing (F.sooner u W.inner.0 l (word_at table b) (word_at table d) (word_at table g)
                        (word_in table b W.words.0) (word_in table d W.words.1) (word_in table g W.words.2) W.begins
                        W.ends))
                    pick (no l) = omega arith

                not_later : (u : ℕ) → (H : Hit (witness_at n table) 1 (n - 1) (found a b d g)) → H.place ≤ t
                not_later u H = pick (dec_lt t H.place)
                  where
                    pick : Dec (t < H.place) → H.place ≤ t
                    pick (yes l) = absurd (none_found (sym (H.before t F.from l) ∙ e))
                    pick (no l) = omega arith

-- ---- the refusal that the search gives

module _ {n t : ℕ} {table : List Word} {r : Option Triple} (F : FirstRefused n table 1 t) (e : as_witness t r ≡ witness_at n table t) where
  pub refusal_at : {x : Triple} → r ≡ Some x → not_rectangular t x.i x.j x.k ≡ refusal_of (witness n table)
  refusal_at {x} q = sym (ap refusal_of (first_depth n table t F x.i x.j x.k (sym e ∙ ap (as_witness t) q)))

  pub refusal_none : {o : Outcome} → r ≡ None → o ≡ refusal_of (witness n table)
  refusal_none q = absurd (some_witness n table t F (sym e ∙ ap (as_witness t) q))
