-- What the scan of take_step reads and keeps: the numbers of each word's edge, the words noted so far, and for each key one more than the
-- highest vertex.
use mathlib.Core.Path.{◌≡◌, refl, sym, ap, ap₂, subst, ◌∙◌}
use mathlib.Core.Bool.{Bool, true, false, cond}
use mathlib.Core.List.{List, [], ◌∷◌, ◌++◌, append-nil}
use Prim.Native.Nat.{ℕ, suc, ◌+◌, ◌*◌, ◌<◌, ◌≤◌}
use native.Mathlib.Omega.{arith}
use native.Mathlib.Numerals.{add-one}
use native.Mathlib.Decide.{ℕ_discrete}
use lib.ListN.{length, get_or, set, length-set, replicate, length-replicate, get_or-replicate}
use lib.Seq.{get_or-set_same, get_or-set_other}
use lib.Dec.{leb, eqb}
use borrow.Author.Tests.{eq-eqb, ne_eqb}
use Rattle.trellis.specs.Bounds.{most_words}
use Rattle.trellis.specs.Own.{Edge}
use Rattle.trellis.specs.Inner.Write.{Wrote}
use Rattle.trellis.proofs.Write.{wrote_none, wrote_then, wrote_length}
use Rattle.trellis.specs.Label.{symbol}
use Rattle.label.proofs.Digits.{symbol_small_lem}
use Rattle.takers.specs.Inner.Takers.{row_edge, key_of, raised, highest, leads_higher, takers, SmallRows, ArcOf}

-- the numbers read are those of the word's edge
module _ (n t : ℕ) {map labels : List ℕ} {row i from s digit : ℕ} (S : SmallRows map labels row) (h : i < length labels)
    (p : from ≡ get_or map (row + i) 0) (q : s ≡ symbol n t (get_or labels i 0)) (r : digit ≡ s) where
  pub arc_from : from < most_words
  arc_from = omega (arith, p, S.from i h)

  pub arc_symbol : digit < 4
  arc_symbol = omega (arith, q, r, symbol_small_lem n t (get_or labels i 0))

  pub arc_is : {to : ℕ} → to ≡ get_or map (row + length labels + i) 0 → ArcOf (row_edge map labels n t row i) (from * 4 + digit) to
  unfolding row_edge
  arc_is {to} e = record {
    key_is = ap₂ (λ x y. x * 4 + y) p (r ∙ q);
    to_is = e;
    key_lt = omega (arith, arc_from, arc_symbol);
    to_lt = omega (arith, e, S.to i h);
  }

pub record InTakers (f : ℕ → Edge) (words : ℕ) (old : List ℕ) (at : ℕ) (out high : List ℕ) (to i : ℕ) : Type 0 where
  pub i_le : i ≤ words
  pub noted : Wrote old at (takers f i) out to
  pub to_le : to ≤ at + i
  pub places : length high ≡ 4096
  pub kept : (k : ℕ) → k < 4096 → get_or high k 0 ≡ highest f i k
  pub len : length out ≡ length old

pub takers_none : (f : ℕ → Edge) (words : ℕ) (old : List ℕ) (at : ℕ) → InTakers f words old at old (replicate 4096 0) at 0
unfolding takers highest
takers_none f words old at = record {
  i_le = omega arith;
  noted = wrote_none;
  to_le = omega arith;
  places = length-replicate {A = ℕ} 4096 0;
  kept = λ k h. get_or-replicate {A = ℕ} 4096 k 0 0 h;
  len = refl;
}

module _ {f : ℕ → Edge} {words at to i key next : ℕ} {old out high : List ℕ} (c : InTakers f words old at out high to i)
    (A : ArcOf (f i) key next) where
  high_now : (before : ℕ) → before ≡ get_or high key 0 → before ≡ highest f i (key_of (f i))
  high_now before e = e ∙ c.kept key A.key_lt ∙ ap (highest f i) A.key_is

  keep : (before now k : ℕ) → k < 4096 → before ≡ get_or high key 0 → now ≡ raised before next
      → get_or (set high key now) k 0 ≡ highest f (suc i) k
  unfolding highest
  keep before now k h e g = go (ℕ_discrete k key)
    where
      go : Dec (k ≡ key) → get_or (set high key now) k 0 ≡ cond (eqb (key_of (f i)) k) (raised (highest f i k) (f i).to) (highest f i k)
      go (yes q) =
          let p : key_of (f i) ≡ k = sym A.key_is ∙ sym q in
          ap (λ x. get_or (set high key now) x 0) q ∙ get_or-set_same high key now 0 (omega (arith, c.places, A.key_lt))
          ∙ g ∙ ap₂ raised (high_now before e ∙ ap (highest f i) p) A.to_is
          ∙ sym (ap (λ b. cond b (raised (highest f i k) (f i).to) (highest f i k)) (eq-eqb (key_of (f i)) k p))
      go (no q) =
          get_or-set_other high key k now 0 q ∙ c.kept k h
          ∙ sym (ap (λ b. cond b (raised (highest f i k) (f i).to) (highest f i k))
          (ne_eqb (key_of (f i)) k (λ p. q (sym p ∙ sym A.key_is))))

  grow : (wanted : Bool) (out' : List ℕ) (end : ℕ) → wanted ≡ leads_higher f i → Wrote out to (cond wanted (i ∷ []) []) out' end
      → Wrote old at (takers f (suc i)) out' end
  unfolding takers
  grow wanted out' end e W = go (leads_higher f i) (subst (λ b. Wrote out to (cond b (i ∷ []) []) out' end) e W)
    where
      go : (b : Bool) → Wrote out to (cond b (i ∷ []) []) out' end → Wrote old at (cond b (takers f i ++ (i ∷ [])) (takers f i)) out' end
      go true w = wrote_then c.noted w
      go false w = subst (λ l. Wrote old at l out' end) (append-nil (takers f i)) (wrote_then c.noted w)

  step_end : (wanted : Bool) (out' : List ℕ) (end : ℕ) → Wrote out to (cond wanted (i ∷ []) []) out' end → end ≤ to + 1
  step_end true out' end W = omega (arith, W.end_is)
  step_end false out' end W = omega (arith, W.end_is)

  pub takers_more : {before now end : ℕ} {wanted : Bool} {out' : List ℕ} → before ≡ get_or high key 0 → now ≡ raised before next
      → wanted ≡ leb before next
      → Wrote out to (cond wanted (i ∷ []) []) out' end → i < words → InTakers f words old at out' (set high key now) end (i + 1)
  unfolding leads_higher
  takers_more {before} {now} {end} {wanted} {out'} e g w W h = rw (add-one i) (record {
    i_le = h;
    noted = grow wanted out' end (w ∙ ap₂ leb (high_now before e) A.to_is) W;
    to_le = omega (arith, c.to_le, step_end wanted out' end W);
    places = simp length-set c.places;
    kept = λ k l. keep before now k l e g;
    len = wrote_length W ∙ c.len;
  })

pub takers_end : {f : ℕ → Edge} {words at to i : ℕ} {old out high : List ℕ} → InTakers f words old at out high to i → words ≤ i
    → Wrote old at (takers f words) out to
takers_end {f} {words} {at} {to} {i} {old} {out} {high} c h = let e : i ≡ words = omega (arith, c.i_le) in
    subst (λ k. Wrote old at (takers f k) out to) e c.noted
