-- Our section of a rectangular table has no twins, and edges and vertices enough. Two words that leave one vertex by one symbol share a
-- vertex, so the one's beginning followed by the other's ending is a word; with the symbol it goes one step further like the one, and from
-- there on like the other, so all three share the next vertex. Backward it is the same.
use mathlib.Core.Path.{◌≡◌, refl, sym, ap, ap₂, subst, ◌∙◌}
use mathlib.Core.List.{List}
use Prim.Native.Nat.{ℕ, suc, ◌+◌, ◌-◌, ◌*◌, ◌^◌, ◌<◌}
use native.Mathlib.Omega.{arith}
use native.Mathlib.Decide.{ℕ_discrete, dec_lt}
use lib.ListN.{length}
use Rattle.trellis.specs.Label.{symbol, front, back}
use Rattle.trellis.specs.Word.{Word, word_at, Table, beginning, ending, joined}
use Rattle.trellis.proofs.Labels.{front_suc, front_step, back_suc, back_step, symbol_front, symbol_back, front_none, back_by_symbols}
use Rattle.trellis.proofs.Words.{word_in, index, beginning_root, beginning_front, beginning_eq, ending_back, ending_goal, ending_eq}
use Rattle.trellis.proofs.Words.{joined_beginning, joined_ending}
use Rattle.trellis.proofs.Vertices.{Numbering}
use Rattle.trellis.proofs.OwnPaths.{symbol_at, begun, ended}

module _ (n : ℕ) (table : List Word) (G : Table n table) (c : ℕ → ℕ → ℕ) (O : Numbering n table c) where
  abbrev at : ℕ → Word
  at i = word_at table i

  -- one symbol more in front, one symbol more behind
  beginning_more : (t : ℕ) (v w : Word) → t < n → beginning n t v ≡ beginning n t w → symbol n t v.label ≡ symbol n t w.label
      → beginning n (suc t) v ≡ beginning n (suc t) w
  beginning_more t v w h m s = beginning_eq (beginning_root m)
      (front_suc n t v.label h ∙ ap₂ (λ x y. x * 4 + y) (beginning_front m) s ∙ sym (front_suc n t w.label h))

  ending_more : (t : ℕ) (v w : Word) → t < n → ending n (suc t) v ≡ ending n (suc t) w → symbol n t v.label ≡ symbol n t w.label
      → ending n t v ≡ ending n t w
  ending_more t v w h m s = ending_eq
      (back_suc n t v.label h ∙ ap₂ (λ x y. x * 4 ^ (n - suc t) + y) s (ending_back m) ∙ sym (back_suc n t w.label h)) (ending_goal m)

  -- behind depth n there is nothing, and at depth 0 there is only the root
  none_behind : (t x y : ℕ) → t ≡ n → back n t x ≡ back n t y
  none_behind t x y e = back_by_symbols n 0 t x y (omega arith) (λ u a b. absurd (omega arith))

  root_begins : (t : ℕ) → t ≡ 0 → (i j : ℕ) → i < length table → j < length table → c t i ≡ c t j
      → beginning n t (at j) ≡ beginning n t (at i)
  root_begins t z i j a b e = beginning_eq
      ((O.roots j i b a).0 (sym (subst (λ u. c u i ≡ c u j) z e)))
      (ap (λ u. front n u (at j).label) z ∙ front_none n (at j).label (G.fits _ (word_in table j b))
      ∙ sym (front_none n (at i).label (G.fits _ (word_in table i a))) ∙ sym (ap (λ u. front n u (at i).label) z))

  -- the word k goes like i up to depth t, and like j from there on
  record Meets (t i j : ℕ) : Type 0 where
    k : ℕ
    below : k < length table
    begins : beginning n t (at k) ≡ beginning n t (at i)
    ends : ending n t (at k) ≡ ending n t (at j)

  meets : (t i j : ℕ) → 0 < t → t < n → i < length table → j < length table → c t i ≡ c t j → Meets t i j
  meets t i j p q a b e =
      let K = index table (joined n t (at i) (at j)) ((O.inner t p q i j a b).0 e) in
      record {
        k = K.at;
        below = K.below;
        begins = ap (beginning n t) K.is ∙ joined_beginning n t (at i) (at j);
        ends = ap (ending n t) K.is ∙ joined_ending n t (at i) (at j);
      }

  pub forward_one : (t i j : ℕ) → suc t < n → i < length table → j < length table → c t i ≡ c t j
      → symbol_at n table t i ≡ symbol_at n table t j → c (suc t) i ≡ c (suc t) j
  forward_one t i j h a b e s = go (ℕ_discrete t 0)
    where
      -- a word that goes like i up to depth t and like j behind it
      through : Meets t i j → c (suc t) i ≡ c (suc t) j
      through m =
          let k = m.k in
          let x : symbol n t (word_at table k).label ≡ symbol n t (word_at table i).label =
          symbol_back n t (word_at table k).label (word_at table j).label (omega arith) (ending_back m.ends) ∙ sym s in
          let y : beginning n (suc t) (word_at table k) ≡ beginning n (suc t) (word_at table i) =
          beginning_more t (word_at table k) (word_at table i) (omega arith) m.begins x in
          let z : ending n (suc t) (word_at table k) ≡ ending n (suc t) (word_at table j) =
          ending_eq (back_step n t (word_at table k).label (word_at table j).label (omega arith) (ending_back m.ends))
          (ending_goal m.ends) in
          begun n table G c O (suc t) i k h a m.below y
          ∙ sym (ended n table G c O (suc t) j k (omega arith) (omega arith) b m.below z)

      go : Dec (t ≡ 0) → c (suc t) i ≡ c (suc t) j
      go (yes z) = through (record { k = j; below = b; begins = starts; ends = refl })
        where
          starts : beginning n t (word_at table j) ≡ beginning n t (word_at table i)
          starts = root_begins t z i j a b e
      go (no z) = through (meets t i j (omega arith) (omega arith) a b e)

  pub backward_one : (t i j : ℕ) → 0 < t → t < n → i < length table → j < length table → c (suc t) i ≡ c (suc t) j
      → symbol_at n table t i ≡ symbol_at n table t j → c t i ≡ c t j
  backward_one t i j p h a b e s = go (dec_lt (suc t) n)
    where
      go : Dec (suc t < n) → c t i ≡ c t j
      go (yes q) =
          let m = meets (suc t) i j (omega arith) q a b e in
          let k = m.k in
          let x : symbol n t (word_at table k).label ≡ symbol n t (word_at table j).label =
          symbol_front n t (word_at table k).label (word_at table i).label (beginning_front m.begins) ∙ s in
          let y : beginning n t (word_at table k) ≡ beginning n t (word_at table i) =
          beginning_eq (beginning_root m.begins)
          (front_step n t (word_at table k).label (word_at table i).label h (beginning_front m.begins)) in
          begun n table G c O t i k h a m.below y
          ∙ sym (ended n table G c O t j k p (omega arith) b m.below (ending_more t (word_at table k) (word_at table j) h m.ends x))
      go (no q) =
          let d : suc t ≡ n = omega arith in
          let g : (word_at table i).goal ≡ (word_at table j).goal = (O.goals i j a b).0 (subst (λ u. c u i ≡ c u j) d e) in
          ended n table G c O t i j p (omega arith) a b (last d g)
        where
          last : suc t ≡ n → (word_at table i).goal ≡ (word_at table j).goal → ending n t (word_at table j) ≡ ending n t (word_at table i)
          last d g = ending_more t (word_at table j) (word_at table i) h
              (ending_eq (none_behind (suc t) (word_at table j).label (word_at table i).label d) (sym g)) (sym s)
