-- Paths of a drawn section that meet can be crossed: where the paths of two words meet at an inner depth, the beginning of the one followed
-- by the ending of the other is a word. The first half of the one path and the second half of the other are a path, and every path carries
-- a word.
use mathlib.Core.Path.{◌≡◌, refl, sym, ap, ◌∙◌}
use mathlib.Core.List.Memᴰ
use mathlib.Core.List.{List}
use Prim.Native.Nat.{ℕ, suc, ◌-◌, ◌^◌, ◌≤◌, ◌<◌}
use native.Mathlib.Omega.{arith}
use native.Mathlib.Decide.{ℕ_discrete, dec_lt}
use lib.ListN.{length}
use Rattle.trellis.specs.Lists.{◌∈◌}
use Rattle.trellis.specs.Label.{symbol, front, back}
use Rattle.trellis.specs.Word.{Word, word_at, joined}
use Rattle.trellis.specs.Own.{edge}
use Rattle.trellis.specs.Drawn.{Drawing, IsPath, DrawnFor}
use Rattle.trellis.proofs.Labels.{front_by_symbols, back_by_symbols}
use Rattle.trellis.proofs.Words.{word_in, beginning_eq, ending_eq, joined_is}

-- ---- two sequences, cut at t: the first in front of t, the second from t on

side : {X : Type 0} → Dec X → ℕ → ℕ → ℕ
side (yes p) a b = a
side (no p) a b = b

cut : ℕ → (ℕ → ℕ) → (ℕ → ℕ) → ℕ → ℕ
cut t f g u = side (dec_lt u t) (f u) (g u)

cut_front : (t : ℕ) (f g : ℕ → ℕ) (u : ℕ) → u < t → cut t f g u ≡ f u
unfolding cut side
cut_front t f g u h = go (dec_lt u t)
  where
    go : (x : Dec (u < t)) → side x (f u) (g u) ≡ f u
    go (yes p) = refl
    go (no p) = absurd (p h)

cut_back : (t : ℕ) (f g : ℕ → ℕ) (u : ℕ) → t ≤ u → cut t f g u ≡ g u
unfolding cut side
cut_back t f g u h = go (dec_lt u t)
  where
    go : (x : Dec (u < t)) → side x (f u) (g u) ≡ g u
    go (yes p) = omega arith
    go (no p) = refl

-- where they agree at t, the first reaches up to t
cut_upto : (t : ℕ) (f g : ℕ → ℕ) (u : ℕ) → f t ≡ g t → u ≤ t → cut t f g u ≡ f u
cut_upto t f g u e h = go (ℕ_discrete u t)
  where
    go : Dec (u ≡ t) → cut t f g u ≡ f u
    go (yes p) = cut_back t f g u (omega arith) ∙ ap g p ∙ sym e ∙ ap f (sym p)
    go (no p) = cut_front t f g u (omega arith)

-- ---- one path for each word

-- the vertices x 0 .. x n are those of a path that carries w
pub record Way (n : ℕ) (D : Drawing) (w : Word) (x : ℕ → ℕ) : Type 0 where
  pub root : D.root_of (x 0) ≡ w.root
  pub takes : (t : ℕ) → t < n → edge (x t) (symbol n t w.label) (x (suc t)) ∈ D.edges t
  pub goal : D.goal_of (x n) ≡ w.goal

module _ (n : ℕ) (table : List Word) (D : Drawing) (H : DrawnFor n table D) where
  chosen : (i : ℕ) → Dec (i < length table) → ℕ → ℕ
  chosen i (yes h) = (H.no_fewer (word_at table i) (word_in table i h)).x
  chosen i (no h) = λ t. 0

  chosen_way : (i : ℕ) → i < length table → (q : Dec (i < length table)) → Way n D (word_at table i) (chosen i q)
  unfolding chosen
  chosen_way i b (no h) = absurd (h b)
  chosen_way i b (yes h) =
      let P = H.no_fewer (word_at table i) (word_in table i h) in
      record {
        root = P.carries.root;
        takes = λ t a. Memᴰ.cast (λ k. edge (P.x t) (sym (P.carries.symbols t a) k) (P.x (suc t))) (P.path.takes t a);
        goal = P.carries.goal;
      }

  -- the vertex at depth t of the path chosen for word i
  pub theirs : ℕ → ℕ → ℕ
  theirs t i = chosen i (dec_lt i (length table)) t

  pub way : (i : ℕ) → i < length table → Way n D (word_at table i) (λ t. theirs t i)
  unfolding theirs
  way i b = chosen_way i b (dec_lt i (length table))

  -- ---- crossed where they meet

  module _ (v w : Word) (x y : ℕ → ℕ) (P : Way n D v x) (Q : Way n D w y) (t : ℕ) (e : x t ≡ y t) where
    abbrev symbols : ℕ → ℕ
    symbols = cut t (λ u. symbol n u v.label) (λ u. symbol n u w.label)

    crossing : IsPath n D (cut t x y) symbols
    crossing = record { takes = λ u h. go u h (dec_lt u t) }
      where
        go : (u : ℕ) → u < n → Dec (u < t) → edge (cut t x y u) (symbols u) (cut t x y (suc u)) ∈ D.edges u
        go u h (yes p) = Memᴰ.cast
            (λ k. edge (cut_upto t x y u e (omega arith) k) (cut_front t (λ u. symbol n u v.label) (λ u. symbol n u w.label) u p k)
            (cut_upto t x y (suc u) e p k))
            (P.takes u h)
        go u h (no p) = Memᴰ.cast
            (λ k. edge (cut_back t x y u (omega arith) k)
            (cut_back t (λ u. symbol n u v.label) (λ u. symbol n u w.label) u (omega arith) k)
            (cut_back t x y (suc u) (omega arith) k))
            (Q.takes u h)

    pub crossed : 0 < t → t < n → ((z : Word) → z ∈ table → z.label < 4 ^ n) → v ∈ table → joined n t v w ∈ table
    crossed a b fits mv =
        let K = H.no_more (cut t x y) symbols crossing in
        let z = K.word in
        let r : z.root ≡ v.root = sym K.carried.root ∙ ap D.root_of (cut_front t x y 0 a) ∙ P.root in
        let g : z.goal ≡ w.goal = sym K.carried.goal ∙ ap D.goal_of (cut_back t x y n (omega arith)) ∙ Q.goal in
        let f : front n t z.label ≡ front n t v.label =
        front_by_symbols n t z.label v.label (omega arith) (fits z K.listed) (fits v mv)
        (λ u h. sym (K.carried.symbols u (omega arith)) ∙ cut_front t _ _ u h) in
        let k : back n t z.label ≡ back n t w.label = back_by_symbols n (n - t) t z.label w.label (omega arith)
        (λ u h l. sym (K.carried.symbols u l) ∙ cut_back t _ _ u h) in
        Memᴰ.cast (sym (joined_is n t z v w (beginning_eq r f) (ending_eq k g))) K.listed
