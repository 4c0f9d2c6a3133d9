-- The words of a section, read off its paths: they stand in word order, and those of one root are the paths of its vertex. Root states
-- ascend, so the words of different roots stay apart; behind one root the order is that of the paths.
use mathlib.Core.Path.{◌≡◌, refl, sym, ap, ap₂, subst, ◌∙◌}
use mathlib.Core.Bool.{false}
use mathlib.Core.Logic.{⊎_elim}
use mathlib.Core.List.Memᴰ
use mathlib.Core.List.{List, [], ◌∷◌, ◌++◌, append-nil, map, flat_map}
use Prim.Native.Nat.{ℕ, suc, ◌-◌, ◌<◌}
use native.Mathlib.Omega.{arith}
use lib.Dec.{eqb}
use borrow.Author.Tests.{eq-eqb, ne_eqb}
use Rattle.trellis.specs.Lists.{◌∈◌, keep, by_first, by_second, by_third}
use Rattle.trellis.specs.Word.{Word, Before}
use Rattle.trellis.specs.Own.{Edge}
use Rattle.trellis.specs.Section.{Path, paths_from, word_of, words_of}
use Rattle.paths.specs.Chain.{rooted_at}
use Rattle.paths.specs.Inner.Ordered.{Ordered, leads}
use Rattle.paths.proofs.Ordered.{of_flat_map, keep_append, keep_every, keep_no, ordered_as, ordered_map, ordered_flat_map}
use Rattle.paths.proofs.Ascent.{PathBefore, Orderly, paths_ordered, pack_before, Bounded, PathFits, paths_fit}

module _ (edges : ℕ → List Edge) (n : ℕ) (root_of goal_of : ℕ → ℕ) where
  -- the words of vertex v
  abbrev mine : ℕ → List Word
  mine v = map (word_of root_of goal_of v) (paths_from edges n 0 v)

  root_is : (v : ℕ) (w : Word) → w ∈ mine v → w.root ≡ root_of v
  unfolding word_of
  root_is v w m = let x = Memᴰ.of_map (word_of root_of goal_of v) (paths_from edges n 0 v) m in ap (λ u. u.root) (sym x.2)

  -- the words of one root
  pub rooted_words : (roots : List ℕ) → Ordered (λ u v. root_of u < root_of v) roots → (v : ℕ) → v ∈ roots
      → rooted_at (root_of v) (words_of n edges roots root_of goal_of) ≡ map (word_of root_of goal_of v) (paths_from edges n 0 v)
  unfolding words_of rooted_at flat_map
  rooted_words [] a v m = absurd (Memᴰ.not-nil m)
  rooted_words (u ∷ us) (leads f a) v m =
      keep_append (λ w. eqb w.root (root_of v)) (mine u) (flat_map mine us)
      ∙ ⊎_elim here (λ k. there k (rooted_words us a v k)) (Memᴰ.cases_cons m)
    where
      here : v ≡ u → keep (λ w. eqb w.root (root_of v)) (mine u) ++ keep (λ w. eqb w.root (root_of v)) (flat_map mine us) ≡ mine v
      here e =
          ap₂ (λ x y. x ++ y) (keep_every _ (mine u) (λ w k. eq-eqb w.root (root_of v) (root_is u w k ∙ ap root_of (sym e))))
          (keep_no _ (flat_map mine us) (λ w k.
          let z = of_flat_map mine us w k in
          let l = f z.source z.listed in
          let r = root_is z.source w z.holds in
          let q = ap root_of e in
          ne_eqb w.root (root_of v) (omega arith)))
          ∙ append-nil (mine u) ∙ ap mine (sym e)

      there : v ∈ us → keep (λ w. eqb w.root (root_of v)) (flat_map mine us) ≡ mine v
          → keep (λ w. eqb w.root (root_of v)) (mine u) ++ keep (λ w. eqb w.root (root_of v)) (flat_map mine us) ≡ mine v
      there k r =
          let l = f v k in
          ap₂ (λ x y. x ++ y) (keep_no _ (mine u) (λ w j. let i = root_is u w j in ne_eqb w.root (root_of v) (omega arith))) r

  -- a state that is no root has none
  pub rooted_none : (roots : List ℕ) (s : ℕ) → ((v : ℕ) → v ∈ roots → root_of v ≡ s → ⊥)
      → rooted_at s (words_of n edges roots root_of goal_of) ≡ []
  unfolding words_of rooted_at
  rooted_none roots s h = keep_no (λ w. eqb w.root s) (flat_map mine roots) other
    where
      other : (w : Word) → w ∈ flat_map mine roots → eqb w.root s ≡ false
      other w m =
          let z = of_flat_map mine roots w m in
          ne_eqb w.root s (λ e. h z.source z.listed (sym (root_is z.source w z.holds) ∙ e))

module _ (edges : ℕ → List Edge) (n goals : ℕ) (B : Bounded edges n goals) where
  -- all paths of a section fit
  pub whole_fits : 0 < n → (v : ℕ) (p : Path) → p ∈ paths_from edges n 0 v → PathFits n goals p
  whole_fits some v p m =
      let e : suc (n - 1) ≡ n = omega arith in
      subst (λ k. p ∈ paths_from edges k 0 v → PathFits k goals p) e (paths_fit edges n goals B (n - 1) 0 v (omega arith) p) m

  -- the words stand in word order
  pub words_ordered : 0 < n → Orderly edges n → (root_of goal_of : ℕ → ℕ) → ((g h : ℕ) → g < h → h < goals → goal_of g < goal_of h)
      → (roots : List ℕ)
      → Ordered (λ u v. root_of u < root_of v) roots → Ordered Before (words_of n edges roots root_of goal_of)
  unfolding words_of word_of PathBefore
  words_ordered some O root_of goal_of rises roots a =
      ordered_flat_map (λ v. map (word_of root_of goal_of v) (paths_from edges n 0 v)) a (λ v m. each v) across
    where
      labels : (v : ℕ) (p q : Path) → PathFits n goals p → PathFits n goals q → PathBefore p q
          → Before (word_of root_of goal_of v p) (word_of root_of goal_of v q)
      labels v p q P Q e =
          ⊎_elim (by_second refl) (λ w. by_third refl w.0 (rises p.end q.end w.1 Q.end_fits))
          (pack_before P.symbols_fit Q.symbols_fit 0 e)

      each : (v : ℕ) → Ordered Before (map (word_of root_of goal_of v) (paths_from edges n 0 v))
      each v =
          ordered_map (word_of root_of goal_of v) (λ p q r. r)
          (ordered_as (λ p q m k. labels v p q (whole_fits some v p m) (whole_fits some v q k))
          (paths_ordered edges n O n 0 v (omega arith)))

      across : (u v : ℕ) → root_of u < root_of v → (x y : Word) → x ∈ map (word_of root_of goal_of u) (paths_from edges n 0 u)
          → y ∈ map (word_of root_of goal_of v) (paths_from edges n 0 v) → Before x y
      across u v h x y m k =
          let i = root_is edges n root_of goal_of u x m in
          let j = root_is edges n root_of goal_of v y k in
          by_first (omega arith)
