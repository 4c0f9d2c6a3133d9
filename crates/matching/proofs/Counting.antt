-- Laws of numbers and lists for matchings: what is met from fewer is fewer, what is met from as many is met by one each, and a matching
-- that keeps ascending states keeps numbers.
use mathlib.Core.Path.{◌≡◌, sym, ap, ◌∙◌}
use mathlib.Core.Bool.{cond}
use mathlib.Core.Logic.{inl, inr}
use mathlib.Core.List.Memᴰ
use mathlib.Core.List.{List, ◌∷◌, map}
use Prim.Native.Nat.{ℕ, suc, ◌-◌, ◌≤◌, ◌<◌}
use native.Mathlib.Omega.{arith}
use native.Mathlib.Decide.{dec_lt}
use lib.ListN.{length, length-map}
use lib.Dec.{ltb, eqb, eqb→eq, eqb_refl}
use borrow.Author.Tests.{lt-ltb, le-ltb}
use Rattle.trellis.specs.Lists.{◌∈◌, Once, each, first}
use Rattle.trellis.specs.Own.{Edge}
use Rattle.trellis.proofs.Bools.{eqb_of}
use Rattle.trellis.proofs.ThreeNumbers.{same_edge}
use Rattle.trellis.proofs.Lists.{of_each, in_each, length_run, First, first_ok}
use Rattle.trellis.proofs.OwnDrawn.{once_each}
use Rattle.trellis.proofs.Distinct.{Known, look, once_le}
use Rattle.trellis.proofs.Paths.{edge_ok, edge_rf}
use Rattle.section_file.specs.Inner.Sound.{Hit}
use Rattle.section_file.proofs.Seen.{rising_from}

-- ---- no more than they are met from

pub met_by_fewer : (f : ℕ → ℕ) (count more : ℕ) → ((w : ℕ) → w < more → Hit f count w) → more ≤ count
met_by_fewer f count more h =
    let p : length (each (λ v. v) more) ≤ length (each f count) =
    once_le eqb eqb→eq eqb_refl (each (λ v. v) more) (each f count) (once_each more) inside in
    omega (arith, p, length_run (λ v. v) 0 more, length_run f 0 count)
  where
    inside : (w : ℕ) → w ∈ each (λ v. v) more → w ∈ each f count
    inside w m =
        let F = of_each (λ v. v) more w m in
        let H = h w (omega (arith, F.is, F.below)) in
        in_each f count H.at w H.below (sym H.is)

pub edges_by_fewer : (f : Edge → Edge) (l m : List Edge) → Once m → ((e : Edge) → e ∈ m → e ∈ map f l) → length m ≤ length l
edges_by_fewer f l m o h = omega (arith, once_le same_edge edge_ok edge_rf m (map f l) o h, length-map l f)

-- ---- as many as they are met from

-- f without its value at v
abbrev without : ℕ → (ℕ → ℕ) → ℕ → ℕ
without v f k = cond (ltb k v) (f k) (f (suc k))

without_before : (v : ℕ) (f : ℕ → ℕ) (k : ℕ) → k < v → without v f k ≡ f k
without_before v f k h = let e = lt-ltb k v h in rw e

without_after : (v : ℕ) (f : ℕ → ℕ) (k : ℕ) → v ≤ k → without v f k ≡ f (suc k)
without_after v f k h = let e = le-ltb k v h in rw e

-- a map from the numbers below a count onto the numbers below the same count
module _ (f : ℕ → ℕ) (count : ℕ) (h : (w : ℕ) → w < count → Hit f count w) where
  -- of two that it takes to one, the later could be left out, and all would still be met, by too few
  no_two : (u v : ℕ) → u < v → v < count → f u ≡ f v → ⊥
  no_two u v l b e =
      let p : count ≤ count - 1 = met_by_fewer (without v f) (count - 1) count (λ w c. other w (h w c)) in
      omega arith
    where
      other : (w : ℕ) → Hit f count w → Hit (without v f) (count - 1) w
      other w H = go (dec_lt H.at v) (dec_lt v H.at)
        where
          go : Dec (H.at < v) → Dec (v < H.at) → Hit (without v f) (count - 1) w
          go (yes i) k = record { at = H.at; below = omega arith; is = without_before v f H.at i ∙ H.is }
          go (no i) (yes k) =
              let c = H.below in
              let d : suc (H.at - 1) ≡ H.at = omega arith in
              record { at = H.at - 1; below = omega arith; is = without_after v f (H.at - 1) (omega arith) ∙ ap f d ∙ H.is }
          go (no i) (no k) =
              let d : v ≡ H.at = omega arith in
              record { at = u; below = omega arith; is = without_before v f u l ∙ e ∙ ap f d ∙ H.is }

  -- so it takes no two to one
  pub onto_apart : (u v : ℕ) → u < count → v < count → f u ≡ f v → u ≡ v
  onto_apart u v a b e = go (dec_lt u v) (dec_lt v u)
    where
      go : Dec (u < v) → Dec (v < u) → u ≡ v
      go (yes i) k = absurd (no_two u v i b e)
      go (no i) (yes k) = absurd (no_two v u k a (sym e))
      go (no i) (no k) = omega arith

-- edges without repeats that all stand in a list no longer than they are: they are all of that list's
pub edges_all : (l m : List Edge) → Once l → ((e : Edge) → e ∈ l → e ∈ m) → length m ≤ length l → (e : Edge) → e ∈ m → e ∈ l
edges_all l m o h c e k = go (look same_edge edge_ok edge_rf e l)
  where
    inside : (x : Edge) → x ∈ e ∷ l → x ∈ m
    inside x j = elim (Memᴰ.cases_cons j) [ inl p ↦ Memᴰ.cast p k | inr u ↦ h x u ]

    go : Known same_edge e l → e ∈ l
    go (inr s) = s.seen
    go (inl f) =
        let p : length (e ∷ l) ≤ length m = once_le same_edge edge_ok edge_rf (e ∷ l) m (f.never, o) inside in
        absurd (omega arith)

-- ---- the way back

-- the first number below count that f takes to w
unfoldable pub back_of : (ℕ → ℕ) → ℕ → ℕ → ℕ
back_of f count w = first (λ v. eqb (f v) w) count

-- where f takes some number to w, it takes this one there
pub record Back (f : ℕ → ℕ) (count w : ℕ) : Type 0 where
  pub below : back_of f count w < count
  pub is : f (back_of f count w) ≡ w

pub goes_back : {f : ℕ → ℕ} {count w : ℕ} → Hit f count w → Back f count w
unfolding back_of
goes_back {f} {count} {w} H = go (first_ok (λ v. eqb (f v) w) count) (dec_lt (first (λ v. eqb (f v) w) count) count)
  where
    go : First (λ v. eqb (f v) w) count (first (λ v. eqb (f v) w) count) → Dec (first (λ v. eqb (f v) w) count < count) → Back f count w
    go F (yes b) = record { below = b; is = eqb→eq _ _ (F.hit b) }
    go F (no b) = absurd (F.miss H.at (omega (arith, H.below)) (eqb_of H.is))

-- ---- ascending states

-- the values of f below count ascend strictly
pub record Rises (f : ℕ → ℕ) (count : ℕ) : Type 0 where
  pub ascend : (u v : ℕ) → u < v → v < count → f u < f v

-- p v is the state of vertex v here, q w of vertex w there
module _ {p q : ℕ → ℕ} {count more : ℕ} (P : Rises p count) (Q : Rises q more) (f : ℕ → ℕ) where
  keeps_rising : ((v : ℕ) → v < count → f v < more) → ((v : ℕ) → v < count → q (f v) ≡ p v) → Rises f count
  keeps_rising low keep = record { ascend = λ u v h b. go u v h b (dec_lt (f u) (f v)) (dec_lt (f v) (f u)) }
    where
      go : (u v : ℕ) → u < v → v < count → Dec (f u < f v) → Dec (f v < f u) → f u < f v
      go u v h b (yes d) k = d
      go u v h b (no d) (yes k) = absurd
          (omega (arith, P.ascend u v h b, Q.ascend (f v) (f u) k (low u (omega arith)), keep u (omega arith), keep v b))
      go u v h b (no d) (no k) =
          let e : f u ≡ f v = omega arith in
          absurd (omega (arith, P.ascend u v h b, ap q e, keep u (omega arith), keep v b))

-- a matching of ascending states keeps numbers
pub record Keeps (p q : ℕ → ℕ) (count more : ℕ) (f : ℕ → ℕ) : Type 0 where
  pub low : (v : ℕ) → v < count → f v < more
  pub keep : (v : ℕ) → v < count → q (f v) ≡ p v

pub stays : {p q : ℕ → ℕ} {count more : ℕ} → Rises p count → Rises q more → (f g : ℕ → ℕ) → Keeps p q count more f → Keeps q p more count g
    → ((v : ℕ) → v < count → g (f v) ≡ v) → (v : ℕ) → v < count → f v ≡ v
stays P Q f g F G back v h =
    let a = rising_from f _ (keeps_rising P Q f F.low F.keep).ascend v h in
    let b = rising_from g _ (keeps_rising Q P g G.low G.keep).ascend (f v) (F.low v h) in
    omega (arith, a, b, back v h)
