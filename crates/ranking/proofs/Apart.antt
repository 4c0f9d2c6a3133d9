-- A list in order, by places: what stands before is before. So where nothing is before itself, no two places hold the same, and the k best
-- of a list are k different members. No path of words is before itself, as no word is, so no path is listed twice.
use mathlib.Core.Path.{◌≡◌, subst}
use mathlib.Core.Bool.{Bool}
use mathlib.Core.Logic.{⊎_elim}
use mathlib.Core.List.{List, [], ◌∷◌}
use Prim.Native.Nat.{ℕ, zero, suc, ◌+◌, ◌≤◌, ◌<◌}
use native.Mathlib.Omega.{arith}
use lib.ListN.{length, get_or}
use Rattle.trellis.specs.Word.{Word, Before}
use Rattle.trellis.proofs.Lists.{in_place}
use Rattle.trellis.proofs.ThreeNumbers.{lower_never}
use Rattle.paths.specs.Chain.{ChainBefore, path_distance}
use Rattle.paths.specs.Inner.Ordered.{Ordered, ended, leads}
use Rattle.ranking.specs.Several.{best_paths}
use Rattle.ranking.specs.Inner.Bests.{Prior}
use Rattle.ranking.proofs.Chain.{paths_best}

pub in_order : {A : Type 0} {R : A → A → Type 0} {best : List A} → Ordered R best → (d : A) (i j : ℕ) → i < j → j < length best
    → R (get_or best i d) (get_or best j d)
in_order ended d i j h l = absurd (omega arith)
in_order (leads f a) d i zero h l = absurd (omega arith)
in_order (leads {xs = xs} f a) d zero (suc j) h l = f (get_or xs j d) (in_place d xs j (omega arith))
in_order (leads f a) d (suc i) (suc j) h l = in_order a d i j (omega arith) (omega arith)

module _ {A : Type 0} (cost : A → ℕ) (R : A → A → Type 0) (never : (x : A) → R x x → ⊥) where
  not_itself : (x : A) → Prior cost R x x → ⊥
  not_itself x p = ⊎_elim (λ h. omega arith) (λ h. never x h.1) p

  -- no member is listed twice
  pub apart : {best : List A} → Ordered (Prior cost R) best → (d : A) (i j : ℕ) → i < j → j < length best
      → get_or best i d ≡ get_or best j d → ⊥
  apart {best} a d i j h l e =
      not_itself (get_or best j d) (subst (λ x. Prior cost R x (get_or best j d)) e (in_order a d i j h l))

-- ---- the k best paths

pub chain_never : (p : List Word) → ChainBefore p p → ⊥
chain_never [] h = h
chain_never (w ∷ p) h = ⊎_elim (lower_never w.root w.label w.goal) (λ l. chain_never p l.1) h

module _ (words : ℕ → List Word) (ends : ℕ → Bool) (dist : ℕ → Word → ℕ) (blocks : ℕ)
    (ordered : (b : ℕ) → b < blocks → Ordered Before (words b)) where
  -- no path is listed twice
  pub paths_apart : (k m b s : ℕ) → b + m ≤ blocks → (d : List Word) (i j : ℕ) → i < j → j < length (best_paths words ends dist k m b s)
      → get_or (best_paths words ends dist k m b s) i d ≡ get_or (best_paths words ends dist k m b s) j d → ⊥
  paths_apart k m b s h d i j =
      apart (path_distance dist b) ChainBefore chain_never (paths_best words ends dist blocks ordered k m b s h).ordered d i j
