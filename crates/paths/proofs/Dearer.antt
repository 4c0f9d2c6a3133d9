-- Where every word of a block costs more, all words of the block by the same number, the first path of least distance is the same words: a
-- path has one word of each block, so every path pays the same more, and a number added on both sides moves no choice.
use mathlib.Core.Path.{◌≡◌, refl, ap, ap₂, sym, ◌∙◌}
use mathlib.Core.Bool.{Bool}
use mathlib.Core.List.Memᴰ
use mathlib.Core.List.{List, [], ◌∷◌}
use Prim.Native.Nat.{ℕ, suc, ◌+◌}
use native.Mathlib.Omega.{arith}
use lib.ListN.{length}
use Rattle.trellis.specs.Lists.{◌∈◌, sum}
use Rattle.trellis.specs.Word.{Word}
use Rattle.paths.specs.Choice.{some, choose, best}
use Rattle.paths.specs.Chain.{chain_paths, path_distance, best_path}
use Rattle.paths.proofs.Choose.{extend, extend_choose}
use Rattle.paths.proofs.Winner.{of_paths}

-- a list whose members all cost d more
best_dearer : {P : Type 0} (d : ℕ) (cost more : P → ℕ) (ps : List P) → ((p : P) → p ∈ ps → more p ≡ d + cost p)
    → best more ps ≡ extend d (λ p. p) (best cost ps)
unfolding best extend
best_dearer d cost more [] h = refl
best_dearer d cost more (p ∷ ps) h =
    ap₂ choose (ap (λ c. some c p) (h p (Memᴰ.head refl))) (best_dearer d cost more ps (λ q m. h q (Memᴰ.tail m)))
    ∙ sym (extend_choose d (λ p. p) (some (cost p) p) (best cost ps))

-- a word of block b costs `extra b` more
module _ (dist more : ℕ → Word → ℕ) (extra : ℕ → ℕ) (each : (b : ℕ) (w : Word) → more b w ≡ extra b + dist b w) where
  path_dearer : (b : ℕ) (p : List Word) → path_distance more b p ≡ sum extra b (length p) + path_distance dist b p
  unfolding path_distance sum
  path_dearer b [] = refl
  path_dearer b (w ∷ ws) = omega (arith, each b w, path_dearer (suc b) ws)

  pub best_path_dearer : (words : ℕ → List Word) (ends : ℕ → Bool) (k b s : ℕ)
      → best_path words ends more k b s ≡ extend (sum extra b k) (λ p. p) (best_path words ends dist k b s)
  unfolding best_path
  best_path_dearer words ends k b s =
      best_dearer (sum extra b k) (path_distance dist b) (path_distance more b) (chain_paths words ends k b s)
      (λ p m. path_dearer b p ∙ ap (λ j. sum extra b j + path_distance dist b p) (of_paths words ends k b s p m).long)
