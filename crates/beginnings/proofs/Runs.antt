-- Lists by place: the first members of a list are its values at the first places, and what is made of each value is made of each place.
use mathlib.Core.Path.{◌≡◌, refl, sym, ap, ap₂, subst, ◌∙◌}
use mathlib.Core.List.{List, [], ◌∷◌, ◌++◌, map, flat_map, Memᴰ}
use Prim.Native.Nat.{ℕ, zero, suc, ◌+◌, ◌≤◌, ◌<◌}
use native.Mathlib.Omega.{arith}
use native.Mathlib.Nat.{zero-add, add-zero, add-suc, suc-add}
use lib.ListN.{length, get_or, take, length-take}
use lib.Seq.{take-suc, get_or-take}
use Rattle.trellis.specs.Lists.{◌∈◌, run, each}
use Rattle.trellis.proofs.Lists.{run_snoc, From, of_each, in_place, map_run}

pub map_each : {A B : Type 0} (f : A → B) (g : ℕ → A) (count : ℕ) → map f (each g count) ≡ each (λ k. f (g k)) count
map_each f g count = map_run f g 0 count

flat_run : {A B : Type 0} (f : A → List B) (h : ℕ → B) (g : ℕ → A) (at count : ℕ)
    → ((k : ℕ) → k < count → f (g (at + k)) ≡ h (at + k) ∷ []) → flat_map f (run g at count) ≡ run h at count
unfolding run flat_map
flat_run f h g at zero e = refl
flat_run f h g at (suc count) e =
    let z : f (g at) ≡ h at ∷ [] = ap (λ k. f (g k)) (sym (add-zero at)) ∙ e 0 (omega arith) ∙ ap (λ k. h k ∷ []) (add-zero at) in
    ap₂ (λ a l. a ++ l) z
    (flat_run f h g (suc at) count (λ k l. ap (λ j. f (g j)) (shift k) ∙ e (suc k) (omega arith) ∙ ap (λ j. h j ∷ []) (sym (shift k))))
  where
    shift : (k : ℕ) → suc at + k ≡ at + suc k
    shift k = suc-add at k ∙ sym (add-suc at k)

-- one value for each place
pub flat_each : {A B : Type 0} (f : A → List B) (h : ℕ → B) (g : ℕ → A) (count : ℕ) → ((k : ℕ) → k < count → f (g k) ≡ h k ∷ [])
    → flat_map f (each g count) ≡ each h count
flat_each f h g count e =
    flat_run f h g 0 count (λ k l. ap (λ j. f (g j)) (zero-add k) ∙ e k l ∙ ap (λ j. h j ∷ []) (sym (zero-add k)))

-- the first members of a list
pub take_each : (l : List ℕ) (count : ℕ) → count ≤ length l → take count l ≡ each (λ i. get_or l i 0) count
unfolding run
take_each l zero h = refl
take_each l (suc count) h =
    take-suc l count 0 h ∙ ap (λ a. a ++ (get_or l count 0 ∷ [])) (take_each l count (omega arith))
    ∙ sym (run_snoc (λ i. get_or l i 0) 0 count ∙ ap (λ k. run (λ i. get_or l i 0) 0 count ++ (get_or l k 0 ∷ [])) (zero-add count))

pub of_take : (l : List ℕ) (count x : ℕ) → count ≤ length l → x ∈ take count l → From (λ i. get_or l i 0) count x
of_take l count x h m = of_each (λ i. get_or l i 0) count x (subst (Memᴰ x) (take_each l count h) m)

pub in_take : (l : List ℕ) (count j : ℕ) → count ≤ length l → j < count → get_or l j 0 ∈ take count l
in_take l count j h k =
    subst (λ x. x ∈ take count l) (get_or-take count l j 0 k) (in_place 0 (take count l) j (omega (arith, length-take count l)))
