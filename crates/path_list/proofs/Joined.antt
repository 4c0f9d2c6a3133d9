-- Lists of one length, one behind another: member i of list q stands at q times this length + i, and every place is of that kind. So a
-- buffer that has at such places what the lists have, and is as it was beyond them, has them in front.
use mathlib.Core.Path.{◌≡◌, refl, sym, ap, ◌∙◌}
use mathlib.Core.List.Memᴰ
use mathlib.Core.List.{List, [], ◌∷◌, ◌++◌, map, flat_map}
use Prim.Native.Nat.{ℕ, zero, suc, ◌+◌, ◌*◌, ◌/◌, ◌%◌, ◌≤◌, ◌<◌}
use native.Mathlib.Omega.{arith}
use native.Mathlib.Nat.{suc-mul, zero-mul, mod-lt, div-add-mod', div-lt_iff_lt-mul}
use lib.ListN.{length, get_or, length-append, length-map, get_or-append, get_or-map}
use lib.Seq.{get_or-append-add}
use Rattle.trellis.specs.Lists.{◌∈◌, over}
use Rattle.trellis.specs.Word.{Word, word, word_at}
use Rattle.trellis.proofs.Buffers.{over_is}

module _ {A B : Type 0} (f : A → List B) (n : ℕ) where
  pub joined_long : (xs : List A) → ((x : A) → x ∈ xs → length (f x) ≡ n) → length (flat_map f xs) ≡ length xs * n
  unfolding flat_map
  joined_long [] h = sym (zero-mul n)
  joined_long (x ∷ xs) h =
      let e = joined_long xs (λ y m. h y (Memᴰ.tail m)) in
      length-append (f x) (flat_map f xs) ∙ omega (arith, h x (Memᴰ.head refl), e, suc-mul (length xs) n)

  pub joined_at : (xs : List A) (a : A) (b : B) → ((x : A) → x ∈ xs → length (f x) ≡ n) → (q i : ℕ) → q < length xs → i < n
      → get_or (flat_map f xs) (q * n + i) b ≡ get_or (f (get_or xs q a)) i b
  unfolding flat_map
  joined_at [] a b h q i k l = absurd (omega arith)
  joined_at (x ∷ xs) a b h zero i k l =
      let e : zero * n + i ≡ i = omega (arith, zero-mul n) in
      ap (λ j. get_or (f x ++ flat_map f xs) j b) e ∙ get_or-append (f x) (flat_map f xs) b i (omega (arith, h x (Memᴰ.head refl)))
  joined_at (x ∷ xs) a b h (suc q) i k l =
      let e : suc q * n + i ≡ length (f x) + (q * n + i) = omega (arith, h x (Memᴰ.head refl), suc-mul q n) in
      ap (λ j. get_or (f x ++ flat_map f xs) j b) e ∙ get_or-append-add (f x) (flat_map f xs) (q * n + i) b
      ∙ joined_at xs a b (λ y m. h y (Memᴰ.tail m)) q i (omega arith) l

-- paths of n words, one behind another, and a number for each word
pub paths_over : (g : Word → ℕ) (n : ℕ) (paths : List (List Word)) (old written : List ℕ) → 0 < n
    → ((p : List Word) → p ∈ paths → length p ≡ n) → length paths * n ≤ length old → length written ≡ length old
    → ((q i : ℕ) → q < length paths → i < n → get_or written (q * n + i) 0 ≡ g (word_at (get_or paths q []) i))
    → ((j : ℕ) → length paths * n ≤ j → get_or written j 0 ≡ get_or old j 0)
    → g (word 0 0 0) ≡ 0 → written ≡ over (flat_map (map g) paths) old
paths_over g n paths old written pos each fits same front behind blank =
    over_is (flat_map (map g) paths) old written (omega (arith, long)) same at (λ j h. behind j (omega (arith, long)))
  where
    mapped : (p : List Word) → p ∈ paths → length (map g p) ≡ n
    mapped p m = length-map p g ∙ each p m

    long : length (flat_map (map g) paths) ≡ length paths * n
    long = joined_long (map g) n paths mapped

    number_at : (p : List Word) (i : ℕ) → get_or (map g p) i 0 ≡ g (word_at p i)
    number_at p i = ap (get_or (map g p) i) (sym blank) ∙ get_or-map g p i (word 0 0 0)

    at : (j : ℕ) → j < length (flat_map (map g) paths) → get_or written j 0 ≡ get_or (flat_map (map g) paths) j 0
    at j h =
        let e : j / n * n + j % n ≡ j = div-add-mod' j n in
        let q : j / n < length paths = (div-lt_iff_lt-mul pos).1 (omega (arith, long)) in
        let r : j % n < n = mod-lt j pos in
        ap (λ i. get_or written i 0) (sym e) ∙ front (j / n) (j % n) q r
        ∙ sym (number_at (get_or paths (j / n) []) (j % n))
        ∙ sym (joined_at (map g) n paths [] 0 mapped (j / n) (j % n) q r)
        ∙ ap (λ i. get_or (flat_map (map g) paths) i 0) e
