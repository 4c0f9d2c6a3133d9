-- The refusals of a table file, in one record: the number is 1 to 6, and the numbers returned are few and small, since none of them is
-- larger than the file is long. So a refusal is told by its number from the 7 that answers for a table with a section, and its line is
-- short.
use mathlib.Core.Path.{◌≡◌, refl, ap, subst}
use mathlib.Core.Bool.{Bool, true, false, cond, not}
use mathlib.Core.List.{List, [], ◌∷◌}
use Prim.Native.Nat.{ℕ, ◌+◌, ◌*◌, ◌^◌, ◌≤◌, ◌<◌}
use native.Mathlib.Omega.{arith}
use lib.ListN.{length}
use lib.Dec.{ltb, eqb}
use borrow.Author.Tests.{eqb-true, not-false}
use Rattle.trellis.specs.Bounds.{most_symbols, most_words, most_bytes}
use Rattle.trellis.specs.Word.{Word}
use Rattle.trellis.specs.Outcome.{Outcome, bad_length, bad_size, bad_word, not_above, not_rectangular}
use Rattle.trellis.specs.Witness.{witness, found}
use Rattle.trellis.proofs.Bools.{neither}
use Rattle.trellis.proofs.Lists.{first_ok}
use Rattle.trellis.proofs.Witness.{witness_first}
use Rattle.fields.specs.Fields.{word_count, length_bad}
use Rattle.table.specs.File.{size_outside, word_bad, order_bad, first_size, first_bad, first_not_above, refused, accepted, table_file, file_outcome}
use Rattle.text.specs.Inner.Digits.{AllBelow}

-- a number of at most six digits
abbrev pub Small : ℕ → Type 0
Small x = x < 10 ^ 6

pub record Refusal (o : Outcome) : Type 0 where
  pub some : 0 < o.number
  pub low : o.number < 7
  pub few : length o.values ≤ 4
  pub small : AllBelow 6 (o.number ∷ o.values)

one_value : (k x : ℕ) → 0 < k → k < 7 → Small x → Refusal (record { number = k; values = x ∷ [] })
one_value k x p l g = record { some = p; low = l; few = omega arith; small = (omega arith, (g, tt)) }

-- refusal 1 of input that is too long
pub too_long : Refusal (bad_length (most_bytes + 1))
too_long = one_value 1 (most_bytes + 1) (omega arith) (omega arith) (omega arith)

-- refusal 6
pub witness_refusal : (n : ℕ) (table : List Word) → n ≤ most_symbols → length table ≤ most_words → (t i j k : ℕ)
    → witness n table ≡ found t i j k → Refusal (not_rectangular t i j k)
witness_refusal n table short few t i j k e =
    let R = (witness_first n table t i j k e).refuted in
    let a : Small t = omega (arith, R.inner.1) in
    let b : Small i = omega (arith, R.words.0) in
    let c : Small j = omega (arith, R.words.1) in
    let d : Small k = omega (arith, R.words.2) in
    record { some = omega arith; low = omega arith; few = omega arith; small = (omega arith, (a, (b, (c, (d, tt))))) }

-- refusals 1 to 4
refusals : (a b d f : Bool) (file_length place bad low : ℕ) (q n S : ℕ) (words : List Word)
    → Small file_length → Small place → (a ≡ false → Small bad) → (a ≡ false → Small low) → {o : Outcome}
    → cond a (refused (bad_length file_length)) (cond b (refused (bad_size place))
    (cond d (refused (bad_word bad)) (cond f (refused (not_above low)) (accepted q n S words)))) ≡ refused o
    → Refusal o
refusals true b d f l p x y q n S ws hl hp hx hy e =
    subst Refusal (ap file_outcome e) (one_value 1 l (omega arith) (omega arith) hl)
refusals false true d f l p x y q n S ws hl hp hx hy e =
    subst Refusal (ap file_outcome e) (one_value 2 p (omega arith) (omega arith) hp)
refusals false false true f l p x y q n S ws hl hp hx hy e =
    subst Refusal (ap file_outcome e) (one_value 3 x (omega arith) (omega arith) (hx refl))
refusals false false false true l p x y q n S ws hl hp hx hy e =
    subst Refusal (ap file_outcome e) (one_value 4 y (omega arith) (omega arith) (hy refl))
refusals false false false false l p x y q n S ws hl hp hx hy e = let z : ◌≡◌ {A = ℕ} 0 1 = cc in absurd (omega arith)

module _ (file : List ℕ) (short : Small (length file)) where
  count_small : length_bad file ≡ false → Small (word_count file)
  unfolding length_bad
  count_small e =
      let p = neither (ltb (length file) 5) (not (eqb (length file) (5 + 4 * word_count file))) e in
      omega (arith, eqb-true (length file) (5 + 4 * word_count file) (not-false _ p.1))

  pub file_refusal : {o : Outcome} → table_file file ≡ refused o → Refusal o
  unfolding table_file
  file_refusal e =
      refusals (length_bad file) (ltb (first_size file) 4) (ltb (first_bad file) (word_count file)) (ltb (first_not_above file) (word_count file))
      (length file) (first_size file) (first_bad file) (first_not_above file) _ _ _ _
      (omega arith) (omega (arith, (first_ok (size_outside file) 4).most))
      (λ a. omega (arith, (first_ok (word_bad file) (word_count file)).most, count_small a))
      (λ a. omega (arith, (first_ok (order_bad file) (word_count file)).most, count_small a)) e
