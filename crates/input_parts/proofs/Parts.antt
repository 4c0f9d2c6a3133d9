-- The table at the front of bytes: it has what its W asks for, or all that is left; and one that is not refused has what its W asks for,
-- since its own check of the length would refuse it else.
use mathlib.Core.Path.{◌≡◌, sym, ap, subst, ◌∙◌}
use mathlib.Core.Bool.{false, not}
use mathlib.Core.List.{List}
use Prim.Native.Nat.{ℕ, ◌+◌, ◌*◌, ◌<◌, ◌≤◌}
use native.Mathlib.Omega.{arith}
use native.Mathlib.Decide.{dec_lt}
use lib.ListN.{length, take, length-take}
use lib.Dec.{ltb, eqb}
use lib.Seq.{take_all, length-take-le}
use borrow.Author.Tests.{eqb-true, not-false}
use Rattle.trellis.proofs.Bools.{neither}
use Rattle.fields.specs.Fields.{word_count, length_bad}
use Rattle.input_parts.specs.Input.{any_table, table_length, table_part}

right_length : (file : List ℕ) → length_bad file ≡ false → length file ≡ table_length file
unfolding length_bad
right_length file e =
    let p = neither (ltb (length file) 5) (not (eqb (length file) (5 + 4 * word_count file))) e in
    eqb-true (length file) (5 + 4 * word_count file) (not-false _ p.1)

module _ (rest : List ℕ) where
  all_of_it : length rest ≤ table_length rest → table_part rest ≡ rest
  all_of_it h = take_all (table_length rest) rest h

  module _ {x w : ℕ} (x_is : x ≡ word_count rest) (w_is : w ≡ x) (w_to : w < 65536) where
    pub part_short : length rest < 5 + 4 * w → (length rest ≡ length (table_part rest)) × (length rest ≤ any_table)
    part_short h = (sym (ap length (all_of_it (omega (arith, x_is, w_is)))), omega arith)

    pub part_whole : 5 + 4 * w ≤ length rest → (5 + 4 * w ≡ length (table_part rest)) × (5 + 4 * w ≤ any_table)
    part_whole h =
        let e : 5 + 4 * w ≡ table_length rest = omega (arith, x_is, w_is) in
        (e ∙ sym (length-take-le (table_length rest) rest (omega (arith, e))), omega arith)

  -- the code takes so many bytes off the front
  pub part_taken : {part : ℕ} → part ≡ length (table_part rest) → part ≡ length (take part rest)
  part_taken {part} e = sym (length-take-le part rest (omega (arith, e, length-take (table_length rest) rest)))

  pub part_few : {part : ℕ} → part ≡ length (table_part rest) → part ≤ any_table → length (take part rest) ≤ any_table
  part_few {part} e h = subst (λ k. k ≤ any_table) (part_taken e) h

  pub part_full : length_bad (table_part rest) ≡ false → length (table_part rest) ≡ table_length rest
  part_full e = go (dec_lt (length rest) (table_length rest))
    where
      go : Dec (length rest < table_length rest) → length (table_part rest) ≡ table_length rest
      go (yes h) =
          let a : table_part rest ≡ rest = all_of_it (omega arith) in
          absurd (omega (arith, right_length rest (ap length_bad (sym a) ∙ e)))
      go (no h) = length-take-le (table_length rest) rest (omega arith)
