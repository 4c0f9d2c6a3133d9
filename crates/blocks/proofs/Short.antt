-- Every sheet is short: one with its records by what each section can cost, and the line of a refusal since the numbers returned are few and
-- have few digits, being bytes of the input, or counts of what it has, or those of a table's own refusal.
use Rattle.std.proofs.Common.{◌≡◌, ℕ, ◌+◌, ◌<◌, ◌≤◌, List, [], ◌∷◌, length, drop, get_or, arith}
use Rattle.std.proofs.lemmas.Bool.{eq-eqb, ne_eqb, ltb-true}
use Rattle.std.proofs.lemmas.List.{length-take}
use Rattle.std.proofs.Math.Dec.{ltb, eqb}
use lib.Seq.{get_or-drop}
use mathlib.Core.Path.{refl}
use mathlib.Core.Bool.{Bool, true, false, cond, not}
use native.Mathlib.Decide.{ℕ_discrete}
use Rattle.trellis.specs.Bounds.{most_sections}
use Rattle.trellis.specs.Lists.{within}
use Rattle.trellis.specs.Witness.{Witness, found, nothing, witness}
use Rattle.trellis.specs.Word.{Word}
use Rattle.trellis.specs.Outcome.{Outcome, outcome, bad_section, bad_block}
use Rattle.fields.specs.Fields.{word_count}
use Rattle.table.specs.File.{TableFile, refused, accepted, table_file}
use Rattle.table.specs.Inner.Good.{GoodFile}
use Rattle.table.proofs.Accepted.{accepted_good}
use Rattle.text.specs.Inner.Digits.{AllBelow}
use Rattle.lines.specs.Text.{refusal_line}
use Rattle.listing.proofs.Refusals.{Small, witness_refusal, file_refusal}
use Rattle.listing.proofs.Short.{line_of_few}
use Rattle.input_parts.specs.Input.{input_sections, input_blocks, table_length, table_start, table_at, witness_outcome, table_outcome}
use Rattle.input_parts.specs.Input.{lengths_bad, first_index, first_refused, input_outcome}
use Rattle.sheet_input.proofs.Right.{input_right}
use Rattle.sheet_records.specs.Sheet.{records_of, sheet_lines, sheet_text}
use Rattle.sheet_records.specs.Inner.Made.{any_sheet}
use Rattle.sheet.proofs.Short.{sheet_short}

-- an outcome whose line is short
record Short (o : Outcome) : Type 0 where
  few : length o.values ≤ 4
  small : AllBelow 6 (o.number ∷ o.values)

none_short : Short (outcome 0 [])
none_short = record { few = omega arith; small = (omega arith, tt) }

one_short : (k x : ℕ) → Small k → Small x → Short (outcome k (x ∷ []))
one_short k x f g = record { few = omega arith; small = (f, (g, tt)) }

-- a table's own refusal, or none
table_short : (file : List ℕ) → Small (length file) → Short (table_outcome (table_file file))
table_short file short = go (table_file file) refl
  where
    seen : {q n states : ℕ} {table : List Word} → GoodFile file q n states table → (w : Witness) → witness n table ≡ w
        → Short (witness_outcome w)
    seen {q} {n} {states} {table} G (found t i j k) e =
        let R = witness_refusal n table G.n_to G.count_to t i j k e in
        record { few = R.few; small = R.small }
    seen G nothing e = none_short

    go : (f : TableFile) → table_file file ≡ f → Short (table_outcome f)
    go (refused o) e = let R = file_refusal file short e in record { few = R.few; small = R.small }
    go (accepted q n states table) e = seen (accepted_good file e) (witness n table) refl

module _ (input : List ℕ) (bytes : (i : ℕ) → get_or input i 0 < 256) where
  abbrev K : ℕ
  K = input_sections input

  abbrev B : ℕ
  B = input_blocks input

  K_small : Small K
  K_small = omega (arith, bytes 0)

  B_small : Small B
  B_small = omega (arith, bytes 1, bytes 2)

  part_small : (j : ℕ) → Small (length (table_at input j))
  unfolding table_at word_count
  part_small j =
      let s = table_start input j in
      let rest = drop s input in
      omega (arith, length-take (table_length rest) rest, get_or-drop s input 3 0, get_or-drop s input 4 0, bytes (s + 3), bytes (s + 4))

  abbrev Rest : Bool → Bool → Outcome
  Rest e f = cond e (table_outcome (table_file (table_at input (first_refused input)))) (cond f (bad_section K) (outcome 0 []))

  outcome_short : Short (input_outcome input)
  unfolding input_outcome
  outcome_short =
      go (within 1 most_sections K) (lengths_bad input) (ltb (first_index input) B) refl (ltb (first_refused input) K)
      (ltb (table_start input K) (length input))
    where
      go : (a b d : Bool) → ltb (first_index input) B ≡ d → (e f : Bool)
          → Short (cond (not a) (bad_section K) (cond b (bad_block B) (cond d (bad_block (first_index input)) (Rest e f))))
      go false b d h e f = one_short 8 K (omega arith) K_small
      go true true d h e f = one_short 9 B (omega arith) B_small
      go true false true h e f = one_short 9 (first_index input) (omega arith) (omega (arith, ltb-true (first_index input) B h, B_small))
      go true false false h true f = table_short (table_at input (first_refused input)) (part_small (first_refused input))
      go true false false h false true = one_short 8 K (omega arith) K_small
      go true false false h false false = none_short

  pub text_short : length (sheet_text input) ≤ any_sheet
  unfolding sheet_text
  text_short = go (ℕ_discrete (input_outcome input).number 0)
    where
      go : Dec ((input_outcome input).number ≡ 0)
          → length (cond (eqb (input_outcome input).number 0) (sheet_lines (records_of input)) (refusal_line (input_outcome input))) ≤ any_sheet
      go (yes e) = simp (eq-eqb (input_outcome input).number 0 e) (sheet_short input (input_right input e))
      go (no h) =
          simp (ne_eqb (input_outcome input).number 0 h)
          (omega (arith, line_of_few (input_outcome input) outcome_short.small outcome_short.few))
