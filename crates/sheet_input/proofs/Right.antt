-- What an input with no fault is: K, B and the indices are within their bounds, no table is refused, and nothing is left over, since each
-- test that held would give an outcome whose number is not 0. Its sections cost little, because its tables are within their bounds.
use mathlib.Core.Path.{◌≡◌, refl, sym, ap, subst, ◌∙◌}
use mathlib.Core.Bool.{Bool, true, false, cond, not}
use mathlib.Core.List.{List, []}
use Prim.Native.Nat.{ℕ, ◌+◌, ◌*◌, ◌<◌, ◌≤◌}
use native.Mathlib.Omega.{arith}
use native.Mathlib.Decide.{ℕ_discrete}
use lib.ListN.{length}
use lib.Dec.{ltb, eqb}
use borrow.Author.Tests.{ltb-true, ltb-false, eqb-true, not-false}
use Rattle.trellis.specs.Bounds.{most_symbols, most_words}
use Rattle.trellis.specs.Outcome.{Outcome, outcome, bad_section}
use Rattle.trellis.proofs.Bools.{fails}
use Rattle.trellis.proofs.Lists.{first_ok}
use Rattle.table.specs.File.{TableFile, refused, accepted, table_file, file_outcome}
use Rattle.table.proofs.Search.{none_passes}
use Rattle.table.specs.Inner.Good.{Passes}
use Rattle.table.proofs.Accepted.{zero_passes, passes_accepted, accepted_good}
use Rattle.listing.proofs.Short.{additions_few, selections_few}
use Rattle.input_parts.specs.Input.{input_sections, input_blocks, input_index, table_start, table_outcome, section_in, index_bad, first_index}
use Rattle.input_parts.specs.Input.{table_refused, first_refused, input_outcome}
use Rattle.input_parts.specs.Inner.Read.{additions_of, selections_of, head_outcome, left_over, table_in}
use Rattle.input_parts.proofs.Head.{HeadRight, head_right, head_counts, behind, input_behind}

pub record InputRight (input : List ℕ) : Type 0 where
  pub head : HeadRight input
  pub tables : (j : ℕ) → j < input_sections input → (table_outcome (table_in input j)).number ≡ 0
  pub ends : length input ≤ table_start input (input_sections input)

module _ (input : List ℕ) where
  abbrev K : ℕ
  K = input_sections input

  module _ (none : (input_outcome input).number ≡ 0) where
    head_none : (head_outcome input).number ≡ 0
    head_none = go (ℕ_discrete (head_outcome input).number 0)
      where
        go : Dec ((head_outcome input).number ≡ 0) → (head_outcome input).number ≡ 0
        go (yes e) = e
        go (no e) = absurd (e (ap (λ (o : Outcome). o.number) (sym (head_counts input e)) ∙ none))

    right : HeadRight input
    right = head_right input head_none

    behind_none : (behind input right (ltb (first_refused input) K)).number ≡ 0
    behind_none = ap (λ (o : Outcome). o.number) (sym (input_behind input right)) ∙ none

    -- a table that is the first refused one has a refusal
    not_refused : first_refused input < K → (table_outcome (table_in input (first_refused input))).number ≡ 0 → ⊥
    unfolding first_refused table_refused
    not_refused h e = fails (ap (λ k. not (eqb k 0)) e) ((first_ok (table_refused input) K).hit h)

    pub input_right : InputRight input
    unfolding left_over first_refused table_refused
    input_right = go (ltb (first_refused input) K) refl behind_none
      where
        all_pass : ltb (first_refused input) K ≡ false → (j : ℕ) → j < K → (table_outcome (table_in input j)).number ≡ 0
        all_pass e j h =
            eqb-true _ 0 (not-false _ (none_passes (table_refused input) K (ltb-false (first_refused input) K e) j h))

        left : (b : Bool) → ltb (table_start input K) (length input) ≡ b → (cond b (bad_section K) (outcome 0 [])).number ≡ 0
            → length input ≤ table_start input K
        left true e n = absurd (omega arith)
        left false e n = ltb-false (table_start input K) (length input) e

        go : (b : Bool) → ltb (first_refused input) K ≡ b → (behind input right b).number ≡ 0 → InputRight input
        go true e n = absurd (not_refused (ltb-true (first_refused input) K e) n)
        go false e n = record { head = right; tables = all_pass e; ends = left (ltb (table_start input K) (length input)) refl n }

  pub index_below_lem : HeadRight input → (b : ℕ) → b < input_blocks input → input_index input b < K
  unfolding index_bad first_index
  index_below_lem R b h = ltb-true _ _ (not-false _ (none_passes (index_bad input) (input_blocks input) R.indices_right b h))

-- ---- what an accepted table's section costs

passes : (f : TableFile) → (table_outcome f).number ≡ 0 → (file_outcome f).number ≡ 0
passes (refused o) e = e
passes (accepted q n states table) e = refl

pub table_passes : (file : List ℕ) → (table_outcome (table_file file)).number ≡ 0 → Passes file
table_passes file e = zero_passes file (passes (table_file file) e)

abbrev pub CostsFew : TableFile → Type 0
CostsFew f = (additions_of (section_in f) ≤ most_symbols * most_words) × (selections_of (section_in f) ≤ most_symbols * most_words + most_words)

pub costs_few : (file : List ℕ) → (table_outcome (table_file file)).number ≡ 0
    → CostsFew (table_file file)
costs_few file e =
    let a = passes_accepted file (table_passes file e) in
    let G = accepted_good file a in
    subst CostsFew (sym a) (additions_few file G, selections_few file G)
