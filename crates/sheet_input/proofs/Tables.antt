-- The tables one behind another. The loop's invariant: no table before j is refused, table j begins at `at`, and both costs of the sections
-- before j stand in the arrays. A table that is not refused has all the bytes that its W asks for, so the next begins behind them. The one
-- that the loop stops at is the first of the definition; where there is none, what is left of the outcome is whether bytes are left over.
use mathlib.Core.Path.{◌≡◌, sym, ap, subst, ◌∙◌}
use mathlib.Core.Bool.{true, cond, not}
use mathlib.Core.List.{List, []}
use Prim.Native.Nat.{ℕ, suc, ◌+◌, ◌-◌, ◌<◌, ◌≤◌}
use native.Mathlib.Omega.{arith}
use lib.ListN.{length, set, take, drop, length-set, length-take, take-append-drop}
use lib.Seq.{take-append_seam}
use lib.Dec.{ltb}
use borrow.Author.Tests.{lt-ltb, le-ltb, eq-eqb, ne_eqb}
use Rattle.trellis.specs.Bounds.{most_sections}
use Rattle.trellis.specs.Outcome.{Outcome, outcome}
use Rattle.trellis.proofs.Lists.{rest_of}
use Rattle.trellis.proofs.Buffers.{put_more}
use Rattle.outcomes.specs.declared.Returned.{Returned}
use Rattle.table.specs.File.{table_file}
use Rattle.table.proofs.Search.{Clear, clear_start, clear_next, clear_first, clear_none}
use Rattle.input_parts.specs.Input.{input_sections, table_length, table_part, table_start, table_at, table_outcome, section_in, table_refused}
use Rattle.input_parts.specs.Input.{first_refused, input_outcome}
use Rattle.input_parts.specs.Inner.Read.{additions_of, selections_of, left_over, table_in, HeadPassed, Fault, TableMeasured, SectionCosts, Read}
use Rattle.input_parts.proofs.Head.{fault_by, head_right, few_sections_lem, blocks_inside, input_behind}
use Rattle.input_parts.proofs.Parts.{part_full}
use Rattle.sheet_input.proofs.Right.{table_passes}

pub record InTables (input added selected : List ℕ) (at j : ℕ) : Type 0 where
  pub within : j ≤ input_sections input
  pub clear : Clear (table_refused input) j
  pub at_is : at ≡ table_start input j
  pub inside : at ≤ length input
  pub costs : SectionCosts input j added selected

pub tables_start : {input added selected : List ℕ} {start sections : ℕ} → HeadPassed input start sections
    → length added ≡ most_sections → length selected ≡ most_sections → InTables input added selected start 0
unfolding table_start
tables_start {input} H a s = record {
  within = omega arith;
  clear = clear_start (table_refused input);
  at_is = H.start_is;
  inside = omega (arith, H.start_is, blocks_inside input (head_right input H.fine));
  costs = record {
    added_length = a;
    selected_length = s;
    additions_at = λ j h. absurd (omega arith);
    selections_at = λ j h. absurd (omega arith);
  };
}

pub sections_few : {input : List ℕ} {start sections : ℕ} → HeadPassed input start sections → sections ≤ most_sections
sections_few {input} H = omega (arith, H.sections_are, few_sections_lem input (head_right input H.fine))

-- ---- table j, as the code cuts it out

take_taken : (m : ℕ) (l : List ℕ) → take (length (take m l)) l ≡ take m l
take_taken m l = ap (take (length (take m l))) (sym (take-append-drop m l)) ∙ take-append_seam (take m l) (drop m l)

module _ {input added selected : List ℕ} {at j : ℕ} (I : InTables input added selected at j) {sections start : ℕ}
    (H : HeadPassed input start sections) (more : j < sections) {part : ℕ}
    (part_is : part ≡ length (table_part (take (length input - at) (drop at input)))) where
  abbrev K : ℕ
  K = input_sections input

  abbrev rest : List ℕ
  rest = take (length input - at) (drop at input)

  rest_is : rest ≡ drop (table_start input j) input
  rest_is = rest_of input at ∙ ap (λ k. drop k input) I.at_is

  table_here : take part rest ≡ table_at input j
  unfolding table_at
  table_here = ap (λ k. take k rest) part_is ∙ take_taken (table_length rest) rest ∙ ap table_part rest_is

  j_below : j < input_sections input
  j_below = omega (arith, H.sections_are)

  pub tables_refused : {r : Returned} → Fault (table_outcome (table_file (take part rest))) r → Fault (input_outcome input) r
  unfolding table_refused first_refused
  tables_refused {r} M =
      let F : Fault (table_outcome (table_in input j)) r = subst (λ p. Fault (table_outcome (table_file p)) r) table_here M in
      let bad : table_refused input j ≡ true = ap not (ne_eqb _ 0 (λ e. F.some (F.told.holds.number_is ∙ e))) in
      let first : j ≡ first_refused input = sym (clear_first I.clear j_below bad) in
      fault_by
      (input_behind input (head_right input H.fine)
      ∙ ap (λ k. cond (ltb k K) (table_outcome (table_in input k)) (left_over (table_start input K) (length input) K)) (sym first)
      ∙ ap (λ b. cond b (table_outcome (table_in input j)) (left_over (table_start input K) (length input) K)) (lt-ltb j K j_below))
      F

  module _ {a s : ℕ} (M : TableMeasured (table_file (take part rest)) a s) where
    none : (table_outcome (table_in input j)).number ≡ 0
    none = ap (λ p. (table_outcome (table_file p)).number) (sym table_here) ∙ ap (λ (o : Outcome). o.number) M.outcome_is

    full : part ≡ table_length (drop (table_start input j) input)
    unfolding table_at
    full =
        let p = table_passes (table_at input j) none in
        part_is ∙ ap (λ l. length (table_part l)) rest_is ∙ part_full (drop (table_start input j) input) p.length_right

    pub tables_next : InTables input (set added j a) (set selected j s) (at + part) (j + 1)
    unfolding table_refused table_start
    tables_next =
        let C = I.costs in
        let one : suc j ≡ j + 1 = omega arith in
        let jn : j < most_sections = omega (arith, sections_few H) in
        record {
          within = omega (arith, j_below);
          clear = clear_next I.clear (ap not (eq-eqb _ 0 none));
          at_is = ap (λ k. k + part) I.at_is ∙ ap (λ k. table_start input j + k) full ∙ ap (table_start input) one;
          inside =
              omega (arith, I.inside, part_is, length-take (table_length rest) rest, length-take (length input - at) (drop at input));
          costs = record {
            added_length = length-set added j a ∙ C.added_length;
            selected_length = length-set selected j s ∙ C.selected_length;
            additions_at =
                put_more (λ u x. x ≡ additions_of (section_in (table_in input u))) added j a (omega (arith, C.added_length))
                (M.additions_are ∙ ap (λ p. additions_of (section_in (table_file p))) table_here) C.additions_at;
            selections_at =
                put_more (λ u x. x ≡ selections_of (section_in (table_in input u))) selected j s (omega (arith, C.selected_length))
                (M.selections_are ∙ ap (λ p. selections_of (section_in (table_file p))) table_here) C.selections_at;
          };
        }

module _ {input added selected : List ℕ} {at j : ℕ} (I : InTables input added selected at j) {sections start : ℕ}
    (H : HeadPassed input start sections) (end : sections ≤ j) where
  j_is : j ≡ input_sections input
  j_is = omega (arith, H.sections_are, I.within)

  outcome_left : input_outcome input ≡ left_over at (length input) sections
  unfolding first_refused
  outcome_left =
      let K = input_sections input in
      let all : first_refused input ≡ K = clear_none I.clear (omega (arith, H.sections_are)) in
      input_behind input (head_right input H.fine)
      ∙ ap (λ b. cond b (table_outcome (table_in input (first_refused input))) (left_over (table_start input K) (length input) K))
      (le-ltb (first_refused input) K (omega (arith, all)))
      ∙ ap (λ k. left_over k (length input) K) (ap (table_start input) (sym j_is) ∙ sym I.at_is)
      ∙ ap (left_over at (length input)) (sym H.sections_are)

  pub tables_left : {r : Returned} → Fault (left_over at (length input) sections) r → Fault (input_outcome input) r
  tables_left F = fault_by outcome_left F

  pub tables_all : left_over at (length input) sections ≡ outcome 0 [] → Read input added selected
  tables_all e = record { outcome_is = outcome_left ∙ e; costs = subst (λ k. SectionCosts input k added selected) j_is I.costs }
