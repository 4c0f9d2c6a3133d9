-- K, B and the indices: each way out of the checks has the outcome of the definition, because the tests before it did not hold; and where
-- none holds, what is left of the whole outcome is that of the tables.
use mathlib.Core.Path.{◌≡◌, refl, sym, ap, subst, ◌∙◌}
use mathlib.Core.Bool.{Bool, true, false, cond, not, ◌||◌}
use mathlib.Core.List.{List, [], ◌∷◌}
use Prim.Native.Nat.{ℕ, ◌+◌, ◌^◌, ◌<◌, ◌≤◌}
use native.Mathlib.Omega.{arith}
use lib.ListN.{length}
use lib.Dec.{ltb}
use borrow.Author.Tests.{lt-ltb, le-ltb, ltb-false}
use Rattle.trellis.specs.Bounds.{most_sections, most_blocks}
use Rattle.std.specs.Prelude.{Option, Some, None}
use Rattle.trellis.specs.Lists.{found_below, within}
use Rattle.trellis.specs.Outcome.{Outcome, outcome, bad_section, bad_block}
use Rattle.trellis.proofs.Bools.{neither}
use Rattle.numbers.proofs.Bounds.{within_to}
use Rattle.outcomes.specs.Inner.Holds.{Holds}
use Rattle.outcomes.specs.declared.Returned.{Returned}
use Rattle.table.specs.File.{table_file}
use Rattle.table.proofs.Search.{Clear, clear_found, clear_all, found_is, none_below}
use Rattle.input_parts.specs.Input.{input_sections, input_blocks, input_index, table_at, table_start, table_outcome, lengths_bad, index_bad}
use Rattle.input_parts.specs.Input.{first_index, first_refused, input_outcome}
use Rattle.input_parts.specs.Inner.Read.{head_outcome, left_over, HeadRead, HeadPassed, Fault}

-- ---- faults of one number, which has at most six digits

pub fault_by : {o p : Outcome} {r : Returned} → o ≡ p → Fault p r → Fault o r
fault_by {o} {p} {r} e F = subst (λ x. Fault x r) (sym e) F

pub fault_one : (k x : ℕ) → 0 < k → k < 10 ^ 6 → x < 10 ^ 6 → {o : Outcome} {r : Returned} → o ≡ outcome k (x ∷ [])
    → Holds (outcome k (x ∷ [])) r.number r.count r.values → Fault o r
fault_one k x s f g e h =
    fault_by e (record { some = λ z. omega (arith, s, h.number_is, z); told = record { holds = h; small = (f, (g, tt)) } })

pub head_read : {input : List ℕ} {sections blocks : ℕ} → (sections ≡ input_sections input) × (sections ≤ 255)
    → (blocks ≡ input_blocks input) × (blocks ≤ 65535) → HeadRead input sections blocks
head_read s b = record { sections_are = s.0; blocks_are = b.0; sections_to = s.1; blocks_to = b.1 }

-- ---- bytes left over

pub some_left : (end length : ℕ) {sections : ℕ} {r : Returned} → sections ≤ most_sections → end < length
    → Holds (bad_section sections) r.number r.count r.values → Fault (left_over end length sections) r
unfolding left_over
some_left end length {sections} f h H =
    simp (lt-ltb end length h) (fault_one 8 sections (omega arith) (omega arith) (omega arith) refl H)

pub none_left : (end length sections : ℕ) → length ≤ end → left_over end length sections ≡ outcome 0 []
unfolding left_over
none_left end length sections h = simp (le-ltb end length h) refl

-- ---- the indices

module _ (input : List ℕ) (b : ℕ) {sections s : ℕ} (k_is : sections ≡ input_sections input) (s_is : s ≡ input_index input b) where
  pub index_high : sections ≤ s → index_bad input b ≡ true
  unfolding index_bad
  index_high h = ap not (le-ltb (input_index input b) (input_sections input) (omega (arith, k_is, s_is)))

  pub index_low : s < sections → index_bad input b ≡ false
  unfolding index_bad
  index_low h = ap not (lt-ltb (input_index input b) (input_sections input) (omega (arith, k_is, s_is)))

module _ (input : List ℕ) {b : ℕ} (C : Clear (index_bad input) b) where
  pub index_found : b < input_blocks input → index_bad input b ≡ true → Some b ≡ found_below (input_blocks input) (first_index input)
  unfolding first_index
  index_found h e = clear_found C h e

  pub index_none : input_blocks input ≤ b → None ≡ found_below (input_blocks input) (first_index input)
  unfolding first_index
  index_none h = clear_all C h

module _ (input : List ℕ) where
  abbrev K : ℕ
  K = input_sections input

  abbrev B : ℕ
  B = input_blocks input

  -- ---- B and the length of the list

  module _ {blocks : ℕ} {w : Bool} (b_is : blocks ≡ B) (w_is : w ≡ within 1 most_blocks blocks) where
    same_within : w ≡ within 1 most_blocks B
    same_within = w_is ∙ ap (within 1 most_blocks) b_is

    pub lengths_outside : w ≡ false → true ≡ lengths_bad input
    unfolding lengths_bad
    lengths_outside e = ap (λ b. not b || ltb (length input) (3 + B)) (sym e ∙ same_within)

    pub lengths_inside : w ≡ true → ltb (length input) (3 + blocks) ≡ lengths_bad input
    unfolding lengths_bad
    lengths_inside e =
        ap (λ k. ltb (length input) (3 + k)) b_is ∙ ap (λ b. not b || ltb (length input) (3 + B)) (sym e ∙ same_within)

  -- ---- the outcome, by what the tests say

  abbrev heads : Bool → Bool → Bool → Outcome
  heads a b d = cond (not a) (bad_section K) (cond b (bad_block B) (cond d (bad_block (first_index input)) (outcome 0 [])))

  module _ {sections blocks : ℕ} (R : HeadRead input sections blocks) {w : Bool} (w_is : w ≡ within 1 most_sections sections) where
    same_sections : w ≡ within 1 most_sections K
    same_sections = w_is ∙ ap (within 1 most_sections) R.sections_are

    pub head_sections : {r : Returned} → w ≡ false → Holds (bad_section sections) r.number r.count r.values
        → Fault (head_outcome input) r
    unfolding head_outcome
    head_sections e h =
        fault_one 8 sections (omega arith) (omega arith) (omega (arith, R.sections_to))
        (ap (λ a. heads a (lengths_bad input) (ltb (first_index input) B)) (sym same_sections ∙ e) ∙ ap bad_section (sym R.sections_are)) h

    module _ (w_true : w ≡ true) {bad : Bool} (bad_is : bad ≡ lengths_bad input) where
      pub head_lengths : {r : Returned} → bad ≡ true → Holds (bad_block blocks) r.number r.count r.values
          → Fault (head_outcome input) r
      unfolding head_outcome
      head_lengths e h =
          fault_one 9 blocks (omega arith) (omega arith) (omega (arith, R.blocks_to))
          (ap (λ a. heads a (lengths_bad input) (ltb (first_index input) B)) (sym same_sections ∙ w_true)
          ∙ ap (λ b. heads true b (ltb (first_index input) B)) (sym bad_is ∙ e) ∙ ap bad_block (sym R.blocks_are)) h

      module _ (bad_false : bad ≡ false) {found : Option ℕ} (found_lem : found ≡ found_below B (first_index input)) where
        by_index : head_outcome input ≡ heads true false (ltb (first_index input) B)
        unfolding head_outcome
        by_index =
            ap (λ a. heads a (lengths_bad input) (ltb (first_index input) B)) (sym same_sections ∙ w_true)
            ∙ ap (λ b. heads true b (ltb (first_index input) B)) (sym bad_is ∙ bad_false)

        pub head_index : {first : ℕ} {r : Returned} → found ≡ Some first → Holds (bad_block first) r.number r.count r.values
            → Fault (head_outcome input) r
        head_index {first} e h =
            let f = found_is (sym e ∙ found_lem) in
            fault_one 9 first (omega arith) (omega arith) (omega (arith, R.blocks_to, R.blocks_are, f.1))
            (by_index ∙ ap (heads true false) (lt-ltb (first_index input) B (omega (arith, f.0, f.1)))
            ∙ ap bad_block (sym f.0)) h

        pub head_fine : found ≡ None → head_outcome input ≡ outcome 0 []
        head_fine e = by_index ∙ ap (heads true false) (le-ltb (first_index input) B (none_below (sym e ∙ found_lem)))

  pub blocks_few : lengths_bad input ≡ false → B ≤ most_blocks
  unfolding lengths_bad
  blocks_few e =
      let p = (neither (not (within 1 most_blocks B)) (ltb (length input) (3 + B)) e).0 in
      omega (arith, within_to 1 most_blocks B refl p)

  -- ---- what a head with no fault says

  pub record HeadRight : Type 0 where
    pub sections_inside : within 1 most_sections K ≡ true
    pub lengths_right : lengths_bad input ≡ false
    pub indices_right : B ≤ first_index input

  pub head_right : (head_outcome input).number ≡ 0 → HeadRight
  unfolding head_outcome
  head_right e = go (within 1 most_sections K) refl (lengths_bad input) refl (ltb (first_index input) B) refl e
    where
      go : (a : Bool) → within 1 most_sections K ≡ a → (b : Bool) → lengths_bad input ≡ b → (d : Bool) → ltb (first_index input) B ≡ d
          → (heads a b d).number ≡ 0 → HeadRight
      go false p b q d r e = absurd (omega arith)
      go true p true q d r e = absurd (omega arith)
      go true p false q true r e = absurd (omega arith)
      go true p false q false r e = record { sections_inside = p; lengths_right = q; indices_right = ltb-false (first_index input) B r }

  module _ (R : HeadRight) where
    pub few_sections_lem : K ≤ most_sections
    few_sections_lem = omega (arith, within_to 1 most_sections K refl (ap not R.sections_inside))

    pub blocks_inside : 3 + B ≤ length input
    unfolding lengths_bad
    blocks_inside =
        ltb-false (length input) (3 + B) (neither (not (within 1 most_blocks B)) (ltb (length input) (3 + B)) R.lengths_right).1

    -- the tables, then bytes left over
    abbrev pub behind : Bool → Outcome
    behind b = cond b (table_outcome (table_file (table_at input (first_refused input)))) (left_over (table_start input K) (length input) K)

    pub input_behind : input_outcome input ≡ behind (ltb (first_refused input) K)
    unfolding input_outcome left_over
    input_behind =
        simp R.sections_inside (simp R.lengths_right (simp (le-ltb (first_index input) B R.indices_right) refl))

  -- ---- the whole outcome, from that of the head

  abbrev rest_of_checks : Outcome
  rest_of_checks =
      cond (ltb (first_refused input) K) (table_outcome (table_file (table_at input (first_refused input))))
      (cond (ltb (table_start input K) (length input)) (bad_section K) (outcome 0 []))

  pub head_counts : ((head_outcome input).number ≡ 0 → ⊥) → input_outcome input ≡ head_outcome input
  unfolding head_outcome input_outcome
  head_counts h = go (within 1 most_sections K) (lengths_bad input) (ltb (first_index input) B) h
    where
      go : (a b d : Bool) → ((heads a b d).number ≡ 0 → ⊥)
          → cond (not a) (bad_section K) (cond b (bad_block B) (cond d (bad_block (first_index input)) rest_of_checks)) ≡ heads a b d
      go false b d h = refl
      go true true d h = refl
      go true false true h = refl
      go true false false h = absurd (h refl)

  pub read_head : {r : Returned} → Fault (head_outcome input) r → Fault (input_outcome input) r
  read_head F = fault_by (head_counts (λ e. F.some (F.told.holds.number_is ∙ e))) F

  pub head_passed : {blocks sections : ℕ} → HeadRead input sections blocks → head_outcome input ≡ outcome 0 []
      → HeadPassed input (3 + blocks) sections
  head_passed R e = record {
    fine = ap (λ (o : Outcome). o.number) e;
    start_is = ap (λ k. 3 + k) R.blocks_are;
    sections_are = R.sections_are;
  }
