-- Bytes far behind change nothing. Where no table before j is refused, each has at most 1,024 words, so table j begins within the first
-- 61,774 bytes; and however many words it states, it has at most 262,145 bytes. So an input longer than `most_input` and its first
-- `most_input` bytes have the same head and the same tables up to the first that is refused; and where none is, bytes are left over in both.
use mathlib.Core.Path.{◌≡◌, refl, sym, ap, ap₂, subst, ◌∙◌}
use mathlib.Core.Bool.{Bool, true, false, cond, not, ◌||◌}
use mathlib.Core.List.{List, [], ◌∷◌}
use Prim.Native.Nat.{ℕ, zero, suc, ◌+◌, ◌-◌, ◌*◌, ◌<◌, ◌≤◌}
use native.Mathlib.Omega.{arith}
use native.Mathlib.Nat.{mul-le-mul, suc-mul}
use lib.ListN.{length, get_or, take, drop}
use lib.Dec.{T, ltb, eqb}
use lib.Seq.{take-nil, take-take, length-take-le, get_or-take, get_or-drop}
use borrow.Author.Tests.{lt-ltb, le-ltb, ltb-true, ltb-false, eqb-true, not-false}
use Rattle.trellis.specs.Bounds.{most_sections, most_blocks}
use Rattle.trellis.specs.Lists.{first, within}
use Rattle.trellis.specs.Outcome.{Outcome, outcome, bad_section, bad_block}
use Rattle.trellis.proofs.Bools.{fails, is_false}
use Rattle.trellis.proofs.Lists.{First, first_ok, first_is}
use Rattle.numbers.proofs.Bounds.{within_to}
use Rattle.fields.specs.Fields.{byte_at, two_bytes, word_count}
use Rattle.table.specs.File.{table_file}
use Rattle.table.proofs.Accepted.{passes_accepted, accepted_good}
use Rattle.input_parts.specs.Input.{input_sections, input_blocks, table_length, table_start, table_at, most_input, table_outcome, lengths_bad}
use Rattle.input_parts.specs.Input.{index_bad, first_index, table_refused, first_refused, input_outcome}
use Rattle.input_parts.proofs.Head.{few_sections_lem, blocks_few}
use Rattle.input_parts.proofs.Parts.{part_full}
use Rattle.sheet_input.proofs.Right.{InputRight, table_passes}

-- ---- lists cut off

drop_take : (s m : ℕ) (l : List ℕ) → s ≤ m → drop s (take m l) ≡ take (m - s) (drop s l)
drop_take zero m l h = let e : m ≡ m - 0 = omega arith in ap (λ k. take k l) e
drop_take (suc s) zero l h = absurd (omega arith)
drop_take (suc s) (suc m) [] h = sym (take-nil (suc m - suc s))
drop_take (suc s) (suc m) (x ∷ l) h =
    let e : m - s ≡ suc m - suc s = omega arith in
    drop_take s m l (omega arith) ∙ ap (λ k. take k (drop s l)) e

-- two tests that agree up to the first number that passes have the same first one
first_agree : (f g : ℕ → Bool) (m : ℕ) → ((j : ℕ) → j < m → ((i : ℕ) → i < j → f i ≡ false) → f j ≡ g j) → first f m ≡ first g m
first_agree f g m agree = sym (first_is g m (first f m) found)
  where
    missed : (i : ℕ) → i < first f m → f i ≡ false
    missed i h = is_false (f i) ((first_ok f m).miss i h)

    found : First g m (first f m)
    found = record {
      most = (first_ok f m).most;
      hit = λ h. subst T (agree (first f m) h missed) ((first_ok f m).hit h);
      miss = λ i h. fails (sym (agree i (omega (arith, (first_ok f m).most)) (λ k l. missed k (omega arith))) ∙ missed i h);
    }

-- ---- a table that is not refused has at most 4,101 bytes, so the tables behind it begin near

module _ (input : List ℕ) where
  table_few : (j : ℕ) → (table_outcome (table_file (table_at input j))).number ≡ 0 → table_length (drop (table_start input j) input) ≤ 4101
  unfolding table_at
  table_few j e =
      let p = table_passes (table_at input j) e in
      let G = accepted_good (table_at input j) (passes_accepted (table_at input j) p) in
      omega (arith, part_full (drop (table_start input j) input) p.length_right, G.length_is, G.count_to)

  starts_near : (j : ℕ) → ((i : ℕ) → i < j → (table_outcome (table_file (table_at input i))).number ≡ 0)
      → table_start input j ≤ 3 + input_blocks input + j * 4101
  unfolding table_start
  starts_near zero right = omega arith
  starts_near (suc j) right =
      omega (arith, starts_near j (λ i h. right i (omega arith)), table_few j (right j (omega arith)), suc-mul j 4101)

  pub ends_near : InputRight input → table_start input (input_sections input) < most_input
  ends_near R =
      let k : input_sections input * 4101 ≤ 16 * 4101 = mul-le-mul (few_sections_lem input R.head) (let z : 4101 ≤ 4101 = omega arith in z) in
      omega (arith, starts_near (input_sections input) R.tables, blocks_few input R.head.lengths_right, k)

-- ---- what is left of the outcome, test by test

abbrev behind : List ℕ → Outcome
behind l =
    cond (ltb (first_refused l) (input_sections l)) (table_outcome (table_file (table_at l (first_refused l))))
    (cond (ltb (table_start l (input_sections l)) (length l)) (bad_section (input_sections l)) (outcome 0 []))

abbrev indexed : List ℕ → Outcome
indexed l = cond (ltb (first_index l) (input_blocks l)) (bad_block (first_index l)) (behind l)

abbrev counted : List ℕ → Outcome
counted l = cond (lengths_bad l) (bad_block (input_blocks l)) (indexed l)

module _ (input : List ℕ) (bytes : (i : ℕ) → get_or input i 0 < 256) (long : most_input < length input) where
  abbrev front : List ℕ
  front = take most_input input

  front_length : length front ≡ most_input
  front_length = length-take-le most_input input (omega arith)

  same_byte : (i : ℕ) → i < most_input → byte_at front i ≡ byte_at input i
  same_byte i h = get_or-take most_input input i 0 h

  K_same : input_sections front ≡ input_sections input
  K_same = same_byte 0 (omega arith)

  B_same : input_blocks front ≡ input_blocks input
  B_same = ap₂ two_bytes (same_byte 1 (omega arith)) (same_byte 2 (omega arith))

  -- ---- the head

  lengths_same : lengths_bad front ≡ lengths_bad input
  unfolding lengths_bad
  lengths_same =
      ap (λ k. not (within 1 most_blocks k) || ltb (length front) (3 + k)) B_same
      ∙ go (within 1 most_blocks (input_blocks input)) refl
    where
      go : (w : Bool) → within 1 most_blocks (input_blocks input) ≡ w
          → (not w || ltb (length front) (3 + input_blocks input)) ≡ (not w || ltb (length input) (3 + input_blocks input))
      go false e = refl
      go true e =
          let f : input_blocks input ≤ 256 = omega (arith, within_to 1 most_blocks (input_blocks input) refl (ap not e)) in
          le-ltb (length front) (3 + input_blocks input) (omega (arith, front_length))
          ∙ sym (le-ltb (length input) (3 + input_blocks input) (omega arith))

  index_same : (b : ℕ) → b < 256 → index_bad front b ≡ index_bad input b
  unfolding index_bad
  index_same b h = ap₂ (λ s k. not (ltb s k)) (same_byte (3 + b) (omega arith)) K_same

  first_index_same : input_blocks input ≤ 256 → first_index front ≡ first_index input
  unfolding first_index
  first_index_same few =
      ap (first (index_bad front)) B_same
      ∙ first_agree (index_bad front) (index_bad input) (input_blocks input) (λ b h none. index_same b (omega arith))

  -- ---- the tables

  abbrev rest : ℕ → List ℕ
  rest j = drop (table_start input j) input

  module _ (j : ℕ) (start : table_start front j ≡ table_start input j) (near : table_start input j ≤ 61774) where
    abbrev s : ℕ
    s = table_start input j

    cut : drop (table_start front j) front ≡ take (most_input - s) (rest j)
    cut = ap (λ k. drop k front) start ∙ drop_take s most_input input (omega arith)

    rest_byte : (i : ℕ) → i < 5 → byte_at (take (most_input - s) (rest j)) i ≡ byte_at (rest j) i
    rest_byte i g = get_or-take (most_input - s) (rest j) i 0 (omega arith)

    length_same : table_length (drop (table_start front j) front) ≡ table_length (rest j)
    unfolding word_count
    length_same = ap table_length cut ∙ ap (λ w. 5 + 4 * w) (ap₂ two_bytes (rest_byte 3 (omega arith)) (rest_byte 4 (omega arith)))

    length_few : table_length (rest j) ≤ 262145
    unfolding word_count
    length_few = omega (arith, get_or-drop s input 3 0, get_or-drop s input 4 0, bytes (s + 3), bytes (s + 4))

    table_same : table_at front j ≡ table_at input j
    unfolding table_at
    table_same =
        ap₂ take length_same cut ∙ take-take (table_length (rest j)) (most_input - s) (rest j) (omega (arith, length_few))

    refused_same : table_refused front j ≡ table_refused input j
    unfolding table_refused
    refused_same = ap (λ f. not (eqb (table_outcome (table_file f)).number 0)) table_same

  module _ (few : input_blocks input ≤ 256) where
    abbrev Passed : ℕ → Type 0
    Passed j = (i : ℕ) → i < j → table_refused input i ≡ false

    near : (j : ℕ) → Passed j → table_start input j ≤ 259 + j * 4101
    unfolding table_refused
    near j none = omega (arith, starts_near input j (λ i h. eqb-true _ 0 (not-false _ (none i h))))

    start_same : (j : ℕ) → j ≤ 16 → Passed j → table_start front j ≡ table_start input j
    unfolding table_start
    start_same zero h none = ap (λ k. 3 + k) B_same
    start_same (suc j) h none =
        let before : Passed j = λ i g. none i (omega arith) in
        let e : table_start front j ≡ table_start input j = start_same j (omega arith) before in
        ap₂ (λ a b. a + b) e (length_same j e (omega (arith, near j before)))

    -- the first table that is refused is the same, and so is what it is refused for
    refused_agrees : (k : ℕ) → k ≤ 16 → first (table_refused input) k ≡ first (table_refused front) k
    refused_agrees k h =
        first_agree (table_refused input) (table_refused front) k
        (λ j g none. sym (refused_same j (start_same j (omega arith) none) (omega (arith, near j none))))

    module _ (most : input_sections input ≤ 16) where
      first_refused_same : first_refused front ≡ first_refused input
      unfolding first_refused
      first_refused_same = ap (first (table_refused front)) K_same ∙ sym (refused_agrees (input_sections input) most)

      missed : (i : ℕ) → i < first_refused input → table_refused input i ≡ false
      unfolding first_refused
      missed i h = is_false (table_refused input i) ((first_ok (table_refused input) (input_sections input)).miss i h)

      few_before : first_refused input ≤ 16
      unfolding first_refused
      few_before = omega (arith, (first_ok (table_refused input) (input_sections input)).most)

      behind_same : behind front ≡ behind input
      behind_same =
          ap₂ (λ r k. cond (ltb r k) (table_outcome (table_file (table_at front r)))
          (cond (ltb (table_start front k) (length front)) (bad_section k) (outcome 0 []))) first_refused_same K_same
          ∙ go (ltb (first_refused input) (input_sections input)) refl
        where
          left : ltb (first_refused input) (input_sections input) ≡ false
              → cond (ltb (table_start front (input_sections input)) (length front)) (bad_section (input_sections input)) (outcome 0 [])
              ≡ cond (ltb (table_start input (input_sections input)) (length input)) (bad_section (input_sections input)) (outcome 0 [])
          left e =
              let all = ltb-false (first_refused input) (input_sections input) e in
              let none : Passed (input_sections input) = λ i g. missed i (omega arith) in
              let start = start_same (input_sections input) most none in
              let end : table_start input (input_sections input) ≤ 65875 = omega (arith, near (input_sections input) none) in
              ap (λ b. cond b (bad_section (input_sections input)) (outcome 0 []))
              (lt-ltb (table_start front (input_sections input)) (length front) (omega (arith, start, front_length))
              ∙ sym (lt-ltb (table_start input (input_sections input)) (length input) (omega arith)))

          go : (b : Bool) → ltb (first_refused input) (input_sections input) ≡ b
              → cond b (table_outcome (table_file (table_at front (first_refused input))))
              (cond (ltb (table_start front (input_sections input)) (length front)) (bad_section (input_sections input)) (outcome 0 []))
              ≡ cond b (table_outcome (table_file (table_at input (first_refused input))))
              (cond (ltb (table_start input (input_sections input)) (length input)) (bad_section (input_sections input)) (outcome 0 []))
          go true e =
              ap (λ f. table_outcome (table_file f))
              (table_same (first_refused input) (start_same (first_refused input) few_before missed)
              (omega (arith, near (first_refused input) missed, ltb-true (first_refused input) (input_sections input) e)))
          go false e = left e

  -- ---- all of it

  counted_same : input_sections input ≤ 16 → counted front ≡ counted input
  counted_same most = ap (λ b. cond b (bad_block (input_blocks front)) (indexed front)) lengths_same ∙ go (lengths_bad input) refl
    where
      go : (b : Bool) → lengths_bad input ≡ b
          → cond b (bad_block (input_blocks front)) (indexed front) ≡ cond b (bad_block (input_blocks input)) (indexed input)
      go true e = ap bad_block B_same
      go false e =
          ap₂ (λ f b. cond (ltb f b) (bad_block f) (behind front)) (first_index_same (blocks_few input e)) B_same
          ∙ ap (cond (ltb (first_index input) (input_blocks input)) (bad_block (first_index input))) (behind_same (blocks_few input e) most)

  pub outcome_same : input_outcome front ≡ input_outcome input
  unfolding input_outcome
  outcome_same =
      ap (λ k. cond (not (within 1 most_sections k)) (bad_section k) (counted front)) K_same
      ∙ go (within 1 most_sections (input_sections input)) refl
    where
      go : (w : Bool) → within 1 most_sections (input_sections input) ≡ w
          → cond (not w) (bad_section (input_sections input)) (counted front)
          ≡ cond (not w) (bad_section (input_sections input)) (counted input)
      go false e = refl
      go true e = counted_same (omega (arith, within_to 1 most_sections (input_sections input) refl (ap not e)))
