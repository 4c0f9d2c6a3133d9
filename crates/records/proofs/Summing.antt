-- Sums over lists of records: over a list behind another they add up, so record by record they grow to the sums over the whole list, below
-- 2^64 all the way, since there are at most 256 records with numbers below 2^32.
use mathlib.Core.Path.{◌≡◌, refl, sym, ap, ◌∙◌}
use mathlib.Core.Bool.{Bool, cond}
use mathlib.Core.List.{List, [], ◌∷◌, ◌++◌}
use Prim.Native.Nat.{ℕ, ◌+◌, ◌*◌, ◌≤◌, ◌<◌, ◌^◌, zero-le}
use native.Mathlib.Nat.{zero-add, add-zero, add_assoc}
use native.Mathlib.Numerals.{add-one}
use native.Mathlib.Omega.{arith}
use lib.Seq.{take-suc, take_all}
use lib.ListN.{length, get_or, take}
use lib.Dec.{ltb}
use borrow.Author.Tests.{lt-ltb, le-ltb}
use Rattle.trellis.specs.Bounds.{most_blocks}
use Rattle.trellis.specs.Outcome.{outcome, bad_block}
use Rattle.records.specs.Records.{sum_over, additions_sum, selections_sum, counted_outcome, counting}
use Rattle.records.specs.Inner.Blank.{blank}
use Rattle.records.specs.declared.BlockRecord.{BlockRecord}
use Rattle.records.specs.declared.Sums.{Sums}
use Rattle.std.specs.Prelude.{Ok, Err}

sum_append : (cost : BlockRecord → ℕ) (xs ys : List BlockRecord) → sum_over cost (xs ++ ys) ≡ sum_over cost xs + sum_over cost ys
unfolding sum_over
sum_append cost [] ys = sym (zero-add (sum_over cost ys))
sum_append cost (x ∷ xs) ys =
    ap (λ (n : ℕ). cost x + n) (sum_append cost xs ys) ∙ sym (add_assoc (cost x) (sum_over cost xs) (sum_over cost ys))

-- one record more
sum_next : (cost : BlockRecord → ℕ) (xs : List BlockRecord) (i : ℕ) → i < length xs
    → sum_over cost (take (i + 1) xs) ≡ sum_over cost (take i xs) + cost (get_or xs i blank)
unfolding sum_over
sum_next cost xs i h =
    ap (λ (n : ℕ). sum_over cost (take n xs)) (add-one i) ∙ ap (sum_over cost) (take-suc xs i blank h)
    ∙ sum_append cost (take i xs) (get_or xs i blank ∷ [])
    ∙ ap (λ (n : ℕ). sum_over cost (take i xs) + n) (add-zero (cost (get_or xs i blank)))

-- both sums over a list
abbrev pub SumsOf : List BlockRecord → Sums → Type 0
SumsOf records sums = (sums.additions ≡ additions_sum records) × (sums.selections ≡ selections_sum records)

-- the sums over the first i records, with what bounds them
pub record Summed (records : List BlockRecord) (i : ℕ) (sums : Sums) : Type 0 where
  pub within : i ≤ length records
  pub are : SumsOf (take i records) sums
  pub additions_few : sums.additions ≤ i * 2 ^ 32
  pub selections_few : sums.selections ≤ i * 2 ^ 32

-- a record's costs as the machine holds them
pub record Held (block : BlockRecord) : Type 0 where
  pub additions_fit : block.additions < 2 ^ 32
  pub selections_fit : block.selections < 2 ^ 32

-- r is the sums with a record's costs added
abbrev pub Added : Sums → BlockRecord → Sums → Type 0
Added sums block r = (r.additions ≡ sums.additions + block.additions) × (r.selections ≡ sums.selections + block.selections)

pub summed_none : (records : List BlockRecord) → Summed records 0 (record { additions = 0; selections = 0 })
unfolding sum_over
summed_none records = record { within = zero-le; are = (refl, refl); additions_few = zero-le; selections_few = zero-le }

pub summed_next : {records : List BlockRecord} {i : ℕ} {sums r : Sums} {block : BlockRecord} → Summed records i sums → i < length records
    → block ≡ get_or records i blank → Held block → Added sums block r → Summed records (i + 1) r
summed_next {records} {i} {sums} {r} {block} s l e h a =
    let a₀ : r.additions ≡ sums.additions + block.additions = a.0 in
    let a₁ : r.selections ≡ sums.selections + block.selections = a.1 in
    let s₀ : sums.additions ≤ i * 2 ^ 32 = s.additions_few in
    let s₁ : sums.selections ≤ i * 2 ^ 32 = s.selections_few in
    let h₀ : block.additions < 2 ^ 32 = h.additions_fit in
    let h₁ : block.selections < 2 ^ 32 = h.selections_fit in
    record {
      within = omega arith;
      are = (
        a₀ ∙ (λ k. s.are.0 k + (e k).additions) ∙ sym (sum_next (λ b. b.additions) records i l),
        a₁ ∙ (λ k. s.are.1 k + (e k).selections) ∙ sym (sum_next (λ b. b.selections) records i l),
      );
      additions_few = omega arith;
      selections_few = omega arith;
    }

-- so adding a record stays below 2^64, as long as the list is as short as a frame's blocks are few
pub summed_fits : {records : List BlockRecord} {i : ℕ} {sums : Sums} {block : BlockRecord} → Summed records i sums
    → length records ≤ most_blocks → i < length records → Held block
    → (sums.additions + block.additions < 2 ^ 64) × (sums.selections + block.selections < 2 ^ 64)
summed_fits {records} {i} {sums} {block} s few l h =
    let s₀ : sums.additions ≤ i * 2 ^ 32 = s.additions_few in
    let s₁ : sums.selections ≤ i * 2 ^ 32 = s.selections_few in
    let h₀ : block.additions < 2 ^ 32 = h.additions_fit in
    let h₁ : block.selections < 2 ^ 32 = h.selections_fit in
    (omega arith, omega arith)

pub summed_all : {records : List BlockRecord} {i : ℕ} {sums : Sums} → Summed records i sums → length records ≤ i → SumsOf records sums
summed_all {records} {i} {sums} s over =
    let e = take_all i records over in
    (s.are.0 ∙ ap additions_sum e, s.are.1 ∙ ap selections_sum e)

-- what is counted where there are few enough records, and where there are too many
counting_by : (records : List BlockRecord) {b : Bool} → ltb most_blocks (length records) ≡ b
    → cond b (bad_block (length records)) (outcome 0 (additions_sum records ∷ selections_sum records ∷ [])) ≡ counting records
unfolding counting
counting_by records e =
    sym (ap (λ (b : Bool). cond b (bad_block (length records)) (outcome 0 (additions_sum records ∷ selections_sum records ∷ []))) e)

pub counted_few : (records : List BlockRecord) {sums : Sums} → length records ≤ most_blocks → SumsOf records sums
    → counted_outcome (Ok sums) ≡ counting records
counted_few records few are =
    (λ k. outcome 0 (are.0 k ∷ are.1 k ∷ [])) ∙ counting_by records (le-ltb most_blocks (length records) few)

pub counted_many : (records : List BlockRecord) → most_blocks < length records
    → counted_outcome (Err (record { count = length records })) ≡ counting records
counted_many records many = counting_by records (lt-ltb most_blocks (length records) many)
