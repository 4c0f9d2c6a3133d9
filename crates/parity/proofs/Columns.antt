-- The loops over columns. A syndrome: what is summed up so far and the sum of the columns that are left make the whole, and a turn moves
-- one column from the second to the first. A row added: the columns before m are cleared at bit p, those from m on are as they were.
use mathlib.Core.Path.{◌≡◌, refl, sym, ap, ap₂, ◌∙◌}
use mathlib.Core.List.{List, map}
use Prim.Native.Nat.{ℕ, zero, suc, ◌+◌, ◌/◌, ◌%◌, ◌≤◌, ◌<◌}
use native.Mathlib.Omega.{arith}
use native.Mathlib.Numerals.{add-one}
use native.Mathlib.Decide.{ℕ_discrete}
use lib.ListN.{length, get_or, drop, set, length-map, length-set, get_or-map}
use lib.Seq.{drop-cons, drop-length, get_or-set_same, get_or-set_other, ext_get_or}
use lib.Bits.{bit_and, bit_xor, and_mask, xor_zero_r}
use Rattle.rows.specs.Sums.{◌⊕◌, chosen, sum_of}
use Rattle.rows.specs.Inner.Reduced.{bit_at, cleared, add_row}
use Rattle.rows.proofs.Xor.{xor_assoc}
use Rattle.rows.proofs.Sums.{sum_nil, additive_zero}
use Rattle.rows.proofs.Check.{cleared_adds}

-- ---- what is picked

pub picked_none : (b r : ℕ) → b ≡ 0 → 0 ≡ chosen b r
unfolding chosen
picked_none b r e = ap (λ k. chosen k r) (sym e)

pub picked_all : (b r : ℕ) → (b ≡ 0 → ⊥) → r ≡ chosen b r
unfolding chosen
picked_all zero r d = absurd (d refl)
picked_all (suc b) r d = refl

low_bit : (x : ℕ) → bit_and x 1 ≡ x % 2
low_bit x = and_mask x 1

pub column_by : (p z y : ℕ) {b r : ℕ} → b ≡ bit_at p y → r ≡ chosen b z → bit_xor y r ≡ cleared p z y
unfolding cleared
column_by p z y a e = ap (λ k. y ⊕ k) (e ∙ ap (λ k. chosen k z) a)

-- ---- a syndrome

-- the columns before m are summed up, and rest has the bits from m on
pub record Summed (columns : List ℕ) (x m sum rest : ℕ) : Type 0 where
  pub whole : sum_of columns x ≡ sum ⊕ sum_of (drop m columns) rest

pub summed_none : (columns : List ℕ) (x : ℕ) → Summed columns x 0 0 x
summed_none columns x = record { whole = refl }

pub summed_next : {columns : List ℕ} {x m sum rest r : ℕ} → Summed columns x m sum rest → m < length columns
    → r ≡ chosen (bit_and rest 1) (get_or columns m 0) → Summed columns x (m + 1) (bit_xor sum r) (rest / 2)
unfolding sum_of
summed_next {columns} {x} {m} {sum} {rest} {r} S h e = record {
  whole =
      S.whole ∙ ap (λ l. sum ⊕ sum_of l rest) (drop-cons columns m 0 h)
      ∙ sym (xor_assoc sum (chosen (rest % 2) (get_or columns m 0)) (sum_of (drop (suc m) columns) (rest / 2)))
      ∙ ap₂ (λ a k. (sum ⊕ a) ⊕ sum_of (drop k columns) (rest / 2))
      (sym (e ∙ ap (λ k. chosen k (get_or columns m 0)) (low_bit rest)))
      (sym (add-one m));
}

pub summed_all : {columns : List ℕ} {x m sum rest : ℕ} → Summed columns x m sum rest → length columns ≡ 16 → 16 ≤ m → m ≤ 16
    → sum ≡ sum_of columns x
summed_all {columns} {x} {m} {sum} {rest} S l h k =
    let e : m ≡ length columns = omega arith in
    sym (S.whole ∙ ap (λ d. sum ⊕ sum_of d rest) (ap (λ i. drop i columns) e ∙ drop-length columns)
    ∙ ap (λ d. sum ⊕ d) (sum_nil rest) ∙ xor_zero_r sum)

-- ---- a row added

-- f is done on the elements before m
pub record Mapped (f : ℕ → ℕ) (old : List ℕ) (m : ℕ) (new : List ℕ) : Type 0 where
  pub len : length new ≡ length old
  pub done : (i : ℕ) → i < m → get_or new i 0 ≡ f (get_or old i 0)
  pub left : (i : ℕ) → m ≤ i → get_or new i 0 ≡ get_or old i 0

pub mapped_none : (f : ℕ → ℕ) (old : List ℕ) → Mapped f old 0 old
mapped_none f old = record { len = refl; done = λ i h. absurd (omega arith); left = λ i h. refl }

pub mapped_next : {f : ℕ → ℕ} {old : List ℕ} {m : ℕ} {new : List ℕ} {y : ℕ} → Mapped f old m new → m < length old
    → y ≡ f (get_or new m 0) → Mapped f old (m + 1) (set new m y)
mapped_next {f} {old} {m} {new} {y} M h e = record {
  len = length-set new m y ∙ M.len;
  done = λ i k. now i k (ℕ_discrete i m);
  left = λ i k. get_or-set_other new m i y 0 (λ q. omega arith) ∙ M.left i (omega arith);
}
  where
    now : (i : ℕ) → i < m + 1 → Dec (i ≡ m) → get_or (set new m y) i 0 ≡ f (get_or old i 0)
    now i k (yes q) =
        ap (λ j. get_or (set new m y) j 0) q ∙ get_or-set_same new m y 0 (omega (arith, M.len))
        ∙ e ∙ ap f (M.left m (omega arith) ∙ ap (λ j. get_or old j 0) (sym q))
    now i k (no q) = get_or-set_other new m i y 0 q ∙ M.done i (omega arith)

pub mapped_all : (p z : ℕ) {old : List ℕ} {m : ℕ} {new : List ℕ} → Mapped (cleared p z) old m new → length old ≤ m → new ≡ add_row p z old
unfolding add_row
mapped_all p z {old} {m} {new} M h = ext_get_or 0 new (map (cleared p z) old) (M.len ∙ sym (length-map old (cleared p z)))
    (λ i k. M.done i (omega (arith, M.len)) ∙ sym (mapped i))
  where
    mapped : (i : ℕ) → get_or (map (cleared p z) old) i 0 ≡ cleared p z (get_or old i 0)
    mapped i = ap (λ d. get_or (map (cleared p z) old) i d) (sym (additive_zero (cleared_adds p z))) ∙ get_or-map (cleared p z) old i 0
