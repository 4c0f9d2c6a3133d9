-- Rows of numbers, one for each state: the row behind the last block, and a row lent as a part of a longer list and put back in its place.
use mathlib.Core.Path.{◌≡◌, sym, ap, subst, ◌∙◌}
use mathlib.Core.Bool.{cond}
use mathlib.Core.Logic.{⊎_elim}
use mathlib.Core.List.{List, ◌++◌}
use Prim.Native.Nat.{ℕ, ◌+◌, ◌-◌, ◌*◌, ◌≤◌, ◌<◌}
use native.Mathlib.Decide.{ℕ_discrete}
use native.Mathlib.Omega.{arith}
use lib.ListN.{length, get_or, take, drop, set, length-set, length-append, length-take, length-drop, replicate}
use lib.ListN.{length-replicate, get_or-replicate, get_or-append}
use lib.Seq.{get_or-set_same, get_or-set_other, get_or-take, get_or-drop, get_or-append-add}
use borrow.Author.Tests.{eq-eqb, ne_eqb}
use Rattle.trellis.specs.Bounds.{most_states, costs_a_block}
use Rattle.paths.specs.Chain.{unreached, ends_in}
use Rattle.paths.specs.Inner.Chains.{at_end}
use Rattle.passes.specs.Inner.Chains.{RowWritten}
use Rattle.cost_table.specs.Inner.Filled.{EndRow}

-- ---- nothing to pay in the end state

pub ends_put : {end : ℕ} → end < most_states → EndRow end (set (replicate most_states unreached) end 0)
ends_put {end} h = record { long = simp length-set (length-replicate {A = ℕ} most_states unreached); at = λ s k. go s k (ℕ_discrete s end) }
  where
    go : (s : ℕ) → s < most_states → Dec (s ≡ end) → get_or (set (replicate most_states unreached) end 0) s 0 ≡ at_end unreached (ends_in end) s
    go s k (yes e) =
        subst (λ x. get_or (set (replicate most_states unreached) end 0) x 0 ≡ 0) (sym e)
        (get_or-set_same (replicate most_states unreached) end 0 0 (omega (arith, length-replicate {A = ℕ} most_states unreached)))
        ∙ sym (ap (λ b. cond b 0 unreached) (eq-eqb s end e))
    go s k (no e) =
        get_or-set_other (replicate most_states unreached) end s 0 0 e ∙ get_or-replicate {A = ℕ} most_states s unreached 0 k
        ∙ sym (ap (λ b. cond b 0 unreached) (ne_eqb s end e))

-- ---- the row of the block before

pub one_below : {b blocks : ℕ} → b ≤ blocks → 0 < b → b - 1 < blocks
one_below h k = omega arith

pub row_inside : {b blocks long new : ℕ} → b ≤ blocks → 0 < b → new ≡ long → costs_a_block * blocks ≤ long
    → costs_a_block * (b - 1) + costs_a_block ≤ new
row_inside h k e l = omega arith

-- ---- a row put back in its place

row_in : {first : ℕ} {row old : List ℕ} → length row ≡ costs_a_block → first + costs_a_block ≤ length old
    → RowWritten first row old (take first old ++ (row ++ drop costs_a_block (drop first old)))
row_in {first} {row} {old} l h = record { long = long; at = at; kept = λ i. ⊎_elim (before i) (after i) }
  where
    front : length (take first old) ≡ first
    front = simp length-take (omega arith)

    new : List ℕ
    new = take first old ++ (row ++ drop costs_a_block (drop first old))

    long : length new ≡ length old
    long = simp (length-append, length-take, length-drop) (omega (arith, l))

    at : (s : ℕ) → s < costs_a_block → get_or new (first + s) 0 ≡ get_or row s 0
    at s k =
        ap (λ n. get_or new (n + s) 0) (sym front) ∙ get_or-append-add (take first old) (row ++ drop costs_a_block (drop first old)) s 0
        ∙ get_or-append row (drop costs_a_block (drop first old)) 0 s (omega (arith, l))

    before : (i : ℕ) → i < first → get_or new i 0 ≡ get_or old i 0
    before i k =
        get_or-append (take first old) (row ++ drop costs_a_block (drop first old)) 0 i (omega (arith, front)) ∙ get_or-take first old i 0 k

    after : (i : ℕ) → first + costs_a_block ≤ i → get_or new i 0 ≡ get_or old i 0
    after i k =
        let j = i - (first + costs_a_block) in
        let e : i ≡ length (take first old) + (length row + j) = omega (arith, front, l) in
        let z : first + (costs_a_block + j) ≡ i = omega arith in
        ap (λ n. get_or new n 0) e
        ∙ get_or-append-add (take first old) (row ++ drop costs_a_block (drop first old)) (length row + j) 0
        ∙ get_or-append-add row (drop costs_a_block (drop first old)) j 0
        ∙ get_or-drop costs_a_block (drop first old) j 0 ∙ get_or-drop first old (costs_a_block + j) 0 ∙ ap (λ n. get_or old n 0) z

-- as the code has it
pub row_back : {first : ℕ} {row old : List ℕ} → length row ≡ costs_a_block → first + costs_a_block ≤ length old
    → RowWritten first row old (take first old ++ (row ++ drop (first + costs_a_block - first) (drop first old)))
row_back {first} {row} {old} l h =
    subst (λ k. RowWritten first row old (take first old ++ (row ++ drop k (drop first old)))) (sym (same first)) (row_in l h)
  where
    same : (n : ℕ) → n + costs_a_block - n ≡ costs_a_block
    same n = omega arith
