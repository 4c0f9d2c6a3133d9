-- The parts of a section written one behind another: each has room behind those before it, and all together they are the section's numbers.
-- The places add up to the section's length, which the buffer has room for.
use mathlib.Core.Path.{◌≡◌, refl, sym, ap, ap₂, subst, ◌∙◌}
use mathlib.Core.Bool.{Bool, true, false, cond}
use mathlib.Core.List.{List, [], ◌∷◌, ◌++◌, append_assoc}
use Prim.Native.Nat.{ℕ, zero, suc, ◌+◌, ◌*◌, ◌<◌, ◌≤◌}
use native.Mathlib.Omega.{arith}
use native.Mathlib.Nat.{mul-add, mul-zero}
use native.Mathlib.Numerals.{add-one}
use lib.ListN.{length, get_or, length-append}
use lib.Dec.{eqb}
use lib.Arith.{lt_of_le-ne}
use borrow.Author.Tests.{eqb-true, eqb-false}
use Rattle.trellis.specs.Bounds.{most_states}
use Rattle.trellis.specs.Lists.{over}
use Rattle.trellis.specs.Layout.{joined_up}
use Rattle.trellis.specs.Inner.Write.{Wrote}
use Rattle.trellis.proofs.Lists.{length_run}
use Rattle.trellis.proofs.Write.{wrote_then, wrote_length, wrote_front}
use Rattle.takers.specs.Inner.Pieces.{step_takers, step_pairs, step_symbols}
use Rattle.layout.specs.Inner.States.{marks_below, marked_below, Bits}
use Rattle.layout.proofs.AllPieces.{pairs_size, symbols_size}
use Rattle.assemble.specs.Inner.Numbers.{first_numbers, size_numbers, SizesAsked, numbers_of, Parts}

pub regroup : (a b c d e : List ℕ) → (((a ++ b) ++ c) ++ d) ++ e ≡ a ++ (b ++ (c ++ (d ++ e)))
regroup a b c d e = simp append_assoc

-- ---- lengths of the parts

marked_length : (marks : List ℕ) → Bits marks → (s : ℕ) → s ≤ most_states → length (marked_below marks s) ≡ marks_below marks s
unfolding marked_below marks_below
marked_length marks B zero h = refl
marked_length marks B (suc s) h = go (eqb (get_or marks s 0) 1) refl (marked_length marks B s (omega arith))
  where
    none : (get_or marks s 0 ≡ 1 → ⊥) → get_or marks s 0 ≡ 0
    none d = omega (arith, lt_of_le-ne (B.at_most s h) d)

    go : (b : Bool) → eqb (get_or marks s 0) 1 ≡ b → length (marked_below marks s) ≡ marks_below marks s
        → length (marked_below marks s ++ cond b (s ∷ []) []) ≡ marks_below marks s + get_or marks s 0
    go true e r = omega (arith, length-append (marked_below marks s) (s ∷ []), eqb-true (get_or marks s 0) 1 e)
    go false e r = omega (arith, length-append (marked_below marks s) [], none (eqb-false (get_or marks s 0) 1 e))

joined_size : (f g : ℕ → List ℕ) (size t : ℕ) → ((u : ℕ) → length (f u) ≡ size * length (g u))
    → length (joined_up f t) ≡ size * length (joined_up g t)
unfolding joined_up
joined_size f g size zero h = sym (mul-zero size)
joined_size f g size (suc t) h =
    length-append (joined_up f t) (f t)
    ∙ ap₂ (λ x y. x + y) (joined_size f g size t h) (h t)
    ∙ sym (mul-add size (length (joined_up g t)) (length (g t)))
    ∙ ap (λ k. size * k) (sym (length-append (joined_up g t) (g t)))

-- ---- the sizes

module _ {n : ℕ} {counts edge_counts b0 : List ℕ} (S : SizesAsked n counts edge_counts b0) {q states : ℕ} {b1 : List ℕ} {a1 : ℕ}
    (H : Wrote b0 0 (q ∷ n ∷ states ∷ []) b1 a1) where
  module _ {b2 : List ℕ} {a2 : ℕ} (A : Wrote b1 a1 (first_numbers counts (n + 1)) b2 a2) where
    at2 : a2 ≡ 4 + n
    at2 = omega (arith, H.end_is, A.end_is, length_run (λ k. get_or counts k 0) 0 (n + 1))

    pub room_edges : a2 + n ≤ length b2
    room_edges = omega (arith, at2, wrote_length A, wrote_length H, S.room)

    module _ {b3 : List ℕ} {a3 : ℕ} (B : Wrote b2 a2 (first_numbers edge_counts n) b3 a3) where
      at3 : a3 ≡ 4 + 2 * n
      at3 = omega (arith, at2, B.end_is, length_run (λ k. get_or edge_counts k 0) 0 n)

      pub all_sizes : Wrote b0 0 (size_numbers q n states counts edge_counts) b3 (4 + 2 * n)
      unfolding size_numbers
      all_sizes = subst (λ e. Wrote b0 0 (q ∷ n ∷ states ∷ (first_numbers counts (suc n) ++ first_numbers edge_counts n)) b3 e) at3
          (subst (λ k. Wrote b0 0 (q ∷ n ∷ states ∷ (first_numbers counts k ++ first_numbers edge_counts n)) b3 a3) (add-one n)
          (wrote_then (wrote_then H A) B))

-- ---- the parts behind them

module _ {n : ℕ} {sizes edge_counts root_marks goal_marks m labels words b0 : List ℕ}
    (P : Parts n sizes edge_counts root_marks goal_marks m labels words b0) where
  abbrev total : ℕ
  total = length (joined_up (step_takers m labels n) n)

  pairs_long : length (joined_up (step_pairs m labels n) n) ≡ 2 * total
  pairs_long = joined_size (step_pairs m labels n) (step_takers m labels n) 2 n (pairs_size m labels n)

  symbols_long : length (joined_up (step_symbols m labels n) n) ≡ 1 * total
  symbols_long = joined_size (step_symbols m labels n) (step_takers m labels n) 1 n (symbols_size m labels n)

  roots_long : length (marked_below root_marks most_states) ≡ marks_below root_marks most_states
  roots_long = marked_length root_marks P.root_bits most_states (omega arith)

  goals_long : length (marked_below goal_marks most_states) ≡ marks_below goal_marks most_states
  goals_long = marked_length goal_marks P.goal_bits most_states (omega arith)

  module _ {b1 : List ℕ} {a1 : ℕ} (A : Wrote b0 0 (first_numbers sizes (4 + 2 * n)) b1 a1) where
    at1 : a1 ≡ 4 + 2 * n
    at1 = omega (arith, A.end_is, length_run (λ k. get_or sizes k 0) 0 (4 + 2 * n))

    len1 : length b1 ≡ length b0
    len1 = wrote_length A

    pub room_roots : a1 + marks_below root_marks most_states < length b1
    room_roots = omega (arith, at1, len1, P.room, P.some)

    module _ {b2 : List ℕ} {a2 : ℕ} (B : Wrote b1 a1 (marked_below root_marks most_states) b2 a2) where
      at_goals : a2 ≡ 4 + 2 * n + marks_below root_marks most_states
      at_goals = omega (arith, at1, B.end_is, roots_long)

      len2 : length b2 ≡ length b0
      len2 = wrote_length B ∙ len1

      pub room_goals : a2 + marks_below goal_marks most_states < length b2
      room_goals = omega (arith, at_goals, len2, P.room, P.some)

      module _ {b3 : List ℕ} {a3 : ℕ} (C : Wrote b2 a2 (marked_below goal_marks most_states) b3 a3) where
        at_pairs : a3 ≡ 4 + 2 * n + (marks_below root_marks most_states + marks_below goal_marks most_states)
        at_pairs = omega (arith, at_goals, C.end_is, goals_long)

        len3 : length b3 ≡ length b0
        len3 = wrote_length C ∙ len2

        pub room_pairs : a3 + 2 * length (joined_up (step_takers m labels n) n) ≤ length b3
        room_pairs = omega (arith, at_pairs, len3, P.room)

        module _ {b4 : List ℕ} {a4 : ℕ} (D : Wrote b3 a3 (joined_up (step_pairs m labels n) n) b4 a4) where
          pub room_symbols : a4 + 1 * length (joined_up (step_takers m labels n) n) ≤ length b4
          room_symbols = omega (arith, at_pairs, D.end_is, pairs_long, wrote_length D, len3, P.room)

          module _ {b5 : List ℕ} {a5 : ℕ} (E : Wrote b4 a4 (joined_up (step_symbols m labels n) n) b5 a5) where
            all : Wrote b0 0 (numbers_of n sizes root_marks goal_marks m labels) b5 a5
            unfolding numbers_of
            all = subst (λ vs. Wrote b0 0 vs b5 a5)
                (regroup (first_numbers sizes (4 + 2 * n)) (marked_below root_marks most_states) (marked_below goal_marks most_states)
                (joined_up (step_pairs m labels n) n) (joined_up (step_symbols m labels n) n))
                (wrote_then (wrote_then (wrote_then (wrote_then A B) C) D) E)

            pub all_parts : b5 ≡ over (numbers_of n sizes root_marks goal_marks m labels) b0
            all_parts = wrote_front all (omega (arith, all.end_is, at_pairs, D.end_is, pairs_long, E.end_is, symbols_long, P.room))
