-- The parts of the section written one behind another: each has room behind those before it, and all together they are the section's
-- numbers. The places add up to the section's length, which the buffer has room for.
use mathlib.Core.Path.{◌≡◌, ap, subst, ◌∙◌}
use mathlib.Core.List.{List, ◌++◌}
use Prim.Native.Nat.{ℕ, ◌+◌, ◌*◌, ◌^◌, ◌≤◌}
use native.Mathlib.Omega.{arith}
use lib.ListN.{length, get_or}
use Rattle.trellis.specs.Lists.{over}
use Rattle.trellis.specs.Layout.{joined_up}
use Rattle.trellis.specs.Inner.Write.{Wrote}
use Rattle.trellis.proofs.Lists.{length_run}
use Rattle.trellis.proofs.Write.{wrote_then, wrote_length, wrote_front}
use Rattle.assemble.specs.Inner.Numbers.{first_numbers, size_numbers, SizesAsked}
use Rattle.assemble.proofs.SectionParts.{regroup}
use Rattle.row_pieces.specs.Inner.Pieces.{edges_to, step_pairs, step_symbols, PiecesAsked}
use Rattle.row_section.specs.Inner.Parts.{numbers_by, PartsAsked}

module _ {s n : ℕ} {dims counts steps roots goals edges b0 : List ℕ}
    (K : PartsAsked s n dims counts steps roots goals edges b0) where
  pub sizes_asked : SizesAsked n counts steps b0
  sizes_asked = record {
    steps = K.symbols;
    vertex_places = omega (arith, K.symbols, K.count_places);
    edge_places = omega (arith, K.symbols, K.step_places);
    room = omega (arith, K.room);
  }

  module _ {states : ℕ} (power : states ≡ 2 ^ s) {b1 : List ℕ} (H : Wrote b0 0 (size_numbers 2 n states counts steps) b1 (4 + 2 * n)) where
    len1 : length b1 ≡ length b0
    len1 = wrote_length H

    -- x is how many roots there are, y how many goals
    module _ {x : ℕ} (root_count : x ≡ get_or counts 0 0) {b2 : List ℕ} {a2 : ℕ} (A : Wrote b1 (4 + 2 * n) (first_numbers roots x) b2 a2) where
      len2 : length b2 ≡ length b0
      len2 = wrote_length A ∙ len1

      at2 : a2 ≡ 4 + 2 * n + get_or counts 0 0
      at2 = A.end_is ∙ ap (λ k. 4 + 2 * n + k) (length_run (λ k. get_or roots k 0) 0 x ∙ root_count)

      module _ {y : ℕ} (goal_count : y ≡ get_or counts n 0) where
        pub goals_asked : (y ≤ length goals) × (a2 + y ≤ length b2)
        goals_asked = (omega (arith, K.few_goals, K.goal_places), omega (arith, len2, at2, K.room))

        module _ {b3 : List ℕ} {a3 : ℕ} (B : Wrote b2 a2 (first_numbers goals y) b3 a3) where
          len3 : length b3 ≡ length b0
          len3 = wrote_length B ∙ len2

          at3 : a3 ≡ a2 + get_or counts n 0
          at3 = B.end_is ∙ ap (λ k. a2 + k) (length_run (λ k. get_or goals k 0) 0 y ∙ goal_count)

          pieces : (size at : ℕ) (b : List ℕ) → at + size * edges_to steps n ≤ length b → PiecesAsked size edges steps n dims b at
          pieces size at b room = record {
            steps = K.symbols;
            inside = K.inside;
            places = K.step_places;
            dim_places = K.dim_places;
            short = K.short;
            room = room;
          }

          pub pairs_asked : PiecesAsked 2 edges steps n dims b3 a3
          pairs_asked = pieces 2 a3 b3 (omega (arith, len3, at3, at2, K.room))

          module _ {b4 : List ℕ} {a4 : ℕ} (C : Wrote b3 a3 (joined_up (step_pairs edges steps dims) n) b4 a4) where
            at4 : a4 ≡ a3 + 2 * edges_to steps n
            at4 = C.end_is ∙ ap (λ k. a3 + k) K.pairs_long

            pub symbols_asked : PiecesAsked 1 edges steps n dims b4 a4
            symbols_asked = pieces 1 a4 b4 (omega (arith, wrote_length C, len3, at4, at3, at2, K.room))

            module _ {b5 : List ℕ} {a5 : ℕ} (D : Wrote b4 a4 (joined_up (step_symbols edges steps dims) n) b5 a5) where
              all : Wrote b0 0 (numbers_by s n dims counts steps roots goals edges) b5 a5
              unfolding numbers_by
              all = subst (λ vs. Wrote b0 0 vs b5 a5)
                  (regroup (size_numbers 2 n states counts steps) (first_numbers roots x) (first_numbers goals y)
                  (joined_up (step_pairs edges steps dims) n) (joined_up (step_symbols edges steps dims) n)
                  ∙ (λ i. size_numbers 2 n (power i) counts steps ++ (first_numbers roots (root_count i)
                  ++ (first_numbers goals (goal_count i)
                  ++ (joined_up (step_pairs edges steps dims) n ++ joined_up (step_symbols edges steps dims) n)))))
                  (wrote_then (wrote_then (wrote_then (wrote_then H A) B) C) D)

              pub all_parts : b5 ≡ over (numbers_by s n dims counts steps roots goals edges) b0
              all_parts = wrote_front all (omega (arith, all.end_is, at4, at3, at2, D.end_is, K.symbols_long, K.room))
