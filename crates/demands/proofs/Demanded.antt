-- Merging does what demands 2 and 3 ask of it. Its answer goes by the first witness, which there is exactly if the table is not
-- rectangular. On success the section left is our section's numbers; read by the layout they give our counts, vertices and edges, for which
-- demand 3 is proved, and reading them back gives the file.
use mathlib.Core.Path.{◌≡◌, refl, sym, ap, subst, ◌∙◌}
use mathlib.Core.Logic.{◌↔◌}
use mathlib.Core.List.{List, [], ◌∷◌, ◌++◌}
use Prim.Native.Nat.{ℕ, ◌^◌, ◌≤◌, ◌<◌}
use native.Mathlib.Omega.{arith}
use lib.ListN.{length, take, drop}
use borrow.Author.Tests.{le-ltb}
use Rattle.trellis.specs.Lists.{◌∈◌, each, over}
use Rattle.trellis.specs.Word.{Word, Rectangular}
use Rattle.trellis.specs.Drawn.{PathOf, drawing_of}
use Rattle.trellis.specs.Own.{vertex_count, edge_count}
use Rattle.trellis.proofs.Ours.{ours}
use Rattle.trellis.specs.Layout.{q_of, n_of, states_of, vertex_count_of, edge_count_of, section_of}
use Rattle.trellis.specs.Witness.{Witness, found, nothing, witness}
use Rattle.trellis.specs.Outcome.{Outcome, success, not_rectangular}
use Rattle.trellis.proofs.Lists.{of_each}
use Rattle.trellis.proofs.Witness.{witness_first, witness_none}
use Rattle.trellis.proofs.Least.{same_counts}
use Rattle.trellis.proofs.Demand.{drawn, demand_3, own_words}
use Rattle.trellis.proofs.OwnLaid.{own_vertex_count, own_edge_count, own_root, own_goal, own_step_edges}
use Rattle.table.specs.Inner.Good.{GoodFile}
use Rattle.table.proofs.Accepted.{accepted_good}
use Rattle.merging.specs.Merging.{Merging, left, map_of, merged, merging}
use Rattle.merging.proofs.Success.{by_witness, by_nothing}
use Rattle.read_back.specs.ReadingBack.{reading_back, left as whole}
use Rattle.read_back.proofs.Again.{read_back_again}
use Rattle.demands.specs.Demands.{Fair, IsAccepted, section_left, Refused, Decided, SameWords, Smallest}
use Rattle.demands.proofs.SameDrawing.{Alike, drawn_same, path_new, path_old}

take_front : (l r : List ℕ) → take (length l) (l ++ r) ≡ l
take_front [] r = refl
take_front (x ∷ l) r = ap (λ m. x ∷ m) (take_front l r)

-- ---- our section, from its numbers

module _ (q n states : ℕ) (table : List Word) where
  sizes_first : (q_of (section_of q n states table) ≡ q) × (n_of (section_of q n states table) ≡ n)
      × (states_of (section_of q n states table) ≡ states)
  unfolding section_of
  sizes_first = (refl, refl, refl)

  alike : Alike n (ours n table) (drawing_of (section_of q n states table))
  unfolding ours drawing_of
  alike = record {
    vertices = λ t h. ap (λ count. each (λ v. v) count) (sym (own_vertex_count q n states table t h));
    edges = λ t h. sym (own_step_edges q n states table t h);
    roots = λ v m. let F = of_each (λ u. u) (vertex_count n table 0) v m in
        sym (own_root q n states table v (subst (λ u. u < vertex_count n table 0) (sym F.is) F.below));
    goals = λ v m. let F = of_each (λ u. u) (vertex_count n table n) v m in
        sym (own_goal q n states table v (subst (λ u. u < vertex_count n table n) (sym F.is) F.below));
  }

module _ {file : List ℕ} {q n states : ℕ} {table : List Word} (G : GoodFile file q n states table) (R : Rectangular n table) where
  our_words : (w : Word) → w.label < 4 ^ n → PathOf n (drawing_of (section_of q n states table)) w ↔ (w ∈ table)
  our_words w h =
      let D = drawn n table G.table R in
      let o = own_words n table G.table R w h in
      (λ p. o.0 (path_old G.n_from (alike q n states table) D p), λ m. path_new G.n_from (alike q n states table) D (o.1 m))

  our_smallest : Smallest n table (section_of q n states table)
  our_smallest = record {
    own = drawn_same G.n_from (alike q n states table) (drawn n table G.table R);
    least = λ E H.
        same_counts n (vertex_count n table) (edge_count n table) (vertex_count_of (section_of q n states table))
        (edge_count_of (section_of q n states table)) E
        (λ t h. sym (own_vertex_count q n states table t h)) (λ t h. sym (own_edge_count q n states table t h))
        ((demand_3 n table G.table R).least E H);
  }

-- ---- the answer

module _ {file : List ℕ} {q n states : ℕ} {table : List Word} {map section : List ℕ} (F : Fair file q n states table map section) where
  succeeded : witness n table ≡ nothing
      → merging file map section
      ≡ left (success (length (section_of q n states table))) (over (map_of n table) map) (over (section_of q n states table) section)
  succeeded = by_nothing file map section F.well_formed F.map_room F.section_room

  by_found : (t i j k : ℕ) → witness n table ≡ found t i j k → (merging file map section).answer ≡ not_rectangular t i j k
  unfolding merged
  by_found t i j k e =
      ap (λ (m : Merging). m.answer)
      (by_witness file map section F.well_formed F.map_room ∙ ap (merged q n states table map section) e)

  accepts : Rectangular n table → IsAccepted (merging file map section)
  accepts R = ap (λ (m : Merging). m.answer.number) (succeeded ((witness_none n table).1 R))

  refuses : (Rectangular n table → ⊥) → Refused n table (merging file map section)
  refuses h = go (witness n table) refl
    where
      go : (w : Witness) → witness n table ≡ w → Refused n table (merging file map section)
      go (found t i j k) e = record { depth = t; i = i; j = j; k = k; answer = by_found t i j k e; first = witness_first n table t i j k e }
      go nothing e = absurd (h ((witness_none n table).0 e))

  only : IsAccepted (merging file map section) → Rectangular n table
  only A = go (witness n table) refl
    where
      go : (w : Witness) → witness n table ≡ w → Rectangular n table
      go (found t i j k) e =
          let z : ◌≡◌ {A = ℕ} 6 0 = ap (λ (o : Outcome). o.number) (sym (by_found t i j k e)) ∙ A in
          absurd (omega (arith, z))
      go nothing e = (witness_none n table).0 e

  pub decided : Decided n table (merging file map section)
  decided = record { accepts = accepts; refuses = refuses; only = only }

  -- ---- the section left

  module _ (A : IsAccepted (merging file map section)) where
    pub is_ours : section_left (merging file map section) ≡ section_of q n states table
    is_ours =
        let e = succeeded ((witness_none n table).1 (only A)) in
        ap section_left e ∙ take_front (section_of q n states table) (drop (length (section_of q n states table)) section)

    G : GoodFile file q n states table
    G = accepted_good file F.well_formed

    reads_back_lem : (buffer : List ℕ) → length file ≤ length buffer
        → reading_back (section_of q n states table) buffer ≡ whole (success (length file)) (over file buffer)
    reads_back_lem buffer h =
        read_back_again file F.bytes F.well_formed (only A) buffer ∙ simp (le-ltb (length buffer) (length file) h)

    pub same_words_lem : SameWords file q n states table (section_left (merging file map section))
    same_words_lem = subst (SameWords file q n states table) (sym is_ours) (record {
      sizes = sizes_first q n states table;
      words = our_words G (only A);
      reads_back = reads_back_lem;
    })

    pub smallest : Smallest n table (section_left (merging file map section))
    smallest = subst (Smallest n table) (sym is_ours) (our_smallest G (only A))
