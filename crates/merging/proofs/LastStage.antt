-- The last stage of merging: the sizes are the section's first numbers, the parts fit, the length is the section's, and the buffers end as
-- the definition says.
use mathlib.Core.Path.{◌≡◌, refl, sym, ap, subst, ◌∙◌}
use mathlib.Core.Bool.{Bool, true, false, cond}
use mathlib.Core.List.{List, [], ◌∷◌, ◌++◌}
use Prim.Native.Nat.{ℕ, zero, suc, ◌+◌, ◌*◌, ◌<◌, ◌≤◌}
use native.Mathlib.Omega.{arith}
use native.Mathlib.Nat.{mul-le-mul}
use lib.ListN.{length, get_or, length-append, replicate, length-replicate}
use lib.Dec.{leb}
use borrow.Author.Tests.{lt-ltb, le-ltb, le-leb}
use Rattle.answers.specs.declared.merge.MergeRefusal.{MergeRefusal}
use Rattle.trellis.specs.Bounds.{most_words, most_symbols}
use Rattle.trellis.specs.Word.{Word, Rectangular}
use Rattle.trellis.specs.Layout.{joined_up, section_of}
use Rattle.trellis.specs.Inner.Write.{Wrote}
use Rattle.trellis.proofs.Write.{wrote_length, wrote_front}
use Rattle.trellis.specs.Lists.{over}
use Rattle.trellis.specs.Outcome.{Outcome, success, short_section}
use Rattle.trellis.specs.Own.{Edge}
use Rattle.answers.specs.Answers.{merged_outcome}
use Rattle.answers.specs.declared.merge.MergeRefusal.TheVariants.{ShortSection}
use Rattle.std.specs.Prelude.{Ok, Err, Result}
use Rattle.depths.specs.Inner.Words.{words, Held}
use Rattle.depths.proofs.Words.{held_length}
use Rattle.takers.specs.Inner.Pieces.{SmallMap, map_edge, step_takers, AllTaken, Taken}
use Rattle.takers.specs.Inner.Takers.{highest, leads_higher, takers}
use Rattle.layout.proofs.AllPieces.{taken_all, joined_rise}
use Rattle.layout.proofs.Marks.{bits_of, all_marks}
use Rattle.outer_depths.specs.Inner.Outer.{OuterAsked, OuterPut}
use Rattle.assemble.specs.Inner.Numbers.{size_numbers, SizesAsked, length_by, LengthAsked, numbers_of, Parts}
use Rattle.assemble.proofs.Whole.{complete, small, sizes_are_lem, numbers_are, section_length}
use Rattle.merging.specs.Merging.{Merging, left, map_of, written, Ends}
use Rattle.merging.specs.Inner.Stages.{Inside}
use Rattle.merging.specs.Inner.Sizes.{any_sizes, section_sizes, EndsSized}
use Rattle.merging.proofs.MapRows.{map_is_lem}

-- a list of first words is not empty where there are words
takers_some : (f : ℕ → Edge) (m : ℕ) → 0 < m → 0 < length (takers f m)
unfolding takers leads_higher highest
takers_some f zero h = absurd (omega arith)
takers_some f (suc zero) h = first_some (leb 0 (f 0).to) (le-leb 0 (f 0).to (omega arith))
  where
    first_some : (b : Bool) → b ≡ true → 0 < length {A = ℕ} (cond b ([] ++ (0 ∷ [])) [])
    first_some true e = omega arith
    first_some false e = let z : ◌≡◌ {A = ℕ} 0 1 = cc in absurd (omega arith)
takers_some f (suc (suc m)) h = go (leads_higher f (suc m)) (takers_some f (suc m) (omega arith))
  where
    go : (b : Bool) → 0 < length (takers f (suc m)) → 0 < length (cond b (takers f (suc m) ++ (suc m ∷ [])) (takers f (suc m)))
    go true r = omega (arith, length-append (takers f (suc m)) (suc m ∷ []))
    go false r = r

-- ---- the two ways that this stage ends

module _ (q n states : ℕ) (table : List Word) (map section : List ℕ) where
  pub written_short : length section < length (section_of q n states table)
      → written q n states table map section ≡ left (short_section (length (section_of q n states table))) (over (map_of n table) map) section
  unfolding written
  written_short h = simp (lt-ltb (length section) (length (section_of q n states table)) h)

  pub written_done : length (section_of q n states table) ≤ length section
      → written q n states table map section
      ≡ left (success (length (section_of q n states table))) (over (map_of n table) map) (over (section_of q n states table) section)
  unfolding written
  written_done h = simp (le-ltb (length section) (length (section_of q n states table)) h)

pub ends_by : {m : Merging} {r : Result ℕ MergeRefusal} {o : Outcome} {map section map' section' : List ℕ} → m ≡ left o map section → merged_outcome r ≡ o
    → map' ≡ map → section' ≡ section
    → Ends m r map' section'
ends_by {m} {r} {o} {map} {section} {map'} {section'} e p q s = record {
  answer_is = p ∙ sym (ap (λ (x : Merging). x.answer) e);
  map_is = q ∙ sym (ap (λ (x : Merging). x.map) e);
  section_is = s ∙ sym (ap (λ (x : Merging). x.section) e);
}

pub outer_asked : {n : ℕ} {roots labels goals map inner : List ℕ} → Inside n roots labels goals map inner
    → OuterAsked roots goals n map inner
outer_asked I = record {
  few_roots = I.asked.few_roots;
  few_goals = I.asked.few_goals;
  aimed = I.asked.held.aimed;
  some = I.asked.held.table.some;
  short = I.asked.held.short;
  room = I.asked.room;
  nine = I.nine;
}

module _ {n : ℕ} {roots labels goals map0 map1 inner root_marks goal_marks counts : List ℕ} (I : Inside n roots labels goals map0 inner)
    (P : OuterPut roots goals n map0 map1 inner root_marks goal_marks counts) where
  abbrev table : List Word
  table = words roots labels goals

  H : Held n roots labels goals
  H = I.asked.held

  size : length table ≡ length roots
  size = held_length H

  rectangular : Rectangular n table
  rectangular t p q = I.sound.rectangular t p q

  pub map_small : SmallMap map1 labels n
  map_small = small H I.sound P (omega (arith, I.asked.room, P.placed.len))

  module _ {firsts edge_counts : List ℕ} {total : ℕ} (A : AllTaken map1 labels n (replicate 8192 0) firsts total edge_counts) where
    room8 : n * length labels ≤ 8192
    room8 = let p : n * length labels ≤ most_symbols * most_words = mul-le-mul H.short map_small.words in omega arith

    pub length_asked : LengthAsked n counts total
    length_asked = record { steps = H.short; vertex_places = omega (arith, H.short, P.nine); few_edges = omega (arith, A.few, room8) }

    K : Taken map1 labels n firsts edge_counts
    K = taken_all A (omega (arith, room8, length-replicate {A = ℕ} 8192 0))

    total_is : total ≡ length (joined_up (step_takers map1 labels n) n)
    total_is = omega (arith, A.noted.end_is)

    some_edges : 0 < length (joined_up (step_takers map1 labels n) n)
    unfolding step_takers
    some_edges =
        omega (
          arith,
          joined_rise (step_takers map1 labels n) 0 n H.table.some,
          takers_some (map_edge map1 labels n 0) (length labels) (omega (arith, I.asked.some, H.labelled)),
        )

    map_whole : map1 ≡ over (map_of n table) map0
    map_whole = map_is_lem n table map0 map1 (omega (arith, size, I.asked.some)) (rw size I.asked.room) P.placed.len
        (λ t i a b. ap (λ w. get_or map1 (t * w + i) 0) size ∙ complete H I.sound P t i a (omega (arith, size)))
        (λ j h. P.placed.behind j (rw size at h))

    module _ {sizes0 : List ℕ} (many : any_sizes ≤ length sizes0) where
      pub sizes_asked : SizesAsked n counts edge_counts sizes0
      sizes_asked = record {
        steps = H.short;
        vertex_places = omega (arith, H.short, P.nine);
        edge_places = omega (arith, H.short, A.places);
        room = omega (arith, H.short);
      }

      module _ (q states : ℕ) {sizes1 : List ℕ} (W : Wrote sizes0 0 (size_numbers q n states counts edge_counts) sizes1 (4 + 2 * n)) where
        sizes_left : sizes1 ≡ over (section_sizes q n states table) sizes0
        unfolding section_sizes
        sizes_left = subst (λ vs. sizes1 ≡ over vs sizes0) (sizes_are_lem H I.sound P rectangular q states K W)
            (wrote_front W (omega (arith, W.end_is, sizes_asked.room)))

        module _ {needed : ℕ} (N : needed ≡ length_by n counts total) where
          needed_is : needed ≡ length (section_of q n states table)
          needed_is = N ∙ sym (section_length H I.sound P rectangular q states total total_is)

          module _ (section : List ℕ) where
            -- 7: the map is finished, the section is as it was
            pub ends_short : length section < needed
                → EndsSized (written q n states table map0 section) (over (section_sizes q n states table) sizes0)
                (Err (ShortSection needed)) map1 section sizes1
            ends_short h = record {
              ends = ends_by (written_short q n states table map0 section (omega (arith, needed_is))) (ap short_section needed_is)
                  map_whole refl;
              sizes_are = sizes_left;
            }

            pub parts : needed ≤ length section → Parts n sizes1 edge_counts root_marks goal_marks map1 labels firsts section
            parts h = record {
              small = map_small;
              taken = K;
              sized = omega (arith, wrote_length W, sizes_asked.room);
              root_places = P.roots_marked.places;
              goal_places = P.goals_marked.places;
              root_bits = bits_of P.roots_marked;
              goal_bits = bits_of P.goals_marked;
              some = some_edges;
              room = omega (
                arith,
                N,
                all_marks I.asked.few_roots P.roots_marked,
                all_marks I.asked.few_goals P.goals_marked,
                P.root_count,
                P.goal_count,
                total_is,
              );
            }

            -- success: the section's numbers stand in front
            pub ends_done : {new : List ℕ} → needed ≤ length section
                → new ≡ over (numbers_of n sizes1 root_marks goal_marks map1 labels) section
                → EndsSized (written q n states table map0 section) (over (section_sizes q n states table) sizes0) (Ok needed) map1 new
                sizes1
            ends_done {new} h Z =
                let same = numbers_are H I.sound P rectangular q states K W sizes_asked.room I.asked.few_roots
                I.asked.few_goals in
                record {
                  ends = ends_by (written_done q n states table map0 section (omega (arith, needed_is))) (ap success needed_is) map_whole
                      (Z ∙ ap (λ vs. over vs section) same);
                  sizes_are = sizes_left;
                }
