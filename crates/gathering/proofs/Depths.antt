-- The words found depth by depth, as the code finds them: at each depth the array holds the beginnings up to there, so at depth n it holds
-- the words; where the beginnings of one depth are too many, the words are, since there are no fewer of them.
use mathlib.Core.Path.{◌≡◌, sym, ap, ap₂, ◌∙◌}
use mathlib.Core.List.{List, map, map-map, flat_map}
use Prim.Native.Nat.{ℕ, suc, ◌+◌, ◌-◌, ◌*◌, ◌≤◌, ◌<◌}
use native.Mathlib.Omega.{arith}
use native.Mathlib.Nat.{zero-add}
use native.Mathlib.Numerals.{add-one}
use lib.ListN.{length, get_or, take, length-map}
use Rattle.std.specs.Prelude.{Some, None}
use Rattle.trellis.specs.Bounds.{most_words}
use Rattle.trellis.specs.Lists.{run, each}
use Rattle.trellis.specs.Own.{Edge}
use Rattle.trellis.specs.Layout.{n_of, vertex_count_of, root_state}
use Rattle.trellis.proofs.Lists.{length_run, map_run}
use Rattle.edges.specs.Inner.Edges.{edge_in}
use Rattle.section_file.specs.Inner.View.{Seen}
use Rattle.section_file.specs.declared.View.{View}
use Rattle.section_file.proofs.Seen.{Viewed, viewed, Near, near_of, laid_of}
use Rattle.whole_section.specs.Inner.StepAt.{part_from}
use Rattle.whole_section.proofs.Places.{StepPlaces, places_start, places_next, edges_are}
use Rattle.codes.specs.Inner.Codes.{code, grown_codes}
use Rattle.gathering.specs.Inner.Levels.{begun, level, coded}
use Rattle.gathering.specs.Inner.Growing.{PutBehind, Gathered, FirstLevel, RootCodes}
use Rattle.gathering.proofs.Levels.{levels_rise, level_coded}

-- the beginnings up to depth t stand in the array; the pairs and symbols of the edges that go on from there begin at two places
pub record Depth (s : List ℕ) (codes : List ℕ) (have pairs symbols t : ℕ) : Type 0 where
  pub inside : t ≤ n_of s
  pub room : have ≤ most_words
  pub long : length codes ≡ most_words
  pub filled : take have codes ≡ map coded (level s t)
  pub count : have ≡ length (level s t)
  pub places : StepPlaces s pairs symbols t

module _ {s : List ℕ} {at : View} (S : Seen s at) where
  at_is : Viewed s at
  at_is = viewed S.is

  pub near : Near s at
  near = near_of (laid_of S)

  pub roots_first : at.roots ≤ at.goals
  roots_first = omega (arith, near.roots_to)

  roots_count : at.goals - at.roots ≡ vertex_count_of s 0
  roots_count = omega (arith, near.roots_to)

  root_is : (v : ℕ) → get_or s (at.roots + v) 0 ≡ root_state s v
  unfolding root_state
  root_is v = ap (λ k. get_or s (k + v) 0) at_is.roots_is

  pub roots_level : FirstLevel s at.roots (at.goals - at.roots)
  roots_level = let N = near in let c = roots_count in record {
    there = omega arith;
    few = omega (arith, S.sound.vertices_to 0 (omega arith));
    small = λ v h. omega (arith, root_is v, S.sound.roots_below v (omega arith), S.sound.states_to);
  }

  pub depth_start : {codes : List ℕ} → RootCodes s at.roots (at.goals - at.roots) codes
      → Depth s codes (at.goals - at.roots) at.pairs at.symbols 0
  unfolding level root_state
  depth_start {codes} r = record {
    inside = omega arith;
    room = roots_level.few;
    long = r.long;
    filled =
        let a : each (λ v. code (get_or s (at.roots + v) 0) v 0) (at.goals - at.roots)
        ≡ each (λ v. code (root_state s v) v 0) (vertex_count_of s 0) =
        ap₂ (λ k m. each (λ v. code (get_or s (k + v) 0) v 0) m) at_is.roots_is roots_count in
        r.filled ∙ a ∙ sym (map-map coded (λ v. begun (root_state s v) 0 v) (each (λ v. v) (vertex_count_of s 0))
        ∙ map_run (λ v. code (root_state s v) v 0) (λ v. v) 0 (vertex_count_of s 0));
    count = roots_count ∙ sym
        (length-map (each (λ v. v) (vertex_count_of s 0)) (λ v. begun (root_state s v) 0 v) ∙ length_run (λ v. v) 0 (vertex_count_of s 0));
    places = places_start S;
  }

  module _ {codes : List ℕ} {have pairs symbols t : ℕ} (d : Depth s codes have pairs symbols t) (h : t < at.n) where
    deep : t < n_of s
    deep = omega (arith, at_is.n_is)

    module _ {y count : ℕ} (y_is : y ≡ get_or s (4 + at.n + t) 0) (count_is : (count ≡ y) × (count < 65536)) where
      abbrev edges : List Edge
      edges = run (edge_in (part_from pairs s) (part_from symbols s)) 0 count

      next_codes : flat_map (grown_codes edges) (take have codes) ≡ map coded (level s (suc t))
      next_codes =
          ap₂ (λ es cs. flat_map (grown_codes es) cs) (edges_are S d.places h y_is count_is) d.filled
          ∙ level_coded S.sound t deep

      next_count : length (flat_map (grown_codes edges) (take have codes)) ≡ length (level s (suc t))
      next_count = ap length next_codes ∙ length-map (level s (suc t)) coded

      module _ {new : List ℕ} where
        pub depth_next : {r : ℕ} → PutBehind (flat_map (grown_codes edges) (take have codes)) codes 0 new (Some r)
            → Depth s new r (pairs + 2 * count) (symbols + count) (t + 1)
        depth_next m = record {
          inside = omega (arith, deep);
          room = m.put.room;
          long = m.long;
          filled = m.put.filled_is ∙ next_codes ∙ ap (λ u. map coded (level s u)) (sym (add-one t));
          count = m.put.count ∙ zero-add _ ∙ next_count ∙ ap (λ u. length (level s u)) (sym (add-one t));
          places = places_next S d.places h y_is count_is;
        }

        pub depth_over : PutBehind (flat_map (grown_codes edges) (take have codes)) codes 0 new None → Gathered s new None
        depth_over m = record {
          long = m.long;
          found = omega (arith, m.put, next_count, levels_rise S.sound (n_of s - suc t) (suc t) (omega (arith, deep)));
        }

  pub depth_all : {codes : List ℕ} {have pairs symbols t : ℕ} → Depth s codes have pairs symbols t → at.n ≤ t → Gathered s codes (Some have)
  depth_all {codes} {have} {pairs} {symbols} {t} d h =
      let e : t ≡ n_of s = omega (arith, d.inside, at_is.n_is) in
      record {
        long = d.long;
        found = record {
          room = d.room;
          filled = d.filled ∙ ap (λ k. map coded (level s k)) e;
          count_is = d.count ∙ ap (λ k. length (level s k)) e;
        };
      }
