-- Step by step through a section: what is kept at depth t, and the steps that are left, give what is kept in the end. The edges of the next
-- step begin where those of the steps before end.
use mathlib.Core.Path.{◌≡◌, refl, sym, ap, ◌∙◌}
use mathlib.Core.List.{List, flat_map}
use Prim.Native.Nat.{ℕ, suc, ◌+◌, ◌-◌, ◌*◌, ◌≤◌, ◌<◌}
use native.Mathlib.Omega.{arith}
use native.Mathlib.Numerals.{add-one}
use lib.ListN.{length, get_or, take}
use Rattle.trellis.specs.Bounds.{most_paths, most_symbols, most_words}
use Rattle.trellis.specs.Lists.{run}
use Rattle.trellis.specs.Layout.{n_of, vertex_count_of, step_edges}
use Rattle.paths.specs.Inner.Ranked.{PriceRoom}
use Rattle.ranking.specs.Inner.Kept.{keep_best}
use Rattle.dearest.specs.Inner.Items.{cost_in}
use Rattle.edges.specs.Inner.Edges.{edge_in}
use Rattle.section_file.specs.Inner.View.{Seen}
use Rattle.section_file.specs.declared.View.{View}
use Rattle.section_file.proofs.Seen.{viewed, near_of, laid_of}
use Rattle.whole_section.specs.Inner.StepAt.{part_from}
use Rattle.whole_section.proofs.Places.{StepPlaces, places_start, count_in, step_at, pairs_near, symbols_near, places_next, edges_are}
use Rattle.least_rows.specs.Inner.Rows.{rows_long}
use Rattle.one_step.specs.Inner.Steps.{candidates, stepped_from}
use Rattle.one_step.specs.Inner.Loops.{StepRoom, Stepped, Gone}

-- t steps are gone; the pairs and symbols of the edges of step t begin at two places
pub record Deep (s rows prices : List ℕ) (k have : ℕ) (old items : List ℕ) (count pairs symbols t : ℕ) : Type 0 where
  pub inside : t ≤ n_of s
  pub most : count ≤ k
  pub long : length items ≡ most_paths
  pub places : StepPlaces s pairs symbols t
  pub left : stepped_from (step_edges s) rows prices k (n_of s - t) t (take count items)
      ≡ stepped_from (step_edges s) rows prices k (n_of s) 0 (take have old)

-- where the edges of step t begin and end
pub record Here (s : List ℕ) (pairs symbols edges : ℕ) : Type 0 where
  pub pairs_in : pairs ≤ length s
  pub symbols_in : symbols ≤ length s
  pub pairs_near : pairs + 2 * edges < 200000
  pub symbols_near : symbols + edges < 200000

n_is : {s : List ℕ} {at : View} → Seen s at → at.n ≡ n_of s
n_is S = (viewed S.is).n_is

module _ {s : List ℕ} {at : View} (S : Seen s at) {rows prices : List ℕ} {k have : ℕ} {old : List ℕ} where
  pub deep_start : have ≤ k → length old ≡ most_paths → Deep s rows prices k have old old have at.pairs at.symbols 0
  deep_start m l =
      let e : n_of s - 0 ≡ n_of s = omega arith in
      record {
        inside = omega arith;
        most = m;
        long = l;
        places = places_start S;
        left = ap (λ j. stepped_from (step_edges s) rows prices k j 0 (take have old)) e;
      }

  module _ {items : List ℕ} {count pairs symbols t : ℕ}
      (d : Deep s rows prices k have old items count pairs symbols t) where
    pub deep_here : {edges : ℕ} → t < at.n → edges ≡ get_or s (4 + at.n + t) 0 → edges < 65536 → Here s pairs symbols edges
    deep_here h e near =
        let at = step_at S d.places h refl (e, near) in
        record {
          pairs_in = at.pairs_in;
          symbols_in = at.symbols_in;
          pairs_near = pairs_near S d.places h refl (e, near);
          symbols_near = symbols_near S d.places h refl (e, near);
        }

    pub deep_room : t < at.n → 0 < k → k ≤ most_paths → length rows ≡ rows_long → PriceRoom prices → StepRoom k t rows prices
    deep_room h some few l p =
        record { some = some; few = few; inside = omega (arith, (near_of (laid_of S)).steps_few); rows_are = l; priced = p }

    pub deep_each : {y edges : ℕ} → t < at.n → y ≡ get_or s (4 + at.n + t) 0 → (edges ≡ y) × (edges < 65536)
        → (t < most_symbols) × (3 + t < length s) × (0 < get_or s (3 + t) 0) × (edges ≤ most_words)
    unfolding vertex_count_of
    deep_each h y_is e_is = (
      omega (arith, (near_of (laid_of S)).steps_few),
      omega (arith, count_in S h),
      omega (arith, S.sound.vertices_from t (omega (arith, n_is S))),
      (step_at S d.places h y_is e_is).edges.small.there.few,
    )

    pub deep_next : {y edges r last : ℕ} {new : List ℕ} → t < at.n → y ≡ get_or s (4 + at.n + t) 0 → (edges ≡ y) × (edges < 65536)
        → Stepped k (flat_map (candidates rows prices t (run (edge_in (part_from pairs s) (part_from symbols s)) 0 edges)) (take count items))
        new r last → Deep s rows prices k have old new r (pairs + 2 * edges) (symbols + edges) (t + 1)
    unfolding stepped_from
    deep_next {y} {edges} {r} {new = new} h y_is e_is T = record {
      inside = omega (arith, n_is S);
      most = T.kept.most;
      long = T.kept.long;
      places = places_next S d.places h y_is e_is;
      left =
          let u : take r new ≡ keep_best cost_in k (flat_map (candidates rows prices t (step_edges s t)) (take count items)) =
          T.is ∙ ap (λ es. keep_best cost_in k (flat_map (candidates rows prices t es) (take count items)))
          (edges_are S d.places h y_is e_is) in
          let m : n_of s - t ≡ suc (n_of s - (t + 1)) = omega (arith, n_is S) in
          ap (stepped_from (step_edges s) rows prices k (n_of s - (t + 1)) (t + 1)) u
          ∙ ap (λ j. stepped_from (step_edges s) rows prices k (n_of s - (t + 1)) j
          (keep_best cost_in k (flat_map (candidates rows prices t (step_edges s t)) (take count items)))) (add-one t)
          ∙ sym (ap (λ j. stepped_from (step_edges s) rows prices k j t (take count items)) m) ∙ d.left;
    }

    pub deep_all : at.n ≤ t → Gone (step_edges s) rows prices k (n_of s) have old items count
    unfolding stepped_from
    deep_all h =
        let e : n_of s - t ≡ 0 = omega (arith, n_is S) in
        record {
          long = d.long;
          most = d.most;
          is = sym (ap (λ j. stepped_from (step_edges s) rows prices k j t (take count items)) e) ∙ d.left;
        }
