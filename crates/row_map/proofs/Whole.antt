-- The whole map. The inner depths come first, then depth 0 in front of them and depth n behind, which leave what stands. At inner depths
-- the numbers of syndromes are the vertices, at the outer ones the ranks of states, since the state of a sum of rows is the sum of the
-- rows' states. So each depth has its vertices, and its dimension, by which the counts are powers of 2.
use mathlib.Core.Path.{◌≡◌, sym, ap, subst, ◌∙◌}
use mathlib.Core.List.{List, map}
use Prim.Native.Nat.{ℕ, ◌+◌, ◌*◌, ◌/◌, ◌%◌, ◌^◌, ◌≤◌, ◌<◌}
use native.Mathlib.Omega.{arith}
use native.Mathlib.Nat.{suc-mul, zero-mul, mod-lt}
use native.Mathlib.Decide.{ℕ_discrete, dec_lt}
use lib.Arith.{digits_lt}
use lib.ListN.{length, get_or, take, set, length-map, length-set}
use lib.Seq.{length-take-le, get_or-set_same, get_or-set_other}
use lib.Pow.{pow_pos, pow_mono, shr_lt}
use Rattle.trellis.specs.Lists.{rank}
use Rattle.trellis.specs.Own.{keys, vertex_of, vertex_count}
use Rattle.rows.specs.Sums.{sums}
use Rattle.rows.specs.Table.{row_width, table_of, cut_at}
use Rattle.rows.specs.Inner.Reduced.{Narrow}
use Rattle.rows.specs.Inner.Numbering.{numbers_below}
use Rattle.rows.proofs.Sums.{sum_map}
use Rattle.rows.proofs.Vertices.{vertex_is, count_is_lem}
use Rattle.rows.proofs.Outer.{high_adds, low_adds, map_narrow, root_keys, root_vertex, goal_keys, goal_vertex}
use Rattle.parity.specs.Inner.Front.{Front}
use Rattle.row_depth.specs.Inner.Depth.{syndrome_of}
use Rattle.row_states.specs.Inner.Outer.{roots_of, goals_of, OuterAsked, OuterPut}
use Rattle.row_map.specs.Inner.Maps.{MapAsked, InnerPut, CountsOf, MapPut}
use Rattle.row_map.proofs.AllDepths.{row_ends}

-- a number for each row, in front of an array
values_are : (f : ℕ → ℕ) (rows : List ℕ) {array : List ℕ} → Front (map f rows) array → take (length rows) array ≡ map f rows
values_are f rows {array} F = ap (λ k. take k array) (sym (length-map rows f)) ∙ F.are

-- ---- the dimensions with those of the outer depths set

abbrev pub all_dims : List ℕ → ℕ → ℕ → ℕ → List ℕ
all_dims dims n first last = set (set dims 0 first) n last

module _ (dims : List ℕ) (n first last : ℕ) (nine : length dims ≡ 9) (some : 0 < n) (most : n ≤ 8) where
  dims_nine : length (all_dims dims n first last) ≡ 9
  dims_nine = length-set (set dims 0 first) n last ∙ length-set dims 0 first ∙ nine

  -- what holds of first at 0, of last at n and of the others holds of all
  dims_by : (Q : ℕ → ℕ → Type 0) → Q 0 first → Q n last → ((t : ℕ) → 0 < t → (t ≡ n → ⊥) → Q t (get_or dims t 0))
      → (t : ℕ) → Q t (get_or (all_dims dims n first last) t 0)
  dims_by Q zeroth end between t = go (ℕ_discrete t n) (ℕ_discrete t 0)
    where
      go : Dec (t ≡ n) → Dec (t ≡ 0) → Q t (get_or (all_dims dims n first last) t 0)
      go (yes e) z = subst (λ u. Q u (get_or (all_dims dims n first last) u 0)) (sym e) (subst (Q n)
          (sym (get_or-set_same (set dims 0 first) n last 0 (omega (arith, nine, length-set dims 0 first)))) end)
      go (no d) (yes z) = subst (λ u. Q u (get_or (all_dims dims n first last) u 0)) (sym z) (subst (Q 0)
          (sym (get_or-set_other (set dims 0 first) n 0 last 0 (λ e. omega arith) ∙ get_or-set_same dims 0 first 0 (omega (arith, nine))))
          zeroth)
      go (no d) (no z) =
          subst (Q t) (sym (get_or-set_other (set dims 0 first) n t last 0 d ∙ get_or-set_other dims 0 t first 0 z)) (between t (omega arith) d)

module _ {s n : ℕ} {rows columns : List ℕ} {w : ℕ} {old : List ℕ} (A : MapAsked s n rows columns w old) where
  -- ---- what the outer depths ask

  pub lent_length : {vs array : List ℕ} → Front vs array → length rows ≡ length (take (length rows) array)
  lent_length {vs} {array} F = sym (length-take-le (length rows) array (omega (arith, A.few, F.sixteen)))

  outer_asked : (f : ℕ → ℕ) → ((x : ℕ) → x < 2 ^ row_width s n → f x < 2 ^ s) → {array mid : List ℕ} (place : ℕ) → Front (map f rows) array
      → place + w ≤ length mid → OuterAsked (take (length rows) array) mid place
  outer_asked f small {array} {mid} place F room = subst (λ vs. OuterAsked vs mid place) (sym (values_are f rows F)) (record {
    narrow = map_narrow (row_width s n) 4 f rows (λ x h. omega (arith, small x h, pow_mono {i = s} {j = 4} A.states)) A.narrow;
    few = omega (arith, length-map rows f, A.few);
    room = omega (arith, ap (λ k. 2 ^ k) (length-map rows f), A.words);
  })

  last_fits : n * w + w ≤ length old
  last_fits = omega (arith, A.room, suc-mul n w)

  module _ {mid dims : List ℕ} (I : InnerPut s n rows columns w old mid dims n) where
    pub root_asked : {array : List ℕ} → Front (roots_of (n + s) rows) array → OuterAsked (take (length rows) array) mid 0
    root_asked F = outer_asked (λ r. r / 2 ^ (n + s))
        (λ x h. let e : row_width s n ≡ s + (n + s) = omega arith in shr_lt s (n + s) (subst (λ k. x < 2 ^ k) e h)) 0 F
        (omega (arith, last_fits, I.len))

    module _ {root_array next roots : List ℕ} {first : ℕ} (F : Front (roots_of (n + s) rows) root_array)
        (P : OuterPut (take (length rows) root_array) mid 0 next roots first) where
      pub goal_asked : {array : List ℕ} → Front (goals_of s rows) array → OuterAsked (take (length rows) array) next (n * w)
      goal_asked G =
          outer_asked (λ r. r % 2 ^ s) (λ x h. mod-lt x (pow_pos s)) (n * w) G (omega (arith, last_fits, I.len, P.len))

      module _ {goal_array new goals : List ℕ} {last : ℕ} (G : Front (goals_of s rows) goal_array)
          (Q : OuterPut (take (length rows) goal_array) next (n * w) new goals last) where
        -- ---- by the rows' states

        root_put : OuterPut (roots_of (n + s) rows) mid 0 next roots first
        root_put = subst (λ vs. OuterPut vs mid 0 next roots first) (values_are (λ r. r / 2 ^ (n + s)) rows F) P

        goal_put : OuterPut (goals_of s rows) next (n * w) new goals last
        goal_put = subst (λ vs. OuterPut vs next (n * w) new goals last) (values_are (λ r. r % 2 ^ s) rows G) Q

        root_words : 2 ^ length (roots_of (n + s) rows) ≡ w
        root_words = ap (λ k. 2 ^ k) (length-map rows (λ r. r / 2 ^ (n + s))) ∙ sym A.words

        goal_words : 2 ^ length (goals_of s rows) ≡ w
        goal_words = ap (λ k. 2 ^ k) (length-map rows (λ r. r % 2 ^ s)) ∙ sym A.words

        narrow : Narrow 16 rows
        narrow j h = omega (arith, A.narrow j h, pow_mono {i = row_width s n} {j = 16} (omega (arith, A.states, A.symbols)))

        -- ---- the vertices

        root_row : (i : ℕ) → i < w → get_or new (0 * w + i) 0 ≡ vertex_of n (table_of s n rows) 0 i
        root_row i h =
            ap (λ k. get_or new (k + i) 0) (zero-mul w) ∙ goal_put.front (0 + i) (omega (arith, row_ends 0 w n A.some))
            ∙ root_put.row i (omega (arith, root_words))
            ∙ ap (λ x. rank x (sums (roots_of (n + s) rows))) (sum_map (high_adds (n + s)) rows i)
            ∙ sym (root_vertex s n A.echelon narrow i (omega (arith, A.words)))

        inner_row : (t i : ℕ) → 0 < t → t < n → i < w → get_or new (t * w + i) 0 ≡ vertex_of n (table_of s n rows) t i
        inner_row t i p q h =
            goal_put.front (t * w + i) (digits_lt {q = t} {m = n} {r = i} {c = w} q h)
            ∙ root_put.behind (t * w + i) (omega (arith, root_words, row_ends 0 w t p, zero-mul w))
            ∙ I.row t i p q h ∙ sym (vertex_is s n A.echelon narrow t p q i (omega (arith, A.words)))

        goal_row : (i : ℕ) → i < w → get_or new (n * w + i) 0 ≡ vertex_of n (table_of s n rows) n i
        goal_row i h =
            goal_put.row i (omega (arith, goal_words)) ∙ ap (λ x. rank x (sums (goals_of s rows))) (sum_map (low_adds s) rows i)
            ∙ sym (goal_vertex s n A.echelon narrow A.some i (omega (arith, A.words)))

        vertices : (t i : ℕ) → t ≤ n → i < w → get_or new (t * w + i) 0 ≡ vertex_of n (table_of s n rows) t i
        vertices t i l h = go (dec_lt 0 t) (dec_lt t n)
          where
            Right : ℕ → Type 0
            Right u = get_or new (u * w + i) 0 ≡ vertex_of n (table_of s n rows) u i

            go : Dec (0 < t) → Dec (t < n) → Right t
            go (no p) q = let e : 0 ≡ t = omega arith in subst Right e (root_row i h)
            go (yes p) (yes q) = inner_row t i p q h
            go (yes p) (no q) = let e : n ≡ t = omega arith in subst Right e (goal_row i h)

        -- ---- the dimensions

        pub dims_few : (t : ℕ) → get_or (all_dims dims n first last) t 0 ≤ 10
        dims_few t = dims_by dims n first last I.nine A.some A.symbols (λ u d. d ≤ 10)
            (omega (arith, root_put.few)) (omega (arith, goal_put.few)) (λ u p d. I.few u) t

        dimension : (t : ℕ) → t ≤ n → 2 ^ get_or (all_dims dims n first last) t 0 ≡ vertex_count n (table_of s n rows) t
        unfolding vertex_count
        dimension t l = dims_by dims n first last I.nine A.some A.symbols
            (λ u d. u ≤ n → 2 ^ d ≡ length (keys n (table_of s n rows) u))
            (λ h. root_put.counted ∙ ap length (sym (root_keys s n A.echelon narrow)))
            (λ h. goal_put.counted ∙ ap length (sym (goal_keys s n A.echelon narrow A.some)))
            (λ u p d h. inner_count u p (omega arith)) t l
          where
            inner_count : (u : ℕ) → 0 < u → u < n → 2 ^ get_or dims u 0 ≡ length (keys n (table_of s n rows) u)
            inner_count u p q = I.counted u p q ∙ ap (numbers_below (syndrome_of columns rows (cut_at s n u))) A.words
                ∙ sym (count_is_lem s n A.echelon narrow u p q)

        -- ---- all of it

        pub map_put : {counts : List ℕ} → CountsOf (all_dims dims n first last) counts
            → MapPut s n rows w old new (all_dims dims n first last) counts roots goals
        map_put {counts} C = record {
          len = goal_put.len ∙ root_put.len ∙ I.len;
          vertices = vertices;
          behind = λ j h.
              goal_put.behind j (omega (arith, goal_words, suc-mul n w)) ∙ root_put.behind j (omega (arith, root_words, suc-mul n w))
              ∙ I.behind j (omega (arith, suc-mul n w));
          dimension = dimension;
          few = dims_few;
          counted = λ t l. C.are t (omega (arith, A.symbols)) ∙ dimension t l;
          dim_places = dims_nine dims n first last I.nine A.some A.symbols;
          count_places = C.nine;
          root_states = subst (λ l. Front l roots) (sym (root_keys s n A.echelon narrow)) root_put.states;
          goal_states = subst (λ l. Front l goals) (sym (goal_keys s n A.echelon narrow A.some)) goal_put.states;
        }
