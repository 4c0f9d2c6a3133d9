-- The words of our section are the table's: read off its paths they are the same list, so reading back gives the table that was merged.
-- A path in a list of paths is a path step by step and the other way round, our section's paths carry just the table's words, and both
-- lists ascend strictly.
use mathlib.Core.Path.{◌≡◌, refl, sym, ap, ap₂, subst, ◌∙◌}
use mathlib.Core.Bool.{cond}
use mathlib.Core.Logic.{◌⊎◌, inl, inr}
use mathlib.Core.List.Memᴰ
use mathlib.Core.List.{List, [], ◌∷◌, ◌++◌, map}
use Prim.Native.Nat.{ℕ, zero, suc, ◌+◌, ◌-◌, ◌*◌, ◌/◌, ◌%◌, ◌^◌, ◌≤◌, ◌<◌}
use native.Mathlib.Omega.{arith}
use native.Mathlib.Nat.{add-zero, zero-add, not-suc-le-zero, pow-suc}
use native.Mathlib.Decide.{ℕ_discrete}
use lib.ListN.{length}
use lib.Dec.{leb, eqb, lit<}
use borrow.Author.Tests.{le-leb, lt-leb, eq-eqb}
use Rattle.trellis.specs.Lists.{◌∈◌, run, each}
use Rattle.trellis.specs.Label.{symbol}
use Rattle.trellis.specs.Word.{Word, word, word_at, Before}
use Rattle.trellis.specs.Own.{Edge, edge, vertex_count}
use Rattle.trellis.specs.Drawn.{IsPath, DrawnFor}
use Rattle.trellis.proofs.Ours.{ours}
use Rattle.trellis.specs.Section.{Path, along, leaving, paths_from, pack_onto, word_of, words_of}
use Rattle.trellis.specs.Layout.{n_of, vertex_count_of, root_state, goal_state, step_edges, section_words, section_of}
use Rattle.trellis.proofs.Lists.{place_of, of_each, in_each, run_snoc, run_same}
use Rattle.trellis.proofs.ThreeNumbers.{lower_never, lower_chain}
use Rattle.trellis.proofs.Labels.{by_symbols}
use Rattle.trellis.proofs.Words.{word_eq}
use Rattle.trellis.proofs.Demand.{drawn}
use Rattle.trellis.proofs.OwnLaid.{own_n, own_vertex_count, own_root, own_goal, own_step_edges}
use Rattle.label.proofs.Digits.{symbol_last, symbol_drop}
use Rattle.paths.proofs.Ordered.{of_flat_map, in_flat_map, in_keep}
use Rattle.paths.specs.Inner.Ordered.{Ordered, ended, leads}
use Rattle.paths.proofs.Sections.{from_of, listed_of}
use Rattle.section_file.proofs.Words.{read_of, words_ascend}
use Rattle.section_file.proofs.Own.{Fitting, own_sound}

-- ---- labels of symbols one by one

pack_snoc : (x : ℕ) (us : List ℕ) (a : ℕ) → pack_onto x (us ++ (a ∷ [])) ≡ pack_onto x us * 4 + a
unfolding pack_onto
pack_snoc x [] a = refl
pack_snoc x (u ∷ us) a = pack_snoc (x * 4 + u) us a

pack_more : (a : ℕ → ℕ) (n : ℕ) → pack_onto 0 (run a 0 (suc n)) ≡ pack_onto 0 (run a 0 n) * 4 + a n
pack_more a n =
    ap (pack_onto 0) (run_snoc a 0 n) ∙ pack_snoc 0 (run a 0 n) (a (0 + n)) ∙ ap (λ k. pack_onto 0 (run a 0 n) * 4 + a k) (zero-add n)

pack_short : (a : ℕ → ℕ) (n : ℕ) → ((u : ℕ) → u < n → a u < 4) → pack_onto 0 (run a 0 n) < 4 ^ n
unfolding pack_onto run
pack_short a zero h = lit< tt
pack_short a (suc n) h =
    let r = pack_short a n (λ u b. h u (omega arith)) in
    let k = h n (omega arith) in
    rw (pack_more a n, pow-suc) (omega arith)

pack_symbol : (a : ℕ → ℕ) (n : ℕ) → ((u : ℕ) → u < n → a u < 4) → (u : ℕ) → u < n → symbol n u (pack_onto 0 (run a 0 n)) ≡ a u
pack_symbol a zero h u b = absurd (not-suc-le-zero b)
pack_symbol a (suc n) h u b = ap (symbol (suc n) u) (pack_more a n) ∙ go (ℕ_discrete u n) (pack_symbol a n (λ v c. h v (omega arith)) u)
  where
    go : Dec (u ≡ n) → (u < n → symbol n u (pack_onto 0 (run a 0 n)) ≡ a u) → symbol (suc n) u (pack_onto 0 (run a 0 n) * 4 + a n) ≡ a u
    go (yes e) r =
        let k = h n (omega arith) in
        let q : (pack_onto 0 (run a 0 n) * 4 + a n) % 4 ≡ a n = omega arith in
        ap (λ v. symbol (suc n) v (pack_onto 0 (run a 0 n) * 4 + a n)) e ∙ symbol_last n (pack_onto 0 (run a 0 n) * 4 + a n) ∙ q
        ∙ ap a (sym e)
    go (no e) r =
        let k = h n (omega arith) in
        let q : (pack_onto 0 (run a 0 n) * 4 + a n) / 4 ≡ pack_onto 0 (run a 0 n) = omega arith in
        symbol_drop n u (pack_onto 0 (run a 0 n) * 4 + a n) (omega arith) ∙ ap (symbol n u) q ∙ r (omega arith)

-- ---- paths step by step

module _ (edges : ℕ → List Edge) where
  pub in_paths : (x a : ℕ → ℕ) (k t : ℕ) → ((u : ℕ) → t ≤ u → u < t + k → edge (x u) (a u) (x (suc u)) ∈ edges u)
      → record { symbols = run a t k; end = x (t + k) } ∈ paths_from edges k t (x t)
  unfolding paths_from run leaving
  in_paths x a zero t h = Memᴰ.head (λ i. record { symbols = []; end = x (add-zero t i) })
  in_paths x a (suc k) t h =
      let e = edge (x t) (a t) (x (suc t)) in
      let r = in_paths x a k (suc t) (λ u b c. h u (omega arith) (omega arith)) in
      let s : t + suc k ≡ suc t + k = omega arith in
      in_flat_map (λ f. map (along f) (paths_from edges k (suc t) f.to)) (leaving (x t) (edges t)) _ e
      (in_keep (λ f. eqb f.from (x t)) (edges t) e (h t (omega arith) (omega arith)) (eq-eqb (x t) (x t) refl))
      (Memᴰ.cast (λ i. record { symbols = a t ∷ run a (suc t) k; end = x (s i) }) (Memᴰ.map (along e) r))

  -- the vertices and symbols of a path of k steps from vertex v of depth t
  pub record Walk (k t v : ℕ) (p : Path) : Type 0 where
    pub x : ℕ → ℕ
    pub a : ℕ → ℕ
    pub start : x t ≡ v
    pub stops : x (t + k) ≡ p.end
    pub spells : run a t k ≡ p.symbols
    pub takes : (u : ℕ) → t ≤ u → u < t + k → edge (x u) (a u) (x (suc u)) ∈ edges u

  -- v up to depth t, and f behind it
  abbrev up_to : ℕ → ℕ → (ℕ → ℕ) → ℕ → ℕ
  up_to t v f u = cond (leb u t) v (f u)

  up_here : (t v : ℕ) (f : ℕ → ℕ) → up_to t v f t ≡ v
  up_here t v f = let e = le-leb t t (omega arith) in rw e

  up_behind : (t v : ℕ) (f : ℕ → ℕ) (u : ℕ) → t < u → up_to t v f u ≡ f u
  up_behind t v f u h = let e = lt-leb u t h in rw e

  walk_on : (k t v : ℕ) (e : Edge) (p : Path) → e ∈ edges t → e.from ≡ v → Walk k (suc t) e.to p → Walk (suc k) t v (along e p)
  unfolding run
  walk_on k t v e p m f w = record {
    x = up_to t v w.x;
    a = up_to t e.symbol w.a;
    start = up_here t v w.x;
    stops = let s : t + suc k ≡ suc t + k = omega arith in up_behind t v w.x (t + suc k) (omega arith) ∙ ap w.x s ∙ w.stops;
    spells =
        let r = run_same (up_to t e.symbol w.a) w.a (suc t) k (λ j h. up_behind t e.symbol w.a (suc t + j) (omega arith)) in
        ap₂ (λ b l. b ∷ l) (up_here t e.symbol w.a) (r ∙ w.spells);
    takes = λ u b c. step u b c (ℕ_discrete u t);
  }
    where
      step : (u : ℕ) → t ≤ u → u < t + suc k → Dec (u ≡ t)
          → edge (up_to t v w.x u) (up_to t e.symbol w.a u) (up_to t v w.x (suc u)) ∈ edges u
      step u b c (yes d) = subst (λ i. edge (up_to t v w.x i) (up_to t e.symbol w.a i) (up_to t v w.x (suc i)) ∈ edges i) (sym d)
          (Memᴰ.cast (λ i. edge ((up_here t v w.x ∙ sym f) i) (up_here t e.symbol w.a i)
          ((up_behind t v w.x (suc t) (omega arith) ∙ w.start) i)) m)
      step u b c (no d) = Memᴰ.cast
          (λ i. edge (up_behind t v w.x u (omega arith) i) (up_behind t e.symbol w.a u (omega arith) i)
          (up_behind t v w.x (suc u) (omega arith) i)) (w.takes u (omega arith) (omega arith))

  pub walk_of : (k t v : ℕ) (p : Path) → p ∈ paths_from edges k t v → Walk k t v p
  unfolding paths_from run
  walk_of zero t v p m =
      let q = Memᴰ.eq_of_singleton m in
      record {
        x = λ u. v;
        a = λ u. 0;
        start = refl;
        stops = sym (ap (λ (r : Path). r.end) q);
        spells = sym (ap (λ (r : Path). r.symbols) q);
        takes = λ u b c. absurd (omega arith);
      }
  walk_of (suc k) t v p m =
      let z = of_flat_map (λ e. map (along e) (paths_from edges k (suc t) e.to)) (leaving v (edges t)) p m in
      let y = Memᴰ.of_map (along z.source) (paths_from edges k (suc t) z.source.to) z.holds in
      subst (Walk (suc k) t v) y.2
      (walk_on k t v z.source y.0 (listed_of v (edges t) z.source z.listed) (from_of v (edges t) z.source z.listed)
      (walk_of k (suc t) z.source.to y.0 y.1))

-- ---- strictly ascending lists of words with the same words are the same

pub ordered_same : (l k : List Word) → Ordered Before l → Ordered Before k → ((w : Word) → w ∈ l → w ∈ k) → ((w : Word) → w ∈ k → w ∈ l)
    → l ≡ k
ordered_same [] [] a b f g = refl
ordered_same [] (y ∷ k) a b f g = absurd (Memᴰ.not-nil (g y (Memᴰ.head refl)))
ordered_same (x ∷ l) [] a b f g = absurd (Memᴰ.not-nil (f x (Memᴰ.head refl)))
ordered_same (x ∷ l) (y ∷ k) (leads p a) (leads q b) f g =
    λ i. heads i ∷ ordered_same l k a b
    (λ w m. rest k y w (f w (Memᴰ.tail m)) (λ e. lower_never _ _ _ (subst (Before x) (e ∙ sym heads) (p w m))))
    (λ w m. rest l x w (g w (Memᴰ.tail m)) (λ e. lower_never _ _ _ (subst (Before y) (e ∙ heads) (q w m)))) i
  where
    heads : x ≡ y
    heads = go (Memᴰ.cases_cons (f x (Memᴰ.head refl))) (Memᴰ.cases_cons (g y (Memᴰ.head refl)))
      where
        go : (x ≡ y) ⊎ (x ∈ k) → (y ≡ x) ⊎ (y ∈ l) → x ≡ y
        go (inl e) r = e
        go (inr u) (inl e) = sym e
        go (inr u) (inr v) = absurd (lower_never _ _ _ (lower_chain (p y v) (q x u)))

    rest : (m : List Word) (z w : Word) → w ∈ z ∷ m → (w ≡ z → ⊥) → w ∈ m
    rest m z w h d = elim (Memᴰ.cases_cons h) [ inl e ↦ absurd (d e) | inr u ↦ u ]

ordered_table : (l : List Word) → ((i j : ℕ) → i < j → j < length l → Before (word_at l i) (word_at l j)) → Ordered Before l
ordered_table [] h = ended
ordered_table (x ∷ l) h =
    leads
    (λ y m. let p = place_of (word 0 0 0) l y m in subst (Before x) p.is (h 0 (suc p.at) (omega arith) (omega (arith, p.below))))
    (ordered_table l (λ i j a b. h (suc i) (suc j) (omega arith) (omega arith)))

-- ---- our section

module _ (q n S : ℕ) (table : List Word) (A : Fitting q n S table) where
  abbrev l : List ℕ
  l = section_of q n S table

  D : DrawnFor n table (ours n table)
  D = drawn n table A.table A.rectangular

  steps_are : (t : ℕ) → t < n → (e : Edge) → e ∈ (ours n table).edges t → e ∈ step_edges l t
  unfolding ours
  steps_are t h e m = subst (λ es. e ∈ es) (sym (own_step_edges q n S table t h)) m

  steps_of : (t : ℕ) → t < n → (e : Edge) → e ∈ step_edges l t → e ∈ (ours n table).edges t
  unfolding ours
  steps_of t h e m = subst (λ es. e ∈ es) (own_step_edges q n S table t h) m

  vertex_low : (t v : ℕ) → v ∈ (ours n table).vertices t → v < vertex_count n table t
  unfolding ours
  vertex_low t v m = let F = of_each (λ v. v) (vertex_count n table t) v m in omega (arith, F.is, F.below)

  root_is : (v : ℕ) → v < vertex_count n table 0 → root_state l v ≡ (ours n table).root_of v
  unfolding ours
  root_is v h = own_root q n S table v h

  goal_is : (v : ℕ) → v < vertex_count n table n → goal_state l v ≡ (ours n table).goal_of v
  unfolding ours
  goal_is v h = own_goal q n S table v h

  module _ (x a : ℕ → ℕ) (P : IsPath n (ours n table) x a) where
    start_low : x 0 < vertex_count n table 0
    start_low = vertex_low 0 (x 0) (D.joins 0 A.table.some _ (P.takes 0 A.table.some)).0

    end_low : x n < vertex_count n table n
    end_low =
        let h : n - 1 < n = omega (arith, A.table.some) in
        let e : suc (n - 1) ≡ n = omega (arith, A.table.some) in
        subst (λ u. x u < vertex_count n table u) e
        (vertex_low (suc (n - 1)) (x (suc (n - 1))) (D.joins (n - 1) h _ (P.takes (n - 1) h)).1)

  -- a word of the table is read off its path
  word_in : (w : Word) → w ∈ table → w ∈ section_words l
  unfolding section_words words_of word_of
  word_in w m =
      let P = D.no_fewer w m in
      let x = P.x in
      let a = P.a in
      let small : (u : ℕ) → u < n → a u < 4 = λ u h. omega (arith, P.carries.symbols u h, A.symbols_below w m u h, A.q_to) in
      let p =
      in_paths (step_edges l) x a n 0
      (λ u b c. steps_are u (omega (arith, zero-add n)) _ (P.path.takes u (omega (arith, zero-add n)))) in
      let label : pack_onto 0 (run a 0 n) ≡ w.label =
      by_symbols n (pack_onto 0 (run a 0 n)) w.label (pack_short a n small) (A.table.fits w m)
      (λ t h. pack_symbol a n small t h ∙ P.carries.symbols t h) in
      let low = start_low x a P.path in
      let root : root_state l (x 0) ≡ w.root = root_is (x 0) low ∙ P.carries.root in
      let goal : goal_state l (x (0 + n)) ≡ w.goal =
      ap (λ k. goal_state l (x k)) (zero-add n) ∙ goal_is (x n) (end_low x a P.path) ∙ P.carries.goal in
      let e : w ≡ word (root_state l (x 0)) (pack_onto 0 (run a 0 n)) (goal_state l (x (0 + n))) = sym (word_eq root label goal) in
      in_flat_map (λ v. map (word_of (root_state l) (goal_state l) v) (paths_from (step_edges l) (n_of l) 0 v))
      (each (λ v. v) (vertex_count_of l 0)) w (x 0)
      (in_each (λ v. v) (vertex_count_of l 0) (x 0) (x 0) (omega (arith, own_vertex_count q n S table 0 (omega arith))) refl)
      (Memᴰ.cast e (Memᴰ.map (word_of (root_state l) (goal_state l) (x 0))
      (subst (λ k. record { symbols = run a 0 n; end = x (0 + n) } ∈ paths_from (step_edges l) k 0 (x 0)) (sym (own_n q n S table)) p)))

  -- a word that is read off a path is one of the table
  word_of_lem : (w : Word) → w ∈ section_words l → w ∈ table
  word_of_lem w m =
      let s = own_sound q n S table A in
      let R = read_of s w m in
      let e = own_n q n S table in
      let listed : R.path ∈ paths_from (step_edges l) n 0 R.vertex =
      subst (λ k. R.path ∈ paths_from (step_edges l) k 0 R.vertex) e R.listed in
      let W = walk_of (step_edges l) n 0 R.vertex R.path listed in
      let x = W.x in
      let a = W.a in
      let P : IsPath n (ours n table) x a =
      record { takes = λ t h. steps_of t h _ (W.takes t (omega arith) (omega (arith, zero-add n))) } in
      let K = D.no_more x a P in
      let small : (u : ℕ) → u < n → a u < 4 =
      λ u h. omega (arith, K.carried.symbols u h, A.symbols_below K.word K.listed u h, A.q_to) in
      let label : w.label ≡ pack_onto 0 (run a 0 n) = ap (λ (v : Word). v.label) R.is ∙ ap (pack_onto 0) (sym W.spells) in
      let same : pack_onto 0 (run a 0 n) ≡ K.word.label =
      by_symbols n (pack_onto 0 (run a 0 n)) K.word.label (pack_short a n small) (A.table.fits K.word K.listed)
      (λ t h. pack_symbol a n small t h ∙ K.carried.symbols t h) in
      let root : w.root ≡ K.word.root =
      ap (λ (v : Word). v.root) R.is ∙ ap (root_state l) (sym W.start) ∙ root_is (x 0) (start_low x a P) ∙ K.carried.root in
      let goal : w.goal ≡ K.word.goal =
      ap (λ (v : Word). v.goal) R.is ∙ ap (goal_state l) (sym W.stops ∙ ap x (zero-add n)) ∙ goal_is (x n) (end_low x a P)
      ∙ K.carried.goal in
      Memᴰ.cast (word_eq root (label ∙ same) goal) K.listed

  -- the words of our section, in their order, are the table
  pub own_section_words : section_words (section_of q n S table) ≡ table
  own_section_words =
      ordered_same (section_words l) table (words_ascend (own_sound q n S table A)) (ordered_table table A.table.ascends) word_of_lem word_in
