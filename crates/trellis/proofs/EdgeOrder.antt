-- Word by word, a new edge of our section comes after all edges before it: so the edges that words take, each at the first word that takes
-- it, already stand in the order from, symbol, to. The first word on an edge begins like the first word of the edge's vertex; words that
-- begin so stand together, in the order of their vertices, and within one vertex in the order of their symbols and goals.
use mathlib.Core.Path.{◌≡◌, refl, sym, ap, ap₂, subst, ◌∙◌}
use mathlib.Core.Bool.{Bool, true, false}
use mathlib.Core.List.{List}
use Prim.Native.Nat.{ℕ, suc, ◌+◌, ◌*◌, ◌≤◌, ◌<◌}
use native.Mathlib.Omega.{arith}
use native.Mathlib.Decide.{ℕ_discrete, dec_lt}
use lib.ListN.{length}
use lib.Arith.{lt_of_le-ne}
use lib.Dec.{T}
use Rattle.trellis.specs.Lists.{Lower, by_first, by_second, by_third, first}
use Rattle.trellis.specs.Label.{symbol, front}
use Rattle.trellis.specs.Word.{Word, word_at, Before, Table, beginning, ending, joined, Rectangular}
use Rattle.trellis.specs.Own.{edge_less, key, first_sharing, vertex_of, edge_of}
use Rattle.trellis.specs.Witness.{same_beginning}
use Rattle.trellis.proofs.Bools.{holds, fails}
use Rattle.trellis.proofs.Lists.{First, first_ok}
use Rattle.trellis.proofs.ThreeNumbers.{lower_of, lower_never, lower_chain, same_edge}
use Rattle.trellis.proofs.Labels.{front_mono, symbol_back, back_step, front_suc, front_all, front_none, symbol_lower}
use Rattle.trellis.proofs.Words.{word_in, index, comes_first, beginning_root, beginning_front, beginning_eq, ending_back}
use Rattle.trellis.proofs.Words.{ending_goal, ending_eq, joined_beginning, joined_ending}
use Rattle.trellis.proofs.Vertices.{Numbering, own_numbering, key_root, key_goal, key_inner, vertex_key, vertex_less, shares_yes}
use Rattle.trellis.proofs.Vertices.{first_le_lem, first_shares}
use Rattle.trellis.proofs.Paths.{edge_eq, edge_ok, edge_rf}
use Rattle.trellis.proofs.OwnPaths.{joined_first, begun, ended}
use Rattle.trellis.proofs.Witness.{begins_yes, begins_of}

-- words of different beginnings stand in the order of their beginnings
pub beginnings_order : (n t : ℕ) (v w v' w' : Word) → Before v w → (beginning n t v ≡ beginning n t w → ⊥)
    → beginning n t v' ≡ beginning n t v → beginning n t w' ≡ beginning n t w → Before v' w'
beginnings_order n t v w v' w' b d p q = go b
  where
    go : Before v w → Before v' w'
    go (by_first r) = by_first (omega (arith, beginning_root p, beginning_root q))
    go (by_second r l) = by_second (beginning_root p ∙ r ∙ sym (beginning_root q)) (lower (dec_lt v'.label w'.label))
      where
        fronts : front n t v.label < front n t w.label
        fronts = lt_of_le-ne (front_mono n t (omega arith)) (λ e. d (beginning_eq r e))

        lower : Dec (v'.label < w'.label) → v'.label < w'.label
        lower (yes h) = h
        lower (no h) = absurd
            (omega (arith, fronts, front_mono n t {x = w'.label} {y = v'.label} (omega arith), beginning_front p, beginning_front q))
    go (by_third r l g) = absurd (d (beginning_eq r (ap (front n t) l)))

module _ (n : ℕ) (table : List Word) (G : Table n table) (R : Rectangular n table) (t : ℕ) (deep : t < n) where
  abbrev c : ℕ → ℕ → ℕ
  c = vertex_of n table

  O : Numbering n table (vertex_of n table)
  O = own_numbering n table G.some R

  abbrev at : ℕ → Word
  at i = word_at table i

  -- no word before i takes i's edge
  abbrev pub New : ℕ → Type 0
  New i = (j : ℕ) → j < i → edge_of n table t j ≡ edge_of n table t i → ⊥

  -- a word that shares i's vertex and ends like i takes i's edge
  same_edge_lem : (k i : ℕ) → k < length table → i < length table → c t k ≡ c t i → ending n t (at k) ≡ ending n t (at i)
      → edge_of n table t k ≡ edge_of n table t i
  same_edge_lem k i a b e m = edge_eq e
      (symbol_back n t (at k).label (at i).label deep (ending_back m))
      (ended n table G (vertex_of n table) O (suc t) k i (omega arith) deep a b
      (sym (ending_eq (back_step n t (at k).label (at i).label deep (ending_back m)) (ending_goal m))))

  -- a word that is the first on its edge begins like the first word of its vertex
  module _ (inner : 0 < t) where
    abbrev h : ℕ → ℕ
    h i = first_sharing n table t i

    lead_vertex : (i : ℕ) → i < length table → c t (h i) ≡ c t i
    lead_vertex i b = (O.inner t inner deep (h i) i (omega (arith, first_le_lem n table t i)) b).1
        (shares_yes n table t (h i) i (first_shares n table t i b))

    pub leads_run : (i : ℕ) → i < length table → New i → (beginning n t (at (h i)) ≡ beginning n t (at i) → ⊥) → ⊥
    leads_run i b fresh d =
        let l = first_le_lem n table t i in
        let less : h i < i = lt_of_le-ne l (λ e. d (ap (λ k. beginning n t (word_at table k)) e)) in
        let K = index table (joined n t (at (h i)) (at i)) (shares_yes n table t (h i) i (first_shares n table t i b)) in
        let f : K.at < i = comes_first G K.at i K.below
        (subst (λ v. Before v (word_at table i)) (sym K.is) (joined_first n table G t (h i) i less b d)) in
        let p : c t K.at ≡ c t (h i) = begun n table G (vertex_of n table) O t K.at (h i) deep K.below (omega arith)
        (sym (ap (beginning n t) K.is ∙ joined_beginning n t (at (h i)) (at i))) in
        fresh K.at f (same_edge_lem K.at i K.below b (p ∙ lead_vertex i b)
        (ap (ending n t) K.is ∙ joined_ending n t (at (h i)) (at i)))

    pub leads : (i : ℕ) → i < length table → New i → beginning n t (at (h i)) ≡ beginning n t (at i)
    leads i b fresh = go (same_beginning n t (at (h i)) (at i)) refl
      where
        go : (s : Bool) → same_beginning n t (word_at table (first_sharing n table t i)) (word_at table i) ≡ s
            → beginning n t (word_at table (first_sharing n table t i)) ≡ beginning n t (word_at table i)
        go true e = begins_yes n t (word_at table (first_sharing n table t i)) (word_at table i) (holds e)
        go false e = absurd (leads_run i b fresh
            (λ p. fails e (begins_of n t (word_at table (first_sharing n table t i)) (word_at table i) p)))

  -- ---- two words that are the first on their edges, j before i

  module _ (i j : ℕ) (b : i < length table) (less : j < i) (fresh : New i) (first : New j) where
    abbrev l : j < length table
    l = omega arith

    before : Before (at j) (at i)
    before = G.ascends j i less b

    -- at different vertices
    vertices_rise : (c t j ≡ c t i → ⊥) → c t j < c t i
    vertices_rise d = vertex_less n table t j i (omega arith) (keys_rise (ℕ_discrete t 0))
      where
        roots : Lower (at j).root (at j).label (at j).goal (at i).root (at i).label (at i).goal → ((at j).root ≡ (at i).root → ⊥)
            → (at j).root < (at i).root
        roots (by_first p) e = p
        roots (by_second p q) e = absurd (e p)
        roots (by_third p q r) e = absurd (e p)

        differ : key n table t j ≡ key n table t i → ⊥
        differ e = d ((vertex_key n table t j i (omega arith) b).1 e)

        inner_rise : (inner : 0 < t) → Dec (first_sharing n table t i < first_sharing n table t j)
            → first_sharing n table t j < first_sharing n table t i
        inner_rise inner (no p) =
            lt_of_le-ne (omega arith) (λ e. differ (key_inner n table t j inner deep ∙ e ∙ sym (key_inner n table t i inner deep)))
        inner_rise inner (yes p) =
            let x = first_sharing n table t i in
            let y = first_sharing n table t j in
            let k = first_le_lem n table t j in
            let m = first_le_lem n table t i in
            let apart : beginning n t (word_at table x) ≡ beginning n t (word_at table y) → ⊥ = λ e.
            d (sym (lead_vertex inner j (omega arith)) ∙ begun n table G (vertex_of n table) O t y x deep (omega arith) (omega arith) e
            ∙ lead_vertex inner i b) in
            absurd (lower_never _ _ _ (lower_chain before
            (beginnings_order n t (word_at table x) (word_at table y) (word_at table i) (word_at table j) (G.ascends x y p (omega arith)) apart
            (sym (leads inner i b fresh)) (sym (leads inner j (omega arith) first)))))

        keys_rise : Dec (t ≡ 0) → key n table t j < key n table t i
        keys_rise (yes e) =
            let same : (k : ℕ) → key n table t k ≡ (word_at table k).root = λ k. ap (λ u. key n table u k) e ∙ key_root n table k in
            let r = roots before (λ q. differ (same j ∙ q ∙ sym (same i))) in
            omega (arith, same i, same j)
        keys_rise (no e) =
            let inner : 0 < t = omega arith in
            omega (
              arith,
              key_inner n table t j inner deep,
              key_inner n table t i inner deep,
              inner_rise inner (dec_lt (first_sharing n table t i) (first_sharing n table t j)),
            )

    -- at one vertex the words begin alike
    begin_alike : c t j ≡ c t i → beginning n t (at j) ≡ beginning n t (at i)
    begin_alike e = go (ℕ_discrete t 0)
      where
        go : Dec (t ≡ 0) → beginning n t (word_at table j) ≡ beginning n t (word_at table i)
        go (yes z) =
            let r : (word_at table j).root ≡ (word_at table i).root =
            (O.roots j i (omega arith) b).0 (subst (λ u. vertex_of n table u j ≡ vertex_of n table u i) z e) in
            beginning_eq r (ap (λ u. front n u (word_at table j).label) z ∙ fronts ∙ sym (ap (λ u. front n u (word_at table i).label) z))
          where
            fronts : front n 0 (word_at table j).label ≡ front n 0 (word_at table i).label
            fronts = front_none n (word_at table j).label (G.fits _ (word_in table j (omega arith)))
                ∙ sym (front_none n (word_at table i).label (G.fits _ (word_in table i b)))
        go (no z) =
            let inner : 0 < t = omega arith in
            let k : key n table t j ≡ key n table t i = (vertex_key n table t j i (omega arith) b).0 e in
            sym (leads inner j (omega arith) first)
            ∙ ap (λ x. beginning n t (word_at table x)) (sym (key_inner n table t j inner deep) ∙ k ∙ key_inner n table t i inner deep)
            ∙ leads inner i b fresh

    -- one symbol from one vertex leads on to different vertices only at the last depth, and there in the order of the goals
    ends_rise : c t j ≡ c t i → symbol n t (at j).label ≡ symbol n t (at i).label → c (suc t) j < c (suc t) i
    ends_rise e s = go (dec_lt (suc t) n)
      where
        longer : beginning n (suc t) (word_at table j) ≡ beginning n (suc t) (word_at table i)
        longer =
            let m = begin_alike e in
            beginning_eq (beginning_root m)
            (front_suc n t (word_at table j).label deep ∙ ap₂ (λ x y. x * 4 + y) (beginning_front m) s
            ∙ sym (front_suc n t (word_at table i).label deep))

        go : Dec (suc t < n) → vertex_of n table (suc t) j < vertex_of n table (suc t) i
        go (yes q) = absurd (fresh j less (edge_eq e s (sym (begun n table G (vertex_of n table) O (suc t) i j q b (omega arith) longer))))
        go (no q) =
            let d : suc t ≡ n = omega arith in
            subst (λ u. vertex_of n table u j < vertex_of n table u i) (sym d)
            (goals_rise before (subst (λ u. beginning n u (word_at table j) ≡ beginning n u (word_at table i)) d longer))
          where
            by_goal : (word_at table j).goal < (word_at table i).goal → vertex_of n table n j < vertex_of n table n i
            by_goal g = vertex_less n table n j i (omega arith) (omega (arith, key_goal n table j G.some, key_goal n table i G.some))

            goals_rise : Lower (at j).root (at j).label (at j).goal (at i).root (at i).label (at i).goal
                → beginning n n (word_at table j) ≡ beginning n n (word_at table i)
                → vertex_of n table n j < vertex_of n table n i
            goals_rise (by_first p) m = absurd (omega (arith, beginning_root m))
            goals_rise (by_second p x) m =
                absurd (omega (arith, front_all n (word_at table j).label, front_all n (word_at table i).label, beginning_front m))
            goals_rise (by_third p x g) m = by_goal g

    -- so the edges of both stand in order
    pub edges_rise : T (edge_less (edge_of n table t j) (edge_of n table t i))
    edges_rise = lower_of _ _ _ _ _ _ (go (ℕ_discrete (c t j) (c t i)))
      where
        symbols_rise : vertex_of n table t j ≡ vertex_of n table t i
            → Dec (symbol n t (word_at table j).label < symbol n t (word_at table i).label)
            → Dec (symbol n t (word_at table j).label ≡ symbol n t (word_at table i).label)
            → Lower (vertex_of n table t j) (symbol n t (word_at table j).label) (vertex_of n table (suc t) j) (vertex_of n table t i)
            (symbol n t (word_at table i).label) (vertex_of n table (suc t) i)
        symbols_rise e (yes p) q = by_second e p
        symbols_rise e (no p) (yes q) = by_third e q (ends_rise e q)
        symbols_rise e (no p) (no q) = absurd (lower_never _ _ _ (lower_chain before (behind (begin_alike e))))
          where
            -- a smaller symbol behind one beginning is a smaller word
            behind : beginning n t (word_at table j) ≡ beginning n t (word_at table i) → Before (word_at table i) (word_at table j)
            behind m = by_second (sym (beginning_root m))
                (symbol_lower n t (word_at table i).label (word_at table j).label deep (sym (beginning_front m)) (omega arith))

        go : Dec (vertex_of n table t j ≡ vertex_of n table t i)
            → Lower (vertex_of n table t j) (symbol n t (word_at table j).label) (vertex_of n table (suc t) j) (vertex_of n table t i)
            (symbol n t (word_at table i).label) (vertex_of n table (suc t) i)
        go (yes e) = symbols_rise e (dec_lt _ _) (ℕ_discrete _ _)
        go (no e) = by_first (vertices_rise e)

  -- ---- word by word

  -- the first word on j's edge is no later than j
  record FirstOn (j : ℕ) : Type 0 where
    at_first : ℕ
    no_later : at_first ≤ j
    same : edge_of n table t at_first ≡ edge_of n table t j
    new : New at_first

  first_on : (j : ℕ) → FirstOn j
  first_on j = go (first (λ k. same_edge (edge_of n table t k) (edge_of n table t j)) j)
      (first_ok (λ k. same_edge (edge_of n table t k) (edge_of n table t j)) j)
    where
      go : (k : ℕ) → First (λ k. same_edge (edge_of n table t k) (edge_of n table t j)) j k → FirstOn j
      go k F = let e : edge_of n table t k ≡ edge_of n table t j = same (dec_lt k j) in record {
        at_first = k;
        no_later = F.most;
        same = e;
        new = λ m h q. F.miss m h (subst (λ x. T (same_edge (edge_of n table t m) x)) (q ∙ e) (edge_rf (edge_of n table t m)));
      }
        where
          same : Dec (k < j) → edge_of n table t k ≡ edge_of n table t j
          same (yes h) = edge_ok _ _ (F.hit h)
          same (no h) = ap (edge_of n table t) (omega (arith, F.most))

  -- an edge that is new at word i comes after the edges of all words before
  pub new_last : (i : ℕ) → i < length table → New i → (j : ℕ) → j < i → T (edge_less (edge_of n table t j) (edge_of n table t i))
  new_last i b fresh j less =
      let F = first_on j in
      subst (λ e. T (edge_less e (edge_of n table t i))) F.same (edges_rise i F.at_first b (omega (arith, F.no_later)) fresh F.new)
