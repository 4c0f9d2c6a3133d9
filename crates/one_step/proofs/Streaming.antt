-- Candidates as they come: what is kept so far, and the candidates that are left, give at every moment what is to be kept of all. Edges
-- ascend by the vertex where they start, so those of a vertex stand together behind the edges of lower vertices, which give none, and the
-- first edge of another vertex ends them. Once all have come, what is kept is the k best of them.
use mathlib.Core.Path.{◌≡◌, refl, sym, ap, ap₂, subst, ◌∙◌}
use mathlib.Core.List.{List, [], ◌∷◌, ◌++◌, append-nil, flat_map}
use Prim.Native.Nat.{ℕ, zero, suc, ◌+◌, ◌-◌, ◌≤◌, ◌<◌}
use native.Mathlib.Omega.{arith}
use native.Mathlib.Numerals.{add-one}
use lib.ListN.{length, get_or, take}
use lib.Seq.{take-suc}
use borrow.Author.Tests.{eq-eqb, ne_eqb}
use Rattle.trellis.specs.Bounds.{most_paths, most_words}
use Rattle.trellis.specs.Lists.{run}
use Rattle.trellis.specs.Own.{Edge}
use Rattle.trellis.specs.Section.{leaving}
use Rattle.trellis.proofs.Lists.{flat_map_append}
use Rattle.paths.specs.Chain.{unreached}
use Rattle.ranking.specs.Inner.Kept.{keep_best, admit, admit_all}
use Rattle.ranking.proofs.Cut.{kept_all}
use Rattle.ranking.proofs.Streamed.{keep_admitted}
use Rattle.dearest.specs.Inner.Items.{cost_unit, cost_in, code_in, item_of, Kept, Admitted}
use Rattle.edges.specs.Inner.Edges.{held_edge, meant_edge}
use Rattle.edges.specs.declared.Edge as held
use Rattle.whole_section.proofs.Lists.{run_cons, run_none, leaving_yes, leaving_no, leaving_none}
use Rattle.codes.specs.Inner.Codes.{code_vertex, further_code}
use Rattle.gathering.proofs.Growing.{none_later}
use Rattle.edge_search.specs.Inner.FirstEdge.{FirstFrom}
use Rattle.totals.specs.Inner.Totals.{paid_for, total_of}
use Rattle.one_step.specs.Inner.Steps.{candidate, candidates}
use Rattle.one_step.specs.Inner.Loops.{limited, Streamed, Stepped}
use Rattle.one_step.proofs.Limits.{left_out, let_in, limited_edges}

-- what an item gives within the limit along one edge
abbrev pub given_by : List ℕ → List ℕ → ℕ → ℕ → ℕ → Edge → List ℕ
given_by rows prices t limit x e = limited limit (candidate rows prices t (paid_for rows t x) (code_in x) e)

-- ---- one edge

module _ (rows prices : List ℕ) (t paid code : ℕ) (e : Edge) (limit : ℕ) {k count : ℕ} {old : List ℕ} {cost : ℕ}
    (i : cost ≡ total_of rows prices t paid e) where
  pub streamed_none : {worst : ℕ} → limit < cost → Kept k old count worst
      → Streamed k count old (limited limit (candidate rows prices t paid code e)) old count worst
  unfolding admit_all
  streamed_none h K =
      record { kept = K; is = ap (admit_all cost_in k (take count old)) (sym (left_out rows prices t paid code e limit (omega arith))) }

  pub streamed_one : {further item r last : ℕ} {new : List ℕ} → cost ≤ limit → limit < unreached → code < cost_unit → e.to < most_words
      → further ≡ further_code code e → item ≡ item_of cost further → Admitted k count old item new r last
      → Streamed k count old (limited limit (candidate rows prices t paid code e)) new r last
  unfolding admit_all
  streamed_one {further} {item} h l c w f j A =
      let z : item ≡ item_of (total_of rows prices t paid e) (further_code code e) = j ∙ ap₂ item_of i f in
      record {
        kept = A.kept;
        is =
            A.is ∙ ap (admit cost_in k (take count old)) z
            ∙ ap (admit_all cost_in k (take count old)) (sym (let_in rows prices t paid code e limit (omega arith) l c w));
      }

-- the same of the edge that was read, for what was worked out of the item
pub streamed_at : (rows prices : List ℕ) (t x : ℕ) (f : Edge) (limit : ℕ) {paid code k count r last : ℕ} {e : held.Edge} {old new : List ℕ}
    → paid ≡ paid_for rows t x → code ≡ code_in x → e ≡ held_edge f
    → Streamed k count old (limited limit (candidate rows prices t paid code (meant_edge e))) new r last
    → Streamed k count old (limited limit (candidate rows prices t (paid_for rows t x) (code_in x) f)) new r last
streamed_at rows prices t x f limit {k = k} {count} {r} {last} {e} {old} {new} p c q S =
    subst (λ ys. Streamed k count old (limited limit ys) new r last)
    (ap₂ (λ a b. candidate rows prices t a b (meant_edge e)) p c
    ∙ ap (λ (g : held.Edge). candidate rows prices t (paid_for rows t x) (code_in x) (meant_edge g)) q) S

-- and of all edges that leave its vertex
pub streamed_all : (rows prices : List ℕ) (t limit : ℕ) (es : List Edge) (x : ℕ) {k count r last : ℕ} {old new : List ℕ}
    → Streamed k count old (flat_map (λ e. limited limit (candidate rows prices t (paid_for rows t x) (code_in x) e))
    (leaving (code_vertex (code_in x)) es)) new r last
    → Streamed k count old (limited limit (candidates rows prices t es x)) new r last
streamed_all rows prices t limit es x {k} {count} {r} {last} {old} {new} S =
    subst (λ ys. Streamed k count old ys new r last) (sym (limited_edges rows prices t limit es x)) S

-- ---- the edges of one vertex

admit_append : (k : ℕ) (kept xs ys : List ℕ) → admit_all cost_in k kept (xs ++ ys) ≡ admit_all cost_in k (admit_all cost_in k kept xs) ys
unfolding admit_all
admit_append k kept [] ys = refl
admit_append k kept (x ∷ xs) ys = admit_append k (admit cost_in k kept x) xs ys

lower_first : (e : ℕ → Edge) (v at m : ℕ) → ((e at).from ≡ v → ⊥) → leaving v (run e at (suc m)) ≡ leaving v (run e (suc at) m)
unfolding run
lower_first e v at m h = leaving_no v (e at) (run e (suc at) m) (ne_eqb (e at).from v h)

-- what stands in front of the edges of v gives none of them
lower_skipped : (e : ℕ → Edge) (v front rest : ℕ) → ((j : ℕ) → j < front → (e j).from ≡ v → ⊥)
    → leaving v (run e 0 (front + rest)) ≡ leaving v (run e front rest)
lower_skipped e v front rest h = go front 0 (omega arith)
  where
    go : (m at : ℕ) → at + m ≡ front → leaving v (run e at (m + rest)) ≡ leaving v (run e front rest)
    go zero at q = let a : at ≡ front = omega arith in let b : zero + rest ≡ rest = omega arith in
        ap₂ (λ x y. leaving v (run e x y)) a b
    go (suc m) at q =
        let c : suc m + rest ≡ suc (m + rest) = omega arith in
        ap (λ x. leaving v (run e at x)) c ∙ lower_first e v at (m + rest) (h at (omega arith)) ∙ go m (suc at) (omega arith)

-- the edges of v from i on are still to come
pub record Streaming (cand : Edge → List ℕ) (e : ℕ → Edge) (edges v k count : ℕ) (old new : List ℕ) (made worst i : ℕ) : Type 0 where
  pub inside : i ≤ edges
  pub kept : Kept k new made worst
  pub left : admit_all cost_in k (take made new) (flat_map cand (leaving v (run e i (edges - i))))
      ≡ admit_all cost_in k (take count old) (flat_map cand (leaving v (run e 0 edges)))
  pub above : i < edges → v ≤ (e i).from

module _ {cand : Edge → List ℕ} {e : ℕ → Edge} {edges v k count : ℕ} {old : List ℕ} where
  -- the edges of lower vertices give nothing
  pub streaming_start : {u worst start : ℕ} → FirstFrom (λ j. (e j).from) edges u start → u ≡ v → Kept k old count worst
      → Streaming cand e edges v k count old old count worst start
  streaming_start {u} {worst} {start} F q K = record {
    inside = F.inside;
    kept = K;
    left = ap (λ es. admit_all cost_in k (take count old) (flat_map cand es)) (sym all_from);
    above = λ g. omega (arith, F.over start (omega arith) g);
  }
    where
      all_from : leaving v (run e 0 edges) ≡ leaving v (run e start (edges - start))
      all_from = let z : edges ≡ start + (edges - start) = omega (arith, F.inside) in
          ap (λ m. leaving v (run e 0 m)) z ∙ lower_skipped e v start (edges - start) (λ j h r. omega (arith, F.under j h))

  module _ (rise : (j k : ℕ) → j ≤ k → k < edges → (e j).from ≤ (e k).from) {new : List ℕ} {made worst i : ℕ}
      (P : Streaming cand e edges v k count old new made worst i) where
    pub streaming_next : {newer : List ℕ} {r last : ℕ} → i < edges → (e i).from ≡ v → Streamed k made new (cand (e i)) newer r last
        → Streaming cand e edges v k count old newer r last (i + 1)
    unfolding flat_map
    streaming_next h q S = record {
      inside = omega arith;
      kept = S.kept;
      left =
          let es = leaving v (run e (i + 1) (edges - (i + 1))) in
          let u : leaving v (run e i (edges - i)) ≡ e i ∷ leaving v (run e (i + 1) (edges - (i + 1))) =
          rw (add-one i) (ap (leaving v) (run_cons e i edges h)
          ∙ leaving_yes v (e i) (run e (suc i) (edges - suc i)) (eq-eqb (e i).from v q)) in
          ap (λ l. admit_all cost_in k l (flat_map cand es)) S.is ∙ sym (admit_append k (take made new) (cand (e i)) (flat_map cand es))
          ∙ ap (λ fs. admit_all cost_in k (take made new) (flat_map cand fs)) (sym u) ∙ P.left;
      above = λ g. omega (arith, rise i (i + 1) (omega arith) g);
    }

    done_by : leaving v (run e i (edges - i)) ≡ [] → Streamed k count old (flat_map cand (leaving v (run e 0 edges))) new made worst
    unfolding flat_map admit_all
    done_by q = record { kept = P.kept; is = ap (λ es. admit_all cost_in k (take made new) (flat_map cand es)) (sym q) ∙ P.left }

    pub streaming_done : edges ≤ i → Streamed k count old (flat_map cand (leaving v (run e 0 edges))) new made worst
    streaming_done h = done_by (ap (leaving v) (run_none e i edges h) ∙ leaving_none v)

    pub streaming_stops : i < edges → ((e i).from ≡ v → ⊥)
        → Streamed k count old (flat_map cand (leaving v (run e 0 edges))) new made worst
    streaming_stops h q = done_by (none_later e v i (edges - i) (λ j a b r. later j a (omega arith) r))
      where
        later : (j : ℕ) → i ≤ j → j < edges → (e j).from ≡ v → ⊥
        later j a b r = q (omega (arith, P.above h, rise i j a b))

-- ---- all items

-- the candidates of the items before i have come
pub record Stepping (f : ℕ → List ℕ) (k : ℕ) (old : List ℕ) (have : ℕ) (new : List ℕ) (made worst i : ℕ) : Type 0 where
  pub inside : i ≤ have
  pub kept : Kept k new made worst
  pub is : take made new ≡ admit_all cost_in k [] (flat_map f (take i old))

module _ {f : ℕ → List ℕ} {k : ℕ} {old : List ℕ} {have : ℕ} where
  pub stepping_start : {new : List ℕ} → 0 < k → length new ≡ most_paths → Stepping f k old have new 0 0 0
  unfolding flat_map admit_all
  stepping_start s l = record {
    inside = omega arith;
    kept = record { most = omega arith; long = l; dearest = λ h. absurd (omega arith) };
    is = refl;
  }

  pub stepping_next : {new newer : List ℕ} {made worst i r last x : ℕ} → Stepping f k old have new made worst i → i < have
      → have ≤ length old → x ≡ get_or old i 0 → Streamed k made new (f x) newer r last → Stepping f k old have newer r last (i + 1)
  unfolding flat_map
  stepping_next {new} {newer} {made} {i = i} {r} {last} P h l e T =
      let S : Streamed k made new (f (get_or old i 0)) newer r last = subst (λ z. Streamed k made new (f z) newer r last) e T in
      let t : take (i + 1) old ≡ take i old ++ (get_or old i 0 ∷ []) = rw (add-one i) (take-suc old i 0 (omega arith)) in
      let u : flat_map f (take (i + 1) old) ≡ flat_map f (take i old) ++ f (get_or old i 0) =
      ap (flat_map f) t ∙ flat_map_append f (take i old) (get_or old i 0 ∷ [])
      ∙ ap (λ ys. flat_map f (take i old) ++ ys) (append-nil (f (get_or old i 0))) in
      record {
        inside = omega arith;
        kept = S.kept;
        is =
            S.is ∙ ap (λ l. admit_all cost_in k l (f (get_or old i 0))) P.is
            ∙ sym (admit_append k [] (flat_map f (take i old)) (f (get_or old i 0))) ∙ ap (admit_all cost_in k []) (sym u);
      }

  pub stepping_all : {new : List ℕ} {made worst i : ℕ} → Stepping f k old have new made worst i → have ≤ i
      → Stepped k (flat_map f (take have old)) new made worst
  stepping_all {i = i} P h =
      let e : i ≡ have = omega (arith, P.inside) in
      let z : keep_best cost_in k [] ≡ [] = kept_all cost_in k [] (omega arith) in
      record {
        kept = P.kept;
        is =
            P.is ∙ ap (λ n. admit_all cost_in k [] (flat_map f (take n old))) e
            ∙ ap (λ l. admit_all cost_in k l (flat_map f (take have old))) (sym z) ∙ keep_admitted cost_in k [] (flat_map f (take have old));
      }
