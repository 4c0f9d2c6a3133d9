-- One block, edge by edge: what is kept behind a block, word by word, is what is kept edge by edge along its section. The words of a state
-- are the paths of its vertex, so growing by a word is growing by n edges; and what a beginning is rated inside the block is what the cost
-- table behind it says.
use mathlib.Core.Path.{◌≡◌, refl, sym, ap, ap₂, subst, ◌∙◌}
use mathlib.Core.Bool.{Bool, cond}
use mathlib.Core.Logic.{⊎_elim}
use mathlib.Core.List.Memᴰ
use mathlib.Core.List.{List, [], ◌∷◌, ◌++◌, append-nil, map, flat_map, Memᴰ}
use Prim.Native.Nat.{ℕ, zero, suc, ◌+◌, ◌*◌, ◌≤◌, ◌<◌}
use native.Mathlib.Omega.{arith}
use native.Mathlib.Nat.{add_assoc, add-zero}
use lib.Dec.{eqb, eqb→eq, ltb}
use lib.ListN.{length}
use borrow.Author.Tests.{eq-eqb, ne_eqb, lt-ltb}
use Rattle.trellis.specs.Lists.{◌∈◌, keep}
use Rattle.trellis.specs.Word.{Word, word}
use Rattle.trellis.specs.Own.{Edge}
use Rattle.trellis.specs.Section.{Path, stop, along, paths_from, pack_onto, word_of}
use Rattle.paths.specs.Chain.{rooted_at}
use Rattle.paths.specs.Inner.Costs.{plus, min_all, least}
use Rattle.paths.specs.Inner.Chains.{chain_graph, chain_least}
use Rattle.paths.specs.Inner.Sections.{section_graph, edge_cost, section_least}
use Rattle.paths.specs.Inner.Ordered.{Ordered, leads}
use Rattle.paths.proofs.Ordered.{of_keep, in_keep, of_flat_map, keep_no, keep_every}
use Rattle.paths.proofs.Sections.{cost_from, paths_are}
use Rattle.paths.proofs.Words.{rooted_none}
use Rattle.paths.proofs.Chain.{least_le, least_block}
use Rattle.paths.proofs.Blocks.{Uses, rooted, least_root}
use Rattle.ranking.specs.Inner.Kept.{keep_best, live, keep_live}
use Rattle.ranking.specs.Inner.Growth.{after, spread, narrow, Start, start, further, extended, rated}
use Rattle.ranking.specs.Inner.Chain.{one_word, chain_rated}
use Rattle.ranking.specs.Inner.Block.{Label, spelled, one_edge, edge_rated, edges_kept, entering, leaving_with}
use Rattle.ranking.proofs.Lists.{map_same, map-map, flat_map_same, flat_map_one, flat_map_flat_map, flat_map_few}
use Rattle.ranking.proofs.Cut.{kept_all}
use Rattle.ranking.proofs.Mapped.{live_map}
use Rattle.ranking.proofs.Narrowed.{narrow_keeps}
use Rattle.ranking.proofs.Starts.{rated_least, spread_paths}

-- ---- entering: a state is that of one root at most

module _ {ws : List Word} {price : Word → ℕ} {edges : ℕ → List Edge} {n : ℕ} {roots : List ℕ} {root_of goal_of : ℕ → ℕ}
    {cost : ℕ → ℕ → ℕ} (U : Uses ws price edges n roots root_of goal_of cost) where
  -- the vertices of a state
  abbrev state_at : ℕ → List ℕ → List ℕ
  state_at s vs = keep (λ u. eqb (root_of u) s) vs

  none_else : (vs : List ℕ) → Ordered (λ u v. root_of u < root_of v) vs → (v : ℕ) → v ∈ vs → state_at (root_of v) vs ≡ v ∷ []
  unfolding keep
  none_else [] a v m = absurd (Memᴰ.not-nil m)
  none_else (u ∷ us) (leads f a) v m = ⊎_elim here (λ k. there k (none_else us a v k)) (Memᴰ.cases_cons m)
    where
      here : v ≡ u → cond (eqb (root_of u) (root_of v)) (u ∷ state_at (root_of v) us) (state_at (root_of v) us) ≡ v ∷ []
      here e =
          let r : root_of u ≡ root_of v = ap root_of (sym e) in
          let o = keep_no (λ u. eqb (root_of u) (root_of v)) us (λ w k. let l = f w k in ne_eqb (root_of w) (root_of v) (omega arith)) in
          rw (eq-eqb (root_of u) (root_of v) r, o) (ap (λ w. w ∷ []) (sym e))

      there : v ∈ us → state_at (root_of v) us ≡ v ∷ []
          → cond (eqb (root_of u) (root_of v)) (u ∷ state_at (root_of v) us) (state_at (root_of v) us) ≡ v ∷ []
      there k r = let l = f v k in rw (ne_eqb (root_of u) (root_of v) (omega arith)) r

  abbrev entered : {H : Type 0} → Start H → ℕ → Start (Label (Start H))
  entered x v = start (record { of = x; label = 0 }) v x.paid

  -- a beginning whose state is that of a root enters there
  pub entering_root : {H : Type 0} (x : Start H) (v : ℕ) → v ∈ roots → root_of v ≡ x.at
      → entering roots root_of x ≡ start (record { of = x; label = 0 }) v x.paid ∷ []
  unfolding entering
  entering_root x v m e =
      ap (map (entered x)) (subst (λ s. state_at s roots ≡ v ∷ []) e (none_else roots U.roots_rise v m))

  -- what is known of a state's vertex
  root_of_lem : (s v : ℕ) (rest : List ℕ) → state_at s roots ≡ v ∷ rest → (v ∈ roots) × (root_of v ≡ s)
  root_of_lem s v rest e =
      let K = of_keep (λ u. eqb (root_of u) s) roots v (subst (Memᴰ v) (sym e) (Memᴰ.head refl)) in
      (K.listed, eqb→eq (root_of v) s K.passes)

  only_root : (s v : ℕ) (rest : List ℕ) → state_at s roots ≡ v ∷ rest → state_at s roots ≡ v ∷ []
  only_root s v rest e =
      let r = root_of_lem s v rest e in
      subst (λ s. state_at s roots ≡ v ∷ []) r.1 (none_else roots U.roots_rise v r.0)

  entering_one : {H : Type 0} (x : Start H) → length (entering roots root_of x) ≤ 1
  unfolding entering
  entering_one x = go (state_at x.at roots) refl
    where
      go : (vs : List ℕ) → state_at x.at roots ≡ vs → length (map (entered x) (state_at x.at roots)) ≤ 1
      go [] e = rw e (omega arith)
      go (v ∷ rest) e = rw (only_root x.at v rest e) (omega arith)

abbrev Begun : Type 0
Begun = Start (List Word)

abbrev Inside : Type 0
Inside = Start (Label Begun)

-- a beginning with one word more
abbrev words_had : Begun → ℕ → ℕ → ℕ → List Word
words_had x root label goal = x.had ++ (word root label goal ∷ [])

abbrev with_word : List Word → Word → List Word
with_word ws w = ws ++ (w ∷ [])

module _ (words : ℕ → List Word) (ends : ℕ → Bool) (dist : ℕ → Word → ℕ) (b : ℕ) {edges : ℕ → List Edge} {n : ℕ} {roots : List ℕ}
    {root_of goal_of : ℕ → ℕ} {cost : ℕ → ℕ → ℕ} (U : Uses (words b) (dist b) edges n roots root_of goal_of cost) where
  -- ---- a word is n edges

  -- what a beginning inside the block and the rest of its path make
  finish : ℕ → Inside → Path → Begun
  finish t x p =
      start (words_had x.had.of x.had.of.at (pack_onto x.had.label p.symbols) (goal_of p.end)) (goal_of p.end)
      (x.paid + cost_from cost t p.symbols)

  finish_along : (t : ℕ) (x : Inside) (e : Edge) (p : Path)
      → finish t x (along e p) ≡ finish (suc t) (further (section_graph edges) (edge_cost cost) spelled t x e) p
  unfolding finish further pack_onto cost_from
  finish_along t x e p =
      ap (start (words_had x.had.of x.had.of.at (pack_onto (x.had.label * 4 + e.symbol) p.symbols) (goal_of p.end))
      (goal_of p.end))
      (sym (add_assoc x.paid (cost t e.symbol) (cost_from cost (suc t) p.symbols)))

  finish_stop : (t : ℕ) (x : Inside) → finish t x (stop x.at) ≡ leaving_with goal_of x
  unfolding finish leaving_with pack_onto cost_from
  finish_stop t x =
      ap (start (words_had x.had.of x.had.of.at x.had.label (goal_of x.at)) (goal_of x.at)) (add-zero x.paid)

  abbrev coming : Inside → List Begun
  coming x = map (finish 0 x) (paths_from edges n 0 x.at)

  -- all that comes of what has entered
  all_inside : (xs : List Inside) → flat_map coming xs ≡ map (leaving_with goal_of) (spread (one_edge edges cost) n 0 xs)
  unfolding one_edge
  all_inside xs =
      flat_map_same coming _ xs (λ x k. ap (map (finish 0 x)) (sym (paths_are edges n 0 x.at)))
      ∙ spread_paths (section_graph edges) (edge_cost cost) spelled finish finish_along n 0 xs
      ∙ flat_map_same _ (λ x. leaving_with goal_of x ∷ []) (spread (extended (section_graph edges) (edge_cost cost) spelled) n 0 xs)
      (λ x k. ap (λ y. y ∷ []) (finish_stop (after n 0) x))
      ∙ flat_map_one (leaving_with goal_of) (spread (extended (section_graph edges) (edge_cost cost) spelled) n 0 xs)

  abbrev grown : Begun → Word → Begun
  grown x w = further (chain_graph words ends) dist with_word b x w

  word_made : (x : Begun) (v : ℕ) → root_of v ≡ x.at → (p : Path) → p ∈ paths_from edges n 0 v
      → finish 0 (entered U x v) p ≡ grown x (word_of root_of goal_of v p)
  unfolding finish further word_of
  word_made x v e p m =
      ap₂ (λ r c. start (words_had x r (pack_onto 0 p.symbols) (goal_of p.end)) (goal_of p.end) (x.paid + c)) (sym e)
      (sym (U.same_cost v p m))

  one_entered : (x : Begun) → flat_map coming (entering roots root_of x) ≡ one_word words ends dist b x
  unfolding entering one_word extended flat_map
  one_entered x = go (state_at U x.at roots) refl
    where
      go : (vs : List ℕ) → state_at U x.at roots ≡ vs
          → flat_map coming (map (entered U x) vs) ≡ map (grown x) (rooted_at x.at (words b))
      go [] e =
          ap (map (grown x))
          (sym (ap (rooted_at x.at) U.words_are
          ∙ rooted_none edges n root_of goal_of roots x.at
          (λ v m r. Memᴰ.not-nil (subst (Memᴰ v) e
          (in_keep (λ v. eqb (root_of v) x.at) roots v m (eq-eqb (root_of v) x.at r))))))
      go (v ∷ rest) e =
          let r = root_of_lem U x.at v rest e in
          ap (λ l. flat_map coming (map (entered U x) l)) (sym e ∙ only_root U x.at v rest e) ∙ append-nil (coming (entered U x v))
          ∙ map_same _ _ (paths_from edges n 0 v) (word_made x v r.1)
          ∙ sym (map-map (grown x) (word_of root_of goal_of v) (paths_from edges n 0 v))
          ∙ ap (map (grown x)) (sym (ap (λ s. rooted_at s (words b)) (sym r.1) ∙ rooted U v r.0))

  -- growing by a word is growing by n edges
  pub word_by_edges : (ps : List Begun)
      → flat_map (one_word words ends dist b) ps
      ≡ map (leaving_with goal_of) (spread (one_edge edges cost) n 0 (flat_map (entering roots root_of) ps))
  word_by_edges ps =
      flat_map_same (one_word words ends dist b) (λ x. flat_map coming (entering roots root_of x)) ps (λ x k. sym (one_entered x))
      ∙ sym (flat_map_flat_map coming (entering roots root_of) ps) ∙ all_inside (flat_map (entering roots root_of) ps)

  -- ---- what is kept

  module _ (top m : ℕ) where
    -- what is left to pay behind the block
    abbrev pub number : ℕ → ℕ
    number g = chain_least words ends dist top m (suc b) (goal_of g)

    abbrev inside : ℕ → ℕ → Inside → ℕ
    inside j t x = edge_rated edges cost top number j t x

    inside_least : (j t : ℕ) (x : Inside) → inside (suc j) t x ≡ min_all top (inside j (suc t)) (one_edge edges cost t x)
    unfolding edge_rated one_edge
    inside_least j t x = rated_least (section_graph edges) (edge_cost cost) spelled top number j t x

    rated_behind : (t : ℕ) (x : Inside) → chain_rated words ends dist top m (suc b) (leaving_with goal_of x) ≡ inside zero t x
    unfolding chain_rated edge_rated rated leaving_with least chain_least
    rated_behind t x = refl

    -- what has entered is rated as before
    rated_entered : (x : Begun) (y : Inside) → y ∈ entering roots root_of x → inside n 0 y ≡ chain_rated words ends dist top (suc m) b x
    unfolding entering edge_rated chain_rated rated chain_least section_least
    rated_entered x y k =
        let w = Memᴰ.of_map (entered U x) (state_at U x.at roots) k in
        let K = of_keep (λ v. eqb (root_of v) x.at) roots w.0 w.1 in
        let e = eqb→eq (root_of w.0) x.at K.passes in
        let r = least_root U top (chain_least words ends dist top m (suc b)) (least_le words ends dist top m (suc b)) w.0 K.listed in
        subst (λ z. inside n 0 z ≡ chain_rated words ends dist top (suc m) b x) w.2
        (ap (plus top x.paid)
        (sym (least_block words ends dist top m b (root_of w.0) ∙ r) ∙ ap (chain_least words ends dist top (suc m) b) e))

    all_live : (k : ℕ) (ys : List Inside) → length ys ≤ k → ((y : Inside) → y ∈ ys → inside n 0 y < top)
        → keep_live (inside n 0) top k ys ≡ ys
    unfolding keep_live live
    all_live k ys h l =
        ap (keep_best (inside n 0) k) (keep_every (λ y. ltb (inside n 0 y) top) ys (λ y i. lt-ltb (inside n 0 y) top (l y i)))
        ∙ kept_all (inside n 0) k ys h

    -- keeping behind a word from each of k beginnings: enter the section, keep k at each of its depths, leave it with the word
    pub block_kept : (k : ℕ) (ps : List Begun) → length ps ≤ k → ((x : Begun) → x ∈ ps → chain_rated words ends dist top (suc m) b x < top)
        → keep_live (chain_rated words ends dist top m (suc b)) top k (flat_map (one_word words ends dist b) ps)
        ≡ map (leaving_with goal_of) (edges_kept edges cost top number k n 0 (flat_map (entering roots root_of) ps))
    unfolding edges_kept
    block_kept k ps h l =
        ap (keep_live (chain_rated words ends dist top m (suc b)) top k) (word_by_edges ps)
        ∙ live_map (chain_rated words ends dist top m (suc b)) (leaving_with goal_of) top k (spread (one_edge edges cost) n 0 ys)
        ∙ ap (map (leaving_with goal_of))
        (ap (λ f. keep_live f top k (spread (one_edge edges cost) n 0 ys)) (λ i x. rated_behind (after n 0) x i)
        ∙ sym (narrow_keeps (one_edge edges cost) (edge_rated edges cost top number) top inside_least k n 0 ys)
        ∙ ap (narrow (one_edge edges cost) (edge_rated edges cost top number) top k n 0) (all_live k ys few alive))
      where
        ys : List Inside
        ys = flat_map (entering roots root_of) ps

        few : length ys ≤ k
        few = let i = flat_map_few (entering roots root_of) ps (entering_one U) in omega arith

        alive : (y : Inside) → y ∈ ys → inside n 0 y < top
        alive y i =
            let w = of_flat_map (entering roots root_of) ps y i in
            let e = rated_entered w.source y w.holds in
            let j = l w.source w.listed in
            omega arith
