-- One block of numbers is one block of beginnings: the slots enter the block's section at the roots of their states, go through it as
-- items, and leave it as slots with back pointers; what they stand for then is what is kept behind the block. On the way in, what is left
-- to pay from a root is what is left from its state, so an item costs what its slot did; inside, items stand for beginnings; on the way
-- out, the back pointer has the word, and what is left to pay at a goal is what is left from its state.
use mathlib.Core.Path.{◌≡◌, refl, sym, ap, ap₂, subst, ◌∙◌}
use mathlib.Core.Bool.{Bool}
use mathlib.Core.List.{List, [], ◌∷◌, ◌++◌, map, flat_map, Memᴰ}
use Prim.Native.Nat.{ℕ, suc, ◌-◌, ◌≤◌, ◌<◌}
use native.Mathlib.Omega.{arith}
use lib.ListN.{length, get_or, take}
use Rattle.trellis.specs.Bounds.{most_paths, most_states}
use Rattle.trellis.specs.Lists.{◌∈◌}
use Rattle.trellis.specs.Word.{Word, word}
use Rattle.trellis.specs.Layout.{n_of, vertex_count_of, roots_place, goals_place, root_state, goal_state, step_edges}
use Rattle.trellis.proofs.Lists.{each_same, length_run, of_each, in_each}
use Rattle.paths.specs.Chain.{unreached}
use Rattle.paths.specs.Inner.Costs.{plus}
use Rattle.paths.specs.Inner.Chains.{chain_least}
use Rattle.paths.specs.Inner.Sections.{section_graph, edge_cost}
use Rattle.ranking.specs.Inner.Kept.{keep_live}
use Rattle.ranking.specs.Inner.Growth.{Start, start, rated}
use Rattle.ranking.specs.Inner.Chain.{one_word, chain_rated}
use Rattle.ranking.specs.Inner.Block.{Label, spelled, one_edge, edge_rated, edges_kept, entering, leaving_with}
use Rattle.ranking.proofs.Lists.{map-map}
use Rattle.ranking.proofs.Block.{entering_root, block_kept}
use Rattle.ranking.proofs.Renamed.{renamed, narrow_renamed}
use Rattle.dearest.specs.Inner.Items.{cost_in, code_in, item_of}
use Rattle.section_file.proofs.Seen.{parts}
use Rattle.codes.specs.Inner.Codes.{code, code_root, code_vertex, code_label}
use Rattle.least_rows.specs.Inner.Rows.{row_at}
use Rattle.totals.specs.Inner.Totals.{paid_for}
use Rattle.one_step.specs.Inner.Steps.{stepped_from}
use Rattle.one_step.specs.Inner.Loops.{Gone}
use Rattle.beginnings.specs.Inner.Trails.{back_at, state_at, trail, begun_at, Slots}
use Rattle.beginnings.specs.Inner.Entering.{state_from, AllEntered, Leavable, Left}
use Rattle.beginnings.specs.Inner.Standing.{opened, Item}
use Rattle.beginnings.proofs.Standing.{Parts, parts_of, opened_by, item_by, AllItems, section_items, section_stands}
use Rattle.beginnings.proofs.Runs.{map_each, flat_each, take_each, of_take, in_take}
use Rattle.beginnings.proofs.Notes.{Coded, state_same, trail_same, noted_parts, kept_before, noted_well}
use Rattle.beginnings.proofs.Sections.{roots_of, Prepared, goal_lt, row_goal, row_root}
use Rattle.beginnings.proofs.Rooted.{slot_state}

module _ {words : ℕ → List Word} {ends : ℕ → Bool} {dist : ℕ → Word → ℕ} {m b : ℕ} {l : List ℕ} {cost : ℕ → ℕ → ℕ} {rows prices : List ℕ}
    (W : Prepared words ends dist m b l cost rows prices) where
  -- what is left to pay from a state, behind the block and in front of it
  abbrev rest_next : ℕ → ℕ
  rest_next s = chain_least words ends dist unreached m (suc b) s

  abbrev before : ℕ → ℕ
  before s = chain_least words ends dist unreached (suc m) b s

  module _ {back : List ℕ} {first : ℕ} {slots items : List ℕ} {have : ℕ} {kept : List (Start (List Word))}
      (S : Slots back first before slots b have kept) (E : AllEntered l (roots_place l) (vertex_count_of l 0) slots items have) where
    abbrev begun : ℕ → Start (List Word)
    begun j = begun_at back first before slots b j

    root_is : (i : ℕ) (h : i < have) → root_state l (E.at i h).root ≡ state_at back first b i
    unfolding root_state
    root_is i h = (E.at i h).state ∙ slot_state S i h

    row_first : (i : ℕ) (h : i < have) → row_at rows 0 (E.at i h).root ≡ before (state_at back first b i)
    row_first i h = row_root W (E.at i h).root (E.at i h).below ∙ ap before (root_is i h)

    -- what is read off an item that has just entered
    first_parts : (i : ℕ) (h : i < have) → Parts (get_or items i 0) (cost_in (get_or slots i 0)) i (E.at i h).root 0
    first_parts i h =
        let r = (E.at i h).below in
        let c = W.fitted.counts_le 0 (omega arith) in
        subst (λ x. Parts x (cost_in (get_or slots i 0)) i (E.at i h).root 0) (sym (E.at i h).is)
        (parts_of (cost_in (get_or slots i 0)) i (E.at i h).root 0 (omega (arith, S.few)) (omega arith) (omega arith))

    fewer : have ≤ length items
    fewer = omega (arith, E.long, S.few)

    first_items : AllItems W.fitted have 0 (take have items)
    first_items x k =
        let Q = of_take items have x fewer k in
        let i = Q.at in
        let h = Q.below in
        let p = S.paid i h in
        subst (Item (vertex_count_of l) rows have 0) (sym Q.is)
        (item_by W.fitted have 0 (first_parts i h) h (S.low i h) (E.at i h).below (omega arith) (omega (arith, row_first i h)))

    -- the beginning that a place stands for
    abbrev named : Label ℕ → Label (Start (List Word))
    named y = record { of = begun y.of; label = y.label }

    entering_first : (i : ℕ) → i < have
        → entering (roots_of l) (root_state l) (begun i) ≡ renamed named (opened rows 0 (get_or items i 0)) ∷ []
    unfolding renamed begun_at
    entering_first i h =
        let v = (E.at i h).root in
        entering_root W.block.uses (begun i) v (in_each (λ u. u) (vertex_count_of l 0) v v (E.at i h).below refl) (root_is i h)
        ∙ ap (λ y. y ∷ [])
        (ap (λ r. start (record { of = begun i; label = 0 }) v (cost_in (get_or slots i 0) - r)) (sym (row_first i h))
        ∙ ap (renamed named) (sym (opened_by W.fitted have 0 (first_parts i h))))

    entering_all : flat_map (entering (roots_of l) (root_state l)) kept ≡ map (renamed named) (map (opened rows 0) (take have items))
    entering_all =
        ap (flat_map (entering (roots_of l) (root_state l))) S.are
        ∙ flat_each (entering (roots_of l) (root_state l)) (λ i. renamed named (opened rows 0 (get_or items i 0))) begun have entering_first
        ∙ sym (ap (λ xs. map (renamed named) (map (opened rows 0) xs)) (take_each items have fewer)
        ∙ ap (map (renamed named)) (map_each (opened rows 0) (λ i. get_or items i 0) have)
        ∙ map_each (renamed named) (λ i. opened rows 0 (get_or items i 0)) have)

    begun_rated : (i : ℕ) → i < have → chain_rated words ends dist unreached (suc m) b (begun i) ≡ cost_in (get_or slots i 0)
    unfolding chain_rated rated begun_at plus chain_least
    begun_rated i h = let a = S.low i h in let c = S.paid i h in omega arith

    kept_rated : (x : Start (List Word)) → x ∈ kept → chain_rated words ends dist unreached (suc m) b x < unreached
    kept_rated x k =
        let Q = of_each begun have x (subst (Memᴰ x) S.are k) in
        let e = ap (chain_rated words ends dist unreached (suc m) b) Q.is in
        omega (arith, begun_rated Q.at Q.below, S.low Q.at Q.below)

    kept_length : length kept ≡ have
    kept_length = ap length S.are ∙ length_run begun 0 have

    -- an item behind the block, as a beginning
    abbrev standing : ℕ → Start (List Word)
    standing x = leaving_with (goal_state l) (renamed named (opened rows (n_of l) x))

    -- what is kept behind the block, as items
    items_stand : (k : ℕ) → have ≤ k
        → keep_live (chain_rated words ends dist unreached m (suc b)) unreached k (flat_map (one_word words ends dist b) kept)
        ≡ map standing (stepped_from (step_edges l) rows prices k (n_of l) 0 (take have items))
    unfolding edges_kept one_edge edge_rated
    items_stand k h =
        let number : ℕ → ℕ = λ g. rest_next (goal_state l g) in
        let left : List ℕ = stepped_from (step_edges l) rows prices k (n_of l) 0 (take have items) in
        block_kept words ends dist b W.block.uses unreached m k kept (omega (arith, kept_length)) kept_rated
        ∙ ap (λ xs. map (leaving_with (goal_state l)) (edges_kept (step_edges l) cost unreached number k (n_of l) 0 xs)) entering_all
        ∙ ap (map (leaving_with (goal_state l)))
        (narrow_renamed (section_graph (step_edges l)) (edge_cost cost) spelled spelled named (λ x e. refl) unreached number k (n_of l) 0
        (map (opened rows 0) (take have items))
        ∙ ap (map (renamed named)) (section_stands W.fitted have k (n_of l) 0 (omega arith) (take have items) first_items)
        ∙ map-map (renamed named) (opened rows (n_of l)) left)
        ∙ map-map (leaving_with (goal_state l)) (λ x. renamed named (opened rows (n_of l) x)) left

    -- ---- behind the block

    module _ {k count : ℕ} {new : List ℕ} (few : k ≤ most_paths) (G : Gone (step_edges l) rows prices k (n_of l) have items new count) where
      count_le : count ≤ length new
      count_le = omega (arith, G.most, G.long)

      pub item_in : (j : ℕ) → j < count → Item (vertex_count_of l) rows have (n_of l) (get_or new j 0)
      item_in j h =
          section_items W.fitted have k (n_of l) 0 (omega arith) (take have items) first_items (get_or new j 0)
          (subst (Memᴰ (get_or new j 0)) G.is (in_take new count j count_le h))

      pub leavable : Leavable l (goals_place l) new count
      unfolding goal_state
      leavable = record {
        inside = λ j h. let P = parts l in
            omega (arith, (item_in j h).within, P.pairs_at, P.symbols_at, P.end_at, W.block.sound.whole);
        of = λ j h. omega (arith, (item_in j h).of, S.few);
        small = λ j h. goal_lt W (code_vertex (code_in (get_or new j 0))) (item_in j h).within;
      }

      module _ {new_slots new_back : List ℕ} (wide : have ≤ k) (L : Left (state_from l (goals_place l)) new b count new_slots back new_back) where
        abbrev item_at : ℕ → ℕ
        item_at j = get_or new j 0

        abbrev vertex : ℕ → ℕ
        vertex j = code_vertex (code_in (item_at j))

        abbrev from : ℕ → ℕ
        from j = code_root (code_in (item_at j))

        abbrev spelt : ℕ → ℕ
        spelt j = code_label (code_in (item_at j))

        goal_small : (j : ℕ) → j < count → goal_state l (vertex j) < most_states
        goal_small j h = goal_lt W (vertex j) (item_in j h).within

        noted : (j : ℕ) → j < count → Coded (back_at new_back first b j) (from j) (goal_state l (vertex j)) (spelt j)
        unfolding goal_state
        noted j h = noted_parts (goals_place l) leavable L j h

        slot_parts : (j : ℕ) → j < count → Parts (get_or new_slots j 0) (cost_in (item_at j)) j (goal_state l (vertex j)) 0
        unfolding goal_state
        slot_parts j h =
            let g = state_from l (goals_place l) (vertex j) in
            subst (λ x. Parts x (cost_in (item_at j)) j g 0) (sym (L.at j h))
            (parts_of (cost_in (item_at j)) j g 0 (omega (arith, G.most)) (omega (arith, goal_small j h)) (omega arith))

        slot_code : (j : ℕ) → j < count → code_in (get_or new_slots j 0) ≡ code j (goal_state l (vertex j)) 0
        unfolding goal_state
        slot_code j h =
            let g = state_from l (goals_place l) (vertex j) in
            ap code_in (L.at j h) ∙ code_back (cost_in (item_at j)) j g (omega (arith, G.most)) (goal_small j h)
          where
            code_back : (c i g : ℕ) → i < most_paths → g < most_states → code_in (item_of c (code i g 0)) ≡ code i g 0
            code_back c i g p q = omega arith

        state_next : (j : ℕ) → j < count → state_at new_back first (suc b) j ≡ goal_state l (vertex j)
        unfolding state_at
        state_next j h = (noted j h).vertex_is

        begun_next : (j : ℕ) → j < count → standing (item_at j) ≡ begun_at new_back first rest_next new_slots (suc b) j
        unfolding leaving_with renamed opened paid_for begun_at trail state_at
        begun_next j h =
            let C = noted j h in
            let g = goal_state l (vertex j) in
            let f : from j < most_paths = leavable.of j h in
            let same = kept_before (goals_place l) leavable L in
            let t = trail_same back new_back b first same S.noted.proper b (from j) (omega arith) f in
            let s = state_same back new_back b first same S.noted.proper b (from j) (omega arith) f in
            let c : cost_in (item_at j) - row_at rows (n_of l) (vertex j) ≡ cost_in (get_or new_slots j 0) - rest_next g
            = ap₂ (λ x y. x - y) (sym (slot_parts j h).cost_is) (row_goal W (vertex j) (item_in j h).within) in
            ap₂ (λ (a : List Word) (x : ℕ). start (a ++ (word x (spelt j) g ∷ [])) g (cost_in (item_at j) - row_at rows (n_of l) (vertex j)))
            (sym t) (sym s)
            ∙ ap (start (trail new_back first b (from j) ++ (word (state_at new_back first b (from j)) (spelt j) g ∷ [])) g) c
            ∙ sym (λ i. start (trail new_back first b (C.root_is i)
            ++ (word (state_at new_back first b (C.root_is i)) (C.label_is i) (C.vertex_is i) ∷ [])) (C.vertex_is i)
            (cost_in (get_or new_slots j 0) - rest_next (C.vertex_is i)))

        -- the slots behind the block are the beginnings kept there
        pub slots_next : Slots new_back first rest_next new_slots (suc b) count
            (keep_live (chain_rated words ends dist unreached m (suc b)) unreached k (flat_map (one_word words ends dist b) kept))
        slots_next = record {
          long = L.long;
          few = omega (arith, G.most);
          noted = noted_well (goals_place l) leavable L S.noted;
          are = items_stand k wide ∙ ap (map standing) (sym G.is ∙ take_each new count count_le) ∙ map_each standing item_at count
              ∙ each_same _ _ count count refl begun_next;
          coded = λ j h. slot_code j h ∙ ap (λ s. code j s 0) (sym (state_next j h));
          state_lt = λ j h. subst (λ s. s < most_states) (sym (state_next j h)) (goal_small j h);
          low = λ j h. omega (arith, (slot_parts j h).cost_is, (item_in j h).low);
          paid = λ j h.
              let e : rest_next (state_at new_back first (suc b) j) ≡ row_at rows (n_of l) (vertex j)
              = ap rest_next (state_next j h) ∙ sym (row_goal W (vertex j) (item_in j h).within) in
              omega (arith, (slot_parts j h).cost_is, (item_in j h).paid);
        }
