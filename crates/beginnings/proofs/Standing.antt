-- What is kept as numbers stands for what is kept of beginnings. An item is rated by its cost, since the rows hold the least that is left
-- to pay; so its candidates stand for what it becomes along the edges that leave its vertex, where there is a path behind them. Keeping the
-- k best is the same on both sides, and one step of numbers is one step of beginnings.
use mathlib.Core.Path.{◌≡◌, refl, sym, ap, ap₂, subst, ◌∙◌}
use mathlib.Core.Bool.{Bool, true, false, cond}
use mathlib.Core.List.Memᴰ
use mathlib.Core.List.{List, [], ◌∷◌, map, flat_map}
use Prim.Native.Nat.{ℕ, zero, suc, ◌+◌, ◌-◌, ◌*◌, ◌^◌, ◌≤◌, ◌<◌, min}
use native.Mathlib.Omega.{arith}
use native.Mathlib.Nat.{pow-le-pow_right, lt_of_lt_of_le}
use native.Mathlib.Decide.{dec_le}
use lib.Dec.{ltb, lit<}
use borrow.Author.Tests.{ltb-true, lt-ltb, le-ltb}
use Rattle.trellis.specs.Bounds.{most_symbols}
use Rattle.trellis.specs.Lists.{◌∈◌, keep}
use Rattle.trellis.specs.Own.{Edge}
use Rattle.trellis.specs.Section.{leaving}
use Rattle.trellis.proofs.Lists.{flat_map_map}
use Rattle.packed.specs.Inner.Packed.{appended}
use Rattle.packed.proofs.Appending.{appended_is, appended_short}
use Rattle.paths.specs.Chain.{unreached}
use Rattle.paths.specs.Inner.Costs.{plus}
use Rattle.paths.specs.Inner.Sections.{section_graph, edge_cost, section_least}
use Rattle.paths.proofs.Ordered.{of_flat_map}
use Rattle.paths.proofs.Sections.{listed_of}
use Rattle.ranking.specs.Inner.Kept.{keep_best, live, keep_live}
use Rattle.ranking.specs.Inner.Growth.{narrow, Start, start, further, extended, rated}
use Rattle.ranking.specs.Inner.Block.{Label, spelled, one_edge, edge_rated, edges_kept}
use Rattle.ranking.proofs.Lists.{map_flat_map, flat_map_same, flat_map_one, keep_flat_map}
use Rattle.ranking.proofs.Cut.{kept_member}
use Rattle.ranking.proofs.Mapped.{kept_map, kept_same}
use Rattle.dearest.specs.Inner.Items.{cost_in, code_in, item_of}
use Rattle.codes.specs.Inner.Codes.{code, code_root, code_vertex, code_label, further_code}
use Rattle.least_rows.specs.Inner.Rows.{row_at}
use Rattle.totals.specs.Inner.Totals.{paid_for, total_of}
use Rattle.one_step.specs.Inner.Steps.{candidate, candidates, stepped_from}
use Rattle.beginnings.specs.Inner.Standing.{opened, Fitted, Item}

live_flat_map : {A B : Type 0} (rate : B → ℕ) (bound : ℕ) (g : A → List B) (xs : List A)
    → live rate bound (flat_map g xs) ≡ flat_map (λ x. live rate bound (g x)) xs
unfolding live
live_flat_map rate bound g xs = keep_flat_map (λ y. ltb (rate y) bound) g xs

-- ---- numbers

-- what is read off an item
pub record Parts (x cost root vertex label : ℕ) : Type 0 where
  pub cost_is : cost_in x ≡ cost
  pub root_is : code_root (code_in x) ≡ root
  pub vertex_is : code_vertex (code_in x) ≡ vertex
  pub label_is : code_label (code_in x) ≡ label

-- each part fits in its bits: six for the place, ten for the vertex, sixteen for the label
pub parts_of : (cost root vertex label : ℕ) → root < 64 → vertex < 1024 → label < 65536
    → Parts (item_of cost (code root vertex label)) cost root vertex label
parts_of cost root vertex label r v l =
    record { cost_is = omega arith; root_is = omega arith; vertex_is = omega arith; label_is = omega arith }

root_small : (x : ℕ) → code_root (code_in x) < 64
root_small x = omega arith

module _ {edges : ℕ → List Edge} {n : ℕ} {counts : ℕ → ℕ} {cost : ℕ → ℕ → ℕ} {number : ℕ → ℕ} {rows prices : List ℕ}
    (F : Fitted edges n counts cost number rows prices) (have : ℕ) where
  abbrev rated_at : ℕ → Start (Label ℕ) → ℕ
  rated_at t x = edge_rated edges cost unreached number (n - t) t x

  -- an item is rated by its cost
  pub item_rated : (t x : ℕ) → t ≤ n → Item counts rows have t x → rated_at t (opened rows t x) ≡ cost_in x
  unfolding edge_rated rated opened paid_for plus section_least
  item_rated t x h I =
      let r = F.row_is t (code_vertex (code_in x)) h I.within in
      let a = I.low in
      let b = I.paid in
      omega arith

  pub opened_by : (t : ℕ) {x c r v l : ℕ} → Parts x c r v l
      → opened rows t x ≡ start (record { of = r; label = l }) v (c - row_at rows t v)
  unfolding opened paid_for
  opened_by t P =
      λ i. start (record { of = P.root_is i; label = P.label_is i }) (P.vertex_is i) (P.cost_is i - row_at rows t (P.vertex_is i))

  pub item_by : (t : ℕ) {x c r v l : ℕ} → Parts x c r v l → r < have → c < unreached → v < counts t → l < 4 ^ t → row_at rows t v ≤ c
      → Item counts rows have t x
  item_by t {x} P o a b d e = record {
    low = omega (arith, P.cost_is);
    within = subst (λ w. w < counts t) (sym P.vertex_is) b;
    spelled = subst (λ w. w < 4 ^ t) (sym P.label_is) d;
    of = subst (λ w. w < have) (sym P.root_is) o;
    paid = subst (λ w. row_at rows t w ≤ cost_in x) (sym P.vertex_is) (omega (arith, P.cost_is));
  }

  -- ---- one edge

  module _ (t x : ℕ) (h : t < n) (I : Item counts rows have t x) (e : Edge) (m : e ∈ leaving (code_vertex (code_in x)) (edges t)) where
    listed : e ∈ edges t
    listed = listed_of (code_vertex (code_in x)) (edges t) e m

    -- what the item becomes, as a beginning and as a number
    abbrev next : Start (Label ℕ)
    next = further (section_graph edges) (edge_cost cost) spelled t (opened rows t x) e

    abbrev paid_so_far : ℕ
    paid_so_far = paid_for rows t x

    abbrev total : ℕ
    total = total_of rows prices t paid_so_far e

    abbrev next_item : ℕ
    next_item = item_of total (further_code (code_in x) e)

    total_is : total ≡ paid_so_far + cost t e.symbol + row_at rows (suc t) e.to
    unfolding total_of
    total_is = ap (λ p. paid_so_far + p + row_at rows (suc t) e.to) (F.price_is t e.symbol h (F.symbol_lt t h e listed))

    next_rated : rated_at (suc t) next ≡ min unreached total
    unfolding edge_rated rated opened plus section_least further
    next_rated =
        ap (λ y. min unreached (paid_so_far + cost t e.symbol + y)) (sym (F.row_is (suc t) e.to h (F.to_lt t h e listed)))
        ∙ ap (min unreached) (sym total_is)

    same_life : ltb (rated_at (suc t) next) unreached ≡ ltb total unreached
    same_life = go (dec_le unreached total)
      where
        go : Dec (unreached ≤ total) → ltb (rated_at (suc t) next) unreached ≡ ltb total unreached
        go (yes l) = le-ltb (rated_at (suc t) next) unreached (omega (arith, next_rated)) ∙ sym (le-ltb total unreached l)
        go (no l) =
            lt-ltb (rated_at (suc t) next) unreached (omega (arith, next_rated)) ∙ sym (lt-ltb total unreached (omega arith))

    label_fits : appended (code_label (code_in x)) e.symbol ≡ code_label (code_in x) * 4 + e.symbol
    label_fits = appended_is t (code_label (code_in x)) e.symbol I.spelled (omega (arith, F.short)) (F.symbol_lt t h e listed)

    label_short : appended (code_label (code_in x)) e.symbol < 4 ^ suc t
    label_short = appended_short t (code_label (code_in x)) e.symbol I.spelled (omega (arith, F.short)) (F.symbol_lt t h e listed)

    next_parts : Parts next_item total (code_root (code_in x)) e.to (appended (code_label (code_in x)) e.symbol)
    next_parts =
        let g : suc t ≤ most_symbols = omega (arith, F.short) in
        let q : 4 ^ suc t ≤ 4 ^ most_symbols = pow-le-pow_right (lit< tt) g in
        let v = F.to_lt t h e listed in
        let w = F.counts_le (suc t) h in
        parts_of total (code_root (code_in x)) e.to (appended (code_label (code_in x)) e.symbol) (root_small x) (omega arith)
        (lt_of_lt_of_le label_short q)

    -- a candidate stands for what the item becomes
    opened_next : opened rows (suc t) next_item ≡ next
    unfolding opened further
    opened_next =
        let a = total_is in
        let d : total - row_at rows (suc t) e.to ≡ paid_so_far + cost t e.symbol = omega arith in
        opened_by (suc t) next_parts
        ∙ ap₂ (λ y c. start (record { of = code_root (code_in x); label = y }) e.to c) label_fits d

    next_item_lem : total < unreached → Item counts rows have (suc t) next_item
    next_item_lem l =
        let a = total_is in item_by (suc t) next_parts I.of l (F.to_lt t h e listed) label_short (omega arith)

    -- one edge: nothing, or one candidate
    one_candidate : live (rated_at (suc t)) unreached (next ∷ [])
        ≡ map (opened rows (suc t)) (candidate rows prices t paid_so_far (code_in x) e)
    unfolding live keep candidate
    one_candidate = rw same_life (go (ltb total unreached))
      where
        go : (b : Bool) → cond b (next ∷ []) [] ≡ map (opened rows (suc t)) (cond b (next_item ∷ []) [])
        go true = ap (λ y. y ∷ []) (sym opened_next)
        go false = refl

    candidate_item : (y : ℕ) → y ∈ candidate rows prices t paid_so_far (code_in x) e → Item counts rows have (suc t) y
    unfolding candidate
    candidate_item y k = go (ltb total unreached) refl k
      where
        go : (b : Bool) → ltb total unreached ≡ b → y ∈ cond b (next_item ∷ []) [] → Item counts rows have (suc t) y
        go true i j =
            subst (Item counts rows have (suc t)) (sym (Memᴰ.eq_of_singleton j)) (next_item_lem (ltb-true total unreached i))
        go false i j = absurd (Memᴰ.not-nil j)

  -- ---- one item

  candidates_stand : (t x : ℕ) → t < n → Item counts rows have t x
      → live (rated_at (suc t)) unreached (one_edge edges cost t (opened rows t x))
      ≡ map (opened rows (suc t)) (candidates rows prices t (edges t) x)
  unfolding one_edge extended opened
  candidates_stand t x h I =
      let out : List Edge = leaving (code_vertex (code_in x)) (edges t) in
      let go : Edge → Start (Label ℕ) = further (section_graph edges) (edge_cost cost) spelled t (opened rows t x) in
      ap (live (rated_at (suc t)) unreached) (sym (flat_map_one go out))
      ∙ live_flat_map (rated_at (suc t)) unreached (λ e. go e ∷ []) out
      ∙ flat_map_same _ _ out (λ e m. one_candidate t x h I e m)
      ∙ sym (map_flat_map (opened rows (suc t)) (candidate rows prices t (paid_for rows t x) (code_in x)) out)

  -- ---- one step

  abbrev pub AllItems : ℕ → List ℕ → Type 0
  AllItems t xs = (x : ℕ) → x ∈ xs → Item counts rows have t x

  abbrev coming : ℕ → List ℕ → List ℕ
  coming t xs = flat_map (candidates rows prices t (edges t)) xs

  coming_items : (t : ℕ) → t < n → (xs : List ℕ) → AllItems t xs → AllItems (suc t) (coming t xs)
  coming_items t h xs a y m =
      let w = of_flat_map (candidates rows prices t (edges t)) xs y m in
      let x = w.source in
      let v = of_flat_map (candidate rows prices t (paid_for rows t x) (code_in x)) (leaving (code_vertex (code_in x)) (edges t)) y w.holds in
      candidate_item t x h (a x w.listed) v.source v.listed y v.holds

  live_coming : (t : ℕ) → t < n → (xs : List ℕ) → AllItems t xs
      → live (rated_at (suc t)) unreached (flat_map (one_edge edges cost t) (map (opened rows t) xs)) ≡ map (opened rows (suc t)) (coming t xs)
  live_coming t h xs a =
      live_flat_map (rated_at (suc t)) unreached (one_edge edges cost t) (map (opened rows t) xs)
      ∙ flat_map_map (λ y. live (rated_at (suc t)) unreached (one_edge edges cost t y)) (opened rows t) xs
      ∙ flat_map_same _ _ xs (λ x m. candidates_stand t x h (a x m))
      ∙ sym (map_flat_map (opened rows (suc t)) (candidates rows prices t (edges t)) xs)

  step_items : (k t : ℕ) → t < n → (xs : List ℕ) → AllItems t xs → AllItems (suc t) (keep_best cost_in k (coming t xs))
  step_items k t h xs a y m = coming_items t h xs a y (kept_member cost_in k (coming t xs) y m)

  step_stands : (k t : ℕ) → t < n → (xs : List ℕ) → AllItems t xs
      → keep_live (rated_at (suc t)) unreached k (flat_map (one_edge edges cost t) (map (opened rows t) xs))
      ≡ map (opened rows (suc t)) (keep_best cost_in k (coming t xs))
  unfolding keep_live
  step_stands k t h xs a =
      ap (keep_best (rated_at (suc t)) k) (live_coming t h xs a) ∙ kept_map (rated_at (suc t)) (opened rows (suc t)) k (coming t xs)
      ∙ ap (map (opened rows (suc t)))
      (kept_same (λ y. rated_at (suc t) (opened rows (suc t) y)) cost_in k (coming t xs)
      (λ y m. item_rated (suc t) y h (coming_items t h xs a y m)))

  -- ---- all steps

  -- what is kept are items
  pub section_items : (k m t : ℕ) → t + m ≡ n → (xs : List ℕ) → AllItems t xs → AllItems n (stepped_from edges rows prices k m t xs)
  unfolding stepped_from
  section_items k zero t e xs a = let i : t ≡ n = omega arith in subst (λ u. AllItems u xs) i a
  section_items k (suc m) t e xs a =
      section_items k m (suc t) (omega arith) (keep_best cost_in k (coming t xs)) (step_items k t (omega arith) xs a)

  -- and stands for what is kept of beginnings
  pub section_stands : (k m t : ℕ) → t + m ≡ n → (xs : List ℕ) → AllItems t xs
      → edges_kept edges cost unreached number k m t (map (opened rows t) xs) ≡ map (opened rows n) (stepped_from edges rows prices k m t xs)
  unfolding edges_kept narrow stepped_from
  section_stands k zero t e xs a = let i : t ≡ n = omega arith in ap (λ u. map (opened rows u) xs) i
  section_stands k (suc m) t e xs a =
      let h : t < n = omega arith in
      let i : m ≡ n - suc t = omega arith in
      ap (λ j. narrow (one_edge edges cost) (edge_rated edges cost unreached number) unreached k m (suc t)
      (keep_live (edge_rated edges cost unreached number j (suc t)) unreached k (flat_map (one_edge edges cost t) (map (opened rows t) xs)))) i
      ∙ ap (narrow (one_edge edges cost) (edge_rated edges cost unreached number) unreached k m (suc t)) (step_stands k t h xs a)
      ∙ section_stands k m (suc t) (omega arith) (keep_best cost_in k (coming t xs)) (step_items k t h xs a)
