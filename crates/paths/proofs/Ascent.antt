-- The paths of a section from one vertex stand in order, by their symbols and then by where they end, and so do their packed
-- labels. At an inner depth one symbol leads from a vertex to one vertex only, so edges that leave a vertex are told apart by
-- their symbols; at the last step the goals settle it.
use mathlib.Core.Path.{◌≡◌, refl, sym, subst, subst₂, ◌∙◌}
use mathlib.Core.Logic.{◌⊎◌, inl, inr, ⊎_elim}
use mathlib.Core.List.Memᴰ
use mathlib.Core.List.{List, [], ◌∷◌, map}
use Prim.Native.Nat.{ℕ, zero, suc, ◌+◌, ◌*◌, ◌<◌}
use native.Mathlib.Omega.{arith}
use lib.Dec.{T, eqb}
use Rattle.trellis.specs.Lists.{◌∈◌, Lower, by_first, by_second, by_third}
use Rattle.trellis.specs.Own.{Edge, edge_less}
use Rattle.trellis.specs.Section.{Path, stop, along, leaving, paths_from, pack_onto}
use Rattle.trellis.proofs.Ascending.{Ascends}
use Rattle.trellis.proofs.ThreeNumbers.{lower_yes}
use Rattle.paths.specs.Inner.Ordered.{Ordered, ended, leads}
use Rattle.paths.proofs.Ordered.{ordered_of, ordered_keep, ordered_as, ordered_map, ordered_flat_map, of_flat_map}
use Rattle.paths.proofs.Sections.{from_of, listed_of}

-- symbols compared from the first on, then the ends
abbrev pub SymbolsBefore : List ℕ → ℕ → List ℕ → ℕ → Type 0
SymbolsBefore [] g [] h = g < h
SymbolsBefore [] g (b ∷ vs) h = Unit {0}
SymbolsBefore (a ∷ us) g [] h = ⊥
SymbolsBefore (a ∷ us) g (b ∷ vs) h = (a < b) ⊎ ((a ≡ b) × SymbolsBefore us g vs h)

unfoldable pub PathBefore : Path → Path → Type 0
PathBefore p q = SymbolsBefore p.symbols p.end q.symbols q.end

-- edges ascend at each of the n steps, and from one vertex one symbol leads to one vertex only, unless that is a goal
pub record Orderly (edges : ℕ → List Edge) (n : ℕ) : Type 0 where
  pub ascend : (t : ℕ) → t < n → Ascends edge_less (edges t)
  pub single : (t : ℕ) → suc t < n → (e f : Edge) → e ∈ edges t → f ∈ edges t → e.from ≡ f.from → e.symbol ≡ f.symbol → e.to ≡ f.to

-- ---- edges that leave one vertex

abbrev LessSymbol : Edge → Edge → Type 0
LessSymbol e f = e.symbol < f.symbol

abbrev OutBefore : Edge → Edge → Type 0
OutBefore e f = (e.symbol < f.symbol) ⊎ ((e.symbol ≡ f.symbol) × (e.to < f.to))

out_before : (e f : Edge) → e.from ≡ f.from → T (edge_less e f) → OutBefore e f
out_before e f h l = go (lower_yes e.from e.symbol e.to f.from f.symbol f.to l)
  where
    go : Lower e.from e.symbol e.to f.from f.symbol f.to → OutBefore e f
    go (by_first p) = absurd (omega arith)
    go (by_second p q) = inl q
    go (by_third p q r) = inr (q, r)

out_ordered : (v : ℕ) (es : List Edge) → Ascends edge_less es → Ordered OutBefore (leaving v es)
unfolding leaving
out_ordered v es a =
    ordered_as (λ e f m k. out_before e f (from_of v es e m ∙ sym (from_of v es f k)))
    (ordered_keep (λ e. eqb e.from v) (ordered_of edge_less es a))

module _ (edges : ℕ → List Edge) (n : ℕ) (O : Orderly edges n) where
  symbols_ordered : (t v : ℕ) → suc t < n → Ordered LessSymbol (leaving v (edges t))
  symbols_ordered t v h = ordered_as strict (out_ordered v (edges t) (O.ascend t (omega arith)))
    where
      strict : (e f : Edge) → e ∈ leaving v (edges t) → f ∈ leaving v (edges t) → OutBefore e f → LessSymbol e f
      strict e f m k (inl p) = p
      strict e f m k (inr p) =
          let l = O.single t h e f (listed_of v (edges t) e m) (listed_of v (edges t) f k)
          (from_of v (edges t) e m ∙ sym (from_of v (edges t) f k)) p.0 in
          let q = p.1 in
          absurd (omega arith)

  one_ordered : (p : Path) → Ordered PathBefore (p ∷ [])
  one_ordered p = leads (λ y m. absurd (Memᴰ.not-nil m)) ended

  pub paths_ordered : (k t v : ℕ) → t + k ≡ n → Ordered PathBefore (paths_from edges k t v)
  unfolding paths_from PathBefore
  paths_ordered zero t v h = one_ordered (stop v)
  paths_ordered (suc zero) t v h =
      ordered_flat_map (λ e. map (along e) (stop e.to ∷ [])) (out_ordered v (edges t) (O.ascend t (omega arith)))
      (λ e m. one_ordered (along e (stop e.to))) across
    where
      across : (e f : Edge) → OutBefore e f → (p q : Path) → p ∈ along e (stop e.to) ∷ [] → q ∈ along f (stop f.to) ∷ []
          → PathBefore p q
      across e f r p q m k = subst₂ PathBefore (sym (Memᴰ.eq_of_singleton m)) (sym (Memᴰ.eq_of_singleton k)) r
  paths_ordered (suc (suc k)) t v h =
      ordered_flat_map (λ e. map (along e) (paths_from edges (suc k) (suc t) e.to)) (symbols_ordered t v (omega arith))
      (λ e m. ordered_map (along e) (λ p q r. inr (refl, r)) (paths_ordered (suc k) (suc t) e.to (omega arith))) across
    where
      across : (e f : Edge) → LessSymbol e f → (p q : Path) → p ∈ map (along e) (paths_from edges (suc k) (suc t) e.to)
          → q ∈ map (along f) (paths_from edges (suc k) (suc t) f.to) → PathBefore p q
      across e f r p q m l =
          let x = Memᴰ.of_map (along e) (paths_from edges (suc k) (suc t) e.to) m in
          let y = Memᴰ.of_map (along f) (paths_from edges (suc k) (suc t) f.to) l in
          subst₂ PathBefore x.2 y.2 (inl r)

-- ---- packed at two bits a symbol: the order of labels is that of the symbols

-- n symbols below 4
pub data Symbols : ℕ → List ℕ → Type 0 where
  no_more : Symbols 0 []
  one_more : {n a : ℕ} {rest : List ℕ} → a < 4 → Symbols n rest → Symbols (suc n) (a ∷ rest)

-- what is smaller in front stays smaller
pack_lt : {n : ℕ} {us vs : List ℕ} → Symbols n us → Symbols n vs → (x y : ℕ) → x < y → pack_onto x us < pack_onto y vs
unfolding pack_onto
pack_lt no_more no_more x y h = h
pack_lt (one_more {a = a} p s) (one_more {a = b} q r) x y h = pack_lt s r (x * 4 + a) (y * 4 + b) (omega arith)

pub pack_before : {n : ℕ} {us vs : List ℕ} {g h : ℕ} → Symbols n us → Symbols n vs → (x : ℕ) → SymbolsBefore us g vs h
    → (pack_onto x us < pack_onto x vs) ⊎ ((pack_onto x us ≡ pack_onto x vs) × (g < h))
unfolding pack_onto
pack_before no_more no_more x e = inr (refl, e)
pack_before {g = g} {h} (one_more {a = a} {rest = us} p s) (one_more {a = b} {rest = vs} q r) x e =
    ⊎_elim (λ l. inl (pack_lt s r (x * 4 + a) (x * 4 + b) (omega arith)))
    (λ w. subst (λ c. (pack_onto (x * 4 + a) us < pack_onto (x * 4 + c) vs) ⊎ ((pack_onto (x * 4 + a) us ≡ pack_onto (x * 4 + c) vs) × (g < h)))
    w.0
    (pack_before s r (x * 4 + a) w.1))
    e

-- ---- symbols below 4, goals below a number

pub record Bounded (edges : ℕ → List Edge) (n goals : ℕ) : Type 0 where
  pub symbol_lt : (t : ℕ) → t < n → (e : Edge) → e ∈ edges t → e.symbol < 4
  pub goal_lt : (t : ℕ) → suc t ≡ n → (e : Edge) → e ∈ edges t → e.to < goals

pub record PathFits (k goals : ℕ) (p : Path) : Type 0 where
  pub symbols_fit : Symbols k p.symbols
  pub end_fits : p.end < goals

module _ (edges : ℕ → List Edge) (n goals : ℕ) (B : Bounded edges n goals) where
  pub paths_fit : (k t v : ℕ) → t + suc k ≡ n → (p : Path) → p ∈ paths_from edges (suc k) t v → PathFits (suc k) goals p
  unfolding paths_from
  paths_fit zero t v h p m =
      let z = of_flat_map (λ e. map (along e) (stop e.to ∷ [])) (leaving v (edges t)) p m in
      let e = z.source in
      let l = listed_of v (edges t) e z.listed in
      let q : p ≡ along e (stop e.to) = Memᴰ.eq_of_singleton z.holds in
      subst (PathFits 1 goals) (sym q)
      (record { symbols_fit = one_more (B.symbol_lt t (omega arith) e l) no_more; end_fits = B.goal_lt t (omega arith) e l })
  paths_fit (suc k) t v h p m =
      let z = of_flat_map (λ e. map (along e) (paths_from edges (suc k) (suc t) e.to)) (leaving v (edges t)) p m in
      let e = z.source in
      let x = Memᴰ.of_map (along e) (paths_from edges (suc k) (suc t) e.to) z.holds in
      let F = paths_fit k (suc t) e.to (omega arith) x.0 x.1 in
      let l = B.symbol_lt t (omega arith) e (listed_of v (edges t) e z.listed) in
      subst (PathFits (suc (suc k)) goals) x.2 (record { symbols_fit = one_more l F.symbols_fit; end_fits = F.end_fits })
