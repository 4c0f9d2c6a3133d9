-- Routes through a layered graph of edges: cut and joined at a depth, built through any vertex or edge, and, where no two inner vertices
-- are twins, known by their start and the symbols before a depth, or by their end and the symbols behind it.
use mathlib.Core.Path.{◌≡◌, refl, sym, ap, subst, ◌∙◌}
use mathlib.Core.Bool.{cond}
use mathlib.Core.List.Memᴰ
use mathlib.Core.List.{List}
use Prim.Native.Nat.{ℕ, zero, suc, ◌+◌, ◌-◌, ◌≤◌, ◌<◌}
use native.Mathlib.Omega.{arith}
use native.Mathlib.Nat.{not-suc-le-zero}
use native.Mathlib.Decide.{ℕ_discrete, dec_lt}
use lib.Dec.{ltb}
use borrow.Author.Tests.{lt-ltb, le-ltb}
use Rattle.trellis.specs.Lists.{◌∈◌}
use Rattle.trellis.specs.Own.{Edge, edge}

-- what is left of a section: how many vertices at each depth, the edges of each step, the states of outer vertices
pub record Shape : Type 0 where
  pub count : ℕ → ℕ
  pub edges : ℕ → List Edge
  pub root_of : ℕ → ℕ
  pub goal_of : ℕ → ℕ

-- x and a go along edges from depth low to depth high
pub record Goes (D : Shape) (low high : ℕ) (x a : ℕ → ℕ) : Type 0 where
  pub takes : (u : ℕ) → low ≤ u → u < high → edge (x u) (a u) (x (suc u)) ∈ D.edges u

pub record Leaving (D : Shape) (t v : ℕ) : Type 0 where
  pub by : ℕ
  pub to : ℕ
  pub listed : edge v by to ∈ D.edges t

pub record Entering (D : Shape) (t v : ℕ) : Type 0 where
  pub from : ℕ
  pub by : ℕ
  pub listed : edge from by v ∈ D.edges t

-- what a usable section has
pub record Neat (n : ℕ) (D : Shape) : Type 0 where
  pub some : 0 < n
  pub from_low : (t : ℕ) → t < n → (e : Edge) → e ∈ D.edges t → e.from < D.count t
  pub to_low : (t : ℕ) → t < n → (e : Edge) → e ∈ D.edges t → e.to < D.count (suc t)
  pub onward : (t v : ℕ) → t < n → v < D.count t → Leaving D t v
  pub inward : (t v : ℕ) → t < n → v < D.count (suc t) → Entering D t v
  pub forward : (t x a y z : ℕ) → suc t < n → edge x a y ∈ D.edges t → edge x a z ∈ D.edges t → y ≡ z
  pub backward : (t x y a z : ℕ) → 0 < t → t < n → edge x a z ∈ D.edges t → edge y a z ∈ D.edges t → x ≡ y
  pub roots_one : (u v : ℕ) → u < D.count 0 → v < D.count 0 → D.root_of u ≡ D.root_of v → u ≡ v
  pub goals_one : (u v : ℕ) → u < D.count n → v < D.count n → D.goal_of u ≡ D.goal_of v → u ≡ v

-- ---- cut and joined

-- f in front of t, g from t on
abbrev mixed : ℕ → (ℕ → ℕ) → (ℕ → ℕ) → ℕ → ℕ
mixed t f g u = cond (ltb u t) (f u) (g u)

mixed_before : (t : ℕ) (f g : ℕ → ℕ) (u : ℕ) → u < t → mixed t f g u ≡ f u
mixed_before t f g u h = let e = lt-ltb u t h in rw e

mixed_after : (t : ℕ) (f g : ℕ → ℕ) (u : ℕ) → t ≤ u → mixed t f g u ≡ g u
mixed_after t f g u h = let e = le-ltb u t h in rw e

mixed_to : (t : ℕ) (f g : ℕ → ℕ) → f t ≡ g t → (u : ℕ) → u ≤ t → mixed t f g u ≡ f u
mixed_to t f g e u h = go (ℕ_discrete u t)
  where
    go : Dec (u ≡ t) → mixed t f g u ≡ f u
    go (yes d) = mixed_after t f g u (omega arith) ∙ ap g d ∙ sym e ∙ ap f (sym d)
    go (no d) = mixed_before t f g u (omega arith)

-- two routes that meet at depth t, the one in front of it and the other behind it
pub record Spliced (D : Shape) (low t high : ℕ) (x a y b : ℕ → ℕ) : Type 0 where
  pub z : ℕ → ℕ
  pub c : ℕ → ℕ
  pub goes : Goes D low high z c
  pub before : (u : ℕ) → u ≤ t → z u ≡ x u
  pub after : (u : ℕ) → t ≤ u → z u ≡ y u
  pub spells : (u : ℕ) → u < t → c u ≡ a u
  pub rest : (u : ℕ) → t ≤ u → c u ≡ b u

-- one edge
pub record Along (D : Shape) (t : ℕ) (e : Edge) : Type 0 where
  pub x : ℕ → ℕ
  pub a : ℕ → ℕ
  pub goes : Goes D t (suc t) x a
  pub starts : x t ≡ e.from
  pub spells : a t ≡ e.symbol
  pub ends : x (suc t) ≡ e.to

module _ {D : Shape} where
  pub part : {low high from to : ℕ} {x a : ℕ → ℕ} → Goes D low high x a → low ≤ from → to ≤ high → Goes D from to x a
  part P h k = record { takes = λ u b c. P.takes u (omega arith) (omega arith) }

  pub splice : {low t high : ℕ} {x a y b : ℕ → ℕ} → Goes D low t x a → Goes D t high y b → x t ≡ y t → Spliced D low t high x a y b
  splice {low} {t} {high} {x} {a} {y} {b} P Q e = record {
    z = mixed t x y;
    c = mixed t a b;
    goes = record { takes = λ u h k. step u h k (dec_lt u t) };
    before = mixed_to t x y e;
    after = mixed_after t x y;
    spells = mixed_before t a b;
    rest = mixed_after t a b;
  }
    where
      step : (u : ℕ) → low ≤ u → u < high → Dec (u < t) → edge (mixed t x y u) (mixed t a b u) (mixed t x y (suc u)) ∈ D.edges u
      step u h k (yes d) = Memᴰ.cast (λ i. edge (mixed_before t x y u d i) (mixed_before t a b u d i) (mixed_to t x y e (suc u) d i))
          (P.takes u h d)
      step u h k (no d) = Memᴰ.cast (λ i. edge (mixed_after t x y u (omega arith) i) (mixed_after t a b u (omega arith) i)
          (mixed_after t x y (suc u) (omega arith) i)) (Q.takes u (omega arith) k)

  pub along : (t : ℕ) (e : Edge) → e ∈ D.edges t → Along D t e
  along t e m = record {
    x = mixed (suc t) (λ u. e.from) (λ u. e.to);
    a = λ u. e.symbol;
    goes = record {
      takes = λ u h k. let d : u ≡ t = omega arith in
          subst (λ v. edge (mixed (suc t) (λ u. e.from) (λ u. e.to) v) e.symbol
          (mixed (suc t) (λ u. e.from) (λ u. e.to) (suc v)) ∈ D.edges v) (sym d)
          (Memᴰ.cast (λ i. edge (here i) e.symbol (there i)) m);
    };
    starts = here;
    spells = refl;
    ends = there;
  }
    where
      here : mixed (suc t) (λ u. e.from) (λ u. e.to) t ≡ e.from
      here = mixed_before (suc t) (λ u. e.from) (λ u. e.to) t (omega arith)

      there : mixed (suc t) (λ u. e.from) (λ u. e.to) (suc t) ≡ e.to
      there = mixed_after (suc t) (λ u. e.from) (λ u. e.to) (suc t) (omega arith)

-- ---- through a vertex, through an edge

module _ {n : ℕ} {D : Shape} (N : Neat n D) where
  record Onward (t v : ℕ) : Type 0 where
    x : ℕ → ℕ
    a : ℕ → ℕ
    goes : Goes D t n x a
    starts : x t ≡ v

  record Inward (t v : ℕ) : Type 0 where
    x : ℕ → ℕ
    a : ℕ → ℕ
    goes : Goes D 0 t x a
    ends : x t ≡ v

  -- an edge in front of a route, and behind one
  lead : {t : ℕ} {e : Edge} → Along D t e → Onward (suc t) e.to → Onward t e.from
  lead {t} A R =
      let S = splice A.goes R.goes (A.ends ∙ sym R.starts) in
      record { x = S.z; a = S.c; goes = S.goes; starts = S.before t (omega arith) ∙ A.starts }

  close : {t : ℕ} {e : Edge} → Inward t e.from → Along D t e → Inward (suc t) e.to
  close {t} R A =
      let S = splice R.goes A.goes (R.ends ∙ sym A.starts) in
      record { x = S.z; a = S.c; goes = S.goes; ends = S.after (suc t) (omega arith) ∙ A.ends }

  onward_from : (k t v : ℕ) → t + k ≡ n → v < D.count t → Onward t v
  onward_from zero t v e h = record { x = λ u. v; a = λ u. 0; goes = record { takes = λ u b c. absurd (omega arith) }; starts = refl }
  onward_from (suc k) t v e h =
      let L = N.onward t v (omega arith) h in
      lead (along t (edge v L.by L.to) L.listed) (onward_from k (suc t) L.to (omega arith)
      (N.to_low t (omega arith) _ L.listed))

  inward_to : (t v : ℕ) → t ≤ n → v < D.count t → Inward t v
  inward_to zero v h b = record { x = λ u. v; a = λ u. 0; goes = record { takes = λ u h k. absurd (not-suc-le-zero k) }; ends = refl }
  inward_to (suc t) v h b =
      let L = N.inward t v h b in
      close (inward_to t L.from (omega arith) (N.from_low t h _ L.listed)) (along t (edge L.from L.by v) L.listed)

  -- a route from depth 0 to depth n through vertex v of depth t
  pub record Through (t v : ℕ) : Type 0 where
    pub x : ℕ → ℕ
    pub a : ℕ → ℕ
    pub goes : Goes D 0 n x a
    pub passes : x t ≡ v

  pub through : (t v : ℕ) → t ≤ n → v < D.count t → Through t v
  through t v h b = by (inward_to t v h b) (onward_from (n - t) t v (omega arith) b)
    where
      by : Inward t v → Onward t v → Through t v
      by I O =
          let S = splice I.goes O.goes (I.ends ∙ sym O.starts) in
          record { x = S.z; a = S.c; goes = S.goes; passes = S.before t (omega arith) ∙ I.ends }

  -- a route that takes the edge e at step t
  pub record Taking (t : ℕ) (e : Edge) : Type 0 where
    pub x : ℕ → ℕ
    pub a : ℕ → ℕ
    pub goes : Goes D 0 n x a
    pub from : x t ≡ e.from
    pub by : a t ≡ e.symbol
    pub to : x (suc t) ≡ e.to

  pub taking : (t : ℕ) (e : Edge) → t < n → e ∈ D.edges t → Taking t e
  taking t e h m = by (inward_to t e.from (omega arith) (N.from_low t h e m)) (along t e m)
      (onward_from (n - suc t) (suc t) e.to (omega arith) (N.to_low t h e m))
    where
      by : Inward t e.from → Along D t e → Onward (suc t) e.to → Taking t e
      by I A O = behind (splice A.goes O.goes (A.ends ∙ sym O.starts))
        where
          behind : Spliced D t (suc t) n A.x A.a O.x O.a → Taking t e
          behind R =
              let begins : R.z t ≡ e.from = R.before t (omega arith) ∙ A.starts in
              let S = splice I.goes R.goes (I.ends ∙ sym begins) in
              record {
                x = S.z;
                a = S.c;
                goes = S.goes;
                from = S.after t (omega arith) ∙ begins;
                by = S.rest t (omega arith) ∙ R.spells t (omega arith) ∙ A.spells;
                to = S.after (suc t) (omega arith) ∙ R.before (suc t) (omega arith) ∙ A.ends;
              }

  -- ---- where a route stands

  pub stands : {x a : ℕ → ℕ} → Goes D 0 n x a → (t : ℕ) → t ≤ n → x t < D.count t
  stands {x} {a} P t h = go (dec_lt t n)
    where
      go : Dec (t < n) → x t < D.count t
      go (yes k) = N.from_low t k _ (P.takes t (omega arith) k)
      go (no k) =
          let s = N.some in
          let b : n - 1 < n = omega arith in
          let e : suc (n - 1) ≡ t = omega arith in
          subst (λ u. x u < D.count u) e (N.to_low (n - 1) b _ (P.takes (n - 1) (omega arith) b))

  -- the start and the symbols in front of an inner depth tell the vertex there
  pub same_start : {x a y b : ℕ → ℕ} → Goes D 0 n x a → Goes D 0 n y b → x 0 ≡ y 0 → (t : ℕ) → t < n → ((u : ℕ) → u < t → a u ≡ b u)
      → x t ≡ y t
  same_start P Q e zero h s = e
  same_start {x} {a} {y} {b} P Q e (suc t) h s =
      let r : x t ≡ y t = same_start P Q e t (omega arith) (λ u k. s u (omega arith)) in
      N.forward t (x t) (a t) (x (suc t)) (y (suc t)) h (P.takes t (omega arith) (omega arith))
      (Memᴰ.cast (λ i. edge (r i) (s t (omega arith) i) (y (suc t))) (Q.takes t (omega arith) (omega arith)))

  -- so do the end and the symbols behind it
  pub same_end : {x a y b : ℕ → ℕ} → Goes D 0 n x a → Goes D 0 n y b → x n ≡ y n → (k t : ℕ) → t + k ≡ n → 0 < t
      → ((u : ℕ) → t ≤ u → u < n → a u ≡ b u) → x t ≡ y t
  same_end {x} {a} {y} {b} P Q e zero t d h s = let g : n ≡ t = omega arith in subst (λ u. x u ≡ y u) g e
  same_end {x} {a} {y} {b} P Q e (suc k) t d h s =
      let r : x (suc t) ≡ y (suc t) = same_end P Q e k (suc t) (omega arith) (omega arith) (λ u i j. s u (omega arith) j) in
      N.backward t (x t) (y t) (a t) (x (suc t)) h (omega arith) (P.takes t (omega arith) (omega arith))
      (Memᴰ.cast (λ i. edge (y t) (s t (omega arith) (omega arith) i) (r i)) (Q.takes t (omega arith) (omega arith)))
