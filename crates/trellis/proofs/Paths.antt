-- A family of paths, one for each word: how many different vertices and edges the first m of them have, and what each further path adds.
-- A new vertex is entered and left by new edges, since an old edge has old ends; so edges grow at least as vertices do.
use mathlib.Core.Path.{◌≡◌, refl, ap, ◌∙◌}
use mathlib.Core.Bool.{Bool}
use mathlib.Core.Logic.{◌⊎◌, inl, inr}
use mathlib.Core.List.Memᴰ
use mathlib.Core.List.{List, [], ◌∷◌, map}
use Prim.Native.Nat.{ℕ, zero, suc, ◌+◌, ◌≤◌}
use native.Mathlib.Omega.{arith}
use lib.ListN.{length}
use lib.Dec.{T, eqb, eqb→eq, eqb_refl}
use Rattle.trellis.specs.Lists.{◌∈◌, Once, Lower}
use Rattle.trellis.specs.Own.{Edge, edge, edge_less}
use Rattle.trellis.proofs.Ascending.{Orders}
use Rattle.trellis.proofs.ThreeNumbers.{alike_yes, alike_self, lower_yes, lower_of, lower_never, lower_chain, lower_compare}
use Rattle.trellis.proofs.ThreeNumbers.{same_edge}
use Rattle.trellis.proofs.Distinct.{Known, new, distinct, look, distinct_le, le_distinct, upto, in_upto, from_upto}

-- ---- edges

pub edge_eq : {e f : Edge} → e.from ≡ f.from → e.symbol ≡ f.symbol → e.to ≡ f.to → e ≡ f
edge_eq p q r = λ k. edge (p k) (q k) (r k)

pub edge_ok : (e f : Edge) → T (same_edge e f) → e ≡ f
edge_ok e f t =
    let a = alike_yes e.from e.symbol e.to f.from f.symbol f.to t in
    edge_eq a.firsts a.seconds a.thirds

pub edge_rf : (e : Edge) → T (same_edge e e)
edge_rf e = alike_self e.from e.symbol e.to

pub edges_order : Orders edge_less
edges_order = record {
  never = λ e t. lower_never _ _ _ (yes_of e e t);
  chain = λ e f g s t. lower_of _ _ _ _ _ _ (lower_chain (yes_of e f s) (yes_of f g t));
  compare = λ e f p q.
      let a = lower_compare e.from e.symbol e.to f.from f.symbol f.to (λ l. p (lower_of _ _ _ _ _ _ l))
      (λ l. q (lower_of _ _ _ _ _ _ l)) in
      edge_eq a.firsts a.seconds a.thirds;
}
  where
    yes_of : (e f : Edge) → T (edge_less e f) → Lower e.from e.symbol e.to f.from f.symbol f.to
    yes_of e f t = lower_yes e.from e.symbol e.to f.from f.symbol f.to t

-- the two kinds of value that are counted
pub vlook : (x : ℕ) (l : List ℕ) → Known eqb x l
vlook = look eqb eqb→eq eqb_refl

pub elook : (e : Edge) (l : List Edge) → Known same_edge e l
elook = look same_edge edge_ok edge_rf

-- what is old on the right is old on the left: the left is new no oftener
module _ {A B : Type 0} (p : A → A → Bool) (q : B → B → Bool) where
  pub new_le_new : {x : A} {l : List A} {y : B} {k : List B} → Known p x l → Known q y k → (y ∈ k → x ∈ l) → new p x l ≤ new q y k
  new_le_new (inl f) (inl g) h = omega arith
  new_le_new (inl f) (inr s) h = absurd (f.never (h s.seen))
  new_le_new (inr s) g h = omega arith

-- ---- a family of paths: at vertex c t i the path i stands at depth t, and it takes the symbol s t i from there
module _ (s c : ℕ → ℕ → ℕ) where
  abbrev pub step : ℕ → ℕ → Edge
  step t i = edge (c t i) (s t i) (c (suc t) i)

  -- 1 where path i is the first at its vertex of depth t, the first on its edge of step t
  abbrev pub vnew : ℕ → ℕ → ℕ
  vnew t i = new eqb (c t i) (upto (c t) i)

  abbrev pub enew : ℕ → ℕ → ℕ
  enew t i = new same_edge (step t i) (upto (step t) i)

  -- how many vertices at depth t, how many edges at step t, the first m paths have
  abbrev pub vcount : ℕ → ℕ → ℕ
  vcount m t = distinct eqb (upto (c t) m)

  abbrev pub ecount : ℕ → ℕ → ℕ
  ecount m t = distinct same_edge (upto (step t) m)

  to_old : (t i : ℕ) → step t i ∈ upto (step t) i → c (suc t) i ∈ upto (c (suc t)) i
  to_old t i m = let w = from_upto (step t) i (step t i) m in
      in_upto (c (suc t)) i w.at (c (suc t) i) w.below (ap (λ (e : Edge). e.to) w.is)

  from_old : (t i : ℕ) → step t i ∈ upto (step t) i → c t i ∈ upto (c t) i
  from_old t i m = let w = from_upto (step t) i (step t i) m in
      in_upto (c t) i w.at (c t i) w.below (ap (λ (e : Edge). e.from) w.is)

  -- a new vertex is entered and left by new edges
  pub into : (t i : ℕ) → vnew (suc t) i ≤ enew t i
  into t i = new_le_new eqb same_edge (vlook _ _) (elook _ _) (to_old t i)

  pub onward : (t i : ℕ) → (vnew t i ≡ 0) ⊎ (enew t i ≡ 1)
  onward t i = go (vlook (c t i) (upto (c t) i)) (elook (step t i) (upto (step t) i))
    where
      go : Known eqb (c t i) (upto (c t) i) → Known same_edge (step t i) (upto (step t) i) → (vnew t i ≡ 0) ⊎ (enew t i ≡ 1)
      go (inr a) b = inl a.none
      go (inl a) (inl b) = inr b.one
      go (inl a) (inr b) = absurd (a.never (from_old t i b.seen))

-- ---- edges and vertices that no word's path has

-- the vertices where edges end
abbrev pub ends : List Edge → List ℕ
ends l = map (λ (e : Edge). e.to) l

pub record Grown (E : List Edge) (X : List ℕ) (l : List Edge) : Type 0 where
  pub all : List Edge
  pub within : (e : Edge) → e ∈ all → e ∈ E
  pub covers : (x : ℕ) → x ∈ X → x ∈ ends all
  pub gain : distinct eqb (ends all) + distinct same_edge l ≤ distinct same_edge all + distinct eqb (ends l)

pub record Into (E : List Edge) (x : ℕ) : Type 0 where
  pub by : Edge
  pub inside : by ∈ E
  pub leads : x ≡ by.to

mem_map : (e : Edge) (l : List Edge) → e ∈ l → e.to ∈ ends l
mem_map e [] m = absurd (Memᴰ.not-nil m)
mem_map e (f ∷ l) m = go (mem_map e l) (Memᴰ.cases_cons m)
  where
    go : (e ∈ l → e.to ∈ ends l) → (e ≡ f) ⊎ (e ∈ l) → e.to ∈ f.to ∷ ends l
    go r (inl p) = Memᴰ.head (ap (λ (g : Edge). g.to) p)
    go r (inr u) = Memᴰ.tail (r u)

grow : (E : List Edge) (X : List ℕ) (l : List Edge) → ((e : Edge) → e ∈ l → e ∈ E) → ((x : ℕ) → x ∈ X → Into E x) → Grown E X l
unfolding distinct
grow E [] l a b = record { all = l; within = a; covers = λ x m. absurd (Memᴰ.not-nil m); gain = omega arith }
grow E (x ∷ X) l a b = go (grow E X l a (λ y m. b y (Memᴰ.tail m))) (b x (Memᴰ.head refl))
  where
    go : Grown E X l → Into E x → Grown E (x ∷ X) l
    go g w = record {
      all = w.by ∷ g.all;
      within = λ e m. inside e (Memᴰ.cases_cons m);
      covers = λ y m. cover y (Memᴰ.cases_cons m);
      gain =
          let h : new eqb w.by.to (ends g.all) ≤ new same_edge w.by g.all =
          new_le_new eqb same_edge (vlook _ _) (elook _ _) (mem_map w.by g.all) in
          let k = g.gain in
          omega arith;
    }
      where
        inside : (e : Edge) → (e ≡ w.by) ⊎ (e ∈ g.all) → e ∈ E
        inside e (inl p) = Memᴰ.cast p w.inside
        inside e (inr u) = g.within e u

        cover : (y : ℕ) → (y ≡ x) ⊎ (y ∈ X) → y ∈ w.by.to ∷ ends g.all
        cover y (inl p) = Memᴰ.head (p ∙ w.leads)
        cover y (inr u) = Memᴰ.tail (g.covers y u)

-- The vertices that no path of l enters are no more than the edges that are not in l: X has each vertex once, and each is entered by an
-- edge of E.
pub slack : (E : List Edge) (X : List ℕ) (l : List Edge) → Once X → ((e : Edge) → e ∈ l → e ∈ E) → ((x : ℕ) → x ∈ X → Into E x)
    → length X + distinct same_edge l ≤ length E + distinct eqb (ends l)
slack E X l o a b =
    let g = grow E X l a b in
    let p : length X ≤ distinct eqb (ends g.all) = le_distinct eqb eqb→eq eqb_refl _ X o g.covers in
    let q : distinct same_edge g.all ≤ length E = distinct_le same_edge edge_ok edge_rf g.all E g.within in
    let k = g.gain in
    omega arith

pub ends_upto : (f : ℕ → Edge) (m : ℕ) → ends (upto f m) ≡ upto (λ i. (f i).to) m
unfolding upto
ends_upto f zero = refl
ends_upto f (suc m) = ap (λ l. (f m).to ∷ l) (ends_upto f m)
