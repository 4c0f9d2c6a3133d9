-- One row lowered edge by edge. What a place has and what the edges still to come give it come, by `min`, to what all its
-- edges give; each edge moves from the one side to the other.
use mathlib.Core.Path.{◌≡◌, refl, sym, ap, ap₂, subst, ◌∙◌}
use mathlib.Core.Bool.{cond}
use mathlib.Core.List.{List, [], ◌∷◌}
use Prim.Native.Nat.{ℕ, suc, ◌+◌, ◌-◌, ◌*◌, ◌≤◌, ◌<◌, min}
use native.Mathlib.Numerals.{add-one}
use native.Mathlib.Omega.{arith}
use native.Mathlib.Decide.{ℕ_discrete}
use lib.ListN.{length, get_or, set, length-set}
use lib.Seq.{get_or-set_same, get_or-set_other}
use borrow.Author.Tests.{eq-eqb, ne_eqb}
use Rattle.trellis.specs.Bounds.{most_words}
use Rattle.trellis.specs.Lists.{run, keep}
use Rattle.trellis.specs.Own.{Edge}
use Rattle.trellis.specs.Section.{leaving}
use Rattle.paths.specs.Inner.Costs.{min_all}
use Rattle.edges.specs.Inner.Edges.{edge_in, held_edge}
use Rattle.edges.specs.declared.Edge as code
use Rattle.lowering.specs.Inner.Loops.{StepAsked, through, Lowered}

-- ---- lowered

module _ (pairs symbols : List ℕ) (count : ℕ) (prices behind : List ℕ) where
  -- the edges from k on
  abbrev later : ℕ → List Edge
  later k = run (edge_in pairs symbols) k (count - k)

  abbrev gives : Edge → ℕ
  gives = through prices behind

  -- the row still has to be lowered by the edges from k on
  pub record InLower (old row : List ℕ) (k : ℕ) : Type 0 where
    pub k_le : k ≤ count
    pub long : length row ≡ most_words
    pub left : (v : ℕ) → v < most_words → min_all (get_or row v 0) gives (leaving v (later k)) ≡ min_all (get_or old v 0) gives
        (leaving v (later 0))

leaving_here : (e : Edge) (es : List Edge) (v : ℕ) → e.from ≡ v → leaving v (e ∷ es) ≡ e ∷ leaving v es
unfolding leaving keep
leaving_here e es v q = ap (λ b. cond b (e ∷ leaving v es) (leaving v es)) (eq-eqb e.from v q)

leaving_other : (e : Edge) (es : List Edge) (v : ℕ) → (e.from ≡ v → ⊥) → leaving v (e ∷ es) ≡ leaving v es
unfolding leaving keep
leaving_other e es v q = ap (λ b. cond b (e ∷ leaving v es) (leaving v es)) (ne_eqb e.from v q)

-- what the first edge gives may as well have been there before
min_into : (f : Edge → ℕ) (e : Edge) (es : List Edge) (x : ℕ) → min_all (min x (f e)) f es ≡ min_all x f (e ∷ es)
unfolding min_all
min_into f e [] x = omega arith
min_into f e (d ∷ es) x = let i = min_into f e es x in omega arith

pub lower_start : {pairs symbols prices behind row : List ℕ} {count : ℕ} → StepAsked pairs symbols count prices behind row
    → InLower pairs symbols count prices behind row row 0
lower_start A = record { k_le = omega arith; long = A.row_long; left = λ v h. refl }

-- an edge as it is read: there are places for it in the rows, and what it gives does not wrap
pub record EdgeFits (prices behind row : List ℕ) (from symbol to : ℕ) : Type 0 where
  pub from_lt : from < most_words
  pub symbol_lt : symbol < length prices
  pub to_lt : to < most_words
  pub fits : get_or prices symbol 0 + get_or behind to 0 < 18446744073709551616

-- number by number
record Read (pairs symbols : List ℕ) (k : ℕ) (e : code.Edge) : Type 0 where
  from_is : e.from ≡ get_or pairs (2 * k) 0
  symbol_is : e.symbol ≡ get_or symbols k 0
  to_is : e.to ≡ get_or pairs (2 * k + 1) 0

read_of : {pairs symbols : List ℕ} {k : ℕ} {e : code.Edge} → e ≡ held_edge (edge_in pairs symbols k) → Read pairs symbols k e
read_of q = record { from_is = ap (λ e. e.from) q; symbol_is = ap (λ e. e.symbol) q; to_is = ap (λ e. e.to) q }

pub edge_fits : {pairs symbols prices behind row : List ℕ} {count k : ℕ} {e : code.Edge} → StepAsked pairs symbols count prices behind row
    → k < count → e ≡ held_edge (edge_in pairs symbols k) → EdgeFits prices behind row e.from e.symbol e.to
edge_fits {pairs} {symbols} {behind = behind} {k = k} {e = d} A h q =
    let R : Read pairs symbols k d = read_of q in
    let a = A.from_small k h in
    let b = A.symbol_small k h in
    let c = A.to_small k h in
    let p = A.price_small d.symbol in
    let r = A.behind_small k h in
    let e = ap (λ j. get_or behind j 0) R.to_is in
    record {
      from_lt = omega (arith, R.from_is);
      symbol_lt = omega (arith, A.prices_in, R.symbol_is);
      to_lt = omega (arith, R.to_is);
      fits = omega arith;
    }

pub lower_more : {pairs symbols prices behind old row : List ℕ} {count k x : ℕ} {d : code.Edge}
    → StepAsked pairs symbols count prices behind old
    → InLower pairs symbols count prices behind old row k → k < count → d ≡ held_edge (edge_in pairs symbols k)
    → x ≡ min (get_or row d.from 0) (get_or prices d.symbol 0 + get_or behind d.to 0)
    → InLower pairs symbols count prices behind old (set row d.from x) (k + 1)
unfolding run
lower_more {pairs} {symbols} {prices} {behind} {old} {row} {count} {k} {x} {d} A I h r q =
    record { k_le = omega arith; long = simp length-set I.long; left = left }
  where
    from : ℕ
    from = d.from

    R : Read pairs symbols k d
    R = read_of r

    e : Edge
    e = edge_in pairs symbols k

    given : get_or prices d.symbol 0 + get_or behind d.to 0 ≡ through prices behind e
    given = ap₂ (λ a g. get_or prices a 0 + get_or behind g 0) R.symbol_is R.to_is

    es : List Edge
    es = run (edge_in pairs symbols) (k + 1) (count - (k + 1))

    begins : run (edge_in pairs symbols) k (count - k) ≡ e ∷ es
    begins = let i : count - k ≡ suc (count - (k + 1)) = omega arith in rw (i, add-one k)

    f : Edge → ℕ
    f = through prices behind

    left : (v : ℕ) → v < most_words
        → min_all (get_or (set row from x) v 0) f (leaving v es) ≡ min_all (get_or old v 0) f
        (leaving v (run (edge_in pairs symbols) 0 (count - 0)))
    left v l = go (ℕ_discrete from v)
      where
        before : min_all (get_or row v 0) f (leaving v (e ∷ es)) ≡ min_all (get_or old v 0) f
            (leaving v (run (edge_in pairs symbols) 0 (count - 0)))
        before = ap (λ ds. min_all (get_or row v 0) f (leaving v ds)) (sym begins) ∙ I.left v l

        go : Dec (from ≡ v)
            → min_all (get_or (set row from x) v 0) f (leaving v es)
            ≡ min_all (get_or old v 0) f (leaving v (run (edge_in pairs symbols) 0 (count - 0)))
        go (yes z) =
            ap (λ y. min_all y f (leaving v es))
            (subst (λ u. get_or (set row from x) u 0 ≡ min (get_or row u 0) (f e)) z
            (get_or-set_same row from x 0 (omega (arith, I.long, A.from_small k h, R.from_is)) ∙ q ∙ ap (min (get_or row from 0)) given))
            ∙ min_into f e (leaving v es) (get_or row v 0)
            ∙ ap (min_all (get_or row v 0) f) (sym (leaving_here e es v (sym R.from_is ∙ z))) ∙ before
        go (no z) =
            ap (λ y. min_all y f (leaving v es)) (get_or-set_other row from v x 0 (λ u. z (omega arith)))
            ∙ ap (min_all (get_or row v 0) f) (sym (leaving_other e es v (λ u. z (R.from_is ∙ u)))) ∙ before

pub lower_end : {pairs symbols prices behind old row : List ℕ} {count k : ℕ} → InLower pairs symbols count prices behind old row k
    → count ≤ k
    → Lowered pairs symbols count prices behind old row
unfolding run leaving keep min_all
lower_end {pairs} {symbols} {prices} {behind} {old} {row} {count} {k} I h = record { long = I.long; at = at }
  where
    at : (v : ℕ) → v < most_words
        → get_or row v 0 ≡ min_all (get_or old v 0) (through prices behind) (leaving v (run (edge_in pairs symbols) 0 count))
    at v l =
        let e : count - k ≡ 0 = omega arith in
        let z : count - 0 ≡ count = omega arith in
        sym (ap (λ j. min_all (get_or row v 0) (through prices behind) (leaving v (run (edge_in pairs symbols) k j))) e)
        ∙ I.left v l ∙ ap (λ j. min_all (get_or old v 0) (through prices behind) (leaving v (run (edge_in pairs symbols) 0 j))) z
