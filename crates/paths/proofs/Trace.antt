-- Forward: the least costs name the best path. The next edge is the first whose cost and the least cost from where it leads add up to the
-- least cost here; the chosen edge adds up so, and each edge before it is dearer, so it is that first one.
use mathlib.Core.Path.{◌≡◌, refl, sym, ap, subst, ◌∙◌}
use mathlib.Core.Bool.{Bool, true, false, cond}
use mathlib.Core.Option.{some as just}
use mathlib.Core.List.Memᴰ
use mathlib.Core.List.{List, [], ◌∷◌, ◌++◌, Memᴰ}
use Prim.Native.Nat.{ℕ, zero, suc, ◌+◌, ◌<◌}
use native.Mathlib.Omega.{arith}
use lib.Dec.{eqb}
use borrow.Author.Tests.{eq-eqb, ne_eqb}
use Rattle.trellis.specs.Lists.{◌∈◌}
use Rattle.paths.specs.Choice.{Choice, none, some}
use Rattle.paths.specs.Inner.Graph.{Graph}
use Rattle.paths.specs.Inner.Costs.{plus, least, first_with, next, or_stop, trace}
use Rattle.paths.proofs.Choose.{extend}
use Rattle.paths.proofs.First.{Chosen, all_chosen, chosen_in}
use Rattle.paths.proofs.Walk.{Prices, ahead}
use Rattle.paths.proofs.Capped.{least_ahead, capped_extend, capped_is, capped_above, capped}

pub first_hit : {A : Type 0} (test : A → Bool) (front : List A) (x : A) (back : List A) → ((y : A) → y ∈ front → test y ≡ false)
    → test x ≡ true
    → first_with test (front ++ (x ∷ back)) ≡ just x
unfolding first_with
first_hit test [] x back miss hit = rw hit
first_hit test (y ∷ front) x back miss hit =
    rw (miss y (Memᴰ.head refl)) (first_hit test front x back (λ z m. miss z (Memᴰ.tail m)) hit)

pub of_first : {A : Type 0} (test : A → Bool) (xs : List A) {y : A} → first_with test xs ≡ just y → (y ∈ xs) × (test y ≡ true)
unfolding first_with
of_first test [] e = let z : ◌≡◌ {A = ℕ} 0 1 = cc in absurd (omega arith)
of_first {A} test (x ∷ xs) {y} e = go (test x) refl (of_first test xs) e
  where
    go : (b : Bool) → test x ≡ b → (first_with test xs ≡ just y → (y ∈ xs) × (test y ≡ true)) → cond b (just x) (first_with test xs) ≡ just y
        → (y ∈ x ∷ xs) × (test y ≡ true)
    go true h r k = let i : y ≡ x = cc in (Memᴰ.head i, ap test i ∙ h)
    go false h r k = let w = r k in (Memᴰ.tail w.0, w.1)

-- the chosen member is the first whose number is the chosen cost
pub chosen_first : {A P : Type 0} (top : ℕ) (f : A → Choice P) (number : A → ℕ) {xs : List A}
    → ((x : A) → x ∈ xs → number x ≡ capped top (f x))
    → {c : ℕ} {p : P} (C : Chosen f xs c p) → c < top → first_with (λ x. eqb (number x) c) xs ≡ just C.member
chosen_first {A} {P} top f number {xs} is {c} {p} C h =
    ap (first_with (λ x. eqb (number x) c)) C.split
    ∙ first_hit (λ x. eqb (number x) c) C.front C.member C.back miss
    (eq-eqb (number C.member) c (is C.member (chosen_in f C) ∙ capped_is top (f C.member) C.offers h))
  where
    miss : (y : A) → Memᴰ y C.front → eqb (number y) c ≡ false
    miss y m =
        let e = is y (subst (Memᴰ y) (sym C.split) (Memᴰ.append_left (C.member ∷ C.back) m)) in
        let l = capped_above top c (f y) h (C.dearer y m) in
        ne_eqb (number y) c (omega arith)

-- what was extended
pub record Extended {P Q : Type 0} (d : ℕ) (f : P → Q) (a : Choice P) (c : ℕ) (q : Q) : Type 0 where
  pub cost : ℕ
  pub path : P
  pub had : a ≡ some cost path
  pub cost_is : c ≡ d + cost
  pub path_is : q ≡ f path

pub extended : {P Q : Type 0} (d : ℕ) (f : P → Q) (a : Choice P) {c : ℕ} {q : Q} → extend d f a ≡ some c q → Extended d f a c q
unfolding extend
extended d f none e = let z : ◌≡◌ {A = ℕ} 0 1 = cc in absurd (omega arith)
extended d f (some u p) e = record { cost = u; path = p; had = refl; cost_is = cc; path_is = cc }

module _ {E P : Type 0} {G : Graph E P} (Q : Prices G) (top : ℕ) (final : ℕ → ℕ)
    (ended : (t v : ℕ) → final v ≡ capped top (ahead Q zero t v)) where
  -- one edge of the best path, and the best path behind it
  pub record Onward (k t v c : ℕ) (p : P) : Type 0 where
    pub edge : E
    pub found : next G Q.cost top final k t v ≡ just edge
    pub behind : Extended (Q.cost t edge) (G.onto edge) (ahead Q k (suc t) (G.to edge)) c p

  pub onward_cost : (k t v : ℕ) {c : ℕ} {p : P} → ahead Q (suc k) t v ≡ some c p → c < top → Onward k t v c p
  unfolding next ahead
  onward_cost k t v {c} {p} e h = record {
    edge = C.member;
    found = ap (λ n. first_with (λ x. eqb (number x) n) (G.out t v)) total ∙ chosen_first top through number (λ x m. is x) C h;
    behind = extended _ _ _ C.offers;
  }
    where
      through : E → Choice P
      through x = extend (Q.cost t x) (G.onto x) (ahead Q k (suc t) (G.to x))

      C : Chosen through (G.out t v) c p
      C = all_chosen through (G.out t v) e

      number : E → ℕ
      number x = plus top (Q.cost t x) (least G Q.cost top final k (suc t) (G.to x))

      is : (x : E) → number x ≡ capped top (through x)
      is x =
          ap (plus top (Q.cost t x)) (least_ahead top Q final ended k (suc t) (G.to x))
          ∙ sym (capped_extend top (Q.cost t x) (G.onto x) (ahead Q k (suc t) (G.to x)))

      total : least G Q.cost top final (suc k) t v ≡ c
      total = least_ahead top Q final ended (suc k) t v ∙ capped_is top (ahead Q (suc k) t v) e h

  pub trace_best : (stop : ℕ → P) → ((t v c : ℕ) (p : P) → ahead Q zero t v ≡ some c p → stop v ≡ p) → (k t v : ℕ) {c : ℕ} {p : P}
      → ahead Q k t v ≡ some c p → c < top
      → trace G Q.cost top final stop k t v ≡ p
  unfolding trace or_stop
  trace_best stop s zero t v {c} {p} e h = s t v c p e
  trace_best stop s (suc k) t v {c} {p} e h =
      let O = onward_cost k t v e h in
      let B = O.behind in
      let l = B.cost_is in
      ap (or_stop (stop v) _) O.found ∙ ap (G.onto O.edge) (trace_best stop s k (suc t) (G.to O.edge) B.had (omega arith))
      ∙ sym B.path_is
