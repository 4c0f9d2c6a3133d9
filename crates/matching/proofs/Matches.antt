-- Two neat shapes whose routes carry the same words are matched vertex by vertex, in just one way. Vertices v and w of depth t match if
-- routes that carry one word pass through them. A vertex has one match only: of two routes through it, the one's front joined to the
-- other's back is a route too, so its word is carried on the other side as well, by a route that has the one's vertex, for its front, and
-- the other's, for its back.
use mathlib.Core.Path.{◌≡◌, refl, sym, ap, subst, ◌∙◌}
use mathlib.Core.List.Memᴰ
use Prim.Native.Nat.{ℕ, suc, ◌-◌, ◌≤◌, ◌<◌}
use native.Mathlib.Omega.{arith}
use native.Mathlib.Decide.{ℕ_discrete, dec_lt}
use Rattle.trellis.specs.Lists.{◌∈◌}
use Rattle.trellis.specs.Own.{edge}
use Rattle.matching.proofs.Routes.{Shape, Goes, Neat, Spliced, part, splice, through, Taking, taking, stands, same_start, same_end}

-- the route x, a of D has a route of E with the same word
pub record Twin (n : ℕ) (D E : Shape) (x a : ℕ → ℕ) : Type 0 where
  pub y : ℕ → ℕ
  pub goes : Goes E 0 n y a
  pub root : E.root_of (y 0) ≡ D.root_of (x 0)
  pub goal : E.goal_of (y n) ≡ D.goal_of (x n)

pub record Follows (n : ℕ) (D E : Shape) : Type 0 where
  pub twin : (x a : ℕ → ℕ) → Goes D 0 n x a → Twin n D E x a

-- one word on routes through v of D and w of E
pub record Match (n : ℕ) (D E : Shape) (t v w : ℕ) : Type 0 where
  pub x : ℕ → ℕ
  pub y : ℕ → ℕ
  pub a : ℕ → ℕ
  pub here : Goes D 0 n x a
  pub there : Goes E 0 n y a
  pub passes : x t ≡ v
  pub meets : y t ≡ w
  pub root : E.root_of (y 0) ≡ D.root_of (x 0)
  pub goal : E.goal_of (y n) ≡ D.goal_of (x n)

pub turn : {n : ℕ} {D E : Shape} {t v w : ℕ} → Match n D E t v w → Match n E D t w v
turn M = record {
  x = M.y;
  y = M.x;
  a = M.a;
  here = M.there;
  there = M.here;
  passes = M.meets;
  meets = M.passes;
  root = sym
      M.root;
  goal = sym M.goal;
}

pub match_of_lem : {n : ℕ} {D E : Shape} {x a : ℕ → ℕ} → Goes D 0 n x a → (T : Twin n D E x a) → (t : ℕ) → Match n D E t (x t) (T.y t)
match_of_lem {n} {D} {E} {x} {a} P T t = record {
  x = x;
  y = T.y;
  a = a;
  here = P;
  there = T.goes;
  passes = refl;
  meets = refl;
  root = T.root;
  goal = T.goal;
}

module _ {n : ℕ} {D E : Shape} (M : Neat n E) (F : Follows n D E) where
  -- a vertex has one match only
  pub one_match : {t v w z : ℕ} → t ≤ n → Match n D E t v w → Match n D E t v z → w ≡ z
  one_match {t} {v} {w} {z} h A B = go (ℕ_discrete t 0) (ℕ_discrete t n)
    where
      meet : A.x t ≡ B.x t
      meet = A.passes ∙ sym B.passes

      ends : A.y t ≡ B.y t → w ≡ z
      ends e = sym A.meets ∙ e ∙ B.meets

      -- the front of A's route and the back of B's are carried by one route there
      joined : (S : Spliced D 0 t n A.x A.a B.x B.a) → Twin n D E S.z S.c → 0 < t → t < n → A.y t ≡ B.y t
      joined S T p q =
          let s : T.y 0 ≡ A.y 0 = M.roots_one (T.y 0) (A.y 0) (stands M T.goes 0 (omega arith)) (stands M A.there 0 (omega arith))
          (T.root ∙ ap D.root_of (S.before 0 (omega arith)) ∙ sym A.root) in
          let f : T.y n ≡ B.y n = M.goals_one (T.y n) (B.y n) (stands M T.goes n (omega arith)) (stands M B.there n (omega arith))
          (T.goal ∙ ap D.goal_of (S.after n h) ∙ sym B.goal) in
          sym (same_start M T.goes A.there s t q S.spells)
          ∙ same_end M T.goes B.there f (n - t) t (omega arith) p (λ u i j. S.rest u i)

      inner : 0 < t → t < n → A.y t ≡ B.y t
      inner p q =
          let S : Spliced D 0 t n A.x A.a B.x B.a = splice (part A.here (omega arith) h)
          (part B.here (omega arith) (omega arith)) meet in
          joined S (F.twin S.z S.c S.goes) p q

      go : Dec (t ≡ 0) → Dec (t ≡ n) → w ≡ z
      go (yes e) k = ends (subst (λ u. A.y u ≡ B.y u) (sym e)
          (M.roots_one (A.y 0) (B.y 0) (stands M A.there 0 (omega arith)) (stands M B.there 0 (omega arith))
          (A.root ∙ ap D.root_of (subst (λ u. A.x u ≡ B.x u) e meet) ∙ sym B.root)))
      go (no e) (yes k) = ends (subst (λ u. A.y u ≡ B.y u) (sym k)
          (M.goals_one (A.y n) (B.y n) (stands M A.there n (omega arith)) (stands M B.there n (omega arith))
          (A.goal ∙ ap D.goal_of (subst (λ u. A.x u ≡ B.x u) k meet) ∙ sym B.goal)))
      go (no e) (no k) = ends (inner (omega arith) (omega arith))

-- whatever keeps end states and carries edges to edges takes a vertex to a match of it
pub record Carries (n : ℕ) (D E : Shape) (g : ℕ → ℕ → ℕ) : Type 0 where
  pub roots : (v : ℕ) → v < D.count 0 → E.root_of (g 0 v) ≡ D.root_of v
  pub goals : (v : ℕ) → v < D.count n → E.goal_of (g n v) ≡ D.goal_of v
  pub edges : (t x a y : ℕ) → t < n → edge x a y ∈ D.edges t → edge (g t x) a (g (suc t) y) ∈ E.edges t

module _ {n : ℕ} {D E : Shape} (N : Neat n D) (g : ℕ → ℕ → ℕ) (K : Carries n D E g) where
  pub carried_match : (t v : ℕ) → t ≤ n → v < D.count t → Match n D E t v (g t v)
  carried_match t v h b =
      let R = through N t v h b in
      record {
        x = R.x;
        y = λ u. g u (R.x u);
        a = R.a;
        here = R.goes;
        there = record { takes = λ u i j. K.edges u (R.x u) (R.a u) (R.x (suc u)) j (R.goes.takes u i j) };
        passes = R.passes;
        meets = ap (g t) R.passes;
        root = K.roots (R.x 0) (stands N R.goes 0 (omega arith));
        goal = K.goals (R.x n) (stands N R.goes n (omega arith));
      }

-- ---- the matching

module _ {n : ℕ} {D E : Shape} (N : Neat n D) (F : Follows n D E) where
  abbrev match_by : (t v : ℕ) → Dec (t < suc n) → Dec (v < D.count t) → ℕ
  match_by t v (yes h) (yes b) = let R = through N t v (omega arith) b in (F.twin R.x R.a R.goes).y t
  match_by t v (yes h) (no b) = 0
  match_by t v (no h) k = 0

  -- the match of vertex v of depth t, found on some route through it
  unfoldable pub match_of : ℕ → ℕ → ℕ
  match_of t v = match_by t v (dec_lt t (suc n)) (dec_lt v (D.count t))

  pub matched : (t v : ℕ) → t ≤ n → v < D.count t → Match n D E t v (match_of t v)
  unfolding match_of
  matched t v h b = go (dec_lt t (suc n)) (dec_lt v (D.count t))
    where
      go : (p : Dec (t < suc n)) (q : Dec (v < D.count t)) → Match n D E t v (match_by t v p q)
      go (yes p) (yes q) =
          let R = through N t v (omega arith) q in
          let T = F.twin R.x R.a R.goes in
          subst (λ u. Match n D E t u (T.y t)) R.passes (match_of_lem R.goes T t)
      go (yes p) (no q) = absurd (q b)
      go (no p) q = absurd (p (omega arith))

module _ {n : ℕ} {D E : Shape} (N : Neat n D) (M : Neat n E) (F : Follows n D E) where
  pub match_low : (t v : ℕ) → t ≤ n → v < D.count t → match_of N F t v < E.count t
  match_low t v h b = let A = matched N F t v h b in subst (λ u. u < E.count t) A.meets (stands M A.there t h)

  pub match_root : (v : ℕ) → v < D.count 0 → E.root_of (match_of N F 0 v) ≡ D.root_of v
  match_root v b = let A = matched N F 0 v (omega arith) b in ap E.root_of (sym A.meets) ∙ A.root ∙ ap D.root_of A.passes

  pub match_goal : (v : ℕ) → v < D.count n → E.goal_of (match_of N F n v) ≡ D.goal_of v
  match_goal v b = let A = matched N F n v (omega arith) b in ap E.goal_of (sym A.meets) ∙ A.goal ∙ ap D.goal_of A.passes

  pub match_edge : (t x a y : ℕ) → t < n → edge x a y ∈ D.edges t → edge (match_of N F t x) a (match_of N F (suc t) y) ∈ E.edges t
  match_edge t x a y h m = by (taking N t (edge x a y) h m)
    where
      by : Taking N t (edge x a y) → edge (match_of N F t x) a (match_of N F (suc t) y) ∈ E.edges t
      by R = on (F.twin R.x R.a R.goes)
        where
          on : Twin n D E R.x R.a → edge (match_of N F t x) a (match_of N F (suc t) y) ∈ E.edges t
          on T =
              let p : match_of N F t x ≡ T.y t = one_match M F {t = t} (omega arith)
              (matched N F t x (omega arith) (N.from_low t h (edge x a y) m))
              (subst (λ u. Match n D E t u (T.y t)) R.from (match_of_lem R.goes T t)) in
              let q : match_of N F (suc t) y ≡ T.y (suc t) = one_match M F {t = suc t} h
              (matched N F (suc t) y h (N.to_low t h (edge x a y) m))
              (subst (λ u. Match n D E (suc t) u (T.y (suc t))) R.to (match_of_lem R.goes T (suc t))) in
              Memᴰ.cast (λ i. edge (p i) (sym R.by i) (q i)) (T.goes.takes t (omega arith) h)

  -- whatever keeps end states and carries edges to edges is the matching
  pub match_only : (g : ℕ → ℕ → ℕ) → Carries n D E g → (t v : ℕ) → t ≤ n → v < D.count t → g t v ≡ match_of N F t v
  match_only g K t v h b = one_match M F {t = t} h (carried_match N g K t v h b) (matched N F t v h b)

-- there and back
module _ {n : ℕ} {D E : Shape} (N : Neat n D) (M : Neat n E) (F : Follows n D E) (G : Follows n E D) where
  pub match_back : (t v : ℕ) → t ≤ n → v < D.count t → match_of M G t (match_of N F t v) ≡ v
  match_back t v h b = one_match N G {t = t} h (matched M G t (match_of N F t v) h (match_low N M F t v h b)) (turn (matched N F t v h b))

  pub match_edge_back : (t x a y : ℕ) → t < n → x < D.count t → y < D.count (suc t)
      → edge (match_of N F t x) a (match_of N F (suc t) y) ∈ E.edges t → edge x a y ∈ D.edges t
  match_edge_back t x a y h b c m =
      Memᴰ.cast (λ i. edge (sym (match_back t x (omega arith) b) i) a (sym (match_back (suc t) y h c) i))
      (match_edge M N G t (match_of N F t x) a (match_of N F (suc t) y) h m)
