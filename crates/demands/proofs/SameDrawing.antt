-- Two drawings with the same listed vertices, the same edges at each step and the same states of the listed outer vertices are drawn for
-- the same tables: each condition speaks of listed vertices and edges only, and a path's first and last vertex are listed, because its
-- edges join listed ones.
use mathlib.Core.Path.{◌≡◌, sym, subst, ◌∙◌}
use mathlib.Core.List.{List}
use Prim.Native.Nat.{ℕ, suc, ◌-◌, ◌≤◌, ◌<◌}
use native.Mathlib.Omega.{arith}
use Rattle.trellis.specs.Lists.{◌∈◌, Once}
use Rattle.trellis.specs.Word.{Word}
use Rattle.trellis.specs.Own.{edge}
use Rattle.trellis.specs.Drawn.{Drawing, IsPath, Carries, PathOf, JustOne, DrawnFor}

pub record Alike (n : ℕ) (D E : Drawing) : Type 0 where
  pub vertices : (t : ℕ) → t ≤ n → D.vertices t ≡ E.vertices t
  pub edges : (t : ℕ) → t < n → D.edges t ≡ E.edges t
  pub roots : (v : ℕ) → v ∈ D.vertices 0 → D.root_of v ≡ E.root_of v
  pub goals : (v : ℕ) → v ∈ D.vertices n → D.goal_of v ≡ E.goal_of v

just_one_lem : {table : List Word} {state : Word → ℕ} {l m : List ℕ} {f g : ℕ → ℕ} → l ≡ m → ((v : ℕ) → v ∈ l → f v ≡ g v)
    → JustOne table state l f → JustOne table state m g
just_one_lem {table} {state} {l} {m} {f} {g} e s J = record {
  at_least = λ w h. let H = J.at_least w h in record {
    vertex = H.vertex;
    listed = subst (λ x. H.vertex ∈ x) e H.listed;
    is = sym (s H.vertex H.listed) ∙ H.is;
  };
  at_most = λ v u a b p. J.at_most v u (old v a) (old u b) (s v (old v a) ∙ p ∙ sym (s u (old u b)));
  only = λ v a. let H = J.only v (old v a) in record {
    word = H.word;
    listed = H.listed;
    is = H.is ∙ s v (old v a);
  };
}
  where
    old : (v : ℕ) → v ∈ m → v ∈ l
    old v a = subst (λ x. v ∈ x) (sym e) a

module _ {n : ℕ} {table : List Word} {D E : Drawing} (some : 0 < n) (A : Alike n D E) (H : DrawnFor n table D) where
  new : {x a : ℕ → ℕ} → IsPath n D x a → IsPath n E x a
  new {x} {a} p = record { takes = λ t h. subst (λ es. edge (x t) (a t) (x (suc t)) ∈ es) (A.edges t h) (p.takes t h) }

  old : {x a : ℕ → ℕ} → IsPath n E x a → IsPath n D x a
  old {x} {a} p = record { takes = λ t h. subst (λ es. edge (x t) (a t) (x (suc t)) ∈ es) (sym (A.edges t h)) (p.takes t h) }

  begins : {x a : ℕ → ℕ} → IsPath n D x a → x 0 ∈ D.vertices 0
  begins {x} {a} p = (H.joins 0 some (edge (x 0) (a 0) (x 1)) (p.takes 0 some)).0

  ends : {x a : ℕ → ℕ} → IsPath n D x a → x n ∈ D.vertices n
  ends {x} {a} p =
      let h : n - 1 < n = omega arith in
      let s : suc (n - 1) ≡ n = omega arith in
      subst (λ k. x k ∈ D.vertices k) s (H.joins (n - 1) h (edge (x (n - 1)) (a (n - 1)) (x (suc (n - 1)))) (p.takes (n - 1) h)).1

  carried : {x a : ℕ → ℕ} {w : Word} → IsPath n D x a → Carries n D x a w → Carries n E x a w
  carried {x} {a} p c = record {
    root = sym (A.roots (x 0) (begins p)) ∙ c.root;
    symbols = c.symbols;
    goal = sym (A.goals (x n) (ends p)) ∙ c.goal;
  }

  pub path_new : {w : Word} → PathOf n D w → PathOf n E w
  path_new P = record { x = P.x; a = P.a; path = new P.path; carries = carried P.path P.carries }

  pub path_old : {w : Word} → PathOf n E w → PathOf n D w
  path_old P =
      let p = old P.path in
      record {
        x = P.x;
        a = P.a;
        path = p;
        carries = record {
          root = A.roots (P.x 0) (begins p) ∙ P.carries.root;
          symbols = P.carries.symbols;
          goal = A.goals (P.x n) (ends p) ∙ P.carries.goal;
        };
      }

  pub drawn_same : DrawnFor n table E
  drawn_same = record {
    none_twice = λ t h. subst Once (A.vertices t h) (H.none_twice t h);
    joins = λ t h e m. (
      subst (λ l. e.from ∈ l) (A.vertices t (omega arith)) (H.joins t h e (subst (λ es. e ∈ es) (sym (A.edges t h)) m)).0,
      subst (λ l. e.to ∈ l) (A.vertices (suc t) (omega arith)) (H.joins t h e (subst (λ es. e ∈ es) (sym (A.edges t h)) m)).1,
    );
    no_repeat = λ t h. subst Once (A.edges t h) (H.no_repeat t h);
    roots = just_one_lem (A.vertices 0 (omega arith)) A.roots H.roots;
    goals = just_one_lem (A.vertices n (omega arith)) A.goals H.goals;
    on_path = λ t v h m.
        let T = H.on_path t v h (subst (λ l. v ∈ l) (sym (A.vertices t h)) m) in
        record { x = T.x; a = T.a; path = new T.path; passes = T.passes };
    no_more = λ x a p. let W = H.no_more x a (old p) in
        record { word = W.word; listed = W.listed; carried = carried (old p) W.carried };
    no_fewer = λ w m. path_new (H.no_fewer w m);
  }
