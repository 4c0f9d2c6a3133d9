-- What it means to be chosen: a member of the list, none cheaper, and each one before it dearer. By induction along the list: the head
-- is kept exactly if nothing behind it is cheaper.
use mathlib.Core.Path.{◌≡◌, refl, sym, ap, subst, ◌∙◌}
use mathlib.Core.Logic.{⊎_elim}
use mathlib.Core.List.Memᴰ
use mathlib.Core.List.{List, [], ◌∷◌, ◌++◌, Memᴰ}
use Prim.Native.Nat.{ℕ, ◌≤◌, ◌<◌}
use native.Mathlib.Omega.{arith}
use native.Mathlib.Decide.{dec_le}
use Rattle.trellis.specs.Lists.{◌∈◌}
use Rattle.paths.specs.Choice.{Choice, none, some, choose, best}
use Rattle.paths.proofs.Choose.{choose_left, choose_right, choose_all, best_all}

none_some : {P : Type 0} {c : ℕ} {p : P} (a : Choice P) → a ≡ none → a ≡ some c p → ⊥
none_some a e h = let z : ◌≡◌ {A = ℕ} 0 1 = cc in omega arith

both_none : {P : Type 0} (a b : Choice P) → choose a b ≡ none → (a ≡ none) × (b ≡ none)
unfolding choose
both_none none b e = (refl, e)
both_none (some c p) none e = (e, refl)
both_none (some c p) (some d q) e = absurd (go (dec_le c d))
  where
    go : Dec (c ≤ d) → ⊥
    go (yes h) = none_some (choose (some c p) (some d q)) e (choose_left p q h)
    go (no h) = let l : d < c = omega arith in none_some (choose (some c p) (some d q)) e (choose_right p q l)

-- the offer (c, p) is that of the first cheapest member of xs
pub record Chosen {A P : Type 0} (f : A → Choice P) (xs : List A) (c : ℕ) (p : P) : Type 0 where
  pub member : A
  pub front : List A
  pub back : List A
  pub split : xs ≡ front ++ (member ∷ back)
  pub offers : f member ≡ some c p
  pub dearer : (y : A) → y ∈ front → (d : ℕ) (q : P) → f y ≡ some d q → c < d
  pub no_cheaper : (y : A) → y ∈ back → (d : ℕ) (q : P) → f y ≡ some d q → c ≤ d

module _ {A P : Type 0} (f : A → Choice P) where
  pub all_none : (xs : List A) → choose_all f xs ≡ none → (y : A) → y ∈ xs → f y ≡ none
  unfolding choose_all
  all_none [] e y m = absurd (Memᴰ.not-nil m)
  all_none (x ∷ xs) e y m =
      let n = both_none (f x) (choose_all f xs) e in
      ⊎_elim (λ k. ap f k ∙ n.0) (all_none xs n.1 y) (Memᴰ.cases_cons m)

  pub chosen_in : {xs : List A} {c : ℕ} {p : P} (C : Chosen f xs c p) → Memᴰ C.member xs
  chosen_in C = subst (Memᴰ C.member) (sym C.split) (Memᴰ.append_right C.front (Memᴰ.head refl))

  -- none of the members is cheaper
  pub chosen_least : {xs : List A} {c : ℕ} {p : P} → Chosen f xs c p → (y : A) → y ∈ xs → (d : ℕ) (q : P) → f y ≡ some d q → c ≤ d
  chosen_least {xs} {c} {p} C y m d q e =
      ⊎_elim in_front (λ k. ⊎_elim itself in_back (Memᴰ.cases_cons k))
      (Memᴰ.append_cases C.front (subst (Memᴰ y) C.split m))
    where
      in_front : Memᴰ y C.front → c ≤ d
      in_front k = let h = C.dearer y k d q e in omega arith

      itself : y ≡ C.member → c ≤ d
      itself k = let o = C.offers in let h : c ≡ d = cc in omega arith

      in_back : Memᴰ y C.back → c ≤ d
      in_back k = C.no_cheaper y k d q e

  module _ (x : A) (xs : List A) where
    here_chosen : {c : ℕ} {p : P} → f x ≡ some c p → ((y : A) → y ∈ xs → (d : ℕ) (q : P) → f y ≡ some d q → c ≤ d) → Chosen f (x ∷ xs) c p
    here_chosen o n = record {
      member = x;
      front = [];
      back = xs;
      split = refl;
      offers = o;
      dearer = λ y m d q e. absurd (Memᴰ.not-nil m);
      no_cheaper = n;
    }

    later_chosen : {c : ℕ} {p : P} → ((d : ℕ) (q : P) → f x ≡ some d q → c < d) → Chosen f xs c p → Chosen f (x ∷ xs) c p
    later_chosen n C = record {
      member = C.member;
      front = x ∷ C.front;
      back = C.back;
      split = ap (λ l. x ∷ l) C.split;
      offers = C.offers;
      dearer = λ y m d q e. ⊎_elim (λ k. n d q (sym (ap f k) ∙ e)) (λ k. C.dearer y k d q e) (Memᴰ.cases_cons m);
      no_cheaper = C.no_cheaper;
    }

    cons_chosen : (a b : Choice P) → f x ≡ a → choose_all f xs ≡ b → ((c : ℕ) (p : P) → b ≡ some c p → Chosen f xs c p) → {c : ℕ} {p : P}
        → choose a b ≡ some c p
        → Chosen f (x ∷ xs) c p
    unfolding choose
    cons_chosen none b o r ih {c} {p} e = later_chosen (λ d q k. absurd (none_some (f x) o k)) (ih c p e)
    cons_chosen (some u s) none o r ih {c} {p} e = here_chosen (o ∙ e) (λ y m d q k. absurd (none_some (f y) (all_none xs r y m) k))
    cons_chosen (some u s) (some v t) o r ih {c} {p} e = go (dec_le u v)
      where
        go : Dec (u ≤ v) → Chosen f (x ∷ xs) c p
        go (yes h) =
            let k : some u s ≡ some c p = sym (choose_left s t h) ∙ e in
            let i : u ≡ c = cc in
            here_chosen (o ∙ k) (λ y m d q z. let l = chosen_least (ih v t refl) y m d q z in omega arith)
        go (no h) =
            let l : v < u = omega arith in
            let k : some v t ≡ some c p = sym (choose_right s t l) ∙ e in
            let i : v ≡ c = cc in
            later_chosen (λ d q z. let j : u ≡ d = cc in omega arith) (ih c p k)

  pub all_chosen : (xs : List A) {c : ℕ} {p : P} → choose_all f xs ≡ some c p → Chosen f xs c p
  unfolding choose_all
  all_chosen [] e = absurd (none_some none refl e)
  all_chosen (x ∷ xs) e = cons_chosen x xs (f x) (choose_all f xs) refl refl (λ c p k. all_chosen xs k) e

-- ---- best
pub record First {P : Type 0} (cost : P → ℕ) (xs : List P) (c : ℕ) (p : P) : Type 0 where
  pub front : List P
  pub back : List P
  pub split : xs ≡ front ++ (p ∷ back)
  pub is : c ≡ cost p
  pub dearer : (q : P) → q ∈ front → c < cost q
  pub no_cheaper : (q : P) → q ∈ back → c ≤ cost q

module _ {P : Type 0} (cost : P → ℕ) where
  pub best_first : (xs : List P) {c : ℕ} {p : P} → best cost xs ≡ some c p → First cost xs c p
  best_first xs {c} {p} e =
      let C = all_chosen (λ q. some (cost q) q) xs (sym (best_all cost xs) ∙ e) in
      let o = C.offers in
      let m : C.member ≡ p = cc in
      record {
        front = C.front;
        back = C.back;
        split = C.split ∙ ap (λ z. C.front ++ (z ∷ C.back)) m;
        is = cc;
        dearer = λ q k. C.dearer q k (cost q) q refl;
        no_cheaper = λ q k. C.no_cheaper q k (cost q) q refl;
      }

  pub best_none : (xs : List P) → best cost xs ≡ none → xs ≡ []
  unfolding best
  best_none [] e = refl
  best_none (x ∷ xs) e = absurd (none_some (some (cost x) x) (both_none (some (cost x) x) (best cost xs) e).0 refl)

  pub first_in : {xs : List P} {c : ℕ} {p : P} → First cost xs c p → p ∈ xs
  first_in {xs} {c} {p} F = subst (Memᴰ p) (sym F.split) (Memᴰ.append_right F.front (Memᴰ.head refl))

  unfoldable pub first_chosen : {xs : List P} {c : ℕ} {p : P} → First cost xs c p → Chosen (λ q. some (cost q) q) xs c p
  first_chosen {xs} {c} {p} F = record {
    member = p;
    front = F.front;
    back = F.back;
    split = F.split;
    offers = ap (λ d. some d p) (sym F.is);
    dearer = λ y m d q e. let i : cost y ≡ d = cc in let l = F.dearer y m in omega arith;
    no_cheaper = λ y m d q e. let i : cost y ≡ d = cc in let l = F.no_cheaper y m in omega arith;
  }

  pub first_least : {xs : List P} {c : ℕ} {p : P} → First cost xs c p → (q : P) → q ∈ xs → c ≤ cost q
  first_least F q m = chosen_least (λ p. some (cost p) p) (first_chosen F) q m (cost q) q refl
