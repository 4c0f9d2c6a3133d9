-- first_word i, the start of the run of the first word with i's key, is the first word of i's vertex; and the table is rectangular exactly
-- if its runs agree. A word that shares i's vertex has an ending of i's key, and the first of these stands in the run of first_word i; so
-- first_word i is least. In a rectangular table words of one run share a vertex, so they have one first word, and of two runs of one vertex
-- each is at least as long as the other. Where the runs agree, each run has its endings in the run of its first word and is as long, so no
-- ending can be out of step: both have the same endings in the same order. So runs with one first word have the same endings, which is what
-- rectangular asks.
use mathlib.Core.Path.{◌≡◌, refl, sym, ap, subst, ◌∙◌}
use mathlib.Core.Logic.{◌↔◌}
use Prim.Native.Nat.{ℕ, zero, suc, ◌+◌, ◌-◌, ◌≤◌, ◌<◌}
use native.Mathlib.Omega.{arith}
use native.Mathlib.Decide.{dec_lt}
use lib.Dec.{T}
use Rattle.runs.specs.Inner.Runs.{first_like, Cut, Shared, Rectangle, In, Tells, first_word_by, goes_on, Agrees, RunsAgree}
use Rattle.runs.proofs.FirstLike.{like_le, like_is, like_least, like_eq, like_twice}
use Rattle.trellis.proofs.Bools.{same_test}
use Rattle.runs.proofs.Runs.{between, own_run, start_mono, same_order, on_in, in_on, match_in, not_sooner, as_long}

not_less : {x y : ℕ} → x ≤ y → (x < y → ⊥) → x ≡ y
not_less {x} {y} h f = go (dec_lt x y)
  where
    go : Dec (x < y) → x ≡ y
    go (yes d) = absurd (f d)
    go (no d) = omega arith

module _ {W : ℕ} {beginning ending key : ℕ → ℕ} (C : Cut W beginning ending) (K : Tells W ending key) where
  abbrev start : ℕ → ℕ
  start i = first_like beginning i

  abbrev first_word : ℕ → ℕ
  first_word i = first_word_by beginning key i

  -- ---- the first word of a vertex, be the table rectangular or not

  pub first_shares : (i : ℕ) → i < W → Shared W beginning ending (first_word i) i
  first_shares i h =
      let k : first_like key i < W = omega (arith, like_le key i) in
      record {
        at = first_like key i;
        inside = k;
        begins = sym (like_is beginning (first_like key i));
        ends =
            (K (first_like key i) i k h).0 (like_is key i);
      }

  pub first_least : (i j : ℕ) → i < W → Shared W beginning ending j i → first_word i ≤ j
  first_least i j h m = go (first_like key i) (like_least key i m.at ((K m.at i m.inside h).1 m.ends)) (dec_lt j (first_like key i))
    where
      go : (g : ℕ) → g ≤ m.at → Dec (j < g) → start g ≤ j
      go g l (no a) = omega (arith, like_le beginning g)
      go g l (yes a) = like_least beginning g j
          (sym (between C j g m.at (omega arith) l (record { inside = m.inside; begins = m.begins })).begins)

  pub first_le_lem : (i : ℕ) → first_word i ≤ i
  first_le_lem i = omega (arith, like_le key i, like_le beginning (first_like key i))

  pub first_start : (i : ℕ) → i < W → first_word i ≤ start i
  first_start i h = start_mono C (first_like key i) i (like_le key i) h

  -- ---- in a rectangular table the runs agree

  module _ (R : Rectangle W beginning ending) where
    turn : (i j : ℕ) → i < W → j < W → Shared W beginning ending i j → Shared W beginning ending j i
    turn i j p q m = R m.at i j m.inside p q m.begins m.ends

    chain : (i j k : ℕ) → j < W → Shared W beginning ending i j → Shared W beginning ending j k → Shared W beginning ending i k
    chain i j k q m l =
        let r = R j l.at m.at q l.inside m.inside (sym l.begins) (sym m.ends) in
        record { at = r.at; inside = r.inside; begins = r.begins ∙ m.begins; ends = r.ends ∙ l.ends }

    -- words of one run share a vertex
    along : {i j : ℕ} → In W beginning i j → Shared W beginning ending i j
    along {i} {j} u = record { at = j; inside = u.inside; begins = u.begins; ends = refl }

    firsts_agree : (i : ℕ) → i < W → first_word i ≡ first_word (start i)
    firsts_agree i h =
        let s : start i < W = omega (arith, like_le beginning i) in
        let p = first_least (start i) (first_word i) s
        (chain (first_word i) i (start i) h (first_shares i h) (along (record { inside = s; begins = like_is beginning i }))) in
        let q = first_least i (first_word (start i)) h
        (chain (first_word (start i)) (start i) i s (first_shares (start i) s) (along (own_run C i h))) in
        omega arith

    pub first_twice : (i : ℕ) → i < W → first_word (first_word i) ≡ first_word i
    first_twice i h =
        let q : first_word i < W = omega (arith, first_le_lem i) in
        let p = first_least i (first_word (first_word i)) h
        (chain (first_word (first_word i)) (first_word i) i q (first_shares (first_word i) q) (first_shares i h)) in
        omega (arith, first_le_lem (first_word i))

    -- of two runs whose starts share a vertex, one goes on where the other does
    on_too : (a b : ℕ) → a < W → start b ≡ b → Shared W beginning ending b a → (m : ℕ) → In W beginning a (a + m)
        → T (goes_on W start (a + m)) → T (goes_on W start (b + m))
    on_too a b p s k m u t =
        let longer : (i : ℕ) → In W beginning a (a + i) → In W beginning b (b + i) = as_long C a b s (λ x v. chain b a x p k (along v)) in
        let e : a + m + 1 ≡ a + (m + 1) = omega arith in
        let f : b + (m + 1) ≡ b + m + 1 = omega arith in
        in_on C b (b + m) (longer m u) (subst (In W beginning b) f (longer (m + 1) (subst (In W beginning a) e (on_in C a (a + m) u t))))

    lasts_agree : (a b : ℕ) → start a ≡ a → start b ≡ b → a < W → b < W → Shared W beginning ending b a → (m : ℕ)
        → In W beginning a (a + m) → goes_on W start (a + m) ≡ goes_on W start (b + m)
    lasts_agree a b sa sb p q k m u = same_test _ _ (on_too a b p sb k m u)
        (on_too b a q sa (turn b a q p k) m (as_long C a b sb (λ x v. chain b a x p k (along v)) m u))

    agree : RunsAgree W start first_word
    agree i h =
        let p : start i < W = omega (arith, like_le beginning i) in
        let e : start i + (i - start i) ≡ i = omega (arith, like_le beginning i) in
        let k = subst (λ z. Shared W beginning ending z (start i)) (sym (firsts_agree i h)) (first_shares (start i) p) in
        record {
          firsts = firsts_agree i h;
          lasts = ap (goes_on W start) (sym e)
              ∙ lasts_agree (start i) (first_word i) (like_twice beginning i) (like_twice beginning (first_like key i))
              p (omega (arith, first_le_lem i)) k (i - start i) (subst (In W beginning (start i)) (sym e) (own_run C i h));
        }

  -- ---- a table whose runs agree is rectangular

  abbrev RunAgrees : ℕ → Type 0
  RunAgrees a = (x : ℕ) → In W beginning a x → Agrees W start first_word x

  start_of : (a x : ℕ) → start a ≡ a → In W beginning a x → start x ≡ a
  start_of a x s u = like_eq beginning x a u.begins ∙ s

  -- a is the start of a run, b its first word
  module _ (a b : ℕ) (sa : start a ≡ a) (inside : a < W) (fb : first_word a ≡ b) (A : RunAgrees a) where
    first_of : (x : ℕ) → In W beginning a x → first_word x ≡ first_word a
    first_of x u = (A x u).firsts ∙ ap first_word (start_of a x sa u)

    sb : start b ≡ b
    sb = subst (λ z. start z ≡ z) fb (like_twice beginning (first_like key a))

    matches : (x : ℕ) → In W beginning a x → Shared W beginning ending b x
    matches x u = subst (λ z. Shared W beginning ending z x) (first_of x u ∙ fb) (first_shares x u.inside)

    there : (m : ℕ) → In W beginning a (a + m) → In W beginning b (b + m)
    there = as_long C a b sb matches

    lasts_as : (m x y : ℕ) → x ≡ a + m → y ≡ b + m → In W beginning a x → goes_on W start x ≡ goes_on W start y
    lasts_as m x y p q u =
        let h = first_of x u ∙ fb in
        let s = start_of a x sa u in
        let e : first_word x + (x - start x) ≡ y = omega arith in
        (A x u).lasts ∙ ap (goes_on W start) e

    -- a is at least as long as b
    back : (m x y : ℕ) → x ≡ a + m → y ≡ b + m → In W beginning b y → In W beginning a x
    back zero x y p q u = let e : x ≡ a = omega arith in record { inside = omega arith; begins = ap beginning e }
    back (suc m) x y p q u =
        let v = between C b (y - 1) y (omega arith) (omega arith) u in
        let w = back m (x - 1) (y - 1) (omega arith) (omega arith) v in
        let e : y ≡ y - 1 + 1 = omega arith in
        let f : x - 1 + 1 ≡ x = omega arith in
        let t = in_on C b (y - 1) v (subst (In W beginning b) e u) in
        subst (In W beginning a) f (on_in C a (x - 1) w (subst T (sym (lasts_as m (x - 1) (y - 1) (omega arith) (omega arith) w)) t))

    -- were an ending behind its place in b, so would be the next one, and in the end one outside the table
    never_behind : (left m x y l : ℕ) → W ≤ x + left → x ≡ a + m → y ≡ b + m → In W beginning a x → In W beginning b l → ending l ≡ ending x
        → y < l → ⊥
    never_behind zero m x y l h p q u v e g = omega (arith, u.inside)
    never_behind (suc left) m x y l h p q u v e g =
        let u' = back (suc m) (x + 1) (y + 1) (omega arith) (omega arith) (between C b (y + 1) l (omega arith) (omega arith) v) in
        let k = matches (x + 1) u' in
        let v' = match_in C a b sb matches (x + 1) u' in
        let r = same_order C u u' v v' e k.ends (omega arith) in
        never_behind left (suc m) (x + 1) (y + 1) k.at (omega arith) (omega arith) (omega arith) u' v' k.ends (omega arith)

    -- the words of both runs have the same endings, in one order
    same_endings : (m : ℕ) → In W beginning a (a + m) → ending (b + m) ≡ ending (a + m)
    same_endings m u =
        let v = match_in C a b sb matches (a + m) u in
        let k = matches (a + m) u in
        let e : b + m ≡ k.at = not_less (not_sooner C a b sb matches m (a + m) (b + m) k.at refl refl u v k.ends)
        (never_behind W m (a + m) (b + m) k.at (omega arith) refl refl u v k.ends) in
        ap ending e ∙ k.ends

  -- runs with one first word have the same endings
  one_first : (a c b : ℕ) → start a ≡ a → start c ≡ c → a < W → c < W → first_word a ≡ b → first_word c ≡ b → RunAgrees a → RunAgrees c
      → (m : ℕ) → In W beginning a (a + m) → Shared W beginning ending c (a + m)
  one_first a c b sa sc p q fa fc A B m u =
      let v = back c b sc q fc B m (c + m) (b + m) refl refl (there a b sa p fa A m u) in
      record {
        at = c + m;
        inside = v.inside;
        begins = v.begins;
        ends = sym (same_endings c b sc q fc B m v)
            ∙ same_endings a b sa p fa A m u;
      }

  rectangle : RunsAgree W start first_word → Rectangle W beginning ending
  rectangle A i j k p q r e f =
      let g : start i + (j - start i) ≡ j = omega (arith, like_eq beginning j i (sym e), like_le beginning j) in
      let one : first_word k ≡ first_word i = ap start (like_eq key k i (sym ((K i k p r).1 f))) in
      let u : In W beginning (start i) j = record { inside = q; begins = sym e ∙ sym (like_is beginning i) } in
      let m = one_first (start i) (start k) (first_word i) (like_twice beginning i) (like_twice beginning k)
      (omega (arith, like_le beginning i)) (omega (arith, like_le beginning k)) (sym (A i p).firsts) (sym (A k r).firsts ∙ one)
      (λ x v. A x v.inside) (λ x v. A x v.inside) (j - start i) (subst (In W beginning (start i)) (sym g) u) in
      record { at = m.at; inside = m.inside; begins = m.begins ∙ like_is beginning k; ends = m.ends ∙ ap ending g }

  pub agree_iff : Rectangle W beginning ending ↔ RunsAgree W (first_like beginning) (first_word_by beginning key)
  agree_iff = (agree, rectangle)
