-- One depth's vertices, twice as many words a turn. With the numbers and the syndromes of the first 2 ^ b words in place, the next 2 ^ b
-- have the new row's syndrome added to theirs. If an earlier word has this syndrome, its number is added to the numbers; else the next
-- number is, which is 2 ^ dim, and the dimension grows.
use mathlib.Core.Path.{◌≡◌, refl, sym, ap, ap₂, subst, ◌∙◌}
use mathlib.Core.List.{List}
use Prim.Native.Nat.{ℕ, suc, ◌+◌, ◌-◌, ◌*◌, ◌/◌, ◌^◌, ◌≤◌, ◌<◌}
use native.Mathlib.Omega.{arith}
use native.Mathlib.Numerals.{add-one}
use native.Mathlib.Nat.{add-zero, zero-add, pow-suc}
use native.Mathlib.Decide.{dec_lt}
use lib.ListN.{length, get_or, set, length-set}
use lib.Seq.{get_or-set_same, get_or-set_other}
use lib.Pow.{pow_pos, pow_mono}
use Rattle.std.specs.Prelude.{Option, Some, None, IfSome, MatchOption}
use Rattle.rows.specs.Sums.{◌⊕◌, sum_of}
use Rattle.rows.specs.Inner.Numbering.{number, numbers_below, Numbered}
use Rattle.rows.proofs.Sums.{Additive, additive_zero, sum_power}
use Rattle.rows.proofs.Numbering.{numbered_none, numbered_old, numbered_new, number_old, number_new, high_value}
use Rattle.row_sums.specs.Inner.Doubled.{Doubled}
use Rattle.row_depth.proofs.Finding.{Found}
use Rattle.row_depth.specs.Inner.Depth.{syndrome_of, DepthAsked, DepthPut}

-- the first w = 2 ^ b words have their syndromes in seen and their numbers in new
pub record Putting (g : ℕ → ℕ) (k : ℕ) (old : List ℕ) (place : ℕ) (seen new : List ℕ) (dim w b : ℕ) : Type 0 where
  pub numbered : Numbered g b dim
  pub less : dim ≤ b
  pub most : b ≤ k
  pub wide : w ≡ 2 ^ b
  pub values : (i : ℕ) → i < w → get_or seen i 0 ≡ g i
  pub row : (i : ℕ) → i < w → get_or new (place + i) 0 ≡ number g i
  pub front : (i : ℕ) → i < place → get_or new i 0 ≡ get_or old i 0
  pub behind : (i : ℕ) → place + w ≤ i → get_or new i 0 ≡ get_or old i 0
  pub len : length new ≡ length old
  pub places : length seen ≡ 1024

-- ---- before the first turn

module _ {columns rows map : List ℕ} {cut place : ℕ} (A : DepthAsked columns rows cut map place) where
  pub first_place : place < length map
  first_place = omega (arith, A.room, pow_pos (length rows))

  pub putting_none : {g : ℕ → ℕ} → Additive g → (seen : List ℕ) → length seen ≡ 1024 → get_or seen 0 0 ≡ 0
      → Putting g (length rows) (set map place 0) place seen (set map place 0) 0 1 0
  putting_none {g} G seen l z = record {
    numbered = numbered_none G;
    less = omega arith;
    most = omega arith;
    wide = refl;
    values = λ i q. let e : i ≡ 0 = omega arith in ap (λ j. get_or seen j 0) e ∙ z ∙ sym (ap g e ∙ additive_zero G);
    row = λ i q.
        let e : i ≡ 0 = omega arith in
        ap (λ j. get_or (set map place 0) (place + j) 0) e ∙ ap (λ j. get_or (set map place 0) j 0) (add-zero place)
        ∙ get_or-set_same map place 0 0 first_place ∙ sym (ap (number g) e ∙ none);
    front = λ i q. refl;
    behind = λ i q. refl;
    len = refl;
    places = l;
  }
    where
      none : number g 0 ≡ 0
      none = omega (arith, (numbered_none G).small 0 (omega arith))

-- the syndrome of the new row
pub row_value : (columns rows : List ℕ) (cut b : ℕ) {r x : ℕ} → r ≡ get_or rows b 0 / 2 ^ cut * 2 ^ cut → x ≡ sum_of columns r
    → x ≡ syndrome_of columns rows cut (2 ^ b)
row_value columns rows cut b e f = f ∙ ap (sum_of columns) (e ∙ ap (λ y. y / 2 ^ cut * 2 ^ cut) (sym (sum_power rows b)))

-- ---- a turn

module _ {g : ℕ → ℕ} (A : Additive g) {k : ℕ} {old : List ℕ} {place : ℕ} {seen new : List ℕ} {dim w b : ℕ}
    (P : Putting g k old place seen new dim w b) (h : b < k) {x : ℕ} (value : x ≡ g (2 ^ b)) where
  -- both halves
  halves : (Q : ℕ → Type 0) → ((i : ℕ) → i < w → Q i) → ((j : ℕ) → j < w → Q (w + j)) → (i : ℕ) → i < w + w → Q i
  halves Q low high i l = go (dec_lt i w)
    where
      go : Dec (i < w) → Q i
      go (yes q) = low i q
      go (no q) = let e : w + (i - w) ≡ i = omega arith in subst Q e (high (i - w) (omega arith))

  inside : (j : ℕ) → j < w → j < 2 ^ b
  inside j l = subst (λ m. j < m) P.wide l

  -- once the number that is added is known to be right
  turn : {c : ℕ} {seen' new' : List ℕ} → (e : ℕ) → Numbered g (suc b) e → e ≤ suc b
      → ((j : ℕ) → j < 2 ^ b → number g (2 ^ b + j) ≡ c ⊕ number g j)
      → Doubled place w c new w new' → Doubled 0 w x seen w seen' → Putting g k old place seen' new' e (w + w) (suc b)
  turn {c} {seen'} {new'} e N l add D E = record {
    numbered = N;
    less = l;
    most = h;
    wide = omega (arith, P.wide, pow-suc 2 b);
    values = halves (λ i. get_or seen' i 0 ≡ g i) (λ i q. E.front i (omega arith) ∙ P.values i q)
        (λ j q. ap (λ m. get_or seen' (m + j) 0) (sym (zero-add w)) ∙ E.done j q
        ∙ ap₂ (λ y z. y ⊕ z) value (ap (λ m. get_or seen m 0) (zero-add j) ∙ P.values j q)
        ∙ sym (high_value A P.numbered j (inside j q)) ∙ ap (λ m. g (m + j)) (sym P.wide));
    row = halves (λ i. get_or new' (place + i) 0 ≡ number g i) (λ i q. D.front (place + i) (omega arith) ∙ P.row i q)
        (λ j q.
        let a : place + (w + j) ≡ place + w + j = omega arith in
        ap (λ m. get_or new' m 0) a ∙ D.done j q ∙ ap (λ y. c ⊕ y) (P.row j q) ∙ sym (add j (inside j q))
        ∙ ap (λ m. number g (m + j)) (sym P.wide));
    front = λ i q. D.front i (omega arith) ∙ P.front i q;
    behind = λ i q. D.behind i (omega arith) ∙ P.behind i (omega arith);
    len = D.len ∙ P.len;
    places = E.len ∙ P.places;
  }

  pub putting_next : {c dim' : ℕ} {seen' new' : List ℕ} (found : Option ℕ) → Found seen w x found
      → MatchOption found (c ≡ 2 ^ dim) (λ o. c ≡ get_or new (place + o) 0) → MatchOption found (dim' ≡ dim + 1) (λ _. dim' ≡ dim)
      → Doubled place w c new w new' → Doubled 0 w x seen w seen' → Putting g k old place seen' new' dim' (w + w) (b + 1)
  putting_next {c} {dim'} {seen'} {new'} found F p q D E =
      subst (λ m. Putting g k old place seen' new' dim' (w + w) m) (sym (add-one b)) (go found F p q)
    where
      Next : ℕ → Type 0
      Next d = Putting g k old place seen' new' d (w + w) (suc b)

      go : (found : Option ℕ) → Found seen w x found → MatchOption found (c ≡ 2 ^ dim) (λ o. c ≡ get_or new (place + o) 0)
          → MatchOption found (dim' ≡ dim + 1) (λ _. dim' ≡ dim) → Next dim'
      go (Some o) (l, hit) p q =
          let same : g o ≡ g (2 ^ b) = sym (P.values o l) ∙ hit ∙ value in
          let cs : c ≡ number g o = p ∙ P.row o l in
          subst Next (sym q)
          (turn dim (numbered_old A P.numbered o (inside o l) same) (omega (arith, P.less))
          (λ j s. number_old A P.numbered o (inside o l) same j s ∙ ap (λ y. y ⊕ number g j) (sym cs)) D E)
      go None miss p q =
          subst Next (sym (q ∙ add-one dim))
          (turn (suc dim) (numbered_new A P.numbered fresh) (omega (arith, P.less))
          (λ j s. number_new A P.numbered fresh j s ∙ ap (λ y. y ⊕ number g j) (sym p)) D E)
        where
          fresh : (i : ℕ) → i < 2 ^ b → g i ≡ g (2 ^ b) → ⊥
          fresh i s e = let r : i < w = subst (λ m. i < m) (sym P.wide) s in miss i r (P.values i r ∙ e ∙ sym value)

-- ---- how large things are, and the end

module _ {columns rows map seen new : List ℕ} {cut place dim w b : ℕ} (A : DepthAsked columns rows cut map place)
    (P : Putting (syndrome_of columns rows cut) (length rows) (set map place 0) place seen new dim w b) where
  twice : b < length rows → w + w ≤ 2 ^ length rows
  twice h = omega (arith, P.wide, pow-suc 2 b, pow_mono {i = suc b} {j = length rows} h)

  pub row_room : b < length rows → place + (w + w) ≤ length new
  row_room h = omega (arith, twice h, A.room, P.len, length-set map place 0)

  pub seen_room : b < length rows → 0 + (w + w) ≤ length seen
  seen_room h = omega (arith, twice h, pow_mono {i = length rows} {j = 10} A.few, P.places)

  pub seen_inside : b < length rows → w ≤ length seen
  seen_inside h = omega (arith, seen_room h)

  pub found_inside : b < length rows → (x : ℕ) (found : Option ℕ) → Found seen w x found → IfSome found (λ o. place + o < length new)
  found_inside h x (Some o) (l, e) = omega (arith, row_room h)
  found_inside h x None miss = tt

  pub dim_few : b < length rows → dim < 10
  dim_few h = omega (arith, P.less, A.few)

  pub putting_end : length rows ≤ b → DepthPut columns rows cut map place new dim
  putting_end h =
      let e : b ≡ length rows = omega (arith, P.most) in
      let u : w ≡ 2 ^ length rows = P.wide ∙ ap (λ m. 2 ^ m) e in
      record {
        len = P.len ∙ length-set map place 0;
        row = λ i q. P.row i (omega arith);
        counted = sym P.numbered.count ∙ ap (λ m. numbers_below (syndrome_of columns rows cut) (2 ^ m)) e;
        few = omega (arith, P.less, A.few);
        front = λ i q. P.front i q ∙ get_or-set_other map place i 0 0 (λ d. omega arith);
        behind = λ i q. P.behind i (omega arith) ∙ get_or-set_other map place i 0 0 (λ d. omega (arith, pow_pos (length rows)));
      }
