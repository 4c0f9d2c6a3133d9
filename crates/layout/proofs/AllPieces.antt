-- The layout's two arrays over all steps: what the loops over the steps need of the first words, and what they keep.
use mathlib.Core.Path.{◌≡◌, refl, sym, ap, subst, ◌∙◌}
use mathlib.Core.Bool.{Bool, true, false, cond}
use mathlib.Core.List.{List, [], ◌∷◌, ◌++◌, map, flat_map, map-map}
use Prim.Native.Nat.{ℕ, zero, suc, ◌+◌, ◌-◌, ◌*◌, ◌<◌, ◌≤◌}
use native.Mathlib.Nat.{suc-mul, mul-zero, mul-add, add-zero, zero-add, mul-le-mul_left}
use native.Mathlib.Omega.{arith}
use native.Mathlib.Numerals.{add-one}
use native.Mathlib.Decide.{dec_lt}
use lib.ListN.{length, get_or, length-append, get_or-append, length-map}
use lib.Seq.{get_or-append-add, ext_get_or}
use Rattle.trellis.specs.Own.{Edge}
use Rattle.trellis.specs.Layout.{joined_up, pair_of, symbol_of}
use Rattle.trellis.specs.Inner.Write.{Wrote}
use Rattle.trellis.proofs.Lists.{length_run, run_at, length_two, flat_map_map}
use Rattle.trellis.proofs.Write.{wrote_none, wrote_then, wrote_length, wrote_at}
use Rattle.trellis.proofs.Joined.{lengths_before, lengths_suc, lengths_le, joined_length, joined_at as joined_place}
use Rattle.takers.specs.Inner.Takers.{row_edge, leads_higher, takers}
use Rattle.takers.proofs.Steps.{rows_fit}
use Rattle.takers.specs.Inner.Pieces.{SmallMap, map_edge, step_takers, step_list, AllTaken, Taken, part, pairs_of, symbols_of, WordsAt}
use Rattle.takers.specs.Inner.Pieces.{step_pairs, step_symbols}

-- ---- lists one behind another

pub joined_rise : {A : Type 0} (f : ℕ → List A) (t n : ℕ) → t < n → length (joined_up f t) + length (f t) ≤ length (joined_up f n)
joined_rise f t n h =
    let a = lengths_le f (n - suc t) (suc t) in
    let e : suc t + (n - suc t) ≡ n = omega arith in
    let w : lengths_before f (suc t) ≤ lengths_before f n = subst (λ u. lengths_before f (suc t) ≤ lengths_before f u) e a in
    omega (arith, w, lengths_suc f t, joined_length f t, joined_length f n)

joined_at : (f : ℕ → List ℕ) (t n k : ℕ) → t < n → k < length (f t) → get_or (joined_up f n) (length (joined_up f t) + k) 0 ≡ get_or (f t) k 0
joined_at f t n k h l = ap (λ m. get_or (joined_up f n) (m + k) 0) (joined_length f t) ∙ joined_place f n t k 0 h l

-- what take_edges leaves is what the arrays need
pub taken_all : {m labels : List ℕ} {n total : ℕ} {old words counts : List ℕ} → AllTaken m labels n old words total counts
    → n * length labels ≤ length old
    → Taken m labels n words counts
taken_all {m} {labels} {n} {total} {old} {words} {counts} A h =
    let e : total ≡ length (joined_up (step_takers m labels n) n) = omega (arith, A.noted.end_is) in
    record {
      holds = λ t l k j.
          ap (λ i. get_or words i 0) (sym (zero-add (length (joined_up (step_takers m labels n) t) + k)))
          ∙ wrote_at A.noted (omega (arith, A.few)) (length (joined_up (step_takers m labels n) t) + k)
          (omega (arith, joined_rise (step_takers m labels n) t n l))
          ∙ joined_at (step_takers m labels n) t n k l j;
      counted = A.counted;
      room = omega (arith, A.few, wrote_length A.noted);
      places = A.places;
    }

-- ---- first words are words

takers_below : (f : ℕ → Edge) (m k : ℕ) → k < length (takers f m) → get_or (takers f m) k 0 < m
unfolding takers
takers_below f zero k h = absurd (omega arith)
takers_below f (suc m) k h = go (leads_higher f m) (takers_below f m) h
  where
    split : Dec (k < length (takers f m)) → ((j : ℕ) → j < length (takers f m) → get_or (takers f m) j 0 < m)
        → k < length (takers f m ++ (m ∷ [])) → get_or (takers f m ++ (m ∷ [])) k 0 < suc m
    split (yes l) r q = let e = get_or-append (takers f m) (m ∷ []) 0 k l in omega (arith, r k l)
    split (no l) r q =
        let j : k ≡ length (takers f m) + 0 = omega (arith, length-append (takers f m) (m ∷ [])) in
        let e : get_or (takers f m ++ (m ∷ [])) k 0 ≡ m = ap (λ i. get_or (takers f m ++ (m ∷ [])) i 0) j
        ∙ get_or-append-add (takers f m) (m ∷ []) 0 0 in
        omega arith

    go : (b : Bool) → ((j : ℕ) → j < length (takers f m) → get_or (takers f m) j 0 < m)
        → k < length (cond b (takers f m ++ (m ∷ [])) (takers f m))
        → get_or (cond b (takers f m ++ (m ∷ [])) (takers f m)) k 0 < suc m
    go true r q = split (dec_lt k (length (takers f m))) r q
    go false r q = omega (arith, r k q)

module _ {m labels : List ℕ} {n : ℕ} {words counts : List ℕ} (K : Taken m labels n words counts) {t lo count : ℕ} (h : t < n)
    (p : lo ≡ length (joined_up (step_takers m labels n) t)) (q : count ≡ get_or counts t 0) where
  count_is_lem : count ≡ length (step_takers m labels n t)
  count_is_lem = q ∙ K.counted t h

  step_word : (k : ℕ) → k < count → get_or words (lo + k) 0 ≡ get_or (step_takers m labels n t) k 0
  step_word k l = ap (λ u. get_or words (u + k) 0) p ∙ K.holds t h k (omega (arith, count_is_lem))

  pub step_words : WordsAt words lo (lo + count) (length labels)
  unfolding step_takers
  step_words = record {
    order = omega arith;
    inside = omega (arith, count_is_lem, p, K.room, joined_rise (step_takers m labels n) t n h);
    below = λ k a b.
        let e : lo + (k - lo) ≡ k = omega arith in
        let s = step_word (k - lo) (omega arith) in
        let f : get_or words (lo + (k - lo)) 0 ≡ get_or words k 0 = ap (λ i. get_or words i 0) e in
        omega (arith, takers_below (map_edge m labels n t) (length labels) (k - lo) (omega (arith, count_is_lem)));
  }

  pub step_part : part words lo (lo + count - lo) ≡ step_takers m labels n t
  step_part =
      let e : lo + count - lo ≡ count = omega arith in
      ap (part words lo) e ∙ ext_get_or 0 (part words lo count) (step_takers m labels n t) (length_run _ lo count ∙ count_is_lem)
      (λ i l. let j : i < count = omega (arith, length_run (λ k. get_or words k 0) lo count) in run_at (λ k. get_or words k 0) lo count i 0 j
      ∙ step_word i j)

-- ---- the loops over the steps

-- the pieces of the steps before t are written from place `start` on; `size` numbers for each edge
pub record InAll (m labels : List ℕ) (n : ℕ) (piece : ℕ → List ℕ) (size start : ℕ) (old new : List ℕ) (at lo t : ℕ) : Type 0 where
  pub t_le : t ≤ n
  pub lo_is : lo ≡ length (joined_up (step_takers m labels n) t)
  pub wrote : Wrote old start (joined_up piece t) new at
  pub at_is : at ≡ start + size * lo
  pub len : length new ≡ length old

pub all_none : (m labels : List ℕ) (n : ℕ) (piece : ℕ → List ℕ) (size start : ℕ) (old : List ℕ)
    → InAll m labels n piece size start old old start 0 0
unfolding joined_up
all_none m labels n piece size start old = record {
  t_le = omega arith;
  lo_is = refl;
  wrote = wrote_none;
  at_is = rw (mul-zero size) (sym (add-zero start));
  len = refl;
}

module _ {m labels : List ℕ} {n : ℕ} {words counts : List ℕ}
    (K : Taken m labels n words counts) {piece : ℕ → List ℕ} {size start : ℕ} {old new : List ℕ} {at lo t : ℕ}
    (c : InAll m labels n piece size start old new at lo t) (h : t < n) where
  -- the step's numbers have room
  pub all_room : {count : ℕ} → count ≡ get_or counts t 0 → start + size * length (joined_up (step_takers m labels n) n) ≤ length old
      → at + size * count ≤ length new
  all_room {count} q r =
      let k : lo + count ≤ length (joined_up (step_takers m labels n) n) =
      omega (arith, q, K.counted t h, c.lo_is, joined_rise (step_takers m labels n) t n h) in
      let j : size * (lo + count) ≤ size * length (joined_up (step_takers m labels n) n) = mul-le-mul_left size k in
      omega (arith, c.at_is, c.len, mul-add size lo count)

  pub all_more : {new' : List ℕ} {end count : ℕ} → count ≡ get_or counts t 0 → Wrote new at (piece t) new' end
      → length (piece t) ≡ size * length (step_takers m labels n t)
      → InAll m labels n piece size start old new' end (lo + count) (t + 1)
  unfolding joined_up
  all_more {new'} {end} {count} q W s = rw (add-one t) (record {
    t_le = h;
    lo_is = omega (arith, c.lo_is, q, K.counted t h, length-append (joined_up (step_takers m labels n) t) (step_takers m labels n t));
    wrote = wrote_then c.wrote W;
    at_is = omega (arith, W.end_is, s, c.at_is, mul-add size lo count, ap (λ k. size * k) (q ∙ K.counted t h));
    len = wrote_length W ∙ c.len;
  })

pub all_end : {m labels : List ℕ} {n : ℕ} {piece : ℕ → List ℕ} {size start : ℕ} {old new : List ℕ} {at lo t : ℕ}
    → InAll m labels n piece size start old new at lo t
    → n ≤ t → Wrote old start (joined_up piece n) new at
all_end {m} {labels} {n} {piece} {size} {start} {old} {new} {at} {lo} {t} c h = let e : t ≡ n = omega (arith, c.t_le) in
    subst (λ k. Wrote old start (joined_up piece k) new at) e c.wrote

pub row_more : (words : ℕ) {row : ℕ} (t : ℕ) → row ≡ t * words → row + words ≡ (t + 1) * words
row_more words {row} t e = rw (add-one t) (omega (arith, suc-mul t words))

pub row_room : {m labels : List ℕ} {n row t : ℕ} → SmallMap m labels n → row ≡ t * length labels → t < n
    → row + length labels + length labels ≤ length m
row_room {m} {labels} {n} {row} {t} S e h = omega (arith, rows_fit {m = m} S e h, S.room)

-- ---- the pieces of a step

module _ (m labels : List ℕ) (n t row : ℕ) (e : row ≡ t * length labels) where
  pub pairs_are : pairs_of m (length labels) row (step_takers m labels n t) ≡ step_pairs m labels n t
  unfolding pairs_of step_pairs step_list row_edge
  pairs_are = ap (λ r. flat_map (λ i. get_or m (r + i) 0 ∷ get_or m (r + length labels + i) 0 ∷ []) (step_takers m labels n t)) e
      ∙ sym (flat_map_map pair_of (map_edge m labels n t) (step_takers m labels n t))

pub symbols_are : (m labels : List ℕ) (n t : ℕ) → symbols_of labels n t (step_takers m labels n t) ≡ step_symbols m labels n t
unfolding symbols_of step_symbols step_list row_edge
symbols_are m labels n t = sym (map-map symbol_of (map_edge m labels n t) (step_takers m labels n t))

pub pairs_size : (m labels : List ℕ) (n t : ℕ) → length (step_pairs m labels n t) ≡ 2 * length (step_takers m labels n t)
unfolding step_pairs step_list
pairs_size m labels n t = ap length (flat_map_map pair_of (map_edge m labels n t) (step_takers m labels n t))
    ∙ length_two (λ i. pair_of (map_edge m labels n t i)) (step_takers m labels n t) (λ i. refl)

one_each : (f : ℕ → ℕ) (ks : List ℕ) → length (map f ks) ≡ 1 * length ks
one_each f ks = let e = length-map ks f in omega arith

pub symbols_size : (m labels : List ℕ) (n t : ℕ) → length (step_symbols m labels n t) ≡ 1 * length (step_takers m labels n t)
unfolding step_symbols step_list
symbols_size m labels n t = ap length (map-map symbol_of (map_edge m labels n t) (step_takers m labels n t))
    ∙ one_each _ (step_takers m labels n t)

-- one step more of each array
module _ {m labels : List ℕ} {n : ℕ} {words counts : List ℕ}
    (K : Taken m labels n words counts) {start : ℕ} {old new new' : List ℕ} {at lo t count end : ℕ} where
  pub pairs_more : {row : ℕ} → InAll m labels n (step_pairs m labels n) 2 start old new at lo t → t < n → count ≡ get_or counts t 0
      → row ≡ t * length labels
      → Wrote new at (pairs_of m (length labels) row (part words lo (lo + count - lo))) new' end
      → InAll m labels n (step_pairs m labels n) 2 start old new' end (lo + count) (t + 1)
  pairs_more {row} c h q r W =
      all_more K c h q (subst (λ vs. Wrote new at vs new' end)
      (ap (pairs_of m (length labels) row) (step_part K h c.lo_is q) ∙ pairs_are m labels n t row r) W) (pairs_size m labels n t)

  pub symbols_more : InAll m labels n (step_symbols m labels n) 1 start old new at lo t → t < n → count ≡ get_or counts t 0
      → Wrote new at (symbols_of labels n t (part words lo (lo + count - lo))) new' end
      → InAll m labels n (step_symbols m labels n) 1 start old new' end (lo + count) (t + 1)
  symbols_more c h q W =
      all_more K c h q (subst (λ vs. Wrote new at vs new' end)
      (ap (symbols_of labels n t) (step_part K h c.lo_is q) ∙ symbols_are m labels n t) W) (symbols_size m labels n t)
