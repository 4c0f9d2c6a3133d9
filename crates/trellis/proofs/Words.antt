-- Laws of words: equality by fields and by a test, places in the table, and words put together from two halves.
-- A joined word has the one word's beginning and the other's ending, and no other word has both.
use mathlib.Core.Path.{◌≡◌, refl, sym, ap, subst, ◌∙◌}
use mathlib.Core.List.Memᴰ
use mathlib.Core.List.{List}
use Prim.Native.Nat.{ℕ, zero, suc, ◌<◌}
use native.Mathlib.Omega.{arith}
use native.Mathlib.Nat.{not-suc-le-zero}
use native.Mathlib.Decide.{ℕ_discrete, dec_lt}
use lib.ListN.{length}
use lib.Dec.{T}
use Rattle.trellis.specs.Lists.{◌∈◌}
use Rattle.trellis.specs.Word.{Word, word, word_at, Before, same_word, Table, Beginning, Ending, beginning, ending, joined}
use Rattle.trellis.specs.Word.{RectangularAt, Rectangular}
use Rattle.trellis.proofs.Lists.{Place, in_place, place_of}
use Rattle.trellis.proofs.ThreeNumbers.{lower_never, lower_chain, alike_yes, alike_self}
use Rattle.trellis.proofs.Labels.{by_parts, spliced_front, spliced_back}

-- ---- equality

pub word_eq : {v w : Word} → v.root ≡ w.root → v.label ≡ w.label → v.goal ≡ w.goal → v ≡ w
word_eq p q r = λ k. word (p k) (q k) (r k)

pub same_yes : (v w : Word) → T (same_word v w) → v ≡ w
same_yes v w t =
    let e = alike_yes v.root v.label v.goal w.root w.label w.goal t in
    word_eq e.firsts e.seconds e.thirds

pub same_self : (w : Word) → T (same_word w w)
same_self w = alike_self w.root w.label w.goal

-- ---- places

abbrev pub Index : List Word → Word → Type 0
Index table w = Place (word 0 0 0) table w

pub word_in : (table : List Word) (i : ℕ) → i < length table → word_at table i ∈ table
word_in table i h = in_place (word 0 0 0) table i h

pub index : (table : List Word) (w : Word) → w ∈ table → Index table w
index table w m = place_of (word 0 0 0) table w m

-- ---- order

-- of two words of a table, the lower one comes first
pub comes_first : {n : ℕ} {table : List Word} → Table n table → (k i : ℕ) → k < length table → Before (word_at table k) (word_at table i)
    → k < i
comes_first {n} {table} G k i h b = go (dec_lt k i) (ℕ_discrete k i)
  where
    go : Dec (k < i) → Dec (k ≡ i) → k < i
    go (yes p) q = p
    go (no p) (yes q) = absurd (lower_never _ _ _ (subst (λ m. Before (word_at table m) (word_at table i)) q b))
    go (no p) (no q) = absurd (lower_never _ _ _ (lower_chain b (G.ascends i k (omega arith) h)))

-- each above the one before it: each above all before it
pub ascends_all : (table : List Word) → ((i : ℕ) → suc i < length table → Before (word_at table i) (word_at table (suc i)))
    → (i j : ℕ) → i < j → j < length table → Before (word_at table i) (word_at table j)
ascends_all table h i zero a b = absurd (not-suc-le-zero a)
ascends_all table h i (suc j) a b = go (ascends_all table h i j) (ℕ_discrete i j)
  where
    go : (i < j → j < length table → Before (word_at table i) (word_at table j)) → Dec (i ≡ j)
        → Before (word_at table i) (word_at table (suc j))
    go r (yes e) = subst (λ k. Before (word_at table k) (word_at table (suc j))) (sym e) (h j b)
    go r (no e) = lower_chain (r (omega arith) (omega arith)) (h j b)

-- ---- halves

module _ {b c : Beginning} where
  pub beginning_root : b ≡ c → b.root ≡ c.root
  beginning_root e = ap (λ (x : Beginning). x.root) e

  pub beginning_front : b ≡ c → b.symbols ≡ c.symbols
  beginning_front e = ap (λ (x : Beginning). x.symbols) e

  pub beginning_eq : b.root ≡ c.root → b.symbols ≡ c.symbols → b ≡ c
  beginning_eq p q = λ k. record { root = p k; symbols = q k }

module _ {b c : Ending} where
  pub ending_back : b ≡ c → b.symbols ≡ c.symbols
  ending_back e = ap (λ (x : Ending). x.symbols) e

  pub ending_goal : b ≡ c → b.goal ≡ c.goal
  ending_goal e = ap (λ (x : Ending). x.goal) e

  pub ending_eq : b.symbols ≡ c.symbols → b.goal ≡ c.goal → b ≡ c
  ending_eq p q = λ k. record { symbols = p k; goal = q k }

-- ---- joined words

module _ (n t : ℕ) where
  pub joined_beginning : (v w : Word) → beginning n t (joined n t v w) ≡ beginning n t v
  joined_beginning v w = beginning_eq refl (spliced_front n t v.label w.label)

  pub joined_ending : (v w : Word) → ending n t (joined n t v w) ≡ ending n t w
  joined_ending v w = ending_eq (spliced_back n t v.label w.label) refl

  -- the word with this beginning and that ending
  pub joined_is : (z v w : Word) → beginning n t z ≡ beginning n t v → ending n t z ≡ ending n t w → z ≡ joined n t v w
  joined_is z v w b e = word_eq {v = z} {w = joined n t v w} (beginning_root b)
      (by_parts n t v.label w.label z.label (beginning_front b) (ending_back e)) (ending_goal e)

  pub joined_eq : (v v' w w' : Word) → beginning n t v ≡ beginning n t v' → ending n t w ≡ ending n t w' → joined n t v w ≡ joined n t v' w'
  joined_eq v v' w w' b e = joined_is (joined n t v w) v' w' (joined_beginning v w ∙ b) (joined_ending v w ∙ e)

  module _ (table : List Word) where
    pub joined_self : (v : Word) → v ∈ table → joined n t v v ∈ table
    joined_self v m = Memᴰ.cast (sym (joined_is v v v refl refl)) m

    module _ (R : RectangularAt n t table) where
      pub joined_turn : (v w : Word) → v ∈ table → w ∈ table → joined n t v w ∈ table → joined n t w v ∈ table
      joined_turn v w a b m = R (joined n t v w) v w m a b (joined_beginning v w) (joined_ending v w)

      pub joined_chain : (v w z : Word) → w ∈ table → joined n t v w ∈ table → joined n t w z ∈ table → joined n t v z ∈ table
      joined_chain v w z a m k = Memᴰ.cast
          (sym (joined_eq (joined n t v w) v (joined n t w z) z (joined_beginning v w) (joined_ending w z)))
          (R w (joined n t w z) (joined n t v w) a k m (sym (joined_beginning w z)) (sym (joined_ending v w)))

-- ---- rectangular tables

-- a table of one_symbol words has no inner depth
pub one_symbol : (table : List Word) → Rectangular 1 table
one_symbol table t p q = absurd (omega arith)

-- by indices
pub rectangular_by : (n t : ℕ) (table : List Word)
    → ((i j k : ℕ) → i < length table → j < length table → k < length table
    → beginning n t (word_at table i) ≡ beginning n t (word_at table j) → ending n t (word_at table i) ≡ ending n t (word_at table k)
    → joined n t (word_at table k) (word_at table j) ∈ table)
    → RectangularAt n t table
rectangular_by n t table h ac ad bc a b c x y =
    let i = index table ac a in
    let j = index table ad b in
    let k = index table bc c in
    let r = h i.at j.at k.at i.below j.below k.below
    (ap (beginning n t) i.is ∙ x ∙ sym (ap (beginning n t) j.is)) (ap (ending n t) i.is ∙ y ∙ sym (ap (ending n t) k.is)) in
    subst (λ v. joined n t bc v ∈ table) j.is (subst (λ v. joined n t v (word_at table j.at) ∈ table) k.is r)
