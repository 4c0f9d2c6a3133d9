-- The table of all sums of rows. It is a table: its words ascend, since numbers do. It is rectangular at every depth: the beginning of bc
-- followed by the ending of ad is the word of ac + ad + bc, for ac cancels ad before the cut and bc behind it. And by a parity check two
-- words share a vertex exactly if they have one syndrome at the cut: high bits of x and low bits of y make a sum exactly if the syndromes
-- of the two parts are equal, and y itself is a sum.
use mathlib.Core.Path.{◌≡◌, refl, sym, ap, ap₂, subst, ◌∙◌}
use mathlib.Core.Logic.{◌⊎◌, inl, inr, ◌↔◌}
use mathlib.Core.List.Memᴰ
use mathlib.Core.List.{List, [], ◌∷◌, map}
use Prim.Native.Nat.{ℕ, zero, suc, ◌+◌, ◌*◌, ◌/◌, ◌%◌, ◌^◌, ◌≤◌, ◌<◌}
use native.Mathlib.Omega.{arith}
use native.Mathlib.Nat.{mod-lt, mod-le, div-mul-le_self, not-suc-le-zero}
use lib.Pow.{pow_pos, split}
use lib.Bits.{xor_comm, xor_self, xor_shr, xor_mod, xor_lt, xor_shifted}
use lib.ListN.{length, get_or, length-map}
use lib.Dec.{ltb, ltb→lt}
use Rattle.trellis.specs.Lists.{◌∈◌, each}
use Rattle.trellis.specs.Word.{Word, word, word_at, Before, Table, beginning, ending, joined, Rectangular}
use Rattle.trellis.proofs.Lists.{in_place, in_each, of_each}
use Rattle.trellis.proofs.Ascending.{Ascends, numbers, ascends, in_ascending, of_ascending, ascends_at}
use Rattle.rows.specs.Sums.{◌⊕◌, sum_of, choices, IsSum, sums}
use Rattle.rows.specs.Table.{word_of, cut_at, table_of}
use Rattle.rows.specs.Check.{ParityCheck, syndrome_at}
use Rattle.rows.proofs.Xor.{xor_twice, xor_same}
use Rattle.rows.proofs.Sums.{sum_xor, sum_cast, sum_add}
use Rattle.rows.proofs.Words.{spread_lt, words_rise, word_same, splice_at, word_joined, same_high, same_low}

-- ---- lists

pub in_map : {A B : Type 0} (f : A → B) (l : List A) (x : A) → x ∈ l → f x ∈ map f l
in_map f [] x m = absurd (Memᴰ.not-nil m)
in_map f (y ∷ l) x m = elim (Memᴰ.cases_cons m) [ inl e ↦ Memᴰ.head (ap f e) | inr u ↦ Memᴰ.tail (in_map f l x u) ]

pub record Image {A B : Type 0} (f : A → B) (l : List A) (y : B) : Type 0 where
  pub source : A
  pub listed : source ∈ l
  pub is : y ≡ f source

pub of_map : {A B : Type 0} (f : A → B) (l : List A) (y : B) → y ∈ map f l → Image f l y
of_map f [] y m = absurd (Memᴰ.not-nil m)
of_map f (x ∷ l) y m = go (of_map f l y) (Memᴰ.cases_cons m)
  where
    go : (y ∈ map f l → Image f l y) → (y ≡ f x) ⊎ (y ∈ map f l) → Image f (x ∷ l) y
    go r (inl e) = record { source = x; listed = Memᴰ.head refl; is = e }
    go r (inr u) = let i = r u in record { source = i.source; listed = Memᴰ.tail i.listed; is = i.is }

pub map_at : {A B : Type 0} (f : A → B) (d : A) (e : B) (l : List A) (i : ℕ) → i < length l → get_or (map f l) i e ≡ f (get_or l i d)
map_at f d e [] i h = absurd (not-suc-le-zero h)
map_at f d e (x ∷ l) zero h = refl
map_at f d e (x ∷ l) (suc i) h = map_at f d e l i (omega arith)

-- ---- all sums, in order

module _ (rows : List ℕ) where
  pub in_sums : (x : ℕ) → IsSum rows x → x ∈ sums rows
  unfolding sums
  in_sums x S =
      in_ascending ltb numbers x (each (sum_of rows) (choices rows)) (in_each (sum_of rows) (choices rows) S.choice x S.inside S.is)

  pub of_sums : (x : ℕ) → x ∈ sums rows → IsSum rows x
  unfolding sums
  of_sums x m =
      let F = of_each (sum_of rows) (choices rows) x (of_ascending ltb numbers x (each (sum_of rows) (choices rows)) m) in
      record { choice = F.at; inside = F.below; is = F.is }

  pub sums_ascend : Ascends ltb (sums rows)
  unfolding sums
  sums_ascend = ascends ltb numbers (each (sum_of rows) (choices rows))

  -- sum number i, counted from 0
  abbrev pub sum_at : ℕ → ℕ
  sum_at i = get_or (sums rows) i 0

  pub sum_at_is : (i : ℕ) → i < length (sums rows) → IsSum rows (sum_at i)
  sum_at_is i h = of_sums (sum_at i) (in_place 0 (sums rows) i h)

-- ---- the table

module _ (s n : ℕ) (rows : List ℕ) where
  pub in_table : (x : ℕ) → IsSum rows x → word_of s n x ∈ table_of s n rows
  unfolding table_of
  in_table x S = in_map (word_of s n) (sums rows) x (in_sums rows x S)

  -- the number of a word of the table
  pub record Number (w : Word) : Type 0 where
    pub row : ℕ
    pub sum : IsSum rows row
    pub is : w ≡ word_of s n row

  pub of_table : (w : Word) → w ∈ table_of s n rows → Number w
  unfolding table_of
  of_table w m = let i = of_map (word_of s n) (sums rows) w m in
      record { row = i.source; sum = of_sums rows i.source i.listed; is = i.is }

  -- a row of bits is a sum exactly if its word is in the table
  pub word_sum : (x : ℕ) → word_of s n x ∈ table_of s n rows → IsSum rows x
  word_sum x m = let k = of_table (word_of s n x) m in sum_cast (sym (word_same s n x k.row k.is)) k.sum

  pub table_length : length (table_of s n rows) ≡ length (sums rows)
  unfolding table_of
  table_length = length-map (sums rows) (word_of s n)

  pub table_at : (i : ℕ) → i < length (table_of s n rows) → word_at (table_of s n rows) i ≡ word_of s n (sum_at rows i)
  unfolding table_of
  table_at i h = map_at (word_of s n) 0 (word 0 0 0) (sums rows) i (omega (arith, table_length))

  pub table_is : 0 < n → Table n (table_of s n rows)
  table_is some = record {
    some = some;
    fits = λ w m. let k = of_table w m in subst (λ v. v.label < 4 ^ n) (sym k.is) (spread_lt n (k.row / 2 ^ s));
    ascends = λ i j p q. rise i j p q;
  }
    where
      rise : (i j : ℕ) → i < j → j < length (table_of s n rows) → Before (word_at (table_of s n rows) i) (word_at (table_of s n rows) j)
      rise i j p q = subst (λ v. Before v (word_at (table_of s n rows) j)) (sym (table_at i (omega arith)))
          (subst (λ v. Before (word_of s n (sum_at rows i)) v) (sym (table_at j q))
          (words_rise s n (sum_at rows i) (sum_at rows j)
          (ltb→lt (sum_at rows i) (sum_at rows j) (ascends_at ltb 0 (sums rows) (sums_ascend rows) i j p (omega (arith, table_length))))))

-- ---- rectangles

-- ac cancels ad in the high bits and bc in the low ones
cancel : (c x y z : ℕ) → x / 2 ^ c ≡ y / 2 ^ c → x % 2 ^ c ≡ z % 2 ^ c → (x ⊕ y) ⊕ z ≡ z / 2 ^ c * 2 ^ c + y % 2 ^ c
cancel c x y z p q = sym (split ((x ⊕ y) ⊕ z) c) ∙ ap₂ (λ a b. a * 2 ^ c + b) highs lows
  where
    highs : ((x ⊕ y) ⊕ z) / 2 ^ c ≡ z / 2 ^ c
    highs = xor_shr (x ⊕ y) z c ∙ ap (λ k. k ⊕ (z / 2 ^ c)) (xor_shr x y c ∙ ap (λ k. k ⊕ (y / 2 ^ c)) p ∙ xor_self (y / 2 ^ c))

    lows : ((x ⊕ y) ⊕ z) % 2 ^ c ≡ y % 2 ^ c
    lows = xor_mod (x ⊕ y) z c ∙ ap (λ k. k ⊕ (z % 2 ^ c)) (xor_mod x y c ∙ ap (λ k. k ⊕ (y % 2 ^ c)) q)
        ∙ xor_comm ((z % 2 ^ c) ⊕ (y % 2 ^ c)) (z % 2 ^ c) ∙ xor_twice (z % 2 ^ c) (y % 2 ^ c)

pub rectangular : (s n : ℕ) (rows : List ℕ) → Rectangular n (table_of s n rows)
rectangular s n rows t p q ac ad bc i j k begin end =
    let x = of_table s n rows ac i in
    let y = of_table s n rows ad j in
    let z = of_table s n rows bc k in
    let l : t ≤ n = omega arith in
    let h = same_high s n t l x.row y.row (ap (beginning n t) (sym x.is) ∙ begin ∙ ap (beginning n t) y.is) in
    let m = same_low s n t l x.row z.row (ap (ending n t) (sym x.is) ∙ end ∙ ap (ending n t) z.is) in
    Memᴰ.cast (ap₂ (joined n t) z.is y.is ∙ sym (word_joined s n t l z.row y.row)
    ∙ ap (word_of s n) (sym (cancel (cut_at s n t) x.row y.row z.row h m)))
    (in_table s n rows ((x.row ⊕ y.row) ⊕ z.row) (sum_add (sum_add x.sum y.sum) z.sum))

-- ---- vertices by syndromes

module _ (columns : List ℕ) (c : ℕ) where
  parts : (x y : ℕ) → sum_of columns (x / 2 ^ c * 2 ^ c + y % 2 ^ c) ≡ syndrome_at columns c x ⊕ sum_of columns (y % 2 ^ c)
  parts x y = ap (sum_of columns) (sym (xor_shifted (x / 2 ^ c) c (y % 2 ^ c) (mod-lt y (pow_pos c))))
      ∙ (sum_xor columns).adds (x / 2 ^ c * 2 ^ c) (y % 2 ^ c)

  -- what has syndrome 0 has behind the cut the syndrome that it has before it
  pub rest_is : (y : ℕ) → sum_of columns y ≡ 0 → sum_of columns (y % 2 ^ c) ≡ syndrome_at columns c y
  rest_is y e =
      sym (xor_same (syndrome_at columns c y) (sum_of columns (y % 2 ^ c)) (sym (parts y y) ∙ ap (sum_of columns) (split y c) ∙ e))

  pub splice_syndrome : (x y : ℕ) → sum_of columns y ≡ 0
      → sum_of columns (x / 2 ^ c * 2 ^ c + y % 2 ^ c) ≡ syndrome_at columns c x ⊕ syndrome_at columns c y
  splice_syndrome x y e = parts x y ∙ ap (λ k. syndrome_at columns c x ⊕ k) (rest_is y e)

splice_lt : (N c x y : ℕ) → x < 2 ^ N → y < 2 ^ N → x / 2 ^ c * 2 ^ c + y % 2 ^ c < 2 ^ N
splice_lt N c x y h k = subst (λ z. z < 2 ^ N) (xor_shifted (x / 2 ^ c) c (y % 2 ^ c) (mod-lt y (pow_pos c)))
    (xor_lt N (x / 2 ^ c * 2 ^ c) (y % 2 ^ c) (omega (arith, div-mul-le_self x (2 ^ c))) (omega (arith, mod-le y (2 ^ c))))

module _ (s n : ℕ) {N : ℕ} {rows columns : List ℕ} (C : ParityCheck N rows columns) (t : ℕ) (inside : t ≤ n) where
  -- two words share a vertex exactly if they have one syndrome at the cut
  pub shared_syndrome : (x y : ℕ) → IsSum rows x → x < 2 ^ N → IsSum rows y → y < 2 ^ N
      → (joined n t (word_of s n x) (word_of s n y) ∈ table_of s n rows)
      ↔ (syndrome_at columns (cut_at s n t) x ≡ syndrome_at columns (cut_at s n t) y)
  shared_syndrome x y S h U k =
      let w = word_joined s n t inside x y in
      let e = splice_syndrome columns (cut_at s n t) x y ((C.tells y k).1 U) in
      let c = C.tells (splice_at s n t inside x y) (splice_lt N (cut_at s n t) x y h k) in (
        λ m. xor_same _ _ (sym e ∙ c.1 (word_sum s n rows (splice_at s n t inside x y) (Memᴰ.cast w m))),
        λ f. Memᴰ.cast (sym w) (in_table s n rows (splice_at s n t inside x y)
            (c.0 (e ∙ ap (λ z. z ⊕ syndrome_at columns (cut_at s n t) y) f ∙ xor_self (syndrome_at columns (cut_at s n t) y)))),
      )
