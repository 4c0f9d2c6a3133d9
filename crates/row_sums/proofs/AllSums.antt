-- All sums of some rows, by rising choice. The choices from 2 ^ b on, below 2 ^ (b + 1), are 2 ^ b + j, which is 2 ^ b added to j modulo 2;
-- so their sums are row b added to the first 2 ^ b sums. Hence the sums of the first b rows, doubled by row b, are those of one row more.
use mathlib.Core.Path.{◌≡◌, refl, sym, ap, subst, ◌∙◌}
use mathlib.Core.List.{List, [], ◌∷◌, ◌++◌}
use Prim.Native.Nat.{ℕ, suc, ◌+◌, ◌^◌, ◌≤◌, ◌<◌}
use native.Mathlib.Omega.{arith}
use native.Mathlib.Numerals.{add-one}
use native.Mathlib.Nat.{zero-add, pow-suc}
use lib.ListN.{length, get_or, set, length-set}
use lib.Seq.{set-set, sets}
use lib.Pow.{pow_pos, pow_mono}
use Rattle.trellis.specs.Lists.{run, each}
use Rattle.trellis.specs.Inner.Write.{Wrote}
use Rattle.trellis.proofs.Lists.{length_run, run_at, run_append, each_at}
use Rattle.trellis.proofs.Write.{wrote_then, wrote_length, wrote_at, wrote_is}
use Rattle.rows.specs.Sums.{◌⊕◌, sum_of}
use Rattle.rows.proofs.Sums.{sum_xor, sum_power, additive_zero}
use Rattle.rows.proofs.Xor.{power_xor}
use Rattle.row_sums.specs.Inner.Doubled.{Doubled}

-- the sums of the choices from 2 ^ b on
pub sum_high : (rows : List ℕ) (b j : ℕ) → j < 2 ^ b → sum_of rows (2 ^ b + j) ≡ get_or rows b 0 ⊕ sum_of rows j
sum_high rows b j h =
    ap (sum_of rows) (sym (power_xor b j h)) ∙ (sum_xor rows).adds (2 ^ b) j ∙ ap (λ k. k ⊕ sum_of rows j) (sum_power rows b)

-- ---- what is written

-- what stood at the first place does not matter
wrote_over : {first old new : List ℕ} {at end : ℕ} (vs : List ℕ) (x : ℕ) → first ≡ set old at x → 0 < length vs
    → Wrote first at vs new end → Wrote old at vs new end
wrote_over [] x e h W = absurd (omega arith)
wrote_over {first} {old} {at = at} (v ∷ vs) x e h W = record {
  new_is = W.new_is ∙ ap (λ l. sets l (suc at) vs) (ap (λ l. set l at v) e ∙ set-set old at x v);
  end_is = W.end_is;
}

-- ---- row by row

-- the w sums of the first b rows are written
pub record SumsPut (rows first : List ℕ) (place : ℕ) (new : List ℕ) (w b : ℕ) : Type 0 where
  pub wrote : Wrote first place (each (sum_of rows) w) new (place + w)
  pub wide : w ≡ 2 ^ b
  pub most : b ≤ length rows
  pub room : place + 2 ^ length rows ≤ length new

pub sums_none : (rows old : List ℕ) (place : ℕ) {first : List ℕ} → first ≡ set old place 0 → place + 2 ^ length rows ≤ length old
    → SumsPut rows first place first 1 0
unfolding run
sums_none rows old place {first} e h = record {
  wrote = record { new_is = sym (ap (set first place) (additive_zero (sum_xor rows)) ∙ stays); end_is = refl };
  wide = refl;
  most = omega arith;
  room = omega (arith, ap length e, length-set old place 0);
}
  where
    stays : set first place 0 ≡ first
    stays = ap (λ l. set l place 0) e ∙ set-set old place 0 0 ∙ sym e

module _ {rows first : List ℕ} {place : ℕ} {new : List ℕ} {w b : ℕ} (S : SumsPut rows first place new w b) where
  short : length (each (sum_of rows) w) ≡ w
  short = length_run (sum_of rows) 0 w

  pub sums_few : length rows ≤ 10 → w ≤ 1024
  sums_few h = omega (arith, S.wide, S.most, pow_mono {i = b} {j = 10} (omega (arith, S.most)))

  pub sums_inside : place + w ≤ length new
  sums_inside = omega (arith, S.wide, S.room, pow_mono {i = b} {j = length rows} S.most)

  pub sums_room : b < length rows → place + (w + w) ≤ length new
  sums_room h = omega (arith, S.wide, S.room, pow-suc 2 b, pow_mono {i = suc b} {j = length rows} h)

  pub sums_next : {next : List ℕ} → b < length rows → Doubled place w (get_or rows b 0) new w next
      → SumsPut rows first place next (w + w) (b + 1)
  sums_next {next} h D = record {
    wrote = subst (λ vs. Wrote first place vs next (place + (w + w))) whole
        (wrote_then S.wrote (subst (λ k. Wrote new (place + w) high next k) end (wrote_is room_high D.len D.front here behind)));
    wide = rw (add-one b) (omega (arith, S.wide, pow-suc 2 b));
    most = omega arith;
    room = omega (arith, S.room, D.len);
  }
    where
      high : List ℕ
      high = run (sum_of rows) w w

      whole : each (sum_of rows) w ++ high ≡ each (sum_of rows) (w + w)
      whole = ap (λ i. each (sum_of rows) w ++ run (sum_of rows) i w) (sym (zero-add w)) ∙ run_append (sum_of rows) 0 w w

      long : length high ≡ w
      long = length_run (sum_of rows) w w

      end : (place + w) + length high ≡ place + (w + w)
      end = omega (arith, long)

      room_low : place + length (each (sum_of rows) w) ≤ length first
      room_low = omega (arith, short, sums_room h, wrote_length S.wrote)

      room_high : (place + w) + length high ≤ length new
      room_high = omega (arith, long, sums_room h)

      here : (k : ℕ) → k < length high → get_or next ((place + w) + k) 0 ≡ get_or high k 0
      here k l =
          let f : k < w = omega (arith, long) in
          let i : k < 2 ^ b = omega (arith, S.wide) in
          D.done k f
          ∙ ap (λ x. get_or rows b 0 ⊕ x) (wrote_at S.wrote room_low k (omega (arith, short)) ∙ each_at (sum_of rows) w k 0 f)
          ∙ sym (run_at (sum_of rows) w w k 0 f ∙ ap (λ m. sum_of rows (m + k)) S.wide ∙ sum_high rows b k i)

      behind : (i : ℕ) → (place + w) + length high ≤ i → get_or next i 0 ≡ get_or new i 0
      behind i l = D.behind i (omega (arith, long))

  module _ (old : List ℕ) (e : first ≡ set old place 0) where
    pub sums_length : length new ≡ length old
    sums_length = wrote_length S.wrote ∙ ap length e ∙ length-set old place 0

    pub sums_end : length rows ≤ b → Wrote old place (each (sum_of rows) (2 ^ length rows)) new (place + w)
    sums_end h =
        let f : b ≡ length rows = omega (arith, S.most) in
        subst (λ m. Wrote old place (each (sum_of rows) m) new (place + w)) (S.wide ∙ ap (λ k. 2 ^ k) f)
        (wrote_over (each (sum_of rows) w) 0 e (omega (arith, short, S.wide, pow_pos b)) S.wrote)
