-- What put_numbers keeps: the numbers that are written so far. And what stands in front of a buffer can be read off it again.
use mathlib.Core.Path.{◌≡◌, refl, sym, ap, subst, ◌∙◌}
use mathlib.Core.List.{List, [], ◌∷◌, ◌++◌}
use Prim.Native.Nat.{ℕ, ◌+◌, ◌<◌, ◌≤◌}
use native.Mathlib.Omega.{arith}
use native.Mathlib.Numerals.{add-one}
use lib.ListN.{length, get_or, drop, set, length-set, get_or-append}
use lib.Seq.{ext_get_or}
use Rattle.trellis.specs.Lists.{run}
use Rattle.trellis.specs.Inner.Write.{Wrote}
use Rattle.trellis.proofs.Lists.{length_run, each_at, run_snoc}
use Rattle.trellis.proofs.Write.{wrote_one, wrote_front}
use Rattle.assemble.specs.Inner.Numbers.{first_numbers}

pub record InNumbers (source : List ℕ) (count : ℕ) (old : List ℕ) (at : ℕ) (new : List ℕ) (i : ℕ) : Type 0 where
  pub i_le : i ≤ count
  pub wrote : Wrote old at (first_numbers source i) new (at + i)
  pub len : length new ≡ length old

pub numbers_none : (source : List ℕ) (count : ℕ) (old : List ℕ) (at : ℕ) → InNumbers source count old at old 0
unfolding run
numbers_none source count old at = record { i_le = omega arith; wrote = record { new_is = refl; end_is = refl }; len = refl }

pub numbers_more : {source old new : List ℕ} {count at i v : ℕ} → InNumbers source count old at new i → v ≡ get_or source i 0 → i < count
    → InNumbers source count old at (set new (at + i) v) (i + 1)
numbers_more {source} {old} {new} {count} {at} {i} {v} c e h = record {
  i_le = omega arith;
  wrote = record { new_is = W.new_is; end_is = omega (arith, W.end_is) };
  len = simp length-set c.len;
}
  where
    more : first_numbers source (i + 1) ≡ first_numbers source i ++ (v ∷ [])
    more = rw (add-one i)
        (run_snoc (λ k. get_or source k 0) 0 i
        ∙ ap (λ x. first_numbers source i ++ (x ∷ [])) (let z : 0 + i ≡ i = omega arith in rw z (sym e)))

    W : Wrote old at (first_numbers source (i + 1)) (set new (at + i) v) (at + i + 1)
    W = subst (λ vs. Wrote old at vs (set new (at + i) v) (at + i + 1)) (sym more) (wrote_one v c.wrote)

pub numbers_end : {source old new : List ℕ} {count at i : ℕ} → InNumbers source count old at new i → count ≤ i
    → Wrote old at (first_numbers source count) new (at + count)
numbers_end {source} {old} {new} {count} {at} {i} c h =
    let e : i ≡ count = omega (arith, c.i_le) in
    subst (λ k. Wrote old at (first_numbers source k) new (at + k)) e c.wrote

-- numbers written from the front on are the first of the buffer
pub wrote_first : {old new vs : List ℕ} {end : ℕ} → Wrote old 0 vs new end → length vs ≤ length old → first_numbers new (length vs) ≡ vs
wrote_first {old} {new} {vs} {end} W room =
    ext_get_or 0 (first_numbers new (length vs)) vs (length_run (λ k. get_or new k 0) 0 (length vs)) (λ k h. same k (omega (arith, long)))
  where
    long : length (first_numbers new (length vs)) ≡ length vs
    long = length_run (λ k. get_or new k 0) 0 (length vs)

    same : (k : ℕ) → k < length vs → get_or (first_numbers new (length vs)) k 0 ≡ get_or vs k 0
    same k h =
        each_at (λ k. get_or new k 0) (length vs) k 0 h ∙ ap (λ l. get_or l k 0) (wrote_front W room)
        ∙ get_or-append vs (drop (length vs) old) 0 k h
