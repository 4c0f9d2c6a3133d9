-- From the inner depths on: where they are all rectangular the last stage follows, and else the refusal with its witness. Writing inner
-- rows leaves what stands beyond the map as it was, so both ends are the same for the buffer as it was before.
use mathlib.Core.Path.{◌≡◌, refl, sym, ap, ap₂, subst, ◌∙◌}
use mathlib.Core.List.{List}
use Prim.Native.Nat.{ℕ, suc, ◌+◌, ◌*◌}
use native.Mathlib.Omega.{arith}
use Rattle.answers.specs.declared.merge.MergeRefusal.{MergeRefusal}
use Rattle.std.specs.Prelude.{Option, Some, None, Result}
use native.Mathlib.Nat.{mul_comm, suc-mul}
use native.Mathlib.Numerals.{add-one}
use lib.ListN.{length, replicate, length-replicate}
use Rattle.trellis.specs.Word.{Word}
use Rattle.trellis.specs.Witness.{Witness, found, nothing, witness}
use Rattle.trellis.proofs.Witness.{witness_none}
use Rattle.trellis.specs.Lists.{over}
use Rattle.trellis.proofs.Buffers.{over_same}
use Rattle.answers.specs.Answers.{merged_outcome}
use Rattle.depths.specs.Inner.Words.{words}
use Rattle.depths.specs.Inner.Merge.{Inner, FirstRefused, InnerOutcome, InnerDone}
use Rattle.depths.proofs.Words.{held_length}
use Rattle.word_lists.specs.Inner.Lists.{WordsHeld}
use Rattle.merging.specs.Merging.{Ends, map_of, map_length, refusal_of, written, merged}
use Rattle.merging.specs.Inner.Stages.{Inside}
use Rattle.merging.specs.Inner.Sizes.{section_sizes, sized_by, EndsSized}
use Rattle.merging.proofs.MapRows.{map_length_lem}
use Rattle.merging.proofs.LastStage.{ends_by}
use Rattle.refusing.specs.Inner.Refused.{cleared, RefusedAt}

pub inner_asked : {n : ℕ} {roots labels goals map counts : List ℕ} → WordsHeld n roots labels goals map → length counts ≡ 9
    → Inner n roots labels goals map counts
inner_asked {n} {roots} {labels} {goals} {map} {counts} A nine =
    record { held = A.held; room = omega (arith, A.room, suc-mul n (length roots)); nine = nine }

module _ {n : ℕ} {r : Option ℕ} {roots labels goals map0 map1 counts0 counts : List ℕ} (A : WordsHeld n roots labels goals map0)
    (D : InnerDone n (words roots labels goals) map0 map1 counts0 counts r) where
  abbrev table : List Word
  table = words roots labels goals

  size : length table ≡ length roots
  size = held_length A.held

  asked : WordsHeld n roots labels goals map1
  asked = record { held = A.held; few_roots = A.few_roots; few_goals = A.few_goals; some = A.some; room = omega (arith, A.room, D.len) }

  -- both fronts reach as far as the n + 1 rows
  rows_long : map_length n table ≡ suc n * length roots
  rows_long = ap₂ (λ w k. w * k) size (add-one n) ∙ mul_comm (length roots) (suc n)

  same_behind : (vs : List ℕ) → length vs ≡ suc n * length roots → over vs map1 ≡ over vs map0
  same_behind vs e = over_same vs map0 map1 (omega (arith, A.room)) D.len
      (λ j h. D.behind j (omega (arith, ap (λ w. n * w) size, suc-mul n (length roots))))

  -- ---- all inner depths are rectangular

  pub inside : r ≡ None → Inside n roots labels goals map1 counts
  inside e = record { asked = asked; sound = subst (InnerOutcome n table 1 map1 counts) e D.found; nine = D.nine }

  no_witness : r ≡ None → witness n table ≡ nothing
  no_witness e = (witness_none n table).1 (λ t p q. (inside e).sound.rectangular t p q)

  same_written : (q states : ℕ) (section : List ℕ) → written q n states table map1 section ≡ written q n states table map0 section
  unfolding written
  same_written q states section =
      let e = same_behind (map_of n table) (map_length_lem n table ∙ ap (λ w. suc n * w) size) in
      rw e

  pub ends_written : (q states : ℕ) (section sizes : List ℕ) {map2 section2 sizes2 : List ℕ} {a : Result ℕ MergeRefusal} → r ≡ None
      → EndsSized (written q n states table map1 section) (over (section_sizes q n states table) sizes) a map2 section2 sizes2
      → EndsSized (merged q n states table map0 section (witness n table)) (sized_by q n states table sizes (witness n table)) a
      map2 section2 sizes2
  unfolding merged sized_by
  ends_written q states section sizes {map2} {section2} {sizes2} {a} e E = record {
    ends = subst (λ m. Ends m a map2 section2)
        (same_written q states section ∙ sym (ap (merged q n states table map0 section) (no_witness e))) E.ends;
    sizes_are = E.sizes_are ∙ sym (ap (sized_by q n states table sizes) (no_witness e));
  }

  -- ---- or one is not

  first_of : {depth : ℕ} → r ≡ Some depth → FirstRefused n table 1 depth
  first_of e = subst (InnerOutcome n table 1 map1 counts) e D.found

  pub refused : {depth : ℕ} → r ≡ Some depth → RefusedAt n depth roots labels goals map1
  refused e = record { asked = asked; first = first_of e }

  pub ends_refused : (q states : ℕ) (section sizes : List ℕ) {map2 : List ℕ} {a : Result ℕ MergeRefusal} {depth : ℕ} → r ≡ Some depth
      → (merged_outcome a ≡ refusal_of (witness n table)) × (map2 ≡ cleared (length roots * (n + 1)) map1)
      → EndsSized (merged q n states table map0 section (witness n table)) (sized_by q n states table sizes (witness n table)) a map2 section
      sizes
  unfolding merged sized_by
  ends_refused q states section sizes {map2} {a} {depth} d (p, m) = go (witness n table) refl p
    where
      F : FirstRefused n (words roots labels goals) 1 depth
      F = first_of d

      go : (w : Witness) → witness n (words roots labels goals) ≡ w → merged_outcome a ≡ refusal_of w
          → EndsSized (merged q n states (words roots labels goals) map0 section w)
          (sized_by q n states (words roots labels goals) sizes w) a map2 section sizes
      go nothing e o = absurd (F.fails ((witness_none n (words roots labels goals)).0 e depth F.from F.inner))
      go (found t i j k) e o = record {
        ends = ends_by refl o
            (m ∙ ap (λ w. cleared (w * (n + 1)) map1) (sym size)
            ∙ same_behind (replicate (map_length n (words roots labels goals)) 0)
            (length-replicate (map_length n (words roots labels goals)) 0 ∙ rows_long)) refl;
        sizes_are = refl;
      }
