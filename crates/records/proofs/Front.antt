-- The elements of an array lie in memory one behind another, so the memory can be cut behind the first of them, which are then an array of
-- their own length, and joined again.
use mathlib.Core.Path.{◌≡◌, refl, sym}
use Prim.Native.Nat.{ℕ}
use mathlib.Core.List.{List, [], ◌∷◌, ◌++◌}
use lib.ListN.{length, take, drop as behind, take-append-drop}
use seplogic.Ra.Ura.{Ura}
use base.Logic.{ent, sep}
use base.Fml.{Share, Fml}
use types.Logic.{Logic, sem}
use types.Kit.{‵, ◌⊛◌, ◌$◌, ◌∵◌, !, qed, drop, use1, use2, split, rewrite, fsplit, fjoin, feq_i, done}
use types.SemTy.{cells}
use types.Share.{arr_parts}
use denote.RattleType.{RattleType}
use denote.Memory.{mem, shares}
use borrow.Table.Elements.{at, cut_app, join_app}
use borrow.Rule.Slice.Shared.{Sh, parts-cells}

-- all n elements, the first k, and the others
abbrev pub All : (R : RattleType) → Share → (n : ℕ) → List R.Denot → ℕ → ℕ → Fml
All R q n xs b o = (arr_parts (shares R) n).part q xs b o

abbrev pub First : (R : RattleType) → Share → (k : ℕ) → List R.Denot → ℕ → ℕ → Fml
First R q k xs b o = All R q (length (take k xs)) (take k xs) b o

abbrev pub Behind : (R : RattleType) → Share → (k : ℕ) → List R.Denot → ℕ → ℕ → Fml
Behind R q k xs b o = cells (Sh R q) (behind k xs) b (at o (mem R).size (length (take k xs)))

module _ {M : Type 1} {𝓤 : Ura M} (𝓛 : Logic 𝓤) (R : RattleType) (q : Share) (k : ℕ) (xs : List R.Denot)
    (b o : ℕ) where
  pub front_cut : (n : ℕ) → ent 𝓤 (sem 𝓛 (All R q n xs b o)) (sep 𝓤 (sem 𝓛 (First R q k xs b o)) (sem 𝓛 (Behind R q k xs b o)))
  front_cut n =
      qed 𝓛 (‵ (All R q n xs b o) ∷ []) ∵ fsplit ! $ drop ! $ rewrite ! 0 (λ (F : Fml). ‵ F) (parts-cells R q xs b o) refl $
      rewrite ! 0 (λ (ys : List R.Denot). ‵ (cells (Sh R q) ys b o)) (sym (take-append-drop k xs)) refl $
      use1 𝓛 (‵ (cells (Sh R q) (take k xs) b o) ⊛ ‵ (Behind R q k xs b o)) (cut_app 𝓛 (Sh R q) (take k xs) (behind k xs) b o) $
      split ! $ rewrite ! 0 (λ (F : Fml). ‵ F) (sym (parts-cells R q (take k xs) b o)) refl $
      feq_i ! ℕ (length (take k xs)) (length (take k xs)) refl $ fjoin ! $ done !

  pub front_join : (n : ℕ) → length xs ≡ n
      → ent 𝓤 (sep 𝓤 (sem 𝓛 (First R q k xs b o)) (sem 𝓛 (Behind R q k xs b o))) (sem 𝓛 (All R q n xs b o))
  front_join n e =
      qed 𝓛 (‵ (First R q k xs b o) ∷ ‵ (Behind R q k xs b o) ∷ []) ∵ fsplit ! $ drop ! $
      rewrite ! 0 (λ (F : Fml). ‵ F) (parts-cells R q (take k xs) b o) refl $
      use2 𝓛 (‵ (cells (Sh R q) (take k xs ++ behind k xs) b o)) (join_app 𝓛 (Sh R q) (take k xs) (behind k xs) b o) $
      rewrite ! 0 (λ (ys : List R.Denot). ‵ (cells (Sh R q) ys b o)) (take-append-drop k xs) refl $
      rewrite ! 0 (λ (F : Fml). ‵ F) (sym (parts-cells R q xs b o)) refl $ feq_i ! ℕ (length xs) n e $ fjoin ! $ done !
