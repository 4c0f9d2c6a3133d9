-- The lines put one behind another are the text: a line for each depth in turn, and sums that are those of the counts in the section.
use mathlib.Core.Path.{◌≡◌, refl, ap, ap₂, subst, ◌∙◌}
use mathlib.Core.List.{List, [], ◌∷◌}
use Prim.Native.Nat.{ℕ, zero, suc, ◌+◌, ◌<◌, ◌≤◌}
use native.Mathlib.Omega.{arith}
use lib.ListN.{get_or}
use Rattle.trellis.specs.Selections.{additions, selections}
use Rattle.trellis.specs.Layout.{q_of, n_of, states_of, vertex_count_of, edge_count_of, joined_up}
use Rattle.text.specs.Line.{line}
use Rattle.text.specs.Inner.Put.{Put}
use Rattle.text.proofs.Putting.{put_none, put_then}
use Rattle.lines.specs.Text.{section_word, depth_word, additions_word, selections_word, entering, depth_line, sums, sizes_of}

-- ---- depths

module _ (l : List ℕ) where
  pub entering_none : (t : ℕ) → t ≡ 0 → 0 ≡ entering l t
  unfolding entering
  entering_none zero e = refl
  entering_none (suc t) e = absurd (omega arith)

  pub entering_some : (n t x r : ℕ) → n ≡ n_of l → (t ≡ 0 → ⊥) → x ≡ get_or l (3 + n + t) 0 → r ≡ x → r ≡ entering l t
  unfolding entering edge_count_of
  entering_some n zero x r n_is h e f = absurd (h refl)
  entering_some n (suc t) x r n_is h e f = let p : 3 + n + suc t ≡ 4 + n_of l + t = omega (arith, n_is) in f ∙ e ∙ ap (λ k. get_or l k 0) p

pub record Depths (l : List ℕ) (n : ℕ) (old : List ℕ) (at : ℕ) (now : List ℕ) (end t : ℕ) : Type 0 where
  pub t_le : t ≤ suc n
  pub put : Put old at (joined_up (depth_line l) t) now end

pub depths_start : {l old : List ℕ} {n at : ℕ} → Depths l n old at old at 0
unfolding joined_up
depths_start = record { t_le = omega arith; put = put_none }

pub depths_next : {l old now new : List ℕ} {n at end far t x v e : ℕ}
    → Depths l n old at now end t → t ≤ n → x ≡ get_or l (3 + t) 0 → v ≡ x → e ≡ entering l t
    → Put now end (line depth_word (t ∷ v ∷ e ∷ [])) new far → Depths l n old at new far (t + 1)
unfolding depth_line joined_up vertex_count_of
depths_next {l} {old} {now} {new} {n} {at} {end} {far} {t} {x} {v} {e} D h x_is v_is e_is p = record {
  t_le = omega arith;
  put =
      let one : suc t ≡ t + 1 = omega arith in
      subst (λ k. Put old at (joined_up (depth_line l) k) new far) one
      (put_then D.put (subst (λ r. Put now end (line depth_word (t ∷ r)) new far) (ap₂ (λ a b. a ∷ b ∷ []) (v_is ∙ x_is) e_is) p));
}

pub depths_all : {l old now : List ℕ} {n at end t : ℕ}
    → Depths l n old at now end t → n < t → Put old at (joined_up (depth_line l) (suc n)) now end
depths_all {l} {old} {now} {n} {at} {end} {t} D h =
    let e : t ≡ suc n = omega (arith, D.t_le) in
    subst (λ k. Put old at (joined_up (depth_line l) k) now end) e D.put

pub sums_put : (l : List ℕ) {old mid new : List ℕ} {at m end a s : ℕ} → a ≡ additions (n_of l) (edge_count_of l)
    → s ≡ selections (n_of l) (vertex_count_of l) (edge_count_of l)
    → Put old at (line additions_word (a ∷ [])) mid m → Put mid m (line selections_word (s ∷ [])) new end → Put old at (sums l) new end
unfolding sums
sums_put l {old} {mid} {new} {at} {m} {end} a_is s_is p q =
    put_then (subst (λ k. Put old at (line additions_word (k ∷ [])) mid m) a_is p)
    (subst (λ k. Put mid m (line selections_word (k ∷ [])) new end) s_is q)

-- ---- all of them

pub sizes_put : (l : List ℕ) (words : ℕ) {old one two new : List ℕ} {a b end x y z q n states : ℕ}
    → x ≡ get_or l 0 0 → q ≡ x → y ≡ get_or l 1 0 → n ≡ y → z ≡ get_or l 2 0 → states ≡ z
    → Put old 0 (line section_word (q ∷ n ∷ states ∷ words ∷ [])) one a → Put one a (joined_up (depth_line l) (suc n)) two b
    → Put two b (sums l) new end
    → Put old 0 (sizes_of words l) new end
unfolding sizes_of
sizes_put l words {old} {one} {two} {new} {a} {b} {end} {x} {y} {z} {q} {n} {states} x_is q_is_lem y_is n_is z-is s_is p d s =
    put_then (subst (λ r. Put old 0 (line section_word r) one a) same p)
    (put_then (subst (λ k. Put one a (joined_up (depth_line l) (suc k)) two b) (n_is ∙ y_is) d) s)
  where
    same : q ∷ n ∷ states ∷ words ∷ [] ≡ q_of l ∷ n_of l ∷ states_of l ∷ words ∷ []
    same = ap₂ (λ i r. i ∷ r) (q_is_lem ∙ x_is) (ap₂ (λ i j. i ∷ j ∷ words ∷ []) (n_is ∙ y_is) (s_is ∙ z-is))
