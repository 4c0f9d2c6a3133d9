-- Back pointers. Those of earlier blocks stay when a block's are written, so the words that they lead to stay; those of the block have the
-- place, the goal and the label of what left it. So all of them go on to lead to places, and their goals to be states.
use mathlib.Core.Path.{◌≡◌, refl, sym, ap, ap₂, subst, ◌∙◌}
use mathlib.Core.List.{List, [], ◌∷◌, ◌++◌}
use Prim.Native.Nat.{ℕ, zero, suc, ◌+◌, ◌-◌, ◌*◌, ◌≤◌, ◌<◌}
use native.Mathlib.Omega.{arith}
use native.Mathlib.Decide.{dec_le}
use lib.ListN.{get_or}
use Rattle.trellis.specs.Bounds.{most_paths, most_states}
use Rattle.trellis.specs.Word.{word}
use Rattle.dearest.specs.Inner.Items.{code_in}
use Rattle.codes.specs.Inner.Codes.{code, code_root, code_vertex, code_label}
use Rattle.beginnings.specs.Inner.Trails.{back_at, state_at, trail, NotedWell}
use Rattle.beginnings.specs.Inner.Entering.{state_from, Leavable, Left}

-- what is read off a code
pub record Coded (c root vertex label : ℕ) : Type 0 where
  pub root_is : code_root c ≡ root
  pub vertex_is : code_vertex c ≡ vertex
  pub label_is : code_label c ≡ label

pub coded_of : (root vertex label : ℕ) → root < 64 → vertex < 1024 → label < 65536 → Coded (code root vertex label) root vertex label
coded_of root vertex label r v l = record { root_is = omega arith; vertex_is = omega arith; label_is = omega arith }

-- ---- earlier ones stay

module _ (old new : List ℕ) (b first : ℕ) (same : (i : ℕ) → i < most_paths * b → get_or new i 0 ≡ get_or old i 0)
    (proper : (i : ℕ) → code_root (get_or old i 0) < most_paths) where
  pub state_same : (c j : ℕ) → c ≤ b → j < most_paths → state_at new first c j ≡ state_at old first c j
  unfolding state_at
  state_same zero j h l = refl
  state_same (suc c) j h l = ap code_vertex (same (most_paths * c + j) (omega arith))

  pub trail_same : (c j : ℕ) → c ≤ b → j < most_paths → trail new first c j ≡ trail old first c j
  unfolding trail
  trail_same zero j h l = refl
  trail_same (suc c) j h l =
      let e : back_at new first c j ≡ back_at old first c j = same (most_paths * c + j) (omega arith) in
      let x = back_at old first c j in
      let r = proper (most_paths * c + j) in
      ap (λ y. trail new first c (code_root y) ++ (word (state_at new first c (code_root y)) (code_label y) (code_vertex y) ∷ [])) e
      ∙ ap₂ (λ a s. a ++ (word s (code_label x) (code_vertex x) ∷ [])) (trail_same c (code_root x) (omega arith) r)
      (state_same c (code_root x) (omega arith) r)

-- ---- those of one block

module _ {s : List ℕ} (goals : ℕ) {items : List ℕ} {b count : ℕ} {slots old new : List ℕ} (A : Leavable s goals items count)
    (L : Left (state_from s goals) items b count slots old new) where
  abbrev item_at : ℕ → ℕ
  item_at j = get_or items j 0

  -- what the back pointer of item j says
  pub noted_parts : (j : ℕ) → j < count
      → Coded (get_or new (most_paths * b + j) 0) (code_root (code_in (item_at j))) (state_from s goals (code_vertex (code_in (item_at j))))
      (code_label (code_in (item_at j)))
  noted_parts j h =
      let x = item_at j in
      let r = code_root (code_in x) in
      let g = state_from s goals (code_vertex (code_in x)) in
      let l = code_label (code_in x) in
      subst (λ c. Coded c r g l) (sym (L.noted j h))
      (coded_of r g l (omega (arith, A.of j h)) (omega (arith, A.small j h)) (omega arith))

  pub kept_before : (i : ℕ) → i < most_paths * b → get_or new i 0 ≡ get_or old i 0
  kept_before i h = L.other i (λ j l e. absurd (omega arith))

  -- a property of every old back pointer, and of every new one
  everywhere : (P : ℕ → Type 0) → ((i : ℕ) → P (get_or old i 0)) → ((j : ℕ) → j < count → P (get_or new (most_paths * b + j) 0))
      → (i : ℕ) → P (get_or new i 0)
  everywhere P before here i = go (dec_le (most_paths * b) i) (dec_le (most_paths * b + count) i)
    where
      go : Dec (most_paths * b ≤ i) → Dec (most_paths * b + count ≤ i) → P (get_or new i 0)
      go (yes p) (no q) =
          let e : most_paths * b + (i - most_paths * b) ≡ i = omega arith in
          subst (λ a. P (get_or new a 0)) e (here (i - most_paths * b) (omega arith))
      go (yes p) (yes q) = subst P (sym (L.other i (λ j l e. absurd (omega arith)))) (before i)
      go (no p) q = subst P (sym (L.other i (λ j l e. absurd (omega arith)))) (before i)

  pub noted_well : NotedWell old → NotedWell new
  noted_well N = record {
    long = L.long_back;
    proper = everywhere (λ c. code_root c < most_paths) N.proper (λ j h. omega (arith, (noted_parts j h).root_is, A.of j h));
    small = everywhere (λ c. code_vertex c < most_states) N.small (λ j h. omega (arith, (noted_parts j h).vertex_is, A.small j h));
  }
