-- The paths one behind another. Path q has the places from q · blocks on, `blocks` of them; so those of an earlier path end where those of
-- a later one begin (`earlier`), and writing one path touches no other.
use mathlib.Core.Path.{◌≡◌, refl, sym, ap, subst, ◌∙◌}
use mathlib.Core.Logic.{inl, inr}
use mathlib.Core.List.{List}
use Prim.Native.Nat.{ℕ, suc, ◌+◌, ◌*◌, ◌≤◌, ◌<◌}
use native.Mathlib.Omega.{arith}
use native.Mathlib.Nat.{suc-mul, mul-le-mul_right}
use native.Mathlib.Numerals.{add-one}
use native.Mathlib.Decide.{ℕ_discrete}
use lib.ListN.{length, get_or, set, length-set}
use lib.Seq.{get_or-set_same, get_or-set_other}
use Rattle.trellis.specs.Bounds.{most_paths, most_blocks}
use Rattle.trellis.specs.Word.{word_at}
use Rattle.dearest.specs.Inner.Items.{cost_in, code_in}
use Rattle.codes.specs.Inner.Codes.{code_root}
use Rattle.beginnings.specs.Inner.Trails.{trail}
use Rattle.readout.specs.Inner.Read.{ReadPath, PathsRead}

-- the places of path q lie before those of a later path
earlier : (q r i blocks : ℕ) → q < r → i < blocks → q * blocks + i < r * blocks
earlier q r i blocks h l = let m : suc q * blocks ≤ r * blocks = mul-le-mul_right blocks h in omega (arith, suc-mul q blocks)

-- r paths are written, and the next one begins at `at`
pub record InPaths (slots : List ℕ) (count : ℕ) (back : List ℕ) (blocks : ℕ)
    (distances new_distances labels new_labels goals new_goals : List ℕ) (at r : ℕ) : Type 0 where
  pub r_le : r ≤ count
  pub at_is : at ≡ r * blocks
  pub so_far : PathsRead slots back blocks distances new_distances labels new_labels goals new_goals r

module _ {slots : List ℕ} {count : ℕ} {back : List ℕ} {blocks : ℕ} {distances labels goals : List ℕ} where
  pub paths_start : InPaths slots count back blocks distances distances labels labels goals goals 0 0
  paths_start = record {
    r_le = omega arith;
    at_is = omega arith;
    so_far = record {
      long_distances = refl;
      long_labels = refl;
      long_goals = refl;
      distance_at = λ q h. absurd (omega arith);
      label_at = λ f q i h. absurd (omega arith);
      goal_at = λ f q i h. absurd (omega arith);
      other_distances = λ i h. refl;
      other_labels = λ i h. refl;
      other_goals = λ i h. refl;
    };
  }

  -- there is room for the next one
  pub paths_room : {new_distances new_labels new_goals : List ℕ} {at r long : ℕ}
      → InPaths slots count back blocks distances new_distances labels new_labels goals new_goals at r → r < count → count * blocks ≤ long
      → at + blocks ≤ long
  paths_room {at = at} {r} {long} I h l =
      let m : suc r * blocks ≤ count * blocks = mul-le-mul_right blocks h in
      omega (arith, I.at_is, suc-mul r blocks)

  pub paths_near : {new_distances new_labels new_goals : List ℕ} {at r : ℕ}
      → InPaths slots count back blocks distances new_distances labels new_labels goals new_goals at r → r < count → count ≤ most_paths
      → blocks ≤ most_blocks → at ≤ most_paths * most_blocks
  paths_near {at = at} {r} I h c l =
      let m : r * blocks ≤ most_paths * blocks = mul-le-mul_right blocks (omega arith) in
      omega (arith, I.at_is)

  -- x is the slot of the next path, and c, y and p are what it says
  pub paths_more : {new_distances new_labels new_goals newer_labels newer_goals : List ℕ} {at r x c y p : ℕ}
      → InPaths slots count back blocks distances new_distances labels new_labels goals new_goals at r → r < count
      → count ≤ length distances → x ≡ get_or slots r 0 → c ≡ cost_in x → y ≡ code_in x → p ≡ code_root y
      → ReadPath back blocks p at new_labels newer_labels new_goals newer_goals
      → InPaths slots count back blocks distances (set new_distances r c) labels newer_labels goals newer_goals (at + blocks) (r + 1)
  paths_more {new_distances} {new_labels} {new_goals} {newer_labels} {newer_goals} {at} {r} {x} {c} {y} {p} I h l ex ec ey ep P = record {
    r_le = omega arith;
    at_is = next;
    so_far = record {
      long_distances = length-set new_distances r c ∙ S.long_distances;
      long_labels = P.long_labels ∙ S.long_labels;
      long_goals = P.long_goals ∙ S.long_goals;
      distance_at = λ q k. distance_of q k (ℕ_discrete q r);
      label_at = λ f q i k m. label_of f q i k m (ℕ_discrete q r);
      goal_at = λ f q i k m. goal_of f q i k m (ℕ_discrete q r);
      other_distances = λ i k.
          get_or-set_other new_distances r i c 0 (λ e. absurd (omega arith)) ∙ S.other_distances i (omega arith);
      other_labels = λ i k.
          let n = next in
          P.other_labels i (inr (omega arith)) ∙ S.other_labels i (let n = next in omega (arith, I.at_is));
      other_goals = λ i k.
          let n = next in
          P.other_goals i (inr (omega arith)) ∙ S.other_goals i (let n = next in omega (arith, I.at_is));
    };
  }
    where
      S : PathsRead slots back blocks distances new_distances labels new_labels goals new_goals r
      S = I.so_far

      -- where path q is found
      slot_of : ℕ → ℕ
      slot_of q = code_root (code_in (get_or slots q 0))

      next : at + blocks ≡ (r + 1) * blocks
      next = ap (λ a. a + blocks) I.at_is ∙ omega (arith, suc-mul r blocks) ∙ ap (λ j. j * blocks) (sym (add-one r))

      slot_is : (q : ℕ) → q ≡ r → p ≡ slot_of q
      slot_is q e = ep ∙ ap code_root (ey ∙ ap code_in ex) ∙ ap slot_of (sym e)

      distance_of : (q : ℕ) → q < r + 1 → Dec (q ≡ r) → get_or (set new_distances r c) q 0 ≡ cost_in (get_or slots q 0)
      distance_of q k (yes e) =
          ap (λ w. get_or (set new_distances r c) w 0) e ∙ get_or-set_same new_distances r c 0 (omega (arith, S.long_distances)) ∙ ec
          ∙ ap cost_in ex ∙ ap (λ w. cost_in (get_or slots w 0)) (sym e)
      distance_of q k (no e) = get_or-set_other new_distances r q c 0 e ∙ S.distance_at q (omega arith)

      label_of : (f q i : ℕ) → q < r + 1 → i < blocks → Dec (q ≡ r)
          → get_or newer_labels (q * blocks + i) 0 ≡ (word_at (trail back f blocks (slot_of q)) i).label
      label_of f q i k m (yes e) =
          ap (λ w. get_or newer_labels (w * blocks + i) 0) e ∙ ap (λ w. get_or newer_labels (w + i) 0) (sym I.at_is) ∙ P.label_at f i m
          ∙ ap (λ w. (word_at (trail back f blocks w) i).label) (slot_is q e)
      label_of f q i k m (no e) =
          P.other_labels (q * blocks + i) (inl (omega (arith, earlier q r i blocks (omega arith) m, I.at_is)))
          ∙ S.label_at f q i (omega arith) m

      goal_of : (f q i : ℕ) → q < r + 1 → i < blocks → Dec (q ≡ r)
          → get_or newer_goals (q * blocks + i) 0 ≡ (word_at (trail back f blocks (slot_of q)) i).goal
      goal_of f q i k m (yes e) =
          ap (λ w. get_or newer_goals (w * blocks + i) 0) e ∙ ap (λ w. get_or newer_goals (w + i) 0) (sym I.at_is) ∙ P.goal_at f i m
          ∙ ap (λ w. (word_at (trail back f blocks w) i).goal) (slot_is q e)
      goal_of f q i k m (no e) =
          P.other_goals (q * blocks + i) (inl (omega (arith, earlier q r i blocks (omega arith) m, I.at_is)))
          ∙ S.goal_at f q i (omega arith) m

  pub paths_all : {new_distances new_labels new_goals : List ℕ} {at r : ℕ}
      → InPaths slots count back blocks distances new_distances labels new_labels goals new_goals at r → count ≤ r
      → PathsRead slots back blocks distances new_distances labels new_labels goals new_goals count
  paths_all {new_distances} {new_labels} {new_goals} {at} {r} I h =
      let e : r ≡ count = omega (arith, I.r_le) in
      subst (PathsRead slots back blocks distances new_distances labels new_labels goals new_goals) e I.so_far
