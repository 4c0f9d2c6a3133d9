-- One block of a chain is one pass over the edges of its section: the numbers behind the block are what it costs to
-- end in each goal. The least over the block's words is the least over its paths, and the first word that has it is
-- that of the path which the section's numbers name.
use mathlib.Core.Path.{◌≡◌, refl, sym, ap, ap₂, ◌∙◌}
use mathlib.Core.Bool.{Bool, true, false, cond, not}
use mathlib.Core.List.{List, [], ◌∷◌, map}
use mathlib.Core.Option.{some as just}
use Prim.Native.Nat.{ℕ, ◌≤◌, ◌<◌, min}
use native.Mathlib.Omega.{arith}
use lib.Dec.{eqb, ltb, ltb→lt, nltb→le, T}
use Rattle.trellis.specs.Lists.{◌∈◌}
use Rattle.trellis.specs.Word.{Word}
use Rattle.trellis.specs.Own.{Edge}
use Rattle.trellis.specs.Section.{Path, paths_from}
use Rattle.paths.specs.Choice.{Choice, none, some}
use Rattle.paths.specs.Inner.Costs.{plus, min_all, first_with}
use Rattle.paths.specs.Inner.Sections.{section_least}
use Rattle.paths.proofs.Choose.{choose_all}
use Rattle.paths.proofs.First.{all_chosen}
use Rattle.paths.proofs.Capped.{capped_extend, capped_all, capped_had, min_same_in, capped}
use Rattle.paths.proofs.Trace.{chosen_first, extended}
use Rattle.paths.proofs.Sections.{path_offer, section_least_lem, section_trace_lem, cost_from, section_trace}

-- a number as an offer
unfoldable pub known : ℕ → ℕ → Choice (Unit {0})
known top x = cond (ltb x top) (some x (tt {0})) none

pub capped_known : (top x : ℕ) → x ≤ top → capped top (known top x) ≡ x
unfolding known capped
capped_known top x h = go (ltb x top) (ltb→lt x top) (nltb→le x top)
  where
    go : (b : Bool) → (T b → x < top) → (T (not b) → top ≤ x) → capped top (cond b (some x (tt {0})) none) ≡ x
    go true f g = omega arith
    go false f g = let l = g tt in omega arith

min_map : {A B : Type 0} (top : ℕ) (f : B → ℕ) (g : A → B) (xs : List A) → min_all top f (map g xs) ≡ min_all top (λ x. f (g x)) xs
unfolding min_all
min_map top f g [] = refl
min_map top f g (x ∷ xs) = ap (min (f (g x))) (min_map top f g xs)

first_map : {A B : Type 0} (test : B → Bool) (g : A → B) (xs : List A) (x : A) → first_with (λ y. test (g y)) xs ≡ just x
    → first_with test (map g xs) ≡ just (g x)
unfolding first_with
first_map test g [] x e = let z : ◌≡◌ {A = ℕ} 0 1 = cc in absurd (omega arith)
first_map {A} {B} test g (y ∷ xs) x e = go (test (g y)) (first_map test g xs x) e
  where
    go : (b : Bool) → (first_with (λ y. test (g y)) xs ≡ just x → first_with test (map g xs) ≡ just (g x))
        → cond b (just y) (first_with (λ y. test (g y)) xs) ≡ just x
        → cond b (just (g y)) (first_with test (map g xs)) ≡ just (g x)
    go true r h = let i : y ≡ x = cc in ap (λ z. just (g z)) i
    go false r h = r h

-- `spell p` is the word of a path. It costs what the path costs, and its goal is the state of the path's goal.
pub record Spells (cost : ℕ → ℕ → ℕ) (state : ℕ → ℕ) (dist : Word → ℕ) (spell : Path → Word) (ps : List Path) : Type 0 where
  pub same_cost : (p : Path) → p ∈ ps → dist (spell p) ≡ cost_from cost 0 p.symbols
  pub same_goal : (p : Path) → (spell p).goal ≡ state p.end

module _ {cost : ℕ → ℕ → ℕ} {state : ℕ → ℕ} {dist : Word → ℕ} {spell : Path → Word} (edges : ℕ → List Edge) (n v : ℕ)
    (S : Spells cost state dist spell (paths_from edges n 0 v)) (top : ℕ) (rest : ℕ → ℕ) (bound : (s : ℕ) → rest s ≤ top) where
  -- a word with what is to pay from its goal on
  abbrev on_word : Word → ℕ
  on_word w = plus top (dist w) (rest w.goal)

  final : ℕ → Choice (Unit {0})
  final g = known top (rest (state g))

  on_path : (p : Path) → p ∈ paths_from edges n 0 v → on_word (spell p) ≡ capped top (path_offer cost final 0 p)
  unfolding final path_offer
  on_path p m =
      ap₂ (plus top) (S.same_cost p m) (ap rest (S.same_goal p) ∙ sym (capped_known top (rest (state p.end)) (bound (state p.end))))
      ∙ sym (capped_extend top (cost_from cost 0 p.symbols) (λ u. p) (final p.end))

  number_is_lem : (g : ℕ) → rest (state g) ≡ capped top (final g)
  unfolding final
  number_is_lem g = sym (capped_known top (rest (state g)) (bound (state g)))

  -- the least over the words is the sweep's number
  pub block_cost : min_all top (λ w. plus top (dist w) (rest w.goal)) (map spell (paths_from edges n 0 v))
      ≡ section_least edges cost top (λ g. rest (state g)) n 0 v
  block_cost =
      min_map top on_word spell (paths_from edges n 0 v) ∙ min_same_in top (paths_from edges n 0 v) on_path
      ∙ sym (capped_all top (path_offer cost final 0) (paths_from edges n 0 v))
      ∙ sym (section_least_lem edges cost final top (λ g. rest (state g)) number_is_lem n 0 v)

  -- the first word that gives it is the word of the path that the sweep's numbers name
  pub block_word : (c : ℕ) → section_least edges cost top (λ g. rest (state g)) n 0 v ≡ c → c < top
      → first_with (λ w. eqb (plus top (dist w) (rest w.goal)) c) (map spell (paths_from edges n 0 v))
      ≡ just (spell (section_trace edges cost top (λ g. rest (state g)) n 0 v))
  unfolding path_offer
  block_word c e h =
      let a = choose_all (path_offer cost final 0) (paths_from edges n 0 v) in
      let i : capped top a ≡ c = sym (section_least_lem edges cost final top (λ g. rest (state g)) number_is_lem n 0 v) ∙ e in
      let H = capped_had top a (omega arith) in
      let o : a ≡ some c H.what = H.is ∙ ap (λ x. some x H.what) i in
      let C = all_chosen (path_offer cost final 0) (paths_from edges n 0 v) o in
      let q : H.what ≡ C.member = (extended _ _ _ C.offers).path_is in
      first_map (λ w. eqb (on_word w) c) spell (paths_from edges n 0 v) C.member
      (chosen_first top (path_offer cost final 0) (λ p. on_word (spell p)) on_path C h)
      ∙ ap (λ p. just (spell p)) (sym (section_trace_lem edges cost final top (λ g. rest (state g)) number_is_lem n 0 v o h ∙ q))
