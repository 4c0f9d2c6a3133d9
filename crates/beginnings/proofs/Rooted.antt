-- Every slot in front of a block can enter its section. At a state that is no root's no path goes on, so nothing there costs less than
-- `unreached`; and a slot does.
use mathlib.Core.Path.{◌≡◌, ap, ◌∙◌}
use mathlib.Core.Bool.{Bool}
use mathlib.Core.List.{List}
use Prim.Native.Nat.{ℕ, suc, ◌<◌}
use native.Mathlib.Omega.{arith}
use native.Mathlib.Decide.{dec_lt}
use lib.ListN.{get_or}
use Rattle.trellis.specs.Lists.{◌∈◌}
use Rattle.trellis.specs.Word.{Word}
use Rattle.trellis.specs.Layout.{vertex_count_of, roots_place, root_state}
use Rattle.trellis.proofs.Lists.{of_each}
use Rattle.paths.specs.Chain.{unreached}
use Rattle.paths.specs.Inner.Chains.{chain_least}
use Rattle.paths.proofs.Chain.{least_le, least_block}
use Rattle.paths.proofs.Blocks.{least_else}
use Rattle.ranking.specs.Inner.Growth.{Start}
use Rattle.dearest.specs.Inner.Items.{code_in}
use Rattle.codes.specs.Inner.Codes.{code_vertex}
use Rattle.passes.proofs.Passing.{root_of, RootAt, root_at}
use Rattle.beginnings.specs.Inner.Trails.{state_at, Slots}
use Rattle.beginnings.specs.Inner.Entering.{HasRoot, Enterable}
use Rattle.beginnings.proofs.Notes.{coded_of}
use Rattle.beginnings.proofs.Sections.{roots_of, BlockUses}

-- the state of a slot is that of its beginning
pub slot_state : {back : List ℕ} {first : ℕ} {rest : ℕ → ℕ} {slots : List ℕ} {b have : ℕ} {kept : List (Start (List Word))}
    → Slots back first rest slots b have kept → (j : ℕ) → j < have → code_vertex (code_in (get_or slots j 0)) ≡ state_at back first b j
slot_state {back} {first} {rest} {slots} {b} {have} S j h =
    ap code_vertex (S.coded j h)
    ∙ (coded_of j (state_at back first b j) 0 (omega (arith, S.few)) (omega (arith, S.state_lt j h)) (omega arith)).vertex_is

none_listed : (l : List ℕ) (s : ℕ) → ((v : ℕ) → v < vertex_count_of l 0 → root_state l v ≡ s → ⊥) → (v : ℕ) → v ∈ roots_of l
    → root_state l v ≡ s → ⊥
none_listed l s h v i = let w = of_each (λ u. u) (vertex_count_of l 0) v i in h v (omega (arith, w.is, w.below))

module _ (ends : ℕ → Bool) (m : ℕ) {words : ℕ → List Word} {dist : ℕ → Word → ℕ} {b : ℕ} {l : List ℕ} {cost : ℕ → ℕ → ℕ}
    (B : BlockUses words dist b l cost) where
  abbrev least_here : ℕ → ℕ
  least_here s = chain_least words ends dist unreached (suc m) b s

  has_root : (s : ℕ) → least_here s < unreached → HasRoot l (roots_place l) (vertex_count_of l 0) s
  unfolding root_state
  has_root s low = go (root_at l s) (dec_lt (root_of l s) (vertex_count_of l 0))
    where
      go : RootAt l s (root_of l s) → Dec (root_of l s < vertex_count_of l 0) → HasRoot l (roots_place l) (vertex_count_of l 0) s
      go R (yes y) = record { root = root_of l s; below = y; is = R.is y }
      go R (no y) =
          let e = least_block words ends dist unreached m b s in
          let f
          = least_else B.uses unreached (chain_least words ends dist unreached m (suc b)) (least_le words ends dist unreached m (suc b)) s
          (none_listed l s (R.none (omega arith))) in
          absurd (omega arith)

  pub enterable : {back : List ℕ} {first : ℕ} {slots : List ℕ} {have : ℕ} {kept : List (Start (List Word))}
      → Slots back first least_here slots b have kept → Enterable l (roots_place l) (vertex_count_of l 0) slots have
  enterable {back} {first} {slots} S = record {
    rooted = λ j h.
        let s = code_vertex (code_in (get_or slots j 0)) in
        let e : least_here s ≡ least_here (state_at back first b j) = ap least_here (slot_state S j h) in
        let p = S.paid j h in
        let q = S.low j h in
        has_root s (omega arith);
  }
