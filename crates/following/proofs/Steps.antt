-- One step of two sections. The table of ends has the one edge of the other section that leaves a vertex by a symbol, so the edges carried
-- by it are edges there; and whatever carries this section's edges to edges there takes them to these.
use mathlib.Core.Path.{◌≡◌, refl, sym, ap, ◌∙◌}
use mathlib.Core.Bool.{Bool, true, false}
use mathlib.Core.List.Memᴰ
use mathlib.Core.List.{List}
use Prim.Native.Nat.{ℕ, ◌+◌, ◌-◌, ◌<◌}
use native.Mathlib.Omega.{arith}
use lib.ListN.{get_or}
use lib.Dec.{eqb}
use borrow.Author.Tests.{eq-eqb, eqb-true}
use Rattle.trellis.specs.Lists.{◌∈◌, run, all}
use Rattle.trellis.specs.Own.{Edge, edge}
use Rattle.trellis.proofs.Lists.{in_each, of_each}
use Rattle.edges.proofs.Tests.{all_at, all_of}
use Rattle.twins.specs.Inner.Twins.{turned}
use Rattle.partners.specs.Inner.Following.{slot, partner, end_for, Leads, Stuck, missing, clashing, Partners, StepCarried, StepMatched}
use Rattle.partners.specs.Inner.Following.{LastMatched}
use Rattle.partners.proofs.Ends.{InBounds}

-- what is not false is true
not_false_is : (r : Bool) → (r ≡ false → ⊥) → r ≡ true
not_false_is true f = refl
not_false_is false f = absurd (f refl)

module _ {e d : ℕ → Edge} {count : ℕ} (S : InBounds e count) {ends old new : List ℕ} {r : Bool} (L : Leads d count ends)
    (P : Partners e count old) (C : StepCarried e count ends old new r) where
  carried_edge : r ≡ true → (k : ℕ) → k < count → edge (partner old (e k).from) (e k).symbol (partner new (e k).to) ∈ run d 0 count
  carried_edge t k h =
      let c = C.yes t k h in
      let E = L.only (partner old (e k).from) (e k).symbol (omega (arith, P.some k h, P.small k h)) (S.symbols k h) c.0 in
      in_each d count E.at _ E.below
      ((λ i. edge (partner old (e k).from) (e k).symbol (c.1 i - 1)) ∙ sym E.is)

  -- where an edge of the other section goes on
  known_end : {g : ℕ → ℕ} → ((x a y : ℕ) → edge x a y ∈ run e 0 count → edge (partner old x) a (g y) ∈ run d 0 count)
      → (k : ℕ) → k < count → end_for ends old (e k) ≡ g (e k).to + 1
  known_end {g} G k h =
      let F = of_each d count _ (G (e k).from (e k).symbol (e k).to (in_each e count k _ h refl)) in
      ap (λ (x : Edge). get_or ends (slot x.from x.symbol) 0) F.is ∙ L.known F.at F.below
      ∙ ap (λ (x : Edge). x.to + 1) (sym F.is)

  pub step_matched : StepMatched (run e 0 count) (run d 0 count) old new r
  step_matched = record {
    long = C.long;
    some = λ t x a y m.
        let F = of_each e count (edge x a y) m in
        let c = C.yes t F.at F.below in
        omega (arith, c.0, c.1, ap (λ (z : Edge). get_or new z.to 0) F.is);
    edges = λ t x a y m.
        let F = of_each e count (edge x a y) m in
        Memᴰ.cast (ap (λ (z : Edge). edge (partner old z.from) z.symbol (partner new z.to)) F.is)
        (carried_edge t F.at F.below);
    always = λ g G. not_false_is r (λ z. stuck g G (C.no z));
  }
    where
      stuck : (g : ℕ → ℕ) → ((x a y : ℕ) → edge x a y ∈ run e 0 count → edge (partner old x) a (g y) ∈ run d 0 count)
          → Stuck e count ends old → ⊥
      stuck g G (missing k h z) = omega (arith, known_end G k h, z)
      stuck g G (clashing j k h l q z) = z (known_end G j h ∙ ap (λ y. g y + 1) q ∙ sym (known_end G k l))

module _ {e d : ℕ → Edge} {count : ℕ} (S : InBounds e count) {starts old : List ℕ} {r : Bool}
    (L : Leads (λ k. turned true (d k)) count starts)
    (P : Partners e count old)
    (q : r ≡ all (λ k. eqb (get_or starts (slot (e k).to (e k).symbol) 0) (get_or old (e k).from 0)) count) where
  closed_edge : r ≡ true → (k : ℕ) → k < count → edge (partner old (e k).from) (e k).symbol (e k).to ∈ run d 0 count
  closed_edge t k h =
      let s : get_or starts (slot (e k).to (e k).symbol) 0 ≡ get_or old (e k).from 0 =
      eqb-true _ _ (all_at (λ k. eqb (get_or starts (slot (e k).to (e k).symbol) 0) (get_or old (e k).from 0)) count k (sym q ∙ t) h) in
      let E = L.only (e k).to (e k).symbol (S.others k h) (S.symbols k h) (omega (arith, s, P.some k h)) in
      in_each d count E.at _ E.below
      ((λ i. edge (sym s i - 1) (e k).symbol (e k).to) ∙ sym (ap (turned true) E.is))

  pub last_matched : LastMatched (run e 0 count) (run d 0 count) old r
  last_matched = record {
    edges = λ t x a y m.
        let F = of_each e count (edge x a y) m in
        Memᴰ.cast (ap (λ (z : Edge). edge (partner old z.from) z.symbol z.to) F.is) (closed_edge t F.at F.below);
    always = λ G. q ∙ all_of (λ k. eqb (get_or starts (slot (e k).to (e k).symbol) 0) (get_or old (e k).from 0)) count (λ k h. closes G k h);
  }
    where
      closes : ((x a y : ℕ) → edge x a y ∈ run e 0 count → edge (partner old x) a y ∈ run d 0 count) → (k : ℕ) → k < count
          → eqb (get_or starts (slot (e k).to (e k).symbol) 0) (get_or old (e k).from 0) ≡ true
      closes G k h =
          let F = of_each d count _ (G (e k).from (e k).symbol (e k).to (in_each e count k _ h refl)) in
          let s : get_or starts (slot (e k).to (e k).symbol) 0 ≡ partner old (e k).from + 1 =
          ap (λ (x : Edge). get_or starts (slot x.to x.symbol) 0) F.is ∙ L.known F.at F.below
          ∙ ap (λ (x : Edge). x.from + 1) (sym F.is) in
          let t : get_or starts (slot (e k).to (e k).symbol) 0 ≡ get_or old (e k).from 0 = omega (arith, s, P.some k h) in
          eq-eqb _ _ t
