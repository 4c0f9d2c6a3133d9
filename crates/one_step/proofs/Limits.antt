-- Candidates within a limit. What a candidate costs is what stands above its code of 32 bits. So where the limit is below the cost of no
-- path, a candidate is within it if and only if its cost is; and all candidates are within the greatest such limit. Where k are kept within
-- a limit, at least k were within it, and those above it are none of the k best.
use mathlib.Core.Path.{◌≡◌, refl, sym, ap, subst, ◌∙◌}
use mathlib.Core.Bool.{Bool, true, false, cond}
use mathlib.Core.Logic.{◌⊎◌, inl, inr, ⊎_elim}
use mathlib.Core.List.{List, [], ◌∷◌, flat_map}
use Prim.Native.Nat.{ℕ, ◌+◌, ◌-◌, ◌*◌, ◌/◌, ◌%◌, ◌≤◌, ◌<◌}
use native.Mathlib.Omega.{arith}
use lib.Dec.{ltb, leb, eqb, eqb→eq}
use lib.ListN.{length, length-take}
use borrow.Author.Tests.{ltb-true, lt-ltb, le-leb, lt-leb}
use Rattle.trellis.specs.Bounds.{most_paths, most_words, most_q}
use Rattle.trellis.specs.Lists.{◌∈◌, keep, run}
use Rattle.trellis.specs.Own.{Edge}
use Rattle.trellis.specs.Section.{leaving}
use Rattle.trellis.proofs.Bools.{holds, settle, either}
use Rattle.trellis.proofs.Lists.{of_run}
use Rattle.packed.specs.Inner.Packed.{appended}
use Rattle.paths.specs.Chain.{unreached}
use Rattle.paths.proofs.Sections.{listed_of}
use Rattle.ranking.specs.Inner.Kept.{keep_best}
use Rattle.ranking.proofs.Lists.{flat_map_same, keep_flat_map}
use Rattle.ranking.proofs.Cut.{length_kept}
use Rattle.ranking.proofs.Within.{keep_within}
use Rattle.dearest.specs.Inner.Items.{cost_unit, cost_in, code_in, item_of}
use Rattle.edges.specs.Inner.Edges.{edge_in}
use Rattle.whole_section.specs.Inner.StepAt.{StepEdges}
use Rattle.codes.specs.Inner.Codes.{code_vertex, further_code}
use Rattle.totals.specs.Inner.Totals.{paid_for, total_of}
use Rattle.one_step.specs.Inner.Steps.{candidate, candidates}
use Rattle.one_step.specs.Inner.Loops.{limited, is_enough, Stepped}

-- ---- one candidate

-- the new code, from what comes of the old one and what comes of the edge
pub further_is : (code : ℕ) (e : Edge) → e.symbol < most_q
    → code / 67108864 * 67108864 + code % 16384 * 4 + (e.to * 65536 + e.symbol) ≡ further_code code e
unfolding appended
further_is code e h = omega arith

further_near : (code : ℕ) (e : Edge) → code < cost_unit → e.to < most_words → further_code code e < cost_unit
unfolding appended
further_near code e h l = omega arith

module _ (rows prices : List ℕ) (t paid code : ℕ) (e : Edge) where
  abbrev whole : ℕ
  whole = total_of rows prices t paid e

  abbrev made : ℕ
  made = item_of whole (further_code code e)

  module _ (limit : ℕ) where
    pub left_out : limit < whole → limited limit (candidate rows prices t paid code e) ≡ []
    unfolding limited candidate keep
    left_out h = go (ltb whole unreached)
      where
        go : (b : Bool) → keep (λ y. leb (cost_in y) limit) (cond b (made ∷ []) []) ≡ []
        go true = rw (lt-leb (cost_in made) limit (omega arith))
        go false = refl

    pub let_in : whole ≤ limit → limit < unreached → code < cost_unit → e.to < most_words
        → limited limit (candidate rows prices t paid code e) ≡ made ∷ []
    unfolding limited candidate keep
    let_in h l c w =
        let n = further_near code e c w in
        let a = lt-ltb whole unreached (omega arith) in
        let b = le-leb (cost_in made) limit (omega arith) in
        rw (a, b)

  none_above : code < cost_unit → e.to < most_words
      → limited (unreached - 1) (candidate rows prices t paid code e) ≡ candidate rows prices t paid code e
  unfolding limited candidate keep
  none_above c w = go (settle (ltb whole unreached))
    where
      go : (ltb whole unreached ≡ true) ⊎ (ltb whole unreached ≡ false)
          → keep (λ y. leb (cost_in y) (unreached - 1)) (cond (ltb whole unreached) (made ∷ []) [])
          ≡ cond (ltb whole unreached) (made ∷ []) []
      go (inl i) =
          let n = further_near code e c w in
          let l = ltb-true whole unreached i in
          rw (i, le-leb (cost_in made) (unreached - 1) (omega arith))
      go (inr i) = rw i

-- ---- all of them

module _ (rows prices : List ℕ) (t limit : ℕ) where
  -- one edge after the other, and one item after the other
  pub limited_edges : (es : List Edge) (x : ℕ)
      → limited limit (candidates rows prices t es x)
      ≡ flat_map (λ e. limited limit (candidate rows prices t (paid_for rows t x) (code_in x) e)) (leaving (code_vertex (code_in x)) es)
  unfolding limited
  limited_edges es x =
      keep_flat_map (λ y. leb (cost_in y) limit) (candidate rows prices t (paid_for rows t x) (code_in x)) (leaving (code_vertex (code_in x)) es)

  pub limited_items : (es : List Edge) (xs : List ℕ)
      → limited limit (flat_map (candidates rows prices t es) xs) ≡ flat_map (λ x. limited limit (candidates rows prices t es x)) xs
  unfolding limited
  limited_items es xs = keep_flat_map (λ y. leb (cost_in y) limit) (candidates rows prices t es) xs

-- the greatest limit leaves nothing out
pub unlimited : (rows prices : List ℕ) (t : ℕ) {pairs symbols : List ℕ} {edges : ℕ} → StepEdges pairs symbols edges → (xs : List ℕ)
    → limited (unreached - 1) (flat_map (candidates rows prices t (run (edge_in pairs symbols) 0 edges)) xs)
    ≡ flat_map (candidates rows prices t (run (edge_in pairs symbols) 0 edges)) xs
unlimited rows prices t {pairs} {symbols} {edges} E xs =
    limited_items rows prices t (unreached - 1) es xs
    ∙ flat_map_same (λ x. limited (unreached - 1) (candidates rows prices t es x)) (candidates rows prices t es) xs (λ x m. of x)
  where
    es : List Edge
    es = run (edge_in pairs symbols) 0 edges

    low : (e : Edge) → e ∈ es → e.to < most_words
    low e m =
        let w = of_run (edge_in pairs symbols) 0 edges e m in
        let i : w.at ≡ 0 + w.at = omega arith in
        subst (λ (f : Edge). f.to < most_words) (sym w.is) (E.small.to_small (0 + w.at) (omega (arith, w.below)))

    of : (x : ℕ) → limited (unreached - 1) (candidates rows prices t es x) ≡ candidates rows prices t es x
    of x =
        limited_edges rows prices t (unreached - 1) es x
        ∙ flat_map_same (λ e. limited (unreached - 1) (candidate rows prices t (paid_for rows t x) (code_in x) e))
        (candidate rows prices t (paid_for rows t x) (code_in x)) (leaving (code_vertex (code_in x)) es)
        (λ e m. none_above rows prices t (paid_for rows t x) (code_in x) e (omega arith) (low e (listed_of (code_vertex (code_in x)) es e m)))

-- ---- enough

pub stepped_same : {k : ℕ} {xs ys new : List ℕ} {r worst : ℕ} → xs ≡ ys → Stepped k xs new r worst → Stepped k ys new r worst
stepped_same {k} e S = record { kept = S.kept; is = S.is ∙ ap (keep_best cost_in k) e }

-- where k are kept, those above the limit are none of the k best
stepped_full : {k r worst : ℕ} {xs new : List ℕ} (limit : ℕ) → k ≤ most_paths → r ≡ k → Stepped k (limited limit xs) new r worst
    → Stepped k xs new r worst
unfolding limited
stepped_full {k} {r} {xs = xs} {new} limit few h S = record {
  kept = S.kept;
  is =
      let l = S.kept.long in
      let a = length-take r new in
      let b = ap length S.is in
      let c = length_kept cost_in k (keep (λ y. leb (cost_in y) limit) xs) in
      S.is ∙ sym (keep_within cost_in limit k xs (omega arith));
}

pub stepped_enough : {k r worst : ℕ} {xs new : List ℕ} (limit : ℕ) → k ≤ most_paths → is_enough r k limit ≡ true
    → limited (unreached - 1) xs ≡ xs → Stepped k (limited limit xs) new r worst → Stepped k xs new r worst
unfolding is_enough
stepped_enough {k} {r} {xs = xs} limit few h all S =
    ⊎_elim (λ f. stepped_full limit few (eqb→eq r k f) S)
    (λ f. stepped_same (ap (λ n. limited n xs) (eqb→eq limit (unreached - 1) f) ∙ all) S)
    (either (eqb r k) (eqb limit (unreached - 1)) (holds h))
