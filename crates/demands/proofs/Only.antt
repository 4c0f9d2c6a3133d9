-- But for numbering, the section that merging leaves is the only one for its table. It is our section, which is usable, fills its list and
-- has the table's words. Any other such section has the same q, n, S and words, so the two agree, and sections that agree differ only by
-- numbering inner vertices. Comparing tests just whether two lists agree.
use mathlib.Core.Path.{◌≡◌, refl, sym, ap, subst, ◌∙◌}
use mathlib.Core.Bool.{Bool, true, false, not, cond}
use mathlib.Core.List.{List}
use Prim.Native.Nat.{ℕ}
use native.Mathlib.Omega.{arith}
use lib.ListN.{get_or}
use Rattle.trellis.specs.Lists.{◌∈◌, one_if}
use Rattle.trellis.specs.Word.{Word}
use Rattle.trellis.specs.Layout.{section_of}
use Rattle.trellis.specs.Outcome.{Outcome, success, bad_section}
use Rattle.trellis.proofs.OwnLaid.{own_q, own_n, own_states}
use Rattle.table.proofs.Accepted.{accepted_good}
use Rattle.merging.specs.Merging.{merging}
use Rattle.section_file.specs.Usable.{usable, is_section}
use Rattle.section_file.proofs.Own.{Fitting}
use Rattle.section_file.proofs.OwnWords.{own_section_words}
use Rattle.read_back.proofs.Again.{good_fits, own_is_section}
use Rattle.matching.specs.Matching.{Renumbered}
use Rattle.same_section.specs.Comparing.{same_code, comparing}
use Rattle.same_section.proofs.Comparing.{same_words_lem, code_of, same_renumbered}
use Rattle.demands.specs.Only.{SectionFor, Only, Agreeing, ComparingMeaning}
use Rattle.demands.specs.Demands.{Fair, IsAccepted, section_left}
use Rattle.demands.proofs.Demanded.{decided, is_ours}

-- ---- two lists of numbers

-- of the three tests that comparing makes, all are passed where the answer is 1
record Passed (a b same : Bool) : Type 0 where
  first : a ≡ true
  second : b ≡ true
  code : same ≡ true

passed : (a b same : Bool)
    → cond (not a) (bad_section 0) (cond (not b) (bad_section 1) (success (one_if same))) ≡ success 1
    → Passed a b same
passed true true true e = record { first = refl; second = refl; code = refl }
passed true true false e = let d : ◌≡◌ {A = ℕ} 0 1 = ap (λ (o : Outcome). get_or o.values 0 0) e in absurd (omega (arith, d))
passed true false same e = let d : ◌≡◌ {A = ℕ} 8 0 = ap (λ (o : Outcome). o.number) e in absurd (omega (arith, d))
passed false b same e = let d : ◌≡◌ {A = ℕ} 8 0 = ap (λ (o : Outcome). o.number) e in absurd (omega (arith, d))

module _ {a b : List ℕ} where
  same_code_lem : Agreeing a b → same_code a b ≡ true
  same_code_lem K = code_of (record {
    q = K.sizes.0;
    n = K.sizes.1;
    states = K.sizes.2;
    into = λ w. (K.words w).1;
    out = λ w. (K.words w).0;
  })

  agreeing_renumbered : Agreeing a b → Renumbered a b
  agreeing_renumbered K = same_renumbered K.usable.0 K.usable.1 (same_code_lem K)

  agreeing_told : Agreeing a b → comparing a b ≡ success 1
  unfolding comparing
  agreeing_told K =
      let first = K.usable.0 in
      let second = K.usable.1 in
      let code = same_code_lem K in
      rw (first, second, code)

  told_agreeing : comparing a b ≡ success 1 → Agreeing a b
  unfolding comparing
  told_agreeing e =
      let P = passed (is_section a) (is_section b) (same_code a b) e in
      let C = same_words_lem P.code in
      record { usable = (P.first, P.second); sizes = (C.q, C.n, C.states); words = λ w. (C.out w, C.into w) }

pub comparing_meaning : (a b : List ℕ) → ComparingMeaning a b
comparing_meaning a b = record { exact = (told_agreeing, agreeing_told); renumbered = λ e. agreeing_renumbered (told_agreeing e) }

-- ---- sections for the same table: here and below the conditions of usable lie open, so that a claim about sections that lack one of them
-- is refused for the lack of it, and not for how it is written

module _ {q n states : ℕ} {table : List Word} {l m : List ℕ} (L : SectionFor q n states table l) where
  for_agreeing : SectionFor q n states table m → Agreeing l m
  unfolding is_section usable
  for_agreeing M = record {
    usable = (L.usable, M.usable);
    sizes = (M.sizes.0 ∙ sym L.sizes.0, M.sizes.1 ∙ sym L.sizes.1, M.sizes.2 ∙ sym L.sizes.2);
    words = λ w. (λ k. (L.words w).1 ((M.words w).0 k), λ k. (M.words w).1 ((L.words w).0 k));
  }

  agreeing_for : Agreeing l m → SectionFor q n states table m
  unfolding is_section usable
  agreeing_for K = record {
    usable = K.usable.1;
    sizes = (K.sizes.0 ∙ L.sizes.0, K.sizes.1 ∙ L.sizes.1, K.sizes.2 ∙ L.sizes.2);
    words = λ w. (λ k. (L.words w).0 ((K.words w).0 k), λ k. (K.words w).1 ((L.words w).1 k));
  }

-- ---- our section

module _ (q n states : ℕ) (table : List Word) (A : Fitting q n states table) where
  own_for : SectionFor q n states table (section_of q n states table)
  unfolding is_section usable
  own_for = record {
    usable = own_is_section q n states table A;
    sizes = (own_q q n states table, own_n q n states table, own_states q n states table);
    words = λ w.
        let e = own_section_words q n states table A in
        (λ k. subst (λ ws. w ∈ ws) e k, λ k. subst (λ ws. w ∈ ws) (sym e) k);
  }

  own_only : Only q n states table (section_of q n states table)
  own_only = record {
    own = own_for;
    others = λ m M. agreeing_renumbered (for_agreeing own_for M);
    told = λ m. (λ e. agreeing_for own_for (told_agreeing e), λ M. agreeing_told (for_agreeing own_for M));
  }

pub only : {file map section : List ℕ} {q n states : ℕ} {table : List Word} → Fair file q n states table map section
    → IsAccepted (merging file map section) → Only q n states table (section_left (merging file map section))
only {file} {q = q} {n = n} {states = states} {table = table} F A =
    subst (Only q n states table) (sym (is_ours F A))
    (own_only q n states table (good_fits (accepted_good file F.well_formed) ((decided F).only A)))
