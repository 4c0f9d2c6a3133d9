-- Every text is short: the numbers printed have at most six digits, a section has at most nine depths, and a refusal at most five numbers.
use mathlib.Core.Path.{◌≡◌, refl, sym, subst}
use mathlib.Core.Bool.{Bool, true, false, cond}
use mathlib.Core.List.{List, [], ◌∷◌, ◌++◌}
use Prim.Native.Nat.{ℕ, zero, suc, ◌+◌, ◌*◌, ◌≤◌}
use native.Mathlib.Omega.{arith}
use native.Mathlib.Nat.{mul-le-mul, suc-mul}
use lib.ListN.{length, length-append}
use lib.Dec.{ltb}
use borrow.Author.Tests.{ltb-false}
use Rattle.trellis.specs.Bounds.{most_symbols, most_words, most_bytes}
use Rattle.trellis.specs.Word.{Word}
use Rattle.trellis.specs.Witness.{Witness, found, nothing, witness}
use Rattle.trellis.specs.Outcome.{Outcome, bad_length}
use Rattle.trellis.specs.Selections.{additions, selections}
use Rattle.trellis.specs.Layout.{q_of, n_of, states_of, vertex_count_of, edge_count_of, edges_before, joined_up, section_of}
use Rattle.trellis.proofs.OwnLaid.{own_q, own_n, own_states}
use Rattle.table.specs.File.{TableFile, refused, accepted, table_file}
use Rattle.table.specs.Inner.Good.{GoodFile}
use Rattle.table.proofs.Accepted.{accepted_good}
use Rattle.text.specs.Line.{line}
use Rattle.text.specs.Inner.Digits.{AllBelow}
use Rattle.text.proofs.Short.{line_short}
use Rattle.lines.specs.Text.{section_word, depth_word, additions_word, selections_word, refused_word}
use Rattle.lines.specs.Text.{entering, depth_line, sums, sizes_of, refusal_line, table_text, file_text, text_of}
use Rattle.listing.specs.Inner.Made.{any_text}
use Rattle.listing.proofs.Room.{vertices_at, edges_at, edges_all}
use Rattle.listing.proofs.Refusals.{Small, Refusal, too_long, witness_refusal, file_refusal}

-- ---- the line of a refusal

pub line_of_few : (o : Outcome) → AllBelow 6 (o.number ∷ o.values) → length o.values ≤ 4 → length (refusal_line o) ≤ any_text
unfolding refusal_line
line_of_few o small few = omega (arith, line_short 5 refused_word (o.number ∷ o.values) small, few)

refusal_short : {o : Outcome} → Refusal o → length (refusal_line o) ≤ any_text
refusal_short {o} R = line_of_few o R.small R.few

-- ---- the sizes of a table's section

module _ (file : List ℕ) {q n states : ℕ} {table : List Word} (G : GoodFile file q n states table) where
  abbrev l : List ℕ
  l = section_of q n states table

  entering_small : (t : ℕ) → t ≤ n → entering l t ≤ most_words
  unfolding entering
  entering_small zero h = omega arith
  entering_small (suc t) h = edges_at file G t h

  depths_short : (count : ℕ) → count ≤ suc n → length (joined_up (depth_line l) count) ≤ count * 27
  unfolding joined_up depth_line
  depths_short zero h = omega arith
  depths_short (suc count) h =
      let printed = count ∷ vertex_count_of l count ∷ entering l count ∷ [] in
      let t : Small count = omega (arith, G.n_to) in
      let v : Small (vertex_count_of l count) = omega (arith, vertices_at file G count (omega arith)) in
      let e : Small (entering l count) = omega (arith, entering_small count (omega arith)) in
      let a : length (depth_line l count) ≤ 27 = line_short 5 depth_word printed (t, (v, (e, tt))) in
      omega (arith, depths_short count (omega arith), length-append (joined_up (depth_line l) count) (depth_line l count), suc-mul count 27)

  all_depths : length (joined_up (depth_line l) (suc n)) ≤ suc n * 27
  all_depths = depths_short (suc n) (omega arith)

  pub additions_few : additions (n_of l) (edge_count_of l) ≤ most_symbols * most_words
  unfolding additions edges_before
  additions_few = subst (λ m. additions m (edge_count_of l) ≤ most_symbols * most_words) (sym (own_n q n states table)) (edges_all file G)

  pub selections_few : selections (n_of l) (vertex_count_of l) (edge_count_of l) ≤ most_symbols * most_words + most_words
  unfolding selections
  selections_few = omega (arith, additions_few, vertices_at file G 0 (omega arith))

  sums_short : length (sums l) ≤ 35
  unfolding sums
  sums_short =
      let E = additions (n_of l) (edge_count_of l) in
      let s = selections (n_of l) (vertex_count_of l) (edge_count_of l) in
      let a = line_short 5 additions_word (E ∷ []) (omega (arith, additions_few), tt) in
      let b = line_short 5 selections_word (s ∷ []) (omega (arith, selections_few), tt) in
      omega (arith, a, b, length-append (line additions_word (E ∷ [])) (line selections_word (s ∷ [])))

  sizes_short : length (sizes_of (length table) l) ≤ any_text
  unfolding sizes_of
  sizes_short =
      let sized = q_of l ∷ n_of l ∷ states_of l ∷ length table ∷ [] in
      let depths = joined_up (depth_line l) (suc (n_of l)) in
      let e : n_of l ≡ n = own_n q n states table in
      let a : Small (q_of l) = omega (arith, own_q q n states table, G.q_to) in
      let b : Small (n_of l) = omega (arith, e, G.n_to) in
      let c : Small (states_of l) = omega (arith, own_states q n states table, G.states_to) in
      let w : Small (length table) = omega (arith, G.count_to) in
      let s = line_short 5 section_word sized (a, (b, (c, (w, tt)))) in
      let d : length depths ≤ suc n * 27 = subst (λ m. length (joined_up (depth_line l) (suc m)) ≤ suc n * 27) (sym e) all_depths in
      let nine : suc n * 27 ≤ 9 * 27 = mul-le-mul (let k : suc n ≤ 9 = omega (arith, G.n_to) in k) (let k : 27 ≤ 27 = omega arith in k) in
      omega (arith, s, d, nine, sums_short, length-append (line section_word sized) (depths ++ sums l), length-append depths (sums l))

-- ---- every text

module _ (file : List ℕ) where
  table_short : {q n states : ℕ} {table : List Word} → GoodFile file q n states table → (w : Witness) → witness n table ≡ w
      → length (table_text q n states table w) ≤ any_text
  unfolding table_text
  table_short {q} {n} {states} {table} G (found t i j k) e = refusal_short (witness_refusal n table G.n_to G.count_to t i j k e)
  table_short G nothing e = sizes_short file G

  file_short : Small (length file) → (f : TableFile) → table_file file ≡ f → length (file_text f) ≤ any_text
  unfolding file_text
  file_short h (refused o) e = refusal_short (file_refusal file h e)
  file_short h (accepted q n states table) e = table_short (accepted_good file e) (witness n table) refl

  pub text_short : length (text_of file) ≤ any_text
  unfolding text_of
  text_short = go (ltb most_bytes (length file)) refl
    where
      go : (b : Bool) → ltb most_bytes (length file) ≡ b
          → length (cond b (refusal_line (bad_length (most_bytes + 1))) (file_text (table_file file))) ≤ any_text
      go true e = refusal_short too_long
      go false e = file_short (omega (arith, ltb-false most_bytes (length file) e)) (table_file file) refl
