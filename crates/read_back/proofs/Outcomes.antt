-- The ways that reading back ends, each from the tests that lead there: what the code leaves is what the definition says. The words found
-- are the section's words, and of words whose numbers fit, the bytes put into the buffer are those of the table file.
use mathlib.Core.Path.{◌≡◌, sym, ap, ap₂, ◌∙◌}
use mathlib.Core.Bool.{true}
use mathlib.Core.List.{List, [], ◌∷◌, ◌++◌, map, flat_map}
use Prim.Native.Nat.{ℕ, ◌+◌, ◌-◌, ◌*◌, ◌≤◌, ◌<◌}
use native.Mathlib.Omega.{arith}
use native.Mathlib.Nat.{mod-eq_of_lt}
use lib.ListN.{length, get_or, take, drop}
use borrow.Author.Tests.{lt-ltb, le-ltb}
use Rattle.trellis.specs.Bounds.{most_words}
use Rattle.trellis.specs.Lists.{◌∈◌, over}
use Rattle.trellis.specs.Outcome.{success, bad_section, short_buffer, too_many_words}
use Rattle.trellis.specs.Layout.{q_of, n_of, states_of, goal_state, section_words}
use Rattle.trellis.proofs.Lists.{flat_map_map}
use Rattle.section_file.specs.Inner.Sound.{Sound}
use Rattle.section_file.specs.Inner.View.{Seen}
use Rattle.section_file.specs.declared.View.{View}
use Rattle.section_file.proofs.Seen.{viewed, numbers_from}
use Rattle.section_file.specs.Usable.{is_section}
use Rattle.std.specs.Prelude.{Some, None}
use Rattle.whole_section.specs.Inner.Whole.{whole_part}
use Rattle.whole_section.proofs.Lists.{flat_map_same}
use Rattle.whole_section.proofs.Sections.{whole_none}
use Rattle.codes.specs.Inner.Codes.{code_root, code_vertex}
use Rattle.gathering.specs.Inner.Levels.{Begun, finished, level, coded}
use Rattle.gathering.specs.Inner.Growing.{Gathered, AllGathered}
use Rattle.gathering.proofs.Levels.{words_are, words_count, Fit, level_fits, fit_vertex, fit_label, root_coded, vertex_coded, label_coded}
use Rattle.word_file.specs.TableBytes.{bytes_of, pair_bytes, label_bytes, table_bytes}
use Rattle.word_file.specs.Inner.Written.{byte_of, pair_of_code, label_of_code, file_of_codes}
use Rattle.word_file.proofs.Writing.{table_length}
use Rattle.read_back.specs.ReadingBack.{left, reading_back}

-- ---- the bytes of words that fit

module _ {s : List ℕ} (g : Sound s) where
  fits : (b : Begun) → b ∈ level s (n_of s) → Fit s (n_of s) b
  fits b m = level_fits g (n_of s) (omega arith) b m

  pair_of : (goals : List ℕ) → ((v : ℕ) → get_or goals v 0 ≡ goal_state s v) → (b : Begun) → b ∈ level s (n_of s)
      → pair_of_code goals (coded b) ≡ pair_bytes (finished (goal_state s) b)
  pair_of goals e b m =
      let F = fits b m in
      let v = fit_vertex g (n_of s) (omega arith) F in
      let x = fit_label g (n_of s) (omega arith) F in
      let r : code_root (coded b) ≡ b.root = root_coded b v x in
      let k : get_or goals (code_vertex (coded b)) 0 ≡ goal_state s b.vertex =
      ap (λ w. get_or goals w 0) (vertex_coded b v x) ∙ e b.vertex in
      let small : goal_state s b.vertex < 256 = omega (arith, g.goals_below b.vertex F.vertex_below, g.states_to) in
      ap₂ (λ a d. a ∷ d ∷ []) (ap byte_of r ∙ mod-eq_of_lt (omega (arith, F.root_small))) (ap byte_of k ∙ mod-eq_of_lt small)

  label_of : (b : Begun) → b ∈ level s (n_of s) → label_of_code (coded b) ≡ label_bytes (finished (goal_state s) b)
  label_of b m =
      let F = fits b m in
      ap bytes_of (label_coded b (fit_vertex g (n_of s) (omega arith) F) (fit_label g (n_of s) (omega arith) F))

  file_is_lem : (goals : List ℕ) {codes : List ℕ} {count : ℕ} → ((v : ℕ) → get_or goals v 0 ≡ goal_state s v) → AllGathered s codes count
      → file_of_codes s goals codes count ≡ table_bytes (q_of s) (n_of s) (states_of s) (section_words s)
  unfolding file_of_codes table_bytes
  file_is_lem goals {codes} {count} e G =
      let full : take count codes ≡ map coded (level s (n_of s)) = G.filled in
      let size : count ≡ length (section_words s) = G.count_is ∙ sym (words_count s) in
      let pairs : flat_map (pair_of_code goals) (take count codes) ≡ flat_map pair_bytes (section_words s) =
      ap (flat_map (pair_of_code goals)) full ∙ flat_map_map (pair_of_code goals) coded (level s (n_of s))
      ∙ flat_map_same _ _ (level s (n_of s)) (pair_of goals e)
      ∙ sym (flat_map_map pair_bytes (finished (goal_state s)) (level s (n_of s))) ∙ sym (ap (flat_map pair_bytes) (words_are s)) in
      let labels : flat_map label_of_code (take count codes) ≡ flat_map label_bytes (section_words s) =
      ap (flat_map label_of_code) full ∙ flat_map_map label_of_code coded (level s (n_of s)) ∙ flat_map_same _ _ (level s (n_of s)) label_of
      ∙ sym (flat_map_map label_bytes (finished (goal_state s)) (level s (n_of s))) ∙ sym (ap (flat_map label_bytes) (words_are s)) in
      let a : byte_of (get_or s 0 0) ≡ get_or s 0 0 = mod-eq_of_lt (omega (arith, g.q_to)) in
      let b : byte_of (get_or s 1 0) ≡ get_or s 1 0 = mod-eq_of_lt (omega (arith, g.n_to)) in
      let c : byte_of (get_or s 2 0) ≡ get_or s 2 0 = mod-eq_of_lt (omega (arith, g.states_to)) in
      rw (a, b, c, pairs, labels, size)

-- ---- the ways out

pub ends_unusable : (s f : List ℕ) → None ≡ whole_part s → left (bad_section 0) f ≡ reading_back s f
unfolding reading_back
ends_unusable s f e = let d = whole_none s e in rw d

module _ (s f : List ℕ) {at : View} (S : Seen s at × (is_section s ≡ true)) where
  pub ends_many : {codes : List ℕ} → Gathered s codes None → left too_many_words f ≡ reading_back s f
  unfolding reading_back
  ends_many G =
      let e = S.1 in
      let d = lt-ltb most_words (length (section_words s)) (omega (arith, G.found, words_count s)) in
      rw (e, d)

  module _ {count : ℕ} {codes : List ℕ} (G : Gathered s codes (Some count)) where
    count_words : count ≡ length (section_words s)
    count_words = G.found.count_is ∙ sym (words_count s)

    few : count ≤ most_words
    few = G.found.room

    pub ends_short : length f < 5 + 4 * count → left (short_buffer (5 + 4 * count)) f ≡ reading_back s f
    unfolding reading_back
    ends_short k =
        let e = S.1 in
        let d = le-ltb most_words (length (section_words s)) (omega (arith, count_words, few)) in
        let m = lt-ltb (length f) (5 + 4 * length (section_words s)) (omega (arith, count_words)) in
        rw (e, d, m, count_words)

    pub ends_file : {new : List ℕ} → 5 + 4 * count ≤ length f
        → new ≡ file_of_codes s (take (length s - at.goals) (drop at.goals s)) codes count ++ drop (5 + 4 * count) f
        → left (success (5 + 4 * count)) new ≡ reading_back s f
    unfolding reading_back goal_state
    ends_file k q =
        let e = S.1 in
        let d = le-ltb most_words (length (section_words s)) (omega (arith, count_words, few)) in
        let m = le-ltb (length f) (5 + 4 * length (section_words s)) (omega (arith, count_words)) in
        let z = file_is_lem S.0.sound (take (length s - at.goals) (drop at.goals s))
        (λ v i. numbers_from s (viewed S.0.is).goals_is i v) G.found in
        let o : over (table_bytes (q_of s) (n_of s) (states_of s) (section_words s)) f ≡ table_bytes (q_of s) (n_of s) (states_of s)
        (section_words s) ++ drop (5 + 4 * length (section_words s)) f
        = ap (λ k. table_bytes (q_of s) (n_of s) (states_of s) (section_words s) ++ drop k f)
        (table_length (q_of s) (n_of s) (states_of s) (section_words s)) in
        rw (e, d, m, o, q, z, count_words)
