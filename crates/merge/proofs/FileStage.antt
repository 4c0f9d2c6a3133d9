-- From a file that is accepted to its words in three lists: the front parts of the arrays hold just the file's words, within all bounds.
use mathlib.Core.Path.{◌≡◌, refl, sym, ap, ap₂, subst, ◌∙◌}
use mathlib.Core.List.{List}
use Prim.Native.Nat.{ℕ, ◌+◌, ◌*◌, ◌<◌, ◌≤◌}
use native.Mathlib.Omega.{arith}
use native.Mathlib.Nat.{mul_comm, mul-le-mul}
use native.Mathlib.Numerals.{add-one}
use lib.ListN.{length, get_or, take}
use lib.Seq.{length-take-le, get_or-take, ext_get_or}
use borrow.Author.Tests.{lt-ltb, le-ltb}
use Rattle.answers.specs.declared.merge.MergeRefusal.{MergeRefusal}
use Rattle.trellis.specs.Bounds.{most_states, most_words}
use Rattle.trellis.specs.Word.{Word, word, word_at, Table}
use Rattle.trellis.specs.Outcome.{short_map}
use Rattle.trellis.specs.Witness.{witness}
use Rattle.trellis.proofs.Words.{word_in, word_eq}
use Rattle.answers.specs.declared.merge.MergeRefusal.TheVariants.{ShortMap}
use Rattle.std.specs.Prelude.{Err, Result}
use Rattle.fields.specs.Fields.{file_words}
use Rattle.table.specs.File.{accepted, table_file}
use Rattle.table.specs.Inner.Good.{GoodFile}
use Rattle.table.proofs.Accepted.{accepted_good, good_at}
use Rattle.depths.specs.Inner.Words.{words}
use Rattle.depths.proofs.Words.{word_is, words_length}
use Rattle.word_lists.specs.Inner.Lists.{WordsHeld, Copied}
use Rattle.merging.specs.Merging.{map_length, merged, merged_table, Ends}
use Rattle.merging.specs.Inner.Sizes.{sized_by, sized_table, EndsSized}
use Rattle.merging.proofs.LastStage.{ends_by}

module _ (file : List ℕ) {q n states count : ℕ}
    (A : (table_file file ≡ accepted q n states (file_words file)) × (count ≡ length (file_words file))) where
  G : GoodFile file q n states (file_words file)
  G = accepted_good file A.0

  pub count_few : count ≤ most_words
  count_few = omega (arith, A.1, G.count_to)

  pub needed_fits : (w : ℕ) → w ≡ count → w * (n + 1) ≤ 9216
  needed_fits w e =
      let j : w ≤ most_words = omega (arith, count_few) in
      let k : n + 1 ≤ 9 = omega (arith, G.n_to) in
      let p : w * (n + 1) ≤ most_words * 9 = mul-le-mul j k in
      omega arith

  needed_is : (w : ℕ) → w ≡ count → w * (n + 1) ≡ map_length n (file_words file)
  needed_is w e = ap (λ k. k * (n + 1)) (e ∙ A.1)

  -- 5
  pub ends_map : (w : ℕ) (map section sizes : List ℕ) → w ≡ count → length map < w * (n + 1)
      → EndsSized (merged_table q n states (file_words file) map section) (sized_table q n states (file_words file) map sizes)
      (Err (ShortMap (w * (n + 1)))) map section sizes
  unfolding merged_table sized_table
  ends_map w map section sizes e h =
      let short = lt-ltb (length map) (map_length n (file_words file)) (omega (arith, needed_is w e)) in
      record { ends = ends_by (simp short) (ap short_map (needed_is w e)) refl refl; sizes_are = simp short }

  module _ {roots labels goals : List ℕ} {w : ℕ} (C : Copied file count roots labels goals) (e : w ≡ count) where
    pub part_roots : w ≤ length roots
    part_roots = omega (arith, count_few, C.root_places)

    pub part_labels : w ≤ length labels
    part_labels = omega (arith, count_few, C.label_places)

    pub part_goals : w ≤ length goals
    part_goals = omega (arith, count_few, C.goal_places)

    pub size_roots : w ≡ length (take w roots)
    size_roots = sym (length-take-le w roots part_roots)

    pub size_labels : w ≡ length (take w labels)
    size_labels = sym (length-take-le w labels part_labels)

    pub size_goals : w ≡ length (take w goals)
    size_goals = sym (length-take-le w goals part_goals)

    abbrev held_words : List Word
    held_words = words (take w roots) (take w labels) (take w goals)

    long : length (words (take w roots) (take w labels) (take w goals)) ≡ w
    long = words_length (take w roots) (take w labels) (take w goals) (sym size_labels ∙ size_roots) (sym size_goals ∙ size_roots)
        ∙ sym size_roots

    -- the lists hold the file's words
    words_are : words (take w roots) (take w labels) (take w goals) ≡ file_words file
    words_are = ext_get_or (word 0 0 0) held_words (file_words file) (long ∙ e ∙ A.1) (λ i h. same i (omega (arith, long)))
      where
        same : (i : ℕ) → i < w → word_at (words (take w roots) (take w labels) (take w goals)) i ≡ word_at (file_words file) i
        same i h =
            word_is (take w roots) (take w labels) (take w goals) i (omega (arith, long))
            ∙ word_eq (get_or-take w roots i 0 h ∙ C.root i (omega arith)) (get_or-take w labels i 0 h ∙ C.label i (omega arith))
            (get_or-take w goals i 0 h ∙ C.goal i (omega arith))
            ∙ sym (good_at file G i (omega (arith, A.1)))

    root_low : (i : ℕ) → i < length (take w roots) → get_or (take w roots) i 0 < most_states
    root_low i h =
        let l : i < w = omega (arith, size_roots) in
        let k : i < length (file_words file) = omega (arith, A.1) in
        let z : get_or (take w roots) i 0 ≡ (word_at (file_words file) i).root = get_or-take w roots i 0 l ∙ C.root i (omega arith)
        ∙ sym (ap (λ (x : Word). x.root) (good_at file G i k)) in
        omega (arith, G.roots_below (word_at (file_words file) i) (word_in (file_words file) i k), G.states_to)

    goal_low : (i : ℕ) → i < length (take w goals) → get_or (take w goals) i 0 < most_states
    goal_low i h =
        let l : i < w = omega (arith, size_goals) in
        let k : i < length (file_words file) = omega (arith, A.1) in
        let z : get_or (take w goals) i 0 ≡ (word_at (file_words file) i).goal = get_or-take w goals i 0 l ∙ C.goal i (omega arith)
        ∙ sym (ap (λ (x : Word). x.goal) (good_at file G i k)) in
        omega (arith, G.goals_below (word_at (file_words file) i) (word_in (file_words file) i k), G.states_to)

    pub words_asked : (map : List ℕ) → w * (n + 1) ≤ length map → WordsHeld n (take w roots) (take w labels) (take w goals) map
    words_asked map room = record {
      held = record {
        short = G.n_to;
        few = omega (arith, size_roots, count_few);
        labelled = sym size_labels ∙ size_roots;
        aimed = sym size_goals ∙ size_roots;
        table = subst (Table n) (sym words_are) G.table;
      };
      few_roots = record { words = omega (arith, size_roots, count_few); below = root_low };
      few_goals = record { words = omega (arith, size_goals, count_few); below = goal_low };
      some = omega (arith, size_roots, A.1, G.count_from);
      room = omega (arith, ap₂ (λ x y. x * y) (add-one n) size_roots, mul_comm w (n + 1));
    }

    pub ends_words : (map section sizes map2 section2 sizes2 : List ℕ) (a : Result ℕ MergeRefusal) → w * (n + 1) ≤ length map
        → EndsSized (merged q n states held_words map section (witness n held_words))
        (sized_by q n states held_words sizes (witness n held_words)) a map2 section2 sizes2
        → EndsSized (merged_table q n states (file_words file) map section) (sized_table q n states (file_words file) map sizes) a map2 section2
        sizes2
    unfolding merged_table sized_table
    ends_words map section sizes map2 section2 sizes2 a room E =
        let long = le-ltb (length map) (map_length n (file_words file)) (omega (arith, needed_is w e)) in
        record {
          ends = subst (λ m. Ends m a map2 section2)
              (ap (λ t. merged q n states t map section (witness n t)) words_are ∙ sym (simp long)) E.ends;
          sizes_are = E.sizes_are ∙ ap (λ t. sized_by q n states t sizes (witness n t)) words_are ∙ sym (simp long);
        }
