-- Behind all checks. The blocks as the code holds them are the frame's: the places that were found are the places where the sections begin.
-- So the notes are the frame's, and as a block adds 8 at most, the costs made of them are the frame's cost table, in which no distance
-- reaches the mark for no path. Where the start state has that mark there is no path; elsewhere the path that the notes name is the first
-- of least distance. All this needs room for the cost table alone.
use mathlib.Core.Path.{◌≡◌, refl, sym, ap, subst, ◌∙◌}
use mathlib.Core.List.{List}
use Prim.Native.Nat.{ℕ, ◌+◌, ◌-◌, ◌*◌, ◌/◌, ◌%◌, ◌≤◌, ◌<◌}
use native.Mathlib.Nat.{sub-zero}
use native.Mathlib.Decide.{dec_lt}
use native.Mathlib.Omega.{arith}
use lib.ListN.{length, get_or, drop, get_or-eq_default, length-drop}
use Rattle.trellis.specs.Bounds.{most_symbols, costs_a_block}
use Rattle.trellis.specs.Word.{Word}
use Rattle.trellis.specs.Comparing.{label_distance}
use Rattle.trellis.specs.Layout.{n_of, section_words}
use Rattle.trellis.specs.Lists.{over}
use Rattle.trellis.proofs.Lists.{length_run, each_at}
use Rattle.trellis.proofs.Buffers.{over_is}
use Rattle.trellis.proofs.Comparing.{distance_most}
use Rattle.paths.specs.Choice.{none, some}
use Rattle.paths.specs.Chain.{best_path, cost_table, unreached, ends_in}
use Rattle.paths.proofs.Chain.{cost_table_lem, least_le, best_traced, no_path}
use Rattle.section_file.specs.Inner.Sound.{Sound}
use Rattle.section_file.specs.Inner.View.{Seen}
use Rattle.section_file.specs.declared.View.{View}
use Rattle.section_file.proofs.Usable.{usable_sound}
use Rattle.passes.specs.Inner.Chains.{Chain, least_from, path_from, NotesFrom, CostsFrom}
use Rattle.sections.specs.Sections.{section_start, section_at}
use Rattle.sections.proofs.Sections.{long_enough}
use Rattle.cost_table.specs.Inner.Filled.{EndRow, EndsAs, HeldBlocks, held_blocks, block_part, view_at, Ready, ChainOf, Filled}
use Rattle.settling.specs.Inner.Settled.{Cheap, Settling, Settled}
use Rattle.frame.specs.Frame.{Frame, block_count, block_section, block_words, word_distance_by, word_distance}
use Rattle.frame.specs.Inner.Checked.{FrameChecked}
use Rattle.decoding.specs.Decoding.{best_by, best_of, table_of}

-- the chain that a frame is
abbrev pub chain_of : Frame → Chain
chain_of f = record { words = block_words f; ends = ends_in f.end; price = word_distance f; blocks = block_count f }

module _ {f : Frame} {starts : List ℕ} {views : List View} (K : FrameChecked f starts views) where
  abbrev pub held_of : HeldBlocks
  held_of = held_blocks f.sections starts views f.indices f.received f.erased

  -- past the last block the index reads as 0, and there is a section 0
  index_below_lem : (b : ℕ) → get_or f.indices b 0 < f.k
  index_below_lem b = go (dec_lt b (block_count f))
    where
      go : Dec (b < block_count f) → get_or f.indices b 0 < f.k
      go (yes h) = K.index_below b h
      go (no h) =
          let e : get_or f.indices b 0 ≡ 0 = get_or-eq_default f.indices 0 (omega arith) in
          let s = K.sections_found.some in
          omega arith

  -- so every block's section is usable
  pub sound_at : (b : ℕ) → Sound (block_section f b)
  sound_at b = usable_sound (block_section f b) (K.sections_found.found.usable_before (get_or f.indices b 0) (index_below_lem b))

  place_is : (b : ℕ) → get_or starts (get_or f.indices b 0) 0 ≡ section_start f.sections (get_or f.indices b 0)
  place_is b = K.sections_found.found.at (get_or f.indices b 0) (omega (arith, index_below_lem b))

  pub part_is : (b : ℕ) → block_part held_of b ≡ block_section f b
  unfolding section_at
  part_is b = ap (λ x. drop x f.sections) (place_is b)

  inside : (b : ℕ) → get_or starts (get_or f.indices b 0) 0 ≤ length f.sections
  unfolding section_at
  inside b =
      let w = (sound_at b).whole in
      let l = long_enough (block_section f b) in
      let d = length-drop (section_start f.sections (get_or f.indices b 0)) f.sections in
      omega (arith, place_is b)

  pub ready : Ready held_of
  ready = record {
    many = K.framed.many;
    received_long = K.framed.received_long;
    erased_long = K.framed.erased_long;
    starts_long = K.sections_found.found.long;
    views_long = K.sections_found.found.views_long;
    index_below = λ b h. let l = index_below_lem b in let g = K.sections_found.few in omega arith;
    inside = λ b h. inside b;
    seen = λ b h.
        subst (λ l. Seen l (view_at held_of b)) (sym (part_is b))
        (record { sound = sound_at b; is = K.sections_found.found.view (get_or f.indices b 0) (index_below_lem b) });
  }

  pub chain_of_lem : ChainOf held_of (chain_of f)
  unfolding block_words word_distance_by
  chain_of_lem = record {
    blocks_is = refl;
    words_are = λ b h. ap section_words (sym (part_is b));
    price_is = λ b h w. ap (λ l. label_distance (n_of l) (get_or f.received b 0) (get_or f.erased b 0) w.label) (sym (part_is b));
  }

  -- no distance is above 8
  pub distance_to : (b : ℕ) (w : Word) → word_distance f b w ≤ most_symbols
  unfolding word_distance_by
  distance_to b w =
      omega (arith, distance_most (n_of (block_section f b)) (get_or f.received b 0) (get_or f.erased b 0) w.label, (sound_at b).n_to)

  abbrev table_from : ℕ → ℕ → ℕ
  table_from b s = cost_table (block_words f) (ends_in f.end) (word_distance f) (block_count f - b) b s

  least_is : (b s : ℕ) → least_from (chain_of f) b s ≡ table_from b s
  unfolding least_from
  least_is b s =
      let m = K.framed.many in
      sym (cost_table_lem (block_words f) (ends_in f.end) (word_distance f) most_symbols distance_to (block_count f - b) b s (omega arith))

  -- so what a block adds is told by its remainder
  pub cheap : Cheap (chain_of f)
  cheap = record { below = λ b h w. omega (arith, distance_to b w) }

  module _ {ends to_pay costs notes : List ℕ} (E : EndRow f.end ends) (L : costs_a_block * block_count f ≤ length costs)
      (F : Filled held_of ends to_pay costs notes) where
    ends_as_lem : EndsAs (chain_of f) ends
    ends_as_lem = record { at = E.at }

    pub noted : NotesFrom (chain_of f) 0 notes
    noted = F.noted (chain_of f) chain_of_lem ends_as_lem

    pub settling : Settling f.sections starts f.indices ends notes
    settling = record {
      views = views;
      received = f.received;
      erased = f.erased;
      ready = ready;
      unrooted = F.unrooted;
      chain = chain_of f;
      blocks_is = refl;
      cheap = cheap;
      ends_as = ends_as_lem;
      noted = noted;
      ends_long = E.long;
      long = omega (arith, F.long, L);
    }

    -- what is left to pay in the start state
    start_at : get_or to_pay f.start 0 ≡ least_from (chain_of f) 0 f.start
    start_at = (F.left_is (chain_of f) chain_of_lem ends_as_lem).at f.start K.framed.start_below

    module _ {new : List ℕ} (S : Settled (block_count f) ends notes new) where
      pub costs_from : CostsFrom (chain_of f) 0 new
      costs_from = S.costs (chain_of f) refl cheap ends_as_lem noted

      pub table_over : new ≡ over (table_of f) costs
      unfolding table_of
      table_over =
          over_is (table_of f) costs new (omega (arith, long, L)) (S.long ∙ F.long) at
          (λ i h. S.kept i (omega (arith, long)) ∙ F.kept i (omega (arith, long)))
        where
          long : length (table_of f) ≡ costs_a_block * block_count f
          long = length_run _ 0 (costs_a_block * block_count f)

          at : (i : ℕ) → i < length (table_of f) → get_or new i 0 ≡ get_or (table_of f) i 0
          at i h =
              let l = long in
              let e : costs_a_block * (i / costs_a_block) + i % costs_a_block ≡ i = omega arith in
              ap (λ j. get_or new j 0) (sym e) ∙ costs_from.at (i / costs_a_block) (i % costs_a_block) (omega arith) (omega arith) (omega arith)
              ∙ least_is (i / costs_a_block) (i % costs_a_block)
              ∙ sym (each_at (λ j. table_from (j / costs_a_block) (j % costs_a_block)) (costs_a_block * block_count f) i 0 (omega arith))

    -- the mark for no path in the start state
    pub best_none : get_or to_pay f.start 0 ≡ unreached → best_of f ≡ none
    unfolding best_by
    best_none e =
        let z = sub-zero (block_count f) in
        let t : cost_table (block_words f) (ends_in f.end) (word_distance f) (block_count f) 0 f.start ≡ unreached
        = ap (λ j. cost_table (block_words f) (ends_in f.end) (word_distance f) j 0 f.start) (sym z) ∙ sym (least_is 0 f.start)
        ∙ sym start_at ∙ e in
        let m = K.framed.many in
        no_path (block_words f) (ends_in f.end) (word_distance f) most_symbols distance_to (block_count f) 0 f.start (omega arith) t

    -- and any other number there
    module _ (n : get_or to_pay f.start 0 ≡ unreached → ⊥) where
      pub opened : least_from (chain_of f) 0 f.start < unreached
      unfolding least_from
      opened = go (dec_lt (least_from (chain_of f) 0 f.start) unreached) start_at
          (least_le (block_words f) (ends_in f.end) (word_distance f) unreached (block_count f - 0) 0 f.start)
        where
          go : {a : ℕ} → Dec (a < unreached) → get_or to_pay f.start 0 ≡ a → a ≤ unreached → a < unreached
          go (yes i) c l = i
          go (no i) c l = absurd (n (omega arith))

      pub best_some : best_of f ≡ some (get_or to_pay f.start 0) (path_from (chain_of f) 0 f.start)
      unfolding least_from path_from best_by
      best_some =
          ap (λ j. best_path (block_words f) (ends_in f.end) (word_distance f) j 0 f.start) (sym (sub-zero (block_count f)))
          ∙ best_traced (block_words f) (ends_in f.end) (word_distance f) unreached (block_count f - 0) 0 f.start opened
          ∙ ap (λ d. some d (path_from (chain_of f) 0 f.start)) (sym start_at)
