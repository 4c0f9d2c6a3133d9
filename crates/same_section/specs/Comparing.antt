-- What comparing two lists of numbers answers, by document 02's request 8: whether they are sections that differ only by numbering, which
-- is to say that both are usable, with no numbers left over, and have the same q, n, S and words. Nothing is written.
use Rattle.std.specs.Prelude.{Bool, true, not, cond, ◌&&◌, List, [], ◌∷◌, ℕ, eqb}
use Rattle.trellis.specs.Lists.{one_if, is_in}
use Rattle.trellis.specs.Word.{Word, same_word}
use Rattle.trellis.specs.Outcome.{Outcome, success, bad_section}
use Rattle.trellis.specs.Layout.{q_of, n_of, states_of, section_words}
use Rattle.section_file.specs.Usable.{is_section}

-- every word of the one list stands in the other
unfoldable pub all_in : List Word → List Word → Bool
all_in [] words = true
all_in (w ∷ l) words = is_in same_word w words && all_in l words

-- the same q, n and S, and the same words, no more and no fewer
unfoldable pub same_code : List ℕ → List ℕ → Bool
same_code a b =
    eqb (q_of a) (q_of b)
    && (eqb (n_of a) (n_of b)
    && (eqb (states_of a) (states_of b)
    && (all_in (section_words a) (section_words b)
    && all_in (section_words b) (section_words a))))

-- 8 for the first of the two that is no section
unfoldable pub comparing : List ℕ → List ℕ → Outcome
comparing a b =
    cond (not (is_section a)) (bad_section 0)
    (cond (not (is_section b)) (bad_section 1)
    (success (one_if (same_code a b))))
