-- Sections one behind another in one list of numbers: where each begins by the lengths of those before it, and document 01's fault 8.
-- Everything here computes.
use Rattle.std.specs.Prelude.{Bool, cond, not, ◌||◌, List, ℕ, zero, suc, ◌+◌, ltb, eqb, length, drop}
use Rattle.trellis.specs.Bounds.{most_sections}
use Rattle.trellis.specs.Lists.{first, within}
use Rattle.trellis.specs.Layout.{section_length}
use Rattle.section_file.specs.Usable.{usable}

-- where section i begins
unfoldable pub section_start : List ℕ → ℕ → ℕ
section_start sections zero = 0
section_start sections (suc i) = section_start sections i + section_length (drop (section_start sections i) sections)

-- section i, with what follows it
unfoldable pub section_at : List ℕ → ℕ → List ℕ
section_at sections i = drop (section_start sections i) sections

unfoldable pub unusable : List ℕ → ℕ → Bool
unusable sections i = not (usable (section_at sections i))

-- K is outside its bounds, or a section is unusable, or numbers are left over after the last
unfoldable pub sections_bad : List ℕ → ℕ → Bool
sections_bad sections k =
    not (within 1 most_sections k) || (ltb (first (unusable sections) k) k || not (eqb (section_start sections k) (length sections)))

-- K, the first unusable section, or K where numbers are left over: `first` is K where every section is usable
unfoldable pub bad_section_of : List ℕ → ℕ → ℕ
bad_section_of sections k = cond (within 1 most_sections k) (first (unusable sections) k) k
