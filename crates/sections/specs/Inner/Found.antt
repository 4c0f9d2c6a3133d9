-- What looking for the sections leaves, over raw lists and numbers.
use Rattle.std.specs.Prelude.{◌≡◌, true, false, MatchResult, Result, List, ℕ, suc, ◌≤◌, ◌<◌, length, get_or}
use Rattle.trellis.specs.Bounds.{most_sections}
use Rattle.section_file.specs.Usable.{usable}
use Rattle.section_file.specs.Inner.View.{view_of}
use Rattle.section_file.specs.declared.View.{View}
use Rattle.sections.specs.declared.Found.{Found}
use Rattle.sections.specs.Sections.{section_start, section_at, sections_bad, bad_section_of}

-- the view of no section: its length is 0
abbrev pub no_view : View
no_view = record { q = 0; n = 0; roots = 0; goals = 0; pairs = 0; symbols = 0; edges = 0; end = 0 }

-- the first i sections are usable, and their views and the places where they and the next one begin are known
pub record SectionsFound (sections starts : List ℕ) (views : List View) (i : ℕ) : Type 0 where
  pub long : length starts ≡ suc most_sections
  pub views_long : length views ≡ most_sections
  pub at : (j : ℕ) → j ≤ i → get_or starts j 0 ≡ section_start sections j
  pub usable_before : (j : ℕ) → j < i → usable (section_at sections j) ≡ true
  pub view : (j : ℕ) → j < i → get_or views j no_view ≡ view_of (section_at sections j)
  pub inside : section_start sections i ≤ length sections

-- 1 ≤ K ≤ 16, and all K sections are usable
pub record AllFound (sections starts : List ℕ) (views : List View) (k : ℕ) : Type 0 where
  pub some : 0 < k
  pub few : k ≤ most_sections
  pub found : SectionsFound sections starts views k

-- a fault 8, and the number that it returns
pub record Faulty (sections : List ℕ) (k index : ℕ) : Type 0 where
  pub bad : sections_bad sections k ≡ true
  pub index_is : bad_section_of sections k ≡ index

-- no fault 8, and all is found
pub record Good (sections : List ℕ) (k : ℕ) (found : Found) : Type 0 where
  pub good : sections_bad sections k ≡ false
  pub all : AllFound sections found.starts found.views k

abbrev pub Looked : List ℕ → ℕ → Result Found ℕ → Type 0
Looked sections k looked = MatchResult looked (Good sections k) (Faulty sections k)
