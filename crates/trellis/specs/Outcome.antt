-- Document 01's outcomes: a number and the numbers returned with it, one line of its table after another.
-- Each answer of the kit is an enum; a definition beside it takes each of its cases to one of these.
use Rattle.std.specs.Prelude.{List, [], ◌∷◌, ℕ}

pub record Outcome : Type 0 where
  pub number : ℕ
  pub values : List ℕ

abbrev pub outcome : ℕ → List ℕ → Outcome
outcome k vs = record { number = k; values = vs }

-- the section's length for merging, the file's length for reading back, the distance for decoding, the number of paths for listing them
abbrev pub success : ℕ → Outcome
success value = outcome 0 (value ∷ [])

-- the file is under 5 bytes, or not 5 + 4W
abbrev pub bad_length : ℕ → Outcome
bad_length file_length = outcome 1 (file_length ∷ [])

-- q, n, S or W (0 to 3) is outside its bounds
abbrev pub bad_size : ℕ → Outcome
bad_size place = outcome 2 (place ∷ [])

-- a word has a state not below S, a label not below 4^n, or a symbol not below q
abbrev pub bad_word : ℕ → Outcome
bad_word index = outcome 3 (index ∷ [])

-- a word is not above the word before it
abbrev pub not_above : ℕ → Outcome
not_above index = outcome 4 (index ∷ [])

-- the map buffer is shorter than W·(n+1)
abbrev pub short_map : ℕ → Outcome
short_map needed = outcome 5 (needed ∷ [])

-- the table is not rectangular at a depth, where words i, j, k force a missing one
abbrev pub not_rectangular : ℕ → ℕ → ℕ → ℕ → Outcome
not_rectangular depth i j k = outcome 6 (depth ∷ i ∷ j ∷ k ∷ [])

-- the section buffer is shorter than the section
abbrev pub short_section : ℕ → Outcome
short_section needed = outcome 7 (needed ∷ [])

-- K is outside its bounds, or a section is not usable, or numbers are left over
abbrev pub bad_section : ℕ → Outcome
bad_section index = outcome 8 (index ∷ [])

-- a length, a state or a block of the frame is at fault
abbrev pub bad_block : ℕ → Outcome
bad_block block = outcome 9 (block ∷ [])

-- a buffer is too short
abbrev pub short_buffer : ℕ → Outcome
short_buffer needed = outcome 10 (needed ∷ [])

-- the chain has no path
abbrev pub no_path : Outcome
no_path = outcome 11 []

-- reading back finds over 1,024 words
abbrev pub too_many_words : Outcome
too_many_words = outcome 12 []

-- by document 02's request 6: the number of paths to be listed is outside its bounds
abbrev pub bad_path_count : ℕ → Outcome
bad_path_count paths = outcome 13 (paths ∷ [])

-- by document 02's request 7: the generator rows are at fault, with their count where a size is outside its bounds, else with the first row
-- that has bits above its width
abbrev pub bad_rows : ℕ → Outcome
bad_rows count_or_row = outcome 14 (count_or_row ∷ [])

-- by document 02's request 7: a generator row is a sum of earlier ones
abbrev pub dependent_row : ℕ → Outcome
dependent_row row = outcome 15 (row ∷ [])
