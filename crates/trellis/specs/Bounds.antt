-- The bounds of documents 01 and 02, each named once. The code has them as the constants of this crate (src/lib.rt); its promises, which
-- speak of these definitions, hold only because the two agree.
use Rattle.std.specs.Prelude.{ℕ}

-- q is 2 to 4
abbrev pub least_q : ℕ
least_q = 2

abbrev pub most_q : ℕ
most_q = 4

-- n is 1 to 8
abbrev pub most_symbols : ℕ
most_symbols = 8

-- S is 1 to 16, by document 02's request 2; document 01 had 64
abbrev pub most_states : ℕ
most_states = 16

-- W is 1 to 1,024, and so is every vertex count and step's edge count of a usable section
abbrev pub most_words : ℕ
most_words = 1024

-- K is 1 to 16
abbrev pub most_sections : ℕ
most_sections = 16

-- B is 1 to 256
abbrev pub most_blocks : ℕ
most_blocks = 256

-- the paths that are listed at most are 1 to 16, by document 02's request 6
abbrev pub most_paths : ℕ
most_paths = 16

-- generator rows have 0 to 4 state bits on each side, and there are 1 to 10 of them, by document 02's request 7
abbrev pub most_state_bits : ℕ
most_state_bits = 4

abbrev pub most_rows : ℕ
most_rows = 10

-- the cost table has a place for each state below this bound, block after block
abbrev pub costs_a_block : ℕ
costs_a_block = most_states

-- input longer than 65,535 bytes is not read as a table
abbrev pub most_bytes : ℕ
most_bytes = 65535
