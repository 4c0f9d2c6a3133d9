-- Check 10, for any number of buffers: the length that the first short one needs, in the order in which they are asked for; 0 where none is
-- short.
use Rattle.std.specs.Prelude.{cond, Option, Some, None, List, [], ◌∷◌, ℕ, ◌*◌, ltb}
use Rattle.trellis.specs.Bounds.{costs_a_block}

-- one buffer, of which so much is there and so much is needed, before what follows
unfoldable pub short_of : ℕ → ℕ → ℕ → ℕ
short_of there needed follows = cond (ltb there needed) needed follows

-- buffers one after another
abbrev pub needed_by : List (ℕ × ℕ) → ℕ
needed_by [] = 0
needed_by (buffer ∷ l) = short_of buffer.0 buffer.1 (needed_by l)

-- the length that is needed, or none where it is 0
abbrev pub if_any : ℕ → Option ℕ
if_any needed = cond (ltb 0 needed) (Some needed) None

-- the cost table, the labels, the goals and the masks
unfoldable pub needed_to_decode : ℕ → ℕ → ℕ → ℕ → ℕ → ℕ
needed_to_decode blocks costs labels goals masks =
    short_of costs (costs_a_block * blocks) (short_of labels blocks (short_of goals blocks (short_of masks blocks 0)))

-- the cost table, the distances, the labels and the goals
unfoldable pub needed_to_list : ℕ → ℕ → ℕ → ℕ → ℕ → ℕ → ℕ
needed_to_list blocks paths costs distances labels goals =
    short_of costs (costs_a_block * blocks)
    (short_of distances paths (short_of labels (paths * blocks) (short_of goals (paths * blocks) 0)))
