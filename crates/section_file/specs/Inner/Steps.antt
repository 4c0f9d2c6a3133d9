-- The conditions of usable as the code checks them: over functions, since the code reads states from places that it computes, and each
-- state against the one before it only; and all that usable asks of one step. The proofs show that these are the conditions of usable.
use Rattle.std.specs.Prelude.{Bool, true, ◌&&◌, not, ◌||◌, List, ℕ, zero, suc, ◌+◌, ltb}
use Rattle.trellis.specs.Layout.{n_of}
use Rattle.section_file.specs.Usable.{edges_inside, edges_ascend, onward, inward, no_twins_reached, no_twins_leading}

-- vertex v has a higher state than the vertex before it
unfoldable pub higher : (ℕ → ℕ) → ℕ → Bool
higher f zero = true
higher f (suc v) = ltb (f v) (f (suc v))

-- and one below a bound
unfoldable pub state_right : (ℕ → ℕ) → ℕ → ℕ → Bool
state_right f bound v = higher f v && ltb (f v) bound

-- all that usable asks of one step, where depth t + 1 is inner for t + 1 below n and depth t for t above 0
unfoldable pub step_right : List ℕ → ℕ → Bool
step_right l t =
    edges_inside l t
    && (edges_ascend l t
    && (onward l t
    && (inward l t
    && ((not (ltb (t + 1) (n_of l)) || no_twins_reached l t)
    && (not (ltb 0 t) || no_twins_leading l t)))))
