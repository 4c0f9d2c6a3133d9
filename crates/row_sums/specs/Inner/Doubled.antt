-- Rows of numbers that are doubled.
use Rattle.std.specs.Prelude.{◌≡◌, List, ℕ, ◌+◌, ◌≤◌, ◌<◌, length, get_or}
use Rattle.rows.specs.Sums.{◌⊕◌}

-- behind the w numbers from place on stand the first m of them with c added; all else is as before
pub record Doubled (place w c : ℕ) (old : List ℕ) (m : ℕ) (new : List ℕ) : Type 0 where
  pub len : length new ≡ length old
  pub done : (j : ℕ) → j < m → get_or new (place + w + j) 0 ≡ c ⊕ get_or old (place + j) 0
  pub front : (i : ℕ) → i < place + w → get_or new i 0 ≡ get_or old i 0
  pub behind : (i : ℕ) → place + w + m ≤ i → get_or new i 0 ≡ get_or old i 0
