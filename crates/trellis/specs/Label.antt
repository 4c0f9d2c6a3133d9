-- Labels: n symbols packed at two bits each, the first symbol highest. So a label is a number below 4 ^ n, and its symbols are its base-4
-- digits. Everything here is for general n. Symbols are counted from 0: symbol t stands between depth t and depth t + 1.
use Rattle.std.specs.Prelude.{Bool, true, ◌&&◌, ℕ, zero, suc, ◌+◌, ◌-◌, ◌*◌, ◌/◌, ◌%◌, ◌^◌, ltb}

-- symbol t of a label of n symbols
unfoldable pub symbol : ℕ → ℕ → ℕ → ℕ
symbol n t x = x / 4 ^ (n - suc t) % 4

-- the first t symbols of a label of n symbols, as a label of t symbols
unfoldable pub front : ℕ → ℕ → ℕ → ℕ
front n t x = x / 4 ^ (n - t)

-- the symbols behind depth t, as a label of n - t symbols
unfoldable pub back : ℕ → ℕ → ℕ → ℕ
back n t x = x % 4 ^ (n - t)

-- the first t symbols of x, followed by the others of y
unfoldable pub spliced : ℕ → ℕ → ℕ → ℕ → ℕ
spliced n t x y = front n t x * 4 ^ (n - t) + back n t y

-- whether the last k symbols of x are all below q
unfoldable pub symbols_below : ℕ → ℕ → ℕ → Bool
symbols_below q zero x = true
symbols_below q (suc k) x = ltb (x % 4) q && symbols_below q k (x / 4)

-- whether x is a label of n symbols below q
unfoldable pub is_label : ℕ → ℕ → ℕ → Bool
is_label q n x = ltb x (4 ^ n) && symbols_below q n x
