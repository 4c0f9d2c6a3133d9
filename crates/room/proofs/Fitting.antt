-- Where nothing is needed no buffer is short: the first of them would be named, and a buffer that is asked for anything needs some length.
-- So each is long enough in its turn, and nothing is needed of those behind it.
use mathlib.Core.Path.{◌≡◌, refl, ap, ◌∙◌}
use mathlib.Core.List.{List, [], ◌∷◌}
use Prim.Native.Nat.{ℕ, ◌*◌, ◌≤◌, ◌<◌}
use native.Mathlib.Nat.{le_trans, mul-pos, mul-le-mul_left, mul-le-mul_right}
use native.Mathlib.Decide.{dec_lt}
use native.Mathlib.Omega.{arith}
use lib.ListN.{length}
use borrow.Author.Tests.{lt-ltb, le-ltb}
use Rattle.trellis.specs.Bounds.{most_paths, most_blocks}
use Rattle.std.specs.Prelude.{Option, Some, None, find, nat_lt, option_map}
use Rattle.room.specs.Room.{short_of, needed_by, if_any, needed_to_decode, needed_to_list}
use Rattle.room.specs.Inner.Fitting.{RoomToDecode, Few, RoomToList}

-- a path has few words, and few paths have few
pub words_few : (paths blocks : ℕ) → paths ≤ most_paths → blocks ≤ most_blocks → paths * blocks ≤ most_paths * most_blocks
words_few paths blocks p b = le_trans (mul-le-mul_right blocks p) (mul-le-mul_left most_paths b)

pub short_of_lem : (there needed follows : ℕ) → there < needed → needed ≡ short_of there needed follows
unfolding short_of
short_of_lem there needed follows h = simp (lt-ltb there needed h)

pub long_enough : (there needed follows : ℕ) → needed ≤ there → follows ≡ short_of there needed follows
unfolding short_of
long_enough there needed follows h = simp (le-ltb there needed h)

-- what the first short buffer needs is what is needed of all; and a short buffer needs something
needed_is : (l : List (ℕ × ℕ)) → option_map (λ buffer. buffer.1) (find (λ buffer. nat_lt buffer.0 buffer.1) l) ≡ if_any (needed_by l)
unfolding short_of
needed_is [] = refl
needed_is (buffer ∷ l) = go (dec_lt buffer.0 buffer.1) (needed_is l)
  where
    go : Dec (buffer.0 < buffer.1) → option_map (λ b. b.1) (find (λ b. nat_lt b.0 b.1) l) ≡ if_any (needed_by l)
        → option_map (λ b. b.1) (find (λ b. nat_lt b.0 b.1) (buffer ∷ l)) ≡ if_any (short_of buffer.0 buffer.1 (needed_by l))
    go (yes h) e = simp (lt-ltb buffer.0 buffer.1 h, lt-ltb 0 buffer.1 (omega arith))
    go (no h) e = simp (le-ltb buffer.0 buffer.1 (omega arith)) e

pub needed_of : (l : List (ℕ × ℕ)) {found : Option (ℕ × ℕ)} → found ≡ find (λ buffer. nat_lt buffer.0 buffer.1) l
    → option_map (λ buffer. buffer.1) found ≡ if_any (needed_by l)
needed_of l e = ap (option_map (λ buffer. buffer.1)) e ∙ needed_is l

-- what a length that is needed is, and that none is
pub some_needed : {m : ℕ} (n : ℕ) → Some m ≡ if_any n → (m ≡ n) × (0 < m)
some_needed {m} n e = go (dec_lt 0 n)
  where
    go : Dec (0 < n) → (m ≡ n) × (0 < m)
    go (yes h) = let k : Some m ≡ Some n = e ∙ simp (lt-ltb 0 n h) in let q : m ≡ n = cc in (q, omega arith)
    go (no h) = let k : Some m ≡ None = e ∙ simp (le-ltb 0 n (omega arith)) in cc

none_needed : (n : ℕ) → None ≡ if_any n → n ≤ 0
none_needed n e = go (dec_lt 0 n)
  where
    go : Dec (0 < n) → n ≤ 0
    go (yes h) = let k : None ≡ Some n = e ∙ simp (lt-ltb 0 n h) in cc
    go (no h) = omega arith

-- one buffer is long enough, and those behind it need nothing
record Fits (there needed follows : ℕ) : Type 0 where
  here : needed ≤ there
  behind : follows ≤ 0

fits : (there needed follows : ℕ) → 0 < needed → short_of there needed follows ≤ 0 → Fits there needed follows
fits there needed follows some h = go (dec_lt there needed)
  where
    go : Dec (there < needed) → Fits there needed follows
    go (yes s) = let e = short_of_lem there needed follows s in absurd (omega arith)
    go (no l) =
        let e = long_enough there needed follows (omega arith) in
        record { here = omega arith; behind = omega arith }

pub room_to_decode : {indices costs labels goals masks : List ℕ} → 0 < length indices
    → None ≡ if_any (needed_to_decode (length indices) (length costs) (length labels) (length goals) (length masks))
    → RoomToDecode indices costs labels goals masks
unfolding needed_to_decode
room_to_decode {indices} {costs} {labels} {goals} {masks} pos e =
    let none = none_needed _ e in
    let c = fits _ _ _ (omega arith) none in
    let l = fits _ _ _ pos c.behind in
    let g = fits _ _ _ pos l.behind in
    let m = fits _ _ _ pos g.behind in
    record { none_short = none; for_costs = c.here; for_labels = l.here; for_goals = g.here; for_masks = m.here }

pub room_to_list : {indices costs distances labels goals : List ℕ} {paths : ℕ} → 0 < length indices → Few paths
    → None ≡ if_any (needed_to_list (length indices) paths (length costs) (length distances) (length labels) (length goals))
    → RoomToList indices paths costs distances labels goals
unfolding needed_to_list
room_to_list pos W e =
    let none = none_needed _ e in
    let some_words = mul-pos W.some pos in
    let c = fits _ _ _ (omega arith) none in
    let d = fits _ _ _ W.some c.behind in
    let l = fits _ _ _ some_words d.behind in
    let g = fits _ _ _ some_words l.behind in
    record { none_short = none; for_costs = c.here; for_distances = d.here; for_labels = l.here; for_goals = g.here }
