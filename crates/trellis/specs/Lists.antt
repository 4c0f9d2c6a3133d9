-- Lists as the other definitions use them: membership, lists without repeats, ascending lists, places and counts.
-- Everything here computes.
use Rattle.std.specs.Prelude.{◌≡◌, Bool, true, false, cond, ◌||◌, ◌&&◌, ℕ, zero, suc, ◌+◌, ◌<◌, leb, ltb, eqb, length, drop, Option, Some, None}
use mathlib.Core.List.{List, [], ◌∷◌, ◌++◌, Memᴰ}

-- x stands in the list: the library's membership under a shorter name
infix 50 ◌∈◌
abbrev pub ◌∈◌ {ℓ} : {A : Type ℓ} → A → List A → Type ℓ
x ∈ l = Memᴰ x l

-- no element of the list stands there twice
abbrev pub Once {ℓ} : {A : Type ℓ} → List A → Type ℓ
Once [] = Unit
Once (x ∷ l) = (x ∈ l → ⊥) × Once l

abbrev pub one_if : Bool → ℕ
one_if true = 1
one_if false = 0

-- f at, f (at + 1), .. and so on, count of them
unfoldable pub run {ℓ} : {A : Type ℓ} → (ℕ → A) → ℕ → ℕ → List A
run f at zero = []
run f at (suc count) = f at ∷ run f (suc at) count

-- f 0, f 1, .. f (count - 1)
abbrev pub each {ℓ} : {A : Type ℓ} → (ℕ → A) → ℕ → List A
each f count = run f 0 count

-- the sum of f over the numbers at, at + 1, .. and so on, count of them
unfoldable pub sum : (ℕ → ℕ) → ℕ → ℕ → ℕ
sum f at zero = 0
sum f at (suc count) = f at + sum f (suc at) count

-- the first number below m that passes the test, or m where none does
unfoldable pub first : (ℕ → Bool) → ℕ → ℕ
first test zero = 0
first test (suc m) = cond (test 0) 0 (suc (first (λ i. test (suc i)) m))

-- what a search below m came to: the number, or none where it came to m
abbrev pub found_below : ℕ → ℕ → Option ℕ
found_below m i = cond (ltb i m) (Some i) None

-- the test passes at every number below count, at some number below count
unfoldable pub all : (ℕ → Bool) → ℕ → Bool
all test zero = true
all test (suc count) = all test count && test count

unfoldable pub any : (ℕ → Bool) → ℕ → Bool
any test zero = false
any test (suc count) = any test count || test count

-- x is from low to high
unfoldable pub within : ℕ → ℕ → ℕ → Bool
within low high x = leb low x && leb x high

-- a buffer with vs in front; places beyond are unchanged
abbrev pub over : List ℕ → List ℕ → List ℕ
over vs buffer = vs ++ drop (length vs) buffer

-- whether x stands in the list, where eq tells elements apart
unfoldable pub is_in {ℓ} : {A : Type ℓ} → (A → A → Bool) → A → List A → Bool
is_in eq x [] = false
is_in eq x (y ∷ l) = eq x y || is_in eq x l

-- the elements that pass a test, in their order
unfoldable pub keep {ℓ} : {A : Type ℓ} → (A → Bool) → List A → List A
keep test [] = []
keep test (x ∷ l) = cond (test x) (x ∷ keep test l) (keep test l)

-- how many numbers of the list are below s
unfoldable pub rank : ℕ → List ℕ → ℕ
rank s [] = 0
rank s (x ∷ l) = one_if (ltb x s) + rank s l

-- ---- ascending lists

abbrev pub placed {ℓ} : {A : Type ℓ} → Bool → Bool → A → A → List A → List A → List A
placed true b x y l rest = x ∷ y ∷ l
placed false true x y l rest = y ∷ rest
placed false false x y l rest = y ∷ l

-- x put into an ascending list at its place, unless it is there
unfoldable pub insert {ℓ} : {A : Type ℓ} → (A → A → Bool) → A → List A → List A
insert less x [] = x ∷ []
insert less x (y ∷ l) = placed (less x y) (less y x) x y l (insert less x l)

-- the elements of a list in ascending order, each of them once
unfoldable pub ascending {ℓ} : {A : Type ℓ} → (A → A → Bool) → List A → List A
ascending less [] = []
ascending less (x ∷ l) = insert less x (ascending less l)

-- ---- three numbers, compared by the first, then the second, then the third

pub data Lower (a b c x y z : ℕ) : Type 0 where
  by_first : a < x → Lower a b c x y z
  by_second : a ≡ x → b < y → Lower a b c x y z
  by_third : a ≡ x → b ≡ y → c < z → Lower a b c x y z

unfoldable pub lower : ℕ → ℕ → ℕ → ℕ → ℕ → ℕ → Bool
lower a b c x y z = ltb a x || (eqb a x && (ltb b y || (eqb b y && ltb c z)))

-- whether they are the same three numbers
unfoldable pub alike : ℕ → ℕ → ℕ → ℕ → ℕ → ℕ → Bool
alike a b c x y z = eqb a x && (eqb b y && eqb c z)
