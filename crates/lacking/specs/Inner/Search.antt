-- The first triple below w that passes a test, by i, then j, then k; and the witness that it stands for.
use Rattle.std.specs.Prelude.{◌≡◌, Bool, true, false, Option, Some, None, ℕ, ◌≤◌, ◌<◌}
use Rattle.trellis.specs.Witness as trellis
use Rattle.lacking.specs.declared.Triple.{Triple}

-- the witness at depth t
abbrev pub as_witness : ℕ → Option Triple → trellis.Witness
as_witness t (Some x) = trellis.found t x.i x.j x.k
as_witness t None = trellis.nothing

module _ (test : ℕ → ℕ → ℕ → Bool) (w : ℕ) where
  -- no triple with these i and j passes
  abbrev pub NoneAt : ℕ → ℕ → Type 0
  NoneAt i j = (k : ℕ) → k < w → test i j k ≡ false

  -- no triple with this i passes
  abbrev pub NoneFrom : ℕ → Type 0
  NoneFrom i = (j : ℕ) → j < w → NoneAt i j

  -- none with a smaller one
  pub record NoneBefore (i : ℕ) : Type 0 where
    pub le : i ≤ w
    pub none : (x : ℕ) → x < i → NoneFrom x

  -- k is the first that passes with i and j
  pub record PassesFirst (i j k : ℕ) : Type 0 where
    pub below : k < w
    pub none : (z : ℕ) → z < k → test i j z ≡ false
    pub passes : test i j k ≡ true

  -- the first that passes with i and j, or none does
  abbrev pub FirstWith : ℕ → ℕ → Option ℕ → Type 0
  FirstWith i j (Some k) = PassesFirst i j k
  FirstWith i j None = NoneAt i j

  pub record FirstAt (i j k : ℕ) : Type 0 where
    pub below : (i < w) × (j < w) × (k < w)
    pub passes : test i j k ≡ true
    pub first_i : (x : ℕ) → x < i → NoneFrom x
    pub first_j : (y : ℕ) → y < j → NoneAt i y
    pub first_k : (z : ℕ) → z < k → test i j z ≡ false

  abbrev pub FirstIn : Option Triple → Type 0
  FirstIn (Some x) = FirstAt x.i x.j x.k
  FirstIn None = NoneBefore w
