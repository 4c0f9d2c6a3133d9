-- A buffer with a list in front: each place is known, and a buffer that agrees with both is that one. A buffer written place by place.
use mathlib.Core.Path.{◌≡◌, sym, ap, subst, ◌∙◌}
use mathlib.Core.List.{List}
use Prim.Native.Nat.{ℕ, ◌+◌, ◌-◌, ◌≤◌, ◌<◌}
use native.Mathlib.Omega.{arith}
use native.Mathlib.Decide.{dec_lt, ℕ_discrete}
use lib.ListN.{length, get_or, drop, set, length-append, length-drop, get_or-append}
use lib.Seq.{ext_get_or, get_or-append-add, get_or-drop, get_or-set_same, get_or-set_other}
use Rattle.trellis.specs.Lists.{over}

pub over_front : (vs l : List ℕ) (j : ℕ) → j < length vs → get_or (over vs l) j 0 ≡ get_or vs j 0
over_front vs l j h = get_or-append vs (drop (length vs) l) 0 j h

over_behind : (vs l : List ℕ) (j : ℕ) → length vs ≤ j → get_or (over vs l) j 0 ≡ get_or l j 0
over_behind vs l j h =
    let e : j ≡ length vs + (j - length vs) = omega arith in
    ap (λ k. get_or (over vs l) k 0) e ∙ get_or-append-add vs (drop (length vs) l) (j - length vs) 0 ∙ get_or-drop (length vs) l (j - length vs) 0
    ∙ ap (λ k. get_or l k 0) (sym e)

pub over_length : (vs l : List ℕ) → length vs ≤ length l → length (over vs l) ≡ length l
over_length vs l h = omega (arith, length-append vs (drop (length vs) l), length-drop (length vs) l)

-- a buffer is vs over another one if it agrees with both
pub over_is : (vs l new : List ℕ) → length vs ≤ length l → length new ≡ length l → ((j : ℕ) → j < length vs → get_or new j 0 ≡ get_or vs j 0)
    → ((j : ℕ) → length vs ≤ j → get_or new j 0 ≡ get_or l j 0) → new ≡ over vs l
over_is vs l new h e front behind = ext_get_or 0 new (over vs l) (e ∙ sym (over_length vs l h)) (λ j k. go j (dec_lt j (length vs)))
  where
    go : (j : ℕ) → Dec (j < length vs) → get_or new j 0 ≡ get_or (over vs l) j 0
    go j (yes q) = front j q ∙ sym (over_front vs l j q)
    go j (no q) = behind j (omega arith) ∙ sym (over_behind vs l j (omega arith))

-- buffers that agree beyond a front are alike under it
pub over_same : (vs l k : List ℕ) → length vs ≤ length l → length k ≡ length l → ((j : ℕ) → length vs ≤ j → get_or k j 0 ≡ get_or l j 0)
    → over vs k ≡ over vs l
over_same vs l k h e behind =
    over_is vs l (over vs k) h (over_length vs k (omega arith) ∙ e) (λ j q. over_front vs k j q) (λ j q. over_behind vs k j q ∙ behind j q)

-- a buffer written from the front on, one place more
pub put_more : (P : ℕ → ℕ → Type 0) (l : List ℕ) (g x : ℕ) → g < length l → P g x → ((u : ℕ) → u < g → P u (get_or l u 0))
    → (u : ℕ) → u < g + 1 → P u (get_or (set l g x) u 0)
put_more P l g x h here before u k = go (ℕ_discrete u g)
  where
    go : Dec (u ≡ g) → P u (get_or (set l g x) u 0)
    go (yes e) = subst (λ w. P w (get_or (set l g x) w 0)) (sym e) (subst (P g) (sym (get_or-set_same l g x 0 h)) here)
    go (no e) = subst (P u) (sym (get_or-set_other l g u x 0 e)) (before u (omega arith))
