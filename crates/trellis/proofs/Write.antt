-- Laws of writing into a lent buffer: pieces written one behind another are one piece, and what is written from the front on is followed by
-- what stood behind it. Each follows along the piece.
use mathlib.Core.Path.{◌≡◌, refl, sym, ◌∙◌, ap, subst}
use mathlib.Core.List.{List, [], ◌∷◌, ◌++◌}
use Prim.Native.Nat.{ℕ, zero, suc, ◌+◌, ◌-◌, ◌<◌, ◌≤◌}
use native.Mathlib.Nat.{add-zero, add-suc, suc-add, add_assoc, zero-add}
use native.Mathlib.Omega.{arith}
use native.Mathlib.Decide.{dec_lt}
use lib.ListN.{length, get_or, drop, set, length-set, length-append}
use lib.Seq.{ext_get_or, sets, length-sets, sets-eq, get_or-set_same, get_or-set_other}
use Rattle.trellis.specs.Inner.Write.{Wrote}

sets_append : (us vs l : List ℕ) (i : ℕ) → sets (sets l i us) (i + length us) vs ≡ sets l i (us ++ vs)
sets_append [] vs l i = rw (add-zero i)
sets_append (u ∷ us) vs l i = rw (add-suc i (length us), ← suc-add i (length us)) (sets_append us vs (set l i u) (suc i))

pub wrote_none : {l : List ℕ} {at : ℕ} → Wrote l at [] l at
wrote_none {l} {at} = record { new_is = refl; end_is = sym (add-zero at) }

pub wrote_then : {a b c us vs : List ℕ} {at m e : ℕ} → Wrote a at us b m → Wrote b m vs c e → Wrote a at (us ++ vs) c e
wrote_then {a} {b} {c} {us} {vs} {at} {m} {e} p q = record {
  new_is = q.new_is ∙ rw (p.new_is, p.end_is) (sets_append us vs a at);
  end_is = q.end_is ∙ rw (p.end_is, length-append us vs, add_assoc at (length us) (length vs));
}

pub wrote_one : {a b us : List ℕ} {at m : ℕ} (v : ℕ) → Wrote a at us b m → Wrote a at (us ++ (v ∷ [])) (set b m v) (m + 1)
wrote_one {a} {b} {us} {at} {m} v p = wrote_then p (record { new_is = refl; end_is = refl })

pub wrote_length : {a b us : List ℕ} {at m : ℕ} → Wrote a at us b m → length b ≡ length a
wrote_length {a} {b} {us} {at} {m} p = ap length p.new_is ∙ length-sets a at us

-- from the front on
pub wrote_front : {a b us : List ℕ} {m : ℕ} → Wrote a 0 us b m → length us ≤ length a → b ≡ us ++ drop (length us) a
wrote_front {a} {b} {us} {m} p h = p.new_is ∙ sets-eq us a 0 (rw (zero-add (length us)) h) ∙ rw (zero-add (length us))

-- what stands at a place afterwards
sets_before : (vs l : List ℕ) (i j : ℕ) → j < i → get_or (sets l i vs) j 0 ≡ get_or l j 0
sets_before [] l i j h = refl
sets_before (v ∷ vs) l i j h = sets_before vs (set l i v) (suc i) j (omega arith) ∙ get_or-set_other l i j v 0 (λ e. omega arith)

sets_at : (vs l : List ℕ) (i k : ℕ) → k < length vs → i + length vs ≤ length l → get_or (sets l i vs) (i + k) 0 ≡ get_or vs k 0
sets_at [] l i k h r = absurd (omega arith)
sets_at (v ∷ vs) l i zero h r = rw (add-zero i) (sets_before vs (set l i v) (suc i) i (omega arith) ∙ get_or-set_same l i v 0 (omega arith))
sets_at (v ∷ vs) l i (suc k) h r =
    rw (add-suc i k, ← suc-add i k) (sets_at vs (set l i v) (suc i) k (omega arith) (rw (length-set l i v) (omega arith)))

pub wrote_before : {a b us : List ℕ} {at m : ℕ} → Wrote a at us b m → (j : ℕ) → j < at → get_or b j 0 ≡ get_or a j 0
wrote_before {a} {b} {us} {at} {m} p j h = ap (λ l. get_or l j 0) p.new_is ∙ sets_before us a at j h

pub wrote_at : {a b us : List ℕ} {at m : ℕ} → Wrote a at us b m → at + length us ≤ length a → (k : ℕ) → k < length us
    → get_or b (at + k) 0 ≡ get_or us k 0
wrote_at {a} {b} {us} {at} {m} p r k h = ap (λ l. get_or l (at + k) 0) p.new_is ∙ sets_at us a at k h r

sets_behind : (vs l : List ℕ) (i j : ℕ) → i + length vs ≤ j → get_or (sets l i vs) j 0 ≡ get_or l j 0
sets_behind [] l i j h = refl
sets_behind (v ∷ vs) l i j h = sets_behind vs (set l i v) (suc i) j (omega arith) ∙ get_or-set_other l i j v 0 (λ e. omega arith)

pub wrote_behind : {a b us : List ℕ} {at m : ℕ} → Wrote a at us b m → (j : ℕ) → at + length us ≤ j → get_or b j 0 ≡ get_or a j 0
wrote_behind {a} {b} {us} {at} {m} p j h = ap (λ l. get_or l j 0) p.new_is ∙ sets_behind us a at j h

-- a buffer has vs written if it has them, and agrees elsewhere
pub wrote_is : {old vs new : List ℕ} {at : ℕ} → at + length vs ≤ length old → length new ≡ length old
    → ((i : ℕ) → i < at → get_or new i 0 ≡ get_or old i 0) → ((k : ℕ) → k < length vs → get_or new (at + k) 0 ≡ get_or vs k 0)
    → ((i : ℕ) → at + length vs ≤ i → get_or new i 0 ≡ get_or old i 0) → Wrote old at vs new (at + length vs)
wrote_is {old} {vs} {new} {at} room len before here behind = record {
  new_is = ext_get_or 0 new (sets old at vs) (len ∙ sym (length-sets old at vs)) (λ i h. go i (dec_lt i at) (dec_lt i (at + length vs)));
  end_is = refl;
}
  where
    written : Wrote old at vs (sets old at vs) (at + length vs)
    written = record { new_is = refl; end_is = refl }

    go : (i : ℕ) → Dec (i < at) → Dec (i < at + length vs) → get_or new i 0 ≡ get_or (sets old at vs) i 0
    go i (yes h) k = before i h ∙ sym (wrote_before written i h)
    go i (no h) (yes k) =
        let e : at + (i - at) ≡ i = omega arith in
        subst (λ m. get_or new m 0 ≡ get_or (sets old at vs) m 0) e
        (here (i - at) (omega arith) ∙ sym (wrote_at written room (i - at) (omega arith)))
    go i (no h) (no k) = behind i (omega arith) ∙ sym (wrote_behind written i (omega arith))
