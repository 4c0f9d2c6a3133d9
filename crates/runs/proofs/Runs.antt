-- Runs of a table cut at one depth. A run is an interval, since beginnings rise with the words; within a run endings rise.
-- So where each word of run a has its ending in run b too, the words of b with these endings stand in the order of a's words, word m of a
-- has its ending at word m of b or behind it, and b is at least as long as a.
use mathlib.Core.Path.{◌≡◌, refl, sym, ap, ◌∙◌}
use Prim.Native.Nat.{ℕ, zero, suc, ◌+◌, ◌-◌, ◌≤◌, ◌<◌}
use native.Mathlib.Omega.{arith}
use native.Mathlib.Decide.{ℕ_discrete, dec_lt}
use lib.Dec.{T, eqb, eqb→eq, ltb, ltb→lt, lt→ltb}
use Rattle.trellis.proofs.Bools.{both, join, eqb_of}
use Rattle.runs.specs.Inner.Runs.{first_like, Cut, Shared, In, goes_on}
use Rattle.runs.proofs.FirstLike.{like_le, like_is, like_least, like_eq}

module _ {W : ℕ} {beginning ending : ℕ → ℕ} (C : Cut W beginning ending) where
  abbrev start : ℕ → ℕ
  start i = first_like beginning i

  pub between : (a x l : ℕ) → a ≤ x → x ≤ l → In W beginning a l → In W beginning a x
  between a x l h k u =
      let p = C.rises a x h (omega (arith, u.inside)) in
      let q = C.rises x l k u.inside in
      record { inside = omega (arith, u.inside); begins = omega (arith, u.begins) }

  pub own_run : (i : ℕ) → i < W → In W beginning (start i) i
  own_run i h = record { inside = h; begins = sym (like_is beginning i) }

  start_first : (a x : ℕ) → start a ≡ a → In W beginning a x → a ≤ x
  start_first a x s u = let h = like_least beginning a x u.begins in omega arith

  pub start_mono : (i j : ℕ) → i ≤ j → j < W → start i ≤ start j
  start_mono i j h l = go (dec_lt (start j) (start i))
    where
      go : Dec (start j < start i) → start i ≤ start j
      go (no d) = omega arith
      go (yes d) = like_least beginning i (start j)
          (sym (between (start j) i j (omega (arith, like_le beginning i)) h (own_run j l)).begins)

  -- two words of one run, and two of another with their endings, stand in one order
  pub same_order : {a b x z k l : ℕ} → In W beginning a x → In W beginning a z → In W beginning b k → In W beginning b l
      → ending k ≡ ending x → ending l ≡ ending z → x < z → k < l
  same_order {a} {b} {x} {z} {k} {l} p q r s u v h = go (dec_lt k l) (ℕ_discrete k l)
    where
      rise : ending x < ending z
      rise = C.within x z h q.inside (p.begins ∙ sym q.begins)

      go : Dec (k < l) → Dec (k ≡ l) → k < l
      go (yes d) f = d
      go (no d) (yes f) = let w = ap ending f in let g = rise in absurd (omega arith)
      go (no d) (no f) = let w = C.within l k (omega arith) r.inside (s.begins ∙ sym r.begins) in let g = rise in
          absurd (omega arith)

  -- ---- the next word of a run

  pub on_in : (a x : ℕ) → In W beginning a x → T (goes_on W start x) → In W beginning a (x + 1)
  on_in a x u t =
      let p = both (ltb (x + 1) W) (eqb (start (x + 1)) (start x)) t in
      let e = eqb→eq (start (x + 1)) (start x) p.1 in
      record {
        inside = ltb→lt (x + 1) W p.0;
        begins = sym (like_is beginning (x + 1)) ∙ ap beginning e ∙ like_is beginning x
            ∙ u.begins;
      }

  pub in_on : (a x : ℕ) → In W beginning a x → In W beginning a (x + 1) → T (goes_on W start x)
  in_on a x u v = join (ltb (x + 1) W) (eqb (start (x + 1)) (start x))
      (lt→ltb (x + 1) W v.inside) (eqb_of (like_eq beginning (x + 1) x (v.begins ∙ sym u.begins)))

  -- ---- runs a and b, where each word of a has its ending in b too

  module _ (a b : ℕ) (sb : start b ≡ b) (matches : (x : ℕ) → In W beginning a x → Shared W beginning ending b x) where
    pub match_in : (x : ℕ) (u : In W beginning a x) → In W beginning b (matches x u).at
    match_in x u = record { inside = (matches x u).inside; begins = (matches x u).begins }

    -- the word of b with the ending of a's word m is b's word m or behind it
    pub not_sooner : (m x y l : ℕ) → x ≡ a + m → y ≡ b + m → In W beginning a x → In W beginning b l → ending l ≡ ending x → y ≤ l
    not_sooner zero x y l p q u v e = let s = start_first b l sb v in omega arith
    not_sooner (suc m) x y l p q u v e =
        let w = between a (x - 1) x (omega arith) (omega arith) u in
        let k = matches (x - 1) w in
        let r = not_sooner m (x - 1) (y - 1) k.at (omega arith) (omega arith) w (match_in (x - 1) w) k.ends in
        let z = same_order w u (match_in (x - 1) w) v k.ends e (omega arith) in
        omega arith

    pub as_long : (m : ℕ) → In W beginning a (a + m) → In W beginning b (b + m)
    as_long m u =
        let k = matches (a + m) u in
        let v = match_in (a + m) u in
        between b (b + m) k.at (omega arith) (not_sooner m (a + m) (b + m) k.at refl refl u v k.ends) v
