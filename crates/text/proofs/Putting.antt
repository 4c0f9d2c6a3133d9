-- Bytes put behind others, piece by piece, are the pieces joined: what the room cuts off once stays cut off.
use mathlib.Core.Path.{◌≡◌, refl, sym, ◌∙◌, ap, subst}
use mathlib.Core.List.{List, [], ◌∷◌, ◌++◌, append-nil, append_assoc, flat_map}
use Prim.Native.Nat.{ℕ, zero, suc, ◌+◌, ◌<◌, ◌≤◌}
use native.Mathlib.Nat.{le_of_suc-le-suc, not-suc-le-zero}
use native.Mathlib.Omega.{arith}
use lib.ListN.{length, get_or, set, take, drop, length-set, length-drop, take-append-drop}
use lib.Seq.{take_all, take-suc, take-nil, take-append-le, take-length, length-take-le, get_or-drop, ext_get_or, get_or-set_other, take-suc-set}
use Rattle.trellis.proofs.Lists.{flat_map_append}
use Rattle.text.specs.Line.{spaced, line}
use Rattle.text.specs.Inner.Put.{Put}

cut_twice : (m : ℕ) (xs ys : List ℕ) → take m (take m xs ++ ys) ≡ take m (xs ++ ys)
cut_twice zero xs ys = refl
cut_twice (suc m) [] ys = refl
cut_twice (suc m) (x ∷ xs) ys = ap (λ r. x ∷ r) (cut_twice m xs ys)

take_short : (m at : ℕ) (l : List ℕ) → length l ≤ m → take m (take at l) ≡ take at l
take_short m zero l h = take-nil m
take_short m (suc at) [] h = take-nil m
take_short zero (suc at) (x ∷ l) h = absurd (omega arith)
take_short (suc m) (suc at) (x ∷ l) h = ap (λ r. x ∷ r) (take_short m at l (le_of_suc-le-suc h))

pub put_none : {old : List ℕ} {at : ℕ} → Put old at [] old at
put_none {old} {at} = record {
  len = refl;
  holds = sym (ap (take (length old)) (append-nil (take at old)) ∙ take_short (length old) at old (omega arith));
  grows = omega arith;
  inside = λ h. h;
  beyond = λ j h. refl;
}

pub put_then : {a b c us vs : List ℕ} {at m e : ℕ} → Put a at us b m → Put b m vs c e → Put a at (us ++ vs) c e
put_then {a} {b} {c} {us} {vs} {at} {m} {e} p q = record {
  len = q.len ∙ p.len;
  holds =
      q.holds ∙ ap (λ k. take k (take m b ++ vs)) p.len ∙ ap (λ r. take (length a) (r ++ vs)) p.holds
      ∙ cut_twice (length a) (take at a ++ us) vs ∙ ap (take (length a)) (append_assoc (take at a) us vs);
  grows = omega (arith, p.grows, q.grows);
  inside = λ h. subst (λ k. e ≤ k) p.len (q.inside (subst (λ k. m ≤ k) (sym p.len) (p.inside h)));
  beyond = λ j h. q.beyond j h ∙ p.beyond j (omega (arith, q.grows));
}

-- one byte, where there is room and where there is none
length_cut : (l : List ℕ) (at v : ℕ) → at < length l → length (take at l ++ (v ∷ [])) ≤ length l
length_cut [] at v h = absurd (not-suc-le-zero h)
length_cut (x ∷ l) zero v h = omega arith
length_cut (x ∷ l) (suc at) v h = let r : length (take at l ++ (v ∷ [])) ≤ length l = length_cut l at v (le_of_suc-le-suc h) in omega arith

pub put_one : (old : List ℕ) (at v : ℕ) → at < length old → Put old at (v ∷ []) (set old at v) (at + 1)
put_one old at v h = record {
  len = length-set old at v;
  holds =
      let e : at + 1 ≡ suc at = omega arith in
      ap (λ k. take k (set old at v)) e ∙ take-suc-set old at v h
      ∙ sym (take_all (length old) (take at old ++ (v ∷ [])) (length_cut old at v h));
  grows = omega arith;
  inside = λ g. omega arith;
  beyond = λ j g. get_or-set_other old at j v 0 (λ e. omega arith);
}

pub put_full : (old : List ℕ) (at v : ℕ) → length old ≤ at → Put old at (v ∷ []) old at
put_full old at v h = record {
  len = refl;
  holds =
      let e : take at old ≡ old = take_all at old h in
      let s : take (length old) (old ++ (v ∷ [])) ≡ take (length old) old = take-append-le (length old) old (v ∷ []) (omega arith) in
      e ∙ sym (ap (λ r. take (length old) (r ++ (v ∷ []))) e ∙ s ∙ take-length old);
  grows = omega arith;
  inside = λ g. g;
  beyond = λ j g. refl;
}

-- ---- pieces of one kind, one for each element of a list

pub record Pieces {A : Type 0} (piece : A → List ℕ) (old : List ℕ) (at : ℕ) (xs : List A) (now : List ℕ) (end i : ℕ) : Type 0 where
  pub i_le : i ≤ length xs
  pub put : Put old at (flat_map piece (take i xs)) now end

pub pieces_start : {A : Type 0} {piece : A → List ℕ} {old : List ℕ} {xs : List A} {at : ℕ} → Pieces piece old at xs old at 0
unfolding flat_map
pieces_start = record { i_le = omega arith; put = put_none }

pub pieces_next : {A : Type 0} (none : A) {piece : A → List ℕ} {old : List ℕ} {xs : List A} {now new : List ℕ} {at end far i : ℕ}
    → Pieces piece old at xs now end i → i < length xs → Put now end (piece (get_or xs i none)) new far
    → Pieces piece old at xs new far (i + 1)
unfolding flat_map
pieces_next none {piece} {old} {xs} {now} {new} {at} {end} {far} {i} P h p = record {
  i_le = omega arith;
  put = subst (λ r. Put old at r new far) same (put_then P.put p);
}
  where
    same : flat_map piece (take i xs) ++ piece (get_or xs i none) ≡ flat_map piece (take (i + 1) xs)
    same =
        let e : i + 1 ≡ suc i = omega arith in
        ap (λ r. flat_map piece (take i xs) ++ r) (sym (append-nil (piece (get_or xs i none))))
        ∙ sym (flat_map_append piece (take i xs) (get_or xs i none ∷ []))
        ∙ ap (flat_map piece) (sym (take-suc xs i none h))
        ∙ ap (λ k. flat_map piece (take k xs)) (sym e)

pub pieces_all : {A : Type 0} {piece : A → List ℕ} {old : List ℕ} {xs : List A} {now : List ℕ} {at end i : ℕ}
    → Pieces piece old at xs now end i → length xs ≤ i → Put old at (flat_map piece xs) now end
pieces_all {piece} {old} {xs} {now} {at} {end} {i} P h = subst (λ r. Put old at (flat_map piece r) now end) (take_all i xs h) P.put

-- bytes are pieces of one byte each
abbrev pub single : ℕ → List ℕ
single b = b ∷ []

singles : (l : List ℕ) → flat_map single l ≡ l
unfolding flat_map
singles [] = refl
singles (x ∷ l) = ap (λ r. x ∷ r) (singles l)

pub bytes_all : {old xs now : List ℕ} {at end i : ℕ} → Pieces single old at xs now end i → length xs ≤ i → Put old at xs now end
bytes_all {old} {xs} {now} {at} {end} {i} P h = subst (λ r. Put old at r now end) (singles xs) (pieces_all P h)

-- a word, the numbers behind it and a newline byte are a line
pub line_put : {word numbers old mid now new : List ℕ} {at m end far i : ℕ}
    → Put old at word mid m → Pieces spaced mid m numbers now end i → length numbers ≤ i → Put now end (10 ∷ []) new far
    → Put old at (line word numbers) new far
unfolding line
line_put w P h p = put_then w (put_then (pieces_all P h) p)

-- ---- bytes put at the front of a buffer that has room for them

module _ {old vs new : List ℕ} {end : ℕ} (p : Put old 0 vs new end) (room : length vs ≤ length old) where
  pub front_holds : take end new ≡ vs
  front_holds = p.holds ∙ take_all (length old) vs room

  pub front_end : end ≡ length vs
  front_end = sym (length-take-le end new (omega (arith, p.len, p.inside (omega arith)))) ∙ ap length front_holds

  front_rest : drop end new ≡ drop end old
  front_rest = ext_get_or 0 (drop end new) (drop end old) (omega (arith, length-drop end new, length-drop end old, p.len))
      (λ i h. get_or-drop end new i 0 ∙ p.beyond (end + i) (omega arith) ∙ sym (get_or-drop end old i 0))

  pub front_put : new ≡ vs ++ drop (length vs) old
  front_put =
      sym (take-append-drop end new) ∙ ap (λ r. take end new ++ r) front_rest ∙ ap (λ r. r ++ drop end old) front_holds
      ∙ ap (λ k. vs ++ drop k old) front_end
