-- A file longer than the bound has the text of its front, so bytes behind those that are read change nothing.
use Rattle.std.proofs.Common.{◌≡◌, ℕ, ◌+◌, ◌<◌, List, length, take, arith}
use Rattle.std.specs.Prelude.{Some, None, Ok, Err, OnOk, IfSome}
use Rattle.std.specs.declared.option.Option.{Option}
use Rattle.std.specs.declared.result.Result.{Result}
use Rattle.std.specs.Io.KnownBytes.{Appends}
use Rattle.std.proofs.lemmas.Bool.{lt-ltb, ltb-true, ltb-false}
use Rattle.std.proofs.lemmas.List.{take_all, length-take}
use Rattle.std.proofs.Math.Dec.{ltb}
use mathlib.Core.Path.{refl, sym, ap, subst, ◌∙◌}
use mathlib.Core.Bool.{Bool, true, false}
use Rattle.trellis.specs.Bounds.{most_bytes}
use Rattle.trellis.specs.Outcome.{bad_length}
use Rattle.lines.specs.Text.{refusal_line, text_of}

too_long : (file : List ℕ) → most_bytes < length file → text_of file ≡ refusal_line (bad_length (most_bytes + 1))
unfolding text_of
too_long file h = simp (lt-ltb most_bytes (length file) h)

-- the bytes behind the first 65,536 change nothing
pub front_enough : (file : List ℕ) → text_of (take 65536 file) ≡ text_of file
front_enough file = go (ltb most_bytes (length file)) refl
  where
    go : (b : Bool) → ltb most_bytes (length file) ≡ b → text_of (take 65536 file) ≡ text_of file
    go true e =
        let h = ltb-true most_bytes (length file) e in
        too_long (take 65536 file) (omega (arith, length-take 65536 file, h)) ∙ sym (too_long file h)
    go false e = ap text_of (take_all 65536 file (omega (arith, ltb-false most_bytes (length file) e)))

-- a writer that takes the text of what a reader gave, to its end or to a full buffer, has the text of all that the reader has
pub written : {V E : Type 0} (known old new : Option (List ℕ)) (r : Result V E) {room : ℕ} (read bytes : List ℕ) → room ≡ 65536 → bytes ≡ text_of read
    → IfSome known (λ xs. read ≡ take room xs) → OnOk r (Appends old new bytes) → OnOk r (IfSome known (λ file. Appends old new (text_of file)))
written known old new (Err e) read bytes long put front wrote = tt
written None old new (Ok v) read bytes long put front wrote = tt
written (Some file) old new (Ok v) read bytes long put front wrote =
    subst (Appends old new) (put ∙ ap text_of (front ∙ ap (λ n. take n file) long) ∙ front_enough file) wrote
