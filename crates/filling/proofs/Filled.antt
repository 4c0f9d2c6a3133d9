-- What the filled front of a buffer holds, after one more read and when it is full.
use Rattle.std.proofs.Common.{◌≡◌, ℕ, ◌+◌, ◌≤◌, List, ◌++◌, length, take, sym, ap, ap₂, subst, ◌∙◌, arith}
use Rattle.std.specs.Prelude.{Some, None, IfSome}
use Rattle.std.specs.declared.option.Option.{Option}
use Rattle.std.specs.Io.KnownBytes.{Consumes, Keeps}
use Rattle.std.proofs.KnownBytes.{Consumes-trans, Consumes-kept}
use Rattle.std.proofs.lemmas.List.{length-take-le, take-append-le}
use Rattle.std.proofs.lemmas.Slice.{take-put_mid_below}
use Rattle.std.proofs.Math.Seq.{take-append-add, take-append_seam}
use borrow.Rule.Slice.PartMut.{put_mid, post_of}

module _ (first before after : Option (List ℕ)) (at room : ℕ) (held piece : List ℕ) (fits : at ≤ length held) (so_far : Consumes first before (take at held)) where
  -- a read put n more bytes behind those that are held
  pub with_piece : (n : ℕ) → n ≤ length piece → Consumes before after (take n piece) → Consumes first after (take (at + n) (put_mid at room held piece))
  with_piece n short read =
      let behind = piece ++ post_of at room held in
      let e : take (at + n) (put_mid at room held piece) ≡ take at held ++ take n piece
      = ap (λ m. take (m + n) (take at held ++ behind)) (sym (length-take-le at held fits)) ∙ take-append-add (take at held) behind n
      ∙ ap (λ l. take at held ++ l) (take-append-le n piece (post_of at room held) short) in
      subst (Consumes first after) (sym e) (Consumes-trans first before after (take at held) (take n piece) so_far read)

  -- a read failed
  pub with_none : Keeps before after → Consumes first after (take at (put_mid at room held piece))
  with_none kept =
      subst (Consumes first after) (sym (take-put_mid_below at room held piece at (omega arith) fits)) (Consumes-kept first before after (take at held) so_far kept)

-- the buffer is full
pub full : (first now : Option (List ℕ)) (at : ℕ) (held : List ℕ) → at ≡ length held → Consumes first now (take at held)
    → IfSome first (λ bytes. take at held ≡ take (length held) bytes)
full None now at held filled read = tt
full (Some bytes) None at held filled read = absurd read
full (Some bytes) (Some rest) at held filled read =
    sym (take-append_seam (take at held) rest) ∙ ap₂ take (length-take-le at held (omega arith) ∙ filled) (sym read)
