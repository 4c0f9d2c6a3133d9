-- Every sheet fits, so it stands whole at the front of the buffer, and bytes behind those that are read change nothing.
use Rattle.std.proofs.Common.{◌≡◌, ℕ, ◌<◌, ◌≤◌, List, length, take, drop, get_or, arith}
use Rattle.std.specs.Prelude.{Some, None, Ok, Err, OnOk, IfSome, All}
use Rattle.std.specs.declared.option.Option.{Option}
use Rattle.std.specs.declared.result.Result.{Result}
use Rattle.std.specs.Io.KnownBytes.{Appends}
use Rattle.std.proofs.lemmas.List.{get_or_past}
use Rattle.std.proofs.lemmas.List.Elements.{All-get_or, All-take}
use Rattle.std.proofs.Math.Seq.{take-append_seam}
use lib.ListN.{replicate, length-replicate}
use native.Mathlib.Decide.{dec_lt}
use mathlib.Core.Path.{sym, ap, ap₂, subst, ◌∙◌}
use Rattle.trellis.specs.Lists.{over}
use Rattle.trellis.specs.Outcome.{success}
use Rattle.text_buffer.specs.Listing.{Listing, left}
use Rattle.text_buffer.proofs.Buffer.{whole_left}
use Rattle.input_parts.specs.Input.{most_input}
use Rattle.sheet_records.specs.Sheet.{sheet_text, sheet}
use Rattle.sheet_records.specs.Inner.Made.{any_sheet}
use Rattle.sheet.proofs.Printed.{front_is_enough}
use Rattle.blocks.proofs.Short.{text_short}

abbrev AreBytes : List ℕ → Type 0
AreBytes input = All (λ b. b < 256) input

byte_at : (input : List ℕ) → AreBytes input → (i : ℕ) → get_or input i 0 < 256
byte_at input h i = go (dec_lt i (length input))
  where
    go : Dec (i < length input) → get_or input i 0 < 256
    go (yes l) = All-get_or (λ b. b < 256) input i 0 l h
    go (no l) = let past : get_or input i 0 ≡ 0 = get_or_past input i 0 (omega arith) in omega (arith, past)

whole : (input old : List ℕ) → ((i : ℕ) → get_or input i 0 < 256) → any_sheet ≤ length old
    → sheet input old ≡ left (success (length (sheet_text input))) (over (sheet_text input) old)
unfolding sheet
whole input old bytes room = whole_left (sheet_text input) old (omega (arith, text_short input bytes))

-- the bytes behind the first `most_input` change nothing
front_enough : (input : List ℕ) → AreBytes input → sheet_text (take most_input input) ≡ sheet_text input
front_enough input h =
    let front = take most_input input in
    let buffer : List ℕ = replicate any_sheet 0 in
    let room : any_sheet ≤ length buffer = omega (arith, length-replicate {A = ℕ} any_sheet 0) in
    let bytes = byte_at input h in
    let of_front = byte_at front (All-take (λ b. b < 256) most_input input h) in
    let e = sym (whole front buffer of_front room) ∙ front_is_enough input buffer bytes ∙ whole input buffer bytes room in
    sym (take-append_seam (sheet_text front) (drop (length (sheet_text front)) buffer))
    ∙ ap₂ take (ap (λ (m : Listing). get_or m.outcome.values 0 0) e) (ap (λ (m : Listing). m.text) e)
    ∙ take-append_seam (sheet_text input) (drop (length (sheet_text input)) buffer)

-- a writer that takes the sheet of what a reader gave, to its end or to a full buffer, has the sheet of all that the reader has
pub written : {V E : Type 0} (known old new : Option (List ℕ)) (r : Result V E) {room : ℕ} (read bytes : List ℕ) → room ≡ most_input
    → bytes ≡ sheet_text read → IfSome known (λ xs. read ≡ take room xs) → OnOk r (Appends old new bytes)
    → OnOk r (IfSome known (λ input. AreBytes input → Appends old new (sheet_text input)))
written known old new (Err e) read bytes long put front wrote = tt
written None old new (Ok v) read bytes long put front wrote = tt
written (Some input) old new (Ok v) read bytes long put front wrote =
    λ h. subst (Appends old new) (put ∙ ap sheet_text (front ∙ ap (λ n. take n input) long) ∙ front_enough input h) wrote
