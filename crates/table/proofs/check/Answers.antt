-- `table::check` meets its contract: the definition tries the same checks in the same order, so each way out is the case of the definition
-- that the tests before it leave.
use mathlib.Core.Path.{◌≡◌, refl, sym, ◌∙◌}
use mathlib.Core.Bool.{Bool, false}
use mathlib.Core.List.{List}
use Prim.Native.Nat.{ℕ}
use Rattle.std.specs.Prelude.{Option, None}
use Rattle.trellis.specs.Lists.{found_below}
use Rattle.fields.specs.Fields.{word_count, length_bad}
use Rattle.table.specs.File.{first_size, first_bad}
use Rattle.table.proofs.Search.{found_is, none_below}
use Rattle.table.proofs.Checks.{SizesRight, WordsRight, out_length, out_size, out_word, out_order, out_table}
use Rattle.table.proofs.check.Goals as goal

pub returns-then-length_bad : goal.returns-then-length_bad
returns-then-length_bad c = out_length _ c.length_bad.ensures c.if-length_bad.true

-- what no check before has found, at the ways out behind checks 1 and 2 and behind check 3
sizes_right : {file : List ℕ} {bad : Bool} {size : Option ℕ} → bad ≡ length_bad file → bad ≡ false → size ≡ found_below 4 (first_size file)
    → size ≡ None → SizesRight file
sizes_right a b d e = record { length_right = sym a ∙ b; inside = none_below (sym e ∙ d) }

words_right : {file : List ℕ} {word : Option ℕ} → SizesRight file → word ≡ found_below (word_count file) (first_bad file) → word ≡ None
    → WordsRight file
words_right s d e = record { sizes = s; right = none_below (sym e ∙ d) }

pub returns-in-Some : goal.returns-in-Some
returns-in-Some c =
    let found = found_is (sym c.in-Some.is ∙ c.first_size.ensures) in
    out_size _ (sym c.length_bad.ensures ∙ c.if-length_bad.false) found.0 found.1

pub returns-in-Some-first_bad : goal.returns-in-Some-first_bad
returns-in-Some-first_bad c =
    let sizes = sizes_right c.length_bad.ensures c.if-length_bad.false c.first_size.ensures c.in_default.is in
    let found = found_is (sym c.in-Some-first_bad.is ∙ c.first_bad.ensures) in
    out_word _ sizes refl found.0 found.1

pub returns-in-Some-first_not_above : goal.returns-in-Some-first_not_above
returns-in-Some-first_not_above c =
    let sizes = sizes_right c.length_bad.ensures c.if-length_bad.false c.first_size.ensures c.in_default.is in
    let words = words_right sizes c.first_bad.ensures c.in_default-first_bad.is in
    let found = found_is (sym c.in-Some-first_not_above.is ∙ c.first_not_above.ensures) in
    out_order _ words refl found.0 found.1

pub returns : goal.returns
returns c =
    let sizes = sizes_right c.length_bad.ensures c.if-length_bad.false c.first_size.ensures c.in_default.is in
    let words = words_right sizes c.first_bad.ensures c.in_default-first_bad.is in
    rw c.word_count.ensures
    (out_table _ words refl refl (none_below (sym c.in_default-first_not_above.is ∙ c.first_not_above.ensures))
    c.byte_at.ensures c.byte_at-2.ensures c.byte_at-3.ensures)
