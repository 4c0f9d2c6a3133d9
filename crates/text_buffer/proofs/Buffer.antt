-- A text that fits is put whole, and one that does not is left out.
use mathlib.Core.Path.{◌≡◌, sym, ap, ap₂, ◌∙◌}
use mathlib.Core.List.{List}
use mathlib.Core.Bool.{Bool, cond}
use Prim.Native.Nat.{ℕ, ◌<◌, ◌≤◌}
use lib.ListN.{length, take, drop, get_or}
use lib.Seq.{take-append_seam}
use native.Mathlib.Omega.{arith}
use borrow.Author.Tests.{lt-ltb, le-ltb}
use Rattle.answers.specs.declared.listing.ListingRefusal.{ListingRefusal}
use Rattle.trellis.specs.Outcome.{success, short_buffer}
use Rattle.trellis.specs.Lists.{over}
use Rattle.answers.specs.Answers.{listed_outcome}
use Rattle.answers.specs.declared.listing.ListingRefusal.TheVariants.{Short}
use Rattle.std.specs.Prelude.{Ok, Err, Result}
use Rattle.text.specs.Inner.Put.{Put}
use Rattle.text.proofs.Putting.{front_put}
use Rattle.text_buffer.specs.Listing.{left, in_buffer, Listing}

-- what is left of a buffer by whether it is too short for the text
abbrev pub leaves : List ℕ → List ℕ → Bool → Listing
leaves made text short = cond short (left (short_buffer (length made)) text) (left (success (length made)) (over made text))

pub whole_short : (made text : List ℕ) → length text < length made → left (short_buffer (length made)) text ≡ in_buffer made text
unfolding in_buffer
whole_short made text h = sym (ap (leaves made text) (lt-ltb (length text) (length made) h))

pub whole_put : (made text : List ℕ) {new : List ℕ} {far : ℕ} → length made ≤ length text → Put text 0 made new far
    → left (success (length made)) new ≡ in_buffer made text
unfolding in_buffer
whole_put made text h p =
    ap (λ t. left (success (length made)) t) (front_put p h) ∙ sym (ap (leaves made text) (le-ltb (length text) (length made) h))

-- a text that fits is left whole at the front of the buffer, and not answered as too long
module _ (made old : List ℕ) (fits : length made ≤ length old) where
  pub whole_left : in_buffer made old ≡ left (success (length made)) (over made old)
  unfolding in_buffer
  whole_left = ap (leaves made old) (le-ltb (length old) (length made) fits)

  module _ {new : List ℕ} {r : Result ℕ ListingRefusal} (e : left (listed_outcome r) new ≡ in_buffer made old) where
    pub whole_front : {k : ℕ} → r ≡ Ok k → take k new ≡ made
    whole_front {k} f =
        let l : left (success k) new ≡ left (success (length made)) (over made old)
        = ap (λ x. left (listed_outcome x) new) (sym f) ∙ e ∙ whole_left in
        ap₂ take (ap (λ (m : Listing). get_or m.outcome.values 0 0) l) (ap (λ (m : Listing). m.text) l)
        ∙ take-append_seam made (drop (length made) old)

    -- a short buffer is the only refusal
    pub never_refused : (refusal : ListingRefusal) → r ≡ Err refusal → ⊥
    never_refused (Short needed) f =
        let l : left (short_buffer needed) new ≡ left (success (length made)) (over made old)
        = ap (λ x. left (listed_outcome x) new) (sym f) ∙ e ∙ whole_left in
        absurd (omega (arith, ap (λ (m : Listing). m.outcome.number) l))
