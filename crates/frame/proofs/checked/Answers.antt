-- `frame::checked` tests the frame, and then its blocks, which have their lengths where the frame is not bad; and lends what passed.
use borrow.Author.Rules.{rules}
use mathlib.Core.Path.{refl, sym, ◌∙◌}
use mathlib.Core.List.{[]}
use Rattle.frame.specs.Frame.{frame}
use Rattle.frame.proofs.Checks.{framed_of, views_of, fault_of_frame, fault_of_block, frame_checked}
use Rattle.frame.proofs.checked.Goals as goal

pub returns-then-frame_bad : goal.returns-then-frame_bad
returns-then-frame_bad c = (fault_of_frame (frame _ _ _ _ _ _ _) (c.frame_bad.ensures _ _) c.if-frame_bad.true, search rules)

pub first_bad-requires : goal.first_bad-requires
first_bad-requires c =
    let G = framed_of {f = frame [] 0 _ _ _ _ _} (sym (c.frame_bad.ensures [] 0) ∙ c.if-frame_bad.false) in
    (views_of c.requires, G.received_long, G.erased_long)

pub returns-in-Some : goal.returns-in-Some
returns-in-Some c =
    (fault_of_block (frame _ _ _ _ _ _ _) (c.frame_bad.ensures _ _) c.if-frame_bad.false (c.in-Some.ensures _ _ _ _ c.requires.found), search rules)

pub invariant_of-result : goal.invariant_of-result
invariant_of-result c =
    let none = fault_of_block (frame _ _ _ _ _ _ _) (c.frame_bad.ensures _ _) c.if-frame_bad.false (c.in_default.ensures _ _ _ _ c.requires.found) in
    record { checked = frame_checked c.requires none }

pub returns : goal.returns
returns c =
    (fault_of_block (frame _ _ _ _ _ _ _) (c.frame_bad.ensures _ _) c.if-frame_bad.false (c.in_default.ensures _ _ _ _ c.requires.found), refl)
