-- `frame::frame_bad` makes the tests of the definition in their order, whatever the sections are.
use borrow.Author.Rules.{rules}
use Rattle.frame.specs.Frame.{frame}
use Rattle.frame.proofs.Checks.{frame_many, frame_received, frame_erased, frame_start, frame_end}
use mathlib.Core.Path.{ap}
use mathlib.Core.Bool.{not}
use Rattle.frame.proofs.frame_bad.Goals as goal

pub returns-then-not-is_within : goal.returns-then-not-is_within
returns-then-not-is_within c = λ s k. frame_many (frame s k _ _ _ _ _) c.is_within.ensures (ap not c.if-not-is_within.true)

pub returns-then-received-indices : goal.returns-then-received-indices
returns-then-received-indices c = λ s k. frame_received (frame s k _ _ _ _ _) c.is_within.ensures (ap not c.if-not-is_within.false) c.if-received-indices.true

pub returns-then-erased-indices : goal.returns-then-erased-indices
returns-then-erased-indices c = λ s k. frame_erased (frame s k _ _ _ _ _) c.is_within.ensures (ap not c.if-not-is_within.false) c.if-received-indices.false c.if-erased-indices.true

pub returns-then-start-ge-MOST_STATES : goal.returns-then-start-ge-MOST_STATES
returns-then-start-ge-MOST_STATES c =
    λ s k. frame_start (frame s k _ _ _ _ _) c.is_within.ensures (ap not c.if-not-is_within.false) c.if-received-indices.false c.if-erased-indices.false
    c.if-start-ge-MOST_STATES.true

pub returns : goal.returns
returns c =
    λ s k. frame_end (frame s k _ _ _ _ _) c.is_within.ensures (ap not c.if-not-is_within.false) c.if-received-indices.false c.if-erased-indices.false
    (search rules)
