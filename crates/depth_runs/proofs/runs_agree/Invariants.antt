-- `depth_runs::runs_agree` meets its contract. The loop keeps that all words before i agree.
use Rattle.depth_runs.proofs.Agreement.{InAgreement}
use Rattle.depth_runs.proofs.runs_agree.Given as goal

abbrev pub invariant-loop-i : goal.invariant-loop-i
invariant-loop-i l = InAgreement l.w l.starts l.firsts l.i
