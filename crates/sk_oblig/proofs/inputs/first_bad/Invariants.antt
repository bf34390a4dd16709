use Rattle.sk_oblig.specs.Formulas.{NoneBefore}
use Rattle.sk_oblig.proofs.inputs.first_bad.Given as goal

-- those so far say no input that speaks against the choice
abbrev pub invariant-loop-place : goal.invariant-loop-place
invariant-loop-place l = NoneBefore l.fn.expanded l.fn.bounds l.fn.choice l.fn.limit l.fn.bits l.place
