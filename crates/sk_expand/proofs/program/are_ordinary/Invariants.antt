use Rattle.std.proofs.Common.{◌≡◌, drop, ◌++◌}
use Rattle.sk_model.specs.Expand.{are_ordinary}
use Rattle.sk_expand.proofs.program.are_ordinary.Given as goal

-- those so far, and those that are left
abbrev pub invariant-loop-f : goal.invariant-loop-f
invariant-loop-f l = l.are.items ++ are_ordinary (drop l.f-index l.funs) ≡ are_ordinary l.funs
