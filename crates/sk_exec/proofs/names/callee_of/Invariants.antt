use Rattle.std.proofs.Common.{◌≡◌, drop}
use Rattle.sk_model.specs.Parts.{rank}
use Rattle.sk_model.specs.Expand.{are_ordinary}
use Rattle.sk_exec.specs.Direct.{named_from}
use Rattle.sk_exec.proofs.names.callee_of.Given as goal

-- no function so far has the name, and the number is the rank of the next
abbrev pub invariant-loop-place : goal.invariant-loop-place
invariant-loop-place l = record {
  none : named_from 0 l.name l.prog.funs ≡ named_from l.place l.name (drop l.place l.prog.funs);
  ranked : l.index ≡ rank (are_ordinary l.prog.funs) l.place;
}
