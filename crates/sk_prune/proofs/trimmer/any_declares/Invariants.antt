use Rattle.std.proofs.Common.{◌≡◌, drop}
use Rattle.std.specs.List.{list_any}
use Rattle.sk_prune.specs.Trimmed.{declares}
use Rattle.sk_prune.proofs.trimmer.any_declares.Given as goal

-- none is a declaration so far
abbrev pub invariant-loop-s : goal.invariant-loop-s
invariant-loop-s l = list_any declares (drop l.s-index l.ss) ≡ list_any declares l.ss
