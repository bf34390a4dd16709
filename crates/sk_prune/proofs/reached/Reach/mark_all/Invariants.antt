use Rattle.std.proofs.Common.{◌≡◌, drop}
use Rattle.sk_prune.specs.Reached.{mark_all}
use Rattle.sk_prune.specs.Found.{as_reached}
use Rattle.sk_prune.proofs.reached.Reach.mark_all.Given as goal

-- to mark those from here is to mark all
abbrev pub invariant-loop-f : goal.invariant-loop-f
invariant-loop-f l = mark_all (as_reached l.self) (drop l.f-index l.fs) ≡ mark_all (as_reached l.fn.self) l.fs
