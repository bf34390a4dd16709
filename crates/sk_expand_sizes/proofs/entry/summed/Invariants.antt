use Rattle.std.proofs.Common.{◌≡◌, drop}
use Rattle.sk_model.specs.Obligations.{obligations_from}
use Rattle.sk_expand_sizes.specs.Sums.{no_sum, all_summed}
use Rattle.sk_expand_sizes.proofs.entry.summed.Given as goal

-- the sum with the obligations that are left is the sum of all
abbrev pub invariant-loop-f : goal.invariant-loop-f
invariant-loop-f l = all_summed l.caller.bounds l.caller.funs.now (obligations_from l.f (drop l.f l.funs)) l.sum ≡ all_summed l.caller.bounds l.caller.funs.now (obligations_from 0 l.funs) no_sum
