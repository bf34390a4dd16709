use Rattle.std.proofs.Common.{◌≡◌, take}
use Rattle.sk_oblig_checks.specs.Arguments.{count_of}
use Rattle.sk_oblig.proofs.plain.count_of.Given as goal

-- those so far are counted
abbrev pub invariant-loop-param : goal.invariant-loop-param
invariant-loop-param l = record {
  count : l.count ≡ count_of (take l.param-index l.fn.params);
}
