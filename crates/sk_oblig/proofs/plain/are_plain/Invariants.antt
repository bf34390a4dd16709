use Rattle.std.proofs.Common.{◌≡◌, drop}
use Rattle.sk_oblig_laws.specs.Laws.{are_plain}
use Rattle.sk_oblig.proofs.plain.are_plain.Given as goal

-- those so far are plain
abbrev pub invariant-loop-param : goal.invariant-loop-param
invariant-loop-param l = record {
  rest : are_plain l.fn.params ≡ are_plain (drop l.param-index l.fn.params);
}
