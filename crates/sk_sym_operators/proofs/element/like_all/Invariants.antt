use Rattle.std.proofs.Common.{take}
use Rattle.sk_arr.specs.Shapes.{AlikeTo}
use Rattle.sk_sym_operators.proofs.element.like_all.Given as goal

-- those so far are alike
abbrev pub invariant-loop-s : goal.invariant-loop-s
invariant-loop-s l = record {
  alike : AlikeTo l.a (take l.s-index l.list);
}
