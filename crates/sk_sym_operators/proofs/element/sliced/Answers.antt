use Rattle.std.proofs.Common.{arith}
use Rattle.sk_sym_operators.proofs.Slices.{not_of_row, not_by_word, at_row}
use Rattle.sk_sym_operators.proofs.element.sliced.Goals as goal

pub returns-in_default : goal.returns-in_default
returns-in_default c = record {
  keeps = c.in_ok-made.ensures.keeps;
  operated = not_of_row c.args.count (omega (arith, c.if-count-lt1.false)) c.in_default.not-Array c.in_ok-made.ensures.computed;
}

pub returns-in_default-index : goal.returns-in_default-index
returns-in_default-index c = record {
  keeps = c.in_ok-made-2.ensures.keeps;
  operated = not_by_word c.args.count c.in_default-index.not-Int c.in_ok-made-2.ensures.computed;
}

pub returns-clause-operated : goal.returns-clause-operated
returns-clause-operated c = at_row c.args.count c.in-Array.is c.in-Int.is c.in_ok-made-3.ensures.operated
