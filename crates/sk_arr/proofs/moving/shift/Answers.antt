use Rattle.std.proofs.Common.{subst}
use Rattle.sk_arr.specs.Bits.{IsRow, IsMoved}
use Rattle.sk_arr.proofs.MoveLaws.{shifted}
use Rattle.sk_arr.proofs.moving.shift.Goals as goal

pub returns-clause-shifted : goal.returns-clause-shifted
returns-clause-shifted c = shifted
    (subst (λ l. IsRow c.row_of.new.dag c.args.left l c.in_ok-row.row) c.as_slice.ensures c.in_ok-row.ensures.row)
    c.in_ok-lower.ensures.keeps
    (subst (λ l. IsMoved c.moved.new.dag l c.args.by c.in_ok-lower.lower) c.as_slice-2.ensures c.in_ok-lower.ensures.moved)
    c.in_ok-outside.ensures.keeps c.in_ok-outside.ensures.there c.in_ok-outside.ensures.value c.in_ok-made.ensures
