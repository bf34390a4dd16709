use Rattle.std.proofs.Common.{◌-◌, ap, sym, subst}
use Rattle.sk_arr.specs.Shapes.{AllStand}
use Rattle.sk_arr.specs.Answers.{AreCopies}
use Rattle.sk_arr.proofs.PadLaws.{padded}
use Rattle.sk_arr.proofs.padding.pad.Goals as goal

pub returns-clause-padded : goal.returns-clause-padded
returns-clause-padded c =
    let g = c.args.dag.now in
    let fore : AreCopies g c.args.list.now c.in_ok-made.made =
    subst (λ l. AreCopies g l c.in_ok-made.made) c.as_slice.ensures (c.in_ok-made.ensures g (subst (AllStand g) (sym c.as_slice.ensures) c.requires.list)) in
    rw c.in_ok-append.ensures (padded c.args.list.now c.in_ok-made.made c.in_ok-zeros.zeros c.args.zero.now (c.args.count - c.len.result) c.args.count
    c.requires.list c.requires.zero c.requires.alike (ap (λ n. c.args.count - n) c.len.ensures) fore (c.in_ok-zeros.ensures g c.requires.zero))
