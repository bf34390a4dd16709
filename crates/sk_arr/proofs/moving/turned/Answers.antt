use Rattle.std.proofs.Common.{◌≡◌, ◌++◌, sym, subst}
use Rattle.std.specs.Prelude.{reverse}
use Rattle.sk_arr.proofs.MoveLaws.{turned_more, turned_less}
use Rattle.sk_arr.proofs.moving.turned.Goals as goal

pub loop-last-smaller : goal.loop-last-smaller
loop-last-smaller c = turned_less c.pop.new.self c.in-Some.last c.in-Some.ensures

pub loop-last-preserved : goal.loop-last-preserved
loop-last-preserved c = subst (λ m. m ++ reverse c.pop.new.self ≡ reverse c.args.list) (sym c.in_ok-push.ensures.ok)
    (turned_more c.loop-last.made c.pop.new.self c.in-Some.last c.in-Some.ensures c.loop-last.invariant)
