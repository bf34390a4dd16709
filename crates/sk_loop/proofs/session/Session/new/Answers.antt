use Rattle.std.proofs.Common.{refl}
use Rattle.sk_loop.proofs.Standing.{stands_begins}
use Rattle.sk_loop.proofs.session.Session.new.Goals as goal

pub returns : goal.returns
returns c = record {
  stands = stands_begins _ c.args.expanded.now c.args.bounds.now c.in_ok-asking.ensures.asking c.new-solver.ensures.vars c.new-solver.ensures.added refl refl refl;
}
