use Rattle.sk_prune.specs.Numbered.{number}
use Rattle.sk_prune.proofs.Keeping.{kept_done}
use Rattle.sk_prune.proofs.renamer.Renamer.funs.Goals as goal

pub returns : goal.returns
returns c = kept_done (number c.args.self.now) c.loop-f.kept.items c.loop-f.left.now c.args.funs.now _ c.loop-f.f-index c.loop-f-test.false c.loop-f.invariant
