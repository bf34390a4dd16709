use Rattle.std.proofs.Common.{drop, length}
use Rattle.sk_model.specs.Nodes.{funs_nodes}
use Rattle.sk_model.specs.Expand.{walk_funs}
use Rattle.sk_expand.specs.Made.{After}
use Rattle.sk_expand.proofs.walker.Walker.functions.Given as goal

-- what is made so far, and what becomes of the rest, is all that is made
abbrev pub invariant-loop-f : goal.invariant-loop-f
invariant-loop-f l =
    After funs_nodes l.all.items l.fn.made l.made (walk_funs l.self.bounds l.self.funs.now l.self.funs.now (length l.fn.made.copies)) (walk_funs l.self.bounds l.self.funs.now (drop l.f-index l.self.funs.now) (length l.made.copies))
