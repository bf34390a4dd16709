use Rattle.std.proofs.Common.{◌≡◌, drop}
use Rattle.std.specs.List.{list_all}
use Rattle.sk_prog.specs.declared.prog.Fun.{Fun}
use Rattle.sk_min_costs.specs.Free.{stmts_free}
use Rattle.sk_min_costs.proofs.free.funs_free.Given as goal

-- the functions to come decide
abbrev pub invariant-loop-fun : goal.invariant-loop-fun
invariant-loop-fun l = list_all (λ (f : Fun). stmts_free f.body) l.funs ≡ list_all (λ (f : Fun). stmts_free f.body) (drop l.fun-index l.funs)
