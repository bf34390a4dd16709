use Rattle.std.proofs.Common.{◌≡◌, drop}
use Rattle.std.specs.Prelude.{◌&&◌}
use Rattle.std.specs.List.{list_all}
use Rattle.sk_prog.specs.declared.prog.Fun.{Fun}
use Rattle.sk_types_rules.specs.Types.{is_free, fun_free}
use Rattle.sk_types.proofs.meant.funs_free.Given as goal

-- the functions to come decide
abbrev pub invariant-loop-fun : goal.invariant-loop-fun
invariant-loop-fun l = list_all (λ (f : Fun). is_free f.name && fun_free f) l.funs ≡ list_all (λ (f : Fun). is_free f.name && fun_free f) (drop l.fun-index l.funs)
