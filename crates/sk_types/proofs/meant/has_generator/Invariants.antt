use Rattle.std.proofs.Common.{◌≡◌, drop}
use Rattle.std.specs.List.{list_any}
use Rattle.sk_prog.specs.declared.prog.Fun.{Fun}
use Rattle.sk_types_rules.specs.Types.{is_generator}
use Rattle.sk_types.proofs.meant.has_generator.Given as goal

-- the functions to come decide
abbrev pub invariant-loop-fun : goal.invariant-loop-fun
invariant-loop-fun l = list_any (λ (f : Fun). is_generator f.kind) l.funs ≡ list_any (λ (f : Fun). is_generator f.kind) (drop l.fun-index l.funs)
