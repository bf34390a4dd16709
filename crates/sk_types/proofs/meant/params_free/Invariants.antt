use Rattle.std.proofs.Common.{◌≡◌, drop}
use Rattle.std.specs.List.{list_all}
use Rattle.sk_prog.specs.declared.prog.ParamDef.{ParamDef}
use Rattle.sk_types_rules.specs.Types.{is_free}
use Rattle.sk_types.proofs.meant.params_free.Given as goal

-- the parameters to come decide
abbrev pub invariant-loop-param : goal.invariant-loop-param
invariant-loop-param l = list_all (λ (d : ParamDef). is_free d.name) l.params ≡ list_all (λ (d : ParamDef). is_free d.name) (drop l.param-index l.params)
