use Rattle.std.proofs.Common.{◌≡◌, drop}
use Rattle.std.specs.Prelude.{not}
use Rattle.std.specs.List.{list_all}
use Rattle.sk_prog.specs.declared.prog.ParamDef.{ParamDef}
use Rattle.sk_types.proofs.signature.none_by_ref.Given as goal

-- the parameters to come decide
abbrev pub invariant-loop-param : goal.invariant-loop-param
invariant-loop-param l = list_all (λ (d : ParamDef). not d.by_ref) l.params ≡ list_all (λ (d : ParamDef). not d.by_ref) (drop l.param-index l.params)
