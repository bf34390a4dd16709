use Rattle.std.proofs.Common.{◌≡◌, drop}
use Rattle.std.specs.List.{list_any}
use Rattle.sk_prog.specs.declared.prog.ParamDef.{ParamDef}
use Rattle.sk_types_rules.specs.Rules.{holds_references}
use Rattle.sk_types.proofs.signature.some_hold_references.Given as goal

-- the parameters to come decide
abbrev pub invariant-loop-param : goal.invariant-loop-param
invariant-loop-param l = list_any (λ (d : ParamDef). holds_references d.ty) l.params ≡ list_any (λ (d : ParamDef). holds_references d.ty) (drop l.param-index l.params)
