-- The types that forms have by themselves.
use Rattle.std.specs.Prelude.{Option, Some, None}
use Rattle.sk_prog.specs.declared.ty.Ty.{Ty}
use Rattle.sk_types_rules.specs.declared.rules.Own.{Own}
use Rattle.sk_types_rules.specs.declared.rules.Own.TheVariants.{Wrong, Firm}
use Rattle.sk_types_laws.specs.Elaborate.{Callee}

-- what an expression of this type, if any, has by itself
abbrev pub own_type : Option Ty → Own
own_type None = Wrong
own_type (Some t) = Firm t

abbrev pub callee_result : Option Callee → Option Ty
callee_result None = None
callee_result (Some g) = g.signature.result
