use Rattle.std.proofs.Common.{◌≡◌, length}
use Rattle.std.specs.List.{list_any}
use Rattle.sk_exec_values.specs.Arguments.{type_refers}
use Rattle.sk_exec_values.proofs.arguments.params_refer.Given as goal

abbrev pub invariant-loop-rest : goal.invariant-loop-rest
invariant-loop-rest l = list_any (λ param. type_refers param.ty) l.params ≡ list_any (λ param. type_refers param.ty) l.rest

abbrev pub decreases-loop-rest : goal.decreases-loop-rest
decreases-loop-rest l = length l.rest
