use Rattle.std.proofs.Common.{◌≡◌, ◌++◌, drop}
use Rattle.sk_oblig_queries.specs.Said.{args_said}
use Rattle.sk_oblig_queries.proofs.inputs.args_said.Given as goal

abbrev pub invariant-loop-param : goal.invariant-loop-param
invariant-loop-param l = l.args ++ args_said (drop l.param-index l.params) l.rest ≡ args_said l.params l.numbers
