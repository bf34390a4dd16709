use Rattle.std.proofs.Common.{◌≡◌, length, drop}
use Rattle.sk_exec_values.specs.Arguments.{values_from}
use Rattle.sk_exec_values.proofs.Values.{behind}
use Rattle.sk_exec_values.proofs.arguments.read_values.Given as goal

-- the values so far, and what comes of the words behind theirs
abbrev pub invariant-loop-param : goal.invariant-loop-param
invariant-loop-param l = values_from 0 l.bounds l.params l.words ≡ behind l.values (values_from (length l.values) l.bounds (drop l.param-index l.params) l.rest)
