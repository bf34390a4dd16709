use Rattle.std.proofs.Common.{◌≡◌, drop}
use Rattle.sk_types_rules.specs.Sorts.{first_target}
use Rattle.sk_types_names.specs.Envs.{context_of}
use Rattle.sk_types_stmts.proofs.target.first_target.Given as goal

-- none so far is a target
abbrev pub invariant-loop-e : goal.invariant-loop-e
invariant-loop-e l = first_target (context_of l.env) l.scope l.es ≡ first_target (context_of l.env) l.scope (drop l.e-index l.es)
