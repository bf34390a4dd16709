use Rattle.std.proofs.Common.{◌≡◌, drop, ◌++◌}
use Rattle.std.specs.Prelude.{Some}
use Rattle.sk_types_rules.specs.Rules.{◌>>=◌}
use Rattle.sk_types_names.specs.Envs.{context_of}
use Rattle.sk_types_laws.specs.Whole.{params_of}
use Rattle.sk_types.proofs.signature.params_of.Given as goal

-- what is made so far and what is to come
abbrev pub invariant-loop-param : goal.invariant-loop-param
invariant-loop-param l = params_of (context_of l.env) l.params ≡ (params_of (context_of l.env) (drop l.param-index l.params) >>= λ rest. Some (l.made ++ rest))
