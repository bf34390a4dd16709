use Rattle.std.proofs.Common.{◌≡◌, drop, ◌++◌}
use Rattle.std.specs.Prelude.{Some}
use Rattle.sk_types_rules.specs.Rules.{◌>>=◌}
use Rattle.sk_types_rules.specs.Sorts.{kept_targets}
use Rattle.sk_types_names.specs.Envs.{context_of}
use Rattle.sk_types_laws.specs.Elaborate.{all_at}
use Rattle.sk_types_laws.specs.Parts.{ats}
use Rattle.sk_types_stmts.proofs.target.targets.Given as goal

-- the targets so far and those to come
abbrev pub invariant-loop-e : goal.invariant-loop-e
invariant-loop-e l = all_at l.ty (ats (context_of l.env) l.scope (kept_targets (context_of l.env) l.scope l.ty l.es)) ≡ (all_at l.ty (ats (context_of l.env) l.scope (kept_targets (context_of l.env) l.scope l.ty (drop l.e-index l.es))) >>= λ rest. Some (l.made ++ rest))
