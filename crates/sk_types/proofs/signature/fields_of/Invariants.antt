use Rattle.std.proofs.Common.{◌≡◌, drop, ◌++◌}
use Rattle.std.specs.Prelude.{Some}
use Rattle.sk_types_rules.specs.Rules.{◌>>=◌}
use Rattle.sk_types_names.specs.Envs.{context_of}
use Rattle.sk_types_laws.specs.Whole.{fields_of}
use Rattle.sk_types.proofs.signature.fields_of.Given as goal

-- what is made so far and what is to come
abbrev pub invariant-loop-field : goal.invariant-loop-field
invariant-loop-field l = fields_of (context_of l.env) l.fields ≡ (fields_of (context_of l.env) (drop l.field-index l.fields) >>= λ rest. Some (l.made ++ rest))
