use Rattle.std.proofs.Common.{◌≡◌, drop, ◌++◌}
use Rattle.std.specs.Prelude.{Some}
use Rattle.sk_types_rules.specs.Rules.{◌>>=◌}
use Rattle.sk_types_names.specs.Envs.{context_of}
use Rattle.sk_types_laws.specs.Elaborate.{all_at, strings_at, arguments_at, settings_at}
use Rattle.sk_types_laws.specs.Parts.{ats, items, arguments, settings}
use Rattle.sk_types_exprs.specs.OwnFaults.{all_faulty, some_faulty, judged}
use Rattle.sk_types_exprs.proofs.elaborate.+typing.Given as goal

-- what is made so far and what is to come

abbrev pub invariant-all-loop-e : goal.invariant-all-loop-e
invariant-all-loop-e l = all_at l.ty (ats (context_of l.env) l.scope l.es) ≡ (all_at l.ty (ats (context_of l.env) l.scope (drop l.e-index l.es)) >>= λ rest. Some (l.made ++ rest))

abbrev pub invariant-strings-loop-e : goal.invariant-strings-loop-e
invariant-strings-loop-e l = strings_at l.ty (items (context_of l.env) l.scope l.es) ≡ l.kept ++ strings_at l.ty (items (context_of l.env) l.scope (drop l.e-index l.es))

abbrev pub invariant-arguments-loop-i : goal.invariant-arguments-loop-i
invariant-arguments-loop-i l = arguments_at l.params (arguments (context_of l.env) l.scope l.es) ≡ (arguments_at (drop l.i l.params) (arguments (context_of l.env) l.scope (drop l.i l.es)) >>= λ rest. Some (l.made ++ rest))

abbrev pub invariant-settings-loop-field : goal.invariant-settings-loop-field
invariant-settings-loop-field l = settings_at l.def (settings (context_of l.env) l.scope l.fields) ≡ (settings_at l.def (settings (context_of l.env) l.scope (drop l.field-index l.fields)) >>= λ rest. Some (l.made ++ rest))

-- what was looked at has a fault, or has none

abbrev pub invariant-pattern_fault-loop-e : goal.invariant-pattern_fault-loop-e
invariant-pattern_fault-loop-e l = all_faulty (judged (context_of l.env) l.scope l.es) ≡ all_faulty (judged (context_of l.env) l.scope (drop l.e-index l.es))

abbrev pub invariant-first_fault-loop-e : goal.invariant-first_fault-loop-e
invariant-first_fault-loop-e l = some_faulty (judged (context_of l.env) l.scope l.es) ≡ some_faulty (judged (context_of l.env) l.scope (drop l.e-index l.es))
