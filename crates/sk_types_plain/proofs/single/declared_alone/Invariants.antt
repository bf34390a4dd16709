use Rattle.std.proofs.Common.{◌≡◌, drop, ◌++◌, [], ◌∷◌}
use Rattle.sk_tree.specs.declared.stmt.Form.TheVariants as form
use Rattle.sk_types_rules.specs.Plain.{declared_alone}
use Rattle.sk_types_plain.proofs.single.declared_alone.Given as goal

-- the declarations that are made and those to come
abbrev pub invariant-loop-declared : goal.invariant-loop-declared
invariant-loop-declared l = l.stmts ++ declared_alone l.span (λ d. form.Declare l.ty (d ∷ [])) (drop l.declared-index l.names) ≡ declared_alone l.span (λ d. form.Declare l.ty (d ∷ [])) l.names
