-- Parts of what statements become.
use Rattle.std.specs.Prelude.{ℕ, nat_le, List, [], ◌∷◌, Option}
use Rattle.sk_base.specs.declared.span.Span.{Span}
use Rattle.sk_tree.specs.declared.expr.Expr.{Expr}
use Rattle.sk_prog.specs.declared.expr.PExpr.{PExpr}
use Rattle.sk_prog.specs.declared.expr.PEForm.TheVariants as pform
use Rattle.sk_prog.specs.declared.stmt.PForm.{PForm}
use Rattle.sk_prog.specs.declared.stmt.PStmt.{PStmt}
use Rattle.sk_types_rules.specs.declared.scope.Variable.{Variable}
use Rattle.sk_types_rules.specs.Rules.{◌>>=◌, only_if, int}
use Rattle.sk_types_rules.specs.Scope.{Context}
use Rattle.sk_types_laws.specs.Elaborate.{typed}
use Rattle.sk_types_laws.specs.Making.{Made, Maker, makes, inside, any_inside, target_at, assign_to}

-- a constant count, which is at most 64
abbrev pub counted : Span → Option ℕ → Option PExpr
counted s count = count >>= λ n. only_if (nat_le n 64) (typed s int (pform.Number n))

-- a value that is assigned to a target
abbrev pub assigned : Context → List Variable → Expr → Expr → Option (Made PForm)
assigned context scope x e = target_at context scope x >>= λ p. assign_to context scope e p

-- the bodies of a choice
abbrev pub branches : (ℕ → Maker PStmt) → Option (ℕ → Maker PStmt) → ℕ → Maker (PStmt × Option PStmt)
branches m o from scope = inside m from scope >>= λ (q : Made PStmt). any_inside o from q.scope >>= λ (r : Made (Option PStmt)). makes (q.made, r.made) r.scope

-- the copies of a repeat: one
abbrev pub copies : (ℕ → Maker PStmt) → ℕ → Maker (List PStmt)
copies m from scope = inside m from scope >>= λ (q : Made PStmt). makes (q.made ∷ []) q.scope
