use Rattle.std.proofs.Common.{sym, subst, ◌∙◌}
use Rattle.sk_types_names.specs.Gives.{Gives}
use Rattle.sk_types_names.specs.Envs.{context_of}
use Rattle.sk_types_stmts.proofs.TargetLaws.{pattern_is, no_pattern}
use Rattle.sk_types_stmts.proofs.target.target_at.Goals as goal

pub returns-in-Pattern : goal.returns-in-Pattern
returns-in-Pattern c =
    let made = rw c.as_slice.ensures at c.pattern_target.ensures in
    subst (λ o. Gives c.pattern_target.result o) (sym (pattern_is (context_of c.args.env.now) c.args.scope.now c.args.e.now _ _ c.in-Pattern.is (c.in_ok-ty.ensures ∙ c.in-None.is))) made

pub returns-in_default : goal.returns-in_default
returns-in_default c = no_pattern (context_of c.args.env.now) c.args.scope.now c.args.e.now _ c.in_default.not-Pattern (c.in_ok-ty.ensures ∙ c.in-None.is)
