use Rattle.std.proofs.Common.{sym, ap, ◌∙◌}
use Rattle.sk_types_rules.specs.Sorts.{sort}
use Rattle.sk_types_names.specs.Envs.{context_of}
use Rattle.sk_types_stmts.specs.Targets.{element_target}
use Rattle.sk_types_stmts.proofs.TargetLaws.{target_is, word_target, member_none, member_some, index_target, no_target}
use Rattle.sk_types_stmts.proofs.target.+target.Goals as goal

pub form_target_type-returns-in-Word : goal.form_target_type-returns-in-Word
form_target_type-returns-in-Word t c = word_target (context_of c.args.env.now) c.args.scope.now c.args.form.now _ c.in-Word.is ∙ sym c.variable.ensures

pub form_target_type-returns-in-None : goal.form_target_type-returns-in-None
form_target_type-returns-in-None t c = member_none (context_of c.args.env.now) c.args.scope.now c.args.form.now _ _ c.in-Member.is (cc (c.get.ensures, c.in_ok-target_type-in-Member.ensures, c.in-None.is))

pub form_target_type-returns-in-Some : goal.form_target_type-returns-in-Some
form_target_type-returns-in-Some t c =
    let m = member_some (context_of c.args.env.now) c.args.scope.now c.args.form.now _ _ c.in-Some.ty c.in-Member.is (cc (c.get.ensures, c.in_ok-target_type-in-Member.ensures, c.in-Some.is)) in
    cc (m, c.member_type.ensures, c.reference_meant.ensures)

pub form_target_type-returns-in_ok-ty-in-Index : goal.form_target_type-returns-in_ok-ty-in-Index
form_target_type-returns-in_ok-ty-in-Index t c =
    index_target (context_of c.args.env.now) c.args.scope.now c.args.form.now _ _ c.in_ok-base-in-Index.base c.in-Index.is (cc (c.get-in-Index.ensures, c.in_ok-base-in-Index.ensures))
    ∙ ap (λ i. element_target (sort (context_of c.args.env.now) c.args.scope.now i) c.in_ok-base-in-Index.base) (sym c.get-in-Index-2.ensures)
    ∙ c.in_ok-ty-in-Index.ensures

pub form_target_type-returns-in_default : goal.form_target_type-returns-in_default
form_target_type-returns-in_default t c = no_target (context_of c.args.env.now) c.args.scope.now c.args.form.now c.in_default.not-Word c.in_default.not-Member c.in_default.not-Index

pub target_type-returns : goal.target_type-returns
target_type-returns t c = target_is (context_of c.args.env.now) c.args.scope.now c.args.e.now ∙ c.in_ok-ty.ensures
