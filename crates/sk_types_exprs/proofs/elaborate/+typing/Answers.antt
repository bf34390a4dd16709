use Rattle.std.proofs.Common.{◌+◌, ◌++◌, drop, Some, sym, ap, subst, ◌∙◌, arith}
use Rattle.std.specs.Prelude.{slice_get}
use Rattle.std.specs.Option.{option_copied}
use Rattle.std.proofs.lemmas.Result.{err_from_is_err_and}
use Rattle.sk_prog.specs.declared.expr.PEForm.TheVariants as pform
use Rattle.sk_types_rules.specs.Rules.{◌>>=◌, fit_of}
use Rattle.sk_types_rules.specs.Sorts.{struct_meant}
use Rattle.sk_types_laws.specs.Elaborate.{typed, coerced, arguments_at}
use Rattle.sk_types_laws.specs.Parts.{arguments}
use Rattle.sk_types_names.specs.Envs.{context_of}
use Rattle.sk_types_exprs.proofs.PartLaws.{argument_made, argument_fails, many_arguments, few_arguments, lost, refused, fails_nothing, new_refused, new_made}
use Rattle.sk_types_exprs.specs.OwnFaults.{Finds}
use Rattle.sk_types_exprs.proofs.FaultLaws.{finds_some, firm_faulty, wrong_faulty, loose_faulty, paren_found, cond_found, hole_found, pattern_found, braces_found, unary_found, binary_found, none_faulty}
use Rattle.sk_types_exprs.proofs.elaborate.+typing.Goals as goal

pub arguments-returns-in_default : goal.arguments-returns-in_default
arguments-returns-in_default t c =
    refused _ _ _ c.fault.ensures (lost _ _ _ c.loop-i.invariant (many_arguments (context_of c.args.env.now) c.args.scope.now c.args.params.now c.args.es.now c.loop-i.i
    (sym c.at.ensures ∙ ap option_copied c.in_default.is) c.loop-i-test.true))

pub arguments-returns-in_err-p : goal.arguments-returns-in_err-p
arguments-returns-in_err-p t c =
    let p = err_from_is_err_and c.from_residual.result c.from_residual.ensures.1 in
    rw (p.1, p.2) (argument_fails (context_of c.args.env.now) c.args.scope.now c.args.params.now c.args.es.now c.loop-i.i c.in-Some.param.now c.index-es-i.result c.loop-i.made c.in_err-p.field-0.0
    (sym c.at.ensures ∙ ap option_copied c.in-Some.is) c.loop-i-test.true c.index-es-i.is _ c.loop-i.invariant c.in_err-p.ensures)

pub arguments-loop-i-preserved : goal.arguments-loop-i-preserved
arguments-loop-i-preserved t c =
    c.loop-i.invariant
    ∙ argument_made (context_of c.args.env.now) c.args.scope.now c.args.params.now c.args.es.now c.loop-i.i c.loop-i.made c.in-Some.param.now c.index-es-i.result c.in_ok-p.p
    (sym c.at.ensures ∙ ap option_copied c.in-Some.is) c.loop-i-test.true c.index-es-i.is c.in_ok-p.ensures
    ∙ ap (λ made. arguments_at (drop (c.loop-i.i + 1) c.args.params.now) (arguments (context_of c.args.env.now) c.args.scope.now (drop (c.loop-i.i + 1) c.args.es.now)) >>= λ rest. Some (made ++ rest)) (sym c.in_ok-push.ensures.ok)

pub arguments-returns-then-es-params : goal.arguments-returns-then-es-params
arguments-returns-then-es-params t c =
    refused _ _ _ c.fault-then-es-params.ensures (lost _ _ _ c.loop-i.invariant (few_arguments (context_of c.args.env.now) c.args.scope.now c.args.params.now c.args.es.now c.loop-i.i c.loop-i-test.false
    (omega (arith, c.if-es-params.true, c.loop-i.auto.i-end))))

pub made_new-returns-then-not-distinct : goal.made_new-returns-then-not-distinct
made_new-returns-then-not-distinct t c =
    fails_nothing _ _ (new_refused (context_of c.args.env.now) c.args.scope.now c.args.name.now c.args.fields.now c.args.span c.args.ty c.in-Some.s c.in-Some-item_at.def.now
    (ap struct_meant (sym c.meaning.ensures) ∙ sym c.struct_meant.ensures ∙ c.in-Some.is)
    (ap (λ l. slice_get l c.in-Some.s.index) (sym c.as_slice.ensures) ∙ sym c.at.ensures ∙ ap option_copied c.in-Some-item_at.is)
    (sym c.in_ok-distinct.ensures ∙ c.if-not-distinct.true))

pub made_new-returns : goal.made_new-returns
made_new-returns t c =
    new_made (context_of c.args.env.now) c.args.scope.now c.args.name.now c.args.fields.now c.args.span c.args.ty c.in-Some.s c.in-Some-item_at.def.now c.in_ok-fields.fields
    (ap struct_meant (sym c.meaning.ensures) ∙ sym c.struct_meant.ensures ∙ c.in-Some.is)
    (ap (λ l. slice_get l c.in-Some.s.index) (sym c.as_slice.ensures) ∙ sym c.at.ensures ∙ ap option_copied c.in-Some-item_at.is)
    (sym c.in_ok-distinct.ensures ∙ c.if-not-distinct.false)
    c.in_ok-fields.ensures
    ∙ ap (λ u. coerced (fit_of u c.args.ty) c.args.ty (typed c.args.span u (pform.New c.in-Some.s c.in_ok-fields.fields))) (sym c.reference_to.ensures)
    ∙ c.in_ok-e.ensures

pub own_fault-returns-in-Firm : goal.own_fault-returns-in-Firm
own_fault-returns-in-Firm t c = subst (Finds c.refusal.result) (sym (firm_faulty (context_of c.args.env.now) c.args.scope.now c.args.e.now c.in-Firm.ty (sym c.own.ensures ∙ c.in-Firm.is))) (c.refusal.ensures _ c.at.ensures)

pub own_fault-returns-in-Wrong : goal.own_fault-returns-in-Wrong
own_fault-returns-in-Wrong t c = subst (Finds (Some c.wrong_fault.result)) (sym (wrong_faulty (context_of c.args.env.now) c.args.scope.now c.args.e.now (sym c.own.ensures ∙ c.in-Wrong.is))) (finds_some c.wrong_fault.result)

pub own_fault-returns-in-Loose : goal.own_fault-returns-in-Loose
own_fault-returns-in-Loose t c = subst (Finds c.loose_fault.result) (sym (loose_faulty (context_of c.args.env.now) c.args.scope.now c.args.e.now (sym c.own.ensures ∙ c.in-Loose.is))) c.loose_fault.ensures

pub loose_fault-returns-in-Paren : goal.loose_fault-returns-in-Paren
loose_fault-returns-in-Paren t c = paren_found (context_of c.args.env.now) c.args.scope.now c.args.form.now c.in-Paren.of c.get.result.now c.own_fault.result c.in-Paren.is c.get.ensures c.own_fault.ensures

pub loose_fault-returns-in-Cond : goal.loose_fault-returns-in-Cond
loose_fault-returns-in-Cond t c =
    cond_found (context_of c.args.env.now) c.args.scope.now c.args.form.now c.in-Cond.cond c.in-Cond.then c.in-Cond.other c.get-in-Cond.result.now c.get-in-Cond-2.result.now c.get-in-Cond-3.result.now c.or-in-Cond.result c.or.result c.refusal-cond.result c.own_fault-then.result c.own_fault-other.result
    c.in-Cond.is c.get-in-Cond.ensures c.get-in-Cond-2.ensures c.get-in-Cond-3.ensures c.or.ensures c.or-in-Cond.ensures (c.refusal-cond.ensures _ c.at.ensures) c.own_fault-then.ensures c.own_fault-other.ensures

pub loose_fault-returns-in-Hole : goal.loose_fault-returns-in-Hole
loose_fault-returns-in-Hole t c = hole_found (context_of c.args.env.now) c.args.scope.now c.args.form.now c.in-Hole.width c.unfit_width.result c.in-Hole.is c.unfit_width.ensures

pub loose_fault-returns-in-Pattern : goal.loose_fault-returns-in-Pattern
loose_fault-returns-in-Pattern t c = pattern_found (context_of c.args.env.now) c.args.scope.now c.args.form.now c.in-Pattern.pattern c.in-Pattern.es c.as_slice.result.now c.pattern_fault.result c.in-Pattern.is c.as_slice.ensures c.pattern_fault.ensures

pub loose_fault-returns-in-Braces : goal.loose_fault-returns-in-Braces
loose_fault-returns-in-Braces t c = braces_found (context_of c.args.env.now) c.args.scope.now c.args.form.now c.in-Braces.es c.as_slice-in-Braces.result.now c.first_fault.result c.in-Braces.is c.as_slice-in-Braces.ensures c.first_fault.ensures

pub loose_fault-returns-in-Unary : goal.loose_fault-returns-in-Unary
loose_fault-returns-in-Unary t c = unary_found (context_of c.args.env.now) c.args.scope.now c.args.form.now c.in-Unary.op c.in-Unary.of c.get-in-Unary.result.now c.own_fault-in-Unary.result c.in-Unary.is c.get-in-Unary.ensures c.own_fault-in-Unary.ensures

pub loose_fault-returns-in-Binary : goal.loose_fault-returns-in-Binary
loose_fault-returns-in-Binary t c =
    binary_found (context_of c.args.env.now) c.args.scope.now c.args.form.now c.in-Binary.op c.in-Binary.left c.in-Binary.right c.get-in-Binary.result.now c.get-in-Binary-2.result.now c.or-in-Binary.result c.own_fault-in_left.result c.own_fault-in_right.result
    c.in-Binary.is c.get-in-Binary.ensures c.get-in-Binary-2.ensures c.or-in-Binary.ensures c.own_fault-in_left.ensures c.own_fault-in_right.ensures

pub loose_fault-returns-in_default : goal.loose_fault-returns-in_default
loose_fault-returns-in_default t c = none_faulty (context_of c.args.env.now) c.args.scope.now c.args.form.now c.in_default.not-Paren c.in_default.not-Cond c.in_default.not-Hole c.in_default.not-Pattern c.in_default.not-Braces c.in_default.not-Unary c.in_default.not-Binary
