use Rattle.std.proofs.Common.{sym, ap, ◌∙◌}
use Rattle.std.proofs.lemmas.Result.{err_from_is_err_and}
use Rattle.sk_types_rules.specs.Sorts.{is_some_type}
use Rattle.sk_types_names.specs.Envs.{context_of}
use Rattle.sk_types_stmts.proofs.TargetLaws.{target_kept, target_passed, target_fails}
use Rattle.sk_types_stmts.proofs.target.targets.Goals as goal
use Rattle.sk_types_stmts.proofs.target.targets.Goals.{then-is_type+in_ok-p+in_ok-push, else-is_type}

pub loop-e-preserved : goal.loop-e-preserved
loop-e-preserved c =
    let test = ap (λ o. is_some_type o c.args.ty) c.in_ok-target_type.ensures ∙ sym c.is_type.ensures in
    elim c.if-is_type.branch [
      | then-is_type+in_ok-p+in_ok-push w ↦
          c.loop-e.invariant
          ∙ target_kept (context_of c.args.env.now) c.args.scope.now c.args.ty c.args.es.now c.loop-e.e-index c.loop-e.made c.if-is_type.made c.e-item.result w.in_ok-p.p
          c.loop-e-test.true c.e-item.is (test ∙ w.if-is_type.true) w.in_ok-p.ensures (cc (w.made-is, w.in_ok-push.ensures.ok))
      | else-is_type w ↦
          c.loop-e.invariant
          ∙ target_passed (context_of c.args.env.now) c.args.scope.now c.args.ty c.args.es.now c.loop-e.e-index c.loop-e.made c.if-is_type.made c.e-item.result
          c.loop-e-test.true c.e-item.is (test ∙ w.if-is_type.false) (cc (w.made-is))
    ]

pub returns-in_err-p : goal.returns-in_err-p
returns-in_err-p c =
    let p = err_from_is_err_and c.from_residual-in_err-p.result c.from_residual-in_err-p.ensures.1 in
    let test = ap (λ o. is_some_type o c.args.ty) c.in_ok-target_type.ensures ∙ sym c.is_type.ensures ∙ c.if-is_type.true in
    rw (p.1, p.2) (target_fails (context_of c.args.env.now) c.args.scope.now c.args.ty c.args.es.now c.loop-e.e-index c.loop-e.made c.e-item.result _ _ c.loop-e-test.true c.e-item.is test c.loop-e.invariant c.in_err-p.ensures)
