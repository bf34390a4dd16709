use Rattle.std.proofs.Common.{sym, ap, ◌∙◌}
use Rattle.std.proofs.lemmas.Result.{err_from_is_err_and}
use Rattle.sk_types_plain.specs.Steady.{is_clear}
use Rattle.sk_types_exprs.proofs.PartLaws.{fails_nothing}
use Rattle.sk_types.proofs.WholeLaws.{tree_refused, tree_plain, fails_as}
use Rattle.sk_types.proofs.meant.prog_of.Goals as goal

pub returns-in-Some : goal.returns-in-Some
returns-in-Some c = fails_nothing _ _ (tree_refused c.args.bounds.now c.args.tree.now (sym c.unsteady_step.ensures ∙ ap is_clear c.in-Some.is))

pub returns-in_err-prog-in-None : goal.returns-in_err-prog-in-None
returns-in_err-prog-in-None c =
    let p = err_from_is_err_and c.from_residual-in_err-prog-in-None.result c.from_residual-in_err-prog-in-None.ensures.1 in
    rw (p.1, p.2) (fails_as _ _ _ (tree_plain c.args.bounds.now c.args.tree.now c.in_ok-plain-in-None.plain c.as_slice.result.now (sym c.unsteady_step.ensures ∙ ap is_clear c.in-None.is) c.in_ok-plain-in-None.ensures c.as_slice.ensures) c.in_err-prog-in-None.ensures)

pub returns-in_ok-prog-in-None : goal.returns-in_ok-prog-in-None
returns-in_ok-prog-in-None c =
    tree_plain c.args.bounds.now c.args.tree.now c.in_ok-plain-in-None.plain c.as_slice.result.now (sym c.unsteady_step.ensures ∙ ap is_clear c.in-None.is) c.in_ok-plain-in-None.ensures c.as_slice.ensures ∙ c.in_ok-prog-in-None.ensures
