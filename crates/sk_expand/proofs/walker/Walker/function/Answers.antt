use Rattle.std.proofs.Common.{length, ap, ◌∙◌}
use Rattle.std.proofs.lemmas.Result.{err_from_is_err_and}
use Rattle.sk_model.specs.Slots.{with_body}
use Rattle.sk_expand.proofs.Ordinary.{function_goes, body_stops}
use Rattle.sk_expand.proofs.walker.Walker.function.Goals as goal

pub returns : goal.returns
returns c =
    let w = c.args.self.now in
    let goes = rw c.as_slice.ensures at c.in_ok-body.ensures in
    let is = c.in_ok-fun.ensures ∙ ap (λ i. with_body (record c.args.fun.now { implements = i }) c.in_ok-body.body.items) c.implemented-implements.ensures in
    function_goes w.bounds w.funs.now w.active.now c.args.fun.now c.in_ok-body.body.items c.in_ok-fun.fun c.args.made.now c.stmts.new.made (length c.args.made.now.copies) c.requires.first goes is

pub returns-in_err-body : goal.returns-in_err-body
returns-in_err-body c =
    let w = c.args.self.now in
    let p = err_from_is_err_and c.from_residual.result c.from_residual.ensures.1 in
    let less = rw c.as_slice.ensures at c.in_err-body.ensures in
    rw (p.1, p.2) (body_stops w.bounds w.funs.now w.active.now c.args.fun.now c.args.made.now c.in_err-body.field-0.0 (length c.args.made.now.copies) c.requires.first less)
