use Rattle.std.proofs.Common.{length, sym, ◌∙◌}
use Rattle.std.proofs.lemmas.Result.{err_from_is_err_and}
use Rattle.sk_model.specs.Expand.{walk_funs}
use Rattle.sk_expand.proofs.Ordinary.{function_at, function_stops_at}
use Rattle.sk_expand.proofs.walker.Walker.functions.Goals as goal

pub loop-f-preserved : goal.loop-f-preserved
loop-f-preserved c =
    let w = c.args.self.now in
    let all = walk_funs w.bounds w.funs.now w.funs.now (length c.args.made.now.copies) in
    rw c.in_ok-push.ensures.items (function_at w.bounds w.funs.now c.loop-f.f-index c.f-item.result c.loop-f.all.items c.args.made.now c.loop-f.made all c.loop-f-test.true c.f-item.is c.loop-f.invariant c.in_ok-fun.fun c.function.new.made (sym c.is_generator.ensures ∙ c.if-is_generator.false) c.in_ok-fun.ensures)

pub returns-in_err-fun : goal.returns-in_err-fun
returns-in_err-fun c =
    let w = c.args.self.now in
    let all = walk_funs w.bounds w.funs.now w.funs.now (length c.args.made.now.copies) in
    let p = err_from_is_err_and c.from_residual.result c.from_residual.ensures.1 in
    rw (p.1, p.2) (function_stops_at w.bounds w.funs.now c.loop-f.f-index c.f-item.result c.loop-f.all.items c.args.made.now c.loop-f.made all c.loop-f-test.true c.f-item.is c.loop-f.invariant c.in_err-fun.field-0.0 (sym c.is_generator.ensures ∙ c.if-is_generator.false) c.in_err-fun.ensures)
