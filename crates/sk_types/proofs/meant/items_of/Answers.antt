use Rattle.std.proofs.Common.{true, false, sym, ◌∙◌}
use Rattle.std.proofs.lemmas.Result.{err_from_is_err_and}
use Rattle.sk_types_names.specs.Envs.{top_seen}
use Rattle.sk_types.proofs.SignatureLaws.{refused}
use Rattle.sk_types.proofs.WholeLaws.{items_named, fails_as}
use Rattle.sk_types.proofs.meant.items_of.Goals as goal

pub returns-then-not-distinct : goal.returns-then-not-distinct
returns-then-not-distinct c =
    refused _ _ _ c.fault.ensures (items_named c.args.bounds.now c.args.items.now (top_seen c.in_ok-names.names) false c.in_ok-names.ensures (sym c.in_ok-distinct.ensures ∙ c.if-not-distinct.true))

pub returns-in_err-prog : goal.returns-in_err-prog
returns-in_err-prog c =
    let p = err_from_is_err_and c.from_residual-in_err-prog.result c.from_residual-in_err-prog.ensures.1 in
    rw (p.1, p.2) (fails_as _ _ _ (items_named c.args.bounds.now c.args.items.now (top_seen c.in_ok-names.names) true c.in_ok-names.ensures (sym c.in_ok-distinct.ensures ∙ c.if-not-distinct.false)) c.in_err-prog.ensures)

pub returns : goal.returns
returns c = items_named c.args.bounds.now c.args.items.now (top_seen c.in_ok-names.names) true c.in_ok-names.ensures (sym c.in_ok-distinct.ensures ∙ c.if-not-distinct.false) ∙ c.in_ok-prog.ensures
