use Rattle.std.proofs.Common.{◌∙◌, ap, arith, ◌++◌, [], ◌∷◌}
use Rattle.sk_sat.proofs.StoreLemmas.{ends_more, parts_more}
use Rattle.sk_sat.proofs.store.Store.push.Goals as goal

pub invariant_of-self-2 : goal.invariant_of-self-2
invariant_of-self-2 c = ends_more c.self.inside.ends.items c.self.inside.lits.items c.args.clause.now _ _ c.len.result c.self.invariant c.in_ok-extend.ensures.ok (omega (arith, c.len.ensures, c.extend.new.flat.ok.0))
    (c.in_ok-push.ensures.items ∙ ap (λ x. x ++ c.len.result ∷ []) c.in_ok-reserve.ensures.items)

pub returns-clause-ok : goal.returns-clause-ok
returns-clause-ok c =
    let parts = parts_more c.self.inside.ends.items c.self.inside.lits.items c.args.clause.now _ _ c.len.result c.self.invariant c.in_ok-extend.ensures.ok (omega (arith, c.len.ensures, c.extend.new.flat.ok.0))
    (c.in_ok-push.ensures.items ∙ ap (λ x. x ++ c.len.result ∷ []) c.in_ok-reserve.ensures.items) in
    let before = c.self.view_is in
    cc
