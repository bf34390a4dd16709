use Rattle.std.proofs.Common.{arith, refl, sym, eqb-true}
use Rattle.std.proofs.lemmas.Result.{err_from_is_err_and}
use Rattle.sk_lexer.proofs.Pieces.{piece_positive, reached_more, reached_all, reached_wrong, reached_too_large}
use Rattle.sk_lexer.proofs.lexer.divide.Goals as goal

pub returns-in_err-push_token-in-Some-clause-fault : goal.returns-in_err-push_token-in-Some-clause-fault
returns-in_err-push_token-in-Some-clause-fault c =
    let p = err_from_is_err_and c.from_residual.result c.from_residual.ensures.1 in
    rw (p.1, p.2) (reached_too_large _ _ _ _ _ _ _ _ c.loop-rest.invariant c.in-Some.ensures.found c.split_at.ensures.front c.in_err-push_token-in-Some.ensures.fault)

pub loop-rest-smaller : goal.loop-rest-smaller
loop-rest-smaller c = omega (arith, piece_positive _ _ _ c.in-Some.ensures.found)

pub loop-rest-preserved : goal.loop-rest-preserved
loop-rest-preserved c =
    reached_more _ _ _ c.split_at.result.0.now _ _ _ _ _ _ c.loop-rest.invariant c.in-Some.ensures.found c.in_ok-push_token-in-Some.ensures.within c.split_at.ensures.front c.split_at.ensures.back c.in_ok-push_token-in-Some.ensures.pushed refl

pub returns-in-None-clause-fault : goal.returns-in-None-clause-fault
returns-in-None-clause-fault c = reached_wrong _ _ _ _ _ c.loop-rest.invariant c.fault_of.ensures

pub returns-clause-found : goal.returns-clause-found
returns-clause-found c = reached_all _ _ _ _ c.loop-rest.invariant (eqb-true _ 0 (sym c.loop-rest-test.ensures))
