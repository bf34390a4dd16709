use Rattle.std.proofs.lemmas.Result.{err_from_is_err_and}
use Rattle.sk_types_names.specs.Envs.{context_of}
use Rattle.sk_types_laws.proofs.Exact.{found, once}
use Rattle.sk_types_exprs.proofs.MeantLaws.{refuses}
use Rattle.sk_types_exprs.proofs.elaborate.meant_at.Goals as goal

pub returns-clause-found : goal.returns-clause-found
returns-clause-found c = found _ c.args.scope.now c.args.ty c.args.e.now _ c.in_ok-typed.ensures

pub returns-clause-only : goal.returns-clause-only
returns-clause-only c = λ p m. once _ c.args.scope.now c.requires.distinct c.args.ty c.args.e.now _ p c.in_ok-typed.ensures m

pub returns-in_err-typed-clause-only : goal.returns-in_err-typed-clause-only
returns-in_err-typed-clause-only c =
    let p = err_from_is_err_and c.from_residual.result c.from_residual.ensures.1 in
    rw (p.1, p.2) (refuses (context_of c.args.env.now) c.args.scope.now c.requires.distinct c.args.ty c.args.e.now _ c.in_err-typed.ensures)
