use Rattle.std.proofs.lemmas.Result.{err_from_is_err_and}
use Rattle.sk_types_names.specs.Envs.{context_of}
use Rattle.sk_types_stmts.proofs.DeclareLaws.{no_type}
use Rattle.sk_types_stmts.proofs.single.declare.Goals as goal

pub returns-in_err-ty : goal.returns-in_err-ty
returns-in_err-ty c =
    let p = err_from_is_err_and c.from_residual.result c.from_residual.ensures.1 in
    rw (p.1, p.2) (no_type (context_of c.args.env.now) c.args.from c.args.scope.now c.args.ty.now c.args.declared.now _ c.in_err-ty.ensures)
