use Rattle.std.proofs.lemmas.Result.{err_from_is_err_and}
use Rattle.sk_types_fit_laws.proofs.Whole.{well_formed}
use Rattle.sk_types.proofs.CheckLaws.{is_meant, made_once, only_memory, no_program}
use Rattle.sk_types.proofs.meant.check.Goals as goal

pub returns-in_err-meant-clause-only : goal.returns-in_err-meant-clause-only
returns-in_err-meant-clause-only c =
    let p = err_from_is_err_and c.from_residual.result c.from_residual.ensures.1 in
    rw (p.1, p.2) (λ prog m. only_memory c.args.bounds.now c.args.tree.now _ prog c.in_err-meant.ensures.gives m)

pub returns-in_err-meant-clause-fault : goal.returns-in_err-meant-clause-fault
returns-in_err-meant-clause-fault c =
    let p = err_from_is_err_and c.from_residual.result c.from_residual.ensures.1 in
    rw (p.1, p.2) (λ is prog m. no_program c.args.bounds.now c.args.tree.now _ prog c.in_err-meant.ensures.gives is m)

pub returns-clause-found : goal.returns-clause-found
returns-clause-found c = is_meant c.args.bounds.now c.args.tree.now c.in_ok-meant.meant c.in_ok-meant.ensures.gives

pub returns-clause-only : goal.returns-clause-only
returns-clause-only c = λ prog m. made_once c.args.bounds.now c.args.tree.now c.in_ok-meant.meant prog c.in_ok-meant.ensures.gives m

pub returns-clause-fits : goal.returns-clause-fits
returns-clause-fits c = λ names. well_formed c.args.bounds.now c.args.tree.now c.in_ok-meant.meant names (is_meant c.args.bounds.now c.args.tree.now c.in_ok-meant.meant c.in_ok-meant.ensures.gives)
