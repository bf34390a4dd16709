use Rattle.std.proofs.lemmas.Result.{err_from_is_err_and}
use Rattle.std.specs.Option.{option_copied}
use Rattle.sk_min_certify.proofs.Putting.{stop_above}
use Rattle.sk_min_certify.proofs.certifying.proofs.Goals as goal

pub returns-in_err-upper-clause-stops : goal.returns-in_err-upper-clause-stops
returns-in_err-upper-clause-stops g c =
    let p = err_from_is_err_and c.from_residual.result c.from_residual.ensures.1 in
    rw (p.1, p.2)
    (stop_above c.args.expanded.now c.args.bounds.now c.args.value c.args.inputs.now (option_copied c.args.choice) c.args.conflicts _ c.requires.askable c.requires.completes c.requires.inputs c.in_err-upper.ensures.stops)
