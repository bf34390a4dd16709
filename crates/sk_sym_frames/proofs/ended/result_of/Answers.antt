use Rattle.std.proofs.Common.{sym, subst}
use Rattle.std.specs.Prelude.{Some}
use Rattle.sk_sym_frames.specs.Ended.{IsResult}
use Rattle.sk_sym_frames.proofs.Results.{result_zero}
use Rattle.sk_sym_frames.proofs.ended.result_of.Goals as goal

pub returns-in_ok-zero-in-None-clause-result : goal.returns-in_ok-zero-in-None-clause-result
returns-in_ok-zero-in-None-clause-result c =
    let zero = c.in_ok-zero-in-None.zero in
    subst (λ t. IsResult c.zero_of.new.dag t c.args.value (Some zero)) (sym c.in-Some.is)
    (subst (λ v. IsResult c.zero_of.new.dag (Some c.in-Some.t) v (Some zero)) (sym c.in-None.is) (result_zero c.in-Some.t zero c.in_ok-zero-in-None.ensures.given))
