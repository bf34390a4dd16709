use Rattle.std.proofs.Common.{All, subst}
use Rattle.std.proofs.lemmas.List.{take_all}
use Rattle.std.proofs.lemmas.List.Elements.{All-more}
use Rattle.sk_cert.specs.Certificates.{IsSmallInput}
use Rattle.sk_min_certificate.proofs.numbers.inputs_are_small.Goals as goal

pub loop-input-preserved : goal.loop-input-preserved
loop-input-preserved c = All-more IsSmallInput c.args.inputs.now c.loop-input.input-index c.input-item.result c.loop-input-test.true c.loop-input.invariant (subst IsSmallInput c.input-item.is c.input_is_small.ensures)

pub returns : goal.returns
returns c = subst (All IsSmallInput) (take_all c.loop-input.input-index c.args.inputs.now c.loop-input-test.false) c.loop-input.invariant
