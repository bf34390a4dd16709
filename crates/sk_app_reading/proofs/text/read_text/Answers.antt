use Rattle.std.proofs.Common.{arith}
use Rattle.std.proofs.lemmas.Grind.{common_steps}
use Rattle.sk_app_reading.proofs.StreamLemmas.{loses_few}
use Rattle.sk_app_reading.proofs.text.read_text.Goals as goal

pub returns-in_err-read_more-clause-few : goal.returns-in_err-read_more-clause-few
returns-in_err-read_more-clause-few g c = loses_few c.reading.invariant c.in_err-read_more.ensures.step.is (grind (arith, common_steps))
