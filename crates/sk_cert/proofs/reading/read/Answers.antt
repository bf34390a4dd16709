use Rattle.sk_cert.proofs.Departure.{whole_only}
use Rattle.sk_cert.proofs.reading.read.Goals as goal

pub returns-in-Ok-clause-certificate : goal.returns-in-Ok-clause-certificate
returns-in-Ok-clause-certificate c = whole_only c.args.text.now c.in-Ok.certificate c.in-Ok.ensures
