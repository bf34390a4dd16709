use Rattle.sk_cert.proofs.Computed.{of_nothing, by_obligation, of_version_one, of_none}
use Rattle.sk_cert.proofs.examples.texts_of_certificates.Goals as goal

pub returns : goal.returns
returns c = record { nothing = of_nothing; obligations = by_obligation; first_version = of_version_one; none = of_none }
