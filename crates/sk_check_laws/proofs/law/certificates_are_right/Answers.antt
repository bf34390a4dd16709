use Rattle.sk_check_laws.proofs.Certified.{certificates_are_right}
use Rattle.sk_check_laws.proofs.law.certificates_are_right.Goals as goal

pub returns : goal.returns
returns c = certificates_are_right
