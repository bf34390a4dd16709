use Rattle.sk_min_certify.proofs.Above.{choice_asked, choice_vain}
use Rattle.sk_min_certify.proofs.upper.upper_proof.Goals as goal

pub proof_of-requires-clause-asked : goal.proof_of-requires-clause-asked
proof_of-requires-clause-asked g c =
    choice_asked c.args.expanded.now c.args.bounds.now c.in_ok-copy.copy c.args.choice.now c.args.value c.in_ok-obligation.obligation c.args.place c.in_ok-copy.ensures c.in_ok-obligation.ensures.number c.requires.place c.requires.completes

pub proof_of-requires-clause-vain : goal.proof_of-requires-clause-vain
proof_of-requires-clause-vain g c =
    choice_vain c.args.expanded.now c.args.bounds.now c.in_ok-copy.copy c.args.choice.now c.args.value c.in_ok-obligation.obligation c.in_ok-copy.ensures c.requires.askable c.requires.completes
