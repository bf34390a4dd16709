use Rattle.sk_gates.proofs.shared.SharedGates.make_xor.Goals as goal

pub returns-clause-gate : goal.returns-clause-gate
returns-clause-gate c = rw (← c.self.view_is) c.in_ok-r.ensures.gate
