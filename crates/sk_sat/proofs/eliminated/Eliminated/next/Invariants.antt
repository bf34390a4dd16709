use Rattle.sk_sat.proofs.eliminated.Eliminated.next.Given as goal

abbrev pub decreases-back : goal.decreases-back
decreases-back l = l.self.left
