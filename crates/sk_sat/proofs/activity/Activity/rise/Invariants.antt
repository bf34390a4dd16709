use Rattle.sk_sat.proofs.activity.Activity.rise.Given as goal

abbrev pub decreases-up : goal.decreases-up
decreases-up l = l.hole
