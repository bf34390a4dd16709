use Rattle.sk_interp.proofs.activation.Activation.+is_steady.Given as goal

abbrev pub decreases-is_steady : goal.decreases-is_steady
decreases-is_steady l = l.levels
