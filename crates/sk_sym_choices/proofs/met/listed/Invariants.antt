use Rattle.std.proofs.Common.{◌≡◌, take}
use Rattle.sk_sym_choices.proofs.met.listed.Given as goal

abbrev pub invariant-loop-t : goal.invariant-loop-t
invariant-loop-t l = l.made ≡ take l.t-index l.path
