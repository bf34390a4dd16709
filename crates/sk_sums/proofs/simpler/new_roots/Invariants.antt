use Rattle.std.proofs.Common.{◌≡◌, take, map}
use Rattle.sk_dag.specs.Reach.{new_bool}
use Rattle.sk_sums.proofs.simpler.new_roots.Given as goal

abbrev pub invariant-loop-root : goal.invariant-loop-root
invariant-loop-root l = l.made ≡ map (new_bool l.numbers) (take l.root-index l.roots)
