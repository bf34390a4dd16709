use Rattle.sk_interp.specs.Size.{value_size, values_size}
use Rattle.sk_interp.proofs.value.+equal.Given as goal

abbrev pub decreases-equal : goal.decreases-equal
decreases-equal l = value_size l.a.now

abbrev pub decreases-equal_all : goal.decreases-equal_all
decreases-equal_all l = values_size l.xs.now
