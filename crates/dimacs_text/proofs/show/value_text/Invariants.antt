use Rattle.std.proofs.Common.{◌≡◌, ◌++◌, take}
use Rattle.std.specs.Prelude.{codes}
use Rattle.std.specs.String.{string_bytes}
use Rattle.dimacs_text.specs.Written.{true_lits}
use Rattle.dimacs_text.proofs.show.value_text.Given as goal

abbrev pub invariant-loop-v : goal.invariant-loop-v
invariant-loop-v l = string_bytes l.text ≡ codes "v " ++ true_lits 0 (take l.v l.values)
