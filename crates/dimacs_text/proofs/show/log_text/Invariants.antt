use Rattle.std.proofs.Common.{◌≡◌, take}
use Rattle.std.specs.String.{string_bytes}
use Rattle.std.specs.List.{flat_map}
use Rattle.dimacs_text.specs.Written.{clause_text}
use Rattle.dimacs_text.proofs.show.log_text.Given as goal

abbrev pub invariant-loop-i : goal.invariant-loop-i
invariant-loop-i l = string_bytes l.text ≡ flat_map clause_text (take l.i l.log)
