use Rattle.std.proofs.Common.{◌≡◌, ◌++◌, take}
use Rattle.std.specs.String.{string_bytes}
use Rattle.std.specs.List.{flat_map}
use Rattle.dimacs_text.specs.Written.{lit_text}
use Rattle.dimacs_text.proofs.show.put_clause.Given as goal

abbrev pub invariant-loop-l : goal.invariant-loop-l
invariant-loop-l l = string_bytes l.text ≡ string_bytes l.fn.text ++ flat_map lit_text (take l.l-index l.clause)
