use Rattle.std.proofs.Common.{◌≡◌, ◌++◌, ◌-◌}
use Rattle.sk_oblig_queries.specs.Said.{row_said}
use Rattle.sk_oblig_queries.proofs.inputs.row_said.Given as goal

abbrev pub invariant-loop-place : goal.invariant-loop-place
invariant-loop-place l = l.row ++ row_said l.elem (l.length - l._place) l.rest ≡ row_said l.elem l.length l.numbers
