use Rattle.std.proofs.Common.{◌≡◌, ◌++◌, ◌-◌}
use Rattle.sk_oblig_queries.specs.Said.{rows_said}
use Rattle.sk_oblig_queries.proofs.inputs.rows_said.Given as goal

abbrev pub invariant-loop-place : goal.invariant-loop-place
invariant-loop-place l = l.rows ++ rows_said l.elem l.length (l.count - l._place) l.rest ≡ rows_said l.elem l.length l.count l.numbers
