use Rattle.std.proofs.Common.{◌≡◌, ◌++◌, ◌≤◌, ◌+◌, length}
use Rattle.std.specs.Prelude.{replicate}
use Rattle.sk_holes_marks.proofs.walk.mark_sites.Given as goal

-- the marks so far
abbrev pub invariant-loop : goal.invariant-loop
invariant-loop l = record {
  marks : l.marks.items ≡ l.fn.marks.items ++ replicate l.counter l.stands;
  place : length l.marks.items ≡ length l.fn.marks.items + l.counter;
  within : l.counter ≤ l.count;
}
