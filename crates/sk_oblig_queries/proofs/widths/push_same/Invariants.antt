use Rattle.std.proofs.Common.{◌≡◌, ◌++◌, ◌≤◌, replicate}
use Rattle.sk_oblig_queries.proofs.widths.push_same.Given as goal

abbrev pub invariant-loop-place : goal.invariant-loop-place
invariant-loop-place l = record {
  within : l._place ≤ l.count;
  made : l.widths ≡ l.initial.widths ++ replicate l._place l.width;
}
