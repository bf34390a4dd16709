use Rattle.std.proofs.Common.{◌≡◌, ◌≤◌, replicate}
use Rattle.sk_sym_choices.proofs.order.copies_of.Given as goal

abbrev pub invariant-loop-i : goal.invariant-loop-i
invariant-loop-i l = record {
  within : l._i ≤ l.count;
  made : l.made ≡ replicate l._i l.node;
}
