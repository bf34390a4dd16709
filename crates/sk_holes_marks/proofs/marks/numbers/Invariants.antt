use Rattle.std.proofs.Common.{◌≡◌, drop, ◌++◌}
use Rattle.std.specs.Prelude.{IsTrue}
use Rattle.sk_holes_marks.specs.Words.{are_numbers}
use Rattle.sk_holes_marks.proofs.marks.numbers.Given as goal

abbrev pub invariant-loop-value : goal.invariant-loop-value
invariant-loop-value l = record {
  copied : l.numbers.items ++ drop l.value-index l.values ≡ l.values;
  small : IsTrue (are_numbers (drop l.value-index l.values));
}
