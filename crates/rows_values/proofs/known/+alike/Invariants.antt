use Rattle.std.proofs.Common.{◌≡◌, map, take}
use Rattle.sk_arr.specs.Shapes.{blank}
use Rattle.rows_values.proofs.known.+alike.Given as goal

-- those so far have the same forms
abbrev pub invariant-one_by_one-loop-a : goal.invariant-one_by_one-loop-a
invariant-one_by_one-loop-a l = record {
  place : l.i ≡ l.a-index;
  forms : map blank (take l.a-index l.list) ≡ map blank (take l.a-index l.others);
}
