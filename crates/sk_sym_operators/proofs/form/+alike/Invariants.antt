use Rattle.std.proofs.Common.{◌≡◌, ◌+◌, ◌*◌, take, map}
use Rattle.sk_arr.specs.Shapes.{blank}
use Rattle.sk_arr.proofs.Depths.{depth, depths}
use Rattle.sk_sym_operators.proofs.form.+alike.Given as goal

-- each call goes one down, from a list to an element or from an array to its list
abbrev pub decreases-alike : goal.decreases-alike
decreases-alike l = 2 * depth l.a.now

abbrev pub decreases-all_alike : goal.decreases-all_alike
decreases-all_alike l = 2 * depths l.list.now + 1

-- those so far are alike
abbrev pub invariant-all_alike-loop-a : goal.invariant-all_alike-loop-a
invariant-all_alike-loop-a l = record {
  place : l.i ≡ l.a-index;
  alike : map blank (take l.a-index l.list) ≡ map blank (take l.a-index l.others);
}
