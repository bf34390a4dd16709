use Rattle.std.proofs.Common.{◌≡◌, ◌++◌, drop}
use Rattle.sk_adt.specs.Branches.{fields_from}
use Rattle.sk_adt.proofs.branch.push_fields.Given as goal

abbrev pub invariant-loop-j : goal.invariant-loop-j
invariant-loop-j l = l.out.items ++ fields_from l.variant l.j (drop l.j l.fields) ≡ l.fn.out.items ++ fields_from l.variant 0 l.fields
