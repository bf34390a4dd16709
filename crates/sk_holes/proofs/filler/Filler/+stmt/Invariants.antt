use Rattle.std.proofs.Common.{◌≡◌, drop, ◌++◌, ◌+◌, ◌-◌, [], length}
use Rattle.sk_model.specs.Fill.{arrange}
use Rattle.sk_holes.specs.Filling.{stmts}
use Rattle.sk_holes.proofs.filler.Filler.+stmt.Given as goal

-- what is filled from here, after what is filled so far, is all that is filled
abbrev pub invariant-stmts-loop-s : goal.invariant-stmts-loop-s
invariant-stmts-loop-s l = record {
  filled : l.filled.items ++ (stmts l.self (drop l.s-index l.ss)).at l.at ≡ (stmts l.self l.ss).at l.fn.at;
  at : l.at + (stmts l.self (drop l.s-index l.ss)).count ≡ l.fn.at + (stmts l.self l.ss).count;
}

-- to put in those from here is to put in all
abbrev pub invariant-reordered-loop-s : goal.invariant-reordered-loop-s
invariant-reordered-loop-s l = record {
  placed : arrange l.self.values.now l.first l.placed.items ((stmts l.self (drop l.s-index l.ss)).at l.at) ≡ arrange l.self.values.now l.first [] ((stmts l.self l.ss).at (l.first + (length l.ss - 1)));
  count : length l.placed.items ≡ l.s-index;
  at : l.at + (stmts l.self (drop l.s-index l.ss)).count ≡ l.first + ((length l.ss - 1) + (stmts l.self l.ss).count);
}
