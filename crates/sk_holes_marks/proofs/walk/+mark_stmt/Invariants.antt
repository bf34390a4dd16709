use Rattle.std.proofs.Common.{◌≡◌, drop, ◌+◌, ◌++◌, length}
use Rattle.sk_holes_marks.specs.Words.{stmts, copies}
use Rattle.sk_holes_marks.proofs.walk.+mark_stmt.Given as goal

-- the marks from here, behind the marks so far, are all marks
abbrev pub invariant-mark_stmts-loop-s : goal.invariant-mark_stmts-loop-s
invariant-mark_stmts-loop-s l = record {
  marks : l.marks.items ++ (stmts l.values (drop l.s-index l.ss)).at l.stands (length l.marks.items) ≡ l.fn.marks.items ++ (stmts l.values l.ss).at l.stands (length l.fn.marks.items);
  place : length l.marks.items + (stmts l.values (drop l.s-index l.ss)).count ≡ length l.fn.marks.items + (stmts l.values l.ss).count;
}

abbrev pub invariant-mark_copies-loop-k : goal.invariant-mark_copies-loop-k
invariant-mark_copies-loop-k l = record {
  marks : l.marks.items ++ (copies l.values l.number l.k (drop l.k l.ss)).at l.stands (length l.marks.items) ≡ l.fn.marks.items ++ (copies l.values l.number 0 l.ss).at l.stands (length l.fn.marks.items);
  place : length l.marks.items + (stmts l.values (drop l.k l.ss)).count ≡ length l.fn.marks.items + (stmts l.values l.ss).count;
}
