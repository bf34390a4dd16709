use Rattle.std.proofs.Common.{◌≡◌, drop, ◌+◌, ◌++◌, length}
use Rattle.sk_holes_marks.specs.Words.{exprs, fields, strings}
use Rattle.sk_holes_marks.proofs.walk.+mark_expr.Given as goal

-- the marks from here, behind the marks so far, are all marks
abbrev pub invariant-mark_exprs-loop-e : goal.invariant-mark_exprs-loop-e
invariant-mark_exprs-loop-e l = record {
  marks : l.marks.items ++ (exprs l.values (drop l.e-index l.es)).at l.stands (length l.marks.items) ≡ l.fn.marks.items ++ (exprs l.values l.es).at l.stands (length l.fn.marks.items);
  place : length l.marks.items + (exprs l.values (drop l.e-index l.es)).count ≡ length l.fn.marks.items + (exprs l.values l.es).count;
}

abbrev pub invariant-mark_fields-loop-x : goal.invariant-mark_fields-loop-x
invariant-mark_fields-loop-x l = record {
  marks : l.marks.items ++ (fields l.values (drop l.x-index l.given)).at l.stands (length l.marks.items) ≡ l.fn.marks.items ++ (fields l.values l.given).at l.stands (length l.fn.marks.items);
  place : length l.marks.items + (fields l.values (drop l.x-index l.given)).count ≡ length l.fn.marks.items + (fields l.values l.given).count;
}

abbrev pub invariant-mark_strings-loop-k : goal.invariant-mark_strings-loop-k
invariant-mark_strings-loop-k l = record {
  marks : l.marks.items ++ (strings l.values l.number l.k (drop l.k l.es)).at l.stands (length l.marks.items) ≡ l.fn.marks.items ++ (strings l.values l.number 0 l.es).at l.stands (length l.fn.marks.items);
  place : length l.marks.items + (exprs l.values (drop l.k l.es)).count ≡ length l.fn.marks.items + (exprs l.values l.es).count;
}
