use Rattle.std.proofs.Common.{◌≡◌, ◌≤◌, drop, ◌++◌, ◌+◌, length}
use Rattle.std.specs.Prelude.{map}
use Rattle.sk_model.specs.Parts.{total}
use Rattle.sk_holes_marks.specs.Words.{marks_of_funs, sites_of}
use Rattle.sk_holes_marks.proofs.marks.mark_funs.Given as goal

-- the marks so far, and the functions that are left
abbrev pub invariant-loop-n : goal.invariant-loop-n
invariant-loop-n l = record {
  marks : l.marks.items ++ marks_of_funs l.values (drop l.n l.stands) (length l.marks.items) (drop l.n l.funs) ≡ l.fn.marks.items ++ marks_of_funs l.values l.stands (length l.fn.marks.items) l.funs;
  room : length l.marks.items + total (map (sites_of l.values) (drop l.n l.funs)) ≤ length l.values;
}
