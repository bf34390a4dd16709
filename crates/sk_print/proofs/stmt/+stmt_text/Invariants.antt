use Rattle.std.proofs.Common.{◌≡◌, drop, ◌++◌, map}
use Rattle.sk_print.specs.Layout.{each_line, stmt_lines}
use Rattle.sk_print.proofs.stmt.+stmt_text.Given as goal

abbrev pub invariant-push_stmts-loop-s : goal.invariant-push_stmts-loop-s
invariant-push_stmts-loop-s l =
    l.out.items ++ each_line l.is_body l.depth (map (stmt_lines l.fn.prog) (drop l.s-index l.stmts))
    ≡ l.fn.out.items ++ each_line l.is_body l.depth (map (stmt_lines l.fn.prog) l.stmts)
