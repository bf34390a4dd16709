use Rattle.std.proofs.Common.{append_assoc}
use Rattle.sk_print.proofs.Texts.{minrepeat_text, reorder_text}
use Rattle.sk_print.proofs.stmt.+stmt_text.Goals as goal

pub push_stmt-returns-in_ok-push_line-in-MinRepeat-2 : goal.push_stmt-returns-in_ok-push_line-in-MinRepeat-2
push_stmt-returns-in_ok-push_line-in-MinRepeat-2 t c =
    let text = minrepeat_text c.args.prog.now c.args.s.now c.in-MinRepeat.copies c.in-MinRepeat.is c.args.is_body c.args.depth in
    simp (c.in_ok-push_line-in-MinRepeat-2.ensures, c.in_ok-push_stmts-in-MinRepeat.ensures, c.in_ok-push_line-in-MinRepeat.ensures, c.as_slice-in-MinRepeat.ensures, c.in_ok-deeper-in-MinRepeat.ensures, text, append_assoc)

pub push_stmt-returns-in_ok-push_line-in-Reorder-2 : goal.push_stmt-returns-in_ok-push_line-in-Reorder-2
push_stmt-returns-in_ok-push_line-in-Reorder-2 t c =
    let text = reorder_text c.args.prog.now c.args.s.now c.in-Reorder.stmts c.in-Reorder.is c.args.is_body c.args.depth in
    simp (c.in_ok-push_line-in-Reorder-2.ensures, c.in_ok-push_stmts-in-Reorder.ensures, c.in_ok-push_line-in-Reorder.ensures, c.as_slice-in-Reorder.ensures, c.in_ok-deeper-in-Reorder.ensures, text, append_assoc)
