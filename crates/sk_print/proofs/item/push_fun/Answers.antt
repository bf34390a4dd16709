use Rattle.std.proofs.Common.{append_assoc}
use Rattle.sk_print.proofs.Mapped.{each_line_of}
use Rattle.sk_print.proofs.item.push_fun.Goals as goal

pub returns : goal.returns
returns c =
    let stmts = each_line_of c.args.prog.now c.args.f.now.body in
    simp (c.in_ok-extend_from_slice.ensures.items, c.in_ok-push_stmts.ensures, c.in_ok-push_head.ensures, c.as_slice.ensures, stmts, append_assoc)
