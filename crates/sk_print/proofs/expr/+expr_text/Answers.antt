use Rattle.std.proofs.Common.{append_assoc}
use Rattle.sk_print.proofs.Texts.{binary_text, cond_text, slice_text}
use Rattle.sk_print.proofs.expr.+expr_text.Goals as goal

pub push_expr-returns-in_ok-push_expr-in-Binary-2 : goal.push_expr-returns-in_ok-push_expr-in-Binary-2
push_expr-returns-in_ok-push_expr-in-Binary-2 t c =
    let text = binary_text c.args.prog.now c.args.e.now c.in-Binary.op c.in-Binary.left c.in-Binary.right c.in-Binary.is in
    simp (c.in_ok-push_expr-in-Binary-2.ensures, c.in_ok-push_op-in-Binary.ensures, c.in_ok-push_expr-in-Binary.ensures, c.get-in-Binary.ensures, c.get-in-Binary-2.ensures, text, append_assoc)

pub push_expr-returns-in_ok-push_expr-in-Cond-3 : goal.push_expr-returns-in_ok-push_expr-in-Cond-3
push_expr-returns-in_ok-push_expr-in-Cond-3 t c =
    let text = cond_text c.args.prog.now c.args.e.now c.in-Cond.cond c.in-Cond.then c.in-Cond.other c.in-Cond.is in
    simp (c.in_ok-push_expr-in-Cond-3.ensures, c.in_ok-extend_from_slice-in-Cond-2.ensures.items, c.in_ok-push_expr-in-Cond-2.ensures, c.in_ok-extend_from_slice-in-Cond.ensures.items, c.in_ok-push_expr-in-Cond.ensures, c.get-in-Cond.ensures, c.get-in-Cond-2.ensures, c.get-in-Cond-3.ensures, text, append_assoc)

pub push_expr-returns-in_ok-push_slice_end-in-Slice : goal.push_expr-returns-in_ok-push_slice_end-in-Slice
push_expr-returns-in_ok-push_slice_end-in-Slice t c =
    let text = slice_text c.args.prog.now c.args.e.now c.in-Slice.base c.in-Slice.from c.in-Slice.length c.in-Slice.is in
    simp (c.in_ok-push_slice_end-in-Slice.ensures, c.in_ok-push_expr-in-Slice-2.ensures, c.in_ok-extend_from_slice-in-Slice.ensures.items, c.in_ok-push_expr-in-Slice.ensures, c.get-in-Slice.ensures, c.get-in-Slice-2.ensures, text, append_assoc)
