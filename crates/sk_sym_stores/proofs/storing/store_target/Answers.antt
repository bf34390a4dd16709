use Rattle.sk_dag.proofs.EvalLemmas.{Keeps-trans, Keeps_four}
use Rattle.sk_arr.proofs.Standing.{Stands-keeps}
use Rattle.sk_sym_state.proofs.Standing.{StateStands-keeps}
use Rattle.sk_sym_stores.proofs.Fields.{field_changes, field_written, field_stores, may_write}
use Rattle.sk_sym_stores.proofs.storing.store_target.Goals as goal

pub replaced-requires-clause-part : goal.replaced-requires-clause-part
replaced-requires-clause-part c = Stands-keeps c.in_ok-whole.ensures.keeps c.requires.value

pub fail_where-requires-clause-stands : goal.fail_where-requires-clause-stands
fail_where-requires-clause-stands c = StateStands-keeps (Keeps-trans c.in_ok-whole.ensures.keeps (Keeps-trans c.in_ok-made.ensures.keeps c.in_ok-fails.ensures.keeps)) c.requires.stands

pub write_field_under-requires-clause-write : goal.write_field_under-requires-clause-write
write_field_under-requires-clause-write c =
    let read = c.in_ok-whole.ensures in
    let made = c.in_ok-made.ensures in
    record {
      prog = c.args.setting.now.expanded.now.prog;
      of_struct = c.args.kind;
      may = may_write c.requires.stands c.requires.target c.requires.may read.keeps read.read made.keeps made.replaced c.in_ok-fails.ensures.keeps c.in_ok-fail_where.ensures.fails;
    }

pub returns-clause-stores : goal.returns-clause-stores
returns-clause-stores c =
    let read = c.in_ok-whole.ensures in
    let made = c.in_ok-made.ensures in
    let fails = c.in_ok-fails.ensures in
    let f = c.in_ok-fail_where.ensures.fails in
    let write = c.in_ok-write_field_under.ensures in
    let may = may_write c.requires.stands c.requires.target c.requires.may read.keeps read.read made.keeps made.replaced fails.keeps f in
    field_stores c.args.span
    (field_changes c.args.span c.requires.stands read.keeps read.read made.keeps made.replaced fails.keeps fails.value f)
    (field_written f.moves.stands write.keeps may write.null write.written (write.stands c.args.setting.now.expanded.now.prog c.args.kind may) c.args.span (λ g m e. read.read.is_null.value g (made.keeps.later g (fails.keeps.later g (f.moves.keeps.later g m))) e))

pub returns-clause-keeps : goal.returns-clause-keeps
returns-clause-keeps c = Keeps-trans c.in_ok-whole.ensures.keeps (Keeps-trans c.in_ok-made.ensures.keeps (Keeps-trans c.in_ok-fails.ensures.keeps (Keeps-trans c.in_ok-fail_where.ensures.keeps c.in_ok-write_field_under.ensures.keeps)))

pub returns-in_err-fails-clause-keeps : goal.returns-in_err-fails-clause-keeps
returns-in_err-fails-clause-keeps c = Keeps-trans c.in_ok-whole.ensures.keeps (Keeps-trans c.in_ok-made.ensures.keeps c.or.ensures.keeps)

pub returns-in_err-fail_where-clause-keeps : goal.returns-in_err-fail_where-clause-keeps
returns-in_err-fail_where-clause-keeps c = Keeps_four c.in_ok-whole.ensures.keeps c.in_ok-made.ensures.keeps c.in_ok-fails.ensures.keeps c.fail_where.ensures.keeps

pub returns-in_err-write_field_under-clause-keeps : goal.returns-in_err-write_field_under-clause-keeps
returns-in_err-write_field_under-clause-keeps c = Keeps-trans c.in_ok-whole.ensures.keeps (Keeps_four c.in_ok-made.ensures.keeps c.in_ok-fails.ensures.keeps c.in_ok-fail_where.ensures.keeps c.write_field_under.ensures.keeps)
