use Rattle.sk_dag.proofs.EvalLemmas.{Keeps-trans}
use Rattle.sk_sym_stores.proofs.Fields.{fits_may, written_moves, whole_stores}
use Rattle.sk_sym_stores.proofs.storing.write_target.Goals as goal

pub write_field_under-requires-clause-write : goal.write_field_under-requires-clause-write
write_field_under-requires-clause-write c = record {
  prog = c.args.setting.now.expanded.now.prog;
  of_struct = c.args.kind;
  may = fits_may c.requires.stands c.requires.target c.requires.fits c.requires.value;
}

pub fail_where-requires-clause-stands : goal.fail_where-requires-clause-stands
fail_where-requires-clause-stands c =
    let write = c.in_ok-null.ensures in
    let may = fits_may c.requires.stands c.requires.target c.requires.fits c.requires.value in
    (written_moves {x = c.args.setting.now} c.requires.stands write.keeps may write.null write.written (write.stands c.args.setting.now.expanded.now.prog c.args.kind may)).stands

pub returns-clause-stores : goal.returns-clause-stores
returns-clause-stores c =
    let write = c.in_ok-null.ensures in
    let may = fits_may c.requires.stands c.requires.target c.requires.fits c.requires.value in
    whole_stores c.args.span c.requires.stands write.keeps may write.null write.written (write.stands c.args.setting.now.expanded.now.prog c.args.kind may) c.in_ok-fail_where.ensures.fails

pub returns-in_err-fail_where-clause-keeps : goal.returns-in_err-fail_where-clause-keeps
returns-in_err-fail_where-clause-keeps c = Keeps-trans c.in_ok-null.ensures.keeps c.fail_where.ensures.keeps

pub returns-clause-keeps : goal.returns-clause-keeps
returns-clause-keeps c = Keeps-trans c.in_ok-null.ensures.keeps c.in_ok-fail_where.ensures.keeps
