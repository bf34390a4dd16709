use Rattle.std.proofs.Common.{length, sym, ap, subst, ◌∙◌, arith}
use Rattle.sk_dag.specs.Graph.{BoolSort}
use Rattle.sk_arr.specs.Shapes.{blank}
use Rattle.sk_arr.proofs.Standing.{Stands-keeps, AllIn-keeps}
use Rattle.sk_heap.specs.Fields.{field_at, FieldFits}
use Rattle.sk_heap.specs.Steps.{IsRewritten}
use Rattle.sk_heap.proofs.ReadLaws.{first_fits, more_fit, FieldsFit-keeps}
use Rattle.sk_heap.proofs.WriteLaws.{still_there, written_more}
use Rattle.sk_heap.proofs.write.+write_targets.Goals as goal

pub rewritten-requires-clause-field : goal.rewritten-requires-clause-field
rewritten-requires-clause-field t c =
    subst (λ l. FieldFits c.args.dag.now l c.in-Some.front.slot c.args.field (blank c.args.value.now)) (sym c.as_slice.ensures.value)
    (first_fits c.in-Some.ensures c.requires.fields)

pub write_targets-requires : goal.write_targets-requires
write_targets-requires t c =
    let k = c.in_ok-r.ensures.keeps in
    (omega (arith, ap length c.in-Some.ensures), (k.sorts _ BoolSort c.requires.guard, (AllIn-keeps k c.requires.targets, (more_fit c.in-Some.ensures (FieldsFit-keeps k c.requires.fields), Stands-keeps k c.requires.value))))

pub put-requires : goal.put-requires
put-requires t c =
    let r = c.in_ok-r.ensures.rewritten in
    still_there c.in_ok-write_targets.ensures.written c.in-Some.front.slot r.old
    (sym (ap (λ l. field_at l c.in-Some.front.slot c.args.field) c.as_slice.ensures.value) ∙ r.found)

pub returns-clause-written : goal.returns-clause-written
returns-clause-written t c =
    written_more c.in-Some.ensures
    (subst (λ l. IsRewritten c.rewritten.new.dag c.args.guard l c.args.target.now c.in-Some.front.slot c.args.field c.args.value.now c.in_ok-r.r) c.as_slice.ensures.value c.in_ok-r.ensures.rewritten)
    c.in_ok-write_targets.ensures.keeps c.in_ok-write_targets.ensures.written c.put.ensures
