use Rattle.std.proofs.Common.{◌≡◌, refl, sym, subst, ◌∙◌}
use Rattle.sk_dag.proofs.EvalLemmas.{Keeps-trans}
use Rattle.sk_arr.specs.Held.{AllIn}
use Rattle.sk_arr.specs.Shapes.{blank}
use Rattle.sk_arr.proofs.Standing.{Stands-keeps, AllIn-keeps, targets_there}
use Rattle.sk_heap.specs.Fields.{FieldsFit}
use Rattle.sk_heap.specs.Heaps.{HeapStands}
use Rattle.sk_heap.specs.Steps.{AreWritten}
use Rattle.sk_heap.proofs.Heaps.{HeapStands-keeps}
use Rattle.sk_heap.proofs.ReadLaws.{FieldsFit-keeps}
use Rattle.sk_heap.proofs.WriteLaws.{can_fit, fields_written, written_stands}
use Rattle.sk_heap.proofs.heap.SymHeap.write_field_under.Goals as goal

pub none_of-requires : goal.none_of-requires
none_of-requires c = subst (AllIn c.args.dag.now) (sym c.as_slice-targets.ensures) (targets_there c.requires.write.may.refers.stands refl)

pub returns-in_err-null-clause-stands : goal.returns-in_err-null-clause-stands
returns-in_err-null-clause-stands c = λ prog s may. HeapStands-keeps c.in_err-null.ensures.keeps may.heap_stands

pub write_targets-requires-clause-targets : goal.write_targets-requires-clause-targets
write_targets-requires-clause-targets c = AllIn-keeps c.in_ok-null.ensures.keeps (targets_there c.requires.write.may.refers.stands refl)

pub write_targets-requires-clause-fields : goal.write_targets-requires-clause-fields
write_targets-requires-clause-fields c =
    subst (λ l. FieldsFit c.none_of.new.dag l c.as_slice-targets.result.now c.args.field (blank c.args.value.now)) (sym c.self.view_is)
    (subst (λ ts. FieldsFit c.none_of.new.dag c.args.self.now ts c.args.field (blank c.args.value.now)) (sym c.as_slice-targets.ensures)
    (FieldsFit-keeps c.in_ok-null.ensures.keeps (can_fit c.requires.write)))

pub write_targets-requires-clause-value : goal.write_targets-requires-clause-value
write_targets-requires-clause-value c = Stands-keeps c.in_ok-null.ensures.keeps c.requires.write.may.value_stands

pub returns-in_err-write_targets-clause-stands : goal.returns-in_err-write_targets-clause-stands
returns-in_err-write_targets-clause-stands c = λ prog s may.
    let same : c.write_targets.new.slots.items ≡ c.args.self.now = c.in_err-write_targets.ensures.err ∙ c.self.view_is in
    subst (HeapStands c.write_targets.new.dag prog) (sym same) (HeapStands-keeps (Keeps-trans c.in_ok-null.ensures.keeps c.in_err-write_targets.ensures.keeps) may.heap_stands)

pub returns-clause-stands : goal.returns-clause-stands
returns-clause-stands c = λ prog s may.
    written_stands may (Keeps-trans c.in_ok-null.ensures.keeps c.in_ok-write_targets.ensures.keeps)
    (subst (λ l. AreWritten c.write_targets.new.dag c.args.guard c.args.target.now c.args.target.now.slots.items c.args.field c.args.value.now l c.write_targets.new.slots.items) c.self.view_is
    (subst (λ ts. AreWritten c.write_targets.new.dag c.args.guard c.args.target.now ts c.args.field c.args.value.now c.self.inside.slots.items c.write_targets.new.slots.items) c.as_slice-targets.ensures c.in_ok-write_targets.ensures.written))

pub returns-clause-written : goal.returns-clause-written
returns-clause-written c =
    fields_written c.requires.write.may.refers.stands (Keeps-trans c.in_ok-null.ensures.keeps c.in_ok-write_targets.ensures.keeps)
    (subst (λ l. AreWritten c.write_targets.new.dag c.args.guard c.args.target.now c.args.target.now.slots.items c.args.field c.args.value.now l c.write_targets.new.slots.items) c.self.view_is
    (subst (λ ts. AreWritten c.write_targets.new.dag c.args.guard c.args.target.now ts c.args.field c.args.value.now c.self.inside.slots.items c.write_targets.new.slots.items) c.as_slice-targets.ensures c.in_ok-write_targets.ensures.written))
