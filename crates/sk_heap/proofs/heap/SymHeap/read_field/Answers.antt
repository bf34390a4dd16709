use Rattle.std.proofs.Common.{◌≡◌, is_none, refl, sym, ap, subst, ◌∙◌}
use Rattle.sk_dag.specs.EvalShape.{held_slot}
use Rattle.sk_arr.specs.Held.{AllIn}
use Rattle.sk_arr.proofs.Standing.{AllIn-keeps, targets_there}
use Rattle.sk_heap.specs.Types.{form_of}
use Rattle.sk_heap.specs.Fields.{FieldsFit}
use Rattle.sk_heap.specs.Steps.{IsReadOf}
use Rattle.sk_heap.proofs.Heaps.{fields_fit}
use Rattle.sk_heap.proofs.ReadLaws.{FieldsFit-keeps, field_read}
use Rattle.sk_heap.proofs.heap.SymHeap.read_field.Goals as goal

pub none_of-requires : goal.none_of-requires
none_of-requires c = subst (AllIn c.args.dag.now) (sym c.as_slice-targets.ensures) (targets_there c.requires.target.stands refl)

pub read_targets-requires-clause-guards : goal.read_targets-requires-clause-guards
read_targets-requires-clause-guards c =
    subst (AllIn c.none_of.new.dag) (sym c.as_slice-targets.ensures) (AllIn-keeps c.in_ok-null.ensures.keeps (targets_there c.requires.target.stands refl))

pub read_targets-requires-clause-fields : goal.read_targets-requires-clause-fields
read_targets-requires-clause-fields c =
    let heap_is : c.as_slice.result.now ≡ c.args.self.now = c.as_slice.ensures.value ∙ c.self.view_is in
    subst (λ l. FieldsFit c.none_of.new.dag l c.as_slice-targets.result.now c.args.field (form_of c.type_of-ty.result)) (sym heap_is)
    (subst (λ ts. FieldsFit c.none_of.new.dag c.args.self.now ts c.args.field (form_of c.type_of-ty.result)) (sym c.as_slice-targets.ensures)
    (FieldsFit-keeps c.in_ok-null.ensures.keeps (fields_fit c.args.field c.requires.heap c.type_of-ty.ensures c.requires.target)))

pub returns-clause-read : goal.returns-clause-read
returns-clause-read c =
    let heap_is : c.as_slice.result.now ≡ c.args.self.now = c.as_slice.ensures.value ∙ c.self.view_is in
    field_read c.requires.heap c.requires.target c.type_of-ty.ensures c.in_ok-null.ensures.there
    (λ h more e. c.in_ok-null.ensures.value h more e ∙ ap (λ ts. is_none (held_slot h e ts)) c.as_slice-targets.ensures)
    c.in_ok-value.ensures.keeps
    (subst (λ l. IsReadOf c.read_targets.new.dag l c.args.target.now.slots.items (form_of c.type_of-ty.result) c.args.field c.in_ok-value.value) heap_is
    (subst (λ ts. IsReadOf c.read_targets.new.dag c.as_slice.result.now ts (form_of c.type_of-ty.result) c.args.field c.in_ok-value.value) c.as_slice-targets.ensures c.in_ok-value.ensures.read))
