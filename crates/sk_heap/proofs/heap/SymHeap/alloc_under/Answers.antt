use Rattle.std.proofs.Common.{[], ◌∷◌, ◌++◌, map, sym, ap, subst, ◌∙◌}
use Rattle.sk_heap.specs.Types.{field_form}
use Rattle.sk_heap.specs.Zeros.{AreZeros}
use Rattle.sk_heap.specs.Heaps.{HeapStands}
use Rattle.sk_heap.proofs.Heaps.{HeapStands-keeps}
use Rattle.sk_heap.proofs.Allocs.{slot_of_zeros, allocated, allocated_stands, target_is}
use Rattle.sk_heap.proofs.heap.SymHeap.alloc_under.Goals as goal

pub returns-in_err-fields-clause-stands : goal.returns-in_err-fields-clause-stands
returns-in_err-fields-clause-stands c = HeapStands-keeps c.in_err-fields.ensures.keeps c.requires.heap

pub returns-in_err-push-2-clause-stands : goal.returns-in_err-push-2-clause-stands
returns-in_err-push-2-clause-stands c =
    subst (HeapStands c.zero_fields.new.dag c.args.prog.now) (sym (c.in_err-push-2.ensures.items ∙ c.self.view_is)) (HeapStands-keeps c.in_ok-fields.ensures.keeps c.requires.heap)

pub returns-clause-stands : goal.returns-clause-stands
returns-clause-stands c =
    allocated_stands c.args.s c.requires.heap c.in_ok-fields.ensures.keeps c.requires.guard
    (subst (λ ds. AreZeros c.zero_fields.new.dag (map field_form ds) c.in_ok-fields.fields) c.fields_of.ensures c.in_ok-fields.ensures.zeros)
    (c.in_ok-push-2.ensures.items ∙ ap (λ l. l ++ slot_of_zeros c.args.guard c.args.s c.in_ok-fields.fields ∷ []) c.self.view_is)

pub returns-clause-allocated : goal.returns-clause-allocated
returns-clause-allocated c =
    allocated c.args.s c.in_ok-fields.ensures.keeps c.requires.guard
    (subst (λ ds. AreZeros c.zero_fields.new.dag (map field_form ds) c.in_ok-fields.fields) c.fields_of.ensures c.in_ok-fields.ensures.zeros)
    (c.in_ok-push-2.ensures.items ∙ ap (λ l. l ++ slot_of_zeros c.args.guard c.args.s c.in_ok-fields.fields ∷ []) c.self.view_is)
    (target_is c.in_ok-push.ensures.ok c.new-slots.ensures.items c.slots-place.ensures)
