use Rattle.std.proofs.Common.{◌<◌, IsTrue, arith, length, slice_set, sym, ap, subst, ◌∙◌}
use Rattle.sk_dag.specs.Graph.{BoolSort}
use Rattle.sk_heap.specs.Heaps.{is_of, HeapStands}
use Rattle.sk_heap.specs.Retakes.{IsRefilledAt}
use Rattle.sk_heap.proofs.Heaps.{HeapStands-keeps}
use Rattle.sk_heap.proofs.Allocs.{target_is}
use Rattle.sk_heap.proofs.Retakes.{within_of, retaken_stands, retaken}
use Rattle.sk_heap.proofs.heap.SymHeap.retake_under.Goals as goal

pub retaken-requires-clause-heap : goal.retaken-requires-clause-heap
retaken-requires-clause-heap c = subst (HeapStands c.args.dag.now c.args.prog.now) (sym (c.as_slice.ensures.value ∙ c.self.view_is)) c.requires.heap

pub retaken-requires-clause-place : goal.retaken-requires-clause-place
retaken-requires-clause-place c = subst (λ l. IsTrue (is_of l c.args.s c.args.place)) (sym (c.as_slice.ensures.value ∙ c.self.view_is)) c.requires.place

pub number_of-number-requires : goal.number_of-number-requires
number_of-number-requires c = omega (arith, within_of c.args.self.now c.args.s c.args.place c.requires.place, c.slots-count.ensures)

pub put_slot-requires : goal.put_slot-requires
put_slot-requires c = subst (λ l. c.args.place < length l) (sym c.self.view_is) (within_of c.args.self.now c.args.s c.args.place c.requires.place)

pub returns-in_err-slot-clause-stands : goal.returns-in_err-slot-clause-stands
returns-in_err-slot-clause-stands c = HeapStands-keeps c.in_err-slot.ensures.keeps c.requires.heap

pub returns-clause-stands : goal.returns-clause-stands
returns-clause-stands c =
    retaken_stands c.requires.heap c.requires.place c.in_ok-slot.ensures.keeps
    (subst (λ l. IsRefilledAt c.retaken.new.dag c.args.prog.now c.args.guard c.args.s c.args.place l c.in_ok-slot.slot) (c.as_slice.ensures.value ∙ c.self.view_is) c.in_ok-slot.ensures.refilled)
    (c.put_slot.ensures ∙ ap (λ l. slice_set l c.args.place c.in_ok-slot.slot) c.self.view_is)

pub returns-clause-retaken : goal.returns-clause-retaken
returns-clause-retaken c =
    retaken c.requires.heap c.requires.place c.in_ok-slot.ensures.keeps
    (subst (λ l. IsRefilledAt c.retaken.new.dag c.args.prog.now c.args.guard c.args.s c.args.place l c.in_ok-slot.slot) (c.as_slice.ensures.value ∙ c.self.view_is) c.in_ok-slot.ensures.refilled)
    (c.put_slot.ensures ∙ ap (λ l. slice_set l c.args.place c.in_ok-slot.slot) c.self.view_is)
    (c.in_ok-slot.ensures.keeps.sorts _ BoolSort c.requires.guard)
    (target_is c.in_ok-push.ensures.ok c.new-slots.ensures.items c.number_of-number.ensures)
