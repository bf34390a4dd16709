use Rattle.std.proofs.Common.{map, sym, ap, subst, ◌∙◌}
use Rattle.sk_dag.specs.Graph.{BoolSort}
use Rattle.sk_dag.proofs.EvalLemmas.{Keeps-trans}
use Rattle.sk_arr.specs.Shapes.{blank, AllStand}
use Rattle.sk_arr.proofs.Standing.{AllStand-keeps}
use Rattle.sk_heap.specs.Types.{field_form}
use Rattle.sk_heap.proofs.Retakes.{slot_is, within_of, refilled_at}
use Rattle.sk_heap.proofs.retaken.retaken.Goals as goal

pub slot_at-was-requires : goal.slot_at-was-requires
slot_at-was-requires c = within_of c.args.slots.now c.args.s c.args.place c.requires.place

pub either-requires-clause-a : goal.either-requires-clause-a
either-requires-clause-a c = (c.requires.heap.each c.args.place c.slot_at-was.result.now c.slot_at-was.ensures).guard

pub chosen-requires-clause-guard : goal.chosen-requires-clause-guard
chosen-requires-clause-guard c = (Keeps-trans c.in_ok-here.ensures.keeps c.in_ok-zeros.ensures.keeps).sorts _ BoolSort c.requires.guard

pub chosen-requires-clause-list : goal.chosen-requires-clause-list
chosen-requires-clause-list c = subst (AllStand c.zero_fields.new.dag) (sym c.as_slice.ensures) c.in_ok-zeros.ensures.zeros.stand

pub chosen-requires-clause-others : goal.chosen-requires-clause-others
chosen-requires-clause-others c =
    let was = slot_is c.args.place c.requires.heap c.requires.place c.slot_at-was.ensures in
    subst (AllStand c.zero_fields.new.dag) (sym c.as_slice-2.ensures) (AllStand-keeps (Keeps-trans c.in_ok-here.ensures.keeps c.in_ok-zeros.ensures.keeps) was.stands.fields)

pub chosen-requires-clause-alike : goal.chosen-requires-clause-alike
chosen-requires-clause-alike c =
    let was = slot_is c.args.place c.requires.heap c.requires.place c.slot_at-was.ensures in
    ap (map blank) c.as_slice.ensures ∙ c.in_ok-zeros.ensures.zeros.formed ∙ ap (λ ds. map field_form ds) c.fields_of.ensures ∙ sym was.formed ∙ sym (ap (map blank) c.as_slice-2.ensures)

pub returns-clause-refilled : goal.returns-clause-refilled
returns-clause-refilled c = refilled_at c.args.place c.slot_at-was.ensures c.in_ok-here.ensures.there c.in_ok-here.ensures.value c.in_ok-zeros.ensures.keeps c.fields_of.ensures c.in_ok-zeros.ensures.zeros c.in_ok-fields.ensures.keeps c.as_slice.ensures c.as_slice-2.ensures c.in_ok-fields.ensures.chosen
