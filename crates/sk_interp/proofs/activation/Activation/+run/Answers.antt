use Rattle.std.proofs.Common.{◌≡◌, Some, None, length, sym, ap, subst, ◌∙◌, arith}
use Rattle.std.specs.Prelude.{nat_le}
use Rattle.std.specs.Option.{option_copied}
use Rattle.std.proofs.lemmas.Result.{err_from_is_err_and}
use Rattle.sk_interp.specs.Records.{Records, RecordsAs}
use Rattle.sk_interp.specs.Calling.{callee, called_of, flow_of, does_in}
use Rattle.sk_interp.proofs.Activations.{index_gives, slice_gives, path_goes, path_stops, call_fails, call_goes, call_stops, with_slots, back_over, call_does, new_does, braces_does}
use Rattle.sk_interp.proofs.Forms.{number_gives, member_gives, unary_gives, cond_gives, to_int_gives, pad_gives, declare_does, assign_does, reorder_fails}
use Rattle.sk_interp.proofs.activation.Activation.+run.Goals as goal

pub call-returns-in-None : goal.call-returns-in-None
call-returns-in-None t c =
    let at : callee c.args.self.now c.args.f ≡ None = sym c.callee.ensures ∙ ap option_copied c.in-None.is in
    call_fails c.args.self.now c.args.span c.args.f c.args.args c.args.machine.now at

pub call-returns-in_err-flow : goal.call-returns-in_err-flow
call-returns-in_err-flow t c =
    let p = err_from_is_err_and c.from_residual-in_err-flow.result c.from_residual-in_err-flow.ensures.1 in
    let at : callee c.args.self.now c.args.f ≡ Some c.in-Some.fun.now = sym c.callee.ensures ∙ ap option_copied c.in-Some.is in
    let body = rw (c.as_slice-2.ensures, c.depth_over.ensures) at c.in_err-flow.ensures in
    let first = c.exchange-outer.ensures.now ∙ ap (λ l. with_slots c.args.machine.now l) c.in_ok-first_slots.ensures in
    rw (p.1, p.2) (call_stops c.args.self.now c.args.span c.args.f c.args.args c.args.machine.now c.exchange-outer.new.self c.in-Some.fun.now c.as_slice.result.now _ _ at (c.as_slice.ensures.value ∙ c.in_ok-active.ensures) first body)

pub call-returns : goal.call-returns
call-returns t c =
    let at : callee c.args.self.now c.args.f ≡ Some c.in-Some.fun.now = sym c.callee.ensures ∙ ap option_copied c.in-Some.is in
    let body = rw (c.as_slice-2.ensures, c.depth_over.ensures) at c.in_ok-flow.ensures in
    let first = c.exchange-outer.ensures.now ∙ ap (λ l. with_slots c.args.machine.now l) c.in_ok-first_slots.ensures in
    let last = c.exchange-slots.ensures.now ∙ ap (λ l. with_slots c.exec_all.new.machine l) c.exchange-outer.ensures.before in
    call_goes c.args.self.now c.args.span c.args.f c.args.args c.args.machine.now c.exchange-outer.new.self c.in-Some.fun.now c.as_slice.result.now (flow_of c.in_ok-flow.flow) c.exec_all.new.machine (called_of c.in_ok-called.called) c.as_slice-3.result.now c.exchange-slots.new.self
    at (c.as_slice.ensures.value ∙ c.in_ok-active.ensures) first body c.in_ok-called.ensures (c.as_slice-3.ensures ∙ c.exchange-slots.ensures.before) last

pub copy_back-returns : goal.copy_back-returns
copy_back-returns t c = back_over _ c.args.self.now c.args.span c.loop-a.params.now c.args.args.now c.loop-a.a-index c.loop-a.refs.now c.loop-a.machine (omega arith) c.loop-a.invariant

pub eval-returns-in-Call : goal.eval-returns-in-Call
eval-returns-in-Call t c = subst (λ m. Records c.call_value.result c.call_value.new.machine m) (sym (call_does c.args.self.now c.args.e.now c.args.span c.args.machine.now c.in-Call.f c.in-Call.args c.in-Call.is)) c.call_value.ensures

pub eval-returns-in-New : goal.eval-returns-in-New
eval-returns-in-New t c = subst (λ m. Records c.new_record.result c.new_record.new.machine m) (sym (new_does c.args.self.now c.args.e.now c.args.span c.args.machine.now c.in-New.s c.in-New.fields c.in-New.is)) c.new_record.ensures

pub eval-returns-in-Braces : goal.eval-returns-in-Braces
eval-returns-in-Braces t c = subst (λ m. Records c.braces.result c.braces.new.machine m) (sym (braces_does c.args.self.now c.args.e.now c.args.span c.args.machine.now c.in-Braces.parts c.in-Braces.is)) c.braces.ensures

pub load-returns-in_err-location : goal.load-returns-in_err-location
load-returns-in_err-location t c =
    let p = err_from_is_err_and c.from_residual.result c.from_residual.ensures.1 in
    rw (p.1, p.2) (path_stops (does_in c.args.self.now c.args.e.now) c.args.span c.args.machine.now _ _ c.requires.path c.in_err-location.ensures)

pub load-returns : goal.load-returns
load-returns t c = subst (λ m. Records c.load.result c.target.new.machine m) (sym (path_goes (does_in c.args.self.now c.args.e.now) c.args.span c.args.machine.now _ _ c.requires.path c.in_ok-location.ensures)) c.load.ensures

pub eval-returns-else-is_path : goal.eval-returns-else-is_path
eval-returns-else-is_path t c = index_gives c.args.self.now c.args.e.now c.args.span c.args.machine.now c.index.result c.index.new.machine c.in-Index.base c.in-Index.index _ _ c.in-Index.is c.get-in-Index.ensures c.get-in-Index-2.ensures c.index.ensures

pub eval-returns-in-Slice : goal.eval-returns-in-Slice
eval-returns-in-Slice t c = slice_gives c.args.self.now c.args.e.now c.args.span c.args.machine.now c.slice.result c.slice.new.machine c.in-Slice.base c.in-Slice.from _ _ c.in-Slice.length c.in-Slice.is c.get-in-Slice.ensures c.get-in-Slice-2.ensures c.slice.ensures

pub eval-returns-in-Number : goal.eval-returns-in-Number
eval-returns-in-Number t c = number_gives c.args.self.now c.args.e.now c.args.span c.args.machine.now c.literal_value.result c.in-Number.n c.in-Number.is c.literal_value.ensures

pub eval-returns-in-Member : goal.eval-returns-in-Member
eval-returns-in-Member t c = member_gives c.args.self.now c.args.e.now c.args.span c.args.machine.now c.member.result c.member.new.machine c.in-Member.base _ c.in-Member.s c.in-Member.field c.in-Member.is c.get-in-Member.ensures c.member.ensures

pub eval-returns-in-Unary : goal.eval-returns-in-Unary
eval-returns-in-Unary t c = unary_gives c.args.self.now c.args.e.now c.args.span c.args.machine.now c.unary.result c.unary.new.machine c.in-Unary.op c.in-Unary.of _ c.in-Unary.is c.get-in-Unary.ensures c.unary.ensures

pub eval-returns-in-Cond : goal.eval-returns-in-Cond
eval-returns-in-Cond t c = cond_gives c.args.self.now c.args.e.now c.args.span c.args.machine.now c.cond.result c.cond.new.machine c.in-Cond.cond c.in-Cond.then c.in-Cond.other _ _ _ c.in-Cond.is c.get-in-Cond.ensures c.get-in-Cond-2.ensures c.get-in-Cond-3.ensures c.cond.ensures

pub eval-returns-in-ToInt : goal.eval-returns-in-ToInt
eval-returns-in-ToInt t c = to_int_gives c.args.self.now c.args.e.now c.args.span c.args.machine.now c.number_of.result c.number_of.new.machine c.in-ToInt.a _ c.in-ToInt.is c.get-in-ToInt.ensures c.number_of.ensures

pub eval-returns-in-Pad : goal.eval-returns-in-Pad
eval-returns-in-Pad t c = pad_gives c.args.self.now c.args.e.now c.args.span c.args.machine.now c.pad.result c.pad.new.machine c.in-Pad.a _ c.in-Pad.is c.get-in-Pad.ensures c.pad.ensures

pub exec-returns-in-Some : goal.exec-returns-in-Some
exec-returns-in-Some t c = subst (λ m. RecordsAs flow_of c.set.result c.set.new.machine m) (sym (declare_does c.args.self.now c.args.stmt.now c.args.machine.now c.in-Declare.slot c.in-Declare.name c.in-Declare.ty c.in-Declare.value c.in-Some.e c.in-Declare.is c.in-Some.is)) c.set.ensures

pub exec-returns-in-Assign : goal.exec-returns-in-Assign
exec-returns-in-Assign t c = subst (λ m. RecordsAs flow_of c.assign.result c.assign.new.machine m) (sym (assign_does c.args.self.now c.args.stmt.now c.args.machine.now c.in-Assign.target c.in-Assign.value c.in-Assign.is)) c.assign.ensures

pub exec-returns-else-has_one_order : goal.exec-returns-else-has_one_order
exec-returns-else-has_one_order t c =
    let many = ap (λ l. nat_le (length l) 1) (sym c.as_slice-in-Reorder.ensures) ∙ sym c.has_one_order.ensures ∙ c.if-has_one_order.false in
    reorder_fails c.args.self.now c.args.stmt.now c.args.machine.now c.in-Reorder.stmts c.in-Reorder.is many
