use Rattle.std.proofs.Common.{◌∙◌, ◌+◌, ℕ, Bool, List, drop, sym, ap}
use Rattle.std.specs.Prelude.{Some}
use Rattle.sk_cert.specs.declared.lines.Front.{Front}
use Rattle.sk_cert.specs.Readers.{front_of}
use Rattle.sk_cert.proofs.Exact.{ok_of}
use Rattle.sk_cert.proofs.Advance.{up_to_more, up_to_end, up_to_stuck, up_to_last}
use Rattle.sk_cert.proofs.sections.program_at.Goals as goal

pub loop-end-preserved : goal.loop-end-preserved
loop-end-preserved c = up_to_more c.args.text.now c.loop-end.rest.now c.after-rest.result.now c.in-Some.end c.loop-end.invariant (sym c.in-Some.ensures.place) (ap front_of (sym c.before-in-Some.ensures) ∙ sym c.in-Some-Program.ensures ∙ ap (λ (f : Front). Some f) c.in-Some-Program.field-0-is) c.after-rest.ensures

pub returns-in-Some-Ends : goal.returns-in-Some-Ends
returns-in-Some-Ends c =
    up_to_end c.args.text.now c.loop-end.rest.now c.in-Some.end c.in-Some-Ends.done c.loop-end.invariant (sym c.in-Some.ensures.place) (ap front_of (sym c.before-in-Some.ensures) ∙ sym c.in-Some-Ends.ensures ∙ ap (λ (f : Front). Some f) c.in-Some-Ends.field-0-is)
    ∙ ap (λ (t : List ℕ). ok_of {A = List ℕ × Bool} ((t, c.in-Some-Ends.done), drop (c.in-Some.end + 1) c.loop-end.rest.now)) (sym c.front_before.ensures)
    ∙ ap (λ (t : List ℕ). ok_of {A = List ℕ × Bool} ((c.front_before.result.now, c.in-Some-Ends.done), t)) (sym c.after.ensures)

pub returns-in-None : goal.returns-in-None
returns-in-None c = up_to_stuck c.args.text.now c.loop-end.rest.now c.in-Some.end c.loop-end.invariant (sym c.in-Some.ensures.place) (ap front_of (sym c.before-in-Some.ensures) ∙ sym c.in-None.ensures)

pub returns : goal.returns
returns c = up_to_last c.args.text.now c.loop-end.rest.now c.loop-end.invariant (sym c.in_default.ensures.place)
