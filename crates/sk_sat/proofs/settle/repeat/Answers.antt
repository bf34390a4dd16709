use Rattle.std.proofs.Common.{◌∙◌, ◌<◌, ◌+◌, ap, subst, length, get_or, arith}
use Rattle.std.proofs.lemmas.List.{length_push, length-take-le}
use Rattle.sk_clause.specs.Meaning.{negated}
use Rattle.sk_clause.proofs.ValueLemmas.{negated_holds, Holds-within, length-assigned}
use Rattle.sk_sat.specs.Trail.{Agrees}
use Rattle.sk_sat.proofs.CancelLemmas.{open_cut}
use Rattle.sk_sat.proofs.RepeatLemmas.{inside_reason, inside_false}
use Rattle.sk_sat.proofs.settle.repeat.Goals as goal

pub force-requires-clause-open : goal.force-requires-clause-open
force-requires-clause-open c =
    let t = c.cancel.ensures.trail c.args.known.now c.requires.trail in
    let l = c.requires.lesson in
    open_cut _ _ _ _ _ _ _ c.args.back c.requires.trail l.less (subst (Agrees c.cancel.new.self.values.items) c.cancel.ensures.lits t.agrees) c.args.turn l.fails (let d = l.deep in let e = l.less in omega arith)

pub force-requires-clause-within : goal.force-requires-clause-within
force-requires-clause-within c =
    let b = c.cancel.ensures.back c.args.known.now c.requires.trail in
    let w = Holds-within c.args.trail.now.values.items (negated c.args.turn) (negated_holds c.args.trail.now.values.items c.args.turn c.requires.lesson.fails) in
    let e = b.long in
    omega arith

pub force-requires-clause-level : goal.force-requires-clause-level
force-requires-clause-level c = (c.cancel.ensures.trail c.args.known.now c.requires.trail).level_long

pub force-requires-clause-reason : goal.force-requires-clause-reason
force-requires-clause-reason c = (c.cancel.ensures.trail c.args.known.now c.requires.trail).reason_long

pub returns-then-not-has_packed-clause-falls : goal.returns-then-not-has_packed-clause-falls
returns-then-not-has_packed-clause-falls c = λ _.
    (let t = c.cancel.ensures.trail c.args.known.now c.requires.trail in
    let b = c.cancel.ensures.back c.args.known.now c.requires.trail in
    inside_false c.args.known.now c.args.clause.now c.args.turn c.args.back c.args.j c.args.trail.now c.cancel.new.self c.requires.lesson c.requires.inside b t
    (λ h. (let k = c.has_packed.ensures.1 (rw c.get.ensures h) in let f = c.if-not-has_packed.true in cc)))

pub returns-clause-steps : goal.returns-clause-steps
returns-clause-steps c = λ _.
    (let t = c.cancel.ensures.trail c.args.known.now c.requires.trail in
    let b = c.cancel.ensures.back c.args.known.now c.requires.trail in
    let l = c.requires.lesson in
    let begin : get_or c.args.trail.now.lims.items c.args.back 0 < length c.args.trail.now.lits.items = c.requires.trail.leveled.inside c.args.back l.less in
    let has = rw c.get.ensures at (c.has_packed.ensures.0 c.if-not-has_packed.false) in
    let why = inside_reason c.args.known.now c.args.clause.now c.args.turn c.args.back c.args.j c.args.trail.now c.cancel.new.self l c.requires.inside b t has in
    record {
      trail = c.in_ok-force.ensures.trail c.args.known.now t why;
      steps = record {
        back = c.args.back;
        less = l.less;
        lims = c.force.ensures.lims ∙ c.cancel.ensures.lims;
        lits = ap length c.in_ok-force.ensures.lits ∙ length_push c.cancel.new.self.lits.items c.args.turn
            ∙ ap (λ n. n + 1) (ap length c.cancel.ensures.lits ∙ length-take-le (get_or c.args.trail.now.lims.items c.args.back 0) c.args.trail.now.lits.items (omega arith));
        long = ap length c.in_ok-force.ensures.values ∙ length-assigned c.cancel.new.self.values.items c.args.turn ∙ b.long;
      };
    })
