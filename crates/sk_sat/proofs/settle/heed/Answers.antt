use Rattle.std.proofs.Common.{◌∙◌, ◌<◌, ◌+◌, ◌++◌, ◌∷◌, [], ap, subst, length, get_or, arith}
use Rattle.std.proofs.lemmas.List.{length_push, length-take-le}
use Rattle.sk_clause.specs.Meaning.{negated}
use Rattle.sk_clause.proofs.ValueLemmas.{negated_holds, Holds-within, length-assigned}
use Rattle.sk_sat.specs.Trail.{Agrees}
use Rattle.sk_sat.proofs.CancelLemmas.{open_cut, trail_more, lesson_reason}
use Rattle.sk_sat.proofs.RoundLemmas.{lesson_consistent, lesson_within}
use Rattle.sk_sat.proofs.settle.heed.Goals as goal

pub force-requires-clause-open : goal.force-requires-clause-open
force-requires-clause-open c =
    let t = c.cancel.ensures.trail c.args.known.now c.requires.trail in
    let l = c.requires.lesson in
    open_cut _ _ _ _ _ _ _ c.args.back c.requires.trail l.less (subst (Agrees c.cancel.new.self.values.items) c.cancel.ensures.lits t.agrees) c.args.turn l.fails (let d = l.deep in let e = l.less in omega arith)

pub force-requires-clause-within : goal.force-requires-clause-within
force-requires-clause-within c =
    let b = c.cancel.ensures.back c.args.known.now c.requires.trail in
    let w = Holds-within c.args.trail.now.values.items (negated c.args.turn) (negated_holds c.args.trail.now.values.items c.args.turn c.requires.lesson.fails) in
    let e = b.long in
    omega arith

pub force-requires-clause-level : goal.force-requires-clause-level
force-requires-clause-level c = (c.cancel.ensures.trail c.args.known.now c.requires.trail).level_long

pub force-requires-clause-reason : goal.force-requires-clause-reason
force-requires-clause-reason c = (c.cancel.ensures.trail c.args.known.now c.requires.trail).reason_long

pub returns : goal.returns
returns c =
    let t = c.cancel.ensures.trail c.args.known.now c.requires.trail in
    let b = c.cancel.ensures.back c.args.known.now c.requires.trail in
    let l = c.requires.lesson in
    let begin : get_or c.args.trail.now.lims.items c.args.back 0 < length c.args.trail.now.lits.items = c.requires.trail.leveled.inside c.args.back l.less in
    let why = lesson_reason c.args.known.now c.args.trail.now.values.items c.cancel.new.self.values.items c.args.trail.now.level.items c.cancel.new.self.lits.items _ c.args.back c.args.clause.now c.args.turn l t.agrees b.kept in
    let more = trail_more c.args.known.now c.args.clause.now _ _ _ _ _ t in
    record {
      clause = c.args.clause.now;
      adds = record {
        pushed = c.in_ok-push.ensures.ok;
        kept = c.in_ok-push-2.ensures.ok;
        follows = l.follows;
        consistent = lesson_consistent _ _ _ _ _ _ _ l;
        within = lesson_within _ _ _ _ _ _ _ l;
      };
      unlike = c.requires.unlike;
      trail = rw c.in_ok-push.ensures.ok (c.in_ok-force.ensures.trail (c.args.known.now ++ c.args.clause.now ∷ []) more (rw c.len-id.ensures why));
      steps = record {
        back = c.args.back;
        less = l.less;
        lims = c.force.ensures.lims ∙ c.cancel.ensures.lims;
        lits = ap length c.in_ok-force.ensures.lits ∙ length_push c.cancel.new.self.lits.items c.args.turn
            ∙ ap (λ n. n + 1) (ap length c.cancel.ensures.lits ∙ length-take-le (get_or c.args.trail.now.lims.items c.args.back 0) c.args.trail.now.lits.items (omega arith));
        long = ap length c.in_ok-force.ensures.values ∙ length-assigned c.cancel.new.self.values.items c.args.turn ∙ b.long;
      };
    }
