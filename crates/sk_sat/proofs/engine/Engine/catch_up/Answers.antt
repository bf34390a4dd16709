use Rattle.std.proofs.Common.{◌<◌, ◌≤◌, sym, subst, length, get_or, [], arith}
use Rattle.std.proofs.lemmas.List.Elements.{All-push}
use Rattle.sk_clause.specs.Problem.{IsWithin}
use Rattle.sk_sat.proofs.CancelLemmas.{trail_more}
use Rattle.sk_sat.proofs.EngineLemmas.{catch_step, catch_end}
use Rattle.sk_sat.proofs.engine.Engine.catch_up.Goals as goal

pub loop-i-preserved : goal.loop-i-preserved
loop-i-preserved c =
    let below : c.loop-i.i < length c.args.added.now = omega arith in
    let within = subst (λ n. IsWithin n (get_or c.args.added.now c.loop-i.i [])) (sym c.loop-i.invariant.long) (c.requires.within c.loop-i.i [] below) in
    record {
      ready = record {
        on_trail = rw c.in_ok-push.ensures.ok (trail_more _ _ _ _ _ _ _ c.loop-i.invariant.ready.on_trail);
        at_start = c.loop-i.invariant.ready.at_start;
        within = rw (c.in_ok-push.ensures.ok, c.get.ensures) (All-push (IsWithin (length c.loop-i.self.trail.values.items)) c.loop-i.self.known (get_or c.args.added.now c.loop-i.i []) c.loop-i.invariant.ready.within within);
      };
      long = c.loop-i.invariant.long;
      known = rw (c.in_ok-push.ensures.ok, c.get.ensures) (catch_step _ _ _ _ below c.loop-i.invariant.known);
    }

pub returns-clause-known : goal.returns-clause-known
returns-clause-known c =
    let past : length c.args.added.now ≤ c.loop-i.i = omega arith in
    catch_end _ _ _ _ past c.loop-i.invariant.known
