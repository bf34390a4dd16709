use Rattle.std.proofs.Common.{◌<◌, ◌∙◌, sym, ap, ◌++◌, ◌∷◌, [], take, length, get_or, arith, refl}
use Rattle.sk_clause.specs.Meaning.{Follows}
use Rattle.sk_rup.proofs.LogLemmas.{known_step, FollowsSoFar-step}
use Rattle.sk_rup.proofs.log.follow_all.Goals as goal

pub returns-then-not-branch : goal.returns-then-not-branch
returns-then-not-branch c =
    let below : c.loop-i.i < length c.args.log.now = omega arith in
    let not_now = c.if-not-branch.true in (
      (λ h. absurd (cc)),
      λ e. (
          let f : Follows c.loop-i.checker.known c.get-clause.result.now = rw (c.loop-i.invariant.known, c.get-clause.ensures) (e c.loop-i.i below) in
          let t = c.in_ok-follows.ensures.follows.1 f in
          absurd (cc)),
    )

pub loop-i-preserved : goal.loop-i-preserved
loop-i-preserved c =
    let below : c.loop-i.i < length c.args.log.now = omega arith in
    let f : Follows c.loop-i.checker.known c.get-clause.result.now = c.in_ok-follows.ensures.follows.0 c.if-not-branch.false in
    let g : Follows (c.args.checker.now.known ++ take c.loop-i.i c.args.log.now) (get_or c.args.log.now c.loop-i.i []) = rw (sym c.loop-i.invariant.known, sym c.get-clause.ensures) f in
    record {
      ready = c.in_ok-add.ensures.ready;
      known = c.in_ok-add.ensures.known ∙ ap (λ x. x ++ c.get-clause.result.now ∷ []) (c.in_ok-follows.ensures.known ∙ c.loop-i.invariant.known)
          ∙ ap (λ x. (c.args.checker.now.known ++ take c.loop-i.i c.args.log.now) ++ x ∷ []) c.get-clause.ensures
          ∙ known_step c.args.checker.now.known c.args.log.now c.loop-i.i below;
      long = c.in_ok-add.ensures.long ∙ c.in_ok-follows.ensures.long ∙ c.loop-i.invariant.long;
      each = FollowsSoFar-step _ _ _ c.loop-i.invariant.each g;
    }

pub returns : goal.returns
returns c = ((λ t. (λ i l. c.loop-i.invariant.each i (omega arith))), (λ e. refl))
