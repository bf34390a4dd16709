-- the next input is kept, or left out
use Rattle.std.proofs.Common.{ap, subst, ◌∙◌, ◌++◌, ◌∷◌, [], ◌+◌, drop}
use Rattle.sk_all.specs.Reasons.{SomePasses, NonePasses}
use Rattle.sk_all.proofs.Thinning.{is_kept, leaves_out, to_the_end}
use Rattle.sk_all.proofs.reasons.keep.Goals as goal

pub returns-then-passed : goal.returns-then-passed
returns-then-passed g c =
    let e = c.args.expanded.now in
    let kept = c.args.kept.now in
    let all = c.args.all.now in
    let some = subst (λ xs. SomePasses e c.args.bounds.now (xs ++ drop (c.args.i + 1) all)) c.as_slice.ensures (subst (λ ys. SomePasses e c.args.bounds.now (c.as_slice.result.now ++ ys)) (to_the_end all (c.args.i + 1)) (c.in_ok-passed.ensures.some c.if-passed.true)) in
    is_kept e c.args.bounds.now all kept c.push.new.self c.args.i c.index-all-i.result c.requires.within c.index-all-i.is (c.in_ok-push.ensures.ok ∙ ap (λ x. kept ++ x ∷ []) c.in_ok-input.ensures) some c.requires.thinned

pub returns : goal.returns
returns g c =
    let e = c.args.expanded.now in
    let all = c.args.all.now in
    let none = subst (λ xs. NonePasses e c.args.bounds.now (xs ++ drop (c.args.i + 1) all)) c.as_slice.ensures (subst (λ ys. NonePasses e c.args.bounds.now (c.as_slice.result.now ++ ys)) (to_the_end all (c.args.i + 1)) (c.in_ok-passed.ensures.none c.if-passed.false)) in
    leaves_out e c.args.bounds.now all c.args.kept.now c.args.i c.requires.within none c.requires.thinned
