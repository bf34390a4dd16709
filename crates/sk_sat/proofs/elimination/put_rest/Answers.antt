use Rattle.std.proofs.Common.{◌≡◌, ◌+◌, ◌<◌, length, arith, true, get_or, take, subst, sym, ◌∙◌, ◌++◌, ◌∷◌, []}
use Rattle.std.specs.Prelude.{Contains}
use Rattle.std.proofs.lemmas.List.Elements.{Contains-push}
use Rattle.sk_clause.specs.declared.lit.Lit.{Lit}
use Rattle.sk_clause.specs.Meaning.{negated}
use Rattle.sk_sat.specs.Elimination.{IsRest, PutsOut}
use Rattle.sk_sat.proofs.GatherLemmas.{rest_more, rest_push, put_more}
use Rattle.sk_sat.proofs.elimination.put_rest.Goals as goal
use Rattle.sk_sat.proofs.elimination.put_rest.Goals.{then-is-via-then-is, then-is-via-else-is+then-has}

pub loop-packed-preserved-then-is : goal.loop-packed-preserved-then-is
loop-packed-preserved-then-is c =
    let here : Lit = c.packed-item.result in
    let same : c.lit-l.result ≡ get_or c.args.clause.now c.loop-packed.packed-index here = c.lit-l.ensures ∙ c.packed-item.is in
    let below : c.loop-packed.packed-index < length c.args.clause.now = omega arith in
    record {
      put = c.loop-packed.invariant.put;
      rest = rest_more c.args.clause.now c.args.p c.loop-packed.out.items c.loop-packed.packed-index here below c.loop-packed.invariant.rest (elim c.then-is.branch [
        | then-is-via-then-is w ↦ λ other. absurd (other (sym same ∙ c.is.ensures.0 w.if-is.true))
        | then-is-via-else-is+then-has w ↦ λ other. subst (Contains c.loop-packed.out.items) same (rw w.deref.ensures.value at (w.has.ensures.0 w.if-has.true))
      ]);
    }

pub loop-packed-preserved : goal.loop-packed-preserved
loop-packed-preserved c =
    let here : Lit = c.packed-item.result in
    let now : Lit = get_or c.args.clause.now c.loop-packed.packed-index here in
    let same : c.lit-l.result ≡ now = c.lit-l.ensures ∙ c.packed-item.is in
    let below : c.loop-packed.packed-index < length c.args.clause.now = omega arith in
    let invariant = c.loop-packed.invariant in
    let apart = λ (h : Contains c.loop-packed.out.items (negated now)). (
    let there : Contains c.loop-packed.out.items (negated c.lit-l.result) = subst (λ x. Contains c.loop-packed.out.items (negated x)) (sym same) h in
    let t : c.has-else-l-p.result ≡ true = c.has-else-l-p.ensures.1 (rw (c.deref-else-l-p.ensures.value, c.negate.ensures) there) in
    let f = c.if-has-2.false in
    let none : ⊥ = cc in
    none) in
    let put : PutsOut c.args.clause.now c.args.out.now.items (c.loop-packed.out.items ++ now ∷ []) = put_more c.args.clause.now c.args.out.now.items c.loop-packed.out.items c.loop-packed.packed-index here below invariant.put apart in
    let rest : IsRest (take (c.loop-packed.packed-index + 1) c.args.clause.now) c.args.p (c.loop-packed.out.items ++ now ∷ []) = rest_more c.args.clause.now c.args.p (c.loop-packed.out.items ++ now ∷ []) c.loop-packed.packed-index here below (rest_push _ _ _ _ invariant.rest) (λ other. Contains-push c.loop-packed.out.items now) in
    record {
      put = rw c.in_ok-push.ensures.items (subst (λ x. PutsOut c.args.clause.now c.args.out.now.items (c.loop-packed.out.items ++ x ∷ [])) (sym same) put);
      rest = rw c.in_ok-push.ensures.items (subst (λ x. IsRest (take (c.loop-packed.packed-index + 1) c.args.clause.now) c.args.p (c.loop-packed.out.items ++ x ∷ [])) (sym same) rest);
    }
