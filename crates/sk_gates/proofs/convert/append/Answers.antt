use Rattle.std.proofs.Common.{◌++◌, [], ◌∷◌, ◌∙◌, ap, sym, subst, arith, take}
use Rattle.std.proofs.lemmas.List.{append-nil, append_assoc, take_more, take_all}
use Rattle.sk_clause.specs.Problem.{Problem, IsWithin}
use Rattle.sk_gates.proofs.ExtensionLaws.{Continues-same, Continues-trans, on_err}
use Rattle.sk_gates.proofs.SharingLaws.{Continues-behind}
use Rattle.sk_gates.proofs.convert.append.Goals as goal

pub lengthen-requires : goal.lengthen-requires
lengthen-requires c = let h = c.requires.vars in omega (arith, h, c.vars.ensures)

pub push-requires : goal.push-requires
push-requires c = subst (λ n. IsWithin n c.get.result.now) (sym c.loop-i.invariant.vars) c.get.ensures.within

pub loop-i-init : goal.loop-i-init
loop-i-init c = record {
  vars = ap (λ (p : Problem). p.vars) c.in_ok-lengthen.ensures.ok ∙ c.vars.ensures;
  clauses = ap (λ (p : Problem). p.clauses) c.in_ok-lengthen.ensures.ok ∙ sym (append-nil c.args.to.now.clauses);
}

pub loop-i-preserved : goal.loop-i-preserved
loop-i-preserved c = record {
  vars = ap (λ (p : Problem). p.vars) c.in_ok-push.ensures.ok ∙ c.loop-i.invariant.vars;
  clauses =
      ap (λ (p : Problem). p.clauses) c.in_ok-push.ensures.ok
      ∙ ap (λ x. x ++ c.get.result.now ∷ []) c.loop-i.invariant.clauses
      ∙ append_assoc c.args.to.now.clauses (take c.loop-i.i c.args.more.now.clauses) (c.get.result.now ∷ [])
      ∙ ap (λ x. c.args.to.now.clauses ++ x) (ap (λ x. take c.loop-i.i c.args.more.now.clauses ++ x ∷ []) c.get.ensures.clause ∙ sym (take_more c.args.more.now.clauses c.loop-i.i [] (omega arith)));
}

pub returns-clause-clauses : goal.returns-clause-clauses
returns-clause-clauses c = c.loop-i.invariant.clauses ∙ ap (λ x. c.args.to.now.clauses ++ x) (take_all c.loop-i.i c.args.more.now.clauses (omega arith))

pub returns-in_err-push-clause-err : goal.returns-in_err-push-clause-err
returns-in_err-push-clause-err c =
    on_err _ (Continues-trans (Continues-behind c.loop-i.i c.requires c.loop-i.invariant.vars c.loop-i.invariant.clauses) (Continues-same c.in_err-push.ensures.err))
