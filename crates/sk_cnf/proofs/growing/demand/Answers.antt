use Rattle.std.proofs.Common.{◌≤◌, ◌∷◌, [], refl, subst, arith}
use Rattle.std.proofs.lemmas.Result.{on_ok_weaker}
use Rattle.sk_gates.specs.Bits.{reach}
use Rattle.sk_cnf.proofs.GrowingLaws.{Demands-never, Demands-literal}
use Rattle.sk_cnf.proofs.growing.demand.Goals as goal

pub returns-in-Constant-false-clause-ok : goal.returns-in-Constant-false-clause-ok
returns-in-Constant-false-clause-ok c =
    on_ok_weaker c.push.result (λ made. Demands-never c.args.to.now c.push.new.self c.args.bit _ [] c.in-Constant-false.is c.in-Constant-false.field-0-test refl made) c.push.ensures.ok

pub returns-in-Literal-clause-ok : goal.returns-in-Literal-clause-ok
returns-in-Literal-clause-ok c =
    let within = subst (λ b. reach b ≤ c.args.to.now.vars) c.in-Literal.is c.requires in
    on_ok_weaker c.push-in-Literal.result
    (λ made. Demands-literal c.args.to.now c.push-in-Literal.new.self c.args.bit c.in-Literal.lit (c.in-Literal.lit ∷ []) c.in-Literal.is (omega (arith, within)) refl made)
    c.push-in-Literal.ensures.ok
