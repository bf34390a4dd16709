use Rattle.std.proofs.Common.{arith, ◌∙◌, nat_eq, not}
use Rattle.std.proofs.lemmas.List.{take_all}
use Rattle.sk_gates.specs.Words.{bits_word}
use Rattle.sk_gates.proofs.ExtensionLaws.{Continues-refl, Continues-trans, Continues-adds, on_err}
use Rattle.sk_gates.proofs.SharingLaws.{Builds-same, Builds-then, Builds-both, Builds-weaker}
use Rattle.sk_gates.proofs.BitLaws.{AreOver-later}
use Rattle.sk_cnf.proofs.StepLaws.{apart_step, none_apart}
use Rattle.sk_cnf.proofs.signed.apart.Goals as goal

pub loop-i-init : goal.loop-i-init
loop-i-init c = record {
  gate = Builds-same _ _ (λ v. none_apart v c.args.a.now c.args.b.now);
  behind = Continues-refl _;
  a_within = c.requires.a;
  b_within = c.requires.b;
  some_within = omega arith;
}

pub loop-i-preserved : goal.loop-i-preserved
loop-i-preserved c =
    let inv = c.loop-i.invariant in
    let first = c.in_ok-here.ensures.gate in
    let second = c.in_ok-some.ensures.gate in
    record {
      gate = Builds-then _ _ _ inv.gate (Builds-both _ _ first second) (λ v before p.
          apart_step v c.args.a.now c.args.b.now c.loop-i.i c.loop-i.some c.in_ok-here.here c.in_ok-some.some _ _ (omega arith) (omega arith) c.bit_at-x.ensures.bit c.bit_at-y.ensures.bit before p.0 p.1);
      behind = Continues-trans inv.behind (Continues-trans (Continues-adds first) (Continues-adds second));
      a_within = AreOver-later _ _ _ second.vars (AreOver-later _ _ _ first.vars inv.a_within);
      b_within = AreOver-later _ _ _ second.vars (AreOver-later _ _ _ first.vars inv.b_within);
      some_within = c.in_ok-some.ensures.within;
    }

pub returns-clause-gate : goal.returns-clause-gate
returns-clause-gate c =
    let left = take_all c.loop-i.i c.args.a.now (omega arith) in
    let right = take_all c.loop-i.i c.args.b.now (omega arith) in
    Builds-weaker _ _ c.loop-i.invariant.gate (λ v h. h ∙ (λ j. not (nat_eq (bits_word v (left j)) (bits_word v (right j)))))

pub returns-in_err-here-clause-err : goal.returns-in_err-here-clause-err
returns-in_err-here-clause-err c = on_err _ (Continues-trans c.loop-i.invariant.behind c.in_err-here.ensures.err)

pub returns-in_err-some-clause-err : goal.returns-in_err-some-clause-err
returns-in_err-some-clause-err c = on_err _ (Continues-trans c.loop-i.invariant.behind (Continues-trans (Continues-adds c.in_ok-here.ensures.gate) c.in_err-some.ensures.err))
