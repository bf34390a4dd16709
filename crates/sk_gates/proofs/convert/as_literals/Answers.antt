use Rattle.std.proofs.Common.{◌≡◌, ℕ, ◌+◌, ◌<◌, ◌≤◌, arith, length, ap, take, map, ◌∙◌, sym, refl, ◌++◌, [], ◌∷◌}
use Rattle.std.proofs.lemmas.List.{length_push, take_all, map_push, map_more}
use Rattle.std.proofs.lemmas.List.Elements.{All-push, All-weaker}
use Rattle.sk_clause.specs.declared.lit.Lit.{Lit}
use Rattle.sk_clause.specs.Meaning.{lit_true}
use Rattle.sk_gates.specs.declared.bit.Bit.TheVariants.{Constant}
use Rattle.sk_gates.specs.Bits.{bit_true}
use Rattle.sk_gates.specs.Words.{number}
use Rattle.sk_gates.proofs.ExtensionLaws.{Adds-none, Adds-then, Adds-weaker, Continues-refl, Continues-trans, Continues-adds, on_err}
use Rattle.sk_gates.proofs.BitLaws.{AreOver-later}
use Rattle.sk_gates.proofs.convert.as_literals.Goals as goal

pub loop-i-init : goal.loop-i-init
loop-i-init c = record {
  gate = Adds-none _ _ (λ v. ap (map (lit_true v)) c.new-lits.ensures);
  behind = Continues-refl _;
  long = ap length c.new-lits.ensures;
  bits_within = c.requires;
  lits_within = λ k d h. absurd (omega (arith, ap length c.new-lits.ensures));
}

pub loop-i-preserved : goal.loop-i-preserved
loop-i-preserved c =
    let inv = c.loop-i.invariant in
    let step = c.in_ok-lit.ensures.gate in
    record {
      gate = Adds-then _ _ _ inv.gate step (λ v before is.
          rw (c.in_ok-push.ensures.ok, map_push (lit_true v) c.loop-i.lits c.in_ok-lit.lit, map_more (bit_true v) c.args.bits.now c.loop-i.i (Constant Rattle.std.proofs.Common.false) (omega arith))
          (λ j. before j ++ (is ∙ ap (bit_true v) c.bit_at-bit.ensures.bit) j ∷ []));
      behind = Continues-trans inv.behind (Continues-adds step);
      long = ap length c.in_ok-push.ensures.ok ∙ length_push c.loop-i.lits c.in_ok-lit.lit ∙ ap (λ n. n + 1) inv.long;
      bits_within = AreOver-later _ _ _ step.vars inv.bits_within;
      lits_within = rw c.in_ok-push.ensures.ok (All-push (λ (l : Lit). l.var < c.literal.new.to.vars) c.loop-i.lits c.in_ok-lit.lit (All-weaker (λ (l : Lit). l.var < c.loop-i.to.vars) (λ (l : Lit). l.var < c.literal.new.to.vars) (λ l h. omega (arith, step.vars, h)) c.loop-i.lits inv.lits_within) c.in_ok-lit.ensures.within);
    }

pub returns-clause-gate : goal.returns-clause-gate
returns-clause-gate c =
    let all = take_all c.loop-i.i c.args.bits.now (omega arith) in
    Adds-weaker _ _ c.loop-i.invariant.gate (λ v h. ap number (h ∙ ap (map (bit_true v)) all))

pub returns-in_err-lit-clause-err : goal.returns-in_err-lit-clause-err
returns-in_err-lit-clause-err c = on_err _ (Continues-trans c.loop-i.invariant.behind c.in_err-lit.ensures.err)

pub returns-in_err-push-clause-err : goal.returns-in_err-push-clause-err
returns-in_err-push-clause-err c = on_err _ (Continues-trans c.loop-i.invariant.behind (Continues-adds c.in_ok-lit.ensures.gate))
