use Rattle.std.proofs.Common.{◌≡◌, arith, length, ap, map, ◌∙◌}
use Rattle.std.proofs.lemmas.List.{take_all, length-map}
use Rattle.sk_gates.specs.declared.bit.Bit.TheVariants.{Literal}
use Rattle.sk_gates.specs.Words.{bits_word}
use Rattle.sk_gates.proofs.BitLaws.{AreOver-literals}
use Rattle.sk_gates.proofs.WordLaws.{bits_of_literals}
use Rattle.sk_gates.proofs.convert.as_bits.Goals as goal

pub returns-clause-length : goal.returns-clause-length
returns-clause-length c =
    let e : c.loop-i.bits ≡ map Literal c.args.lits.now = c.loop-i.invariant.so_far ∙ ap (map Literal) (take_all c.loop-i.i c.args.lits.now (omega arith)) in
    ap length e ∙ length-map c.args.lits.now Literal

pub returns-clause-within : goal.returns-clause-within
returns-clause-within c =
    let e : c.loop-i.bits ≡ map Literal c.args.lits.now = c.loop-i.invariant.so_far ∙ ap (map Literal) (take_all c.loop-i.i c.args.lits.now (omega arith)) in
    λ n h. rw e (AreOver-literals n c.args.lits.now h)

pub returns-clause-value : goal.returns-clause-value
returns-clause-value c =
    let e : c.loop-i.bits ≡ map Literal c.args.lits.now = c.loop-i.invariant.so_far ∙ ap (map Literal) (take_all c.loop-i.i c.args.lits.now (omega arith)) in
    λ v. ap (bits_word v) e ∙ bits_of_literals v c.args.lits.now
