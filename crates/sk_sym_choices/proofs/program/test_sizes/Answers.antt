use Rattle.std.proofs.Common.{◌≡◌, ◌≤◌, ℕ, suc, subst, inl, inr, arith}
use Rattle.std.proofs.lemmas.Bool.Decides.{leb_tells}
use Rattle.sk_model.specs.Fill.{digit}
use Rattle.sk_sym_choices.proofs.program.test_sizes.Goals as goal

pub loop-placed-preserved : goal.loop-placed-preserved
loop-placed-preserved c = λ values h j l.
    elim (leb_tells (suc j) c.loop-placed.placed) [
      | inl u ↦ c.loop-placed.invariant values h j u.1
      | inr u ↦ let same : c.loop-placed.placed ≡ j = omega (arith, l, u.1) in subst (λ (n : ℕ). digit values c.args.first n ≤ n) same (c.in_ok-test_size.ensures values h)
    ]

pub returns : goal.returns
returns c = record { each = λ values h. record { each = λ j l. c.loop-placed.invariant values h j (omega (arith, l, c.loop-placed-test.false)) } }
