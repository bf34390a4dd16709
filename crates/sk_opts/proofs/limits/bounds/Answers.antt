use Rattle.std.proofs.Common.{◌≡◌, ℕ, ◌-◌, ◌∙◌, Option, min, refl, ap}
use Rattle.sk_base.specs.declared.bounds.Bounds.{Bounds}
use Rattle.sk_opts.specs.BoundsOf.{bounds_of, chosen}
use Rattle.sk_opts.proofs.limits.bounds.Goals as goal

five : (b : Bounds) (i c n u a : ℕ) → i ≡ b.int_bits → c ≡ b.cbits → n ≡ b.inbits → u ≡ b.unroll → a ≡ b.inline_amnt → record { int_bits = i; cbits = c; inbits = n; unroll = u; inline_amnt = a } ≡ b
five b i c n u a e1 e2 e3 e4 e5 = rw (e1, e2, e3, e4, e5) refl

limit : (r x i j : ℕ) (o p q : Option ℕ) → r ≡ min x (i - 1) → x ≡ chosen o p 5 → p ≡ q → i ≡ j → r ≡ min (chosen o q 5) (j - 1)
limit r x i j o p q e f g h = e ∙ ap (λ y. min y (i - 1)) (f ∙ ap (λ v. chosen o v 5) g) ∙ ap (λ k. min (chosen o q 5) (k - 1)) h

pub returns-clause-value : goal.returns-clause-value
unfolding bounds_of
returns-clause-value c =
    let pragma = c.pragma_set-pragma.ensures.value in
    let bits = c.int_bits_of-int_bits.ensures.value in
    five (bounds_of c.args.set.now c.args.tree.now) _ _ _ _ _ bits
    (limit _ _ _ _ c.args.set.now.cbits c.pragma_set-pragma.result.cbits _ c.smaller.ensures c.chosen-cbits.ensures.value (ap (λ s. s.cbits) pragma) bits)
    (limit _ _ _ _ c.args.set.now.inbits c.pragma_set-pragma.result.inbits _ c.smaller-2.ensures c.chosen-inbits.ensures.value (ap (λ s. s.inbits) pragma) bits)
    (c.chosen-unroll.ensures.value ∙ ap (λ s. chosen c.args.set.now.unroll s.unroll 8) pragma)
    (c.chosen-inline_amnt.ensures.value ∙ ap (λ s. chosen c.args.set.now.inline_amnt s.inline_amnt 5) pragma)
