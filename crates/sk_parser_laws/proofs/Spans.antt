-- The span of tokens in a row, by the first and the last of them.
use Rattle.std.proofs.Common.{◌≡◌, ℕ, zero, suc, ◌-◌, ◌<◌, List, [], ◌∷◌, length, take, refl, sym, ap, ◌∙◌, arith}
use Rattle.std.specs.Prelude.{slice_index_or}
use Rattle.sk_base.specs.declared.span.Span.{Span}
use Rattle.sk_tree.specs.declared.token.Token.{Token}
use Rattle.sk_tree.specs.Phrase.{to_of, span_of}
use Rattle.sk_parser_laws.specs.Readers.{taken, span_between}

to_is : (m : ℕ) (ts : List Token) (d : Token) (s : Span) → m < length ts → (to_of (take (suc m) ts) s).to ≡ (slice_index_or ts m d).span.to
to_is m [] d s h = absurd (omega arith)
to_is zero (t ∷ ts) d s h = refl
to_is (suc m) (t ∷ ts) d s h = to_is m ts d (record s { to = t.span.to }) (omega arith)

first_and_last : (m : ℕ) (ts : List Token) (a d : Token) → m < length ts → span_of (take (suc m) ts) ≡ record { from = (slice_index_or ts 0 a).span.from; to = (slice_index_or ts m d).span.to }
first_and_last m [] a d h = absurd (omega arith)
first_and_last m (t ∷ ts) a d h = λ i. record { from = t.span.from; to = to_is m (t ∷ ts) d (record { from = 0; to = 0 }) h i }

-- the span of no tokens
pub none_taken : (start rest : List Token) → length start - length rest ≡ 0 → record { from = 0; to = 0 } ≡ span_between start rest
unfolding span_between taken
none_taken start rest e = sym (ap (λ n. span_of (take n start)) e)

-- the span of n tokens, of which this is the first and this the last
pub some_taken : (start rest : List Token) (n : ℕ) (a d : Token) → n ≡ length start - length rest → 0 < n → record { from = (slice_index_or start 0 a).span.from; to = (slice_index_or start (n - 1) d).span.to } ≡ span_between start rest
unfolding span_between taken
some_taken start rest n a d e some =
    let m : ℕ = n - 1 in
    let is : suc m ≡ length start - length rest = omega arith in
    sym (ap (λ k. span_of (take k start)) (sym is) ∙ first_and_last m start a d (omega arith))
