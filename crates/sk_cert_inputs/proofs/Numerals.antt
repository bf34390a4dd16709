-- The numbers that write an input out determine it.
use Rattle.std.proofs.Common.{◌≡◌, ℕ, suc, pos, negsuc, List, [], ◌∷◌, ◌++◌, length, drop, eqb, false, refl, sym, ap, ◌∙◌, arith, true≢false}
use Rattle.std.specs.Prelude.{ℤ}
use Rattle.std.specs.List.{flat_map}
use Rattle.std.proofs.lemmas.Bool.{eq-eqb}
use Rattle.sk_cert.specs.declared.certificate.CertInput.{CertInput}
use Rattle.sk_cert_inputs.specs.Words.{argument_words, words}

abbrev first : List ℕ → ℕ
first [] = 0
first (n ∷ ns) = n

unlike : (a b : ℕ) (ns ms : List ℕ) → eqb a b ≡ false → a ∷ ns ≡ b ∷ ms → ⊥
unlike a b ns ms f e = true≢false (sym (eq-eqb a b (ap first e)) ∙ f)

no_end : (n : ℕ) (ns : List ℕ) → [] ≡ n ∷ ns → ⊥
no_end n ns e = let long : 0 ≡ suc (length ns) = ap length e in omega (arith, long)

-- an argument with more behind it
abbrev written : List ℤ → List ℕ → List ℕ
written xs rest = argument_words xs ++ rest

argument_apart : (xs ys : List ℤ) (r s : List ℕ) → written xs r ≡ written ys s → (xs ≡ ys) × (r ≡ s)
argument_apart [] [] r s e = (refl, ap (drop 1) e)
argument_apart [] (pos m ∷ ys) r s e = absurd (unlike 0 1 r (m ∷ written ys s) refl e)
argument_apart [] (negsuc m ∷ ys) r s e = absurd (unlike 0 2 r (m ∷ written ys s) refl e)
argument_apart (pos n ∷ xs) [] r s e = absurd (unlike 1 0 (n ∷ written xs r) s refl e)
argument_apart (negsuc n ∷ xs) [] r s e = absurd (unlike 2 0 (n ∷ written xs r) s refl e)
argument_apart (pos n ∷ xs) (negsuc m ∷ ys) r s e = absurd (unlike 1 2 (n ∷ written xs r) (m ∷ written ys s) refl e)
argument_apart (negsuc n ∷ xs) (pos m ∷ ys) r s e = absurd (unlike 2 1 (n ∷ written xs r) (m ∷ written ys s) refl e)
argument_apart (pos n ∷ xs) (pos m ∷ ys) r s e =
    let more = argument_apart xs ys r s (ap (drop 2) e) in
    let same : n ≡ m = ap (λ ns. first (drop 1 ns)) e in
    (ap (λ k. pos k ∷ xs) same ∙ ap (λ zs. pos m ∷ zs) more.0, more.1)
argument_apart (negsuc n ∷ xs) (negsuc m ∷ ys) r s e =
    let more = argument_apart xs ys r s (ap (drop 2) e) in
    let same : n ≡ m = ap (λ ns. first (drop 1 ns)) e in
    (ap (λ k. negsuc k ∷ xs) same ∙ ap (λ zs. negsuc m ∷ zs) more.0, more.1)

not_empty : (xs : List ℤ) (r : List ℕ) → [] ≡ written xs r → ⊥
not_empty [] r e = no_end 0 r e
not_empty (pos n ∷ xs) r e = no_end 1 (n ∷ written xs r) e
not_empty (negsuc n ∷ xs) r e = no_end 2 (n ∷ written xs r) e

arguments_apart : (as' bs : List (List ℤ)) → flat_map argument_words as' ≡ flat_map argument_words bs → as' ≡ bs
arguments_apart [] [] e = refl
arguments_apart [] (b ∷ bs) e = absurd (not_empty b (flat_map argument_words bs) e)
arguments_apart (a ∷ as') [] e = absurd (not_empty a (flat_map argument_words as') (sym e))
arguments_apart (a ∷ as') (b ∷ bs) e =
    let t = argument_apart a b (flat_map argument_words as') (flat_map argument_words bs) e in
    ap (λ x. x ∷ as') t.0 ∙ ap (λ xs. b ∷ xs) (arguments_apart as' bs t.1)

pub words_apart : (c d : CertInput) → words c ≡ words d → c ≡ d
words_apart c d e =
    ap (λ o. record { obligation = o; args = c.args }) (ap first e)
    ∙ ap (λ args. record { obligation = d.obligation; args = args }) (arguments_apart c.args d.args (ap (drop 1) e))
