-- How texts of values and logs grow.
use Rattle.std.proofs.Common.{◌≡◌, ◌<◌, ◌≤◌, ◌+◌, ◌++◌, ◌∙◌, ℕ, zero, suc, Bool, not, List, [], ◌∷◌, length, get_or, take, refl, sym, ap, arith, append_assoc}
use Rattle.std.specs.List.{flat_map}
use Rattle.std.proofs.lemmas.List.{take_more, take_all, append-nil}
use Rattle.std.proofs.lemmas.List.Concat.{flat_map-append}
use Rattle.sk_clause.specs.declared.lit.Lit.{Lit}
use Rattle.dimacs_text.specs.Written.{lit_text, true_lits}

-- one piece more
pub pieces_more : {X : Type 0} (f : X → List ℕ) (begin : List ℕ) (xs : List X) (i : ℕ) (d : X) → i < length xs
    → begin ++ flat_map f (take (i + 1) xs) ≡ (begin ++ flat_map f (take i xs)) ++ f (get_or xs i d)
pieces_more f begin xs i d h =
    ap (λ ys. begin ++ flat_map f ys) (take_more xs i d h)
    ∙ ap (λ ys. begin ++ ys) (flat_map-append f (take i xs) (get_or xs i d ∷ []) ∙ ap (λ ys. flat_map f (take i xs) ++ ys) (append-nil (f (get_or xs i d))))
    ∙ sym (append_assoc begin (flat_map f (take i xs)) (f (get_or xs i d)))

-- one literal more
pub lits_more : (v : ℕ) (bs : List Bool) (i : ℕ) (d : Bool) → i < length bs
    → true_lits v (take (i + 1) bs) ≡ true_lits v (take i bs) ++ lit_text (record { var = v + i; neg = not (get_or bs i d) })
lits_more v [] i d h = absurd (omega arith)
lits_more v (b ∷ bs) zero d h =
    let e : v ≡ v + 0 = omega arith in
    append-nil (lit_text (record { var = v; neg = not b })) ∙ ap (λ n. lit_text (record { var = n; neg = not b })) e
lits_more v (b ∷ bs) (suc i) d h =
    let first : List ℕ = lit_text (record { var = v; neg = not b }) in
    let one : suc i + 1 ≡ suc (i + 1) = omega arith in
    let place : suc v + i ≡ v + suc i = omega arith in
    ap (λ n. true_lits v (take n (b ∷ bs))) one
    ∙ ap (λ ys. first ++ ys) (lits_more (suc v) bs i d (omega arith))
    ∙ sym (append_assoc first (true_lits (suc v) (take i bs)) (lit_text (record { var = suc v + i; neg = not (get_or bs i d) })))
    ∙ ap (λ n. (first ++ true_lits (suc v) (take i bs)) ++ lit_text (record { var = n; neg = not (get_or bs i d) })) place

-- the literal of variable i behind those before it
pub line_more : (begin : List ℕ) (bs : List Bool) (i : ℕ) (d : Bool) → i < length bs
    → begin ++ true_lits 0 (take (i + 1) bs) ≡ (begin ++ true_lits 0 (take i bs)) ++ lit_text (record { var = i; neg = not (get_or bs i d) })
line_more begin bs i d h =
    let e : 0 + i ≡ i = omega arith in
    ap (λ ys. begin ++ ys) (lits_more 0 bs i d h)
    ∙ ap (λ n. begin ++ (true_lits 0 (take i bs) ++ lit_text (record { var = n; neg = not (get_or bs i d) }))) e
    ∙ sym (append_assoc begin (true_lits 0 (take i bs)) (lit_text (record { var = i; neg = not (get_or bs i d) })))

pub ruleset texts = (pieces_more, line_more, append_assoc)
