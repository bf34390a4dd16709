-- What is read one after another.
use Rattle.std.proofs.Common.{◌≡◌, ◌∷◌, ◌++◌, ◌+◌, ◌-◌, ◌<◌, ◌∙◌, ℕ, suc, List, [], Option, Some, None, take, drop, refl, sym, ap, arith, append_assoc}
use Rattle.std.specs.Prelude.{ℤ}
use Rattle.std.proofs.lemmas.List.{append-nil}
use Rattle.sk_prog.specs.declared.ty.Elem.{Elem}
use Rattle.sk_prog.specs.declared.value.Value.{Value}
use Rattle.sk_cert_inputs.specs.Reading.{both, array_listed, rows_listed}

-- these in front of those that are found, if some are
abbrev pub gathered : {A : Type 0} → List A → Option (List A) → Option (List A)
gathered vs None = None
gathered vs (Some ws) = Some (vs ++ ws)

pub gathered_none : {A : Type 0} (found : Option (List A)) → found ≡ gathered [] found
gathered_none None = refl
gathered_none (Some ws) = refl

pub gathered_one : {A : Type 0} (vs : List A) (v : A) (found : Option (List A)) → gathered vs (both (Some v) found) ≡ gathered (vs ++ v ∷ []) found
gathered_one vs v None = refl
gathered_one vs v (Some ws) = ap (λ xs. Some xs) (sym (append_assoc vs (v ∷ []) ws))

pub gathered_all : {A : Type 0} (vs : List A) → gathered vs (Some []) ≡ Some vs
gathered_all vs = ap (λ xs. Some xs) (append-nil vs)

pub ruleset steps = (gathered_none, gathered_one, gathered_all)

-- one row more
pub rows_next : (inbits : ℕ) (e : Elem) (n m i : ℕ) (ss rest row next : List ℤ) (rows pushed : List Value) (found : Option Value) (v : Value) → i < m → row ≡ take n rest → next ≡ drop n rest → found ≡ array_listed inbits e n row → found ≡ Some v → pushed ≡ rows ++ v ∷ [] → rows_listed inbits e n m ss ≡ gathered rows (rows_listed inbits e n (m - i) rest) → rows_listed inbits e n m ss ≡ gathered pushed (rows_listed inbits e n (m - (i + 1)) next)
rows_next inbits e n m i ss rest row next rows pushed found v h p q f g r before =
    let one : m - i ≡ suc (m - (i + 1)) = omega (arith, h) in
    before
    ∙ ap (λ k. gathered rows (rows_listed inbits e n k rest)) one
    ∙ ap (λ o. gathered rows (both o (rows_listed inbits e n (m - (i + 1)) (drop n rest)))) (ap (array_listed inbits e n) (sym p) ∙ sym f ∙ g)
    ∙ gathered_one rows v (rows_listed inbits e n (m - (i + 1)) (drop n rest))
    ∙ ap (λ ws. gathered ws (rows_listed inbits e n (m - (i + 1)) (drop n rest))) (sym r)
    ∙ ap (λ xs. gathered pushed (rows_listed inbits e n (m - (i + 1)) xs)) (sym q)
