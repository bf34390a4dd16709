-- Rows of scalars.
use Rattle.std.proofs.Common.{◌≡◌, ℕ, zero, suc, ◌-◌, ◌<◌, List, [], ◌∷◌, ◌++◌, take, drop, ◌+◌, refl, sym, ap, ◌∙◌, arith, append_assoc}
use Rattle.sk_prog.specs.declared.value.Value.{Value}
use Rattle.sk_prog.specs.declared.value.Value.TheVariants as value
use Rattle.sk_opts.specs.SpeltValues.{rows_of}

pub take_next : (n : ℕ) (v : Value) (vs : List Value) → 0 < n → take n (v ∷ vs) ≡ v ∷ take (n - 1) vs
take_next zero v vs some = absurd (omega arith)
take_next (suc n) v vs some = let e : suc n - 1 ≡ n = omega arith in rw e refl

pub drop_next : (n : ℕ) (v : Value) (vs : List Value) → 0 < n → drop n (v ∷ vs) ≡ drop (n - 1) vs
drop_next zero v vs some = absurd (omega arith)
drop_next (suc n) v vs some = let e : suc n - 1 ≡ n = omega arith in rw e refl

pub next_row : (n m : ℕ) (vs : List Value) → 0 < m → rows_of n m vs ≡ value.Array (take n vs) ∷ rows_of n (m - 1) (drop n vs)
next_row n zero vs some = absurd (omega arith)
next_row n (suc m) vs some = let e : suc m - 1 ≡ m = omega arith in rw e refl

-- one more value of a row
pub taken : (n i : ℕ) (row pushed rest next : List Value) (v : Value) → i < n → rest ≡ v ∷ next → pushed ≡ row ++ v ∷ [] → (all : List Value) → all ≡ row ++ take (n - i) rest → all ≡ pushed ++ take (n - (i + 1)) next
taken n i row pushed rest next v below is push all e =
    let some : 0 < n - i = omega arith in
    let fewer : n - i - 1 ≡ n - (i + 1) = omega arith in
    e
    ∙ ap (λ vs. row ++ take (n - i) vs) is
    ∙ ap (λ vs. row ++ vs) (take_next (n - i) v next some)
    ∙ sym (append_assoc row (v ∷ []) (take (n - i - 1) next))
    ∙ ap (λ vs. vs ++ take (n - i - 1) next) (sym push)
    ∙ ap (λ k. pushed ++ take k next) fewer

pub dropped : (n i : ℕ) (rest next : List Value) (v : Value) → i < n → rest ≡ v ∷ next → (all : List Value) → all ≡ drop (n - i) rest → all ≡ drop (n - (i + 1)) next
dropped n i rest next v below is all e =
    let some : 0 < n - i = omega arith in
    let fewer : n - i - 1 ≡ n - (i + 1) = omega arith in
    e ∙ ap (λ vs. drop (n - i) vs) is ∙ drop_next (n - i) v next some ∙ ap (λ k. drop k next) fewer

-- one more row
pub row_more : (n m i : ℕ) (made pushed rest next row : List Value) → i < m → row ≡ take n rest → next ≡ drop n rest → pushed ≡ made ++ value.Array row ∷ [] → (all : List Value) → all ≡ made ++ rows_of n (m - i) rest → all ≡ pushed ++ rows_of n (m - (i + 1)) next
row_more n m i made pushed rest next row below is after push all e =
    let some : 0 < m - i = omega arith in
    let fewer : m - i - 1 ≡ m - (i + 1) = omega arith in
    e
    ∙ ap (λ vs. made ++ vs) (next_row n (m - i) rest some)
    ∙ ap (λ vs. made ++ value.Array vs ∷ rows_of n (m - i - 1) (drop n rest)) (sym is)
    ∙ ap (λ vs. made ++ value.Array row ∷ rows_of n (m - i - 1) vs) (sym after)
    ∙ sym (append_assoc made (value.Array row ∷ []) (rows_of n (m - i - 1) next))
    ∙ ap (λ vs. vs ++ rows_of n (m - i - 1) next) (sym push)
    ∙ ap (λ k. pushed ++ rows_of n k next) fewer
