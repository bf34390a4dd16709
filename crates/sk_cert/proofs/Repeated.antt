-- So many things, read one after another.
use Rattle.std.proofs.Common.{◌≡◌, ◌∙◌, ◌∷◌, ◌++◌, ◌+◌, ◌-◌, ◌<◌, ℕ, zero, suc, List, [], refl, sym, ap, arith, append_assoc}
use Rattle.std.specs.Prelude.{Ok, Err}
use Rattle.std.proofs.lemmas.List.{append-nil}
use Rattle.sk_cert.specs.Readers.{Outcome, Reader, ◌>>=◌, onto, repeated}

-- these in front of what is read
abbrev pub behind_all : {A : Type 0} → List A → Outcome (List A) → Outcome (List A)
behind_all vs (Ok v) = Ok (vs ++ v.0, v.1)
behind_all vs (Err n) = Err n

pub behind_none : {A : Type 0} (o : Outcome (List A)) → o ≡ behind_all [] o
behind_none (Ok v) = refl
behind_none (Err n) = refl

abbrev pub read_of : {A : Type 0} → A → List ℕ → Outcome A
read_of a rest = Ok (a, rest)

one_behind : {A : Type 0} (vs : List A) (a : A) (o : Outcome (List A)) → behind_all vs (o >>= λ w. Ok (onto (a, w.0), w.1)) ≡ behind_all (vs ++ a ∷ []) o
one_behind vs a (Ok v) = ap (λ (t : List _). read_of t v.1) (sym (append_assoc vs (a ∷ []) v.0))
one_behind vs a (Err n) = refl

same_mapped : {A : Type 0} (a : A) (o : Outcome (List A)) → ((o >>= λ w. Ok ((a, w.0), w.1)) >>= λ v. Ok (onto v.0, v.1)) ≡ (o >>= λ w. Ok (onto (a, w.0), w.1))
same_mapped a (Ok v) = refl
same_mapped a (Err n) = refl

pub repeated_more : {A : Type 0} (r : Reader A) (n : ℕ) (vs : List A) (bs : List ℕ) (a : A) (rest : List ℕ) → 0 < n → r bs ≡ Ok (a, rest) → behind_all vs (repeated r n bs) ≡ behind_all (vs ++ a ∷ []) (repeated r (n - 1) rest)
repeated_more r zero vs bs a rest h e = absurd (omega arith)
repeated_more {A} r (suc n) vs bs a rest h e =
    let less : suc n - 1 ≡ n = omega arith in
    ap (λ (o : Outcome A). behind_all vs ((o >>= λ v. repeated r n v.1 >>= λ w. Ok ((v.0, w.0), w.1)) >>= λ v. Ok (onto v.0, v.1))) e
    ∙ ap (behind_all vs) (same_mapped a (repeated r n rest))
    ∙ one_behind vs a (repeated r n rest)
    ∙ ap (λ m. behind_all (vs ++ a ∷ []) (repeated r m rest)) (sym less)

pub repeated_stuck : {A : Type 0} (r : Reader A) (n : ℕ) (bs : List ℕ) (k : ℕ) → 0 < n → r bs ≡ Err k → repeated r n bs ≡ Err k
repeated_stuck r zero bs k h e = absurd (omega arith)
repeated_stuck {A} r (suc n) bs k h e = ap (λ (o : Outcome A). (o >>= λ v. repeated r n v.1 >>= λ w. Ok ((v.0, w.0), w.1)) >>= λ v. Ok (onto v.0, v.1)) e

pub repeated_end : {A : Type 0} (r : Reader A) (vs : List A) (bs : List ℕ) (n : ℕ) → n ≡ 0 → behind_all vs (repeated r n bs) ≡ read_of vs bs
repeated_end {A} r vs bs n e = ap (λ m. behind_all vs (repeated r m bs)) e ∙ ap (λ (t : List A). read_of t bs) (append-nil vs)

pub repeated_step : {A : Type 0} (r : Reader A) (n i : ℕ) (vs pushed : List A) (bs text : List ℕ) (a : A) (rest : List ℕ) → i < n → repeated r n text ≡ behind_all vs (repeated r (n - i) bs) → r bs ≡ read_of a rest → pushed ≡ vs ++ a ∷ [] → repeated r n text ≡ behind_all pushed (repeated r (n - (i + 1)) rest)
repeated_step r n i vs pushed bs text a rest h k e p =
    let less : n - i - 1 ≡ n - (i + 1) = omega arith in
    k
    ∙ repeated_more r (n - i) vs bs a rest (omega arith) e
    ∙ ap (λ m. behind_all (vs ++ a ∷ []) (repeated r m rest)) less
    ∙ ap (λ t. behind_all t (repeated r (n - (i + 1)) rest)) (sym p)

pub ruleset steps = (behind_none, repeated_more, repeated_stuck, repeated_end)
