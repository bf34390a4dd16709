-- Upper parts, read one after another.
use Rattle.std.proofs.Common.{◌≡◌, ◌∙◌, ◌++◌, ◌∷◌, ◌<◌, ◌≤◌, ◌+◌, ◌-◌, ℕ, zero, suc, List, [], refl, sym, ap, arith, append_assoc, codes}
use Rattle.std.specs.Prelude.{Option, Some, None, Result, Ok, Err}
use Rattle.std.specs.Option.{option_map}
use Rattle.std.specs.Borrow.{Bor}
use Rattle.sk_cert.specs.declared.certificate.Proof.{Proof}
use Rattle.sk_cert.specs.declared.lines.Sizes.{Sizes}
use Rattle.sk_cert.specs.Words.{sizes_in}
use Rattle.sk_cert.specs.Readers.{Outcome, ◌>>=◌, one, rows, uppers, upper_behind}
use Rattle.sk_cert.specs.Steps.{found_upper, upper_behind_sizes, upper}
use Rattle.sk_cert.proofs.Repeated.{behind_all, read_of}

abbrev header : ℕ → List ℕ → Outcome Sizes
header i bs = one (sizes_in (codes "upper") (Some i)) bs

abbrev pub Found : Type 0
Found = Result (Option (Proof × List ℕ)) ℕ

abbrev some_of : Proof × List ℕ → Found
some_of p = Ok (Some p)

abbrev none_of : Found
none_of = Ok None

abbrev stuck_of : ℕ → Found
stuck_of n = Err n

-- an upper part, as the code answers it
abbrev pub shown : Option (Proof × Bor (List ℕ)) → Found
shown o = Ok (option_map (λ x. (x.0, x.1.now)) o)

-- what is read of the parts from this one on
abbrev then_uppers : ℕ → ℕ → List ℕ → Found → Outcome (List Proof)
then_uppers n i bs (Ok None) = Ok ([], bs)
then_uppers n i bs (Ok (Some p)) = uppers n (i + 1) p.1 >>= λ w. Ok (p.0 ∷ w.0, w.1)
then_uppers n i bs (Err k) = Err k

opened : (n i : ℕ) (bs : List ℕ) → uppers (suc n) i bs ≡ then_uppers n i bs (upper i bs)
unfolding upper uppers one
opened n i bs = from (header i bs)
  where
    each : (o : Outcome Proof) → (o >>= λ p. uppers n (i + 1) p.1 >>= λ w. Ok (p.0 ∷ w.0, w.1)) ≡ then_uppers n i bs (found_upper o)
    each (Ok p) = refl
    each (Err k) = refl

    from : (o : Outcome Sizes) → upper_behind (uppers n (i + 1)) bs o ≡ then_uppers n i bs (upper_behind_sizes o)
    from (Ok z) = each (rows z.0 z.1)
    from (Err k) = refl

-- one part more in front of those behind it
one_behind : (vs : List Proof) (a : Proof) (o : Outcome (List Proof)) → behind_all vs (o >>= λ w. Ok (a ∷ w.0, w.1)) ≡ behind_all (vs ++ a ∷ []) o
one_behind vs a (Ok v) = ap (λ (t : List Proof). read_of t v.1) (sym (append_assoc vs (a ∷ []) v.0))
one_behind vs a (Err n) = refl

pub numbered_step : (n i : ℕ) (vs pushed : List Proof) (bs text : List ℕ) (a : Proof) (rest : List ℕ) → i < n → uppers n 0 text ≡ behind_all vs (uppers (n - i) i bs) → upper i bs ≡ Ok (Some (a, rest)) → pushed ≡ vs ++ a ∷ [] → uppers n 0 text ≡ behind_all pushed (uppers (n - (i + 1)) (i + 1) rest)
numbered_step n i vs pushed bs text a rest h k e p =
    let more : n - i ≡ suc (n - (i + 1)) = omega arith in
    k
    ∙ ap (λ m. behind_all vs (uppers m i bs)) more
    ∙ ap (behind_all vs) (opened (n - (i + 1)) i bs ∙ ap (then_uppers (n - (i + 1)) i bs) e)
    ∙ one_behind vs a (uppers (n - (i + 1)) (i + 1) rest)
    ∙ ap (λ t. behind_all t (uppers (n - (i + 1)) (i + 1) rest)) (sym p)

pub numbered_stuck : (n i : ℕ) (vs : List Proof) (bs text : List ℕ) (m : ℕ) → i < n → uppers n 0 text ≡ behind_all vs (uppers (n - i) i bs) → upper i bs ≡ Err m → uppers n 0 text ≡ Err m
numbered_stuck n i vs bs text m h k e =
    let more : n - i ≡ suc (n - (i + 1)) = omega arith in
    k
    ∙ ap (λ m. behind_all vs (uppers m i bs)) more
    ∙ ap (behind_all vs) (opened (n - (i + 1)) i bs ∙ ap (then_uppers (n - (i + 1)) i bs) e)

pub numbered_last : (n i : ℕ) (vs : List Proof) (bs text : List ℕ) → i < n → uppers n 0 text ≡ behind_all vs (uppers (n - i) i bs) → upper i bs ≡ Ok None → uppers n 0 text ≡ read_of vs bs
numbered_last n i vs bs text h k e =
    let more : n - i ≡ suc (n - (i + 1)) = omega arith in
    k
    ∙ ap (λ m. behind_all vs (uppers m i bs)) more
    ∙ ap (behind_all vs) (opened (n - (i + 1)) i bs ∙ ap (then_uppers (n - (i + 1)) i bs) e)
    ∙ ap (λ (t : List Proof). read_of t bs) (Rattle.std.proofs.lemmas.List.append-nil vs)

pub numbered_end : (n i : ℕ) (vs : List Proof) (bs text : List ℕ) → n ≤ i → uppers n 0 text ≡ behind_all vs (uppers (n - i) i bs) → uppers n 0 text ≡ read_of vs bs
unfolding uppers
numbered_end n i vs bs text h k =
    let none : n - i ≡ zero = omega arith in
    k
    ∙ ap (λ m. behind_all vs (uppers m i bs)) none
    ∙ ap (λ (t : List Proof). read_of t bs) (Rattle.std.proofs.lemmas.List.append-nil vs)

pub numbered_start : (n : ℕ) (text : List ℕ) → uppers n 0 text ≡ behind_all [] (uppers (n - 0) 0 text)
numbered_start n text = let e : n ≡ n - 0 = omega arith in from (uppers n 0 text) ∙ ap (λ m. behind_all [] (uppers m 0 text)) e
  where
    from : (o : Outcome (List Proof)) → o ≡ behind_all [] o
    from (Ok v) = refl
    from (Err k) = refl

pub ruleset steps = (numbered_stuck, numbered_start)
