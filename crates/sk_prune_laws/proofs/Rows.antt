-- Statements one after another, some of which never go on.
use Rattle.std.proofs.Common.{◌≡◌, List, [], ◌∷◌, ◌++◌, refl, sym, ap, subst}
use Rattle.sk_model.specs.Step.{State, Step, Goes, Fails, Skips, Comp, and_then, ◌>>=◌, pure}
use Rattle.sk_model.specs.Exec.{Flow, Onward, Returns, unless_returned, one_by_one}

pub by_state : {A : Type 0} (m n : Comp A) → ((st : State) → m st ≡ n st) → m ≡ n
by_state m n h = λ j st. h st j

pub single : (m : Comp Flow) → one_by_one (m ∷ []) ≡ m
single m = by_state (one_by_one (m ∷ [])) m (λ st. go (m st))
  where
    go : (r : Step Flow) → and_then r (unless_returned (pure Onward)) ≡ r
    go (Goes Onward s) = refl
    go (Goes (Returns v) s) = refl
    go (Fails span) = refl
    go (Skips span) = refl

pub together : (ms ns : List (Comp Flow)) → one_by_one (ms ++ ns) ≡ (one_by_one ms >>= unless_returned (one_by_one ns))
together [] ns = by_state (one_by_one ns) (pure Onward >>= unless_returned (one_by_one ns)) (λ st. refl)
together (m ∷ ms) ns = by_state (one_by_one (m ∷ ms ++ ns)) (one_by_one (m ∷ ms) >>= unless_returned (one_by_one ns)) (λ st. go (together ms ns) (m st))
  where
    go : one_by_one (ms ++ ns) ≡ (one_by_one ms >>= unless_returned (one_by_one ns)) → (r : Step Flow) → and_then r (unless_returned (one_by_one (ms ++ ns))) ≡ and_then (and_then r (unless_returned (one_by_one ms))) (unless_returned (one_by_one ns))
    go rest (Goes Onward s) = ap (λ n. n s) rest
    go rest (Goes (Returns v) s) = refl
    go rest (Fails span) = refl
    go rest (Skips span) = refl

-- What never goes on

abbrev pub Ended : Step Flow → Type 0
Ended (Goes Onward s) = ⊥
Ended (Goes (Returns v) s) = Unit {0}
Ended (Fails span) = Unit {0}
Ended (Skips span) = Unit {0}

abbrev pub NeverOn : Comp Flow → Type 0
NeverOn m = (st : State) → Ended (m st)

-- what stands behind it is not done
pub nothing_behind : (m k : Comp Flow) → NeverOn m → (m >>= unless_returned k) ≡ m
nothing_behind m k h = by_state (m >>= unless_returned k) m (λ st. go (m st) (h st))
  where
    go : (r : Step Flow) → Ended r → and_then r (unless_returned k) ≡ r
    go (Goes Onward s) e = absurd e
    go (Goes (Returns v) s) e = refl
    go (Fails span) e = refl
    go (Skips span) e = refl

pub first_ends : (m k : Comp Flow) → NeverOn m → NeverOn (m >>= unless_returned k)
first_ends m k h = subst NeverOn (sym (nothing_behind m k h)) h

pub second_ends : (m k : Comp Flow) → NeverOn k → NeverOn (m >>= unless_returned k)
second_ends m k h st = go (m st)
  where
    go : (r : Step Flow) → Ended (and_then r (unless_returned k))
    go (Goes Onward s) = h s
    go (Goes (Returns v) s) = tt
    go (Fails span) = tt
    go (Skips span) = tt
