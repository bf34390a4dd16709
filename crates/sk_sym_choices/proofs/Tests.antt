-- Tests of a choice, one after another.
use Rattle.std.proofs.Common.{◌≡◌, ℕ, ◌+◌, ◌<◌, ◌≤◌, Bool, true, false, ◌&&◌, List, length, drop, get_or, refl, sym, ap, ◌∙◌}
use Rattle.std.proofs.lemmas.List.{drop_more, drop_all}
use Rattle.sk_sym_choices.specs.declared.guard.Test.{Test}
use Rattle.sk_sym_choices.specs.Guards.{meets, meets_all}

and_assoc : (a b c : Bool) → ((a && b) && c) ≡ (a && (b && c))
and_assoc true b c = refl
and_assoc false b c = refl

-- one more test
pub met_more : (values : List ℕ) (k : ℕ) (tests : List Test) (d : Test) (a b c all : Bool)
    → k < length tests → b ≡ meets values (get_or tests k d) → c ≡ (a && b)
    → (a && meets_all values (drop k tests)) ≡ all
    → (c && meets_all values (drop (k + 1) tests)) ≡ all
met_more values k tests d a b c all below is more h =
    let rest : List Test = drop (k + 1) tests in
    ap (λ x. x && meets_all values rest) more
    ∙ ap (λ x. (a && x) && meets_all values rest) is
    ∙ and_assoc a (meets values (get_or tests k d)) (meets_all values rest)
    ∙ ap (λ ts. a && meets_all values ts) (sym (drop_more tests k d below))
    ∙ h

and_true : (a : Bool) → a ≡ (a && true)
and_true true = refl
and_true false = refl

-- no test is left
pub met_all : (values : List ℕ) (k : ℕ) (tests : List Test) (a all : Bool) → length tests ≤ k → (a && meets_all values (drop k tests)) ≡ all → a ≡ all
met_all values k tests a all end h = and_true a ∙ ap (λ ts. a && meets_all values ts) (sym (drop_all k tests end)) ∙ h

-- all tests are left
pub met_first : (values : List ℕ) (tests : List Test) (a : Bool) → a ≡ true → (a && meets_all values (drop 0 tests)) ≡ meets_all values tests
met_first values tests a is = ap (λ x. x && meets_all values tests) is
