-- The table of new numbers holds the ranks.
use Rattle.std.proofs.Common.{◌≡◌, ℕ, zero, suc, ◌+◌, Bool, List, [], ◌∷◌, length, refl, sym, ap, ◌∙◌, arith, Some, None}
use Rattle.std.specs.Prelude.{slice_get}
use Rattle.sk_prog.specs.declared.prog.Fun.{Fun}
use Rattle.sk_model.specs.Parts.{one_if, rank}
use Rattle.sk_model.specs.Expand.{are_ordinary, ordinary_count}
use Rattle.sk_expand_copies.specs.Ranks.{ranks_from, count_true}

ranks_get : (k : ℕ) (bs : List Bool) (n r : ℕ) → slice_get (ranks_from k bs) n ≡ Some r → r ≡ k + rank bs n
ranks_get k [] n r at = cc
ranks_get k (b ∷ bs) zero r at =
    let e : k ≡ r = cc in
    rw (← e) (omega arith)
ranks_get k (b ∷ bs) (suc n) r at = ranks_get (k + one_if b) bs n r at ∙ omega arith

ranks_none : (k : ℕ) (bs : List Bool) (n : ℕ) → slice_get (ranks_from k bs) n ≡ None → rank bs n ≡ rank bs (length bs)
ranks_none k [] zero at = refl
ranks_none k [] (suc n) at = refl
ranks_none k (b ∷ bs) zero at = cc
ranks_none k (b ∷ bs) (suc n) at = ap (λ r. one_if b + r) (ranks_none (k + one_if b) bs n at)

length_ordinary : (fs : List Fun) → length (are_ordinary fs) ≡ length fs
length_ordinary [] = refl
length_ordinary (f ∷ fs) = ap suc (length_ordinary fs)

pub number_there : (table : List ℕ) (fs : List Fun) (n r : ℕ) → table ≡ ranks_from 0 (are_ordinary fs) → slice_get table n ≡ Some r → rank (are_ordinary fs) n ≡ r
number_there table fs n r is at = sym (ranks_get 0 (are_ordinary fs) n r (rw is at at) ∙ omega arith)

pub number_past : (table : List ℕ) (fs : List Fun) (n : ℕ) → table ≡ ranks_from 0 (are_ordinary fs) → slice_get table n ≡ None → rank (are_ordinary fs) n ≡ ordinary_count fs
number_past table fs n is at = ranks_none 0 (are_ordinary fs) n (rw is at at) ∙ ap (rank (are_ordinary fs)) (length_ordinary fs)

pub ruleset numbers = (number_there, number_past)

pub all_counted : (bs : List Bool) → rank bs (length bs) ≡ count_true bs
all_counted [] = refl
all_counted (b ∷ bs) = ap (λ n. one_if b + n) (all_counted bs)

pub ordinary_counted : (fs : List Fun) → count_true (are_ordinary fs) ≡ ordinary_count fs
ordinary_counted fs = sym (all_counted (are_ordinary fs)) ∙ ap (rank (are_ordinary fs)) (length_ordinary fs)

pub ruleset counted = (ordinary_counted)
