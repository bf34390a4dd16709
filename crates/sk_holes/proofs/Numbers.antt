-- The table of new numbers holds the ranks.
use Rattle.std.proofs.Common.{◌≡◌, ℕ, zero, suc, ◌+◌, Bool, List, [], ◌∷◌, refl, ap, ◌∙◌, arith}
use Rattle.sk_model.specs.Parts.{one_if, rank}
use Rattle.sk_holes.specs.Table.{numbered}
use Rattle.sk_expand_copies.specs.Ranks.{ranks_from, count_true}

ranks_are : (k : ℕ) (bs : List Bool) (n : ℕ) → numbered (ranks_from k bs) (k + count_true bs) n ≡ k + rank bs n
ranks_are k [] zero = refl
ranks_are k [] (suc n) = refl
ranks_are k (b ∷ bs) zero = omega arith
ranks_are k (b ∷ bs) (suc n) =
    let e : k + (one_if b + count_true bs) ≡ k + one_if b + count_true bs = omega arith in
    ap (λ m. numbered (ranks_from (k + one_if b) bs) m n) e ∙ ranks_are (k + one_if b) bs n ∙ omega arith

pub ranks : (bs : List Bool) → numbered (ranks_from 0 bs) (count_true bs) ≡ rank bs
ranks bs =
    let law : (n : ℕ) → numbered (ranks_from 0 bs) (count_true bs) n ≡ rank bs n = λ n.
    let e : count_true bs ≡ 0 + count_true bs = omega arith in
    ap (λ m. numbered (ranks_from 0 bs) m n) e ∙ ranks_are 0 bs n ∙ omega arith in
    λ j n. law n j
