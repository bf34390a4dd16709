-- Sites one after another.
use Rattle.std.proofs.Common.{◌≡◌, ℕ, suc, ◌+◌, List, ◌++◌, length, ap, ◌∙◌, sym, arith}
use Rattle.sk_explain_answers.specs.Differences.{differing, number_if, values_of}

pub one_more : (rows : List (List (List ℕ))) (site : ℕ) → differing rows (site + 1) ≡ differing rows site ++ number_if (site + 1) (length (values_of site rows))
one_more rows site =
    let next : site + 1 ≡ suc site = omega arith in
    ap (differing rows) next ∙ ap (λ n. differing rows site ++ number_if n (length (values_of site rows))) (sym next)
