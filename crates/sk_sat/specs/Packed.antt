-- The literal that a number stands for.
use Rattle.std.specs.Prelude.{ℕ, ◌/◌, ◌%◌, ◌==◌}
use Rattle.sk_clause.specs.declared.lit.Lit.{Lit}

-- twice the number of the variable, and one more for a negation
abbrev pub lit_of : ℕ → Lit
lit_of n = record { var = n / 2; neg = n % 2 == 1 }
