-- The cases of a switch, and then the braces that close them.
use Rattle.std.specs.Prelude.{ℕ, zero, suc, List, [], ◌∷◌}
use Rattle.sk_base.specs.declared.span.Span.{Span}
use Rattle.sk_tree.specs.declared.token.Mark.TheVariants as mark
use Rattle.sk_adt.specs.declared.form.Spots.{Spots}
use Rattle.sk_adt.specs.declared.form.Known.{Known}
use Rattle.sk_adt.specs.declared.form.Inside.{Inside}
use Rattle.sk_adt.specs.Branches.{Tokens, ◌▹◌, sign, all_at, Branch, branch}

-- each case up to its further block
unfoldable pub heads : List Known → List Inside → List ℕ → Spots → List Branch → Tokens
heads known inside x spots [] = []
heads known inside x spots (b ∷ bs) = branch known inside x spots b ▹ heads known inside x (all_at b.head.close) bs

-- so many braces
unfoldable pub closers : Span → ℕ → Tokens
closers s zero = []
closers s (suc n) = sign mark.CloseBrace s ▹ closers s n
