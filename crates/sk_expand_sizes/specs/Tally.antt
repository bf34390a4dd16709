-- Numbers of steps and of records, which stop above their limits.
use Rattle.std.specs.Prelude.{ℕ, ◌+◌, min, Bool, true, false, nat_lt, if◌then◌else◌}
use Rattle.sk_model.specs.Limits.{most_steps}
use Rattle.sk_expand_sizes.specs.declared.tally.Tally.{Tally}
use Rattle.sk_expand_sizes.specs.declared.tally.Tally.TheVariants as tally

-- one record more than an obligation may make
abbrev pub too_many_news : ℕ
too_many_news = 257

-- with more steps and records
unfoldable pub added : Tally → ℕ → ℕ → Tally
added tally.Over steps news = tally.Over
added (tally.Within before made) steps news =
    if nat_lt most_steps (before + steps) then tally.Over else tally.Within (before + steps) (min (made + news) too_many_news)

abbrev pub is_over : Tally → Bool
is_over tally.Over = true
is_over (tally.Within steps news) = false

abbrev pub news_in : Tally → ℕ
news_in tally.Over = 0
news_in (tally.Within steps news) = news

-- the same steps, at the start of one more obligation
abbrev pub begun : Tally → Tally
begun tally.Over = tally.Over
begun (tally.Within steps news) = tally.Within steps 0
