-- When people are shown that a search goes on.
use Rattle.std.specs.Prelude.{ℕ, ◌-◌, ◌%◌, ◌==◌, nat_le, Bool, true, Option, Some, None}
use Rattle.sk_watch.specs.declared.News.{News}
use Rattle.sk_watch.specs.declared.News.TheVariants as news

-- a second after the beginning, and then a tenth of a second after the line was last written
abbrev pub is_due : Option ℕ → ℕ → Bool
is_due None now = nat_le 1000 now
is_due (Some written) now = nat_le 100 (now - written)

-- at each piece of news that is no conflict, and at each sixteenth conflict
abbrev pub is_looked : News → ℕ → Bool
is_looked (news.Phase phase) conflicts = true
is_looked (news.Graph nodes) conflicts = true
is_looked (news.Formula variables clauses) conflicts = true
is_looked (news.Conflict restarts) conflicts = conflicts % 16 == 0
is_looked (news.Input count) conflicts = true
is_looked (news.Better value holes) conflicts = true
