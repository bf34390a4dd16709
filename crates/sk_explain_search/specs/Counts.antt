-- What is counted of a search.
use Rattle.std.specs.Prelude.{ℕ, ◌+◌, ◌-◌, ◌^◌, min, nat_lt, Some, None, if◌then◌else◌}
use Rattle.sk_watch.specs.declared.Phase.{Phase}
use Rattle.sk_watch.specs.declared.Phase.TheVariants as phase
use Rattle.sk_watch.specs.declared.News.{News}
use Rattle.sk_watch.specs.declared.News.TheVariants as news
use Rattle.sk_explain_search.specs.declared.statistics.Formula.{Formula}
use Rattle.sk_explain_search.specs.declared.statistics.Statistics.{Statistics}

-- a count with more, which stays where it is the greatest number of 64 bits
abbrev pub with_more : ℕ → ℕ → ℕ
with_more count more = min (count + more) (2 ^ 64 - 1)

abbrev pub one_more : ℕ → ℕ
one_more count = with_more count 1

abbrev pub no_formula : Formula
no_formula = record { variables = 0; clauses = 0 }

abbrev pub nothing_counted : Statistics
nothing_counted = record { rounds = 0; inputs = 0; nodes = 0; conflicts = 0; restarts = 0; lately = 0; formula = no_formula; largest = no_formula; best = None }

abbrev pub most : ℕ → ℕ → ℕ
most first second = if nat_lt first second then second else first

-- the one with more clauses, and the first where they have as many
abbrev pub larger : Formula → Formula → Formula
larger first second = if nat_lt first.clauses second.clauses then second else first

-- a look for a choice is a round
abbrev pub of_phase : Statistics → Phase → Statistics
of_phase s phase.Proposing = record s { rounds = one_more s.rounds }
of_phase s phase.Countering = s
of_phase s phase.Proving = s

-- a call of the solver begins, which has not begun anew yet
abbrev pub with_formula : Statistics → Formula → Statistics
with_formula s f = record s { lately = 0; formula = f; largest = larger s.largest f }

-- all restarts, where so many were counted, so many of them in a call that has come to so many
abbrev pub with_restarts : ℕ → ℕ → ℕ → ℕ
with_restarts all lately now = with_more all (now - lately)

abbrev pub with_conflict : Statistics → ℕ → Statistics
with_conflict s restarts = record s { conflicts = one_more s.conflicts; restarts = with_restarts s.restarts s.lately restarts; lately = restarts }

-- what is counted with a piece of news
abbrev pub counted : Statistics → News → Statistics
counted s (news.Phase phase) = of_phase s phase
counted s (news.Graph nodes) = record s { nodes = most s.nodes nodes }
counted s (news.Formula variables clauses) = with_formula s (record { variables = variables; clauses = clauses })
counted s (news.Conflict restarts) = with_conflict s restarts
counted s (news.Input count) = record s { inputs = one_more s.inputs }
counted s (news.Better value holes) = record s { best = Some value }
