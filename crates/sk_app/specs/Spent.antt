-- What is told where a budget is spent, and when.
use Rattle.std.specs.Prelude.{ℕ, Bool, true, false, ◌≡◌, ◌<◌, List, length, Option, IfSome}
use Rattle.sk_base.specs.declared.bounds.Bounds.{Bounds}
use Rattle.sk_base.specs.declared.bounds.Budget.{Budget}
use Rattle.sk_clause.specs.declared.lit.Lit.{Lit}
use Rattle.sk_cnf.specs.declared.growing.Encoded.{Encoded}
use Rattle.sk_model.specs.declared.expanded.Choice.{Choice}
use Rattle.sk_model.specs.declared.expanded.Expanded.{Expanded}
use Rattle.sk_model.specs.declared.expanded.Pair.{Pair}
use Rattle.sk_model.specs.Fill.{InRange, fill}
use Rattle.sk_model.specs.Meets.{Meets}
use Rattle.sk_print.specs.Layout.{layout}
use Rattle.sk_print.specs.Shows.{Shows}
use Rattle.sk_oblig_queries.specs.declared.query.Query.{Query}
use Rattle.sk_loop_laws.specs.Honest.{Honest}
use Rattle.sk_loop_laws.specs.Shown.{AreSpent, HasRoom, Learnt, IsOfSearch}
use Rattle.sk_min_certificate.specs.Least.{IsKnown, IsKnownOf, IsFreeSpent}
use Rattle.sk_opts.specs.declared.line.Set.{Set}
use Rattle.sk_all_text.specs.Built.{IsOnly}
use Rattle.sk_app.specs.SpentText.{OfRounds, OfConflicts, spent_result}

-- A choice in range whose filling meets its obligations, and its layout shows the filled program.
pub record IsMeeting (bounds : Bounds) (e : Expanded) (a : Choice) : Type 0 where
  pub in_range : InRange e a
  pub meets : Meets (fill e a) bounds
  pub shows : Shows (layout (fill e a)) bounds (fill e a)

-- As many pairs were found as the budget of rounds says. Each is a choice in range that no earlier input breaks, with an
-- input that speaks against it. The result text tells them, and the choice that is known, whose filling meets its
-- obligations.
pub record IsSpentRounds (set : Set) (budget : Budget) (text : List ℕ) (pairs : List Pair) (best : Option Choice) (out : List ℕ) : Type 0 where
  pub bounds : Bounds
  pub e : Expanded
  pub only : IsOnly set text bounds e
  pub spent : AreSpent budget.rounds pairs
  pub honest : Honest e bounds pairs
  pub known : IsKnown e bounds pairs best
  pub meets : IfSome best (IsMeeting bounds e)
  pub is : out ≡ spent_result e best (OfRounds budget.rounds pairs)

-- Where no certificate is asked for, the budget is spent by the search: of a program with neither `minimize` nor `minrepeat` no choice
-- is known then. Else a proof may have spent it, of the choice that is known.
abbrev pub IsSpentBy : Bool → Expanded → Query → Option Choice → Type 0
IsSpentBy false e q best = IsFreeSpent e best × IsOfSearch q
IsSpentBy true e q best = Unit {0}

-- As many clauses were learnt as the budget of conflicts says, from the formula of a query to which the pairs
-- lead, and the budget of rounds has room for a further pair. The result text tells the choice that is known, whose filling meets
-- its obligations.
pub record IsSpentConflicts (set : Set) (budget : Budget) (cert : Bool) (text : List ℕ) (pairs : List Pair) (q : Query) (f : Encoded) (log : List (List Lit)) (best : Option Choice) (out : List ℕ) : Type 0 where
  pub bounds : Bounds
  pub e : Expanded
  pub only : IsOnly set text bounds e
  pub learnt : Learnt e bounds budget.conflicts pairs q f log
  pub room : HasRoom budget pairs
  pub known : IsKnownOf e bounds pairs q best
  pub by : IsSpentBy cert e q best
  pub meets : IfSome best (IsMeeting bounds e)
  pub is : out ≡ spent_result e best (OfConflicts budget.conflicts)

-- so many clauses were learnt, which are not none
pub record AreLearnt (budget : ℕ) (log : List (List Lit)) : Type 0 where
  pub some : 0 < budget
  pub long : length log ≡ budget
