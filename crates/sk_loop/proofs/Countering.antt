-- What the solver's answers say of the inputs that speak against a choice.
use Rattle.std.proofs.Common.{◌≡◌, ℕ, List, Option, refl, sym, subst}
use Rattle.sk_base.specs.declared.bounds.Bounds.{Bounds}
use Rattle.sk_clause.specs.declared.lit.Lit.{Lit}
use Rattle.sk_model.specs.declared.expanded.Choice.{Choice}
use Rattle.sk_model.specs.declared.expanded.Expanded.{Expanded}
use Rattle.sk_model.specs.declared.expanded.Input.{Input}
use Rattle.sk_model.specs.Fill.{InRange}
use Rattle.sk_cnf.specs.declared.growing.Encoded.{Encoded}
use Rattle.sk_cnf.specs.Formula.{Tight}
use Rattle.sk_oblig_queries.specs.declared.query.Query.{Query}
use Rattle.sk_oblig_queries.specs.declared.query.Query.TheVariants as query
use Rattle.sk_oblig_queries.specs.Queries.{AsksFor, IsBad}
use Rattle.sk_oblig_queries.proofs.Nothing.{nothing_bad}
use Rattle.sk_loop_guesses.specs.Formulas.{IsAskable}
use Rattle.sk_loop_laws.specs.Shown.{Completes}
use Rattle.sk_loop_laws.proofs.Completing.{none_bad_completes}
use Rattle.sk_loop_laws.proofs.Learning.{learnt_asks_for, learnt_is_tight}
use Rattle.sk_loop.specs.Answered.{IsNever, IsSpentFrom}
use Rattle.sk_loop.specs.Countered.{IsSpentOn}

pub bad_again : (e : Expanded) (bounds : Bounds) (copy choice : Choice) (limit : Option ℕ) (input : Input) → copy ≡ choice → IsBad e bounds copy limit input → IsBad e bounds choice limit input
bad_again e bounds copy choice limit input is bad = subst (λ (c : Choice). IsBad e bounds c limit input) is bad

pub in_range_again : (e : Expanded) (copy choice : Choice) → copy ≡ choice → InRange e choice → InRange e copy
in_range_again e copy choice is range = subst (InRange e) (sym is) range

pub completes_then : (e : Expanded) (bounds : Bounds) (copy choice : Choice) (limit : Option ℕ) (f : Encoded) → IsAskable e bounds → InRange e choice → copy ≡ choice → AsksFor f e bounds (query.Bad copy limit) → IsNever f → Completes e bounds limit choice
completes_then e bounds copy choice limit f askable range is asks none =
    none_bad_completes e bounds limit choice range (askable.met choice range)
    (λ input bad. nothing_bad f e bounds copy limit asks none.none input (subst (λ (c : Choice). IsBad e bounds c limit input) (sym is) bad))

-- with what was learnt before, the formula of a query asks for it in one way
pub still_asks : (e : Expanded) (bounds : Bounds) (q : Query) (f g : Encoded) (count : ℕ) (log : List (List Lit)) → AsksFor f e bounds q → IsSpentFrom f count g log → AsksFor g e bounds q
still_asks e bounds q f g count log asks spent = subst (λ (h : Encoded). AsksFor h e bounds q) (sym spent.is) (learnt_asks_for f e bounds q spent.learnt asks spent.known)

pub still_tight : (f g : Encoded) (count : ℕ) (log : List (List Lit)) → Tight f → IsSpentFrom f count g log → Tight g
still_tight f g count log tight spent = subst Tight (sym spent.is) (learnt_is_tight f spent.learnt tight)

pub spent_on : (e : Expanded) (bounds : Bounds) (copy choice : Choice) (limit : Option ℕ) (count : ℕ) (f g : Encoded) (log : List (List Lit)) → copy ≡ choice → AsksFor f e bounds (query.Bad copy limit) → Tight f → IsSpentFrom f count g log → IsSpentOn e bounds choice limit count (query.Bad copy limit) g log
spent_on e bounds copy choice limit count f g log is asks tight spent = record {
  query = (is, refl);
  some = spent.some;
  long = spent.long;
  consistent = spent.consistent;
  asks = still_asks e bounds (query.Bad copy limit) f g count log asks spent;
  tight = still_tight f g count log tight spent;
  follows = spent.follows;
  fresh = spent.fresh;
}

pub ruleset countering = (bad_again, in_range_again, completes_then, spent_on)
