-- Turns one after another.
use Rattle.std.proofs.Common.{◌≡◌, List, subst}
use Rattle.sk_base.specs.declared.bounds.Bounds.{Bounds}
use Rattle.sk_base.specs.declared.bounds.Budget.{Budget}
use Rattle.sk_model.specs.declared.expanded.Choice.{Choice}
use Rattle.sk_model.specs.declared.expanded.Expanded.{Expanded}
use Rattle.sk_model.specs.declared.expanded.Pair.{Pair}
use Rattle.sk_min.specs.declared.search.Turn.{Turn}
use Rattle.sk_min.specs.declared.search.Turn.TheVariants as turn
use Rattle.sk_min.specs.Least.{pairs_of}
use Rattle.sk_min.specs.Search.{IsBehind, IsTurn, Lowers}
use Rattle.sk_min.proofs.Raises.{behind_on}

-- a turn from pairs that begin with others, and from the same choice
pub turn_from : (e : Expanded) (bounds : Bounds) (budget : Budget) (first old : List Pair) (best choice : Choice) (t : Turn) → IsBehind first old → choice ≡ best → IsTurn e bounds budget old choice t → IsTurn e bounds budget first best t
turn_from e bounds budget first old best choice (turn.Lower state) behind same h = (
  h.0,
  subst (λ (b : Choice). Lowers e bounds b state.best) same h.1,
  behind_on first old state.pairs behind h.2,
  h.3,
)
turn_from e bounds budget first old best choice (turn.Ended answer) behind same h = (h.0, behind_on first old (pairs_of answer) behind h.1)
