-- A session that was called can be called again.
use Rattle.std.proofs.Common.{◌≡◌, ℕ, List, [], Option, Some, None, inl, sym, subst, slice_get, arith}
use Rattle.std.proofs.lemmas.List.{append-nil}
use Rattle.std.proofs.lemmas.Option.{none-some}
use Rattle.sk_base.specs.declared.bounds.Bounds.{Bounds}
use Rattle.sk_base.specs.declared.bounds.Budget.{Budget}
use Rattle.sk_model.specs.declared.expanded.Expanded.{Expanded}
use Rattle.sk_model.specs.declared.expanded.Input.{Input}
use Rattle.sk_model.specs.declared.expanded.Pair.{Pair}
use Rattle.sk_loop.specs.declared.session.Session.{Session}
use Rattle.sk_loop.specs.Session.{IsAbove, IsReady, StandsFor}
use Rattle.sk_loop.proofs.Standing.{ready_begins}
use Rattle.sk_loop_laws.specs.Honest.{Honest}
use Rattle.sk_loop_laws.specs.Shown.{HasRoom}

pub ready_again : (s : Session) (e : Expanded) (bounds : Bounds) (inputs : List Input) (limit : Option ℕ) → StandsFor s e bounds inputs limit → IsReady s e bounds inputs limit
ready_again s e bounds inputs limit stands = record { before = inputs; most = limit; stands = stands; front = record { rest = []; is = sym (append-nil inputs) }; above = above limit }
  where
    above : (limit : Option ℕ) → IsAbove limit limit
    above None = tt
    above (Some most) = omega arith

pub honest_none : (e : Expanded) (bounds : Bounds) (pairs : List Pair) → pairs ≡ [] → Honest e bounds pairs
honest_none e bounds pairs none = record { each = λ i p at. absurd (none-some p (subst (λ (l : List Pair). slice_get l i ≡ Some p) none at)) }

pub room : (budget : Budget) (pairs : List Pair) → budget.rounds ≡ 0 → HasRoom budget pairs
room budget pairs none = inl none

pub ruleset calling = (ready_again, room)

pub ruleset beginning = (ready_begins, honest_none, room)
