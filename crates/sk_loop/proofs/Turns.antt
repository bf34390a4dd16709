-- Rounds one after another.
use Rattle.std.proofs.Common.{ℕ, List, Option}
use Rattle.sk_base.specs.declared.bounds.Bounds.{Bounds}
use Rattle.sk_model.specs.declared.expanded.Expanded.{Expanded}
use Rattle.sk_model.specs.declared.expanded.Pair.{Pair}
use Rattle.sk_loop_laws.specs.Honest.{Honest}
use Rattle.sk_loop_laws.proofs.Pairs.{grown_is_honest}
use Rattle.sk_loop.specs.declared.session.Session.{Session}
use Rattle.sk_loop.specs.Rounds.{Steps}
use Rattle.sk_loop.proofs.Growing.{keeps_same, keeps_on, cut_back, kept_len}
use Rattle.sk_loop.proofs.Standing.{steps_same, steps_on}
use Rattle.sk_loop.proofs.Beginning.{kept_same, kept_on}

pub honest_steps : (t : Session) (e : Expanded) (bounds : Bounds) (limit : Option ℕ) (old new : List Pair) → Honest e bounds old → Steps e bounds limit old new t → Honest e bounds new
honest_steps t e bounds limit old new h st = grown_is_honest e bounds limit old new h st.grown

pub ruleset turns = (keeps_same, keeps_on, steps_same, steps_on, honest_steps, kept_same, kept_on)

pub ruleset joined = (keeps_same, kept_on)

pub ruleset ending = (honest_steps, cut_back, kept_len)
