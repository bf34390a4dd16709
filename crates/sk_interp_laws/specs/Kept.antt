-- Logs that keep the first steps alone, and know whether there were others.
use Rattle.std.specs.Prelude.{ℕ, Bool, true, false, List, [], ◌∷◌, ◌++◌, length, take, nat_lt, if◌then◌else◌}
use Rattle.sk_interp_laws.specs.declared.step.Step.{Step}
use Rattle.sk_interp_laws.specs.declared.log.Log.{Log}

abbrev pub empty_log : ℕ → Log
empty_log most = record { most = most; steps = []; more = false }

abbrev pub has_room : Log → Bool
has_room log = nat_lt (length log.steps) log.most

-- the log with one step more
abbrev pub kept : Log → Step → Log
kept log step = if has_room log then record log { steps = log.steps ++ step ∷ [] } else record log { more = true }

-- the log of these steps
abbrev pub log_of_steps : ℕ → List Step → Log
log_of_steps most steps = record { most = most; steps = take most steps; more = nat_lt most (length steps) }
