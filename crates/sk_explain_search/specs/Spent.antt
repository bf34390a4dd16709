-- How long the parts of a search took, in milliseconds.
use Rattle.std.specs.Prelude.{ℕ, ◌-◌, Option, Some, None}
use Rattle.sk_watch.specs.declared.Phase.{Phase}
use Rattle.sk_watch.specs.declared.Phase.TheVariants as phase
use Rattle.sk_explain_search.specs.declared.times.Times.{Times}
pub use Rattle.sk_explain_search.specs.Counts.{with_more}

abbrev pub no_time : Times
no_time = record { before = 0; proposing = 0; countering = 0; proving = 0; phase = None; at = 0 }

-- a part took so much longer
abbrev pub spent_in : Times → Option Phase → ℕ → Times
spent_in t None more = record t { before = with_more t.before more }
spent_in t (Some phase.Proposing) more = record t { proposing = with_more t.proposing more }
spent_in t (Some phase.Countering) more = record t { countering = with_more t.countering more }
spent_in t (Some phase.Proving) more = record t { proving = with_more t.proving more }

-- it is so late: what has passed belongs to the part that went on, and then another one goes on
abbrev pub passed : Times → ℕ → Option Phase → Times
passed t now next = record (spent_in t t.phase (now - t.at)) { at = now; phase = next }
