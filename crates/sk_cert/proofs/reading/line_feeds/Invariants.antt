use Rattle.std.proofs.Common.{◌≡◌, ◌≤◌, ◌+◌, drop}
use Rattle.sk_cert.specs.Departing.{line_feeds}
use Rattle.sk_cert.proofs.reading.line_feeds.Given as goal

abbrev pub invariant-loop-b : goal.invariant-loop-b
invariant-loop-b l = record { small : l.count ≤ l.b-index; rest : l.count + line_feeds (drop l.b-index l.text) ≡ line_feeds l.text }
