use Rattle.std.proofs.Common.{◌≡◌, ◌≤◌, take, count_by}
use Rattle.sk_explain_places.specs.Lines.{is_feed}
use Rattle.sk_explain_places.proofs.places.feeds.Given as goal

abbrev pub invariant-loop-byte : goal.invariant-loop-byte
invariant-loop-byte l = (l.count ≡ count_by is_feed (take l.byte-index l.bytes)) × (l.count ≤ l.byte-index)
