use Rattle.std.proofs.Common.{◌≡◌, ◌++◌, map, take}
use Rattle.sk_explain_places.specs.Spots.{pad}
use Rattle.sk_explain_places.proofs.spots.push_pads.Given as goal

abbrev pub invariant-loop-byte : goal.invariant-loop-byte
invariant-loop-byte l = l.out.items ≡ l.fn.out.items ++ map pad (take l.byte-index l.bytes)
