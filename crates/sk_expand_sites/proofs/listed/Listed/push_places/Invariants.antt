use Rattle.std.proofs.Common.{◌≡◌, ◌++◌}
use Rattle.sk_model.specs.Sites.{places}
use Rattle.sk_expand_sites.proofs.listed.Listed.push_places.Given as goal

-- the sites so far
abbrev pub invariant-loop-k : goal.invariant-loop-k
invariant-loop-k l = l.self ≡ l.fn.self ++ places 2 l.k l.span
