use Rattle.std.proofs.Common.{◌≡◌, ◌++◌, ◌≤◌}
use Rattle.std.specs.Prelude.{replicate}
use Rattle.sk_model.specs.Sites.{site}
use Rattle.sk_expand_sites.proofs.listed.Listed.push_bits.Given as goal

-- the sites so far
abbrev pub invariant-loop : goal.invariant-loop
invariant-loop l = record {
  listed : l.self ≡ l.fn.self ++ replicate l.counter (site 2 l.span);
  within : l.counter ≤ l.count;
}
