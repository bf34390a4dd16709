use Rattle.std.proofs.Common.{◌≡◌, drop, ◌+◌}
use Rattle.sk_sym_sites.specs.Places.{funs_count}
use Rattle.sk_sym_sites.proofs.starts.sites_of.Given as goal

-- the sites passed so far, and those that are left
abbrev pub invariant-loop-fun : goal.invariant-loop-fun
invariant-loop-fun l = l.at + funs_count (drop l.fun-index l.funs) ≡ funs_count l.funs
