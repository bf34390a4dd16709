use Rattle.std.proofs.Common.{◌≡◌, drop, ◌++◌, ◌+◌, length}
use Rattle.sk_model.specs.Sites.{funs_sites}
use Rattle.sk_expand_sites.proofs.listing.push_funs.Given as goal

-- the sites so far, and those of the functions that are left
abbrev pub invariant-loop-f : goal.invariant-loop-f
invariant-loop-f l = record {
  listed : l.out ++ funs_sites l.bounds (drop l.f-index l.funs) ≡ l.fn.out ++ funs_sites l.bounds l.funs;
  counted : length l.out + length (funs_sites l.bounds (drop l.f-index l.funs)) ≡ length l.fn.out + length (funs_sites l.bounds l.funs);
}
