use Rattle.std.proofs.Common.{◌≡◌, drop, ◌++◌, ◌+◌, length}
use Rattle.sk_expand_sites.specs.Listed.{exprs_sites, fields_sites}
use Rattle.sk_expand_sites.proofs.lister.+expr.Given as goal

-- the sites so far, and those that are left
abbrev pub invariant-push_exprs-loop-e : goal.invariant-push_exprs-loop-e
invariant-push_exprs-loop-e l = record {
  listed : l.out ++ exprs_sites l.bounds (drop l.e-index l.es) ≡ l.fn.out ++ exprs_sites l.bounds l.es;
  counted : length l.out + length (exprs_sites l.bounds (drop l.e-index l.es)) ≡ length l.fn.out + length (exprs_sites l.bounds l.es);
}

abbrev pub invariant-push_fields-loop-x : goal.invariant-push_fields-loop-x
invariant-push_fields-loop-x l = record {
  listed : l.out ++ fields_sites l.bounds (drop l.x-index l.given) ≡ l.fn.out ++ fields_sites l.bounds l.given;
  counted : length l.out + length (fields_sites l.bounds (drop l.x-index l.given)) ≡ length l.fn.out + length (fields_sites l.bounds l.given);
}
