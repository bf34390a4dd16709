use Rattle.std.proofs.Common.{◌≡◌, ◌==◌, ◌&&◌, drop}
use Rattle.std.specs.List.{list_any}
use Rattle.sk_adt_tags.proofs.expr.has_test.Given as goal

abbrev pub invariant-loop-test : goal.invariant-loop-test
invariant-loop-test l = list_any (λ t. (t.slot == l.slot) && (t.variant == l.variant)) (drop l.test-index l.tests) ≡ list_any (λ t. (t.slot == l.slot) && (t.variant == l.variant)) l.tests
