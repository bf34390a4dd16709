use Rattle.std.proofs.Common.{◌≡◌, ◌+◌, ◌*◌, max, drop, map}
use Rattle.sk_adt.specs.Words.{each}
use Rattle.sk_prog.proofs.expr.PExpr.TheLaws
use Rattle.sk_adt_tags.specs.Tags.{first, part}
use Rattle.sk_adt_tags.specs.Fields.{field_part}
use Rattle.sk_adt_tags.proofs.expr.+breaks.Given as goal

abbrev pub invariant-any_broken-loop-e : goal.invariant-any_broken-loop-e
invariant-any_broken-loop-e l =
    first (each (map (λ p. p.breaks l.tests) (map (part l.ground.types.now l.ground.prog.now) (drop l.e-index l.es))))
    ≡ first (each (map (λ p. p.breaks l.tests) (map (part l.ground.types.now l.ground.prog.now) l.es)))

abbrev pub invariant-any_field_broken-loop-field : goal.invariant-any_field_broken-loop-field
invariant-any_field_broken-loop-field l =
    first (each (map (λ p. p.breaks l.tests) (map (λ f. f.1) (map (field_part l.ground.types.now l.ground.prog.now) (drop l.field-index l.fields)))))
    ≡ first (each (map (λ p. p.breaks l.tests) (map (λ f. f.1) (map (field_part l.ground.types.now l.ground.prog.now) l.fields))))

-- each call goes down in the tree, or to a part of what it is about
abbrev pub decreases-broken : goal.decreases-broken
decreases-broken l = 3 * goal.size-broken l

abbrev pub decreases-member_broken : goal.decreases-member_broken
decreases-member_broken l = 3 * goal.size-member_broken l + 1

abbrev pub decreases-any_broken : goal.decreases-any_broken
decreases-any_broken l = 3 * goal.size-any_broken l + 1

abbrev pub decreases-any_field_broken : goal.decreases-any_field_broken
decreases-any_field_broken l = 3 * goal.size-any_field_broken l + 1

abbrev pub decreases-new_broken : goal.decreases-new_broken
decreases-new_broken l = 3 * goal.size-new_broken l + 2

abbrev pub decreases-both_broken : goal.decreases-both_broken
decreases-both_broken l = 3 * max (TheLaws.the_size l.left.now) (TheLaws.the_size l.right.now) + 1
