use Rattle.std.proofs.Common.{◌≡◌, ◌<◌, true≢false, length, map, get_or, arith, refl, sym, ap, subst, ◌∙◌}
use Rattle.std.proofs.lemmas.List.{take_all}
use Rattle.sk_arr.specs.Shapes.{blank}
use Rattle.sk_arr.proofs.Choices.{forms_long, forms_alike}
use Rattle.sk_arr.proofs.Depths.{depth_array, depth_within, depths}
use Rattle.sk_arr.proofs.Standing.{alike_parts}
use Rattle.sk_sym_state.proofs.Forms.{alike_arrays, alike_more}
use Rattle.sk_sym_state.proofs.shapes.+alike.Goals as goal

pub all_alike-alike-requires : goal.all_alike-alike-requires
all_alike-alike-requires t c = (omega (arith, depth_within c.args.list.now c.loop-a.a-index c.a-item.result c.loop-a-test.true c.a-item.is), tt)

pub alike-all_alike-requires : goal.alike-all_alike-requires
alike-all_alike-requires t c = (omega (arith, depth_array c.args.a.now _ c.in-Array.is, ap depths c.as_slice.ensures), tt)

pub alike-returns-in-Array-b : goal.alike-returns-in-Array-b
alike-returns-in-Array-b t c =
    let parts = rw (c.as_slice.ensures, c.as_slice-in-Array-b.ensures) at c.all_alike.ensures in
    (λ yes. alike_arrays _ _ c.in-Array.is c.in-Array-b.is (parts.0 yes), λ same. parts.1 (alike_parts _ _ _ _ same c.in-Array.is c.in-Array-b.is))

pub all_alike-loop-a-preserved : goal.all_alike-loop-a-preserved
all_alike-loop-a-preserved t c =
    let inv = c.loop-a.invariant in
    let i = c.loop-a.a-index in
    let b = c.index-others-i.result in
    let m : i < length c.args.others.now = omega (arith, c.if-list-others.false, c.loop-a-test.true) in
    let at : b ≡ get_or c.args.others.now i b = subst (λ n. b ≡ get_or c.args.others.now n b) inv.place c.index-others-i.is in
    record {
      place = omega (arith, inv.place);
      alike = alike_more c.args.list.now c.args.others.now i c.a-item.result b c.loop-a-test.true m c.a-item.is at inv.alike (c.if-not-alike.ensures.0 refl);
    }

pub all_alike-returns-then-list-others : goal.all_alike-returns-then-list-others
all_alike-returns-then-list-others t c = (λ yes. absurd (true≢false (sym yes)), λ same. absurd (omega (arith, c.if-list-others.true, forms_long c.args.list.now c.args.others.now same)))

pub all_alike-returns-then-not-alike : goal.all_alike-returns-then-not-alike
all_alike-returns-then-not-alike t c =
    let inv = c.loop-a.invariant in
    let i = c.loop-a.a-index in
    let b = c.index-others-i.result in
    let m : i < length c.args.others.now = omega (arith, c.if-list-others.false, c.loop-a-test.true) in
    let at : b ≡ get_or c.args.others.now i b = subst (λ n. b ≡ get_or c.args.others.now n b) inv.place c.index-others-i.is in
    (λ yes. absurd (true≢false (sym yes)), λ same. absurd (true≢false (sym (c.if-not-alike.ensures.1 (forms_alike c.args.list.now c.args.others.now i c.a-item.result b same c.loop-a-test.true m c.a-item.is at)))))

pub all_alike-returns : goal.all_alike-returns
all_alike-returns t c =
    let one = take_all c.loop-a.a-index c.args.list.now (omega arith) in
    let two = take_all c.loop-a.a-index c.args.others.now (omega (arith, c.if-list-others.false)) in
    (λ yes. ap (map blank) (sym one) ∙ c.loop-a.invariant.alike ∙ ap (map blank) two, λ same. refl)
