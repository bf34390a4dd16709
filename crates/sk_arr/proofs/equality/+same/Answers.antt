use Rattle.std.proofs.Common.{◌≡◌, ◌<◌, length, map, get_or, arith, refl, sym, ap, subst, ◌∙◌}
use Rattle.sk_dag.proofs.EvalLemmas.{Keeps-trans}
use Rattle.sk_arr.specs.Shapes.{blank, AllStand}
use Rattle.sk_arr.specs.Answers.{AreEqual}
use Rattle.sk_arr.proofs.Makers.{Keeps-refl}
use Rattle.sk_arr.proofs.Depths.{depths, depth_array, depth_within}
use Rattle.sk_arr.proofs.Standing.{Stands-keeps, parts_stand, alike_parts}
use Rattle.sk_arr.proofs.Choices.{forms_long, forms_alike, stand_at}
use Rattle.sk_arr.proofs.Equals.{equal_bits_at, equal_ints_at, equal_targets_at, equal_parts_at, equal_none, equal_more, equal_done}
use Rattle.sk_arr.proofs.equality.+same.Goals as goal

pub same-same_all-requires : goal.same-same_all-requires
same-same_all-requires t c = (
  omega (arith, depth_array c.args.a.now _ c.in-Array.is, ap depths c.as_slice.ensures),
  (
    subst (λ l. AllStand c.args.dag.now l) (sym c.as_slice.ensures) (parts_stand c.requires.a c.in-Array.is),
    (
      parts_stand c.requires.b c.parts_of.ensures,
      ap (λ l. map blank l) c.as_slice.ensures ∙ alike_parts c.args.a.now c.args.b.now _ _ c.requires.alike c.in-Array.is c.parts_of.ensures,
    ),
  ),
)

pub same-returns-in_ok-r-in-Bit-clause-equality : goal.same-returns-in_ok-r-in-Bit-clause-equality
same-returns-in_ok-r-in-Bit-clause-equality t c = equal_bits_at c.in-Bit.is c.bit_of.ensures c.in_ok-r-in-Bit.ensures.there c.in_ok-r-in-Bit.ensures.value

pub same-returns-in_ok-r-in-Int-clause-equality : goal.same-returns-in_ok-r-in-Int-clause-equality
same-returns-in_ok-r-in-Int-clause-equality t c = equal_ints_at c.in-Int.is c.word_of.ensures c.in_ok-r-in-Int.ensures.there c.in_ok-r-in-Int.ensures.value

pub same-returns-in_ok-r-in-Reference-clause-equality : goal.same-returns-in_ok-r-in-Reference-clause-equality
same-returns-in_ok-r-in-Reference-clause-equality t c = equal_targets_at c.in-Reference.is c.targets_of.ensures c.in_ok-r-in-Reference.ensures.keeps c.requires.a c.requires.b c.in_ok-r-in-Reference.ensures.there c.in_ok-r-in-Reference.ensures.value

pub same-returns-in_ok-r-in-Array-clause-equality : goal.same-returns-in_ok-r-in-Array-clause-equality
same-returns-in_ok-r-in-Array-clause-equality t c = equal_parts_at c.in-Array.is c.parts_of.ensures
    (subst (λ l. AreEqual c.same_all.new.dag l c.parts_of.result.now c.in_ok-r-in-Array.r) c.as_slice.ensures c.in_ok-r-in-Array.ensures.equal)

pub same_all-loop-a-init : goal.same_all-loop-a-init
same_all-loop-a-init t c = record {
  keeps = Keeps-refl _;
  place = refl;
  equal = equal_none c.in_ok-yes.ensures.there c.in_ok-yes.ensures.value;
}

pub same_all-same-requires : goal.same_all-same-requires
same_all-same-requires t c =
    let inv = c.loop-a.invariant in
    let k = Keeps-trans c.in_ok-yes.ensures.keeps inv.keeps in
    let i = c.loop-a.a-index in
    let b = c.index-others-i.result in
    let l = c.loop-a-test.true in
    let same = forms_long c.args.list.now c.args.others.now c.requires.alike in
    let m : i < length c.args.others.now = omega (arith, same, l) in
    let at : b ≡ get_or c.args.others.now i b = subst (λ n. b ≡ get_or c.args.others.now n b) inv.place c.index-others-i.is in (
      omega (arith, depth_within c.args.list.now i c.a-item.result l c.a-item.is),
      (
        Stands-keeps k (stand_at c.args.list.now i c.a-item.result l c.a-item.is c.requires.list),
        (
          Stands-keeps k (stand_at c.args.others.now i b m at c.requires.others),
          forms_alike c.args.list.now c.args.others.now i c.a-item.result b c.requires.alike l m c.a-item.is at,
        ),
      ),
    )

pub same_all-loop-a-preserved : goal.same_all-loop-a-preserved
same_all-loop-a-preserved t c =
    let inv = c.loop-a.invariant in
    let i = c.loop-a.a-index in
    let b = c.index-others-i.result in
    let l = c.loop-a-test.true in
    let same = forms_long c.args.list.now c.args.others.now c.requires.alike in
    let m : i < length c.args.others.now = omega (arith, same, l) in
    let at : b ≡ get_or c.args.others.now i b = subst (λ n. b ≡ get_or c.args.others.now n b) inv.place c.index-others-i.is in
    record {
      keeps = Keeps-trans inv.keeps (Keeps-trans c.in_ok-one.ensures.keeps c.in_ok-all.ensures.keeps);
      place = omega (arith, inv.place);
      equal = equal_more c.args.list.now c.args.others.now i c.a-item.result b c.loop-a.r c.in_ok-one.one c.in_ok-all.all c.requires.alike l m c.a-item.is at inv.equal c.in_ok-one.ensures.keeps c.in_ok-one.ensures.equality c.in_ok-all.ensures.keeps c.in_ok-all.ensures.there c.in_ok-all.ensures.value;
    }

pub same_all-returns-clause-equal : goal.same_all-returns-clause-equal
same_all-returns-clause-equal t c = equal_done c.args.list.now c.args.others.now c.loop-a.r c.loop-a.a-index (omega arith) c.requires.alike c.loop-a.invariant.equal

pub same_all-returns-clause-keeps : goal.same_all-returns-clause-keeps
same_all-returns-clause-keeps t c = Keeps-trans c.in_ok-yes.ensures.keeps c.loop-a.invariant.keeps
