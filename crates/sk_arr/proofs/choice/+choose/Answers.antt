use Rattle.std.proofs.Common.{◌≡◌, ◌<◌, length, map, get_or, arith, refl, sym, ap, subst, ◌∙◌}
use Rattle.sk_dag.specs.Graph.{BoolSort}
use Rattle.sk_dag.proofs.EvalLemmas.{Keeps-trans}
use Rattle.sk_arr.specs.Shapes.{blank, AllStand}
use Rattle.sk_arr.specs.Answers.{AreChoices}
use Rattle.sk_arr.proofs.Depths.{depths, depth_array, depth_within}
use Rattle.sk_arr.proofs.Makers.{Keeps-refl}
use Rattle.sk_arr.proofs.Standing.{Stands-keeps, parts_stand, alike_parts}
use Rattle.sk_arr.proofs.Choices.{choice_bits_at, choice_ints_at, choice_targets_at, choice_parts_at, choices_none, choices_more, choices_done, forms_long, forms_alike, stand_at}
use Rattle.sk_arr.proofs.choice.+choose.Goals as goal

pub choose_parts-choose_all-requires : goal.choose_parts-choose_all-requires
choose_parts-choose_all-requires t c = (
  omega (arith, depth_array c.args.a.now _ c.in-Array.is, ap depths c.as_slice.ensures),
  (
    c.requires.c,
    (
      subst (λ l. AllStand c.args.dag.now l) (sym c.as_slice.ensures) (parts_stand c.requires.a c.in-Array.is),
      (
        parts_stand c.requires.b c.parts_of.ensures,
        ap (λ l. map blank l) c.as_slice.ensures ∙ alike_parts c.args.a.now c.args.b.now _ _ c.requires.alike c.in-Array.is c.parts_of.ensures,
      ),
    ),
  ),
)

pub choose_parts-returns-in_ok-r-in-Bit-clause-choice : goal.choose_parts-returns-in_ok-r-in-Bit-clause-choice
choose_parts-returns-in_ok-r-in-Bit-clause-choice t c = choice_bits_at c.in-Bit.is c.bit_of.ensures c.in_ok-r-in-Bit.ensures.there c.in_ok-r-in-Bit.ensures.value

pub choose_parts-returns-in_ok-r-in-Int-clause-choice : goal.choose_parts-returns-in_ok-r-in-Int-clause-choice
choose_parts-returns-in_ok-r-in-Int-clause-choice t c = choice_ints_at c.in-Int.is c.word_of.ensures c.in_ok-r-in-Int.ensures.there c.in_ok-r-in-Int.ensures.value

pub choose_parts-returns-in_ok-r-in-Reference-clause-choice : goal.choose_parts-returns-in_ok-r-in-Reference-clause-choice
choose_parts-returns-in_ok-r-in-Reference-clause-choice t c = choice_targets_at c.in-Reference.is c.targets_of.ensures c.in_ok-r-in-Reference.ensures.keeps c.requires.a c.requires.b c.in_ok-r-in-Reference.ensures.choice

pub choose_parts-returns-in_ok-r-in-Array-clause-choice : goal.choose_parts-returns-in_ok-r-in-Array-clause-choice
choose_parts-returns-in_ok-r-in-Array-clause-choice t c = choice_parts_at c.in-Array.is c.parts_of.ensures
    (subst (λ l. AreChoices c.choose_all.new.dag c.args.c l c.parts_of.result.now c.in_ok-r-in-Array.r) c.as_slice.ensures c.in_ok-r-in-Array.ensures.choices)

pub choose_all-loop-a-init : goal.choose_all-loop-a-init
choose_all-loop-a-init t c = record {
  keeps = Keeps-refl _;
  place = refl;
  choices = rw c.new-made.ensures (choices_none _ _);
}

pub choose_all-choose_parts-requires : goal.choose_all-choose_parts-requires
choose_all-choose_parts-requires t c =
    let inv = c.loop-a.invariant in
    let i = c.loop-a.a-index in
    let b = c.index-others-i.result in
    let l = c.loop-a-test.true in
    let same = forms_long c.args.list.now c.args.others.now c.requires.alike in
    let m : i < length c.args.others.now = omega (arith, same, l) in
    let at : b ≡ get_or c.args.others.now i b = subst (λ n. b ≡ get_or c.args.others.now n b) inv.place c.index-others-i.is in (
      omega (arith, depth_within c.args.list.now i c.a-item.result l c.a-item.is),
      (
        inv.keeps.sorts _ BoolSort c.requires.c,
        (
          Stands-keeps inv.keeps (stand_at c.args.list.now i c.a-item.result l c.a-item.is c.requires.list),
          (
            Stands-keeps inv.keeps (stand_at c.args.others.now i b m at c.requires.others),
            forms_alike c.args.list.now c.args.others.now i c.a-item.result b c.requires.alike l m c.a-item.is at,
          ),
        ),
      ),
    )

pub choose_all-loop-a-preserved : goal.choose_all-loop-a-preserved
choose_all-loop-a-preserved t c =
    let inv = c.loop-a.invariant in
    let i = c.loop-a.a-index in
    let b = c.index-others-i.result in
    let l = c.loop-a-test.true in
    let same = forms_long c.args.list.now c.args.others.now c.requires.alike in
    let m : i < length c.args.others.now = omega (arith, same, l) in
    let at : b ≡ get_or c.args.others.now i b = subst (λ n. b ≡ get_or c.args.others.now n b) inv.place c.index-others-i.is in
    record {
      keeps = Keeps-trans inv.keeps c.in_ok-one.ensures.keeps;
      place = omega (arith, inv.place);
      choices = rw c.in_ok-push.ensures.ok (choices_more c.args.list.now c.args.others.now c.loop-a.made i c.a-item.result b c.in_ok-one.one l m c.a-item.is at inv.choices c.in_ok-one.ensures.keeps c.in_ok-one.ensures.choice);
    }

pub choose_all-returns-clause-choices : goal.choose_all-returns-clause-choices
choose_all-returns-clause-choices t c = choices_done c.args.list.now c.args.others.now c.loop-a.made c.loop-a.a-index (omega arith) c.requires.alike c.loop-a.invariant.choices
