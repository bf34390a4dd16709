use Rattle.sk_sat.proofs.LessonLemmas.{outs_within, lesson_from}
use Rattle.sk_sat.proofs.analysis.lesson_of.Goals as goal

pub deepest-back-requires : goal.deepest-back-requires
deepest-back-requires c = rw c.deref-4.ensures.value (outs_within _ _ _ _ _ c.in_ok-turn.turn c.requires.trail.level_long c.in_ok-trim.ensures.turn)

pub returns-clause-lesson : goal.returns-clause-lesson
returns-clause-lesson c =
    let most = rw c.deref-4.ensures.value at c.deepest-back.ensures.most in
    let some = rw c.deref-4.ensures.value at c.deepest-back.ensures.some in
    rw (c.in_ok-push.ensures.items, c.negate-turn.ensures) (lesson_from _ _ _ _ _ c.in_ok-turn.turn c.deepest-back.result c.in_ok-trim.ensures.turn c.requires.some most some)
