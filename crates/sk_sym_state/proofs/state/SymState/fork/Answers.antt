use Rattle.std.proofs.Common.{subst}
use Rattle.sk_arr.specs.Shapes.{AllStand}
use Rattle.sk_arr.specs.Answers.{AreCopies}
use Rattle.sk_sym_state.proofs.Forking.{forked_is}
use Rattle.sk_sym_state.proofs.state.SymState.fork.Goals as goal

pub returns-clause-forked : goal.returns-clause-forked
returns-clause-forked c = forked_is c.requires.stands c.in_ok-first.ensures.keeps c.in_ok-first.ensures.there c.in_ok-first.ensures.value c.in_ok-second.ensures.keeps c.in_ok-second.ensures.there c.in_ok-second.ensures.value
    (subst (λ l. (g : _) → AllStand g l → AreCopies g l c.in_ok-slots.slots) c.as_slice.ensures c.in_ok-slots.ensures)
