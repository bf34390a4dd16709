use Rattle.std.proofs.Common.{subst}
use Rattle.sk_dag.specs.Graph.{BoolSort}
use Rattle.sk_arr.proofs.Standing.{AllStand-keeps}
use Rattle.sk_sym_state.specs.Branching.{AreOneOf}
use Rattle.sk_sym_state.proofs.Standing.{SideStands-keeps}
use Rattle.sk_sym_state.proofs.Forking.{joined_is}
use Rattle.sk_sym_state.proofs.state.SymState.join.Goals as goal

pub cursor_behind-self-requires-clause-gone : goal.cursor_behind-self-requires-clause-gone
cursor_behind-self-requires-clause-gone c = (SideStands-keeps c.in_ok-path.ensures.keeps c.requires.gone).path

pub cursor_behind-self-requires-clause-path : goal.cursor_behind-self-requires-clause-path
cursor_behind-self-requires-clause-path c = c.in_ok-path.ensures.keeps.sorts _ BoolSort c.requires.stands.path

pub slots_behind-requires-clause-gone : goal.slots_behind-requires-clause-gone
slots_behind-requires-clause-gone c = SideStands-keeps c.in_ok-path.ensures.keeps c.requires.gone

pub slots_behind-requires-clause-slots : goal.slots_behind-requires-clause-slots
slots_behind-requires-clause-slots c = rw c.replace-slots.ensures.value (AllStand-keeps c.in_ok-path.ensures.keeps c.requires.stands.frame.slots)

pub returns-clause-joined : goal.returns-clause-joined
returns-clause-joined c = joined_is c.requires.stands c.in_ok-path.ensures.keeps c.in_ok-path.ensures.there c.in_ok-path.ensures.value c.cursor_behind-self.ensures c.in_ok-self.ensures.keeps
    (subst (λ l. AreOneOf c.slots_behind.new.dag c.args.cond c.args.gone c.args.self.now.path l c.in_ok-self.field-0) c.replace-slots.ensures.value c.in_ok-self.ensures.one)
