use Rattle.std.proofs.Common.{subst}
use Rattle.sk_dag.specs.Graph.{BoolSort}
use Rattle.sk_arr.proofs.Standing.{AllStand-keeps}
use Rattle.sk_sym_state.specs.declared.state.Frame.{Frame}
use Rattle.sk_sym_state.proofs.Standing.{AnyEnded-keeps}
use Rattle.sk_sym_frames.specs.Ended.{IsGiven}
use Rattle.sk_sym_frames.proofs.Frames.{left_is}
use Rattle.sk_sym_frames.proofs.frame.leave.Goals as goal

pub cursor_behind-cursor-requires : goal.cursor_behind-cursor-requires
cursor_behind-cursor-requires c = c.in_ok-path.ensures.keeps.sorts _ BoolSort c.requires.stands.path

pub given-requires-clause-slots : goal.given-requires-clause-slots
given-requires-clause-slots c = rw (c.as_slice.ensures, c.replace-frame.ensures.value) (AllStand-keeps c.in_ok-path.ensures.keeps c.requires.stands.frame.slots)

pub given-requires-clause-ended : goal.given-requires-clause-ended
given-requires-clause-ended c = rw c.replace-frame.ensures.value (AnyEnded-keeps c.in_ok-path.ensures.keeps c.args.state.now.frame.ended c.requires.stands.frame.ended)

pub returns-clause-left : goal.returns-clause-left
returns-clause-left c =
    let last = subst (λ l. IsGiven c.given.new.dag c.args.fun.now c.args.state.now.path l c.replace-frame.result.returned c.replace-frame.result.ended c.in_ok-r.r) c.as_slice.ensures c.in_ok-r.ensures.given in
    let given = subst (λ (f : Frame). IsGiven c.given.new.dag c.args.fun.now c.args.state.now.path f.slots f.returned f.ended c.in_ok-r.r) c.replace-frame.ensures.value last in
    rw c.replace-frame.ensures.after (left_is c.requires.stands c.requires.caller c.in_ok-path.ensures.keeps c.in_ok-path.ensures.there c.in_ok-path.ensures.path c.cursor_behind-cursor.ensures c.in_ok-r.ensures.keeps given)
