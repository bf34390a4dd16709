use Rattle.std.proofs.Common.{sym, subst}
use Rattle.std.specs.Prelude.{Some}
use Rattle.sk_sym_state.specs.Stands.{AnyEndedStands}
use Rattle.sk_sym_state.proofs.Standing.{AnyEnded-keeps}
use Rattle.sk_sym_frames.specs.Ended.{IsGiven}
use Rattle.sk_sym_frames.proofs.Results.{given_last, given_either}
use Rattle.sk_sym_frames.proofs.ended.given.Goals as goal

pub returns-in_default-clause-given : goal.returns-in_default-clause-given
returns-in_default-clause-given c = subst (λ o. IsGiven c.end_of.new.dag c.args.fun.now c.args.path c.args.slots.now c.args.returned o c.in_ok-last.last) (sym c.in_default.is) (given_last c.in_ok-last.ensures.end)

pub either_ended-requires-clause-a : goal.either_ended-requires-clause-a
either_ended-requires-clause-a c = AnyEnded-keeps c.in_ok-last-2.ensures.keeps (Some c.in-Some.ended) (subst (AnyEndedStands c.args.dag.now) c.in-Some.is c.requires.ended)

pub returns-clause-given : goal.returns-clause-given
returns-clause-given c = subst (λ o. IsGiven c.either_ended.new.dag c.args.fun.now c.args.path c.args.slots.now c.args.returned o c.in_ok-r.r) (sym c.in-Some.is) (given_either c.in_ok-r.ensures.keeps c.in_ok-last-2.ensures.end c.in_ok-r.ensures.either)
