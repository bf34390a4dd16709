use Rattle.sk_app.specs.declared.ending.Ending.TheVariants as ending
use Rattle.sk_app.proofs.EndingLemmas.{found_of, told_not_text, told_not_typed, told_too_large, placed_not_typed}
use Rattle.sk_app.proofs.EndedLaws.{ends_by, has_by, no_type_fault, no_read_fault, rose_by, kept_by, written_by, prefix_by, told_by}
use Rattle.sk_app.proofs.command.synth.Goals as goal

pub returns-in-Ok-Found-NotText-clause-told : goal.returns-in-Ok-Found-NotText-clause-told
returns-in-Ok-Found-NotText-clause-told g c =
    let m = c.in-Ok-Found-NotText in
    told_not_text c.args.set.now c.args.budget.now c.args.cert (g.S.Source.left c.args.source.now) m.fault ((found_of c.args.set.now c.args.budget.now c.args.cert _ _ m.field-0 m.field-0-0 _ (g.S.Source.left c.args.source.now) m.field-0-is m.field-0-0-is m.ensures.cause).1)

pub returns-in-Ok-Found-NotTyped-clause-told : goal.returns-in-Ok-Found-NotTyped-clause-told
returns-in-Ok-Found-NotTyped-clause-told g c =
    let m = c.in-Ok-Found-NotTyped in
    told_not_typed c.args.set.now c.args.budget.now c.args.cert (g.S.Source.left c.args.source.now) m.fault ((found_of c.args.set.now c.args.budget.now c.args.cert _ _ m.field-0 m.field-0-0 _ (g.S.Source.left c.args.source.now) m.field-0-is m.field-0-0-is m.ensures.cause).1)

pub returns-in-Ok-Found-TooLarge-clause-told : goal.returns-in-Ok-Found-TooLarge-clause-told
returns-in-Ok-Found-TooLarge-clause-told g c =
    let m = c.in-Ok-Found-TooLarge in
    told_too_large c.args.set.now c.args.budget.now c.args.cert (g.S.Source.left c.args.source.now) m.fault ((found_of c.args.set.now c.args.budget.now c.args.cert _ _ m.field-0 m.field-0-0 _ (g.S.Source.left c.args.source.now) m.field-0-is m.field-0-0-is m.ensures.cause).1)

pub returns-in-Ok-Found-NotTyped-clause-place : goal.returns-in-Ok-Found-NotTyped-clause-place
returns-in-Ok-Found-NotTyped-clause-place g c fault e =
    let m = c.in-Ok-Found-NotTyped in
    placed_not_typed c.args.set.now c.args.budget.now c.args.cert (g.S.Source.left c.args.source.now) m.fault fault ((found_of c.args.set.now c.args.budget.now c.args.cert _ _ m.field-0 m.field-0-0 _ (g.S.Source.left c.args.source.now) m.field-0-is m.field-0-0-is m.ensures.cause).1) e

pub returns-in-Ok-Found-Ended-clause-ends : goal.returns-in-Ok-Found-Ended-clause-ends
returns-in-Ok-Found-Ended-clause-ends g c =
    let m = c.in-Ok-Found-Ended in
    let p = found_of c.args.set.now c.args.budget.now c.args.cert _ _ m.field-0 m.field-0-0 _ (g.S.Source.left c.args.source.now) m.field-0-is m.field-0-0-is m.ensures.cause in
    ends_by c.args.budget.now c.deliver.result m.ending c.as_slice.result.now _ _ _ _ (p.0) c.deliver.ensures

pub returns-in-Ok-Found-Ended-clause-completed : goal.returns-in-Ok-Found-Ended-clause-completed
returns-in-Ok-Found-Ended-clause-completed g c e =
    let m = c.in-Ok-Found-Ended in
    let p = found_of c.args.set.now c.args.budget.now c.args.cert _ _ m.field-0 m.field-0-0 _ (g.S.Source.left c.args.source.now) m.field-0-is m.field-0-0-is m.ensures.cause in
    written_by c.args.budget.now c.deliver.result m.ending c.as_slice.result.now _ _ _ _ (p.0) c.deliver.ensures c.args.set.now c.args.cert m.out c.as_slice.ensures.value (g.S.Source.left c.args.source.now) (p.1) ending.Completed (λ q. cc) (λ q. cc) e

pub returns-in-Ok-Found-Ended-clause-none : goal.returns-in-Ok-Found-Ended-clause-none
returns-in-Ok-Found-Ended-clause-none g c pairs e =
    let m = c.in-Ok-Found-Ended in
    let p = found_of c.args.set.now c.args.budget.now c.args.cert _ _ m.field-0 m.field-0-0 _ (g.S.Source.left c.args.source.now) m.field-0-is m.field-0-0-is m.ensures.cause in
    written_by c.args.budget.now c.deliver.result m.ending c.as_slice.result.now _ _ _ _ (p.0) c.deliver.ensures c.args.set.now c.args.cert m.out c.as_slice.ensures.value (g.S.Source.left c.args.source.now) (p.1) (ending.NoCompletion pairs) (λ q. cc) (λ q. cc) e

pub returns-in-Ok-Found-Ended-clause-rounds : goal.returns-in-Ok-Found-Ended-clause-rounds
returns-in-Ok-Found-Ended-clause-rounds g c pairs best e =
    let m = c.in-Ok-Found-Ended in
    let p = found_of c.args.set.now c.args.budget.now c.args.cert _ _ m.field-0 m.field-0-0 _ (g.S.Source.left c.args.source.now) m.field-0-is m.field-0-0-is m.ensures.cause in
    (has_by c.args.budget.now c.deliver.result m.ending c.as_slice.result.now _ _ _ _ (p.0) c.deliver.ensures (ending.SpentRounds pairs best) (λ q. cc) (λ q. cc) e, written_by c.args.budget.now c.deliver.result m.ending c.as_slice.result.now _ _ _ _ (p.0) c.deliver.ensures c.args.set.now c.args.cert m.out c.as_slice.ensures.value (g.S.Source.left c.args.source.now) (p.1) (ending.SpentRounds pairs best) (λ q. cc) (λ q. cc) e)

pub returns-in-Ok-Found-Ended-clause-conflicts : goal.returns-in-Ok-Found-Ended-clause-conflicts
returns-in-Ok-Found-Ended-clause-conflicts g c pairs q formula log best e =
    let m = c.in-Ok-Found-Ended in
    let p = found_of c.args.set.now c.args.budget.now c.args.cert _ _ m.field-0 m.field-0-0 _ (g.S.Source.left c.args.source.now) m.field-0-is m.field-0-0-is m.ensures.cause in
    (has_by c.args.budget.now c.deliver.result m.ending c.as_slice.result.now _ _ _ _ (p.0) c.deliver.ensures (ending.SpentConflicts pairs q formula log best) (λ q. cc) (λ q. cc) e, written_by c.args.budget.now c.deliver.result m.ending c.as_slice.result.now _ _ _ _ (p.0) c.deliver.ensures c.args.set.now c.args.cert m.out c.as_slice.ensures.value (g.S.Source.left c.args.source.now) (p.1) (ending.SpentConflicts pairs q formula log best) (λ q. cc) (λ q. cc) e)

pub returns-in-Ok-Found-Ended-clause-told : goal.returns-in-Ok-Found-Ended-clause-told
returns-in-Ok-Found-Ended-clause-told g c =
    let m = c.in-Ok-Found-Ended in
    let p = found_of c.args.set.now c.args.budget.now c.args.cert _ _ m.field-0 m.field-0-0 _ (g.S.Source.left c.args.source.now) m.field-0-is m.field-0-0-is m.ensures.cause in
    told_by c.args.budget.now c.deliver.result m.ending c.as_slice.result.now _ _ _ _ (p.0) c.deliver.ensures c.args.set.now c.args.cert m.out c.as_slice.ensures.value (g.S.Source.left c.args.source.now) _ _ (p.1)

pub returns-in-Ok-Found-Ended-clause-place : goal.returns-in-Ok-Found-Ended-clause-place
returns-in-Ok-Found-Ended-clause-place g c fault e =
    let m = c.in-Ok-Found-Ended in
    let p = found_of c.args.set.now c.args.budget.now c.args.cert _ _ m.field-0 m.field-0-0 _ (g.S.Source.left c.args.source.now) m.field-0-is m.field-0-0-is m.ensures.cause in
    no_type_fault c.args.budget.now c.deliver.result m.ending c.as_slice.result.now _ _ _ _ (p.0) c.deliver.ensures fault e

pub returns-in-Ok-Found-Ended-clause-read_fault : goal.returns-in-Ok-Found-Ended-clause-read_fault
returns-in-Ok-Found-Ended-clause-read_fault g c e =
    let m = c.in-Ok-Found-Ended in
    let p = found_of c.args.set.now c.args.budget.now c.args.cert _ _ m.field-0 m.field-0-0 _ (g.S.Source.left c.args.source.now) m.field-0-is m.field-0-0-is m.ensures.cause in
    no_read_fault c.args.budget.now c.deliver.result m.ending c.as_slice.result.now _ _ _ _ (p.0) c.deliver.ensures e

pub returns-in-Ok-Found-Ended-clause-write_fault : goal.returns-in-Ok-Found-Ended-clause-write_fault
returns-in-Ok-Found-Ended-clause-write_fault g c e =
    let m = c.in-Ok-Found-Ended in
    let p = found_of c.args.set.now c.args.budget.now c.args.cert _ _ m.field-0 m.field-0-0 _ (g.S.Source.left c.args.source.now) m.field-0-is m.field-0-0-is m.ensures.cause in
    rose_by c.args.budget.now c.deliver.result m.ending c.as_slice.result.now _ _ _ _ (p.0) c.deliver.ensures e

pub returns-in-Ok-Found-Ended-clause-prefix : goal.returns-in-Ok-Found-Ended-clause-prefix
returns-in-Ok-Found-Ended-clause-prefix g c e =
    let m = c.in-Ok-Found-Ended in
    let p = found_of c.args.set.now c.args.budget.now c.args.cert _ _ m.field-0 m.field-0-0 _ (g.S.Source.left c.args.source.now) m.field-0-is m.field-0-0-is m.ensures.cause in
    prefix_by c.args.budget.now c.deliver.result m.ending c.as_slice.result.now _ _ _ _ (p.0) c.deliver.ensures c.args.set.now c.args.cert m.out c.as_slice.ensures.value (g.S.Source.left c.args.source.now) (p.1) e

pub returns-in-Ok-Found-Ended-clause-kept : goal.returns-in-Ok-Found-Ended-clause-kept
returns-in-Ok-Found-Ended-clause-kept g c k =
    let m = c.in-Ok-Found-Ended in
    let p = found_of c.args.set.now c.args.budget.now c.args.cert _ _ m.field-0 m.field-0-0 _ (g.S.Source.left c.args.source.now) m.field-0-is m.field-0-0-is m.ensures.cause in
    kept_by c.args.budget.now c.deliver.result m.ending c.as_slice.result.now _ _ _ _ (p.0) c.deliver.ensures k
