use Rattle.std.proofs.Common.{subst}
use Rattle.sk_sym_frames.specs.Ended.{AreRefs}
use Rattle.sk_sym_frames.proofs.Results.{end_is}
use Rattle.sk_sym_frames.proofs.ended.end_of.Goals as goal

pub returns-clause-end : goal.returns-clause-end
returns-clause-end c =
    let refs = subst (λ ps. AreRefs ps c.args.slots.now c.in_ok-refs.refs) c.as_slice.ensures c.in_ok-refs.ensures in
    end_is c.requires.slots c.in_ok-result.ensures.keeps refs c.in_ok-result.ensures.result
