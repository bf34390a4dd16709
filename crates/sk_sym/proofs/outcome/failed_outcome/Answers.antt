use Rattle.std.proofs.Common.{refl}
use Rattle.sk_sym.proofs.outcome.failed_outcome.Goals as goal

pub returns-clause-fails : goal.returns-clause-fails
returns-clause-fails c =
    let k = c.in_ok-constants.ensures.are in
    record {
      failed = k.on_there;
      skipped = k.off_there;
      cost = k.free_there;
      result = refl;
      refs = c.new.ensures;
      says = λ g more e. record { failed = k.on g more e; skipped = k.off g more e };
    }
