use Rattle.std.proofs.Common.{rules, ◌≡◌, true}
use Rattle.sk_model.specs.Values.{equal}
use Rattle.sk_interp.proofs.Equal.{next_sliced}
use Rattle.sk_interp.proofs.value.+equal.Goals as goal

pub equal_all-returns-else-not-equal : goal.equal_all-returns-else-not-equal
equal_all-returns-else-not-equal t c =
    let same : equal c.x-item.result c.y-item.result ≡ true = search rules in
    next_sliced c.args.xs.now c.args.ys.now c.x-item.result c.y-item.result c.equal_all.result c.in-len1-up.len_at_least c.in-len1-up-ys.len_at_least c.x-item.is c.y-item.is same c.equal_all.ensures
