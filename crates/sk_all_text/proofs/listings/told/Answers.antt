use Rattle.sk_all_text.proofs.Answering.{tells_listing}
use Rattle.sk_all_text.proofs.listings.told.Goals as goal

pub returns : goal.returns
returns g c = tells_listing c.args.bounds.now c.args.expanded.now c.args.most c.in_ok-out.out.items c.in_ok-listing.listing c.in_ok-listing.ensures c.in_ok-out.ensures
