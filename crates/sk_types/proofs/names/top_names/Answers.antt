use Rattle.sk_types.proofs.TopLaws.{all_made}
use Rattle.sk_types.proofs.names.top_names.Goals as goal

pub returns : goal.returns
returns c = all_made _ _ _ _ _ _ _ _ _ _ c.as_slice.ensures c.as_slice-2.ensures c.as_slice-3.ensures c.new-all.ensures c.in_ok-add_names.ensures c.in_ok-add_names-2.ensures c.in_ok-add_names-3.ensures
