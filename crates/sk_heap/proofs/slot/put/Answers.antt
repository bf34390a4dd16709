use Rattle.sk_heap.proofs.Slots.{put_at}
use Rattle.sk_heap.proofs.slot.put.Goals as goal

pub returns : goal.returns
returns c = put_at c.args.slots.now.items c.args.slot c.args.field c.args.shape c.index_mut-found.result.now c.set.new.self c.requires c.index_mut-found.ensures.value c.set.ensures
