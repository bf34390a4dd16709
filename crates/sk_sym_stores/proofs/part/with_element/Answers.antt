use Rattle.sk_arr.proofs.Standing.{Stands-keeps, AllStand-keeps}
use Rattle.sk_sym_stores.proofs.part.with_element.Goals as goal

pub write_under-requires-clause-list : goal.write_under-requires-clause-list
write_under-requires-clause-list c = AllStand-keeps c.in_ok-always.ensures.keeps c.requires.list

pub write_under-requires-clause-value : goal.write_under-requires-clause-value
write_under-requires-clause-value c = Stands-keeps c.in_ok-always.ensures.keeps c.requires.value
