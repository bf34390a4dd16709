use Rattle.sk_arr.proofs.MoveLaws.{row_is}
use Rattle.sk_arr.proofs.moving.row_of.Goals as goal

pub returns-clause-row : goal.returns-clause-row
returns-clause-row c = row_is c.in_ok-no.ensures.keeps c.in_ok-no.ensures.there c.in_ok-no.ensures.value c.requires.a c.requires.bits c.in_ok-copied.ensures c.in_ok-row.ensures c.in_ok-push.ensures.ok
