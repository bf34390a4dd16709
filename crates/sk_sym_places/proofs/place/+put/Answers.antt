use Rattle.std.proofs.Common.{arith, sym, ◌∙◌}
use Rattle.sk_dag.proofs.EvalLemmas.{Keeps-trans, Keeps_four}
use Rattle.sk_arr.proofs.Standing.{Stands-keeps}
use Rattle.sk_sym_state.proofs.Standing.{SideStands-keeps, turned_stands, gone_stands}
use Rattle.sk_sym_places.proofs.Places.{either_as, bits_either, PlaceStands-keeps, location_there, parts_there, either_puts, one_puts, puts_as}
use Rattle.sk_sym_places.proofs.place.+put.Goals as goal

pub put-store-requires-clause-location : goal.put-store-requires-clause-location
put-store-requires-clause-location t c = location_there c.in-One.is c.requires.place

pub put-put_either-requires : goal.put-put_either-requires
put-put_either-requires t c =
    let is = c.in-Either.is ∙ either_as c.in-Either.cond (sym c.get.ensures) (sym c.get-in-Either.ensures) in
    let there = parts_there is c.requires.place in
    (omega (arith, bits_either c.args.place.now _ _ _ is), (c.requires.stands, (there.0, (there.1.0, (there.1.1, c.requires.value)))))

pub put-returns-in_ok-store-in-One-clause-puts : goal.put-returns-in_ok-store-in-One-clause-puts
put-returns-in_ok-store-in-One-clause-puts t c = one_puts c.in-One.is c.in_ok-store-in-One.ensures.stores

pub put-returns-in-Either-clause-puts : goal.put-returns-in-Either-clause-puts
put-returns-in-Either-clause-puts t c =
    let is = c.in-Either.is ∙ either_as c.in-Either.cond (sym c.get.ensures) (sym c.get-in-Either.ensures) in
    puts_as c.args.setting.now c.args.dag.now c.put_either.new.dag c.args.state.now c.put_either.new.state c.args.span c.args.value.now c.put_either.result is c.put_either.ensures.puts

pub put_either-put-requires : goal.put_either-put-requires
put_either-put-requires t c =
    let f = c.in_ok-waits.ensures.forked in
    (omega arith, (f.stands, (PlaceStands-keeps f.keeps c.requires.first, Stands-keeps f.keeps c.requires.value)))

pub put_either-put-requires-2 : goal.put_either-put-requires-2
put_either-put-requires-2 t c =
    let f = c.in_ok-waits.ensures.forked in
    let a = c.in_ok-put.ensures.puts.does.moves in
    let k = Keeps-trans f.keeps a.keeps in
    (omega arith, (turned_stands c.turn-gone.ensures (SideStands-keeps a.keeps f.waits) a.stands, (PlaceStands-keeps k c.requires.second, Stands-keeps k c.requires.value)))

pub put_either-returns-in_err-put-2-clause-keeps : goal.put_either-returns-in_err-put-2-clause-keeps
put_either-returns-in_err-put-2-clause-keeps t c = Keeps-trans c.in_ok-waits.ensures.keeps (Keeps-trans c.in_ok-put.ensures.keeps c.put-2.ensures.keeps)

pub put_either-join-requires-clause-gone : goal.put_either-join-requires-clause-gone
put_either-join-requires-clause-gone t c =
    let f = c.in_ok-waits.ensures.forked in
    let a = c.in_ok-put.ensures.puts.does.moves in
    let b = c.in_ok-put-2.ensures.puts.does.moves in
    SideStands-keeps b.keeps (gone_stands c.turn-gone.ensures (SideStands-keeps a.keeps f.waits) a.stands)

pub put_either-returns-in_err-join-clause-keeps : goal.put_either-returns-in_err-join-clause-keeps
put_either-returns-in_err-join-clause-keeps t c = Keeps_four c.in_ok-waits.ensures.keeps c.in_ok-put.ensures.keeps c.in_ok-put-2.ensures.keeps c.join.ensures.keeps

pub put_either-returns-clause-keeps : goal.put_either-returns-clause-keeps
put_either-returns-clause-keeps t c = Keeps_four c.in_ok-waits.ensures.keeps c.in_ok-put.ensures.keeps c.in_ok-put-2.ensures.keeps c.in_ok-join.ensures.keeps

pub put_either-returns-clause-puts : goal.put_either-returns-clause-puts
put_either-returns-clause-puts t c = either_puts c.in_ok-waits.ensures.forked c.in_ok-put.ensures.puts c.turn-gone.ensures c.in_ok-put-2.ensures.puts c.in_ok-join.ensures.joined
