-- one more function
use Rattle.std.proofs.Common.{◌≡◌, ◌<◌, ◌+◌, map, length, drop, ◌∙◌, arith}
use Rattle.std.proofs.lemmas.List.{length-drop}
use Rattle.sk_holes.specs.Filling.{number}
use Rattle.sk_model.specs.Fill.{fill_funs}
use Rattle.sk_holes_standing.specs.Functions.{minimize_paid}
use Rattle.sk_holes.proofs.ProgramLaws.{same_count, one_counted, one_filled, one_passed}
use Rattle.sk_holes.proofs.filler.Filler.funs.Goals as goal

pub add-requires-clause-count : goal.add-requires-clause-count
add-requires-clause-count c =
    let values = c.args.self.now.values.now in
    let f = c.index-funs-n.result in
    (one_counted values c.args.stood.now.counts.items c.args.funs.now c.loop-n.n c.index-in-loop-n.result.now f c.loop-n-test.true c.index-funs-n.is c.index-in-loop-n.ensures c.loop-n.invariant.counts).0 ∙ same_count values (number c.args.self.now) f

pub loop-n-preserved : goal.loop-n-preserved
loop-n-preserved c =
    let l = c.loop-n in
    let values = c.args.self.now.values.now in
    let fs = c.args.funs.now in
    let f = c.index-funs-n.result in
    let stands = c.args.stood.now.stands.items in
    let paid = map minimize_paid c.args.paid.now in
    let count = c.index-in-loop-n.result.now in
    let below : l.n < length fs = c.loop-n-test.true in
    let within : l.n < length stands = omega (arith, below, c.requires.stands) in
    let one = one_counted values c.args.stood.now.counts.items fs l.n count f below c.index-funs-n.is c.index-in-loop-n.ensures l.invariant.counts in
    let same = same_count values (number c.args.self.now) f in
    record {
      filled = one_filled values (number c.args.self.now) paid stands fs l.filled.items (fill_funs values (number c.args.self.now) paid stands fs 0) l.n l.at c.index.result.now f c.add.new.filled.items c.add.new.at below within c.index-funs-n.is c.index.ensures l.invariant.filled c.in_ok-add.ensures.filled (omega (arith, c.in_ok-add.ensures.at, one.0, same));
      stands = omega (arith, length-drop (l.n + 1) stands, length-drop (l.n + 1) fs, c.requires.stands);
      counts = one.1;
      at = one_passed values fs l.n l.at count c.add.new.at _ f below c.index-funs-n.is one.0 c.in_ok-add.ensures.at l.invariant.at;
    }
