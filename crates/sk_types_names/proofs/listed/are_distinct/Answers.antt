use Rattle.std.proofs.Common.{refl, sym, ap, ◌∙◌, arith}
use Rattle.std.specs.Option.{is_some}
use Rattle.sk_types_names.proofs.ListedLaws.{no_places, distinct_step, distinct_end}
use Rattle.sk_types_names.proofs.listed.are_distinct.Goals as goal

pub loop-i-init : goal.loop-i-init
loop-i-init g c = record { places = no_places c.new-places.result c.new-places.ensures; apart = refl }

pub returns-then-is_some : goal.returns-then-is_some
returns-then-is_some g c =
    sym (distinct_end g.T.Named.name_of c.args.items.now c.loop-i.i c.index-items-i.result c.loop-i.places c.name-name.result.now (omega arith) c.index-items-i.is c.name-name.ensures c.loop-i.invariant.places
    (ap is_some (sym c.get.ensures) ∙ sym c.is_some.ensures ∙ c.if-is_some.true))

pub loop-i-preserved : goal.loop-i-preserved
loop-i-preserved g c =
    let s = distinct_step g.T.Named.name_of c.args.items.now c.loop-i.i c.index-items-i.result c.loop-i.places c.name-name.result.now c.put.new.self (omega arith) c.index-items-i.is c.name-name.ensures c.loop-i.invariant.places c.loop-i.invariant.apart
    (ap is_some (sym c.get.ensures) ∙ sym c.is_some.ensures ∙ c.if-is_some.false) c.in_ok-put.ensures.ok in
    record { places = s.0; apart = s.1 }
