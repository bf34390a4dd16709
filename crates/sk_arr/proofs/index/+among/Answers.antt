use Rattle.std.proofs.Common.{◌≡◌, ◌<◌, length, arith}
use Rattle.sk_dag.specs.Graph.{WordSort}
use Rattle.sk_arr.proofs.Standing.{Stands-keeps, AllStand-keeps}
use Rattle.sk_arr.proofs.Choices.{stand_at}
use Rattle.sk_arr.proofs.ReadLaws.{among_one, among_both}
use Rattle.sk_arr.proofs.index.+among.Goals as goal

pub among-returns-then-count-eq1-clause-read : goal.among-returns-then-count-eq1-clause-read
among-returns-then-count-eq1-clause-read t c =
    let within : c.args.low < length c.args.list.now = omega (arith, c.requires.within, c.if-count-eq1.true) in
    let one : c.args.count ≡ 1 = omega (arith, c.if-count-eq1.true) in
    rw one (among_one c.args.low within c.index-list-low.is c.requires.alike (c.in_ok-r.ensures c.args.dag.now (stand_at c.args.list.now c.args.low c.index-list-low.result within c.index-list-low.is c.requires.list)))

pub among-among-requires : goal.among-among-requires
among-among-requires t c = (
  omega (arith, c.requires.some, c.if-count-eq1.false),
  (
    c.in_ok-test.ensures.keeps.sorts _ WordSort c.requires.index,
    (
      AllStand-keeps c.in_ok-test.ensures.keeps c.requires.list,
      (c.requires.alike, (omega (arith, c.requires.some, c.if-count-eq1.false), omega (arith, c.requires.some, c.requires.within))),
    ),
  ),
)

pub among-among-requires-in-Some-false : goal.among-among-requires-in-Some-false
among-among-requires-in-Some-false t c = (
  omega (arith, c.requires.some, c.if-count-eq1.false),
  (
    c.in_ok-test.ensures.keeps.sorts _ WordSort c.requires.index,
    (
      AllStand-keeps c.in_ok-test.ensures.keeps c.requires.list,
      (c.requires.alike, (omega (arith, c.requires.some, c.if-count-eq1.false), omega (arith, c.requires.some, c.requires.within))),
    ),
  ),
)

pub among-among_halves-requires : goal.among-among_halves-requires
among-among_halves-requires t c = (
  omega arith,
  (
    c.in_ok-test.ensures.keeps.sorts _ WordSort c.requires.index,
    (
      AllStand-keeps c.in_ok-test.ensures.keeps c.requires.list,
      (
        c.requires.alike,
        (
          omega (arith, c.requires.some, c.if-count-eq1.false),
          (c.requires.within, record { there = c.in_ok-test.ensures.there; value = c.in_ok-test.ensures.value }),
        ),
      ),
    ),
  ),
)

pub among_halves-among-requires-2 : goal.among_halves-among-requires-2
among_halves-among-requires-2 t c = (
  omega (arith, c.requires.some),
  (
    c.in_ok-a.ensures.keeps.sorts _ WordSort c.requires.index,
    (
      AllStand-keeps c.in_ok-a.ensures.keeps c.requires.list,
      (c.requires.alike, (omega (arith, c.requires.some), omega (arith, c.requires.some, c.requires.within))),
    ),
  ),
)

pub among_halves-choose-requires-clause-a : goal.among_halves-choose-requires-clause-a
among_halves-choose-requires-clause-a t c = Stands-keeps c.in_ok-b.ensures.keeps c.in_ok-a.ensures.read.stands

pub among_halves-returns-clause-read : goal.among_halves-returns-clause-read
among_halves-returns-clause-read t c =
    among_both (record { there = c.requires.test.there; value = c.requires.test.value }) c.in_ok-a.ensures.keeps c.in_ok-a.ensures.read c.in_ok-b.ensures.keeps c.in_ok-b.ensures.read c.in_ok-r.ensures.keeps c.in_ok-r.ensures.choice (omega (arith, c.requires.some)) (omega (arith, c.requires.some))
