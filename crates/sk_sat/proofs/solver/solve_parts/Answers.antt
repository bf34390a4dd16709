use Rattle.std.proofs.Common.{subst, sym}
use Rattle.sk_sat.specs.Search.{IsUnspent}
use Rattle.sk_sat.proofs.SolverLemmas.{Searched, gained_is, grows_part, grows_whole, serves_after, answer_sat, answer_unsat, answer_spent}
use Rattle.sk_sat.proofs.solver.solve_parts.Goals as goal

pub returns-in_err-extend-clause-grows : goal.returns-in_err-extend-clause-grows
returns-in_err-extend-clause-grows g c =
    let s : Searched c.args.vars c.args.added.now c.args.learnt.now c.in_ok-engine.engine c.search.new.self c.search.new.fresh = record {
      sound = c.requires.sound;
      current = c.in_ok-engine.ensures;
      ready = c.in_ok-outcome.ensures.ready;
      long = c.in_ok-outcome.ensures.vars;
      taken = c.in_ok-outcome.ensures.taken;
      grown = c.in_ok-outcome.ensures.grown;
      each = c.in_ok-outcome.ensures.each;
      consistent = c.in_ok-outcome.ensures.consistent;
    } in
    grows_part c.args.vars c.args.added.now c.args.learnt.now c.in_ok-engine.engine c.search.new.self c.search.new.fresh s c.extend.new.list c.extend.ensures.part.0 c.extend.ensures.part.1

pub returns-in_err-log-in-Unsat-clause-grows : goal.returns-in_err-log-in-Unsat-clause-grows
returns-in_err-log-in-Unsat-clause-grows g c =
    let s : Searched c.args.vars c.args.added.now c.args.learnt.now c.in_ok-engine.engine c.search.new.self c.search.new.fresh = record {
      sound = c.requires.sound;
      current = c.in_ok-engine.ensures;
      ready = c.in_ok-outcome.ensures.ready;
      long = c.in_ok-outcome.ensures.vars;
      taken = c.in_ok-outcome.ensures.taken;
      grown = c.in_ok-outcome.ensures.grown;
      each = c.in_ok-outcome.ensures.each;
      consistent = c.in_ok-outcome.ensures.consistent;
    } in
    grows_whole c.args.vars c.args.added.now c.args.learnt.now c.in_ok-engine.engine c.search.new.self c.search.new.fresh s c.extend.new.list c.in_ok-extend.ensures.whole

pub returns-in_ok-log-in-Unsat-clause-grows : goal.returns-in_ok-log-in-Unsat-clause-grows
returns-in_ok-log-in-Unsat-clause-grows g c =
    let s : Searched c.args.vars c.args.added.now c.args.learnt.now c.in_ok-engine.engine c.search.new.self c.search.new.fresh = record {
      sound = c.requires.sound;
      current = c.in_ok-engine.ensures;
      ready = c.in_ok-outcome.ensures.ready;
      long = c.in_ok-outcome.ensures.vars;
      taken = c.in_ok-outcome.ensures.taken;
      grown = c.in_ok-outcome.ensures.grown;
      each = c.in_ok-outcome.ensures.each;
      consistent = c.in_ok-outcome.ensures.consistent;
    } in
    grows_whole c.args.vars c.args.added.now c.args.learnt.now c.in_ok-engine.engine c.search.new.self c.search.new.fresh s c.extend.new.list c.in_ok-extend.ensures.whole

pub returns-in-Sat-clause-grows : goal.returns-in-Sat-clause-grows
returns-in-Sat-clause-grows g c =
    let s : Searched c.args.vars c.args.added.now c.args.learnt.now c.in_ok-engine.engine c.search.new.self c.search.new.fresh = record {
      sound = c.requires.sound;
      current = c.in_ok-engine.ensures;
      ready = c.in_ok-outcome.ensures.ready;
      long = c.in_ok-outcome.ensures.vars;
      taken = c.in_ok-outcome.ensures.taken;
      grown = c.in_ok-outcome.ensures.grown;
      each = c.in_ok-outcome.ensures.each;
      consistent = c.in_ok-outcome.ensures.consistent;
    } in
    grows_whole c.args.vars c.args.added.now c.args.learnt.now c.in_ok-engine.engine c.search.new.self c.search.new.fresh s c.extend.new.list c.in_ok-extend.ensures.whole

pub returns-in-Spent-clause-grows : goal.returns-in-Spent-clause-grows
returns-in-Spent-clause-grows g c =
    let s : Searched c.args.vars c.args.added.now c.args.learnt.now c.in_ok-engine.engine c.search.new.self c.search.new.fresh = record {
      sound = c.requires.sound;
      current = c.in_ok-engine.ensures;
      ready = c.in_ok-outcome.ensures.ready;
      long = c.in_ok-outcome.ensures.vars;
      taken = c.in_ok-outcome.ensures.taken;
      grown = c.in_ok-outcome.ensures.grown;
      each = c.in_ok-outcome.ensures.each;
      consistent = c.in_ok-outcome.ensures.consistent;
    } in
    grows_whole c.args.vars c.args.added.now c.args.learnt.now c.in_ok-engine.engine c.search.new.self c.search.new.fresh s c.extend.new.list c.in_ok-extend.ensures.whole

pub returns-in-Sat-clause-engine : goal.returns-in-Sat-clause-engine
returns-in-Sat-clause-engine g c =
    let s : Searched c.args.vars c.args.added.now c.args.learnt.now c.in_ok-engine.engine c.search.new.self c.search.new.fresh = record {
      sound = c.requires.sound;
      current = c.in_ok-engine.ensures;
      ready = c.in_ok-outcome.ensures.ready;
      long = c.in_ok-outcome.ensures.vars;
      taken = c.in_ok-outcome.ensures.taken;
      grown = c.in_ok-outcome.ensures.grown;
      each = c.in_ok-outcome.ensures.each;
      consistent = c.in_ok-outcome.ensures.consistent;
    } in
    serves_after c.args.vars c.args.added.now c.args.learnt.now c.in_ok-engine.engine c.search.new.self c.search.new.fresh s c.extend.new.list c.in_ok-extend.ensures.whole

pub returns-in-Spent-clause-engine : goal.returns-in-Spent-clause-engine
returns-in-Spent-clause-engine g c =
    let s : Searched c.args.vars c.args.added.now c.args.learnt.now c.in_ok-engine.engine c.search.new.self c.search.new.fresh = record {
      sound = c.requires.sound;
      current = c.in_ok-engine.ensures;
      ready = c.in_ok-outcome.ensures.ready;
      long = c.in_ok-outcome.ensures.vars;
      taken = c.in_ok-outcome.ensures.taken;
      grown = c.in_ok-outcome.ensures.grown;
      each = c.in_ok-outcome.ensures.each;
      consistent = c.in_ok-outcome.ensures.consistent;
    } in
    serves_after c.args.vars c.args.added.now c.args.learnt.now c.in_ok-engine.engine c.search.new.self c.search.new.fresh s c.extend.new.list c.in_ok-extend.ensures.whole

pub returns-in-Sat-clause-answer : goal.returns-in-Sat-clause-answer
returns-in-Sat-clause-answer g c =
    let s : Searched c.args.vars c.args.added.now c.args.learnt.now c.in_ok-engine.engine c.search.new.self c.search.new.fresh = record {
      sound = c.requires.sound;
      current = c.in_ok-engine.ensures;
      ready = c.in_ok-outcome.ensures.ready;
      long = c.in_ok-outcome.ensures.vars;
      taken = c.in_ok-outcome.ensures.taken;
      grown = c.in_ok-outcome.ensures.grown;
      each = c.in_ok-outcome.ensures.each;
      consistent = c.in_ok-outcome.ensures.consistent;
    } in
    let o = rw c.in-Sat.is at c.in_ok-outcome.ensures.outcome in
    rw c.from_vec.ensures (answer_sat c.args.vars c.args.added.now c.args.learnt.now c.in_ok-engine.engine c.search.new.self c.search.new.fresh s c.extend.new.list c.args.budget c.in-Sat.bits.items c.in_ok-extend.ensures.whole o.0 o.1 o.2)

pub returns-in_ok-log-in-Unsat-clause-answer : goal.returns-in_ok-log-in-Unsat-clause-answer
returns-in_ok-log-in-Unsat-clause-answer g c =
    let s : Searched c.args.vars c.args.added.now c.args.learnt.now c.in_ok-engine.engine c.search.new.self c.search.new.fresh = record {
      sound = c.requires.sound;
      current = c.in_ok-engine.ensures;
      ready = c.in_ok-outcome.ensures.ready;
      long = c.in_ok-outcome.ensures.vars;
      taken = c.in_ok-outcome.ensures.taken;
      grown = c.in_ok-outcome.ensures.grown;
      each = c.in_ok-outcome.ensures.each;
      consistent = c.in_ok-outcome.ensures.consistent;
    } in
    let g = gained_is c.args.vars c.args.added.now c.args.learnt.now c.search.new.fresh c.extend.new.list c.in_ok-extend.ensures.whole in
    let o = rw c.in-Unsat.is at c.in_ok-outcome.ensures.outcome in (
      c.in_ok-log-in-Unsat.ensures,
      answer_unsat c.args.vars c.args.added.now c.args.learnt.now c.in_ok-engine.engine c.search.new.self c.search.new.fresh s c.extend.new.list _ c.in_ok-extend.ensures.whole c.in_ok-log-in-Unsat.ensures o.0,
      subst (IsUnspent c.args.budget) (sym g) o.1,
    )

pub returns-in-Spent-clause-answer : goal.returns-in-Spent-clause-answer
returns-in-Spent-clause-answer g c =
    let s : Searched c.args.vars c.args.added.now c.args.learnt.now c.in_ok-engine.engine c.search.new.self c.search.new.fresh = record {
      sound = c.requires.sound;
      current = c.in_ok-engine.ensures;
      ready = c.in_ok-outcome.ensures.ready;
      long = c.in_ok-outcome.ensures.vars;
      taken = c.in_ok-outcome.ensures.taken;
      grown = c.in_ok-outcome.ensures.grown;
      each = c.in_ok-outcome.ensures.each;
      consistent = c.in_ok-outcome.ensures.consistent;
    } in
    let g = gained_is c.args.vars c.args.added.now c.args.learnt.now c.search.new.fresh c.extend.new.list c.in_ok-extend.ensures.whole in
    let o = rw c.in-Spent.is at c.in_ok-outcome.ensures.outcome in
    (sym g, o.0, o.1, c.in_ok-outcome.ensures.consistent, answer_spent c.args.vars c.args.added.now c.args.learnt.now c.in_ok-engine.engine c.search.new.self c.search.new.fresh s o.2)
