use Rattle.std.proofs.Common.{length, sym, ap, ◌∙◌, arith}
use Rattle.sk_dag.specs.Graph.{BoolSort}
use Rattle.sk_arr.proofs.Standing.{Stands-keeps}
use Rattle.sk_heap.proofs.ReadLaws.{alone, more_in, first_in, more_fit, first_fits, fits_has, found_stands, found_formed, FieldFits-keeps, read_none, read_one, read_more}
use Rattle.sk_heap.proofs.read.+read_targets.Goals as goal

pub returns-in_default-clause-read : goal.returns-in_default-clause-read
returns-in_default-clause-read t c = read_none c.in_default.ensures c.in_ok-r.ensures.zero

pub field_of-requires : goal.field_of-requires
field_of-requires t c = fits_has (first_fits c.in-Some.ensures c.requires.fields)

pub returns-in_default-front_of-clause-read : goal.returns-in_default-front_of-clause-read
returns-in_default-front_of-clause-read t c =
    let fits = first_fits c.in-Some.ensures c.requires.fields in
    read_one (alone c.in-Some.ensures c.in_default-front_of.ensures) fits c.field_of.ensures
    (c.in_ok-r-2.ensures c.args.dag.now (found_stands fits c.field_of.ensures))

pub read_targets-requires : goal.read_targets-requires
read_targets-requires t c =
    (omega (arith, ap length c.in-Some.ensures), (more_in c.in-Some.ensures c.requires.guards, more_fit c.in-Some.ensures c.requires.fields))

pub field_of-requires-2 : goal.field_of-requires-2
field_of-requires-2 t c = fits_has (first_fits c.in-Some.ensures c.requires.fields)

pub choose-requires-clause-c : goal.choose-requires-clause-c
choose-requires-clause-c t c = c.in_ok-rest.ensures.keeps.sorts _ BoolSort (first_in c.in-Some.ensures c.requires.guards)

pub choose-requires-clause-a : goal.choose-requires-clause-a
choose-requires-clause-a t c = Stands-keeps c.in_ok-rest.ensures.keeps (found_stands (first_fits c.in-Some.ensures c.requires.fields) c.field_of-2.ensures)

pub choose-requires-clause-alike : goal.choose-requires-clause-alike
choose-requires-clause-alike t c = found_formed (first_fits c.in-Some.ensures c.requires.fields) c.field_of-2.ensures ∙ sym c.in_ok-rest.ensures.read.formed

pub returns-clause-read : goal.returns-clause-read
returns-clause-read t c =
    read_more c.in-Some.ensures (FieldFits-keeps c.in_ok-rest.ensures.keeps (first_fits c.in-Some.ensures c.requires.fields)) c.field_of-2.ensures
    c.in_ok-rest.ensures.read c.in_ok-r-3.ensures.keeps c.in_ok-r-3.ensures.choice
