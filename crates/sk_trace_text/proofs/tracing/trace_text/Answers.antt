use Rattle.std.proofs.Common.{arith}
use Rattle.sk_trace_text.proofs.Fillable.{has_its_sites, narrow_sites}
use Rattle.sk_trace_text.proofs.TextLaws.{traced_of, refused_answer, run_answer}
use Rattle.sk_trace_text.proofs.tracing.trace_text.Goals as goal

pub of_expansion-requires-clause-sites : goal.of_expansion-requires-clause-sites
of_expansion-requires-clause-sites c = has_its_sites c.in-Ok.it.expanded c.in-Ok.it.prog c.in-Ok.it.bounds c.in-Ok.ensures.found.expanded_to.is

pub of_expansion-requires-clause-narrow : goal.of_expansion-requires-clause-narrow
of_expansion-requires-clause-narrow c = narrow_sites c.in-Ok.it.expanded.sites c.in-Ok.ensures.found.narrow

pub of_expansion-requires-clause-few : goal.of_expansion-requires-clause-few
of_expansion-requires-clause-few c = let most = c.in-Ok.ensures.found.expanded_to.sites_fit in omega (arith, most)

pub returns-in-Err-clause-not_traced : goal.returns-in-Err-clause-not_traced
returns-in-Err-clause-not_traced c reason w = c.in-Err.ensures.taken w.tree w.bounds w.prog w.e w.expanded

pub returns-in-Err-clause-run : goal.returns-in-Err-clause-run
returns-in-Err-clause-run c outcome out w = c.in-Err.ensures.taken w.tree w.bounds w.prog w.e w.expanded

pub returns-in-Ok-of_expansion-clause-not_traced : goal.returns-in-Ok-of_expansion-clause-not_traced
returns-in-Ok-of_expansion-clause-not_traced c = refused_answer c.args.set.now c.args.holes.now c.args.name.now c.args.words.now c.args.text.now c.in-Ok.it c.in-Ok-of_expansion.traced c.in-Ok.ensures.found c.in-Ok-of_expansion.ensures

pub returns-in-Ok-of_expansion-clause-run : goal.returns-in-Ok-of_expansion-clause-run
returns-in-Ok-of_expansion-clause-run c = run_answer c.args.set.now c.args.holes.now c.args.name.now c.args.words.now c.args.text.now c.in-Ok.it c.in-Ok-of_expansion.traced c.in-Ok.ensures.found c.in-Ok-of_expansion.ensures
