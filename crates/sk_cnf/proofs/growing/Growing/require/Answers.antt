use Rattle.std.proofs.Common.{◌∙◌, refl, arith}
use Rattle.std.proofs.lemmas.Result.{on_ok_weaker}
use Rattle.sk_dag.proofs.ReachLemmas.{IsClosed-reached}
use Rattle.sk_gates.proofs.ExtensionLaws.{Continues-refl, on_err}
use Rattle.sk_cnf.proofs.StandingLaws.{grown_length, Begins-gained, begins_either, on_err_both, Covers-begun, Shows-grows, Shows-same, Stands-gained, Stands-refused, Tight-gained}
use Rattle.sk_cnf.proofs.growing.Growing.require.Goals as goal

pub lengthen-requires : goal.lengthen-requires
lengthen-requires c = let b = c.requires.begun in omega (arith, b.2.codes.short, grown_length b.3, c.len.ensures)

pub from_parts-gates-requires : goal.from_parts-gates-requires
from_parts-gates-requires c = rw (c.replace-clauses.ensures.value, c.replace-made.ensures.value) c.requires.begun.2.made

pub add_root-ended-requires-clause-closed : goal.add_root-ended-requires-clause-closed
add_root-ended-requires-clause-closed c = rw c.as_slice-2.ensures (IsClosed-reached _ _ _ c.in_ok-marks.ensures)

pub add_root-ended-requires-clause-names : goal.add_root-ended-requires-clause-names
add_root-ended-requires-clause-names c = rw c.as_slice.ensures c.requires.begun.2.means.encodes.named

pub add_root-ended-requires-clause-within : goal.add_root-ended-requires-clause-within
add_root-ended-requires-clause-within c = rw (c.as_slice.ensures, c.from_parts-gates.ensures, c.replace-clauses.ensures.value) c.requires.begun.2.means.encodes.within

pub add_root-ended-requires-clause-covers : goal.add_root-ended-requires-clause-covers
add_root-ended-requires-clause-covers c =
    let b = c.requires.begun in
    rw (c.as_slice.ensures, c.as_slice-2.ensures, c.from_parts-gates.ensures, c.replace-clauses.ensures.value)
    (Covers-begun c.args.self.now b.0 c.args.dag.now b.1 _ _ b.2 b.3 (c.in_ok-lengthen.ensures.length ∙ c.len.ensures) c.lengthen.ensures.fits c.lengthen.ensures.codes)

pub returns-clause-stands : goal.returns-clause-stands
returns-clause-stands c =
    let gained = rw (c.as_slice.ensures, c.as_slice-2.ensures, c.from_parts-gates.ensures, c.replace-clauses.ensures.value, ← c.into_parts-clauses.ensures.clauses) at c.add_root-ended.ensures.gains in
    λ g roots h grows.
    on_ok_weaker c.add_root-ended.result
    (λ gains. Stands-gained c.args.self.now _ g c.args.dag.now roots c.args.root _ h grows refl refl c.requires.root c.in_ok-marks.ensures gains c.into_parts-clauses.ensures.made)
    gained

pub returns-clause-tight : goal.returns-clause-tight
returns-clause-tight c =
    let gained = rw (c.as_slice.ensures, c.as_slice-2.ensures, c.from_parts-gates.ensures, c.replace-clauses.ensures.value, ← c.into_parts-clauses.ensures.clauses) at c.add_root-ended.ensures.gains in
    let b = c.requires.begun in
    λ tight.
    on_ok_weaker c.add_root-ended.result
    (λ gains. Tight-gained c.args.self.now _ b.0 c.args.dag.now b.1 c.args.root _ b.2 b.3 refl refl c.requires.root c.in_ok-marks.ensures gains c.into_parts-clauses.ensures.made tight)
    gained

pub returns-clause-refused : goal.returns-clause-refused
returns-clause-refused c =
    let shows = rw (c.as_slice.ensures, ← c.into_parts-clauses.ensures.clauses) at c.add_root-ended.ensures.refused in
    let kept = rw (c.from_parts-gates.ensures, c.replace-clauses.ensures.value, ← c.into_parts-clauses.ensures.clauses) at c.add_root-ended.ensures.kept in
    λ g roots h grows.
    on_err_both c.add_root-ended.result (λ s k. Stands-refused c.args.self.now _ g c.args.dag.now roots h grows refl refl k s c.into_parts-clauses.ensures.made) shows kept

pub returns-clause-behind : goal.returns-clause-behind
returns-clause-behind c =
    let gained = rw (c.as_slice.ensures, c.as_slice-2.ensures, c.from_parts-gates.ensures, c.replace-clauses.ensures.value, ← c.into_parts-clauses.ensures.clauses) at c.add_root-ended.ensures.gains in
    let kept = rw (c.from_parts-gates.ensures, c.replace-clauses.ensures.value, ← c.into_parts-clauses.ensures.clauses) at c.add_root-ended.ensures.kept in
    begins_either c.add_root-ended.result Begins-gained gained kept

pub returns-in_err-marks-clause-refused : goal.returns-in_err-marks-clause-refused
returns-in_err-marks-clause-refused c = λ g roots h grows. on_err _ (Stands-refused c.args.self.now _ g c.args.dag.now roots h grows refl refl (Continues-refl _) (Shows-same grows h.codes) h.made)

pub returns-in_err-lengthen-clause-refused : goal.returns-in_err-lengthen-clause-refused
returns-in_err-lengthen-clause-refused c =
    let short = rw c.len.ensures at c.lengthen.ensures.short in
    λ g roots h grows.
    on_err _ (Stands-refused c.args.self.now _ g c.args.dag.now roots h grows refl refl (Continues-refl _)
    (Shows-grows grows short c.lengthen.ensures.fits c.lengthen.ensures.codes h.codes) h.made)
