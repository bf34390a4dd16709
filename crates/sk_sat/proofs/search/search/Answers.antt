use Rattle.std.proofs.Common.{◌≡◌, inl, inr, ◌∙◌, ap, length, refl, arith}
use Rattle.std.proofs.lemmas.Bool.{cases_lt}
use Rattle.std.proofs.lemmas.List.{length-map}
use Rattle.sk_sat.proofs.SearchLemmas.{searches_begin, searches_decided, searches_learnt, grown_added, each_added, consistent_added, within_added, spent_added, unspent, met_all, work_falls, effort_falls, searches_anew}
use Rattle.sk_sat.proofs.GatherLemmas.{searches_gathered}
use Rattle.sk_sat.proofs.search.search.Goals as goal

pub rounds-init : goal.rounds-init
rounds-init g c = searches_begin c.args.known.now c.args.fresh.now (length c.args.trail.now.values.items) c.args.budget c.args.trail.now c.requires.fresh c.requires.within c.requires.trail refl

pub returns-in-Refuted-clause-grown : goal.returns-in-Refuted-clause-grown
returns-in-Refuted-clause-grown g c =
    let r = rw c.in-Refuted.is at c.in_ok-round_of.ensures in
    rw (r.0, r.1) c.rounds.invariant.grown

pub returns-in-Refuted-clause-each : goal.returns-in-Refuted-clause-each
returns-in-Refuted-clause-each g c =
    let r = rw c.in-Refuted.is at c.in_ok-round_of.ensures in
    rw r.1 c.rounds.invariant.each

pub returns-in-Refuted-clause-consistent : goal.returns-in-Refuted-clause-consistent
returns-in-Refuted-clause-consistent g c =
    let r = rw c.in-Refuted.is at c.in_ok-round_of.ensures in
    rw r.1 c.rounds.invariant.consistent

pub returns-in-Refuted-clause-within : goal.returns-in-Refuted-clause-within
returns-in-Refuted-clause-within g c =
    let r = rw c.in-Refuted.is at c.in_ok-round_of.ensures in
    rw r.0 c.rounds.invariant.within

pub returns-in-Refuted-clause-outcome : goal.returns-in-Refuted-clause-outcome
returns-in-Refuted-clause-outcome g c =
    let r = rw c.in-Refuted.is at c.in_ok-round_of.ensures in
    let f = rw c.rounds.invariant.grown at r.2 in
    (rw r.1 f, unspent _ _ _ _ _ _ _ c.rounds.invariant c.round_of.new.known c.round_of.new.fresh r.1)

pub returns-in-Refuted-clause-stands : goal.returns-in-Refuted-clause-stands
returns-in-Refuted-clause-stands g c =
    let r = rw c.in-Refuted.is at c.in_ok-round_of.ensures in
    record { trail = r.3.trail; long = r.3.long ∙ c.rounds.invariant.long }

pub returns-in-Full-clause-each : goal.returns-in-Full-clause-each
returns-in-Full-clause-each g c =
    let r = rw c.in-Full.is at c.in_ok-round_of.ensures in
    rw r.1 c.rounds.invariant.each

pub returns-in-Full-clause-outcome : goal.returns-in-Full-clause-outcome
returns-in-Full-clause-outcome g c =
    let r = rw c.in-Full.is at c.in_ok-round_of.ensures in
    let b = rw c.deref.ensures.value at c.in_ok-bits-in-Full.ensures in (
      ap length b ∙ length-map c.round_of.new.trail.values.items _ ∙ r.3.long ∙ c.rounds.invariant.long,
      met_all c.args.known.now c.rounds.known c.rounds.fresh c.round_of.new.trail.values.items c.in_ok-bits-in-Full.field-0.items c.rounds.invariant.grown r.2 b,
      unspent _ _ _ _ _ _ _ c.rounds.invariant c.round_of.new.known c.round_of.new.fresh r.1,
    )

pub returns-in-Full-clause-stands : goal.returns-in-Full-clause-stands
returns-in-Full-clause-stands g c =
    let r = rw c.in-Full.is at c.in_ok-round_of.ensures in
    record { trail = r.3.trail; long = r.3.long ∙ c.rounds.invariant.long }

pub rounds-smaller-in-Moved : goal.rounds-smaller-in-Moved
rounds-smaller-in-Moved g c =
    let r = rw c.in-Moved.is at c.in_ok-round_of.ensures in
    effort_falls c.rounds.restarts.left c.rounds.trail c.round_of.new.trail r.2.long (work_falls c.rounds.known c.round_of.new.known c.rounds.trail c.round_of.new.trail r.2.trail r.2.long r.2.more)

pub rounds-preserved-in-Moved : goal.rounds-preserved-in-Moved
rounds-preserved-in-Moved g c =
    let r = rw c.in-Moved.is at c.in_ok-round_of.ensures in
    searches_decided _ _ _ _ _ c.rounds.trail _ c.rounds.invariant _ _ c.round_of.new.trail r.0 r.1 r.2

pub returns-then-left-eq1-clause-grown : goal.returns-then-left-eq1-clause-grown
returns-then-left-eq1-clause-grown g c =
    let r = rw c.in-Learnt.is at c.in_ok-round_of.ensures in
    grown_added c.args.known.now (length c.args.trail.now.values.items) c.args.budget c.rounds.known c.rounds.fresh c.rounds.trail c.rounds.left c.rounds.invariant c.round_of.new.known c.round_of.new.fresh r.0.0 r.0.1 (λ p. r.0.2 (c.is_limited-strict.ensures p))

pub returns-then-left-eq1-clause-each : goal.returns-then-left-eq1-clause-each
returns-then-left-eq1-clause-each g c =
    let r = rw c.in-Learnt.is at c.in_ok-round_of.ensures in
    each_added c.args.known.now (length c.args.trail.now.values.items) c.args.budget c.rounds.known c.rounds.fresh c.rounds.trail c.rounds.left c.rounds.invariant c.round_of.new.known c.round_of.new.fresh r.0.0 r.0.1 (λ p. r.0.2 (c.is_limited-strict.ensures p))

pub returns-then-left-eq1-clause-consistent : goal.returns-then-left-eq1-clause-consistent
returns-then-left-eq1-clause-consistent g c =
    let r = rw c.in-Learnt.is at c.in_ok-round_of.ensures in
    consistent_added c.args.known.now (length c.args.trail.now.values.items) c.args.budget c.rounds.known c.rounds.fresh c.rounds.trail c.rounds.left c.rounds.invariant c.round_of.new.known c.round_of.new.fresh r.0.0 r.0.1 (λ p. r.0.2 (c.is_limited-strict.ensures p))

pub returns-then-left-eq1-clause-within : goal.returns-then-left-eq1-clause-within
returns-then-left-eq1-clause-within g c =
    let r = rw c.in-Learnt.is at c.in_ok-round_of.ensures in
    within_added c.args.known.now (length c.args.trail.now.values.items) c.args.budget c.rounds.known c.rounds.fresh c.rounds.trail c.rounds.left c.rounds.invariant c.round_of.new.known c.round_of.new.fresh r.0.0 r.0.1 (λ p. r.0.2 (c.is_limited-strict.ensures p))

pub returns-then-left-eq1-clause-outcome : goal.returns-then-left-eq1-clause-outcome
returns-then-left-eq1-clause-outcome g c =
    let r = rw c.in-Learnt.is at c.in_ok-round_of.ensures in
    spent_added c.args.known.now (length c.args.trail.now.values.items) c.args.budget c.rounds.known c.rounds.fresh c.rounds.trail c.rounds.left c.rounds.invariant c.round_of.new.known c.round_of.new.fresh r.0.0 r.0.1 (λ p. r.0.2 (c.is_limited-strict.ensures p)) c.if-left-eq1.true

pub returns-then-left-eq1-clause-stands : goal.returns-then-left-eq1-clause-stands
returns-then-left-eq1-clause-stands g c =
    let r = rw c.in-Learnt.is at c.in_ok-round_of.ensures in
    record { trail = r.1.trail; long = r.1.long ∙ c.rounds.invariant.long }

pub rounds-smaller-then-strict : goal.rounds-smaller-then-strict
rounds-smaller-then-strict g c =
    let r = rw c.in-Learnt.is at c.in_ok-round_of.ensures in
    let f = effort_falls c.rounds.restarts.left c.rounds.trail c.round_of.new.trail r.1.long (work_falls c.rounds.known c.round_of.new.known c.rounds.trail c.round_of.new.trail r.1.trail r.1.long r.1.more) in
    let g = c.begin_anew.ensures.less in
    omega arith

pub begin_anew-requires : goal.begin_anew-requires
begin_anew-requires g c =
    let r = rw c.in-Learnt.is at c.in_ok-round_of.ensures in
    (c.round_of.new.known, r.1.trail)

pub rounds-preserved-then-strict : goal.rounds-preserved-then-strict
rounds-preserved-then-strict g c =
    let r = rw c.in-Learnt.is at c.in_ok-round_of.ensures in
    let s = searches_learnt _ _ _ _ _ c.rounds.trail _ c.rounds.invariant _ _ _ r.0.1 (λ p. r.0.2 (c.is_limited-strict.ensures p)) c.round_of.new.trail r.1 c.if-left-eq1.false in
    rw c.saturating_sub-left.ensures (searches_anew _ _ _ _ _ c.round_of.new.trail c.begin_anew.new.trail _ s (c.begin_anew.ensures.trail c.round_of.new.known r.1.trail) c.begin_anew.ensures.long)

pub reduce-requires : goal.reduce-requires
reduce-requires g c =
    let r = rw c.in-Learnt.is at c.in_ok-round_of.ensures in
    c.begin_anew.ensures.trail c.round_of.new.known r.1.trail

pub rounds-smaller : goal.rounds-smaller
rounds-smaller g c =
    let r = rw c.in-Learnt.is at c.in_ok-round_of.ensures in
    let f = effort_falls c.rounds.restarts.left c.rounds.trail c.round_of.new.trail r.1.long (work_falls c.rounds.known c.round_of.new.known c.rounds.trail c.round_of.new.trail r.1.trail r.1.long r.1.more) in
    let g = c.begin_anew.ensures.less in
    let h = c.in_ok-reduce-in-Learnt.ensures.less in
    omega arith

pub rounds-preserved : goal.rounds-preserved
rounds-preserved g c =
    let r = rw c.in-Learnt.is at c.in_ok-round_of.ensures in
    let s = searches_learnt _ _ _ _ _ c.rounds.trail _ c.rounds.invariant _ _ _ r.0.1 (λ p. r.0.2 (c.is_limited-strict.ensures p)) c.round_of.new.trail r.1 c.if-left-eq1.false in
    let anew = searches_anew _ _ _ _ _ c.round_of.new.trail c.begin_anew.new.trail _ s (c.begin_anew.ensures.trail c.round_of.new.known r.1.trail) c.begin_anew.ensures.long in
    let none : c.args.budget ≡ 0 = elim (cases_lt 0 c.args.budget) [
      | inl some ↦ absurd (let t = c.is_limited-strict.ensures some in let f = c.if-strict.false in cc)
      | inr past ↦ omega arith
    ] in
    rw c.saturating_sub-left.ensures (searches_gathered _ _ _ _ _ _ _ c.begin_anew.new.trail c.reduce.new.trail _ anew none c.in_ok-reduce-in-Learnt.ensures.gathers c.in_ok-reduce-in-Learnt.ensures.trail c.in_ok-reduce-in-Learnt.ensures.long)
