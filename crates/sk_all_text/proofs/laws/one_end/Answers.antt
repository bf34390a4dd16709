use Rattle.sk_built_laws.proofs.Refusals.{built_or_cause, moved}
use Rattle.sk_all_text.specs.declared.reasons.Reasons.TheVariants as reasons
use Rattle.sk_all_text.specs.AllTexts.{TellsReasons, TellsAll, TellsMore}
use Rattle.sk_all_text.specs.Laws.{ExplainedOrMet, AllOrMore, OneAll}
use Rattle.sk_all_text.proofs.Answering.{at_most, too_many}
use Rattle.sk_all_text.proofs.Unique.{one_text}
use Rattle.sk_all_text.proofs.laws.one_end.Goals as goal

explained_or_met : ExplainedOrMet
explained_or_met set text (reasons.Explained a) (reasons.Met b) x y i j =
    let met = moved set text (TellsReasons (reasons.Met b)) x.bounds x.e x.only.built y in
    x.holds.none met.choice met.meeting
explained_or_met set text (reasons.Met a) b x y i j = absurd i
explained_or_met set text (reasons.Explained a) (reasons.Explained b) x y i j = absurd j

all_or_more : AllOrMore
all_or_more set most text a b x y =
    let more = moved set text (TellsMore most b) x.bounds x.e x.only.built y in
    too_many x.bounds x.e most b more (at_most x.bounds x.e most a x.holds)

one_all : OneAll
one_all set most text a b x y = one_text x.bounds x.e most a b x.holds (moved set text (TellsAll most b) x.bounds x.e x.only.built y)

pub returns : goal.returns
returns c = record {
  explained_or_met = explained_or_met;
  all_or_more = all_or_more;
  one_all = one_all;
  no_cause_of_reasons = λ set text a told x cause. built_or_cause set text x.bounds x.e told x.only.built cause;
  no_cause_of_listing = λ set most text out told x cause. built_or_cause set text x.bounds x.e told x.only.built cause;
}
