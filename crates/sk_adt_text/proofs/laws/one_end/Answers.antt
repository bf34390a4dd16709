use Rattle.sk_adt_text.proofs.PlainLaws.{one_reason, one_span_of, one_text_of, form_or_reason, text_or_span_of, reason_or_cause, span_or_cause, text_or_cause}
use Rattle.sk_adt_text.proofs.laws.one_end.Goals as goal

pub returns : goal.returns
returns c = record {
  reason = one_reason;
  span = one_span_of;
  text = one_text_of;
  no_reason_of_span = λ set text a s x y. form_or_reason text y.form a y.is_form x;
  no_reason_of_text = λ set text a out x y. form_or_reason text y.form a y.is_form x;
  no_span_of_text = λ set text s out x y. text_or_span_of set text out s y x;
  no_cause_of_reason = λ set text a told x y. reason_or_cause set text a told x y;
  no_cause_of_span = span_or_cause;
  no_cause_of_text = text_or_cause;
}
