-- The examples, computed.
use Rattle.std.proofs.Common.{refl}
use Rattle.std.specs.Fmt.{digits}
use Rattle.sk_prog.specs.declared.value.Value.TheFolds.{the_lemmas as value_lemmas}
use Rattle.sk_app_texts.specs.Examples.{ResultOfInt, ResultOfGrid, ResultByRef, FailedRun, SkippedRun, SelfSketch, SelfSummary, RejectedByInputs, MessageOfText, MessageOfType, MessageOfSize, MessageOfExec, MessageOfCertificate}

pub result_of_int : ResultOfInt
unfolding digits
result_of_int = simp value_lemmas

pub result_of_grid : ResultOfGrid
unfolding digits
result_of_grid = simp value_lemmas

pub result_by_ref : ResultByRef
unfolding digits
result_by_ref = simp value_lemmas

pub failed_run : FailedRun
unfolding digits
failed_run = refl

pub skipped_run : SkippedRun
unfolding digits
skipped_run = refl

pub self_sketch : SelfSketch
unfolding digits
self_sketch = refl

pub self_summary : SelfSummary
unfolding digits
self_summary = refl

pub by_inputs : RejectedByInputs
unfolding digits
by_inputs = refl

pub of_text : MessageOfText
unfolding digits
of_text = refl

pub of_type : MessageOfType
unfolding digits
of_type = refl

pub of_size : MessageOfSize
unfolding digits
of_size = refl

pub of_exec : MessageOfExec
of_exec = refl

pub of_certificate : MessageOfCertificate
unfolding digits
of_certificate = refl
