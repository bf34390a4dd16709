-- The endings that the clauses on causes allow (`Ends`), over an ending and the counts of faults.
use Rattle.std.proofs.Common.{ℕ, ◌≡◌}
use Rattle.sk_base.specs.Stream.{Rose}
use Rattle.sk_base.specs.declared.bounds.Budget.{Budget}
use Rattle.sk_base.specs.declared.span.Span.{Span}
use Rattle.sk_model.specs.declared.outcome.Outcome.{Outcome}
use Rattle.sk_front.specs.declared.fault.TextFault.{TextFault}
use Rattle.sk_front.specs.declared.fault.SketchFault.{SketchFault}
use Rattle.sk_adt.specs.declared.algebraic.AdtFault.{AdtFault}
use Rattle.sk_expand_sizes.specs.declared.fault.SizeFault.{SizeFault}
use Rattle.sk_trace_text.specs.declared.fault.TraceFault.{TraceFault}
use Rattle.sk_cert.specs.declared.fault.CertFault.{CertFault}
use Rattle.sk_check_laws.specs.declared.reason.Reason.{Reason}
use Rattle.sk_check_text.specs.declared.fault.CheckFault.{CheckFault}
use Rattle.sk_exec.specs.declared.fault.ExecFault.TheVariants as exec
use Rattle.sk_app.specs.declared.ending.Ending.{Ending}
use Rattle.sk_app.specs.declared.ending.Ending.TheVariants.{Completed, HelpShown, VersionShown, Lowered, Pruned, Listed, Explained, Met, Rejected, NotALine, TooLarge, NotRun, NotLowered, NotTagged, NotCertificate, TooLong}
use Rattle.sk_app.specs.Questions.{Reply, ending_with}
use Rattle.sk_app.specs.Ends.{Ends, IsOfBuilt, IsOfFault, IsOfUntyped, IsOfRefused, IsOfRefusedInput, IsOfVerdict, IsOfAccepted, ending_of, stopped}

abbrev pub EndsBuilt : Budget → Ending → ℕ → ℕ → ℕ → ℕ → Type 0
EndsBuilt budget result source_old source_new sink_old sink_new = Ends (IsOfBuilt budget) (Rose source_old source_new) (Rose sink_old sink_new) result

abbrev pub EndsFaulty : TextFault → Ending → ℕ → ℕ → Type 0
EndsFaulty fault result source_old source_new = Ends (IsOfFault fault) (Rose source_old source_new) ⊥ result

abbrev pub EndsUntyped : Ending → ℕ → ℕ → Type 0
EndsUntyped result source_old source_new = Ends IsOfUntyped (Rose source_old source_new) ⊥ result

abbrev pub EndsLarge : SizeFault → Ending → ℕ → ℕ → Type 0
EndsLarge reason result source_old source_new = Ends (λ e. e ≡ TooLarge reason) (Rose source_old source_new) ⊥ result

abbrev pub EndsLong : Ending → ℕ → ℕ → Type 0
EndsLong result source_old source_new = Ends (λ e. e ≡ TooLong) (Rose source_old source_new) ⊥ result

abbrev pub EndsNoLine : Ending → Type 0
EndsNoLine result = Ends (λ e. e ≡ NotALine) ⊥ ⊥ result

abbrev pub EndsSelf : Ending → ℕ → ℕ → Type 0
EndsSelf result sink_old sink_new = Ends (λ e. e ≡ Completed) ⊥ (Rose sink_old sink_new) result

abbrev pub EndsHelp : Ending → ℕ → ℕ → Type 0
EndsHelp result sink_old sink_new = Ends (λ e. e ≡ HelpShown) ⊥ (Rose sink_old sink_new) result

abbrev pub EndsVersion : Ending → ℕ → ℕ → Type 0
EndsVersion result sink_old sink_new = Ends (λ e. e ≡ VersionShown) ⊥ (Rose sink_old sink_new) result

abbrev pub EndsRun : Outcome → Ending → ℕ → ℕ → ℕ → ℕ → Type 0
EndsRun outcome result source_old source_new sink_old sink_new = Ends (λ e. e ≡ ending_of outcome) (Rose source_old source_new) (Rose sink_old sink_new) result

abbrev pub EndsStopped : TraceFault → Ending → ℕ → ℕ → Type 0
EndsStopped reason result source_old source_new = Ends (λ e. e ≡ stopped reason) (Rose source_old source_new) ⊥ result

abbrev pub EndsLowered : Ending → ℕ → ℕ → ℕ → ℕ → Type 0
EndsLowered result source_old source_new sink_old sink_new = Ends (λ e. e ≡ Lowered) (Rose source_old source_new) (Rose sink_old sink_new) result

abbrev pub EndsPruned : Ending → ℕ → ℕ → ℕ → ℕ → Type 0
EndsPruned result source_old source_new sink_old sink_new = Ends (λ e. e ≡ Pruned) (Rose source_old source_new) (Rose sink_old sink_new) result

abbrev pub EndsOpen : Ending → ℕ → ℕ → Type 0
EndsOpen result source_old source_new = Ends (λ e. e ≡ NotRun exec.Unfilled) (Rose source_old source_new) ⊥ result

abbrev pub EndsListed : Ending → ℕ → ℕ → ℕ → ℕ → Type 0
EndsListed result source_old source_new sink_old sink_new = Ends (λ e. e ≡ Listed) (Rose source_old source_new) (Rose sink_old sink_new) result

abbrev pub EndsExplained : Ending → ℕ → ℕ → ℕ → ℕ → Type 0
EndsExplained result source_old source_new sink_old sink_new = Ends (λ e. e ≡ Explained) (Rose source_old source_new) (Rose sink_old sink_new) result

abbrev pub EndsMet : Ending → ℕ → ℕ → ℕ → ℕ → Type 0
EndsMet result source_old source_new sink_old sink_new = Ends (λ e. e ≡ Met) (Rose source_old source_new) (Rose sink_old sink_new) result

abbrev pub EndsReply : Reply → Ending → ℕ → ℕ → ℕ → ℕ → Type 0
EndsReply reply result source_old source_new sink_old sink_new = Ends (λ e. e ≡ ending_with reply) (Rose source_old source_new) (Rose sink_old sink_new) result

abbrev pub EndsNotLowered : AdtFault → Ending → ℕ → ℕ → Type 0
EndsNotLowered reason result source_old source_new = Ends (λ e. e ≡ NotLowered reason) (Rose source_old source_new) ⊥ result

abbrev pub EndsNotTagged : Span → Ending → ℕ → ℕ → Type 0
EndsNotTagged span result source_old source_new = Ends (λ e. e ≡ NotTagged span) (Rose source_old source_new) ⊥ result

abbrev pub EndsRefused : SketchFault → Ending → ℕ → ℕ → Type 0
EndsRefused told result source_old source_new = Ends (IsOfRefused told) (Rose source_old source_new) ⊥ result

abbrev pub EndsChecked : Ending → ℕ → ℕ → ℕ → ℕ → Type 0
EndsChecked result source_old source_new sink_old sink_new = Ends IsOfVerdict (Rose source_old source_new) (Rose sink_old sink_new) result

abbrev pub EndsAccepted : Ending → ℕ → ℕ → ℕ → ℕ → Type 0
EndsAccepted result source_old source_new sink_old sink_new = Ends IsOfAccepted (Rose source_old source_new) (Rose sink_old sink_new) result

abbrev pub EndsRejected : Reason → Ending → ℕ → ℕ → ℕ → ℕ → Type 0
EndsRejected why result source_old source_new sink_old sink_new = Ends (λ e. e ≡ Rejected why) (Rose source_old source_new) (Rose sink_old sink_new) result

abbrev pub EndsNotCertificate : CertFault → Ending → ℕ → ℕ → Type 0
EndsNotCertificate told result source_old source_new = Ends (λ e. e ≡ NotCertificate told) (Rose source_old source_new) ⊥ result

abbrev pub EndsRefusedInput : CheckFault → Ending → ℕ → ℕ → Type 0
EndsRefusedInput told result source_old source_new = Ends (IsOfRefusedInput told) (Rose source_old source_new) ⊥ result
