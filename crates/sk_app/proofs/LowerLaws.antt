-- What follows for a line `lower` from what it does for its source.
use Rattle.std.proofs.Common.{◌≡◌, ℕ, ◌≤◌, ◌<◌, Bool, true, false, List, length, refl, sym, ap, subst, ◌∙◌}
use Rattle.std.specs.Prelude.{IsTrue, IfSome, Err}
use Rattle.std.proofs.lemmas.Bool.{false≢true}
use Rattle.sk_base.specs.Stream.{Rose}
use Rattle.sk_base.specs.declared.span.Span.{Span}
use Rattle.sk_opts.specs.declared.line.Set.{Set}
use Rattle.sk_adt.specs.declared.algebraic.AdtFault.{AdtFault}
use Rattle.sk_front.specs.declared.fault.SketchFault.{SketchFault}
use Rattle.sk_front.specs.declared.fault.SketchFault.TheVariants as fault
use Rattle.sk_front.specs.Texts.{most_bytes, byte_of}
use Rattle.sk_front.specs.Front.{IsCause}
use Rattle.sk_adt_text.specs.PlainTexts.{HasNoPlainForm, IsNotTagged, IsLoweredText, IsFaultOfLowering, IsPlacedFault}
use Rattle.sk_adt_text.proofs.PlainLaws.{one_reason, form_or_reason, reason_or_cause, span_or_cause, text_or_cause, one_span_of, text_or_span_of, only_lowering}
use Rattle.sk_app.specs.declared.ending.Ending.{Ending}
use Rattle.sk_app.specs.declared.ending.Ending.TheVariants as ending
use Rattle.sk_app.specs.Ends.{IsDelivered, delivered, cut, no_room, Writes, WritesPart, writes_nothing}
use Rattle.sk_app.proofs.Endings.{EndsLowered, EndsNotLowered, EndsNotTagged, EndsRefused, EndsLong}
use Rattle.sk_app.specs.Call.{Effect}
use Rattle.sk_app.specs.Effects.{refusal, LowersText, no_program, not_lowered, not_tagged, lowered, LowersSource, failed, long, wanting, whole}
use Rattle.sk_app.proofs.SourceLaws.{differ, too_long, Came as CameTo, came_failed, came_long, came_wanting, came_whole, told_of}

-- the endings of a line `lower`
abbrev pub is_of_lower : Ending → Bool
is_of_lower (ending.NotText told) = true
is_of_lower (ending.NotTyped told) = true
is_of_lower ending.Lowered = true
is_of_lower (ending.NotLowered reason) = true
is_of_lower (ending.NotTagged span) = true
is_of_lower ending.ReadFault = true
is_of_lower ending.WriteFault = true
is_of_lower ending.TooLong = true
is_of_lower ending.Memory = true
is_of_lower _ = false

module _ (set : Set) (r : Ending) (f : Effect) where
  abbrev pub Does : List ℕ → Type 0
  Does text = LowersText set text r f.write_faults_old f.write_faults_new f.held_old f.held_new

  abbrev pub Came : List ℕ → Type 0
  Came = CameTo most_bytes Does r f

  -- What an ending tells of the text, and of the streams

  abbrev pub Tells : List ℕ → Ending → Type 0
  Tells text (ending.NotText told) = IsFaultOfLowering set text (fault.NotText told) × (byte_of told ≤ length text)
  Tells text (ending.NotTyped told) = IsFaultOfLowering set text (fault.NotTyped told) × IsPlacedFault text (fault.NotTyped told)
  Tells text (ending.NotLowered reason) = HasNoPlainForm text reason
  Tells text (ending.NotTagged span) = IsNotTagged set text span
  Tells text ending.Lowered = Writes (IsLoweredText set text) f.held_old f.held_new
  Tells text ending.WriteFault = Rose f.write_faults_old f.write_faults_new × WritesPart (IsLoweredText set text) f.held_old f.held_new
  Tells text ending.ReadFault = Rose f.read_faults_old f.read_faults_new
  Tells text ending.TooLong = most_bytes < length text
  Tells text ending.Memory = Unit {0}
  Tells text _ = ⊥

  tells_refusal : (text : List ℕ) (t : SketchFault) → IsFaultOfLowering set text t → IsPlacedFault text t → Tells text (refusal t)
  tells_refusal text (fault.NotText a) i at = (i, at)
  tells_refusal text (fault.NotTyped a) i at = (i, at)
  tells_refusal text (fault.TooLarge a) i at = absurd i.holds
  tells_refusal text fault.Memory i at = tt

  tells_text : (text : List ℕ) → Does text → Tells text r
  tells_text text (no_program t i at e same) = subst (Tells text) (sym e) (tells_refusal text t i at)
  tells_text text (not_lowered reason i e same) = subst (Tells text) (sym e) i
  tells_text text (not_tagged span i e same) = subst (Tells text) (sym e) i
  tells_text text (lowered out i w) = elim w [
    | delivered is y ↦ subst (Tells text) (sym is) (record { out = out; is = i; appends = y.appends })
    | cut is y ↦ subst (Tells text) (sym is) (y.rose, record { out = out; is = i; appends = y.appends })
    | no_room is same ↦ subst (Tells text) (sym is) tt
  ]

  tells : (text : List ℕ) → Came text → Tells text r
  tells text (came_failed e rose) = subst (Tells text) (sym e) rose
  tells text (came_long e over) = subst (Tells text) (sym e) over
  tells text (came_wanting e) = subst (Tells text) (sym e) tt
  tells text (came_whole short x) = tells_text text x

  pub told_by : (P : List ℕ → Type 0) → ((text : List ℕ) → Came text → P text) → LowersSource set r f → IfSome f.left_old P
  told_by = told_of most_bytes Does r f

  -- what is told of the text where the ending is this one
  pub told_as : (x : Ending) (P : List ℕ → Type 0) → ((text : List ℕ) → Tells text x → P text) → r ≡ x → LowersSource set r f → IfSome f.left_old P
  told_as x P k e = told_by P (λ text came. k text (subst (Tells text) e (tells text came)))

  -- Whatever the text is

  told_is_of_lower : (text : List ℕ) (x : Ending) → Tells text x → is_of_lower x ≡ true
  told_is_of_lower text (ending.NotText told) h = refl
  told_is_of_lower text (ending.NotTyped told) h = refl
  told_is_of_lower text ending.Lowered h = refl
  told_is_of_lower text ending.Pruned h = absurd h
  told_is_of_lower text ending.Listed h = absurd h
  told_is_of_lower text ending.Explained h = absurd h
  told_is_of_lower text ending.Met h = absurd h
  told_is_of_lower text (ending.NotLowered reason) h = refl
  told_is_of_lower text (ending.NotTagged span) h = refl
  told_is_of_lower text ending.ReadFault h = refl
  told_is_of_lower text ending.WriteFault h = refl
  told_is_of_lower text ending.TooLong h = refl
  told_is_of_lower text ending.Memory h = refl
  told_is_of_lower text ending.Completed h = absurd h
  told_is_of_lower text (ending.NoCompletion pairs) h = absurd h
  told_is_of_lower text (ending.SpentRounds pairs best) h = absurd h
  told_is_of_lower text (ending.SpentConflicts pairs q g log best) h = absurd h
  told_is_of_lower text ending.HelpShown h = absurd h
  told_is_of_lower text ending.Accepted h = absurd h
  told_is_of_lower text (ending.Rejected why) h = absurd h
  told_is_of_lower text (ending.NotCertificate why) h = absurd h
  told_is_of_lower text ending.VersionShown h = absurd h
  told_is_of_lower text ending.ExecDone h = absurd h
  told_is_of_lower text (ending.ExecFailed span) h = absurd h
  told_is_of_lower text (ending.ExecSkipped span) h = absurd h
  told_is_of_lower text ending.NotALine h = absurd h
  told_is_of_lower text (ending.TooLarge reason) h = absurd h
  told_is_of_lower text (ending.NotRun reason) h = absurd h
  told_is_of_lower text (ending.NotFilled reason) h = absurd h

  is_of_line : LowersSource set r f → is_of_lower r ≡ true
  is_of_line (failed e rose same) = ap is_of_lower e
  is_of_line (long e over same) = ap is_of_lower e
  is_of_line (wanting e same) = ap is_of_lower e
  is_of_line (whole text w x) = told_is_of_lower text r (tells_text text x)

  pub lower_not : {A : Type 0} (x : Ending) → is_of_lower x ≡ false → LowersSource set r f → r ≡ x → A
  lower_not x b s e = differ is_of_lower x r b (is_of_line s) (sym e)

  kept_text : (text : List ℕ) → Does text → IsTrue (writes_nothing r) → f.held_new ≡ f.held_old
  kept_text text (no_program t i at e same) k = same
  kept_text text (not_lowered reason i e same) k = same
  kept_text text (not_tagged span i e same) k = same
  kept_text text (lowered out i w) k = elim w [
    | delivered is y ↦ absurd (false≢true (ap writes_nothing (sym is) ∙ k))
    | cut is y ↦ absurd (false≢true (ap writes_nothing (sym is) ∙ k))
    | no_room is same ↦ same
  ]

  pub kept_by : LowersSource set r f → IsTrue (writes_nothing r) → f.held_new ≡ f.held_old
  kept_by (failed e rose same) k = same
  kept_by (long e over same) k = same
  kept_by (wanting e same) k = same
  kept_by (whole text w x) k = kept_text text x k

  pub read_fault_by : LowersSource set r f → r ≡ ending.ReadFault → Rose f.read_faults_old f.read_faults_new
  read_fault_by (failed e rose same) q = rose
  read_fault_by (long e over same) q = let z = sym e ∙ q in cc
  read_fault_by (wanting e same) q = let z = sym e ∙ q in cc
  read_fault_by (whole text w x) q = subst (Tells text) q (tells_text text x)

  pub write_fault_by : LowersSource set r f → r ≡ ending.WriteFault → Rose f.write_faults_old f.write_faults_new
  write_fault_by (failed e rose same) q = let z = sym e ∙ q in cc
  write_fault_by (long e over same) q = let z = sym e ∙ q in cc
  write_fault_by (wanting e same) q = let z = sym e ∙ q in cc
  write_fault_by (whole text w x) q = (subst (Tells text) q (tells_text text x)).0

  -- Clauses that follow from the text

  -- The endings that there are for a text that is not too long, where each of what may hold of it allows its own.
  module _ (text : List ℕ) (P : Ending → Type 0) (memory : P ending.Memory) (read : Rose f.read_faults_old f.read_faults_new → P ending.ReadFault) where
    by_cause : ((t : SketchFault) → IsCause (IsFaultOfLowering set text) t → P (refusal t)) → (t : SketchFault) → IsFaultOfLowering set text t → P (refusal t)
    by_cause k (fault.NotText a) i = k (fault.NotText a) i
    by_cause k (fault.NotTyped a) i = k (fault.NotTyped a) i
    by_cause k (fault.TooLarge a) i = k (fault.TooLarge a) i
    by_cause k fault.Memory i = memory

    by_writing : (out : List ℕ) → P ending.Lowered × (Rose f.write_faults_old f.write_faults_new → P ending.WriteFault) → IsDelivered r ending.Lowered out f.write_faults_old f.write_faults_new f.held_old f.held_new → P r
    by_writing out k w = elim w [ delivered is y ↦ subst P (sym is) k.0 | cut is y ↦ subst P (sym is) (k.1 y.rose) | no_room is same ↦ subst P (sym is) memory ]

    ends : ((t : SketchFault) → IsCause (IsFaultOfLowering set text) t → P (refusal t)) → ((a : AdtFault) → HasNoPlainForm text a → P (ending.NotLowered a)) → ((s : Span) → IsNotTagged set text s → P (ending.NotTagged s)) → ((out : List ℕ) → IsLoweredText set text out → P ending.Lowered × (Rose f.write_faults_old f.write_faults_new → P ending.WriteFault)) → length text ≤ most_bytes → Came text → P r
    ends cause reason span written fits (came_failed e rose) = subst P (sym e) (read rose)
    ends cause reason span written fits (came_long e over) = too_long text fits over
    ends cause reason span written fits (came_wanting e) = subst P (sym e) memory
    ends cause reason span written fits (came_whole short (no_program t i at e same)) = subst P (sym e) (by_cause cause t i)
    ends cause reason span written fits (came_whole short (not_lowered a i e same)) = subst P (sym e) (reason a i)
    ends cause reason span written fits (came_whole short (not_tagged s i e same)) = subst P (sym e) (span s i)
    ends cause reason span written fits (came_whole short (lowered out i w)) = by_writing out (written out i) w

  pub ends_lowered_by : (text : List ℕ) → Came text → (out : List ℕ) → IsLoweredText set text out → EndsLowered r f.read_faults_old f.read_faults_new f.write_faults_old f.write_faults_new
  ends_lowered_by text came out is =
      ends text (λ x. EndsLowered x f.read_faults_old f.read_faults_new f.write_faults_old f.write_faults_new) tt (λ rose. rose)
      (λ t cause. absurd (text_or_cause set text out t is cause))
      (λ a i. absurd (form_or_reason text is.form a is.is_form i))
      (λ s i. absurd (text_or_span_of set text out s is i))
      (λ other i. (refl, λ rose. rose))
      is.is_form.short came

  pub ends_not_lowered_by : (text : List ℕ) → Came text → (reason : AdtFault) → HasNoPlainForm text reason → EndsNotLowered reason r f.read_faults_old f.read_faults_new
  ends_not_lowered_by text came reason is =
      ends text (λ x. EndsNotLowered reason x f.read_faults_old f.read_faults_new) tt (λ rose. rose)
      (λ t cause. absurd (reason_or_cause set text reason t is cause))
      (λ a i. ap ending.NotLowered (one_reason text a reason i is))
      (λ s i. absurd (form_or_reason text i.form reason i.is_form is))
      (λ out i. absurd (form_or_reason text i.form reason i.is_form is))
      is.short came

  pub ends_not_tagged_by : (text : List ℕ) → Came text → (span : Span) → IsNotTagged set text span → EndsNotTagged span r f.read_faults_old f.read_faults_new
  ends_not_tagged_by text came span is =
      ends text (λ x. EndsNotTagged span x f.read_faults_old f.read_faults_new) tt (λ rose. rose)
      (λ t cause. absurd (span_or_cause set text span t is cause))
      (λ a i. absurd (form_or_reason text is.form a is.is_form i))
      (λ s i. ap ending.NotTagged (one_span_of set text s span i is))
      (λ out i. absurd (text_or_span_of set text out span i is))
      is.is_form.short came

  as_refused : (text : List ℕ) (told t : SketchFault) → IsCause (IsFaultOfLowering set text) told → IsCause (IsFaultOfLowering set text) t → EndsRefused told (refusal t) f.read_faults_old f.read_faults_new
  as_refused text told (fault.NotText a) cause i = only_lowering set text (Err (fault.NotText a)) tt i told cause
  as_refused text told (fault.NotTyped a) cause i = only_lowering set text (Err (fault.NotTyped a)) tt i told cause
  as_refused text told (fault.TooLarge a) cause i = absurd i.holds
  as_refused text told fault.Memory cause i = absurd i

  pub ends_refused_by : (text : List ℕ) → Came text → length text ≤ most_bytes → (told : SketchFault) → IsCause (IsFaultOfLowering set text) told → EndsRefused told r f.read_faults_old f.read_faults_new
  ends_refused_by text came fits told cause =
      ends text (λ x. EndsRefused told x f.read_faults_old f.read_faults_new) tt (λ rose. rose)
      (λ t i. as_refused text told t cause i)
      (λ a i. absurd (reason_or_cause set text a told i cause))
      (λ s i. absurd (span_or_cause set text s told i cause))
      (λ out i. absurd (text_or_cause set text out told i cause))
      fits came

  pub ends_long_by : (text : List ℕ) → Came text → most_bytes < length text → EndsLong r f.read_faults_old f.read_faults_new
  ends_long_by text (came_failed e rose) over = subst (λ x. EndsLong x f.read_faults_old f.read_faults_new) (sym e) rose
  ends_long_by text (came_long e l) over = subst (λ x. EndsLong x f.read_faults_old f.read_faults_new) (sym e) refl
  ends_long_by text (came_wanting e) over = subst (λ x. EndsLong x f.read_faults_old f.read_faults_new) (sym e) tt
  ends_long_by text (came_whole short x) over = too_long text short over
