-- What follows for a line `check` from what it does for its source.
use Rattle.std.proofs.Common.{◌≡◌, ℕ, ◌≤◌, ◌<◌, ◌⊎◌, inl, inr, Bool, true, false, List, ◌++◌, length, refl, sym, ap, subst, ◌∙◌, arith}
use Rattle.std.specs.Prelude.{IsTrue, IfSome, Result, Ok, Err, IfOk, IfErr, MatchResult}
use Rattle.std.proofs.lemmas.Bool.{false≢true}
use Rattle.std.proofs.lemmas.List.{length-append}
use Rattle.sk_base.specs.Stream.{Rose}
use Rattle.sk_opts.specs.declared.line.Set.{Set}
use Rattle.sk_front.specs.declared.fault.TextFault.{TextFault}
use Rattle.sk_front.specs.declared.fault.SketchFault.{SketchFault}
use Rattle.sk_front.specs.declared.fault.SketchFault.TheVariants as fault
use Rattle.sk_front.specs.Texts.{most_bytes, byte_of}
use Rattle.sk_app_texts.specs.CheckTexts.{accepted_text, rejected_text}
use Rattle.sk_cert.specs.declared.fault.CertFault.{CertFault}
use Rattle.sk_check_laws.specs.declared.reason.Reason.{Reason}
use Rattle.sk_check_laws.specs.Rejected.{part_number}
use Rattle.sk_check_text.specs.declared.checking.Checked.{Checked}
use Rattle.sk_check_text.specs.declared.checking.Checked.TheVariants as checked
use Rattle.sk_check_text.specs.declared.fault.CheckFault.{CheckFault}
use Rattle.sk_check_text.specs.declared.fault.CheckFault.TheVariants as check
use Rattle.sk_check_text.specs.Splitting.{Splits}
use Rattle.sk_check_text.specs.Checking.{OfParts, TakesSketch, IsAccepted, IsRejectedFor, IsSomeCertificate, IsNone, IsChecked, IsFaultOfCheck, IsPlacedFault, IsCause, IsMemory, IsToldAs, IsVerdict, IsAcceptedButFormulas}
use Rattle.sk_check_text.proofs.Answered.{only_checked, verdict_taken, accepted_taken, rejected_taken, none_taken}
use Rattle.sk_app.specs.Checks.{most_input, IsTooLongInput, told_reason, IsVerdictText, accepts, rejects}
use Rattle.sk_app.specs.declared.ending.Ending.{Ending}
use Rattle.sk_app.specs.declared.ending.Ending.TheVariants as ending
use Rattle.sk_app.specs.Ends.{IsDelivered, delivered, cut, no_room, Writes, WritesPart, writes_nothing}
use Rattle.sk_app_reading.specs.Streams.{Appends}
use Rattle.sk_app.proofs.Endings.{EndsChecked, EndsAccepted, EndsRejected, EndsNotCertificate, EndsRefusedInput, EndsLong}
use Rattle.sk_app.specs.Call.{Effect}
use Rattle.sk_app.specs.Effects.{refusal, refused_input, IsRejectedText, rejection_told, rejection_wanting, ChecksInput, unsaid, no_certificate, accepted, rejected, ChecksSource, failed, long, wanting, whole}
use Rattle.sk_app.proofs.SourceLaws.{differ, Came as CameTo, came_failed, came_long, came_wanting, came_whole, told_of}

-- the endings of a line `check`
abbrev pub is_of_check : Ending → Bool
is_of_check (ending.NotText told) = true
is_of_check (ending.NotTyped told) = true
is_of_check (ending.TooLarge reason) = true
is_of_check ending.Accepted = true
is_of_check (ending.Rejected why) = true
is_of_check (ending.NotCertificate why) = true
is_of_check ending.ReadFault = true
is_of_check ending.WriteFault = true
is_of_check ending.TooLong = true
is_of_check ending.Memory = true
is_of_check _ = false

-- The sketch of an input is no longer than the input.

sketch_within : (input sketch behind : List ℕ) → Splits input sketch behind → length sketch ≤ length input
sketch_within input sketch behind (inl at) =
    let m = at.mark in
    omega (arith, ap length m.is, length-append sketch m.rest)
sketch_within input sketch behind (inr none) = omega (arith, ap length none.all)

pub long_within : (input : List ℕ) → IsTooLongInput input → most_bytes < length input
long_within input (inl over) = omega (arith, over)
long_within input (inr parts) = omega (arith, parts.holds, sketch_within input parts.sketch parts.behind parts.splits)

pub byte_within_input : (input : List ℕ) (f : TextFault) → IsPlacedFault input (check.Sketch (fault.NotText f)) → byte_of f ≤ length input
byte_within_input input f parts = omega (arith, parts.holds, sketch_within input parts.sketch parts.behind parts.splits)

-- how the line ends for what is said of its input
abbrev ending_of_result : Result Checked CheckFault → Ending
ending_of_result (Ok checked.Accepted) = ending.Accepted
ending_of_result (Ok (checked.Rejected why)) = ending.Rejected why
ending_of_result (Ok (checked.NotCertificate why)) = ending.NotCertificate why
ending_of_result (Err told) = refused_input told

module _ (set : Set) (r : Ending) (f : Effect) where
  abbrev pub Does : List ℕ → Type 0
  Does input = ChecksInput set input r f.write_faults_old f.write_faults_new f.held_old f.held_new

  abbrev pub Came : List ℕ → Type 0
  Came = CameTo most_input Does r f

  -- What an ending tells of the input, and of the streams

  abbrev pub Tells : List ℕ → Ending → Type 0
  Tells input (ending.NotText told) = IsFaultOfCheck set input (check.Sketch (fault.NotText told)) × IsPlacedFault input (check.Sketch (fault.NotText told))
  Tells input (ending.NotTyped told) = IsFaultOfCheck set input (check.Sketch (fault.NotTyped told)) × IsPlacedFault input (check.Sketch (fault.NotTyped told))
  Tells input (ending.TooLarge reason) = IsFaultOfCheck set input (check.Sketch (fault.TooLarge reason))
  Tells input ending.Accepted = IsChecked set input checked.Accepted × Appends accepted_text f.held_old f.held_new
  Tells input (ending.Rejected why) = IsChecked set input (checked.Rejected why) × Appends (rejected_text (told_reason why)) f.held_old f.held_new
  Tells input (ending.NotCertificate why) = IsChecked set input (checked.NotCertificate why)
  Tells input ending.WriteFault = Rose f.write_faults_old f.write_faults_new × WritesPart (IsVerdictText set input) f.held_old f.held_new
  Tells input ending.ReadFault = Rose f.read_faults_old f.read_faults_new
  Tells input ending.TooLong = IsTooLongInput input
  Tells input ending.Memory = Unit {0}
  Tells input _ = ⊥

  tells_refusal : (input : List ℕ) (t : CheckFault) → IsFaultOfCheck set input t → IsPlacedFault input t → Tells input (refused_input t)
  tells_refusal input check.TooLong i at = inr i
  tells_refusal input (check.Sketch (fault.NotText a)) i at = (i, at)
  tells_refusal input (check.Sketch (fault.NotTyped a)) i at = (i, at)
  tells_refusal input (check.Sketch (fault.TooLarge a)) i at = i
  tells_refusal input (check.Sketch fault.Memory) i at = tt

  tells_rejection : (input : List ℕ) (why : Reason) → IsChecked set input (checked.Rejected why) → IsRejectedText why r f.write_faults_old f.write_faults_new f.held_old f.held_new → Tells input r
  tells_rejection input why i (rejection_told w) = elim w [
    | delivered is y ↦ subst (Tells input) (sym is) (i, y.appends)
    | cut is y ↦ subst (Tells input) (sym is) (y.rose, record { out = rejected_text (told_reason why); is = rejects why i refl; appends = y.appends })
    | no_room is same ↦ subst (Tells input) (sym is) tt
  ]
  tells_rejection input why i (rejection_wanting e same) = subst (Tells input) (sym e) tt

  tells_input : (input : List ℕ) → Does input → Tells input r
  tells_input input (unsaid t i at e same) = subst (Tells input) (sym e) (tells_refusal input t i at)
  tells_input input (no_certificate why i e same) = subst (Tells input) (sym e) i
  tells_input input (accepted i w) = elim w [
    | delivered is y ↦ subst (Tells input) (sym is) (i, y.appends)
    | cut is y ↦ subst (Tells input) (sym is) (y.rose, record { out = accepted_text; is = accepts i refl; appends = y.appends })
    | no_room is same ↦ subst (Tells input) (sym is) tt
  ]
  tells_input input (rejected why i w) = tells_rejection input why i w

  tells : (input : List ℕ) → Came input → Tells input r
  tells input (came_failed e rose) = subst (Tells input) (sym e) rose
  tells input (came_long e over) = subst (Tells input) (sym e) (inl over)
  tells input (came_wanting e) = subst (Tells input) (sym e) tt
  tells input (came_whole short x) = tells_input input x

  pub told_by : (P : List ℕ → Type 0) → ((input : List ℕ) → Came input → P input) → ChecksSource set r f → IfSome f.left_old P
  told_by = told_of most_input Does r f

  -- what is told of the input where the ending is this one
  pub told_as : (x : Ending) (P : List ℕ → Type 0) → ((input : List ℕ) → Tells input x → P input) → r ≡ x → ChecksSource set r f → IfSome f.left_old P
  told_as x P k e = told_by P (λ input came. k input (subst (Tells input) e (tells input came)))

  pub long_by : (input : List ℕ) → Came input → r ≡ ending.TooLong → IsTooLongInput input
  long_by input came e = subst (Tells input) e (tells input came)

  -- Whatever the input is

  told_is_of_check : (input : List ℕ) (x : Ending) → Tells input x → is_of_check x ≡ true
  told_is_of_check input (ending.NotText told) h = refl
  told_is_of_check input (ending.NotTyped told) h = refl
  told_is_of_check input (ending.TooLarge reason) h = refl
  told_is_of_check input ending.Accepted h = refl
  told_is_of_check input (ending.Rejected why) h = refl
  told_is_of_check input (ending.NotCertificate why) h = refl
  told_is_of_check input ending.ReadFault h = refl
  told_is_of_check input ending.WriteFault h = refl
  told_is_of_check input ending.TooLong h = refl
  told_is_of_check input ending.Memory h = refl
  told_is_of_check input ending.Lowered h = absurd h
  told_is_of_check input ending.Pruned h = absurd h
  told_is_of_check input ending.Listed h = absurd h
  told_is_of_check input ending.Explained h = absurd h
  told_is_of_check input ending.Met h = absurd h
  told_is_of_check input (ending.NotLowered reason) h = absurd h
  told_is_of_check input (ending.NotTagged span) h = absurd h
  told_is_of_check input ending.Completed h = absurd h
  told_is_of_check input (ending.NoCompletion pairs) h = absurd h
  told_is_of_check input (ending.SpentRounds pairs best) h = absurd h
  told_is_of_check input (ending.SpentConflicts pairs q g log best) h = absurd h
  told_is_of_check input ending.HelpShown h = absurd h
  told_is_of_check input ending.VersionShown h = absurd h
  told_is_of_check input ending.ExecDone h = absurd h
  told_is_of_check input (ending.ExecFailed span) h = absurd h
  told_is_of_check input (ending.ExecSkipped span) h = absurd h
  told_is_of_check input ending.NotALine h = absurd h
  told_is_of_check input (ending.NotRun reason) h = absurd h
  told_is_of_check input (ending.NotFilled reason) h = absurd h

  is_of_line : ChecksSource set r f → is_of_check r ≡ true
  is_of_line (failed e rose same) = ap is_of_check e
  is_of_line (long e over same) = ap is_of_check e
  is_of_line (wanting e same) = ap is_of_check e
  is_of_line (whole input w x) = told_is_of_check input r (tells_input input x)

  pub check_not : {A : Type 0} (x : Ending) → is_of_check x ≡ false → ChecksSource set r f → r ≡ x → A
  check_not x b s e = differ is_of_check x r b (is_of_line s) (sym e)

  kept_written : (done : Ending) (out : List ℕ) → writes_nothing done ≡ false → IsDelivered r done out f.write_faults_old f.write_faults_new f.held_old f.held_new → IsTrue (writes_nothing r) → f.held_new ≡ f.held_old
  kept_written done out b w k = elim w [
    | delivered is y ↦ absurd (false≢true (sym b ∙ ap writes_nothing (sym is) ∙ k))
    | cut is y ↦ absurd (false≢true (ap writes_nothing (sym is) ∙ k))
    | no_room is same ↦ same
  ]

  kept_rejection : (why : Reason) → IsRejectedText why r f.write_faults_old f.write_faults_new f.held_old f.held_new → IsTrue (writes_nothing r) → f.held_new ≡ f.held_old
  kept_rejection why (rejection_told w) k = kept_written (ending.Rejected why) (rejected_text (told_reason why)) refl w k
  kept_rejection why (rejection_wanting e same) k = same

  kept_input : (input : List ℕ) → Does input → IsTrue (writes_nothing r) → f.held_new ≡ f.held_old
  kept_input input (unsaid t i at e same) k = same
  kept_input input (no_certificate why i e same) k = same
  kept_input input (accepted i w) k = kept_written ending.Accepted accepted_text refl w k
  kept_input input (rejected why i w) k = kept_rejection why w k

  pub kept_by : ChecksSource set r f → IsTrue (writes_nothing r) → f.held_new ≡ f.held_old
  kept_by (failed e rose same) k = same
  kept_by (long e over same) k = same
  kept_by (wanting e same) k = same
  kept_by (whole input w x) k = kept_input input x k

  pub read_fault_by : ChecksSource set r f → r ≡ ending.ReadFault → Rose f.read_faults_old f.read_faults_new
  read_fault_by (failed e rose same) q = rose
  read_fault_by (long e over same) q = let z = sym e ∙ q in cc
  read_fault_by (wanting e same) q = let z = sym e ∙ q in cc
  read_fault_by (whole input w x) q = subst (Tells input) q (tells_input input x)

  pub write_fault_by : ChecksSource set r f → r ≡ ending.WriteFault → Rose f.write_faults_old f.write_faults_new
  write_fault_by (failed e rose same) q = let z = sym e ∙ q in cc
  write_fault_by (long e over same) q = let z = sym e ∙ q in cc
  write_fault_by (wanting e same) q = let z = sym e ∙ q in cc
  write_fault_by (whole input w x) q = (subst (Tells input) q (tells_input input x)).0

  -- Clauses that follow from the input

  -- The endings that there are for an input, where what may be said of it allows its own.
  module _ (input : List ℕ) (P : Ending → Type 0) (memory : P ending.Memory) (read : Rose f.read_faults_old f.read_faults_new → P ending.ReadFault) (said : (s : Result Checked CheckFault) → IfOk s (IsChecked set input) → IfErr s (IsFaultOfCheck set input) → P (ending_of_result s)) (accepts_cut : P ending.Accepted → Rose f.write_faults_old f.write_faults_new → P ending.WriteFault) (rejects_cut : (why : Reason) → P (ending.Rejected why) → Rose f.write_faults_old f.write_faults_new → P ending.WriteFault) where
    by_writing : (done : Ending) (out : List ℕ) → P done → (Rose f.write_faults_old f.write_faults_new → P ending.WriteFault) → IsDelivered r done out f.write_faults_old f.write_faults_new f.held_old f.held_new → P r
    by_writing done out p k w = elim w [ delivered is y ↦ subst P (sym is) p | cut is y ↦ subst P (sym is) (k y.rose) | no_room is same ↦ subst P (sym is) memory ]

    by_rejection : (why : Reason) → P (ending.Rejected why) → IsRejectedText why r f.write_faults_old f.write_faults_new f.held_old f.held_new → P r
    by_rejection why p (rejection_told w) = by_writing (ending.Rejected why) (rejected_text (told_reason why)) p (rejects_cut why p) w
    by_rejection why p (rejection_wanting e same) = subst P (sym e) memory

    pub ends : length input ≤ most_input → Came input → P r
    ends fits (came_failed e rose) = subst P (sym e) (read rose)
    ends fits (came_long e l) = absurd (omega (arith, fits, l))
    ends fits (came_wanting e) = subst P (sym e) memory
    ends fits (came_whole short (unsaid t i at e same)) = subst P (sym e) (said (Err t) tt i)
    ends fits (came_whole short (no_certificate why i e same)) = subst P (sym e) (said (Ok (checked.NotCertificate why)) i tt)
    ends fits (came_whole short (accepted i w)) = let p = said (Ok checked.Accepted) i tt in by_writing ending.Accepted accepted_text p (accepts_cut p) w
    ends fits (came_whole short (rejected why i w)) = by_rejection why (said (Ok (checked.Rejected why)) i tt) w

  -- what is said of an input where it is refused for want of memory alone
  by_match : (P : Ending → Type 0) (That : Checked → Type 0) → P ending.Memory → ((a : Checked) → That a → P (ending_of_result (Ok a))) → (s : Result Checked CheckFault) → MatchResult s That IsMemory → P (ending_of_result s)
  by_match P That memory k (Ok a) h = k a h
  by_match P That memory k (Err check.TooLong) h = absurd h
  by_match P That memory k (Err (check.Sketch (fault.NotText a))) h = absurd h
  by_match P That memory k (Err (check.Sketch (fault.NotTyped a))) h = absurd h
  by_match P That memory k (Err (check.Sketch (fault.TooLarge a))) h = absurd h
  by_match P That memory k (Err (check.Sketch fault.Memory)) h = memory

  verdict_ends : (a : Checked) → IsVerdict a → EndsChecked (ending_of_result (Ok a)) f.read_faults_old f.read_faults_new f.write_faults_old f.write_faults_new
  verdict_ends checked.Accepted h = tt
  verdict_ends (checked.Rejected why) h = tt
  verdict_ends (checked.NotCertificate why) h = absurd h

  accepted_ends : (a : Checked) → IsAcceptedButFormulas a → EndsAccepted (ending_of_result (Ok a)) f.read_faults_old f.read_faults_new f.write_faults_old f.write_faults_new
  accepted_ends checked.Accepted h = tt
  accepted_ends (checked.Rejected why) h = h
  accepted_ends (checked.NotCertificate why) h = absurd h

  pub ends_checked_by : (input : List ℕ) → Came input → length input ≤ most_input → TakesSketch set input IsSomeCertificate → EndsChecked r f.read_faults_old f.read_faults_new f.write_faults_old f.write_faults_new
  ends_checked_by input came fits is =
      ends input (λ x. EndsChecked x f.read_faults_old f.read_faults_new f.write_faults_old f.write_faults_new) tt (λ rose. rose)
      (λ s found i. by_match (λ x. EndsChecked x f.read_faults_old f.read_faults_new f.write_faults_old f.write_faults_new) IsVerdict tt verdict_ends s (verdict_taken set input s found i is))
      (λ p rose. rose) (λ why p rose. rose) fits came

  pub ends_accepted_by : (input : List ℕ) → Came input → length input ≤ most_input → TakesSketch set input IsAccepted → EndsAccepted r f.read_faults_old f.read_faults_new f.write_faults_old f.write_faults_new
  ends_accepted_by input came fits is =
      ends input (λ x. EndsAccepted x f.read_faults_old f.read_faults_new f.write_faults_old f.write_faults_new) tt (λ rose. rose)
      (λ s found i. by_match (λ x. EndsAccepted x f.read_faults_old f.read_faults_new f.write_faults_old f.write_faults_new) IsAcceptedButFormulas tt accepted_ends s (accepted_taken set input s found i is))
      (λ p rose. rose) (λ why p rose. rose) fits came

  pub ends_rejected_by : (input : List ℕ) → Came input → length input ≤ most_input → (why : Reason) → part_number why < 6 → TakesSketch set input (IsRejectedFor why) → EndsRejected why r f.read_faults_old f.read_faults_new f.write_faults_old f.write_faults_new
  ends_rejected_by input came fits why small is =
      ends input (λ x. EndsRejected why x f.read_faults_old f.read_faults_new f.write_faults_old f.write_faults_new) tt (λ rose. rose)
      (λ s found i. by_match (λ x. EndsRejected why x f.read_faults_old f.read_faults_new f.write_faults_old f.write_faults_new) (λ a. a ≡ checked.Rejected why) tt (λ a e. subst (λ b. EndsRejected why (ending_of_result (Ok b)) f.read_faults_old f.read_faults_new f.write_faults_old f.write_faults_new) (sym e) refl) s (rejected_taken set input s found i why small is))
      (λ p rose. rose) (λ other p rose. rose) fits came

  pub ends_not_certificate_by : (input : List ℕ) → Came input → length input ≤ most_input → (why : CertFault) → TakesSketch set input (IsNone why) → EndsNotCertificate why r f.read_faults_old f.read_faults_new
  ends_not_certificate_by input came fits why is =
      ends input (λ x. EndsNotCertificate why x f.read_faults_old f.read_faults_new) tt (λ rose. rose)
      (λ s found i. by_match (λ x. EndsNotCertificate why x f.read_faults_old f.read_faults_new) (λ a. a ≡ checked.NotCertificate why) tt (λ a e. subst (λ b. EndsNotCertificate why (ending_of_result (Ok b)) f.read_faults_old f.read_faults_new) (sym e) refl) s (none_taken set input s found i why is))
      (λ p rose. cc) (λ other p rose. cc) fits came

  -- an input that is refused for a cause ends as it
  as_refused : (told : CheckFault) (s : Result Checked CheckFault) → MatchResult s (λ a. ⊥) (IsToldAs told) → EndsRefusedInput told (ending_of_result s) f.read_faults_old f.read_faults_new
  as_refused told (Ok a) h = absurd h
  as_refused told (Err check.TooLong) h = h
  as_refused told (Err (check.Sketch (fault.NotText a))) h = h
  as_refused told (Err (check.Sketch (fault.NotTyped a))) h = h
  as_refused told (Err (check.Sketch (fault.TooLarge a))) h = h
  as_refused told (Err (check.Sketch fault.Memory)) h = tt

  pub ends_refused_by : (input : List ℕ) → Came input → length input ≤ most_input → (told : CheckFault) → IsCause set input told → EndsRefusedInput told r f.read_faults_old f.read_faults_new
  ends_refused_by input came fits told cause =
      ends input (λ x. EndsRefusedInput told x f.read_faults_old f.read_faults_new) tt (λ rose. rose)
      (λ s found i. as_refused told s (only_checked set input s found i told cause))
      (λ p rose. absurd p) (λ why p rose. absurd p) fits came

  long_said : (s : Result Checked CheckFault) → MatchResult s (λ a. ⊥) (IsToldAs check.TooLong) → EndsLong (ending_of_result s) f.read_faults_old f.read_faults_new
  long_said (Ok a) h = absurd h
  long_said (Err check.TooLong) h = refl
  long_said (Err (check.Sketch (fault.NotText a))) h = absurd h
  long_said (Err (check.Sketch (fault.NotTyped a))) h = absurd h
  long_said (Err (check.Sketch (fault.TooLarge a))) h = absurd h
  long_said (Err (check.Sketch fault.Memory)) h = tt

  pub ends_long_by : (input : List ℕ) → Came input → IsTooLongInput input → EndsLong r f.read_faults_old f.read_faults_new
  ends_long_by input (came_failed e rose) over = subst (λ x. EndsLong x f.read_faults_old f.read_faults_new) (sym e) rose
  ends_long_by input (came_long e l) over = subst (λ x. EndsLong x f.read_faults_old f.read_faults_new) (sym e) refl
  ends_long_by input (came_wanting e) over = subst (λ x. EndsLong x f.read_faults_old f.read_faults_new) (sym e) tt
  ends_long_by input (came_whole short x) (inl over) = absurd (omega (arith, short, over))
  ends_long_by input (came_whole short x) (inr parts) =
      ends input (λ x. EndsLong x f.read_faults_old f.read_faults_new) tt (λ rose. rose)
      (λ s found i. long_said s (only_checked set input s found i check.TooLong parts))
      (λ p rose. cc) (λ why p rose. cc) short (came_whole short x)
