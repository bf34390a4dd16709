-- What follows for a line `prune` from what it does for its source.
use Rattle.std.proofs.Common.{◌≡◌, ℕ, ◌≤◌, ◌<◌, Bool, true, false, List, length, refl, sym, ap, subst, ◌∙◌}
use Rattle.std.specs.Prelude.{IsTrue, IfSome, Err}
use Rattle.std.proofs.lemmas.Bool.{false≢true}
use Rattle.sk_base.specs.Stream.{Rose}
use Rattle.sk_opts.specs.declared.line.Set.{Set}
use Rattle.sk_types_laws.specs.declared.fault.TypeFault.{TypeFault}
use Rattle.sk_expand_sizes.specs.declared.fault.SizeFault.{SizeFault}
use Rattle.sk_expand_sizes.specs.declared.fault.SizeFault.TheVariants as size
use Rattle.sk_exec.specs.declared.fault.ExecFault.TheVariants as exec
use Rattle.sk_front.specs.declared.fault.TextFault.{TextFault}
use Rattle.sk_front.specs.declared.fault.SketchFault.{SketchFault}
use Rattle.sk_front.specs.declared.fault.SketchFault.TheVariants as fault
use Rattle.sk_front.specs.Texts.{most_bytes, HasSpan, IsTextFault}
use Rattle.sk_front.specs.Front.{IsUntyped, IsTooLarge, IsFaultOfExpansion, IsPlacedFault, IsCause, IsToldAs}
use Rattle.sk_front.proofs.FrontLaws.{only_expansion}
use Rattle.sk_prune_text.specs.PrunedTexts.{IsOpenText, IsPrunedText}
use Rattle.sk_prune_text.proofs.TextLaws.{open_or_pruned, no_cause_of_open, no_cause_of_pruned}
use Rattle.sk_app.specs.declared.ending.Ending.{Ending}
use Rattle.sk_app.specs.declared.ending.Ending.TheVariants as ending
use Rattle.sk_app.specs.Ends.{IsDelivered, delivered, cut, no_room, Writes, WritesPart, writes_nothing}
use Rattle.sk_app.proofs.Endings.{EndsPruned, EndsOpen, EndsFaulty, EndsUntyped, EndsLarge, EndsLong}
use Rattle.sk_app.specs.Call.{Effect}
use Rattle.sk_app.specs.Effects.{refusal, is_of_expansion, PrunesText, unexpanded, unfilled, pruned, PrunesSource, failed, long, wanting, whole}
use Rattle.sk_app.proofs.SourceLaws.{differ, too_long, Came as CameTo, came_failed, came_long, came_wanting, came_whole, told_of}

-- the endings of a line `prune`
abbrev pub is_of_prune : Ending → Bool
is_of_prune (ending.NotText told) = true
is_of_prune (ending.NotTyped told) = true
is_of_prune (ending.TooLarge reason) = true
is_of_prune (ending.NotRun reason) = true
is_of_prune ending.Pruned = true
is_of_prune ending.ReadFault = true
is_of_prune ending.WriteFault = true
is_of_prune ending.TooLong = true
is_of_prune ending.Memory = true
is_of_prune _ = false

module _ (set : Set) (r : Ending) (f : Effect) where
  abbrev pub Does : List ℕ → Type 0
  Does text = PrunesText set text r f.write_faults_old f.write_faults_new f.held_old f.held_new

  abbrev pub Came : List ℕ → Type 0
  Came = CameTo most_bytes Does r f

  -- What an ending tells of the text, and of the streams

  abbrev pub Tells : List ℕ → Ending → Type 0
  Tells text (ending.NotText told) = IsTextFault told text
  Tells text (ending.NotTyped told) = IsUntyped set text × HasSpan text told.span
  Tells text (ending.TooLarge reason) = IsTooLarge set text reason
  Tells text (ending.NotRun reason) = (reason ≡ exec.Unfilled) × IsOpenText set text
  Tells text ending.Pruned = Writes (IsPrunedText set text) f.held_old f.held_new
  Tells text ending.WriteFault = Rose f.write_faults_old f.write_faults_new × WritesPart (IsPrunedText set text) f.held_old f.held_new
  Tells text ending.ReadFault = Rose f.read_faults_old f.read_faults_new
  Tells text ending.TooLong = most_bytes < length text
  Tells text ending.Memory = Unit {0}
  Tells text _ = ⊥

  tells_refusal : (text : List ℕ) (t : SketchFault) → IsFaultOfExpansion set text t → IsPlacedFault text t → Tells text (refusal t)
  tells_refusal text (fault.NotText a) i at = i
  tells_refusal text (fault.NotTyped a) i at = (i, at)
  tells_refusal text (fault.TooLarge size.Copies) i at = i
  tells_refusal text (fault.TooLarge size.Sites) i at = i
  tells_refusal text (fault.TooLarge size.Steps) i at = absurd i
  tells_refusal text (fault.TooLarge size.News) i at = absurd i
  tells_refusal text (fault.TooLarge size.Memory) i at = absurd i
  tells_refusal text fault.Memory i at = tt

  tells_text : (text : List ℕ) → Does text → Tells text r
  tells_text text (unexpanded t i at e same) = subst (Tells text) (sym e) (tells_refusal text t i at)
  tells_text text (unfilled i e same) = subst (Tells text) (sym e) (refl, i)
  tells_text text (pruned out i w) = elim w [
    | delivered is y ↦ subst (Tells text) (sym is) (record { out = out; is = i; appends = y.appends })
    | cut is y ↦ subst (Tells text) (sym is) (y.rose, record { out = out; is = i; appends = y.appends })
    | no_room is same ↦ subst (Tells text) (sym is) tt
  ]

  tells : (text : List ℕ) → Came text → Tells text r
  tells text (came_failed e rose) = subst (Tells text) (sym e) rose
  tells text (came_long e over) = subst (Tells text) (sym e) over
  tells text (came_wanting e) = subst (Tells text) (sym e) tt
  tells text (came_whole short x) = tells_text text x

  pub told_by : (P : List ℕ → Type 0) → ((text : List ℕ) → Came text → P text) → PrunesSource set r f → IfSome f.left_old P
  told_by = told_of most_bytes Does r f

  -- what is told of the text where the ending is this one
  pub told_as : (x : Ending) (P : List ℕ → Type 0) → ((text : List ℕ) → Tells text x → P text) → r ≡ x → PrunesSource set r f → IfSome f.left_old P
  told_as x P k e = told_by P (λ text came. k text (subst (Tells text) e (tells text came)))

  -- Whatever the text is

  told_is_of_prune : (text : List ℕ) (x : Ending) → Tells text x → is_of_prune x ≡ true
  told_is_of_prune text (ending.NotText told) h = refl
  told_is_of_prune text (ending.NotTyped told) h = refl
  told_is_of_prune text (ending.TooLarge reason) h = refl
  told_is_of_prune text (ending.NotRun reason) h = refl
  told_is_of_prune text ending.Pruned h = refl
  told_is_of_prune text ending.ReadFault h = refl
  told_is_of_prune text ending.WriteFault h = refl
  told_is_of_prune text ending.TooLong h = refl
  told_is_of_prune text ending.Memory h = refl
  told_is_of_prune text ending.Lowered h = absurd h
  told_is_of_prune text ending.Listed h = absurd h
  told_is_of_prune text ending.Explained h = absurd h
  told_is_of_prune text ending.Met h = absurd h
  told_is_of_prune text (ending.NotLowered reason) h = absurd h
  told_is_of_prune text (ending.NotTagged span) h = absurd h
  told_is_of_prune text ending.Completed h = absurd h
  told_is_of_prune text (ending.NoCompletion pairs) h = absurd h
  told_is_of_prune text (ending.SpentRounds pairs best) h = absurd h
  told_is_of_prune text (ending.SpentConflicts pairs q g log best) h = absurd h
  told_is_of_prune text ending.HelpShown h = absurd h
  told_is_of_prune text ending.Accepted h = absurd h
  told_is_of_prune text (ending.Rejected why) h = absurd h
  told_is_of_prune text (ending.NotCertificate why) h = absurd h
  told_is_of_prune text ending.VersionShown h = absurd h
  told_is_of_prune text ending.ExecDone h = absurd h
  told_is_of_prune text (ending.ExecFailed span) h = absurd h
  told_is_of_prune text (ending.ExecSkipped span) h = absurd h
  told_is_of_prune text ending.NotALine h = absurd h
  told_is_of_prune text (ending.NotFilled reason) h = absurd h

  is_of_line : PrunesSource set r f → is_of_prune r ≡ true
  is_of_line (failed e rose same) = ap is_of_prune e
  is_of_line (long e over same) = ap is_of_prune e
  is_of_line (wanting e same) = ap is_of_prune e
  is_of_line (whole text w x) = told_is_of_prune text r (tells_text text x)

  pub prune_not : {A : Type 0} (x : Ending) → is_of_prune x ≡ false → PrunesSource set r f → r ≡ x → A
  prune_not x b s e = differ is_of_prune x r b (is_of_line s) (sym e)

  kept_text : (text : List ℕ) → Does text → IsTrue (writes_nothing r) → f.held_new ≡ f.held_old
  kept_text text (unexpanded t i at e same) k = same
  kept_text text (unfilled i e same) k = same
  kept_text text (pruned out i w) k = elim w [
    | delivered is y ↦ absurd (false≢true (ap writes_nothing (sym is) ∙ k))
    | cut is y ↦ absurd (false≢true (ap writes_nothing (sym is) ∙ k))
    | no_room is same ↦ same
  ]

  pub kept_by : PrunesSource set r f → IsTrue (writes_nothing r) → f.held_new ≡ f.held_old
  kept_by (failed e rose same) k = same
  kept_by (long e over same) k = same
  kept_by (wanting e same) k = same
  kept_by (whole text w x) k = kept_text text x k

  pub read_fault_by : PrunesSource set r f → r ≡ ending.ReadFault → Rose f.read_faults_old f.read_faults_new
  read_fault_by (failed e rose same) q = rose
  read_fault_by (long e over same) q = let z = sym e ∙ q in cc
  read_fault_by (wanting e same) q = let z = sym e ∙ q in cc
  read_fault_by (whole text w x) q = subst (Tells text) q (tells_text text x)

  pub write_fault_by : PrunesSource set r f → r ≡ ending.WriteFault → Rose f.write_faults_old f.write_faults_new
  write_fault_by (failed e rose same) q = let z = sym e ∙ q in cc
  write_fault_by (long e over same) q = let z = sym e ∙ q in cc
  write_fault_by (wanting e same) q = let z = sym e ∙ q in cc
  write_fault_by (whole text w x) q = (subst (Tells text) q (tells_text text x)).0

  -- Clauses that follow from the text

  -- The endings that there are for a text that is not too long, where each of what may hold of it allows its own.
  module _ (text : List ℕ) (P : Ending → Type 0) (memory : P ending.Memory) (read : Rose f.read_faults_old f.read_faults_new → P ending.ReadFault) where
    by_cause : ((t : SketchFault) → IsCause (IsFaultOfExpansion set text) t → P (refusal t)) → (t : SketchFault) → IsFaultOfExpansion set text t → P (refusal t)
    by_cause k (fault.NotText a) i = k (fault.NotText a) i
    by_cause k (fault.NotTyped a) i = k (fault.NotTyped a) i
    by_cause k (fault.TooLarge a) i = k (fault.TooLarge a) i
    by_cause k fault.Memory i = memory

    by_writing : (out : List ℕ) → P ending.Pruned × (Rose f.write_faults_old f.write_faults_new → P ending.WriteFault) → IsDelivered r ending.Pruned out f.write_faults_old f.write_faults_new f.held_old f.held_new → P r
    by_writing out k w = elim w [ delivered is y ↦ subst P (sym is) k.0 | cut is y ↦ subst P (sym is) (k.1 y.rose) | no_room is same ↦ subst P (sym is) memory ]

    pub ends : ((t : SketchFault) → IsCause (IsFaultOfExpansion set text) t → P (refusal t)) → (IsOpenText set text → P (ending.NotRun exec.Unfilled)) → ((out : List ℕ) → IsPrunedText set text out → P ending.Pruned × (Rose f.write_faults_old f.write_faults_new → P ending.WriteFault)) → length text ≤ most_bytes → Came text → P r
    ends cause site written fits (came_failed e rose) = subst P (sym e) (read rose)
    ends cause site written fits (came_long e over) = too_long text fits over
    ends cause site written fits (came_wanting e) = subst P (sym e) memory
    ends cause site written fits (came_whole short (unexpanded t i at e same)) = subst P (sym e) (by_cause cause t i)
    ends cause site written fits (came_whole short (unfilled i e same)) = subst P (sym e) (site i)
    ends cause site written fits (came_whole short (pruned out i w)) = by_writing out (written out i) w

  pub ends_pruned_by : (text : List ℕ) → Came text → (out : List ℕ) → IsPrunedText set text out → EndsPruned r f.read_faults_old f.read_faults_new f.write_faults_old f.write_faults_new
  ends_pruned_by text came out is =
      ends text (λ x. EndsPruned x f.read_faults_old f.read_faults_new f.write_faults_old f.write_faults_new) tt (λ rose. rose)
      (λ t cause. absurd (no_cause_of_pruned set text out t is cause))
      (λ i. absurd (open_or_pruned set text out i is))
      (λ other i. (refl, λ rose. rose))
      is.expanded.typed.short came

  pub ends_open_by : (text : List ℕ) → Came text → IsOpenText set text → EndsOpen r f.read_faults_old f.read_faults_new
  ends_open_by text came is =
      ends text (λ x. EndsOpen x f.read_faults_old f.read_faults_new) tt (λ rose. rose)
      (λ t cause. absurd (no_cause_of_open set text t is cause))
      (λ i. refl)
      (λ out i. absurd (open_or_pruned set text out is i))
      is.expanded.typed.short came

  is_fault : (text : List ℕ) (t : SketchFault) → IsCause (IsFaultOfExpansion set text) t → IsFaultOfExpansion set text t
  is_fault text (fault.NotText a) i = i
  is_fault text (fault.NotTyped a) i = i
  is_fault text (fault.TooLarge a) i = i
  is_fault text fault.Memory i = absurd i

  -- two causes are told alike
  caused : (text : List ℕ) (told t : SketchFault) → IsCause (IsFaultOfExpansion set text) told → IsCause (IsFaultOfExpansion set text) t → IsToldAs told t
  caused text told t cause i = only_expansion set text (Err t) tt (is_fault text t i) told cause

  -- the endings of a text with this cause
  ends_cause : (text : List ℕ) (P : Ending → Type 0) → P ending.Memory → (Rose f.read_faults_old f.read_faults_new → P ending.ReadFault) → (told : SketchFault) → IsCause (IsFaultOfExpansion set text) told → ((t : SketchFault) → IsToldAs told t → P (refusal t)) → length text ≤ most_bytes → Came text → P r
  ends_cause text P memory read told cause k fits came =
      ends text P memory read
      (λ t i. k t (caused text told t cause i))
      (λ i. absurd (no_cause_of_open set text told i cause))
      (λ out i. absurd (no_cause_of_pruned set text out told i cause))
      fits came

  as_faulty : (told : TextFault) (t : SketchFault) → IsToldAs (fault.NotText told) t → EndsFaulty told (refusal t) f.read_faults_old f.read_faults_new
  as_faulty told (fault.NotText a) h = h
  as_faulty told (fault.NotTyped a) h = absurd h
  as_faulty told (fault.TooLarge a) h = absurd h
  as_faulty told fault.Memory h = tt

  pub ends_faulty_by : (text : List ℕ) → Came text → length text ≤ most_bytes → (told : TextFault) → IsTextFault told text → EndsFaulty told r f.read_faults_old f.read_faults_new
  ends_faulty_by text came fits told is = ends_cause text (λ x. EndsFaulty told x f.read_faults_old f.read_faults_new) tt (λ rose. rose) (fault.NotText told) is (as_faulty told) fits came

  as_untyped : (told : TypeFault) (t : SketchFault) → IsToldAs (fault.NotTyped told) t → EndsUntyped (refusal t) f.read_faults_old f.read_faults_new
  as_untyped told (fault.NotText a) h = absurd h
  as_untyped told (fault.NotTyped a) h = tt
  as_untyped told (fault.TooLarge a) h = absurd h
  as_untyped told fault.Memory h = tt

  pub ends_untyped_by : (some : TypeFault) (text : List ℕ) → Came text → length text ≤ most_bytes → IsUntyped set text → EndsUntyped r f.read_faults_old f.read_faults_new
  ends_untyped_by some text came fits is = ends_cause text (λ x. EndsUntyped x f.read_faults_old f.read_faults_new) tt (λ rose. rose) (fault.NotTyped some) is (as_untyped some) fits came

  as_over : (reason : SizeFault) (t : SketchFault) → IsToldAs (fault.TooLarge reason) t → EndsLarge reason (refusal t) f.read_faults_old f.read_faults_new
  as_over reason (fault.NotText a) h = absurd h
  as_over reason (fault.NotTyped a) h = absurd h
  as_over reason (fault.TooLarge a) h = ap ending.TooLarge (sym h)
  as_over reason fault.Memory h = tt

  over_cause : (text : List ℕ) (reason : SizeFault) → IsTrue (is_of_expansion reason) → IsTooLarge set text reason → IsCause (IsFaultOfExpansion set text) (fault.TooLarge reason)
  over_cause text size.Copies b is = is
  over_cause text size.Sites b is = is
  over_cause text size.Steps b is = absurd (false≢true b)
  over_cause text size.News b is = absurd (false≢true b)
  over_cause text size.Memory b is = absurd (false≢true b)

  pub ends_copies_by : (text : List ℕ) → Came text → (reason : SizeFault) → IsTrue (is_of_expansion reason) → IsTooLarge set text reason → EndsLarge reason r f.read_faults_old f.read_faults_new
  ends_copies_by text came reason b is = ends_cause text (λ x. EndsLarge reason x f.read_faults_old f.read_faults_new) tt (λ rose. rose) (fault.TooLarge reason) (over_cause text reason b is) (as_over reason) is.typed.short came

  pub ends_long_by : (text : List ℕ) → Came text → most_bytes < length text → EndsLong r f.read_faults_old f.read_faults_new
  ends_long_by text (came_failed e rose) over = subst (λ x. EndsLong x f.read_faults_old f.read_faults_new) (sym e) rose
  ends_long_by text (came_long e l) over = subst (λ x. EndsLong x f.read_faults_old f.read_faults_new) (sym e) refl
  ends_long_by text (came_wanting e) over = subst (λ x. EndsLong x f.read_faults_old f.read_faults_new) (sym e) tt
  ends_long_by text (came_whole short x) over = too_long text short over
