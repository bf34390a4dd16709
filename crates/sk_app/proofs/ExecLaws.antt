-- What follows for a line that runs a function from what it does for its source.
use Rattle.std.proofs.Common.{◌≡◌, ℕ, ◌≤◌, ◌<◌, ◌⊎◌, inl, inr, Bool, true, false, List, length, refl, sym, ap, subst, ◌∙◌}
use Rattle.std.specs.Prelude.{IsTrue, IfSome}
use Rattle.std.proofs.lemmas.Bool.{false≢true}
use Rattle.sk_base.specs.Stream.{Rose}
use Rattle.sk_expand_sizes.specs.declared.fault.SizeFault.{SizeFault}
use Rattle.sk_expand_sizes.specs.declared.fault.SizeFault.TheVariants as size
use Rattle.sk_types_laws.specs.declared.fault.TypeFault.{TypeFault}
use Rattle.sk_model.specs.declared.outcome.Outcome.{Outcome}
use Rattle.sk_model.specs.declared.outcome.Outcome.TheVariants as outcome
use Rattle.sk_opts.specs.declared.line.Set.{Set}
use Rattle.sk_front.specs.declared.fault.TextFault.{TextFault}
use Rattle.sk_front.specs.declared.fault.SketchFault.{SketchFault}
use Rattle.sk_front.specs.declared.fault.SketchFault.TheVariants as fault
use Rattle.sk_front.specs.Texts.{most_bytes, IsTextFault}
use Rattle.sk_front.specs.Front.{IsUntyped, IsTooLarge, IsFaultOfExpansion, IsFaultOfSizes, IsCause, IsSame}
use Rattle.sk_front.proofs.FrontLaws.{one_cause}
use Rattle.sk_trace_text.specs.declared.fault.TraceFault.{TraceFault}
use Rattle.sk_trace_text.specs.declared.fault.TraceFault.TheVariants as reason
use Rattle.sk_app.specs.declared.direct.Job.{Job}
use Rattle.sk_app.specs.Jobs.{IsStopped, IsRunOfJob}
use Rattle.sk_app.proofs.JobLaws.{one_stop, no_stop_of_run, one_run, no_cause_of_job, no_cause_of_stop, run_is_short, stop_is_short}
use Rattle.sk_app.specs.declared.ending.Ending.{Ending}
use Rattle.sk_app.specs.declared.ending.Ending.TheVariants as ending
use Rattle.sk_app.specs.Ends.{delivered, cut, no_room, Writes, WritesPart, writes_nothing, ending_of, stopped}
use Rattle.sk_app.proofs.Endings.{EndsRun, EndsStopped, EndsFaulty, EndsUntyped, EndsLarge, EndsLong}
use Rattle.sk_app.specs.Call.{Effect}
use Rattle.sk_app.specs.Effects.{refusal, is_of_expansion, RunsText, refused, not_run, ran, RunsSource, failed, long, wanting, whole, IsRunResult, IsRunOutput}
use Rattle.sk_app.proofs.SourceLaws.{differ, too_long, Came as CameTo, came_failed, came_long, came_wanting, came_whole, told_of}

-- Kinds of endings

-- a text that is refused ends so, or in want of memory
abbrev pub is_fault : Ending → Bool
is_fault (ending.NotText told) = true
is_fault (ending.NotTyped told) = true
is_fault (ending.TooLarge reason) = true
is_fault _ = false

-- a run that is written ends so
abbrev pub is_run : Ending → Bool
is_run ending.ExecDone = true
is_run (ending.ExecFailed span) = true
is_run (ending.ExecSkipped span) = true
is_run _ = false

-- the endings of a line that runs a function
abbrev pub is_of_exec : Ending → Bool
is_of_exec ending.Completed = false
is_of_exec (ending.NoCompletion pairs) = false
is_of_exec (ending.SpentRounds pairs best) = false
is_of_exec (ending.SpentConflicts pairs q f log best) = false
is_of_exec ending.NotALine = false
is_of_exec ending.HelpShown = false
is_of_exec ending.VersionShown = false
is_of_exec ending.Lowered = false
is_of_exec ending.Pruned = false
is_of_exec (ending.NotLowered reason) = false
is_of_exec (ending.NotTagged span) = false
is_of_exec ending.Listed = false
is_of_exec ending.Explained = false
is_of_exec ending.Met = false
is_of_exec ending.Accepted = false
is_of_exec (ending.Rejected why) = false
is_of_exec (ending.NotCertificate why) = false
is_of_exec _ = true

run_is : (o : Outcome) → is_run (ending_of o) ≡ true
run_is (outcome.Done result refs cost) = refl
run_is (outcome.Failed span) = refl
run_is (outcome.Skipped span) = refl

run_is_no_fault : (o : Outcome) → is_fault (ending_of o) ≡ false
run_is_no_fault (outcome.Done result refs cost) = refl
run_is_no_fault (outcome.Failed span) = refl
run_is_no_fault (outcome.Skipped span) = refl

run_is_of_exec : (o : Outcome) → is_of_exec (ending_of o) ≡ true
run_is_of_exec (outcome.Done result refs cost) = refl
run_is_of_exec (outcome.Failed span) = refl
run_is_of_exec (outcome.Skipped span) = refl

run_writes : (o : Outcome) → writes_nothing (ending_of o) ≡ false
run_writes (outcome.Done result refs cost) = refl
run_writes (outcome.Failed span) = refl
run_writes (outcome.Skipped span) = refl

stopped_is_of_exec : (t : TraceFault) → is_of_exec (stopped t) ≡ true
stopped_is_of_exec (reason.NotRun a) = refl
stopped_is_of_exec (reason.NotFilled a) = refl

stopped_is_no_fault : (t : TraceFault) → is_fault (stopped t) ≡ false
stopped_is_no_fault (reason.NotRun a) = refl
stopped_is_no_fault (reason.NotFilled a) = refl

stopped_is_no_run : (t : TraceFault) → is_run (stopped t) ≡ false
stopped_is_no_run (reason.NotRun a) = refl
stopped_is_no_run (reason.NotFilled a) = refl

-- whether no function is run
abbrev pub is_stop : Ending → Bool
is_stop (ending.NotRun told) = true
is_stop (ending.NotFilled told) = true
is_stop _ = false

stopped_is : (t : TraceFault) → is_stop (stopped t) ≡ true
stopped_is (reason.NotRun a) = refl
stopped_is (reason.NotFilled a) = refl

run_is_no_stop : (o : Outcome) → is_stop (ending_of o) ≡ false
run_is_no_stop (outcome.Done result refs cost) = refl
run_is_no_stop (outcome.Failed span) = refl
run_is_no_stop (outcome.Skipped span) = refl

refusal_is_no_stop : (t : SketchFault) → is_stop (refusal t) ≡ false
refusal_is_no_stop (fault.NotText a) = refl
refusal_is_no_stop (fault.NotTyped a) = refl
refusal_is_no_stop (fault.TooLarge a) = refl
refusal_is_no_stop fault.Memory = refl

refusal_is_of_exec : (t : SketchFault) → is_of_exec (refusal t) ≡ true
refusal_is_of_exec (fault.NotText a) = refl
refusal_is_of_exec (fault.NotTyped a) = refl
refusal_is_of_exec (fault.TooLarge a) = refl
refusal_is_of_exec fault.Memory = refl

refusal_is_no_run : (t : SketchFault) → is_run (refusal t) ≡ false
refusal_is_no_run (fault.NotText a) = refl
refusal_is_no_run (fault.NotTyped a) = refl
refusal_is_no_run (fault.TooLarge a) = refl
refusal_is_no_run fault.Memory = refl

module _ (set : Set) (job : Job) (r : Ending) (f : Effect) where
  abbrev pub Runs : List ℕ → Type 0
  Runs text = RunsText set job text r f.write_faults_old f.write_faults_new f.held_old f.held_new

  -- Whatever the text is

  of_text : (text : List ℕ) → Runs text → is_of_exec r ≡ true
  of_text text (refused t i e same) = ap is_of_exec e ∙ refusal_is_of_exec t
  of_text text (not_run reason i e same) = ap is_of_exec e ∙ stopped_is_of_exec reason
  of_text text (ran o out i w) = elim w [ delivered is y ↦ ap is_of_exec is ∙ run_is_of_exec o | cut is y ↦ ap is_of_exec is | no_room is same ↦ ap is_of_exec is ]

  of_exec_line : RunsSource set job r f → is_of_exec r ≡ true
  of_exec_line (failed e rose same) = ap is_of_exec e
  of_exec_line (long e l same) = ap is_of_exec e
  of_exec_line (wanting e same) = ap is_of_exec e
  of_exec_line (whole text w x) = of_text text x

  pub exec_not : {A : Type 0} (x : Ending) → is_of_exec x ≡ false → RunsSource set job r f → r ≡ x → A
  exec_not x b s e = differ is_of_exec x r b (of_exec_line s) (sym e)

  kept_text : (text : List ℕ) → Runs text → IsTrue (writes_nothing r) → f.held_new ≡ f.held_old
  kept_text text (refused t i e same) k = same
  kept_text text (not_run reason i e same) k = same
  kept_text text (ran o out i w) k = elim w [
    | delivered is y ↦ absurd (false≢true (sym (run_writes o) ∙ ap writes_nothing (sym is) ∙ k))
    | cut is y ↦ absurd (false≢true (ap writes_nothing (sym is) ∙ k))
    | no_room is same ↦ same
  ]

  pub kept_by : RunsSource set job r f → IsTrue (writes_nothing r) → f.held_new ≡ f.held_old
  kept_by (failed e rose same) k = same
  kept_by (long e l same) k = same
  kept_by (wanting e same) k = same
  kept_by (whole text w x) k = kept_text text x k

  refusal_no_read_fault : {A : Type 0} (t : SketchFault) → refusal t ≡ ending.ReadFault → A
  refusal_no_read_fault (fault.NotText a) e = cc
  refusal_no_read_fault (fault.NotTyped a) e = cc
  refusal_no_read_fault (fault.TooLarge a) e = cc
  refusal_no_read_fault fault.Memory e = cc

  refusal_no_write_fault : {A : Type 0} (t : SketchFault) → refusal t ≡ ending.WriteFault → A
  refusal_no_write_fault (fault.NotText a) e = cc
  refusal_no_write_fault (fault.NotTyped a) e = cc
  refusal_no_write_fault (fault.TooLarge a) e = cc
  refusal_no_write_fault fault.Memory e = cc

  refusal_not_too_long : {A : Type 0} (t : SketchFault) → refusal t ≡ ending.TooLong → A
  refusal_not_too_long (fault.NotText a) e = cc
  refusal_not_too_long (fault.NotTyped a) e = cc
  refusal_not_too_long (fault.TooLarge a) e = cc
  refusal_not_too_long fault.Memory e = cc

  stop_not : {A : Type 0} (t : TraceFault) (x : Ending) → is_stop x ≡ false → stopped t ≡ x → A
  stop_not t x b e = differ is_stop x (stopped t) b (stopped_is t) (sym e)

  run_not : {A : Type 0} (o : Outcome) (x : Ending) → is_run x ≡ false → ending_of o ≡ x → A
  run_not o x b e = differ is_run x (ending_of o) b (run_is o) (sym e)

  read_fault_text : (text : List ℕ) → Runs text → r ≡ ending.ReadFault → Rose f.read_faults_old f.read_faults_new
  read_fault_text text (refused t i e same) q = refusal_no_read_fault t (sym e ∙ q)
  read_fault_text text (not_run reason i e same) q = stop_not reason ending.ReadFault refl (sym e ∙ q)
  read_fault_text text (ran o out i w) q = elim w [
    | delivered is y ↦ run_not o ending.ReadFault refl (sym is ∙ q)
    | cut is y ↦ let z = sym is ∙ q in cc
    | no_room is same ↦ let z = sym is ∙ q in cc
  ]

  pub read_fault_by : RunsSource set job r f → r ≡ ending.ReadFault → Rose f.read_faults_old f.read_faults_new
  read_fault_by (failed e rose same) q = rose
  read_fault_by (long e l same) q = let z = sym e ∙ q in cc
  read_fault_by (wanting e same) q = let z = sym e ∙ q in cc
  read_fault_by (whole text w x) q = read_fault_text text x q

  write_fault_text : (text : List ℕ) → Runs text → r ≡ ending.WriteFault → Rose f.write_faults_old f.write_faults_new
  write_fault_text text (refused t i e same) q = refusal_no_write_fault t (sym e ∙ q)
  write_fault_text text (not_run reason i e same) q = stop_not reason ending.WriteFault refl (sym e ∙ q)
  write_fault_text text (ran o out i w) q = elim w [
    | delivered is y ↦ run_not o ending.WriteFault refl (sym is ∙ q)
    | cut is y ↦ y.rose
    | no_room is same ↦ let z = sym is ∙ q in cc
  ]

  pub write_fault_by : RunsSource set job r f → r ≡ ending.WriteFault → Rose f.write_faults_old f.write_faults_new
  write_fault_by (failed e rose same) q = let z = sym e ∙ q in cc
  write_fault_by (long e l same) q = let z = sym e ∙ q in cc
  write_fault_by (wanting e same) q = let z = sym e ∙ q in cc
  write_fault_by (whole text w x) q = write_fault_text text x q

  -- Of the text that the source had left

  abbrev pub Came : List ℕ → Type 0
  Came = CameTo most_bytes Runs r f

  pub told_by : (P : List ℕ → Type 0) → ((text : List ℕ) → Came text → P text) → RunsSource set job r f → IfSome f.left_old P
  told_by = told_of most_bytes Runs r f

  -- Clauses that follow from the ending

  fault_of : (text : List ℕ) (x : Ending) → is_fault x ≡ true → Runs text → r ≡ x → (t : SketchFault) × IsFaultOfExpansion set text t × (refusal t ≡ x)
  fault_of text x b (refused t i e same) q = (t, i, sym e ∙ q)
  fault_of text x b (not_run reason i e same) q = differ is_fault (stopped reason) x (stopped_is_no_fault reason) b (sym e ∙ q)
  fault_of text x b (ran o out i w) q = elim w [
    | delivered is y ↦ differ is_fault (ending_of o) x (run_is_no_fault o) b (sym is ∙ q)
    | cut is y ↦ differ is_fault ending.WriteFault x refl b (sym is ∙ q)
    | no_room is same ↦ differ is_fault ending.Memory x refl b (sym is ∙ q)
  ]

  fault_by : (text : List ℕ) (x : Ending) → is_fault x ≡ true → Came text → r ≡ x → (t : SketchFault) × IsFaultOfExpansion set text t × (refusal t ≡ x)
  fault_by text x b (came_failed e rose) q = differ is_fault ending.ReadFault x refl b (sym e ∙ q)
  fault_by text x b (came_long e l) q = differ is_fault ending.TooLong x refl b (sym e ∙ q)
  fault_by text x b (came_wanting e) q = differ is_fault ending.Memory x refl b (sym e ∙ q)
  fault_by text x b (came_whole short w) q = fault_of text x b w q

  as_text : (text : List ℕ) (told : TextFault) (t : SketchFault) → IsFaultOfExpansion set text t → refusal t ≡ ending.NotText told → IsTextFault told text
  as_text text told (fault.NotText a) i e = let same : a ≡ told = cc in subst (λ z. IsTextFault z text) same i
  as_text text told (fault.NotTyped a) i e = cc
  as_text text told (fault.TooLarge a) i e = cc
  as_text text told fault.Memory i e = cc

  as_typed : (text : List ℕ) (told : TypeFault) (t : SketchFault) → IsFaultOfExpansion set text t → refusal t ≡ ending.NotTyped told → IsUntyped set text
  as_typed text told (fault.NotText a) i e = cc
  as_typed text told (fault.NotTyped a) i e = i
  as_typed text told (fault.TooLarge a) i e = cc
  as_typed text told fault.Memory i e = cc

  as_large : (text : List ℕ) (reason : SizeFault) (t : SketchFault) → IsFaultOfExpansion set text t → refusal t ≡ ending.TooLarge reason → IsTooLarge set text reason
  as_large text reason (fault.NotText a) i e = cc
  as_large text reason (fault.NotTyped a) i e = cc
  as_large text reason (fault.TooLarge size.Copies) i e = let same : size.Copies ≡ reason = cc in subst (IsTooLarge set text) same i
  as_large text reason (fault.TooLarge size.Sites) i e = let same : size.Sites ≡ reason = cc in subst (IsTooLarge set text) same i
  as_large text reason (fault.TooLarge size.Steps) i e = absurd i
  as_large text reason (fault.TooLarge size.News) i e = absurd i
  as_large text reason (fault.TooLarge size.Memory) i e = absurd i
  as_large text reason fault.Memory i e = cc

  pub not_text_by : (told : TextFault) → r ≡ ending.NotText told → (text : List ℕ) → Came text → IsTextFault told text
  not_text_by told q text w = let x = fault_by text (ending.NotText told) refl w q in as_text text told x.0 x.1 x.2

  pub not_typed_by : (told : TypeFault) → r ≡ ending.NotTyped told → (text : List ℕ) → Came text → IsUntyped set text
  not_typed_by told q text w = let x = fault_by text (ending.NotTyped told) refl w q in as_typed text told x.0 x.1 x.2

  pub too_large_by : (reason : SizeFault) → r ≡ ending.TooLarge reason → (text : List ℕ) → Came text → IsTooLarge set text reason
  too_large_by reason q text w = let x = fault_by text (ending.TooLarge reason) refl w q in as_large text reason x.0 x.1 x.2

  too_long_text : {A : Type 0} (text : List ℕ) → Runs text → r ≡ ending.TooLong → A
  too_long_text text (refused t i e same) q = refusal_not_too_long t (sym e ∙ q)
  too_long_text text (not_run reason i e same) q = stop_not reason ending.TooLong refl (sym e ∙ q)
  too_long_text text (ran o out i w) q = elim w [
    | delivered is y ↦ run_not o ending.TooLong refl (sym is ∙ q)
    | cut is y ↦ let z = sym is ∙ q in cc
    | no_room is same ↦ let z = sym is ∙ q in cc
  ]

  pub too_long_by : r ≡ ending.TooLong → (text : List ℕ) → Came text → most_bytes < length text
  too_long_by q text (came_failed e rose) = let z = sym e ∙ q in cc
  too_long_by q text (came_long e l) = l
  too_long_by q text (came_wanting e) = let z = sym e ∙ q in cc
  too_long_by q text (came_whole short w) = too_long_text text w q

  abbrev pub Written : Ending → List ℕ → Type 0
  Written x text = Writes (IsRunResult set job x text) f.held_old f.held_new

  run_of_text : (text : List ℕ) (x : Ending) → is_run x ≡ true → Runs text → r ≡ x → Written x text
  run_of_text text x b (refused t i e same) q = differ is_run (refusal t) x (refusal_is_no_run t) b (sym e ∙ q)
  run_of_text text x b (not_run reason i e same) q = differ is_run (stopped reason) x (stopped_is_no_run reason) b (sym e ∙ q)
  run_of_text text x b (ran o out i w) q = elim w [
    | delivered is y ↦ record { out = out; is = record { outcome = o; run = i; ends = sym q ∙ is }; appends = y.appends }
    | cut is y ↦ differ is_run ending.WriteFault x refl b (sym is ∙ q)
    | no_room is same ↦ differ is_run ending.Memory x refl b (sym is ∙ q)
  ]

  pub run_by : (x : Ending) → is_run x ≡ true → r ≡ x → (text : List ℕ) → Came text → Written x text
  run_by x b q text (came_failed e rose) = differ is_run ending.ReadFault x refl b (sym e ∙ q)
  run_by x b q text (came_long e l) = differ is_run ending.TooLong x refl b (sym e ∙ q)
  run_by x b q text (came_wanting e) = differ is_run ending.Memory x refl b (sym e ∙ q)
  run_by x b q text (came_whole short w) = run_of_text text x b w q

  same_stop : (t told : TraceFault) → stopped t ≡ stopped told → t ≡ told
  same_stop (reason.NotRun a) (reason.NotRun b) e = let same : a ≡ b = cc in ap reason.NotRun same
  same_stop (reason.NotFilled a) (reason.NotFilled b) e = let same : a ≡ b = cc in ap reason.NotFilled same
  same_stop (reason.NotRun a) (reason.NotFilled b) e = cc
  same_stop (reason.NotFilled a) (reason.NotRun b) e = cc

  not_run_text : (told : TraceFault) (text : List ℕ) → Runs text → r ≡ stopped told → IsStopped set job text told
  not_run_text told text (refused t i e same) q = differ is_stop (refusal t) (stopped told) (refusal_is_no_stop t) (stopped_is told) (sym e ∙ q)
  not_run_text told text (not_run reason i e same) q = subst (IsStopped set job text) (same_stop reason told (sym e ∙ q)) i
  not_run_text told text (ran o out i w) q = elim w [
    | delivered is y ↦ differ is_stop (ending_of o) (stopped told) (run_is_no_stop o) (stopped_is told) (sym is ∙ q)
    | cut is y ↦ differ is_stop ending.WriteFault (stopped told) refl (stopped_is told) (sym is ∙ q)
    | no_room is same ↦ differ is_stop ending.Memory (stopped told) refl (stopped_is told) (sym is ∙ q)
  ]

  pub not_run_by : (told : TraceFault) → r ≡ stopped told → (text : List ℕ) → Came text → IsStopped set job text told
  not_run_by told q text (came_failed e rose) = differ is_stop ending.ReadFault (stopped told) refl (stopped_is told) (sym e ∙ q)
  not_run_by told q text (came_long e l) = differ is_stop ending.TooLong (stopped told) refl (stopped_is told) (sym e ∙ q)
  not_run_by told q text (came_wanting e) = differ is_stop ending.Memory (stopped told) refl (stopped_is told) (sym e ∙ q)
  not_run_by told q text (came_whole short w) = not_run_text told text w q

  -- it is stopped for some text, whatever the source tells
  pub stopped_by : (told : TraceFault) → r ≡ stopped told → RunsSource set job r f → (text : List ℕ) × IsStopped set job text told
  stopped_by told q (failed e rose same) = differ is_stop ending.ReadFault (stopped told) refl (stopped_is told) (sym e ∙ q)
  stopped_by told q (long e l same) = differ is_stop ending.TooLong (stopped told) refl (stopped_is told) (sym e ∙ q)
  stopped_by told q (wanting e same) = differ is_stop ending.Memory (stopped told) refl (stopped_is told) (sym e ∙ q)
  stopped_by told q (whole text w x) = (text, not_run_text told text x q)

  abbrev pub Part : List ℕ → Type 0
  Part text = WritesPart (IsRunOutput set job text) f.held_old f.held_new

  prefix_text : (text : List ℕ) → Runs text → r ≡ ending.WriteFault → Part text
  prefix_text text (refused t i e same) q = refusal_no_write_fault t (sym e ∙ q)
  prefix_text text (not_run reason i e same) q = stop_not reason ending.WriteFault refl (sym e ∙ q)
  prefix_text text (ran o out i w) q = elim w [
    | delivered is y ↦ run_not o ending.WriteFault refl (sym is ∙ q)
    | cut is y ↦ record { out = out; is = record { outcome = o; run = i }; appends = y.appends }
    | no_room is same ↦ let z = sym is ∙ q in cc
  ]

  pub prefix_by : r ≡ ending.WriteFault → (text : List ℕ) → Came text → Part text
  prefix_by q text (came_failed e rose) = let z = sym e ∙ q in cc
  prefix_by q text (came_long e l) = let z = sym e ∙ q in cc
  prefix_by q text (came_wanting e) = let z = sym e ∙ q in cc
  prefix_by q text (came_whole short w) = prefix_text text w q

  -- Clauses that follow from the text

  of_sizes : (text : List ℕ) (t : SketchFault) → IsCause (IsFaultOfExpansion set text) t → IsCause (IsFaultOfSizes set text) t
  of_sizes text (fault.NotText a) x = x
  of_sizes text (fault.NotTyped a) x = x
  of_sizes text (fault.TooLarge size.Copies) x = x
  of_sizes text (fault.TooLarge size.Sites) x = x
  of_sizes text (fault.TooLarge size.Steps) x = absurd x
  of_sizes text (fault.TooLarge size.News) x = absurd x
  of_sizes text (fault.TooLarge size.Memory) x = absurd x
  of_sizes text fault.Memory x = absurd x

  module _ (text : List ℕ) (P : Ending → Type 0) (memory : P ending.Memory) (read : Rose f.read_faults_old f.read_faults_new → P ending.ReadFault) where
    ended : (x : Ending) → r ≡ x → P x → P r
    ended x e h = subst P (sym e) h

    -- a text with a cause
    told_cause : (c : SketchFault) → IsCause (IsFaultOfExpansion set text) c → ((t : SketchFault) → IsSame c t → P (refusal t)) → (t : SketchFault) → IsFaultOfExpansion set text t → P (refusal t)
    told_cause c cause k (fault.NotText a) i = k (fault.NotText a) (one_cause set text c (fault.NotText a) (of_sizes text c cause) (of_sizes text (fault.NotText a) i))
    told_cause c cause k (fault.NotTyped a) i = k (fault.NotTyped a) (one_cause set text c (fault.NotTyped a) (of_sizes text c cause) (of_sizes text (fault.NotTyped a) i))
    told_cause c cause k (fault.TooLarge a) i = k (fault.TooLarge a) (one_cause set text c (fault.TooLarge a) (of_sizes text c cause) (of_sizes text (fault.TooLarge a) i))
    told_cause c cause k fault.Memory i = memory

    pub ends_cause : (c : SketchFault) → IsCause (IsFaultOfExpansion set text) c → ((t : SketchFault) → IsSame c t → P (refusal t)) → length text ≤ most_bytes → Came text → P r
    ends_cause c cause k fits (came_failed e rose) = ended ending.ReadFault e (read rose)
    ends_cause c cause k fits (came_long e l) = too_long text fits l
    ends_cause c cause k fits (came_wanting e) = ended ending.Memory e memory
    ends_cause c cause k fits (came_whole short (refused t i e same)) = ended (refusal t) e (told_cause c cause k t i)
    ends_cause c cause k fits (came_whole short (not_run reason i e same)) = absurd (no_cause_of_stop set job text reason c i cause)
    ends_cause c cause k fits (came_whole short (ran o out i w)) = absurd (no_cause_of_job set job text o out c i cause)

    -- a text that has an expansion within the limits
    no_cause : ((c : SketchFault) → IsCause (IsFaultOfExpansion set text) c → ⊥) → (t : SketchFault) → IsFaultOfExpansion set text t → P (refusal t)
    no_cause none (fault.NotText a) i = absurd (none (fault.NotText a) i)
    no_cause none (fault.NotTyped a) i = absurd (none (fault.NotTyped a) i)
    no_cause none (fault.TooLarge a) i = absurd (none (fault.TooLarge a) i)
    no_cause none fault.Memory i = memory

    pub ends_expanded : ((c : SketchFault) → IsCause (IsFaultOfExpansion set text) c → ⊥) → ((reason : TraceFault) → IsStopped set job text reason → P (stopped reason)) → ((o : Outcome) (out : List ℕ) → IsRunOfJob set job text o out → P (ending_of o)) → (((o : Outcome) → (out : List ℕ) → IsRunOfJob set job text o out → ⊥) ⊎ (Rose f.write_faults_old f.write_faults_new → P ending.WriteFault)) → length text ≤ most_bytes → Came text → P r
    ends_expanded none by_fault by_run by_cut fits (came_failed e rose) = ended ending.ReadFault e (read rose)
    ends_expanded none by_fault by_run by_cut fits (came_long e l) = too_long text fits l
    ends_expanded none by_fault by_run by_cut fits (came_wanting e) = ended ending.Memory e memory
    ends_expanded none by_fault by_run by_cut fits (came_whole short (refused t i e same)) = ended (refusal t) e (no_cause none t i)
    ends_expanded none by_fault by_run by_cut fits (came_whole short (not_run reason i e same)) = ended (stopped reason) e (by_fault reason i)
    ends_expanded none by_fault by_run (inl no_run) fits (came_whole short (ran o out i w)) = absurd (no_run o out i)
    ends_expanded none by_fault by_run (inr by_cut) fits (came_whole short (ran o out i w)) = elim w [
      | delivered is y ↦ ended (ending_of o) is (by_run o out i)
      | cut is y ↦ ended ending.WriteFault is (by_cut y.rose)
      | no_room is same ↦ ended ending.Memory is memory
    ]

  same_end : (o p : Outcome) → p ≡ o → (a b c d : ℕ) → EndsRun o (ending_of p) a b c d
  same_end o (outcome.Done result refs cost) e a b c d = ap ending_of e
  same_end o (outcome.Failed span) e a b c d = ap ending_of e
  same_end o (outcome.Skipped span) e a b c d = ap ending_of e

  pub ends_run_by : (text : List ℕ) → Came text → (o : Outcome) (out : List ℕ) → IsRunOfJob set job text o out → EndsRun o r f.read_faults_old f.read_faults_new f.write_faults_old f.write_faults_new
  ends_run_by text came o out is =
      ends_expanded text (λ x. EndsRun o x f.read_faults_old f.read_faults_new f.write_faults_old f.write_faults_new) tt (λ rose. rose)
      (λ c cause. no_cause_of_job set job text o out c is cause)
      (λ told i. absurd (no_stop_of_run set job text told o out i is))
      (λ p other i. same_end o p ((one_run set job text p o other out i is).0) f.read_faults_old f.read_faults_new f.write_faults_old f.write_faults_new)
      (inr (λ rose. rose))
      (run_is_short set job text o out is) came

  same_told : (told reason : TraceFault) → told ≡ reason → EndsStopped reason (stopped told) f.read_faults_old f.read_faults_new
  same_told (reason.NotRun a) told e = ap stopped e
  same_told (reason.NotFilled a) told e = ap stopped e

  pub ends_not_run_by : (text : List ℕ) → Came text → (told : TraceFault) → IsStopped set job text told → EndsStopped told r f.read_faults_old f.read_faults_new
  ends_not_run_by text came told is =
      ends_expanded text (λ x. EndsStopped told x f.read_faults_old f.read_faults_new) tt (λ rose. rose)
      (λ c cause. no_cause_of_stop set job text told c is cause)
      (λ other i. same_told other told (one_stop set job text other told i is))
      (λ p other i. absurd (no_stop_of_run set job text told p other is i))
      (inl (λ p other i. no_stop_of_run set job text told p other is i))
      (stop_is_short set job text told is) came

  as_faulty : (told : TextFault) (t : SketchFault) → IsSame (fault.NotText told) t → EndsFaulty told (refusal t) f.read_faults_old f.read_faults_new
  as_faulty told (fault.NotText a) h = h
  as_faulty told (fault.NotTyped a) h = absurd h
  as_faulty told (fault.TooLarge a) h = absurd h
  as_faulty told fault.Memory h = tt

  pub ends_faulty_by : (text : List ℕ) → Came text → length text ≤ most_bytes → (told : TextFault) → IsTextFault told text → EndsFaulty told r f.read_faults_old f.read_faults_new
  ends_faulty_by text came fits told is = ends_cause text (λ x. EndsFaulty told x f.read_faults_old f.read_faults_new) tt (λ rose. rose) (fault.NotText told) is (as_faulty told) fits came

  as_untyped : (told : TypeFault) (t : SketchFault) → IsSame (fault.NotTyped told) t → EndsUntyped (refusal t) f.read_faults_old f.read_faults_new
  as_untyped told (fault.NotText a) h = absurd h
  as_untyped told (fault.NotTyped a) h = tt
  as_untyped told (fault.TooLarge a) h = absurd h
  as_untyped told fault.Memory h = tt

  pub ends_untyped_by : (some : TypeFault) (text : List ℕ) → Came text → length text ≤ most_bytes → IsUntyped set text → EndsUntyped r f.read_faults_old f.read_faults_new
  ends_untyped_by some text came fits is = ends_cause text (λ x. EndsUntyped x f.read_faults_old f.read_faults_new) tt (λ rose. rose) (fault.NotTyped some) is (as_untyped some) fits came

  as_over : (reason : SizeFault) (t : SketchFault) → IsSame (fault.TooLarge reason) t → EndsLarge reason (refusal t) f.read_faults_old f.read_faults_new
  as_over reason (fault.NotText a) h = absurd h
  as_over reason (fault.NotTyped a) h = absurd h
  as_over reason (fault.TooLarge a) h = ap ending.TooLarge (sym h)
  as_over reason fault.Memory h = tt

  over_cause : (text : List ℕ) (reason : SizeFault) → IsTrue (is_of_expansion reason) → IsTooLarge set text reason → IsCause (IsFaultOfExpansion set text) (fault.TooLarge reason)
  over_cause text size.Copies b is = is
  over_cause text size.Sites b is = is
  over_cause text size.Steps b is = absurd (false≢true b)
  over_cause text size.News b is = absurd (false≢true b)
  over_cause text size.Memory b is = absurd (false≢true b)

  pub ends_copies_by : (text : List ℕ) → Came text → (reason : SizeFault) → IsTrue (is_of_expansion reason) → IsTooLarge set text reason → EndsLarge reason r f.read_faults_old f.read_faults_new
  ends_copies_by text came reason b is = ends_cause text (λ x. EndsLarge reason x f.read_faults_old f.read_faults_new) tt (λ rose. rose) (fault.TooLarge reason) (over_cause text reason b is) (as_over reason) is.typed.short came

  pub ends_long_by : (text : List ℕ) → Came text → most_bytes < length text → EndsLong r f.read_faults_old f.read_faults_new
  ends_long_by text (came_failed e rose) over = subst (λ x. EndsLong x f.read_faults_old f.read_faults_new) (sym e) rose
  ends_long_by text (came_long e l) over = subst (λ x. EndsLong x f.read_faults_old f.read_faults_new) (sym e) refl
  ends_long_by text (came_wanting e) over = subst (λ x. EndsLong x f.read_faults_old f.read_faults_new) (sym e) tt
  ends_long_by text (came_whole short w) over = too_long text short over
