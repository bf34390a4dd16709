-- What is said of a line `synth` whose result text is written, cut off, or has no room.
use Rattle.std.proofs.Common.{ℕ, Bool, List, Option, Some, None, false, ◌≡◌, refl, sym, subst, ap, ◌∙◌}
use Rattle.std.specs.Prelude.{IsTrue, IfSome}
use Rattle.std.specs.declared.alloc.Global.{Global}
use Rattle.std.specs.declared.vec.Vec.{Vec}
use Rattle.std.proofs.lemmas.Bool.{false≢true}
use Rattle.sk_base.specs.Stream.{Rose}
use Rattle.sk_base.specs.declared.bounds.Budget.{Budget}
use Rattle.sk_types_laws.specs.declared.fault.TypeFault.{TypeFault}
use Rattle.sk_opts.specs.declared.line.Set.{Set}
use Rattle.sk_app.specs.declared.prepare.Found.TheVariants as found
use Rattle.sk_app.specs.declared.ending.Ending.{Ending}
use Rattle.sk_app.specs.declared.ending.Ending.TheVariants as ending
use Rattle.sk_all_text.specs.Built.{IsTaken}
use Rattle.sk_app.specs.Prepared.{Finds}
use Rattle.sk_app.specs.Results.{HasResult, IsResultOf, IsResult}
use Rattle.sk_app.specs.Ends.{IsDelivered, delivered, cut, no_room, Writes, WritesPart, writes_nothing, IsToldOf}
use Rattle.sk_app.specs.Effects.{is_of_synth}

-- Endings that have a result text

module _ (budget : Budget) where
  is_synth : (x : Ending) → HasResult budget x → IsTrue (is_of_synth x)
  is_synth ending.Completed h = refl
  is_synth (ending.NoCompletion pairs) h = refl
  is_synth (ending.SpentRounds pairs best) h = refl
  is_synth (ending.SpentConflicts pairs q f log best) h = refl
  is_synth ending.HelpShown h = absurd h
  is_synth ending.Accepted h = absurd h
  is_synth (ending.Rejected why) h = absurd h
  is_synth (ending.NotCertificate why) h = absurd h
  is_synth ending.VersionShown h = absurd h
  is_synth ending.NotALine h = absurd h
  is_synth ending.ExecDone h = absurd h
  is_synth (ending.ExecFailed span) h = absurd h
  is_synth (ending.ExecSkipped span) h = absurd h
  is_synth (ending.NotText fault) h = absurd h
  is_synth (ending.NotTyped fault) h = absurd h
  is_synth (ending.TooLarge reason) h = absurd h
  is_synth (ending.NotRun reason) h = absurd h
  is_synth (ending.NotFilled reason) h = absurd h
  is_synth ending.Lowered h = absurd h
  is_synth ending.Pruned h = absurd h
  is_synth ending.Listed h = absurd h
  is_synth ending.Explained h = absurd h
  is_synth ending.Met h = absurd h
  is_synth (ending.NotLowered reason) h = absurd h
  is_synth (ending.NotTagged span) h = absurd h
  is_synth ending.ReadFault h = absurd h
  is_synth ending.WriteFault h = absurd h
  is_synth ending.TooLong h = absurd h
  is_synth ending.Memory h = absurd h

  writes : (x : Ending) → HasResult budget x → writes_nothing x ≡ false
  writes ending.Completed h = refl
  writes (ending.NoCompletion pairs) h = refl
  writes (ending.SpentRounds pairs best) h = refl
  writes (ending.SpentConflicts pairs q f log best) h = refl
  writes ending.HelpShown h = absurd h
  writes ending.Accepted h = absurd h
  writes (ending.Rejected why) h = absurd h
  writes (ending.NotCertificate why) h = absurd h
  writes ending.VersionShown h = absurd h
  writes ending.NotALine h = absurd h
  writes ending.ExecDone h = absurd h
  writes (ending.ExecFailed span) h = absurd h
  writes (ending.ExecSkipped span) h = absurd h
  writes (ending.NotText fault) h = absurd h
  writes (ending.NotTyped fault) h = absurd h
  writes (ending.TooLarge reason) h = absurd h
  writes (ending.NotRun reason) h = absurd h
  writes (ending.NotFilled reason) h = absurd h
  writes ending.Lowered h = absurd h
  writes ending.Pruned h = absurd h
  writes ending.Listed h = absurd h
  writes ending.Explained h = absurd h
  writes ending.Met h = absurd h
  writes (ending.NotLowered reason) h = absurd h
  writes (ending.NotTagged span) h = absurd h
  writes ending.ReadFault h = absurd h
  writes ending.WriteFault h = absurd h
  writes ending.TooLong h = absurd h
  writes ending.Memory h = absurd h

  -- a text with one is taken, and that is all that it tells
  module _ (set : Set) (cert : Bool) (text out : List ℕ) (a b c d : ℕ) where
    taken : (x : Ending) → IsResultOf set budget cert text x out → IsTaken set text
    taken ending.Completed h = record { bounds = h.bounds; e = h.e; built = h.only.built }
    taken (ending.NoCompletion pairs) h = record { bounds = h.bounds; e = h.e; built = h.only.built }
    taken (ending.SpentRounds pairs best) h = record { bounds = h.bounds; e = h.e; built = h.only.built }
    taken (ending.SpentConflicts pairs q f log best) h = record { bounds = h.bounds; e = h.e; built = h.only.built }
    taken ending.HelpShown h = absurd h
    taken ending.Accepted h = absurd h
    taken (ending.Rejected why) h = absurd h
    taken (ending.NotCertificate why) h = absurd h
    taken ending.VersionShown h = absurd h
    taken ending.NotALine h = absurd h
    taken ending.ExecDone h = absurd h
    taken (ending.ExecFailed span) h = absurd h
    taken (ending.ExecSkipped span) h = absurd h
    taken (ending.NotText fault) h = absurd h
    taken (ending.NotTyped fault) h = absurd h
    taken (ending.TooLarge reason) h = absurd h
    taken (ending.NotRun reason) h = absurd h
    taken (ending.NotFilled reason) h = absurd h
    taken ending.Lowered h = absurd h
    taken ending.Pruned h = absurd h
    taken ending.Listed h = absurd h
    taken ending.Explained h = absurd h
    taken ending.Met h = absurd h
    taken (ending.NotLowered reason) h = absurd h
    taken (ending.NotTagged span) h = absurd h
    taken ending.ReadFault h = absurd h
    taken ending.WriteFault h = absurd h
    taken ending.TooLong h = absurd h
    taken ending.Memory h = absurd h

    tells : (x : Ending) → HasResult budget x → IsTaken set text → IsToldOf set text x a b c d
    tells ending.Completed h t = t
    tells (ending.NoCompletion pairs) h t = t
    tells (ending.SpentRounds pairs best) h t = t
    tells (ending.SpentConflicts pairs q f log best) h t = t
    tells ending.HelpShown h t = absurd h
    tells ending.Accepted h t = absurd h
    tells (ending.Rejected why) h t = absurd h
    tells (ending.NotCertificate why) h t = absurd h
    tells ending.VersionShown h t = absurd h
    tells ending.NotALine h t = absurd h
    tells ending.ExecDone h t = absurd h
    tells (ending.ExecFailed span) h t = absurd h
    tells (ending.ExecSkipped span) h t = absurd h
    tells (ending.NotText fault) h t = absurd h
    tells (ending.NotTyped fault) h t = absurd h
    tells (ending.TooLarge reason) h t = absurd h
    tells (ending.NotRun reason) h t = absurd h
    tells (ending.NotFilled reason) h t = absurd h
    tells ending.Lowered h t = absurd h
    tells ending.Pruned h t = absurd h
    tells ending.Listed h t = absurd h
    tells ending.Explained h t = absurd h
    tells ending.Met h t = absurd h
    tells (ending.NotLowered reason) h t = absurd h
    tells (ending.NotTagged span) h t = absurd h
    tells ending.ReadFault h t = absurd h
    tells ending.WriteFault h t = absurd h
    tells ending.TooLong h t = absurd h
    tells ending.Memory h t = absurd h

-- A result text that is delivered, cut off, or without room

module _ (budget : Budget) (r done : Ending) (bytes : List ℕ) (c d : ℕ) (old new : Option (List ℕ)) (has : HasResult budget done) (by : IsDelivered r done bytes c d old new) where
  -- another ending does not come
  not_of : {A : Type 0} (x : Ending) → (HasResult budget x → ⊥) → (ending.WriteFault ≡ x → ⊥) → (ending.Memory ≡ x → ⊥) → r ≡ x → A
  not_of x never wf mem e = elim by [ delivered is w ↦ absurd (never (subst (HasResult budget) (sym is ∙ e) has)) | cut is w ↦ absurd (wf (sym is ∙ e)) | no_room is same ↦ absurd (mem (sym is ∙ e)) ]

  pub ends_by : IsTrue (is_of_synth r)
  ends_by = elim by [
    | delivered is w ↦ subst (λ x. IsTrue (is_of_synth x)) (sym is) (is_synth budget done has)
    | cut is w ↦ subst (λ x. IsTrue (is_of_synth x)) (sym is) refl
    | no_room is same ↦ subst (λ x. IsTrue (is_of_synth x)) (sym is) refl
  ]

  -- an ending that is neither a fault of the sink nor want of memory is the one that was to come
  pub is_done : (x : Ending) → (ending.WriteFault ≡ x → ⊥) → (ending.Memory ≡ x → ⊥) → r ≡ x → done ≡ x
  is_done x wf mem e = elim by [ delivered is w ↦ sym is ∙ e | cut is w ↦ absurd (wf (sym is ∙ e)) | no_room is same ↦ absurd (mem (sym is ∙ e)) ]

  pub has_by : (x : Ending) → (ending.WriteFault ≡ x → ⊥) → (ending.Memory ≡ x → ⊥) → r ≡ x → HasResult budget x
  has_by x wf mem e = subst (HasResult budget) (is_done x wf mem e) has

  pub no_type_fault : {A : Type 0} (f : TypeFault) → r ≡ ending.NotTyped f → A
  no_type_fault f e = not_of (ending.NotTyped f) (λ h. h) (λ q. cc) (λ q. cc) e

  pub no_read_fault : {A : Type 0} → r ≡ ending.ReadFault → A
  no_read_fault e = not_of ending.ReadFault (λ h. h) (λ q. cc) (λ q. cc) e

  pub rose_by : r ≡ ending.WriteFault → Rose c d
  rose_by e = elim by [ delivered is w ↦ absurd (subst (HasResult budget) (sym is ∙ e) has) | cut is w ↦ w.rose | no_room is same ↦ (let q = sym is ∙ e in cc) ]

  pub kept_by : IsTrue (writes_nothing r) → new ≡ old
  kept_by k = elim by [
    | delivered is w ↦ absurd (false≢true (sym (writes budget done has) ∙ ap writes_nothing (sym is) ∙ k))
    | cut is w ↦ absurd (false≢true (ap writes_nothing (sym is) ∙ k))
    | no_room is same ↦ same
  ]

  module _ (set : Set) (cert : Bool) (out : Vec ℕ Global) (same : bytes ≡ out.items) where
    -- what is written
    pub written_by : (left : Option (List ℕ)) → IfSome left (Finds set budget cert (found.Ended out done)) → (x : Ending) → (ending.WriteFault ≡ x → ⊥) → (ending.Memory ≡ x → ⊥) → r ≡ x → IfSome left (λ text. Writes (IsResultOf set budget cert text x) old new)
    written_by None h x wf mem e = tt
    written_by (Some text) h x wf mem e = elim by [
      | delivered is w ↦ record { out = bytes; is = subst (λ y. IsResultOf set budget cert text y bytes) (sym is ∙ e) (subst (IsResultOf set budget cert text done) (sym same) h.found); appends = w.appends }
      | cut is w ↦ absurd (wf (sym is ∙ e))
      | no_room is room ↦ absurd (mem (sym is ∙ e))
    ]

    pub prefix_by : (left : Option (List ℕ)) → IfSome left (Finds set budget cert (found.Ended out done)) → r ≡ ending.WriteFault → IfSome left (λ text. WritesPart (IsResult set budget cert text) old new)
    prefix_by None h e = tt
    prefix_by (Some text) h e = elim by [
      | delivered is w ↦ absurd (subst (HasResult budget) (sym is ∙ e) has)
      | cut is w ↦ record { out = bytes; is = record { ending = done; is = subst (IsResultOf set budget cert text done) (sym same) h.found }; appends = w.appends }
      | no_room is room ↦ (let q = sym is ∙ e in cc)
    ]

    pub told_by : (left : Option (List ℕ)) (a b : ℕ) → IfSome left (Finds set budget cert (found.Ended out done)) → IfSome left (λ text. IsToldOf set text r a b c d)
    told_by None a b h = tt
    told_by (Some text) a b h =
        let t = taken budget set cert text out.items a b c d done h.found in
        elim by [
          | delivered is w ↦ subst (λ x. IsToldOf set text x a b c d) (sym is) (tells budget set cert text out.items a b c d done has t)
          | cut is w ↦ subst (λ x. IsToldOf set text x a b c d) (sym is) (w.rose, t)
          | no_room is room ↦ subst (λ x. IsToldOf set text x a b c d) (sym is) tt
        ]
