-- What is told of a text is all that can be told of it: which endings there are for a text, by its cause.
use Rattle.std.proofs.Common.{ℕ, List, ◌≤◌, ◌<◌, length, refl, sym, ap, arith}
use Rattle.sk_base.specs.declared.bounds.Bounds.{Bounds}
use Rattle.sk_base.specs.declared.bounds.Budget.{Budget}
use Rattle.sk_types_laws.specs.declared.fault.TypeFault.{TypeFault}
use Rattle.sk_types_laws.specs.declared.fault.Rule.TheVariants as rule
use Rattle.sk_expand_sizes.specs.declared.fault.SizeFault.{SizeFault}
use Rattle.sk_model.specs.declared.expanded.Expanded.{Expanded}
use Rattle.sk_opts.specs.declared.line.Set.{Set}
use Rattle.sk_front.specs.declared.fault.TextFault.{TextFault}
use Rattle.sk_front.specs.declared.fault.SketchFault.{SketchFault}
use Rattle.sk_front.specs.declared.fault.SketchFault.TheVariants as fault
use Rattle.sk_front.specs.Texts.{most_bytes, IsTextFault}
use Rattle.sk_front.specs.Front.{IsUntyped, IsTooLarge, IsCause, IsSame, IsFaultOfSizes}
use Rattle.sk_front.proofs.FrontLaws.{one_cause, sizes_or_cause}
use Rattle.sk_app.specs.declared.ending.Ending.{Ending}
use Rattle.sk_app.specs.declared.ending.Ending.TheVariants as ending
use Rattle.sk_all_text.specs.Built.{IsBuilt, IsTaken}
use Rattle.sk_app.specs.Ends.{IsToldOf}
use Rattle.sk_app.proofs.Endings.{EndsBuilt, EndsFaulty, EndsUntyped, EndsLarge, EndsLong}

-- a fault of types: of a text that has one, no definition says which is told
pub some_fault : TypeFault
some_fault = record { rule = rule.Mismatch; span = record { from = 0; to = 0 } }

-- an ending for a spent budget comes only where that budget is not 0, and those of a line `all` or `why` do not come
abbrev pub IsAllowed : Budget → Ending → Type 0
IsAllowed budget (ending.SpentRounds pairs best) = 0 < budget.rounds
IsAllowed budget (ending.SpentConflicts pairs q f log best) = 0 < budget.conflicts
IsAllowed budget ending.Listed = ⊥
IsAllowed budget ending.Explained = ⊥
IsAllowed budget ending.Met = ⊥
IsAllowed budget _ = Unit {0}

module _ (set : Set) (text : List ℕ) where
  -- a text that is taken has no cause

  pub taken_or_cause : {A : Type 0} (f : SketchFault) → IsTaken set text → IsCause (IsFaultOfSizes set text) f → A
  taken_or_cause f t cause = let b = t.built in absurd (sizes_or_cause set text b.tree t.bounds b.prog t.e f b.sized cause)

  -- two causes are one
  one : {A : Type 0} (f g : SketchFault) → IsCause (IsFaultOfSizes set text) f → IsCause (IsFaultOfSizes set text) g → (IsSame f g → A) → A
  one f g x y k = k (one_cause set text f g x y)

  too_long : {A : Type 0} → length text ≤ most_bytes → most_bytes < length text → A
  too_long short long = absurd (omega (arith, short, long))

  short_of : IsTaken set text → length text ≤ most_bytes
  short_of t = t.built.sized.typed.short

  module _ (a b c d : ℕ) where
    pub ends_built : (budget : Budget) (r : Ending) → IsAllowed budget r → IsToldOf set text r a b c d → (bounds : Bounds) (e : Expanded) → IsBuilt set text bounds e → EndsBuilt budget r a b c d
    ends_built budget ending.Completed some h bounds e is = tt
    ends_built budget (ending.NoCompletion pairs) some h bounds e is = tt
    ends_built budget (ending.SpentRounds pairs best) some h bounds e is = some
    ends_built budget (ending.SpentConflicts pairs q formula log best) some h bounds e is = some
    ends_built budget ending.Memory some h bounds e is = tt
    ends_built budget ending.ReadFault some h bounds e is = h
    ends_built budget ending.WriteFault some h bounds e is = h.0
    ends_built budget (ending.NotText f) some h bounds e is = taken_or_cause (fault.NotText f) (record { bounds = bounds; e = e; built = is }) h.1
    ends_built budget (ending.NotTyped f) some h bounds e is = taken_or_cause (fault.NotTyped f) (record { bounds = bounds; e = e; built = is }) h.1
    ends_built budget (ending.TooLarge s) some h bounds e is = taken_or_cause (fault.TooLarge s) (record { bounds = bounds; e = e; built = is }) h
    ends_built budget ending.TooLong some h bounds e is = too_long is.sized.typed.short h
    ends_built budget ending.NotALine some h bounds e is = absurd h
    ends_built budget ending.HelpShown some h bounds e is = absurd h
    ends_built budget ending.Accepted some h bounds e is = absurd h
    ends_built budget (ending.Rejected why) some h bounds e is = absurd h
    ends_built budget (ending.NotCertificate why) some h bounds e is = absurd h
    ends_built budget ending.VersionShown some h bounds e is = absurd h
    ends_built budget ending.ExecDone some h bounds e is = absurd h
    ends_built budget (ending.ExecFailed span) some h bounds e is = absurd h
    ends_built budget (ending.ExecSkipped span) some h bounds e is = absurd h
    ends_built budget (ending.NotRun reason) some h bounds e is = absurd h
    ends_built budget (ending.NotFilled reason) some h bounds e is = absurd h
    ends_built budget ending.Lowered some h bounds e is = absurd h
    ends_built budget ending.Pruned some h bounds e is = absurd h
    ends_built budget ending.Listed some h bounds e is = absurd some
    ends_built budget ending.Explained some h bounds e is = absurd some
    ends_built budget ending.Met some h bounds e is = absurd some
    ends_built budget (ending.NotLowered reason) some h bounds e is = absurd h
    ends_built budget (ending.NotTagged span) some h bounds e is = absurd h

    pub ends_faulty : (r : Ending) → IsToldOf set text r a b c d → length text ≤ most_bytes → (f : TextFault) → IsTextFault f text → EndsFaulty f r a b
    ends_faulty ending.Completed h short f is = taken_or_cause (fault.NotText f) h is
    ends_faulty (ending.NoCompletion pairs) h short f is = taken_or_cause (fault.NotText f) h is
    ends_faulty (ending.SpentRounds pairs best) h short f is = taken_or_cause (fault.NotText f) h is
    ends_faulty (ending.SpentConflicts pairs q formula log best) h short f is = taken_or_cause (fault.NotText f) h is
    ends_faulty ending.Memory h short f is = tt
    ends_faulty ending.ReadFault h short f is = h
    ends_faulty ending.WriteFault h short f is = taken_or_cause (fault.NotText f) h.1 is
    ends_faulty (ending.NotText g) h short f is = one (fault.NotText f) (fault.NotText g) is h.1 (λ same. same)
    ends_faulty (ending.NotTyped g) h short f is = one (fault.NotText f) (fault.NotTyped g) is h.1 (λ same. absurd same)
    ends_faulty (ending.TooLarge s) h short f is = one (fault.NotText f) (fault.TooLarge s) is h (λ same. absurd same)
    ends_faulty ending.TooLong h short f is = too_long short h
    ends_faulty ending.NotALine h short f is = absurd h
    ends_faulty ending.HelpShown h short f is = absurd h
    ends_faulty ending.Accepted h short f is = absurd h
    ends_faulty (ending.Rejected why) h short f is = absurd h
    ends_faulty (ending.NotCertificate why) h short f is = absurd h
    ends_faulty ending.VersionShown h short f is = absurd h
    ends_faulty ending.ExecDone h short f is = absurd h
    ends_faulty (ending.ExecFailed span) h short f is = absurd h
    ends_faulty (ending.ExecSkipped span) h short f is = absurd h
    ends_faulty (ending.NotRun reason) h short f is = absurd h
    ends_faulty (ending.NotFilled reason) h short f is = absurd h
    ends_faulty ending.Lowered h short f is = absurd h
    ends_faulty ending.Pruned h short f is = absurd h
    ends_faulty ending.Listed h short f is = taken_or_cause (fault.NotText f) h is
    ends_faulty ending.Explained h short f is = taken_or_cause (fault.NotText f) h is
    ends_faulty ending.Met h short f is = taken_or_cause (fault.NotText f) h is
    ends_faulty (ending.NotLowered reason) h short f is = absurd h
    ends_faulty (ending.NotTagged span) h short f is = absurd h

    pub ends_untyped : (r : Ending) → IsToldOf set text r a b c d → length text ≤ most_bytes → IsUntyped set text → EndsUntyped r a b
    ends_untyped ending.Completed h short n = taken_or_cause (fault.NotTyped some_fault) h n
    ends_untyped (ending.NoCompletion pairs) h short n = taken_or_cause (fault.NotTyped some_fault) h n
    ends_untyped (ending.SpentRounds pairs best) h short n = taken_or_cause (fault.NotTyped some_fault) h n
    ends_untyped (ending.SpentConflicts pairs q formula log best) h short n = taken_or_cause (fault.NotTyped some_fault) h n
    ends_untyped ending.Memory h short n = tt
    ends_untyped ending.ReadFault h short n = h
    ends_untyped ending.WriteFault h short n = taken_or_cause (fault.NotTyped some_fault) h.1 n
    ends_untyped (ending.NotText g) h short n = one (fault.NotTyped some_fault) (fault.NotText g) n h.1 (λ same. absurd same)
    ends_untyped (ending.NotTyped g) h short n = tt
    ends_untyped (ending.TooLarge s) h short n = one (fault.NotTyped some_fault) (fault.TooLarge s) n h (λ same. absurd same)
    ends_untyped ending.TooLong h short n = too_long short h
    ends_untyped ending.NotALine h short n = absurd h
    ends_untyped ending.HelpShown h short n = absurd h
    ends_untyped ending.Accepted h short n = absurd h
    ends_untyped (ending.Rejected why) h short n = absurd h
    ends_untyped (ending.NotCertificate why) h short n = absurd h
    ends_untyped ending.VersionShown h short n = absurd h
    ends_untyped ending.ExecDone h short n = absurd h
    ends_untyped (ending.ExecFailed span) h short n = absurd h
    ends_untyped (ending.ExecSkipped span) h short n = absurd h
    ends_untyped (ending.NotRun reason) h short n = absurd h
    ends_untyped (ending.NotFilled reason) h short n = absurd h
    ends_untyped ending.Lowered h short n = absurd h
    ends_untyped ending.Pruned h short n = absurd h
    ends_untyped ending.Listed h short n = taken_or_cause (fault.NotTyped some_fault) h n
    ends_untyped ending.Explained h short n = taken_or_cause (fault.NotTyped some_fault) h n
    ends_untyped ending.Met h short n = taken_or_cause (fault.NotTyped some_fault) h n
    ends_untyped (ending.NotLowered reason) h short n = absurd h
    ends_untyped (ending.NotTagged span) h short n = absurd h

    pub ends_large : (r : Ending) → IsToldOf set text r a b c d → (s : SizeFault) → IsTooLarge set text s → EndsLarge s r a b
    ends_large ending.Completed h s is = taken_or_cause (fault.TooLarge s) h is
    ends_large (ending.NoCompletion pairs) h s is = taken_or_cause (fault.TooLarge s) h is
    ends_large (ending.SpentRounds pairs best) h s is = taken_or_cause (fault.TooLarge s) h is
    ends_large (ending.SpentConflicts pairs q formula log best) h s is = taken_or_cause (fault.TooLarge s) h is
    ends_large ending.Memory h s is = tt
    ends_large ending.ReadFault h s is = h
    ends_large ending.WriteFault h s is = taken_or_cause (fault.TooLarge s) h.1 is
    ends_large (ending.NotText g) h s is = one (fault.TooLarge s) (fault.NotText g) is h.1 (λ same. absurd same)
    ends_large (ending.NotTyped g) h s is = one (fault.TooLarge s) (fault.NotTyped g) is h.1 (λ same. absurd same)
    ends_large (ending.TooLarge t) h s is = one (fault.TooLarge s) (fault.TooLarge t) is h (λ same. ap ending.TooLarge (sym same))
    ends_large ending.TooLong h s is = too_long is.typed.short h
    ends_large ending.NotALine h s is = absurd h
    ends_large ending.HelpShown h s is = absurd h
    ends_large ending.Accepted h s is = absurd h
    ends_large (ending.Rejected why) h s is = absurd h
    ends_large (ending.NotCertificate why) h s is = absurd h
    ends_large ending.VersionShown h s is = absurd h
    ends_large ending.ExecDone h s is = absurd h
    ends_large (ending.ExecFailed span) h s is = absurd h
    ends_large (ending.ExecSkipped span) h s is = absurd h
    ends_large (ending.NotRun reason) h s is = absurd h
    ends_large (ending.NotFilled reason) h s is = absurd h
    ends_large ending.Lowered h s is = absurd h
    ends_large ending.Pruned h s is = absurd h
    ends_large ending.Listed h s is = taken_or_cause (fault.TooLarge s) h is
    ends_large ending.Explained h s is = taken_or_cause (fault.TooLarge s) h is
    ends_large ending.Met h s is = taken_or_cause (fault.TooLarge s) h is
    ends_large (ending.NotLowered reason) h s is = absurd h
    ends_large (ending.NotTagged span) h s is = absurd h

    pub ends_long : (r : Ending) → IsToldOf set text r a b c d → most_bytes < length text → EndsLong r a b
    ends_long ending.Completed h long = too_long (short_of h) long
    ends_long (ending.NoCompletion pairs) h long = too_long (short_of h) long
    ends_long (ending.SpentRounds pairs best) h long = too_long (short_of h) long
    ends_long (ending.SpentConflicts pairs q formula log best) h long = too_long (short_of h) long
    ends_long ending.Memory h long = tt
    ends_long ending.ReadFault h long = h
    ends_long ending.WriteFault h long = too_long (short_of h.1) long
    ends_long (ending.NotText g) h long = too_long h.0 long
    ends_long (ending.NotTyped g) h long = too_long h.0 long
    ends_long (ending.TooLarge t) h long = too_long h.typed.short long
    ends_long ending.TooLong h long = refl
    ends_long ending.NotALine h long = absurd h
    ends_long ending.HelpShown h long = absurd h
    ends_long ending.Accepted h long = absurd h
    ends_long (ending.Rejected why) h long = absurd h
    ends_long (ending.NotCertificate why) h long = absurd h
    ends_long ending.VersionShown h long = absurd h
    ends_long ending.ExecDone h long = absurd h
    ends_long (ending.ExecFailed span) h long = absurd h
    ends_long (ending.ExecSkipped span) h long = absurd h
    ends_long (ending.NotRun reason) h long = absurd h
    ends_long (ending.NotFilled reason) h long = absurd h
    ends_long ending.Lowered h long = absurd h
    ends_long ending.Pruned h long = absurd h
    ends_long ending.Listed h long = too_long (short_of h) long
    ends_long ending.Explained h long = too_long (short_of h) long
    ends_long ending.Met h long = too_long (short_of h) long
    ends_long (ending.NotLowered reason) h long = absurd h
    ends_long (ending.NotTagged span) h long = absurd h
