-- What a line `lower` wrote keeps what its types say, and what a line `prune` wrote keeps its runs.
use Rattle.std.proofs.Common.{◌≡◌, ℕ, List, Option, Some, None}
use Rattle.std.specs.Prelude.{IfSome}
use Rattle.sk_opts.specs.declared.line.Set.{Set}
use Rattle.sk_opts.specs.declared.line.Line.TheVariants as line
use Rattle.sk_opts.specs.CommandLine.{IsLine}
use Rattle.sk_opts.specs.Ranges.{IsInRanges}
use Rattle.sk_opts.proofs.InRange.{line_in_ranges}
use Rattle.sk_opts.proofs.LineLaws.{line_is_found}
use Rattle.sk_adt_text.specs.PlainTexts.{HasPlainForm, IsLoweredText}
use Rattle.sk_adt_text.specs.Kept.{KeepsVariants}
use Rattle.sk_adt_text.proofs.Keeping.{texts_keep}
use Rattle.sk_app.specs.declared.ending.Ending.{Ending}
use Rattle.sk_app.specs.declared.ending.Ending.TheVariants as ending
use Rattle.sk_prune_text.specs.PrunedTexts.{IsPrunedText}
use Rattle.sk_prune_text.specs.Kept.{KeepsRuns}
use Rattle.sk_prune_text.proofs.Keeping.{texts_keep_runs}
use Rattle.sk_app.specs.Lines.{ForLower, ForPrune}
use Rattle.sk_app.specs.Ends.{Writes}
use Rattle.sk_app.specs.Effects.{Answers}
use Rattle.sk_app.specs.Call.{Effect}
use Rattle.sk_app.proofs.EffectLaws.{lowered, pruned}

in_ranges : (words : List (List ℕ)) (set : Set) → IsLine words (line.Lower set) → IsInRanges set
in_ranges words set is = line_in_ranges words (line.Lower set) (line_is_found words (line.Lower set) is)

written : (set : Set) → IsInRanges set → (old new left : Option (List ℕ)) → IfSome left (λ text. Writes (IsLoweredText set text) old new) → IfSome left (λ text. Writes (λ out. HasPlainForm text (KeepsVariants set out)) old new)
written set ranges old new None h = h
written set ranges old new (Some text) h = record { out = h.out; is = texts_keep set text h.out ranges h.is; appends = h.appends }

prune_ranges : (words : List (List ℕ)) (set : Set) → IsLine words (line.Prune set) → IsInRanges set
prune_ranges words set is = line_in_ranges words (line.Prune set) (line_is_found words (line.Prune set) is)

left_written : (set : Set) → IsInRanges set → (old new left : Option (List ℕ)) → IfSome left (λ text. Writes (IsPrunedText set text) old new) → IfSome left (λ text. Writes (KeepsRuns set text) old new)
left_written set ranges old new None h = h
left_written set ranges old new (Some text) h = record { out = h.out; is = texts_keep_runs set text h.out ranges h.is; appends = h.appends }

module _ {words : List (List ℕ)} {r : Ending} {f : Effect} (the : Answers words r f) where
  pub kept_types : r ≡ ending.Lowered → ForLower words (λ set. IfSome f.left_old (λ text. Writes (λ out. HasPlainForm text (KeepsVariants set out)) f.held_old f.held_new))
  kept_types e =
      let s = lowered the e in
      record { set = s.set; is = s.is; holds = written s.set (in_ranges words s.set s.is) f.held_old f.held_new f.left_old s.holds }

  pub kept_functions : r ≡ ending.Pruned → ForPrune words (λ set. IfSome f.left_old (λ text. Writes (KeepsRuns set text) f.held_old f.held_new))
  kept_functions e =
      let s = pruned the e in
      record { set = s.set; is = s.is; holds = left_written s.set (prune_ranges words s.set s.is) f.held_old f.held_new f.left_old s.holds }
