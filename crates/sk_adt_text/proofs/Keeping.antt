-- A text that is written keeps to its variants.
use Rattle.std.proofs.Common.{◌≡◌, ℕ, ◌≤◌, List, Option, Some, None, sym, ap, subst, arith}
use Rattle.std.specs.Prelude.{Result, Ok, Err, IfOk, unwrap_or}
use Rattle.sk_base.specs.declared.bounds.Bounds.{Bounds}
use Rattle.sk_tree.specs.declared.item.Tree.{Tree}
use Rattle.sk_print.specs.Layout.{layout}
use Rattle.sk_print.specs.Shows.{Shows}
use Rattle.sk_opts.specs.declared.line.Set.{Set}
use Rattle.sk_opts.specs.declared.setting.Setting.TheVariants.{IntBits}
use Rattle.sk_opts.specs.BoundsOf.{bounds_of}
use Rattle.sk_opts.specs.Ranges.{LiesIn, IsInRanges}
use Rattle.sk_front.specs.declared.fault.SketchFault.{SketchFault}
use Rattle.sk_adt_text_laws.specs.Lowered.{IsLoweredProgram}
use Rattle.sk_adt_text_laws.proofs.Tags.{tags}
use Rattle.sk_adt_text_laws.proofs.Rules.{rules}
use Rattle.sk_adt_text_laws.proofs.Composed.{runs}
use Rattle.sk_adt_text_laws.proofs.Shown.{shown}
use Rattle.sk_adt_text.specs.declared.lowering.Lowering.{Lowering}
use Rattle.sk_adt_text.specs.declared.lowering.Lowering.TheVariants as lowering
use Rattle.sk_adt_text.specs.PlainTexts.{IsLowering}
use Rattle.sk_adt_text.specs.Kept.{IsKept, TextsKeepVariants}

-- an integer has at most 32 bits where options are in their ranges
few_bits : (set : Set) (tree : Tree) (bounds : Bounds) → IsInRanges set → bounds ≡ bounds_of set tree → bounds.int_bits ≤ 32
unfolding bounds_of
few_bits set tree bounds ranges given = subst (λ n. n ≤ 32) (sym (ap (λ (b : Bounds). b.int_bits) given)) (go set.int_bits ranges.int_bits)
  where
    go : (o : Option ℕ) → LiesIn IntBits o → unwrap_or o 16 ≤ 32
    go None h = omega arith
    go (Some n) h = h.1

pub texts_keep : TextsKeepVariants
texts_keep set text out ranges x =
    let f = x.is_form in
    let h = x.holds in
    let is : IsLoweredProgram f.tokens x.form h.tree h.bounds h.prog = record { lowered_is = f.lowered_is; reads = (h.means).reads; types = (h.means).types } in
    let shows : Shows (layout h.prog) h.bounds h.prog = shown text f.tokens x.form h.tree h.bounds h.prog (few_bits set h.tree h.bounds ranges (h.means).given) f.lexed is in
    record {
      form = x.form;
      is_form = f;
      holds = record {
        tree = h.tree;
        bounds = h.bounds;
        prog = h.prog;
        means = h.means;
        is = h.is;
        tags = tags f.tokens x.form h.tree h.bounds h.prog is;
        rules = rules f.tokens x.form h.tree h.bounds h.prog is;
        runs = runs f.tokens x.form h.tree h.bounds h.prog is h.tagged;
        shows = subst (λ t. Shows t h.bounds h.prog) (sym h.is) shows;
      };
    }

kept : (set : Set) (text : List ℕ) (a : Lowering) → IsInRanges set → IsLowering set text a → IsKept set text a
kept set text (lowering.NotLowered reason) ranges x = tt
kept set text (lowering.NotTagged span) ranges x = tt
kept set text (lowering.Plain out) ranges x = texts_keep set text out.items ranges x

pub all_kept : (set : Set) (text : List ℕ) (r : Result Lowering SketchFault) → IsInRanges set → IfOk r (IsLowering set text) → IfOk r (IsKept set text)
all_kept set text (Ok a) ranges x = kept set text a ranges x
all_kept set text (Err f) ranges x = tt
