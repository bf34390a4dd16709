-- A text that is written keeps its runs, and shows its program.
use Rattle.std.proofs.Common.{◌≡◌, ℕ, ◌-◌, ◌<◌, ◌≤◌, ◌^◌, List, [], Option, Some, None, min, refl, sym, ap, subst, ◌∙◌, arith}
use Rattle.std.specs.Prelude.{unwrap_or, slice_get}
use Rattle.std.proofs.Math.Nat.{min-le_right}
use Rattle.sk_base.specs.declared.bounds.Bounds.{Bounds}
use Rattle.sk_tree.specs.declared.item.Tree.{Tree}
use Rattle.sk_prog.specs.declared.ids.FunId.{FunId}
use Rattle.sk_prog.specs.declared.prog.Fun.{Fun}
use Rattle.sk_prog.specs.declared.prog.Prog.{Prog}
use Rattle.sk_print.specs.Layout.{layout}
use Rattle.sk_print.specs.Shows.{Shows}
use Rattle.sk_print_laws.proofs.ProgramShown.{programs_shown}
use Rattle.sk_model.specs.declared.expanded.Expanded.{Expanded}
use Rattle.sk_model.specs.Parts.{rank}
use Rattle.sk_model.specs.Expand.{expand}
use Rattle.sk_model.specs.Nodes.{nodes}
use Rattle.sk_model.specs.Limits.{most_nodes}
use Rattle.sk_model.specs.Sites.{sites}
use Rattle.sk_holes_laws.specs.Holes.{AreWide}
use Rattle.sk_holes_laws.specs.Expanded.{IsExpanded}
use Rattle.sk_expand_laws.proofs.Whole.{expansions_are}
use Rattle.sk_prune.specs.Stays.{Stays}
use Rattle.sk_prune.specs.Pruned.{trimmed_fun, trimmed_funs, renamed_fun, IsPruned}
use Rattle.sk_prune_laws.specs.Laws.{StaysIn, new_number}
use Rattle.sk_prune_laws.proofs.Runs.{pruned_runs, functions_stay}
use Rattle.sk_prune_laws.proofs.Typed.{pruned_keep_rules}
use Rattle.sk_opts.specs.declared.line.Set.{Set}
use Rattle.sk_opts.specs.declared.setting.Setting.TheVariants.{IntBits}
use Rattle.sk_opts.specs.BoundsOf.{bounds_of}
use Rattle.sk_opts.specs.Ranges.{LiesIn, IsInRanges}
use Rattle.sk_front.specs.Front.{IsExpandedTo}
use Rattle.sk_front_laws.proofs.Whole.{texts_keep, texts_fit}
use Rattle.sk_prune_text.specs.declared.pruning.Pruning.{Pruning}
use Rattle.sk_prune_text.specs.declared.pruning.Pruning.TheVariants as pruning
use Rattle.sk_prune_text.specs.PrunedTexts.{IsPruning}
use Rattle.sk_prune_text.specs.Kept.{IsLeft, IsKept, TextsKeepRuns}

-- The bounds

-- an integer has 2 to 32 bits where options are in their ranges
bits_between : (o : Option ℕ) → LiesIn IntBits o → (2 ≤ unwrap_or o 16) × (unwrap_or o 16 ≤ 32)
bits_between None h = (omega arith, omega arith)
bits_between (Some n) h = ((let low = h.0 in omega (arith, low)), h.1)

below : (x i : ℕ) → 2 ≤ i → min x (i - 1) < i
below x i two = let least = min-le_right x (i - 1) in omega (arith, two, least)

wide : (set : Set) (tree : Tree) (bounds : Bounds) → IsInRanges set → bounds ≡ bounds_of set tree → AreWide bounds × (bounds.int_bits ≤ 32)
unfolding bounds_of
wide set tree bounds ranges given =
    let bits = bits_between set.int_bits ranges.int_bits in
    subst (λ b. AreWide b × (b.int_bits ≤ 32)) (sym given) (record { two = bits.0; holes = below _ (unwrap_or set.int_bits 16) bits.0 }, bits.1)

-- The expansion

expanded_is : (set : Set) (text : List ℕ) (tree : Tree) (bounds : Bounds) (prog : Prog) (e : Expanded) → IsExpandedTo set text tree bounds prog e → IsExpanded bounds e
expanded_is set text tree bounds prog e x =
    let most : nodes (expand prog bounds).prog ≤ 262144 = subst (λ z. nodes z.prog ≤ most_nodes) x.is x.nodes_fit in
    let few : nodes (expand prog bounds).prog < 2 ^ 64 = omega (arith, most) in
    subst (λ z. IsExpanded bounds z) (sym x.is) (expansions_are bounds prog (texts_keep set text tree bounds prog x.typed) (texts_fit set text tree bounds prog x.typed) few)

-- a function that stays is left
left_is : (bounds : Bounds) (p q : Prog) → IsPruned bounds p q → (number : FunId) (f : Fun) → slice_get p.funs number.index ≡ Some f → Stays (trimmed_funs p bounds.int_bits) number.index → IsLeft bounds p q number f
left_is bounds p q h number f there stays =
    let s : StaysIn bounds p q h number = record { fun = f; there = there; stays = stays } in
    record {
      again = new_number bounds p q h number;
      fun = renamed_fun (rank h.funs.marks) (trimmed_fun p.consts bounds.int_bits f);
      there = functions_stay bounds p q h number s;
      name = refl;
      kind = refl;
      params = refl;
      result = refl;
      runs = λ args. pruned_runs bounds p q h number args s;
    }

pub texts_keep_runs : TextsKeepRuns
texts_keep_runs set text out ranges x =
    let t = x.text_of in
    let within = wide set x.tree x.bounds ranges x.expanded.typed.given in
    let is = expanded_is set text x.tree x.bounds x.prog x.e x.expanded in
    let none : sites x.bounds x.e.prog ≡ [] = sym is.sites ∙ t.closed in
    let rules = pruned_keep_rules x.bounds x.e t.left within.0 is none t.pruned in
    let shows : Shows (layout t.left) x.bounds t.left = programs_shown x.bounds t.left within.1 rules.0 rules.1 in
    record {
      tree = x.tree;
      bounds = x.bounds;
      prog = x.prog;
      e = x.e;
      expanded = x.expanded;
      closed = t.closed;
      left = t.left;
      pruned = t.pruned;
      stay = left_is x.bounds x.e.prog t.left t.pruned;
      is = t.is;
      rules = rules.0;
      shows = subst (λ o. Shows o x.bounds t.left) (sym t.is) shows;
    }

pub kept : (set : Set) (text : List ℕ) (a : Pruning) → IsInRanges set → IsPruning set text a → IsKept set text a
kept set text pruning.Unfilled ranges x = tt
kept set text (pruning.Pruned out) ranges x = texts_keep_runs set text out.items ranges x
