-- Of each text with a line `prune` one thing holds: one text is written, or its expansion has a site, or it is refused for a cause.
use Rattle.std.proofs.Common.{◌≡◌, ℕ, List, [], refl, sym, ap, subst, ◌∙◌}
use Rattle.sk_base.specs.declared.bounds.Bounds.{Bounds}
use Rattle.sk_tree.specs.declared.item.Tree.{Tree}
use Rattle.sk_prog.specs.declared.prog.Prog.{Prog}
use Rattle.sk_print.specs.Layout.{layout}
use Rattle.sk_model.specs.declared.expanded.Expanded.{Expanded}
use Rattle.sk_prune.specs.Pruned.{IsPruned}
use Rattle.sk_opts.specs.declared.line.Set.{Set}
use Rattle.sk_front.specs.declared.expansion.Expansion.{Expansion}
use Rattle.sk_front.specs.Front.{IsExpandedTo, Expands}
use Rattle.sk_front.proofs.FrontLaws.{one_program, one_expansion, expansion_or_cause}
use Rattle.sk_prune_text.specs.declared.pruning.Pruning.{Pruning}
use Rattle.sk_prune_text.specs.declared.pruning.Pruning.TheVariants as pruning
use Rattle.sk_prune_text.specs.PrunedTexts.{IsTextOf, IsOpen, IsPrunedText, IsOpenText, IsPruning, IsAnswer, IsOpenAs, IsWrittenAs}
use Rattle.sk_prune_text.specs.Laws.{OneText, OpenOrPruned, NoCauseOfOpen, NoCauseOfPruned}
use Rattle.sk_prune_text.proofs.Once.{one_pruned}

-- two expansions of one text are one, under the same bounds
same_expansion : (set : Set) (text : List ℕ) (t u : Tree) (b c : Bounds) (p q : Prog) (d e : Expanded) → IsExpandedTo set text t b p d → IsExpandedTo set text u c q e → (b ≡ c) × (d ≡ e)
same_expansion set text t u b c p q d e x y = ((one_program set text t u b c p q x.typed y.typed).1, x.is ∙ one_expansion set text t u b c p q x.typed y.typed ∙ sym y.is)

one_text_of : (bounds : Bounds) (e : Expanded) (a b : List ℕ) → IsTextOf bounds e a → IsTextOf bounds e b → a ≡ b
one_text_of bounds e a b x y = x.is ∙ ap layout (one_pruned bounds e.prog x.left y.left x.pruned y.pruned) ∙ sym y.is

pub one_text : OneText
one_text set text a b x y =
    let same = same_expansion set text x.tree y.tree x.bounds y.bounds x.prog y.prog x.e y.e x.expanded y.expanded in
    one_text_of y.bounds y.e a b (subst (λ e. IsTextOf y.bounds e a) same.1 (subst (λ bounds. IsTextOf bounds x.e a) same.0 x.text_of)) y.text_of

pub open_or_pruned : OpenOrPruned
open_or_pruned set text out x y =
    let same = same_expansion set text x.tree y.tree x.bounds y.bounds x.prog y.prog x.e y.e x.expanded y.expanded in
    subst (λ e. IsOpen e) same.1 x.open_is (y.text_of).closed

pub no_cause_of_open : NoCauseOfOpen
no_cause_of_open set text told x y = expansion_or_cause set text x.tree x.bounds x.prog x.e told x.expanded y

pub no_cause_of_pruned : NoCauseOfPruned
no_cause_of_pruned set text out told x y = expansion_or_cause set text x.tree x.bounds x.prog x.e told x.expanded y

-- Answers

pub text_is : (bounds : Bounds) (e : Expanded) (left : Prog) (out : List ℕ) → e.sites ≡ [] → IsPruned bounds e.prog left → out ≡ layout left → IsTextOf bounds e out
text_is bounds e left out closed pruned is = record { closed = closed; left = left; pruned = pruned; is = is }

module _ (set : Set) (text : List ℕ) where
  pub pruning_of : (it : Expansion) (a : Pruning) → Expands set text it → IsAnswer it.bounds it.expanded a → IsPruning set text a
  pruning_of it pruning.Unfilled m is = record { tree = it.tree; bounds = it.bounds; prog = it.prog; e = it.expanded; expanded = m.expanded_to; open_is = is }
  pruning_of it (pruning.Pruned out) m is = record { tree = it.tree; bounds = it.bounds; prog = it.prog; e = it.expanded; expanded = m.expanded_to; text_of = is }

  open_as : (a : Pruning) → IsPruning set text a → IsOpenText set text → IsOpenAs a
  open_as pruning.Unfilled x w = refl
  open_as (pruning.Pruned out) x w = absurd (open_or_pruned set text out.items w x)

  written_as : (a : Pruning) → IsPruning set text a → (out : List ℕ) → IsPrunedText set text out → IsWrittenAs out a
  written_as pruning.Unfilled x out w = open_or_pruned set text out x w
  written_as (pruning.Pruned written) x out w = one_text set text written.items out x w

  pub open_answer : (it : Expansion) (a : Pruning) → Expands set text it → IsAnswer it.bounds it.expanded a → IsOpenText set text → IsOpenAs a
  open_answer it a m is = open_as a (pruning_of it a m is)

  pub pruned_answer : (it : Expansion) (a : Pruning) → Expands set text it → IsAnswer it.bounds it.expanded a → (out : List ℕ) → IsPrunedText set text out → IsWrittenAs out a
  pruned_answer it a m is = written_as a (pruning_of it a m is)
