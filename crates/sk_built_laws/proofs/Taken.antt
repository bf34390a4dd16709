-- The bounds and the expansion of a text that is taken are its only ones, and a search may ask them whatever it asks.
use Rattle.std.proofs.Common.{ℕ, ◌<◌, ◌≤◌, ◌^◌, List, ◌-◌, length, sym, subst, ◌∙◌, arith}
use Rattle.std.specs.Prelude.{IsTrue}
use Rattle.sk_base.specs.declared.bounds.Bounds.{Bounds}
use Rattle.sk_prog.specs.Fits.{prog_fits}
use Rattle.sk_model.specs.declared.expanded.Choice.{Choice}
use Rattle.sk_model.specs.declared.expanded.Expanded.{Expanded}
use Rattle.sk_model.specs.Expand.{expand}
use Rattle.sk_model.specs.Fill.{InRange}
use Rattle.sk_model.specs.Limits.{most_nodes}
use Rattle.sk_model.specs.Nodes.{nodes}
use Rattle.sk_expand_sites.specs.Needs.{HasItsSites, are_narrow}
use Rattle.sk_holes_choice_laws.specs.Meeting.{IsMetUnder}
use Rattle.sk_holes_choice_laws.proofs.Meeting.{choices_meet}
use Rattle.sk_oblig.specs.Formulas.{IsAskable}
use Rattle.sk_opts.specs.declared.line.Set.{Set}
use Rattle.sk_front.specs.declared.expansion.Expansion.{Expansion}
use Rattle.sk_front.specs.Front.{ExpandsWithin}
use Rattle.sk_front.proofs.FrontLaws.{one_program, one_expansion}
use Rattle.sk_front_laws.proofs.Whole.{texts_keep, texts_fit}
use Rattle.sk_built_laws.specs.Built.{IsBuilt, IsOnly, ForBuilt, IsReady}
use Rattle.sk_built_laws.proofs.Fillable.{has_its_sites, narrow_sites}

module _ (set : Set) (text : List ℕ) where
  pub only_of : (bounds : Bounds) (e : Expanded) → IsBuilt set text bounds e → IsOnly set text bounds e
  only_of bounds e built = record {
    built = built;
    only = λ b f is.
        let same = one_program set text is.tree built.tree b bounds is.prog built.prog is.sized.typed built.sized.typed in
        (same.1, is.sized.is ∙ one_expansion set text is.tree built.tree b bounds is.prog built.prog is.sized.typed built.sized.typed ∙ sym built.sized.is);
  }

  -- what is answered for a text is ready for a search
  pub ready_of : (x : Expansion) → ExpandsWithin set text x → IsReady set text x.bounds x.expanded
  ready_of x means = record {
    only = only_of x.bounds x.expanded (record { tree = x.tree; prog = x.prog; sized = means.sized_to });
    ranges = means.ranges;
    narrow = means.narrow;
  }

  -- what holds of its bounds and its expansion holds of those of the text
  pub for_answered : (x : Expansion) (Holds : Bounds → Expanded → Type 0) → ExpandsWithin set text x → Holds x.bounds x.expanded → ForBuilt set text Holds
  for_answered x Holds means holds = record { bounds = x.bounds; e = x.expanded; only = (ready_of x means).only; holds = holds }

  module _ (bounds : Bounds) (e : Expanded) (ready : IsReady set text bounds e) where
    pub its_sites : HasItsSites e
    its_sites = let b = ready.only.built in has_its_sites e b.prog bounds b.sized.is

    pub narrow : IsTrue (are_narrow e.sites)
    narrow = narrow_sites e.sites ready.narrow

    pub few : length e.sites ≤ 4294967296
    few = let most = ready.only.built.sized.sized.sites_fit in omega (arith, most)

    bits_low : 2 ≤ bounds.int_bits
    bits_low = ready.ranges.int_bits.0

    pub bits_high : bounds.int_bits ≤ 32
    bits_high = ready.ranges.int_bits.1

    inbits : bounds.inbits ≤ bounds.int_bits - 1
    inbits = ready.ranges.inbits_fit

    pub program_fits : IsTrue (prog_fits ready.only.built.prog)
    program_fits = let b = ready.only.built in texts_fit set text b.tree bounds b.prog b.sized.typed

    pub few_nodes : nodes (expand ready.only.built.prog bounds).prog < 2 ^ 64
    few_nodes =
        let b = ready.only.built in
        let most : nodes (expand b.prog bounds).prog ≤ 262144 = subst (λ z. nodes z.prog ≤ most_nodes) b.sized.is b.sized.sized.nodes_fit in
        omega (arith, most)

    met : (a : Choice) → InRange e a → IsMetUnder e a bounds
    met a range =
        let b = ready.only.built in
        let typed = texts_keep set text b.tree bounds b.prog b.sized.typed in
        subst (λ z. InRange z a → IsMetUnder z a bounds) (sym b.sized.is)
        (λ r. choices_meet bounds b.prog a (record { typed = typed; fits = program_fits; small = few_nodes; range = r }))
        range

    pub askable : IsAskable e bounds
    askable = record { sites = its_sites; narrow = narrow; low = bits_low; high = bits_high; inbits = inbits; met = met }
