-- The steps of a look at all clauses.
use Rattle.std.proofs.Common.{◌≡◌, ℕ, ◌+◌, ◌<◌, ◌≤◌, List, [], length, get_or, take, refl, sym, ◌∙◌, arith, subst}
use Rattle.std.specs.Prelude.{All}
use Rattle.std.proofs.lemmas.List.{take_all}
use Rattle.std.proofs.lemmas.List.Elements.{All-more}
use Rattle.sk_clause.specs.declared.lit.Lit.{Lit}
use Rattle.sk_clause.specs.Values.{IsSettled, open_count}
use Rattle.sk_rup.specs.declared.trail.Trail.{Trail}
use Rattle.sk_rup.specs.declared.look.Pass.{Pass}
use Rattle.sk_rup.specs.declared.look.Pass.TheVariants.{Falsified as Fails, More, Done}
use Rattle.sk_rup.specs.Steps.{Steps}
use Rattle.sk_rup.specs.Look.{IsPass}
use Rattle.sk_rup.proofs.StepLemmas.{steps_same, steps_more, within_after}

-- what the look has come to after some of the clauses
abbrev pub PassSoFar : List (List Lit) → ℕ → Trail → Trail → Pass → Type 0
PassSoFar known i old new Fails = ⊥
PassSoFar known i old new More = open_count new.values.items < open_count old.values.items
PassSoFar known i old new Done = (new ≡ old) × All (IsSettled old.values.items) (take i known)

pub pass_begins : (known : List (List Lit)) (old : Trail) → PassSoFar known 0 old old Done
pass_begins known old = (refl, λ k d l. absurd (omega arith))

module _ (known : List (List Lit)) (i : ℕ) (l : i < length known) (old now new : Trail) where
  pub pass_settled : (p : Pass) → PassSoFar known i old now p → new ≡ now → IsSettled now.values.items (get_or known i []) → PassSoFar known (i + 1) old new p
  pass_settled Fails h e s = h
  pass_settled More h e s = subst (λ (t : Trail). open_count t.values.items < open_count old.values.items) (sym e) h
  pass_settled Done h e s = (e ∙ h.0, All-more (IsSettled old.values.items) known i [] l h.1 (subst (λ (t : Trail). IsSettled t.values.items (get_or known i [])) h.0 s))

  pub pass_forced : Steps known old now → open_count new.values.items < open_count now.values.items → PassSoFar known (i + 1) old new More
  pass_forced s h = omega (arith, s.fewer)

pub pass_ends : (known : List (List Lit)) (old new : Trail) (p : Pass) (i : ℕ) → length known ≤ i → PassSoFar known i old new p → IsPass known old new p
pass_ends known old new Fails i l h = absurd h
pass_ends known old new More i l h = h
pass_ends known old new Done i l h = (h.0, subst (All (IsSettled old.values.items)) (take_all i known l) h.1)

pub ruleset passes = (pass_begins, pass_settled, pass_forced, pass_ends, steps_same, steps_more, within_after)
