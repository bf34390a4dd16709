-- What a search says of why there is no completion.
use Rattle.std.proofs.Common.{◌≡◌, ◌⊎◌, inl, ℕ, List, [], ◌∷◌, Some, None, refl, sym, subst, ap, ◌∙◌, arith}
use Rattle.std.specs.Prelude.{All, slice_get}
use Rattle.std.proofs.lemmas.Option.{none-some}
use Rattle.sk_base.specs.declared.bounds.Bounds.{Bounds}
use Rattle.sk_base.specs.declared.bounds.Budget.{Budget}
use Rattle.sk_model.specs.declared.expanded.Choice.{Choice}
use Rattle.sk_model.specs.declared.expanded.Expanded.{Expanded}
use Rattle.sk_model.specs.declared.expanded.Input.{Input}
use Rattle.sk_model.specs.declared.expanded.Pair.{Pair}
use Rattle.sk_model.specs.Inputs.{IsInput}
use Rattle.sk_loop.specs.Formulas.{IsAskable}
use Rattle.sk_loop_laws.specs.Honest.{Honest, inputs_of}
use Rattle.sk_loop_laws.specs.Shown.{Completes, HasRoom, NonePasses as NonePassesWithin}
use Rattle.sk_loop_laws.proofs.Completing.{completes_is_wanted}
use Rattle.sk_loop_laws.proofs.Pairs.{honest_are_inputs, inputs_are_distinct}
use Rattle.sk_min_laws.specs.Best.{Meeting}
use Rattle.sk_all.specs.Reasons.{AreDistinct, Explains, NonePasses}
use Rattle.sk_all.proofs.Thinning.{each_apart}

-- there are no pairs yet
pub no_pairs : (e : Expanded) (bounds : Bounds) → Honest e bounds []
no_pairs e bounds = record { each = λ i p h. absurd (none-some p h) }

pub room : (budget : Budget) (pairs : List Pair) → budget.rounds ≡ 0 → HasRoom budget pairs
room budget pairs none = inl none

pub meets : (e : Expanded) (bounds : Bounds) (c : Choice) → Completes e bounds None c → Meeting e bounds c
meets e bounds c h = record { range = h.range; meets = h.meets }

module _ (e : Expanded) (bounds : Bounds) (pairs : List Pair) (inputs : List Input) (is : inputs ≡ inputs_of pairs) where
  pub are_inputs : Honest e bounds pairs → All (IsInput e.prog bounds) inputs
  are_inputs h = subst (λ (xs : List Input). All (IsInput e.prog bounds) xs) (sym is) (honest_are_inputs e bounds pairs h)

  pub distinct : Honest e bounds pairs → AreDistinct inputs
  distinct h = subst AreDistinct (sym is) (each_apart (inputs_of pairs) (inputs_are_distinct e bounds pairs h))

  pub none : NonePassesWithin e bounds (inputs_of pairs) None → NonePasses e bounds inputs
  none h = subst (λ (xs : List Input). NonePasses e bounds xs) (sym is) (record { none = h.passes })

-- where no choice passes some inputs, none meets its obligations
pub none_meets : (e : Expanded) (bounds : Bounds) (inputs : List Input) → NonePassesWithin e bounds inputs None → (c : Choice) → Meeting e bounds c → ⊥
none_meets e bounds inputs h c m = h.completes c (record { range = m.range; meets = m.meets; within = tt })

pub ruleset answering = (no_pairs, room, meets, are_inputs, distinct, none, none_meets)
