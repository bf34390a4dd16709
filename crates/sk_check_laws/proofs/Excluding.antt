-- A certificate is rejected for one part at most.
use Rattle.std.proofs.Common.{inl, inr, ◌<◌, arith}
use Rattle.std.proofs.lemmas.Bool.{cases_order}
use Rattle.sk_base.specs.declared.bounds.Bounds.{Bounds}
use Rattle.sk_model.specs.declared.expanded.Expanded.{Expanded}
use Rattle.sk_cert.specs.declared.certificate.Certificate.{Certificate}
use Rattle.sk_check_laws.specs.declared.reason.Reason.{Reason}
use Rattle.sk_check_laws.specs.declared.reason.Reason.TheVariants as reason
use Rattle.sk_check_laws.specs.Parts.{HasValues, HasInputs, HasUpper, HasLower, HasLayout, Certifies}
use Rattle.sk_check_laws.specs.Rejected.{IsRejected, part_number}
use Rattle.sk_check_laws.specs.Laws.{RejectedOnce, RejectedIsNotCertified}

module _ (e : Expanded) (bounds : Bounds) (c : Certificate) where
  -- the part for which a reason rejects holds; of the formulas nothing is said
  abbrev Holds : Reason → Type 0
  Holds reason.Values = HasValues e bounds c
  Holds reason.Inputs = HasInputs e bounds c
  Holds reason.Upper = HasUpper e bounds c
  Holds reason.Lower = HasLower e bounds c
  Holds reason.Text = HasLayout e bounds c
  Holds (reason.Formula own) = Unit {0}

  -- it does not hold where it is rejected
  fails : (r : Reason) → part_number r < 6 → IsRejected e bounds c r → Holds r → ⊥
  fails reason.Values low h = h
  fails reason.Inputs low h = h.1
  fails reason.Upper low h = h.2
  fails reason.Lower low h = h.3
  fails reason.Text low h = h.4
  fails (reason.Formula own) low h = absurd (omega (arith, low))

  -- and it holds where a later one is
  holds_before : (r s : Reason) → part_number r < part_number s → IsRejected e bounds c s → Holds r
  holds_before reason.Values reason.Values less h = absurd (omega (arith, less))
  holds_before reason.Values reason.Inputs less h = h.0
  holds_before reason.Values reason.Upper less h = h.0
  holds_before reason.Values reason.Lower less h = h.0
  holds_before reason.Values reason.Text less h = h.0
  holds_before reason.Values (reason.Formula own) less h = h.0
  holds_before reason.Inputs reason.Values less h = absurd (omega (arith, less))
  holds_before reason.Inputs reason.Inputs less h = absurd (omega (arith, less))
  holds_before reason.Inputs reason.Upper less h = h.1
  holds_before reason.Inputs reason.Lower less h = h.1
  holds_before reason.Inputs reason.Text less h = h.1
  holds_before reason.Inputs (reason.Formula own) less h = h.1
  holds_before reason.Upper reason.Values less h = absurd (omega (arith, less))
  holds_before reason.Upper reason.Inputs less h = absurd (omega (arith, less))
  holds_before reason.Upper reason.Upper less h = absurd (omega (arith, less))
  holds_before reason.Upper reason.Lower less h = h.2
  holds_before reason.Upper reason.Text less h = h.2
  holds_before reason.Upper (reason.Formula own) less h = h.2
  holds_before reason.Lower reason.Values less h = absurd (omega (arith, less))
  holds_before reason.Lower reason.Inputs less h = absurd (omega (arith, less))
  holds_before reason.Lower reason.Upper less h = absurd (omega (arith, less))
  holds_before reason.Lower reason.Lower less h = absurd (omega (arith, less))
  holds_before reason.Lower reason.Text less h = h.3
  holds_before reason.Lower (reason.Formula own) less h = h.3
  holds_before reason.Text reason.Values less h = absurd (omega (arith, less))
  holds_before reason.Text reason.Inputs less h = absurd (omega (arith, less))
  holds_before reason.Text reason.Upper less h = absurd (omega (arith, less))
  holds_before reason.Text reason.Lower less h = absurd (omega (arith, less))
  holds_before reason.Text reason.Text less h = absurd (omega (arith, less))
  holds_before reason.Text (reason.Formula own) less h = h.4
  holds_before (reason.Formula own) s less h = tt

  holds_certified : (r : Reason) → Certifies e bounds c → Holds r
  holds_certified reason.Values h = h.values
  holds_certified reason.Inputs h = h.inputs
  holds_certified reason.Upper h = h.upper
  holds_certified reason.Lower h = h.lower
  holds_certified reason.Text h = h.layout
  holds_certified (reason.Formula own) h = tt

  at_most_six : (r : Reason) → part_number r < 7
  at_most_six reason.Values = omega arith
  at_most_six reason.Inputs = omega arith
  at_most_six reason.Upper = omega arith
  at_most_six reason.Lower = omega arith
  at_most_six reason.Text = omega arith
  at_most_six (reason.Formula own) = omega arith

  not_both : (r s : Reason) → IsRejected e bounds c r → IsRejected e bounds c s → part_number r < part_number s → ⊥
  not_both r s h k less =
      let most = at_most_six s in
      fails r (omega (arith, less, most)) h (holds_before r s less k)

pub rejected_once : RejectedOnce
rejected_once e bounds c r s h k = elim (cases_order (part_number r) (part_number s)) [
  | inl same ↦ same
  | inr differ ↦ elim differ [ inl less ↦ absurd (not_both e bounds c r s h k less) | inr more ↦ absurd (not_both e bounds c s r k h more) ]
]

pub rejected_is_not_certified : RejectedIsNotCertified
rejected_is_not_certified e bounds c r early h all = fails e bounds c r early h (holds_certified e bounds c r all)
