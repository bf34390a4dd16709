-- Why a certificate is rejected: the parts before hold, and this one does not.
use Rattle.std.specs.Prelude.{ℕ, ◌≡◌, ◌≢◌, ◌⊎◌, List, slice_get, Some}
use Rattle.sk_base.specs.declared.bounds.Bounds.{Bounds}
use Rattle.sk_model.specs.declared.expanded.Choice.{Choice}
use Rattle.sk_model.specs.declared.expanded.Expanded.{Expanded}
use Rattle.sk_model.specs.declared.expanded.Input.{Input}
use Rattle.sk_cnf.specs.declared.growing.Encoded.{Encoded}
use Rattle.sk_oblig_queries.specs.Queries.{AsksFor}
use Rattle.sk_cert.specs.declared.certificate.Proof.{Proof}
use Rattle.sk_cert.specs.declared.certificate.Certificate.{Certificate}
use Rattle.sk_cert_inputs.specs.Inputs.{AreListed}
use Rattle.sk_check_laws.specs.declared.reason.Reason.{Reason}
use Rattle.sk_check_laws.specs.declared.reason.Reason.TheVariants as reason
use Rattle.sk_check_laws.specs.Parts.{upper_query, lower_query, HasValues, HasInputs, HasUpper, HasLower, HasLayout}

-- the number of the part
abbrev pub part_number : Reason → ℕ
part_number reason.Values = 1
part_number reason.Inputs = 2
part_number reason.Upper = 3
part_number reason.Lower = 4
part_number reason.Text = 5
part_number (reason.Formula own) = 6

module _ (e : Expanded) (bounds : Bounds) (c : Certificate) where
  -- An upper part has another formula than this one, which asks for its query.
  pub record DiffersAbove (own : Encoded) : Type 0 where
    pub choice : Choice
    pub is_choice : c.choice ≡ Some choice
    pub number : ℕ
    pub part : Proof
    pub is_part : slice_get c.upper number ≡ Some part
    pub asks : AsksFor own e bounds (upper_query c.version choice c.value number)
    pub differs : own ≢ part.formula

  -- The lower part has.
  pub record DiffersBelow (own : Encoded) : Type 0 where
    pub inputs : List Input
    pub listed : AreListed e.prog bounds c.inputs inputs
    pub part : Proof
    pub is_part : c.lower ≡ Some part
    pub asks : AsksFor own e bounds (lower_query c.choice c.value inputs)
    pub differs : own ≢ part.formula

  abbrev pub IsRejected : Reason → Type 0
  IsRejected reason.Values = HasValues e bounds c → ⊥
  IsRejected reason.Inputs = HasValues e bounds c × (HasInputs e bounds c → ⊥)
  IsRejected reason.Upper = HasValues e bounds c × HasInputs e bounds c × (HasUpper e bounds c → ⊥)
  IsRejected reason.Lower = HasValues e bounds c × HasInputs e bounds c × HasUpper e bounds c × (HasLower e bounds c → ⊥)
  IsRejected reason.Text = HasValues e bounds c × HasInputs e bounds c × HasUpper e bounds c × HasLower e bounds c × (HasLayout e bounds c → ⊥)
  IsRejected (reason.Formula own) = HasValues e bounds c × HasInputs e bounds c × HasUpper e bounds c × HasLower e bounds c × HasLayout e bounds c × (DiffersAbove own ⊎ DiffersBelow own)
