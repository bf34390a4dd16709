-- What is said of a certificate, and what is known of it after its parts were looked at.
use Rattle.std.specs.Prelude.{ℕ, ◌≡◌, ◌<◌, List, slice_get, Some}
use Rattle.sk_base.specs.declared.bounds.Bounds.{Bounds}
use Rattle.sk_model.specs.declared.expanded.Choice.{Choice}
use Rattle.sk_model.specs.declared.expanded.Expanded.{Expanded}
use Rattle.sk_model.specs.declared.expanded.Input.{Input}
use Rattle.sk_oblig_queries.specs.Queries.{AsksFor}
use Rattle.sk_cert.specs.declared.certificate.Proof.{Proof}
use Rattle.sk_cert.specs.declared.certificate.Certificate.{Certificate}
use Rattle.sk_check_laws.specs.Parts.{Certifies, HasInputs, HasLayout, HasLower, HasUpper, HasValues, lower_query, upper_query}
use Rattle.sk_check_laws.specs.Rejected.{IsRejected}
use Rattle.sk_check.specs.declared.stop.Stop.{Stop}
use Rattle.sk_check.specs.declared.stop.Stop.TheVariants as stop
use Rattle.sk_check.specs.declared.verdict.Verdict.{Verdict}
use Rattle.sk_check.specs.declared.verdict.Verdict.TheVariants as verdict

module _ (e : Expanded) (bounds : Bounds) (c : Certificate) where
  -- A certificate is accepted of which each part holds, and rejected for a reason that there is.
  abbrev pub IsVerdict : Verdict → Type 0
  IsVerdict verdict.Accepted = Certifies e bounds c
  IsVerdict (verdict.Rejected r) = IsRejected e bounds c r

  -- It is rejected for a reason that there is, or memory is wanting.
  abbrev pub IsStop : Stop → Type 0
  IsStop stop.Memory = Unit {0}
  IsStop (stop.Rejected r) = IsRejected e bounds c r

  -- The parts before the formulas hold.
  pub record FiveHold : Type 0 where
    pub values : HasValues e bounds c
    pub inputs : HasInputs e bounds c
    pub upper : HasUpper e bounds c
    pub lower : HasLower e bounds c
    pub layout : HasLayout e bounds c

  -- the formula of the upper part at a place asks for its query
  abbrev pub AsksAt : Choice → ℕ → Type 0
  AsksAt choice place = (p : Proof) → slice_get c.upper place ≡ Some p → AsksFor p.formula e bounds (upper_query c.version choice c.value place)

  -- that of each of so many does
  abbrev pub AskAbove : Choice → ℕ → Type 0
  AskAbove choice n = (place : ℕ) → place < n → AsksAt choice place

  -- that of the lower part, where there is one, asks for its query
  abbrev pub AsksBelow : List Input → Type 0
  AsksBelow inputs = (p : Proof) → c.lower ≡ Some p → AsksFor p.formula e bounds (lower_query c.choice c.value inputs)
