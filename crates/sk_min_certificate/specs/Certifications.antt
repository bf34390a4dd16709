-- The certificate of an answer of the search for a least completion, or what a spent budget leaves.
use Rattle.std.specs.Prelude.{ℕ, ◌≡◌, List, map, Option, Some, None, IsTrue}
use Rattle.sk_base.specs.declared.bounds.Bounds.{Bounds}
use Rattle.sk_clause.specs.declared.lit.Lit.{Lit}
use Rattle.sk_cnf.specs.declared.growing.Encoded.{Encoded}
use Rattle.sk_prog.specs.Fits.{prog_fits}
use Rattle.sk_model.specs.declared.expanded.Choice.{Choice}
use Rattle.sk_model.specs.declared.expanded.Expanded.{Expanded}
use Rattle.sk_model.specs.declared.expanded.Pair.{Pair}
use Rattle.sk_model.specs.Fill.{InRange, fill}
use Rattle.sk_oblig_queries.specs.declared.query.Query.{Query}
use Rattle.sk_loop_laws.specs.Honest.{inputs_of}
use Rattle.sk_loop_laws.specs.Shown.{Learnt}
use Rattle.sk_min.specs.Least.{IsKnownOf}
use Rattle.sk_cert.specs.declared.certificate.Certificate.{Certificate}
use Rattle.sk_cert.specs.Certificates.{IsCertificate}
use Rattle.sk_cert_inputs.specs.Inputs.{as_listed}
use Rattle.sk_check_laws.specs.Parts.{Certifies}
use Rattle.sk_check_laws.specs.Right.{IsRight}
use Rattle.sk_min_certificate.specs.declared.certification.Certification.{Certification}
use Rattle.sk_min_certificate.specs.declared.certification.Certification.TheVariants as certification

-- each filling by a choice in range is well-formed
abbrev pub FillingsFit : Expanded → Type 0
FillingsFit e = (a : Choice) → InRange e a → IsTrue (prog_fits (fill e a))

-- The text is that of a certificate of version 2, of this choice and this value. Each of its parts holds, so it is right.
pub record IsCertified (e : Expanded) (bounds : Bounds) (choice : Option Choice) (value : ℕ) (out : List ℕ) : Type 0 where
  pub certificate : Certificate
  pub is : IsCertificate out certificate
  pub version : certificate.version ≡ 2
  pub its_choice : certificate.choice ≡ choice
  pub its_value : certificate.value ≡ value
  pub certifies : Certifies e bounds certificate
  pub right : IsRight e bounds certificate

-- So many clauses were learnt from the formula of a query of such a certificate, as in a search that found the pairs and knows
-- this choice.
pub record IsSpentProof (e : Expanded) (bounds : Bounds) (choice : Option Choice) (pairs : List Pair) (count : ℕ) (q : Query) (f : Encoded) (log : List (List Lit)) : Type 0 where
  pub learnt : Learnt e bounds count pairs q f log
  pub known : IsKnownOf e bounds pairs q choice

module _ (e : Expanded) (bounds : Bounds) (choice : Option Choice) (value : ℕ) (pairs : List Pair) (count : ℕ) where
  abbrev pub IsCertification : Certification → Type 0
  IsCertification (certification.Text out) = IsCertified e bounds choice value out.items
  IsCertification (certification.Spent q f log) = IsSpentProof e bounds choice pairs count q f log

-- The text is that of a certificate that lists the inputs of the pairs, in their order.
pub record ListsInputs (pairs : List Pair) (out : List ℕ) : Type 0 where
  pub certificate : Certificate
  pub is : IsCertificate out certificate
  pub inputs : certificate.inputs ≡ map as_listed (inputs_of pairs)

-- if there is a text
abbrev pub ListsPairs : List Pair → Certification → Type 0
ListsPairs pairs (certification.Text out) = ListsInputs pairs out.items
ListsPairs pairs (certification.Spent q f log) = Unit {0}
