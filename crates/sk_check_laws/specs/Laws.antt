-- Laws of certificates.
use Rattle.std.specs.Prelude.{◌≡◌, ◌<◌}
use Rattle.sk_base.specs.declared.bounds.Bounds.{Bounds}
use Rattle.sk_model.specs.declared.expanded.Choice.{Choice}
use Rattle.sk_model.specs.declared.expanded.Expanded.{Expanded}
use Rattle.sk_model.specs.Fill.{InRange}
use Rattle.sk_holes_choice_laws.specs.Meeting.{IsMetUnder}
use Rattle.sk_oblig_queries.specs.Laws.{AreSmall}
use Rattle.sk_cert.specs.declared.certificate.Certificate.{Certificate}
use Rattle.sk_cert.specs.Certificates.{HasForm}
use Rattle.sk_check_laws.specs.declared.reason.Reason.{Reason}
use Rattle.sk_check_laws.specs.Parts.{Certifies}
use Rattle.sk_check_laws.specs.Rejected.{IsRejected, part_number}
use Rattle.sk_check_laws.specs.Right.{IsRight}

-- a certificate is rejected for one part at most
abbrev pub RejectedOnce : Type 0
RejectedOnce = (e : Expanded) (bounds : Bounds) (c : Certificate) (r s : Reason) → IsRejected e bounds c r → IsRejected e bounds c s → part_number r ≡ part_number s

-- one that is rejected for another part than its formulas is none of which each part holds
abbrev pub RejectedIsNotCertified : Type 0
RejectedIsNotCertified = (e : Expanded) (bounds : Bounds) (c : Certificate) (r : Reason) → part_number r < 6 → IsRejected e bounds c r → Certifies e bounds c → ⊥

-- a certificate that has its form and of which each part holds is right
abbrev pub CertificatesAreRight : Type 0
CertificatesAreRight =
    (e : Expanded) (bounds : Bounds) (c : Certificate) → AreSmall e.sites → ((b : Choice) → InRange e b → IsMetUnder e b bounds) → HasForm c → Certifies e bounds c
    → IsRight e bounds c
