-- The examples, computed.
use Rattle.std.proofs.Common.{◌≡◌, ◌<◌, ◌^◌, ℕ, List, [], refl, inl, inr, ap, arith, get_or}
use Rattle.std.specs.Prelude.{Err, codes}
use Rattle.std.specs.Fmt.{digits}
use Rattle.std.proofs.lemmas.List.Elements.{All-nil}
use Rattle.sk_cert.specs.Certificates.{HasForm, Has64Bits, HasItsVariables, HasScalars, IsProgramLine, IsSmallInput, IsSmallProof}
use Rattle.sk_cert.specs.Words.{is_numeral, number_of, behind, numbers_in, number_in, version_in}
use Rattle.sk_cert.specs.Readers.{one, program, certificate, whole}
use Rattle.sk_cert.specs.Steps.{is_other_version}
use Rattle.sk_cert.specs.Examples.{empty_sketch, CertificateOfNothing, CertificateByObligation, CertificateOfVersionOne, CertificateOfNone, TwoLinesBegin, DepartsByZero, DepartsBehindLast, FaultOfZero, FaultOfVersion, LineOfVersionThree, EndOfVersionSeven}
use Rattle.sk_cert.proofs.Placed.{departs_at, form_there, version_there}

pub of_nothing : CertificateOfNothing
unfolding digits
of_nothing = refl

pub by_obligation : CertificateByObligation
unfolding digits
by_obligation = refl

pub of_version_one : CertificateOfVersionOne
unfolding digits
of_version_one = refl

pub of_none : CertificateOfNone
unfolding digits
of_none = refl

has_form : HasForm empty_sketch
has_form = record {
  version = inr refl;
  text = record { lines = []; is = refl; each = All-nil IsProgramLine };
  args = All-nil HasScalars;
  upper = λ e. absurd (omega (arith, e));
  lower = refl;
  each_upper = All-nil HasItsVariables;
  its_lower = tt;
}

has_numbers : Has64Bits empty_sketch
has_numbers = record {
  value = omega arith;
  holes = All-nil (λ n. n < 2 ^ 64);
  count = omega arith;
  parts = omega arith;
  inputs = All-nil IsSmallInput;
  upper = All-nil IsSmallProof;
  lower = tt;
}

pub two_lines_begin : TwoLinesBegin
unfolding digits
two_lines_begin = record {
  lines = inr (codes "//@ completion\n//@ value 0", refl);
  c = empty_sketch;
  has_text = record { form = has_form; numbers = has_numbers };
  rest = codes "//@ holes\n//@ certificate 2\n//@ inputs 0\n//@ end\n";
  is = refl;
}

zero_left : whole (codes "//@ completion\n//@ value 00\n//@ holes\n") ≡ Err 23
unfolding whole certificate program one number_in numbers_in number_of is_numeral behind
zero_left = refl

nothing_left : whole (codes "//@ completion\n//@ value 0\n") ≡ Err 0
unfolding whole certificate program one number_in numbers_in number_of is_numeral behind
nothing_left = refl

version_left : whole (codes "//@ none\n//@ certificate 3\n") ≡ Err 18
unfolding whole certificate program one version_in number_in numbers_in number_of is_numeral behind
version_left = refl

pub departs_by_zero : DepartsByZero
departs_by_zero = departs_at (codes "//@ completion\n//@ value 00\n//@ holes\n") 23 2 zero_left refl

pub departs_behind_last : DepartsBehindLast
departs_behind_last = departs_at (codes "//@ completion\n//@ value 0\n") 0 3 nothing_left refl

pub fault_of_zero : FaultOfZero
unfolding is_other_version is_numeral
fault_of_zero = form_there (codes "//@ completion\n//@ value 00\n//@ holes\n") 23 2 zero_left refl refl

pub fault_of_version : FaultOfVersion
unfolding is_other_version is_numeral
fault_of_version = version_there (codes "//@ none\n//@ certificate 3\n") 18 2 version_left refl refl

other : (a b : ℕ) → a ≡ b → (a ≡ b → ⊥) → ⊥
other a b e h = h e

first_of : (a b : List ℕ) → a ≡ b → get_or a 0 0 ≡ get_or b 0 0
first_of a b e = ap (λ t. get_or t 0 0) e

pub line_of_version_three : LineOfVersionThree
unfolding is_numeral
line_of_version_three = record {
  number = codes "3";
  digits = refl;
  not_one = λ e. other 51 49 (first_of (codes "3") (codes "1") e) (λ h. absurd (omega arith));
  not_two = λ e. other 51 50 (first_of (codes "3") (codes "2") e) (λ h. absurd (omega arith));
  behind = codes "//@ inputs 0\n";
  is = inr refl;
}

pub end_of_version_seven : EndOfVersionSeven
unfolding is_numeral
end_of_version_seven = record {
  number = codes "7";
  digits = refl;
  not_one = λ e. other 55 49 (first_of (codes "7") (codes "1") e) (λ h. absurd (omega arith));
  not_two = λ e. other 55 50 (first_of (codes "7") (codes "2") e) (λ h. absurd (omega arith));
  behind = [];
  is = inl refl;
}
