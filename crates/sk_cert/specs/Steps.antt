-- Readers in the steps in which the code takes them.
use Rattle.std.specs.Prelude.{ℕ, ◌&&◌, not, Bool, true, List, take, drop, Option, Some, None, Result, Ok, Err, codes}
use Rattle.std.specs.List.{position}
use Rattle.std.specs.Str.{bytes_eq}
use Rattle.sk_model.specs.declared.expanded.Choice.{Choice}
use Rattle.sk_cert.specs.declared.certificate.Proof.{Proof}
use Rattle.sk_cert.specs.declared.certificate.CertInput.{CertInput}
use Rattle.sk_cert.specs.declared.certificate.Certificate.{Certificate}
use Rattle.sk_cert.specs.declared.lines.Sizes.{Sizes}
use Rattle.sk_cert.specs.Words.{is_numeral, sizes_in, version_in}
use Rattle.sk_cert.specs.Readers.{Outcome, Reader, is_feed, one, mapped, pair, rows, inputs, upper_parts, tail, needs_lower, certificate_of}

-- An upper part, or none where its first line is not there

abbrev pub found_upper : Outcome Proof → Result (Option (Proof × List ℕ)) ℕ
found_upper (Ok p) = Ok (Some p)
found_upper (Err n) = Err n

abbrev pub upper_behind_sizes : Outcome Sizes → Result (Option (Proof × List ℕ)) ℕ
upper_behind_sizes (Ok z) = found_upper (rows z.0 z.1)
upper_behind_sizes (Err n) = Ok None

-- the upper part with this number
unfoldable pub upper : ℕ → List ℕ → Result (Option (Proof × List ℕ)) ℕ
upper i bs = upper_behind_sizes (one (sizes_in (codes "upper") (Some i)) bs)

-- What stands behind the program and the result

-- the parts of a certificate of this version and result
abbrev pub parts_behind : ℕ → Option Choice × ℕ → Reader (List Proof × Option Proof)
parts_behind version r = pair (upper_parts version r.0) (λ u. tail (needs_lower r))

abbrev pub proofs_behind : Option Choice × ℕ → Reader (ℕ × (List CertInput × (List Proof × Option Proof)))
proofs_behind r = pair (one version_in) (λ v. pair inputs (λ i. parts_behind v r))

-- the certificate with this program and result
unfoldable pub certificate_with : List ℕ → Option Choice → ℕ → Reader Certificate
certificate_with text choice value = mapped (λ w. certificate_of ((text, true), ((choice, value), w))) (proofs_behind (choice, value))

-- The line of another version

abbrev pub line_before : Option ℕ → List ℕ → List ℕ
line_before None bs = bs
line_before (Some i) bs = take i bs

-- the first line, without its line feed
abbrev pub first_line : List ℕ → List ℕ
first_line bs = line_before (position is_feed bs) bs

-- a number in digits, and neither 1 nor 2
abbrev pub is_other_number : List ℕ → Bool
is_other_number word = is_numeral word && (not (bytes_eq word (codes "1")) && not (bytes_eq word (codes "2")))

unfoldable pub is_other_version : List ℕ → Bool
is_other_version line = bytes_eq (take 16 line) (codes "//@ certificate ") && is_other_number (drop 16 line)
