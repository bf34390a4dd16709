-- What the steps of the code answer, of the input.
use Rattle.std.proofs.Common.{ℕ, ◌≤◌, ◌<◌, ◌^◌, List, [], ◌∷◌, length, arith}
use Rattle.std.specs.Prelude.{IsTrue}
use Rattle.std.proofs.lemmas.Bool.{ltb-true, and_parts}
use Rattle.std.proofs.lemmas.List.Elements.{All-nil, All-cons}
use Rattle.sk_base.specs.declared.bounds.Bounds.{Bounds}
use Rattle.sk_model.specs.declared.expanded.Expanded.{Expanded}
use Rattle.sk_model.specs.declared.expanded.Site.{Site}
use Rattle.sk_expand_sites.specs.Needs.{is_narrow, are_narrow}
use Rattle.sk_oblig_queries.specs.Laws.{AreSmall}
use Rattle.sk_check.specs.Formulas.{IsAskable}
use Rattle.sk_cert.specs.declared.certificate.Certificate.{Certificate}
use Rattle.sk_cert.specs.Certificates.{HasForm, IsCertificate}
use Rattle.sk_check_laws.specs.declared.reason.Reason.{Reason}
use Rattle.sk_check_laws.specs.Parts.{Certifies}
use Rattle.sk_check_laws.specs.Rejected.{IsRejected}
use Rattle.sk_check_laws.proofs.Certified.{certificates_are_right}
use Rattle.sk_opts.specs.declared.line.Set.{Set}
use Rattle.sk_front.specs.declared.expansion.Expansion.{Expansion}
use Rattle.sk_front.specs.declared.fault.SketchFault.{SketchFault}
use Rattle.sk_front.specs.declared.fault.SketchFault.TheVariants as sketch
use Rattle.sk_front.specs.Texts.{most_bytes}
use Rattle.sk_front.specs.Front.{ExpandsWithin, IsFaultOfSizes}
use Rattle.sk_front.specs.Front as front
use Rattle.sk_front.proofs.TextLaws.{byte_within}
use Rattle.sk_built_laws.specs.Built.{ForBuilt}
use Rattle.sk_built_laws.proofs.Taken as built
use Rattle.sk_check_text.specs.declared.checking.Checked.{Checked}
use Rattle.sk_check_text.specs.declared.fault.CheckFault.TheVariants as fault
use Rattle.sk_check_text.specs.Splitting.{Splits}
use Rattle.sk_check_text.specs.Checking.{IsAccepted, IsRejectedFor, IsSaid, IsChecked, IsFaultOfCheck, IsPlacedIn, IsPlacedFault}

-- Sites that are narrow have few values

small_sites : (sites : List Site) → IsTrue (are_narrow sites) → AreSmall sites
small_sites [] n = All-nil (λ (s : Site). s.size ≤ 2 ^ 64)
small_sites (s ∷ ss) n =
    let both = and_parts (is_narrow s) (are_narrow ss) n in
    let below : s.size < 4294967297 = ltb-true s.size 4294967297 both.0 in
    let small : s.size ≤ 2 ^ 64 = omega (arith, below) in
    All-cons (λ (t : Site). t.size ≤ 2 ^ 64) s ss small (small_sites ss both.1)

-- A certificate of an expansion

pub form_of : (text : List ℕ) (c : Certificate) → IsCertificate text c → HasForm c
form_of text c is = is.has_text.form

module _ (text : List ℕ) (bounds : Bounds) (e : Expanded) (c : Certificate) (is : IsCertificate text c) where
  pub accepted : IsAskable e bounds → Certifies e bounds c → IsAccepted text bounds e
  accepted askable certifies = record {
    certificate = c;
    is = is;
    certifies = certifies;
    right = certificates_are_right e bounds c (small_sites e.sites askable.narrow) askable.met (form_of text c is) certifies;
  }

  pub rejected : (r : Reason) → IsRejected e bounds c r → IsRejectedFor r text bounds e
  rejected r x = record { certificate = c; is = is; rejected = x }

-- A sketch

module _ (set : Set) (text : List ℕ) where
  pub askable : (x : Expansion) → ExpandsWithin set text x → IsAskable x.expanded x.bounds
  askable x means = built.askable set text x.bounds x.expanded (built.ready_of set text x means)

  pub few : (x : Expansion) → ExpandsWithin set text x → length x.expanded.sites ≤ 4294967296
  few x means = built.few set text x.bounds x.expanded (built.ready_of set text x means)

  pub said : (x : Expansion) (behind : List ℕ) (a : Checked) → ExpandsWithin set text x → IsSaid a behind x.bounds x.expanded → ForBuilt set text (IsSaid a behind)
  said x behind a means h = built.for_answered set text x (IsSaid a behind) means h

  pub placed : (f : SketchFault) → IsFaultOfSizes set text f → front.IsPlacedFault text f → IsPlacedIn f text
  placed (sketch.NotText a) is place = byte_within text a is
  placed (sketch.NotTyped a) is place = place
  placed (sketch.TooLarge a) is place = tt
  placed sketch.Memory is place = tt

-- An input

module _ (set : Set) (input text behind : List ℕ) (splits : Splits input text behind) where
  pub checked_is : (a : Checked) → ForBuilt set text (IsSaid a behind) → IsChecked set input a
  checked_is a h = record { sketch = text; behind = behind; splits = splits; holds = h }

  pub too_long : most_bytes < length text → IsFaultOfCheck set input fault.TooLong
  too_long h = record { sketch = text; behind = behind; splits = splits; holds = h }

  pub refused : (f : SketchFault) → length text ≤ most_bytes → IsFaultOfSizes set text f → IsFaultOfCheck set input (fault.Sketch f)
  refused f short h = record { sketch = text; behind = behind; splits = splits; holds = record { short = short; cause = h } }

  pub placed_in : (f : SketchFault) → IsPlacedIn f text → IsPlacedFault input (fault.Sketch f)
  placed_in f h = record { sketch = text; behind = behind; splits = splits; holds = h }
