-- Parts of a certificate that do not hold.
use Rattle.std.proofs.Common.{◌≡◌, ◌≢◌, ℕ, List, Option, Some, None, length, sym, ◌∙◌}
use Rattle.std.proofs.lemmas.Option.{none-some}
use Rattle.sk_base.specs.declared.bounds.Bounds.{Bounds}
use Rattle.sk_model.specs.declared.expanded.Choice.{Choice}
use Rattle.sk_model.specs.declared.expanded.Expanded.{Expanded}
use Rattle.sk_model.specs.Fill.{InRange}
use Rattle.sk_holes.specs.Range.{IsFirstOut}
use Rattle.sk_holes.proofs.RangeLaws.{none_is_out}
use Rattle.sk_cert.specs.declared.certificate.Certificate.{Certificate}
use Rattle.sk_check_laws.specs.Parts.{is_layout}

pub other_length : (e : Expanded) (a : Choice) → length a.values ≢ length e.sites → InRange e a → ⊥
other_length e a other range = other (none_is_out 0 e.sites a.values range.fits).0

pub one_out : (e : Expanded) (a : Choice) (site : ℕ) → IsFirstOut e a site → InRange e a → ⊥
one_out e a site out range = none-some site (sym (none_is_out 0 e.sites a.values range.fits).1 ∙ out.first)

pub ruleset ranges = (other_length, one_out)

-- a choice has one layout
pub one_layout : (e : Expanded) (bounds : Bounds) (c : Certificate) (choice : Option Choice) (text other : List ℕ) → is_layout e bounds c choice text → is_layout e bounds c choice other → text ≡ other
one_layout e bounds c None text other is also = is ∙ sym also
one_layout e bounds c (Some a) text other is also = is ∙ sym also
