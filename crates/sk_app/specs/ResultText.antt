-- What is written, and when: a completion of the sketch, or that there is none.
use Rattle.std.specs.Prelude.{ℕ, ◌≡◌, Bool, true, false, Option, Some, None, List, [], ◌∷◌, ◌++◌, codes}
use Rattle.std.specs.Fmt.{decimal}
use Rattle.sk_base.specs.declared.bounds.Bounds.{Bounds}
use Rattle.sk_base.specs.declared.bounds.Budget.{Budget}
use Rattle.sk_model.specs.declared.expanded.Choice.{Choice}
use Rattle.sk_model.specs.declared.expanded.Expanded.{Expanded}
use Rattle.sk_model.specs.declared.expanded.Pair.{Pair}
use Rattle.sk_model.specs.Fill.{InRange, fill}
use Rattle.sk_model.specs.Meets.{Meets}
use Rattle.sk_print.specs.Layout.{layout}
use Rattle.sk_print.specs.Shows.{Shows}
use Rattle.sk_cert.specs.Certificates.{certificate_lines}
use Rattle.sk_min_laws.specs.Best.{NoneBelow}
use Rattle.sk_min_certificate.specs.Certifications.{IsCertified}
use Rattle.sk_opts.specs.declared.line.Set.{Set}
use Rattle.sk_app.specs.declared.completion.Completion.{Completion}
use Rattle.sk_all_text.specs.Built.{IsOnly}
use Rattle.sk_app.specs.Completing.{IsLeast, IsNoChoice, IsShownBy, IsShownWithin}

-- each number with a space before it
abbrev pub spaced : List ℕ → List ℕ
spaced [] = []
spaced (n ∷ ns) = 32 ∷ decimal n ++ spaced ns

-- the lines of a completion behind the program: its value, and the values of its holes
abbrev pub completion_lines : Choice → ℕ → List ℕ
completion_lines a value = codes "//@ completion\n//@ value " ++ decimal value ++ codes "\n//@ holes" ++ spaced a.values ++ codes "\n"

-- the filled program, and the lines of the completion
abbrev pub completed_text : Completion → List ℕ
completed_text c = layout c.filled ++ completion_lines c.choice c.value

-- the line where there is no completion
abbrev pub none_text : List ℕ
none_text = codes "//@ none\n"

-- The text is that of a certificate of version 2, for this choice and this value, or for none, of which each part holds, and it is
-- right; it begins with this.
pub record HasCertificate (e : Expanded) (bounds : Bounds) (choice : Option Choice) (value : ℕ) (front out : List ℕ) : Type 0 where
  pub shows : IsCertified e bounds choice value out
  pub is : out ≡ front ++ certificate_lines (shows.certificate)

-- the text is this, and where a certificate is asked for such a one stands behind
abbrev pub IsWithCertificate : Bool → Expanded → Bounds → Option Choice → ℕ → List ℕ → List ℕ → Type 0
IsWithCertificate false e bounds choice value front out = out ≡ front
IsWithCertificate true e bounds choice value front out = HasCertificate e bounds choice value front out

-- The result text is that of a completion: the filling of a choice in range, which meets its obligations on every input
-- in range, with its greatest cost, and no filling that does so costs less; the text shows the filled program. With these
-- options the text of the sketch has no other bounds and no other expansion. Pairs within the budget of rounds show that none costs less. A
-- certificate stands behind it where one is asked for.
pub record IsCompletion (set : Set) (budget : Budget) (cert : Bool) (text out : List ℕ) : Type 0 where
  pub bounds : Bounds
  pub e : Expanded
  pub c : Completion
  pub only : IsOnly set text bounds e
  pub least : IsLeast bounds e c
  pub within : IsShownWithin e bounds budget (λ inputs. NoneBelow e bounds inputs c.value)
  pub shows : Shows (layout c.filled) bounds c.filled
  pub is : IsWithCertificate cert e bounds (Some c.choice) c.value (completed_text c) out

-- The result text says that there is no completion, and no filling in range meets its obligations, which these pairs within the
-- budget of rounds show: no choice in range passes even their inputs. A certificate stands behind it where one is asked for.
pub record IsNone (set : Set) (budget : Budget) (cert : Bool) (text : List ℕ) (pairs : List Pair) (out : List ℕ) : Type 0 where
  pub bounds : Bounds
  pub e : Expanded
  pub only : IsOnly set text bounds e
  pub none : (b : Choice) → InRange e b → Meets (fill e b) bounds → ⊥
  pub within : IsShownBy e bounds budget (IsNoChoice e bounds) pairs
  pub is : IsWithCertificate cert e bounds None 0 none_text out
