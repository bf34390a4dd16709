-- What a certificate says before its proofs are there, and what of it is known.
use Rattle.std.specs.Prelude.{ℕ, ◌≡◌, List, [], map, All, Option, Some, None, IfSome}
use Rattle.sk_base.specs.declared.bounds.Bounds.{Bounds}
use Rattle.sk_print.specs.Layout.{layout}
use Rattle.sk_model.specs.declared.expanded.Choice.{Choice}
use Rattle.sk_model.specs.declared.expanded.Expanded.{Expanded}
use Rattle.sk_model.specs.declared.expanded.Pair.{Pair}
use Rattle.sk_model.specs.Fill.{InRange, fill}
use Rattle.sk_oblig_queries.specs.Queries.{IsWanted}
use Rattle.sk_loop_laws.specs.Honest.{inputs_of}
use Rattle.sk_min_laws.specs.Best.{IsBest, NoneBelow}
use Rattle.sk_cert.specs.declared.certificate.Proof.{Proof}
use Rattle.sk_cert.specs.declared.certificate.Certificate.{Certificate}
use Rattle.sk_cert.specs.Certificates.{HasScalars, IsProgramText}
use Rattle.sk_cert_inputs.specs.Inputs.{as_listed, AreApart}

-- the layout of the filling, and nothing without a choice
abbrev pub text_of : Expanded → Option Choice → List ℕ
text_of e None = []
text_of e (Some a) = layout (fill e a)

-- Of version 2, with the choice, its value, its text, and the inputs of the pairs.
pub record Claims (e : Expanded) (choice : Option Choice) (value : ℕ) (pairs : List Pair) (c : Certificate) : Type 0 where
  pub version : c.version ≡ 2
  pub its_choice : c.choice ≡ choice
  pub its_value : c.value ≡ value
  pub its_text : c.text ≡ text_of e choice
  pub inputs : c.inputs ≡ map as_listed (inputs_of pairs)
  pub program : IsProgramText c.text
  pub range : IfSome choice (InRange e)
  pub scalars : All HasScalars c.inputs
  pub apart : AreApart c.inputs

-- the certificate with these proofs
abbrev pub with_proofs : Certificate → List Proof → Option Proof → Certificate
with_proofs c upper lower = record { version = c.version; text = c.text; choice = c.choice; value = c.value; inputs = c.inputs; upper = upper; lower = lower }

-- The choice is the best one, and no choice passes the inputs of the pairs within less than its value; without a choice the value
-- is 0, and none passes them.
abbrev pub IsKnown : Expanded → Bounds → Option Choice → ℕ → List Pair → Type 0
IsKnown e bounds None value pairs = (value ≡ 0) × ((choice : Choice) → IsWanted e bounds (inputs_of pairs) None choice → ⊥)
IsKnown e bounds (Some a) value pairs = IsBest e bounds a value × NoneBelow e bounds (inputs_of pairs) value
