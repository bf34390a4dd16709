-- A certificate with its proofs has its form, and each of its parts holds.
use Rattle.std.proofs.Common.{◌≡◌, inr, ℕ, ◌<◌, ◌≤◌, List, [], ◌∷◌, slice_get, Option, Some, None, All, IsTrue, refl, sym, subst, ◌∙◌, arith, length, ◌^◌}
use Rattle.std.specs.Prelude.{IfSome}
use Rattle.std.proofs.lemmas.Bool.{and_parts, ltb-true}
use Rattle.std.proofs.lemmas.Option.{none-some}
use Rattle.std.proofs.lemmas.List.Elements.{All-nil, All-cons}
use Rattle.sk_base.specs.declared.bounds.Bounds.{Bounds}
use Rattle.sk_model.specs.declared.expanded.Choice.{Choice}
use Rattle.sk_model.specs.declared.expanded.Expanded.{Expanded}
use Rattle.sk_model.specs.declared.expanded.Pair.{Pair}
use Rattle.sk_model.specs.declared.expanded.Site.{Site}
use Rattle.sk_model.specs.Fill.{InRange}
use Rattle.sk_model.specs.Obligations.{obligations}
use Rattle.sk_expand_sites.specs.Needs.{are_narrow, is_narrow}
use Rattle.sk_oblig_queries.specs.Laws.{AreSmall}
use Rattle.sk_oblig_queries.specs.Queries.{AsksFor}
use Rattle.sk_min.specs.Formulas.{IsAskable}
use Rattle.sk_loop_laws.specs.Honest.{Honest, inputs_of}
use Rattle.sk_loop_laws.proofs.Pairs.{honest_are_inputs}
use Rattle.sk_cert.specs.declared.certificate.Proof.{Proof}
use Rattle.sk_cert.specs.declared.certificate.Certificate.{Certificate}
use Rattle.sk_cert.specs.Certificates.{FitsValue, FitsVersion, HasForm, IsCertificate}
use Rattle.sk_cert_inputs.specs.Inputs.{AreListed}
use Rattle.sk_check_laws.specs.Parts.{Certifies, HasFormulas, is_layout, lower_query, upper_query}
use Rattle.sk_check_laws.proofs.Certified.{certificates_are_right}
use Rattle.sk_min_certify.specs.Certified.{AreUpperOf, IsLower}
use Rattle.sk_min_certificate.specs.Certifications.{IsCertified, ListsInputs}
use Rattle.sk_min_certificate.specs.Claims.{Claims, IsKnown, text_of, with_proofs}
use Rattle.sk_min_certificate.proofs.Parts.{upper_refuting, upper_variables, upper_fits, upper_counts, lower_fits, lower_refuting, lower_variables, lower_asks}

small_sites : (sites : List Site) → IsTrue (are_narrow sites) → AreSmall sites
small_sites [] n = All-nil (λ (s : Site). s.size ≤ 2 ^ 64)
small_sites (s ∷ ss) n =
    let both = and_parts (is_narrow s) (are_narrow ss) n in
    let below = ltb-true s.size 4294967297 both.0 in
    let small : s.size ≤ 2 ^ 64 = omega (arith, below) in
    All-cons (λ (t : Site). t.size ≤ 2 ^ 64) s ss small (small_sites ss both.1)

-- without a choice the value is 0
free : (e : Expanded) (bounds : Bounds) (choice : Option Choice) (value : ℕ) (pairs : List Pair) → IsKnown e bounds choice value pairs → choice ≡ None → value ≡ 0
free e bounds None value pairs k is = k.0
free e bounds (Some a) value pairs k is = absurd (none-some a (sym is))

-- its text is the layout of the filling
layout_is : (e : Expanded) (bounds : Bounds) (c : Certificate) (choice : Option Choice) (text : List ℕ) → text ≡ text_of e choice → is_layout e bounds c choice text
layout_is e bounds c None text is = is
layout_is e bounds c (Some a) text is = is

module _ (e : Expanded) (bounds : Bounds) (choice : Option Choice) (value : ℕ) (pairs : List Pair) (c : Certificate) (upper : List Proof) (lower : Option Proof) (claims : Claims e choice value pairs c) (up : AreUpperOf e bounds choice value upper) (low : IsLower e bounds choice value (inputs_of pairs) lower) where
  pub has_form : IsKnown e bounds choice value pairs → HasForm (with_proofs c upper lower)
  has_form k = record {
    version = inr claims.version;
    text = claims.program;
    args = claims.scalars;
    upper = subst (λ (o : Option Choice). FitsVersion c.version o upper) (sym claims.its_choice) (upper_fits e bounds value upper c.version claims.version choice up);
    lower =
        subst (λ (n : ℕ). FitsValue c.choice n lower) (sym claims.its_value)
        (subst (λ (o : Option Choice). FitsValue o value lower) (sym claims.its_choice) (lower_fits e bounds value (inputs_of pairs) choice lower (free e bounds choice value pairs k) low));
    each_upper = upper_variables e bounds value upper choice up;
    its_lower = lower_variables e bounds value (inputs_of pairs) choice lower low;
  }

  module _ (honest : Honest e bounds pairs) where
    listed : AreListed e.prog bounds c.inputs (inputs_of pairs)
    listed = record { are = claims.inputs; each = honest_are_inputs e bounds pairs honest }

    upper_asks : (a : Choice) → c.choice ≡ Some a → (i : ℕ) (p : Proof) → slice_get upper i ≡ Some p → AsksFor p.formula e bounds (upper_query c.version a c.value i)
    upper_asks a is i p at =
        let own : AreUpperOf e bounds (Some a) value upper = subst (λ (o : Option Choice). AreUpperOf e bounds o value upper) (sym claims.its_choice ∙ is) up in
        subst (λ (v : ℕ). AsksFor p.formula e bounds (upper_query v a c.value i)) (sym claims.version)
        (subst (λ (n : ℕ). AsksFor p.formula e bounds (upper_query 2 a n i)) (sym claims.its_value) (own.each i p at).asks)

    formulas : HasFormulas e bounds (with_proofs c upper lower)
    formulas = record {
      inputs = inputs_of pairs;
      listed = listed;
      upper = upper_asks;
      lower = λ p there.
          subst (λ (n : ℕ). AsksFor p.formula e bounds (lower_query c.choice n (inputs_of pairs))) (sym claims.its_value)
          (subst (λ (o : Option Choice). AsksFor p.formula e bounds (lower_query o value (inputs_of pairs))) (sym claims.its_choice) (lower_asks e bounds value (inputs_of pairs) choice lower low p there));
    }

    certifies : Certifies e bounds (with_proofs c upper lower)
    certifies = record {
      values = subst (λ (o : Option Choice). IfSome o (InRange e)) (sym claims.its_choice) claims.range;
      inputs = record { inputs = inputs_of pairs; listed = listed; apart = claims.apart };
      upper = record {
        refuting = upper_refuting e bounds value upper choice up;
        counts = subst (λ (o : Option Choice). IfSome o (λ (a : Choice). c.version ≡ 2 → length upper ≡ length (obligations e.prog))) (sym claims.its_choice) (upper_counts e bounds value upper c.version choice up);
      };
      lower = lower_refuting e bounds value (inputs_of pairs) choice lower low;
      layout = subst (λ (o : Option Choice). is_layout e bounds (with_proofs c upper lower) o c.text) (sym claims.its_choice) (layout_is e bounds (with_proofs c upper lower) choice c.text claims.its_text);
      formulas = formulas;
    }

    -- so its text is that of a certificate which is right
    pub certified : IsAskable e bounds → (out : List ℕ) → IsCertificate out (with_proofs c upper lower) → IsCertified e bounds choice value out
    certified askable out is = record {
      certificate = with_proofs c upper lower;
      is = is;
      version = claims.version;
      its_choice = claims.its_choice;
      its_value = claims.its_value;
      certifies = certifies;
      right = certificates_are_right e bounds (with_proofs c upper lower) (small_sites e.sites askable.narrow) askable.met is.has_text.form certifies;
    }

  -- and which lists the inputs of the pairs
  pub lists : (out : List ℕ) → IsCertificate out (with_proofs c upper lower) → ListsInputs pairs out
  lists out is = record { certificate = with_proofs c upper lower; is = is; inputs = claims.inputs }
