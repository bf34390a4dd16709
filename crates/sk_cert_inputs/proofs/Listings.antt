-- The inputs that a certificate lists are those that are read.
use Rattle.std.proofs.Common.{◌≡◌, ℕ, List, [], ◌∷◌, map, slice_get, Option, Some, None, All, refl, sym, ap, subst, ◌∙◌}
use Rattle.std.specs.Prelude.{MatchOption, option_map}
use Rattle.std.proofs.lemmas.List.Elements.{All-nil, All-cons, All-head, All-tail}
use Rattle.std.proofs.lemmas.Option.{none-some, same_Some, slice_get-map, slice_get_within, get_or_from_slice_get}
use Rattle.sk_base.specs.declared.bounds.Bounds.{Bounds}
use Rattle.sk_prog.specs.declared.prog.Prog.{Prog}
use Rattle.sk_model.specs.declared.expanded.Input.{Input}
use Rattle.sk_model.specs.Inputs.{IsInput}
use Rattle.sk_cert.specs.declared.certificate.CertInput.{CertInput}
use Rattle.sk_cert_inputs.specs.Inputs.{as_listed, AreListed}
use Rattle.sk_cert_inputs.specs.Reading.{both, input_listed, all_listed}
use Rattle.sk_cert_inputs.specs.Laws.{ListedOnce, DistinctAreApart, ApartAreDistinct}
use Rattle.sk_cert_inputs.proofs.Options.{both_some, map_some}
use Rattle.sk_cert_inputs.proofs.Arguments.{input_sound, input_complete}

module _ (prog : Prog) (bounds : Bounds) where
  all_sound : (cs : List CertInput) (is : List Input) → all_listed prog bounds cs ≡ Some is → AreListed prog bounds cs is
  all_sound [] is h = subst (AreListed prog bounds []) (same_Some [] is h) (record { are = refl; each = All-nil (IsInput prog bounds) })
  all_sound (c ∷ cs) is h =
      let b = both_some (input_listed prog bounds c) (all_listed prog bounds cs) is h in
      let one = input_sound prog bounds c b.0 b.2 in
      let more = all_sound cs b.1 b.3 in
      subst (AreListed prog bounds (c ∷ cs)) b.4 (record {
        are = ap (λ d. d ∷ cs) (sym one.0) ∙ ap (λ ds. as_listed b.0 ∷ ds) more.are;
        each = All-cons (IsInput prog bounds) b.0 b.1 one.1 more.each;
      })

  all_complete : (is : List Input) → All (IsInput prog bounds) is → all_listed prog bounds (map as_listed is) ≡ Some is
  all_complete [] all = refl
  all_complete (i ∷ is) all =
      ap (λ o. both o (all_listed prog bounds (map as_listed is))) (input_complete prog bounds i (All-head (IsInput prog bounds) i is all))
      ∙ ap (both (Some i)) (all_complete is (All-tail (IsInput prog bounds) i is all))

  -- what is listed is read, and nothing else
  listed_is_read : (cs : List CertInput) (is : List Input) → AreListed prog bounds cs is → all_listed prog bounds cs ≡ Some is
  listed_is_read cs is a = ap (all_listed prog bounds) a.are ∙ all_complete is a.each

  pub read_exactly : (cs : List CertInput) (found : Option (List Input)) → found ≡ all_listed prog bounds cs → MatchOption found ((is : List Input) → AreListed prog bounds cs is → ⊥) (λ is. AreListed prog bounds cs is)
  read_exactly cs None e = λ is a. none-some is (e ∙ listed_is_read cs is a)
  read_exactly cs (Some is) e = all_sound cs is (sym e)

pub listed_once : ListedOnce
listed_once prog bounds cs is js a b = same_Some is js (sym (listed_is_read prog bounds cs is a) ∙ listed_is_read prog bounds cs js b)

all_at : {X : Type 0} (P : X → Type 0) (xs : List X) (i : ℕ) (x : X) → All P xs → slice_get xs i ≡ Some x → P x
all_at P xs i x all at = subst P (get_or_from_slice_get xs i x x at) (all i x (slice_get_within xs i x at))

-- the place of an input is that of what is listed of it
listed_at : (cs : List CertInput) (is : List Input) (i : ℕ) → cs ≡ map as_listed is → slice_get cs i ≡ option_map as_listed (slice_get is i)
listed_at cs is i e = ap (λ ds. slice_get ds i) e ∙ slice_get-map as_listed is i

-- an input is listed as no other
same_input : (prog : Prog) (bounds : Bounds) (x y : Input) → IsInput prog bounds x → IsInput prog bounds y → as_listed x ≡ as_listed y → x ≡ y
same_input prog bounds x y p q e = same_Some x y (sym (input_complete prog bounds x p) ∙ ap (input_listed prog bounds) e ∙ input_complete prog bounds y q)

pub distinct_are_apart : DistinctAreApart
distinct_are_apart prog bounds cs is a distinct = record {
  apart = λ i j c h k.
      let x = map_some as_listed (slice_get is i) c (sym (listed_at cs is i a.are) ∙ h) in
      let y = map_some as_listed (slice_get is j) c (sym (listed_at cs is j a.are) ∙ k) in
      let same : x.0 ≡ y.0 = same_input prog bounds x.0 y.0 (all_at (IsInput prog bounds) is i x.0 a.each x.1) (all_at (IsInput prog bounds) is j y.0 a.each y.1) (x.2 ∙ sym y.2) in
      distinct i j x.0 x.1 (y.1 ∙ ap (λ z. Some z) (sym same));
}

pub apart_are_distinct : ApartAreDistinct
apart_are_distinct prog bounds cs is a apart i j x h k =
    apart.apart i j (as_listed x) (listed_at cs is i a.are ∙ ap (option_map as_listed) h) (listed_at cs is j a.are ∙ ap (option_map as_listed) k)
