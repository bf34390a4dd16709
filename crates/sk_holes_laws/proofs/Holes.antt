-- In the place of a hole stands a number, or braces of bits, that keeps the rules.
use Rattle.std.proofs.Common.{◌≡◌, ◌<◌, ◌≤◌, ℕ, zero, suc, ◌+◌, ◌-◌, ◌^◌, Bool, true, false, List, [], ◌∷◌, length, Option, Some, None, inl, inr, refl, sym, ap, subst, ◌∙◌, arith}
use Rattle.std.specs.Prelude.{if◌then◌else◌, ◌&&◌, ◌||◌, nat_lt, nat_le, replicate, map}
use Rattle.std.proofs.lemmas.Bool.{lt-ltb, ltb-true}
use Rattle.std.proofs.Math.Pow.{pow_mono}
use Rattle.sk_base.specs.declared.span.Span.{Span}
use Rattle.sk_base.specs.declared.bounds.Bounds.{Bounds}
use Rattle.sk_tree.specs.declared.expr.Expr.{Expr}
use Rattle.sk_tree.specs.declared.expr.EForm.TheVariants as eform
use Rattle.sk_tree.specs.declared.expr.EForm.TheOpen as E
use Rattle.sk_tree.specs.Placed.{Place, alone, all_placed, place_of}
use Rattle.sk_prog.specs.declared.ty.Ty.{Ty}
use Rattle.sk_prog.specs.declared.ty.Ty.TheVariants as ty
use Rattle.sk_prog.specs.declared.ty.Elem.TheVariants as elem
use Rattle.sk_prog.specs.declared.expr.PExpr.{PExpr}
use Rattle.sk_prog.specs.declared.expr.PEForm.{PEForm}
use Rattle.sk_prog.specs.declared.expr.PEForm.TheVariants as pform
use Rattle.sk_prog.specs.declared.expr.PField.{PField}
use Rattle.sk_prog.specs.declared.expr.PEForm.TheOpen as P
use Rattle.sk_prog.specs.declared.expr.PEForm.TheViews.{roll-PEForm}
use Rattle.sk_types_rules.specs.declared.rules.Own.TheVariants.{Loose, Firm}
use Rattle.sk_types_rules.specs.declared.scope.Variable.{Variable}
use Rattle.sk_types_rules.specs.Rules.{int, bit, in_range, number_own, width_fits}
use Rattle.sk_types_rules.specs.Scope.{Context}
use Rattle.sk_types_rules.specs.Sorts.{own}
use Rattle.sk_types_rules.specs.Types.{EFormRule, Means, EachMeans, IsMore}
use Rattle.sk_types_rules.proofs.Layers.{FormMeans, rule, form_means_are, means_from}
use Rattle.sk_types_rules.proofs.SortLaws.{form_sort, form_sort_is, sort_is, sort_number}
use Rattle.sk_types_laws.proofs.Ats.{both_true}
use Rattle.sk_model.specs.Parts.{value}
use Rattle.sk_model.specs.Sites.{site, hole_bits}
use Rattle.sk_model.specs.Fill.{bits_at}
use Rattle.sk_holes_laws.proofs.Places.{place_at}
use Rattle.sk_holes_laws.specs.Owns.{Stays}
use Rattle.sk_holes_laws.specs.Holes.{Below, AreWide, IsFilled, HolesFill}

-- Numbers in range

below_range : (bounds : Bounds) (bits v : ℕ) → bits < bounds.int_bits → v < 2 ^ bits → in_range bounds v ≡ true
below_range bounds bits v fewer below =
    let up : 2 ^ bits ≤ 2 ^ (bounds.int_bits - 1) = pow_mono (omega (arith, fewer)) in
    lt-ltb v (2 ^ (bounds.int_bits - 1)) (omega (arith, below, up))

few_bits : (bounds : Bounds) (width : Option ℕ) → AreWide bounds → width_fits bounds width ≡ true → hole_bits bounds width < bounds.int_bits
few_bits bounds None wide h = wide.holes
few_bits bounds (Some n) wide h = ltb-true n bounds.int_bits (both_true (nat_le 1 n) (nat_lt n bounds.int_bits) h).1

bit_range : (bounds : Bounds) (v : ℕ) → AreWide bounds → v < 2 → in_range bounds v ≡ true
bit_range bounds v wide below =
    let one : 1 < bounds.int_bits = omega (arith, wide.two) in
    below_range bounds 1 v one below

module _ (context : Context) (scope : List Variable) where
  pub mean : (l : P.PEForm-F PEForm PExpr PField) (g : PEForm) → roll-PEForm l ≡ g → (t : Option Ty) (e : Expr) → rule context scope l t e → Means context scope (record { span = e.span; ty = t; form = g }) e
  mean l g is t e r = means_from context scope (record { span = e.span; ty = t; form = g }) e refl (subst (λ g. FormMeans context scope g t e) is (subst (λ (M : EFormRule). M t e) (sym (form_means_are context scope l)) r))

  abbrev number_tree : Span → ℕ → Expr
  number_tree s n = record { span = s; form = eform.Number n }

  number_place : (s : Span) (n : ℕ) → place_of (number_tree s n) ≡ alone true
  number_place s n = place_at (number_tree s n) (E.Number n) (sym (eform.rolls-Number n))

  number_own_is : (s : Span) (n : ℕ) → own context scope (number_tree s n) ≡ number_own n
  number_own_is s n = ap (λ z. z.own) (sort_number context scope s n)

  int_filled : (s : Span) (n : ℕ) → in_range context.bounds n ≡ true → IsFilled context scope (record { span = s; ty = Some int; form = pform.Number n }) int
  int_filled s n within = record {
    tree = number_tree s n;
    means = mean (P.Number n) (pform.Number n) (pform.rolls-Number n) (Some int) (number_tree s n) (refl, within, refl);
    type = refl;
    own = stays (nat_lt n 2) refl;
    level = ap (λ (a : Place). a.level) (number_place s n);
    placed = ap (λ (a : Place). a.placed) (number_place s n);
  }
    where
      stays : (b : Bool) → nat_lt n 2 ≡ b → Stays Loose (own context scope (number_tree s n)) int
      stays true e = inl (number_own_is s n ∙ ap (λ b. if b then Loose else Firm int) e)
      stays false e = inr (number_own_is s n ∙ ap (λ b. if b then Loose else Firm int) e)

  bit_means : (s : Span) (n : ℕ) → AreWide context.bounds → n < 2 → Means context scope (record { span = s; ty = Some bit; form = pform.Number n }) (number_tree s n)
  bit_means s n wide below =
      let e : nat_lt n 2 ≡ true = lt-ltb n 2 below in
      mean (P.Number n) (pform.Number n) (pform.rolls-Number n) (Some bit) (number_tree s n) (refl, bit_range context.bounds n wide below, ap (λ b. b || (b && false)) e)

  bit_filled : (s : Span) (n : ℕ) → AreWide context.bounds → n < 2 → IsFilled context scope (record { span = s; ty = Some bit; form = pform.Number n }) bit
  bit_filled s n wide below = record {
    tree = number_tree s n;
    means = bit_means s n wide below;
    type = refl;
    own = inl (number_own_is s n ∙ ap (λ b. if b then Loose else Firm int) (lt-ltb n 2 below));
    level = ap (λ (a : Place). a.level) (number_place s n);
    placed = ap (λ (a : Place). a.placed) (number_place s n);
  }

  module _ (values : List ℕ) (number : ℕ → ℕ) where
    abbrev bit_trees : Span → ℕ → ℕ → List Expr
    bit_trees s zero i = []
    bit_trees s (suc n) i = number_tree s (value values i) ∷ bit_trees s n (i + 1)

    each_bit : (s : Span) (n i : ℕ) → AreWide context.bounds → Below values i (replicate n (site 2 s)) → EachMeans (λ p. p) (Means context scope) bit (bits_at values number s n i) (bit_trees s n i)
    each_bit s zero i wide h = tt
    each_bit s (suc n) i wide h = (bit_means s (value values i) wide h.0, refl, each_bit s n (i + 1) wide h.1)

    bits_length : (s : Span) (n i : ℕ) → length (bits_at values number s n i) ≡ n
    bits_length s zero i = refl
    bits_length s (suc n) i = ap suc (bits_length s n (i + 1))

    some_bits : (s : Span) (n i : ℕ) → 1 ≤ n → IsMore (bits_at values number s n i)
    some_bits s zero i h = absurd (omega (arith, h))
    some_bits s (suc n) i h = tt

    bits_placed : (s : Span) (n i : ℕ) → all_placed (map place_of (bit_trees s n i)) ≡ true
    bits_placed s zero i = refl
    bits_placed s (suc n) i =
        let one = ap (λ (a : Place). a.placed) (number_place s (value values i)) in
        let rest = bits_placed s n (i + 1) in
        λ j. one j && rest j

    abbrev braces_tree : Span → ℕ → ℕ → Expr
    braces_tree s n i = record { span = s; form = eform.Braces (bit_trees s n i) }

    bits_filled : (s : Span) (n i : ℕ) → AreWide context.bounds → 1 ≤ n → Below values i (replicate n (site 2 s)) → IsFilled context scope (record { span = s; ty = Some (ty.Array elem.Bit n); form = pform.Braces (bits_at values number s n i) }) (ty.Array elem.Bit n)
    bits_filled s n i wide some h =
        let bits : List PExpr = bits_at values number s n i in
        let few : length bits ≤ n = omega (arith, bits_length s n i) in
        record {
          tree = braces_tree s n i;
          means = mean (P.Braces bits) (pform.Braces bits) (pform.rolls-Braces bits) (Some (ty.Array elem.Bit n)) (braces_tree s n i) (bit_trees s n i, refl, some_bits s n i some, bit, each_bit s n i wide h, ty.Array elem.Bit n, refl, few, refl);
          type = refl;
          own = inl (ap (λ z. z.own) (sort_is context scope (braces_tree s n i) ∙ ap (form_sort context scope) (sym (eform.rolls-Braces (bit_trees s n i))) ∙ form_sort_is context scope (E.Braces (bit_trees s n i))));
          level = ap (λ (a : Place). a.level) (place_at (braces_tree s n i) (E.Braces (bit_trees s n i)) (sym (eform.rolls-Braces (bit_trees s n i))));
          placed = ap (λ (a : Place). a.placed) (place_at (braces_tree s n i) (E.Braces (bit_trees s n i)) (sym (eform.rolls-Braces (bit_trees s n i)))) ∙ bits_placed s n i;
        }

pub holes_fill : HolesFill
holes_fill context scope values number width (ty.One elem.Int) s i wide fits takes some h = int_filled context scope s (value values i) (below_range context.bounds (hole_bits context.bounds width) (value values i) (few_bits context.bounds width wide fits) h.0)
holes_fill context scope values number width (ty.One elem.Bit) s i wide fits takes some h = bit_filled context scope s (value values i) wide h.0
holes_fill context scope values number width (ty.One (elem.Reference d)) s i wide fits takes some h = cc
holes_fill context scope values number width (ty.Array elem.Bit n) s i wide fits takes some h = bits_filled context scope values number s n i wide some h
holes_fill context scope values number width (ty.Array elem.Int n) s i wide fits takes some h = cc
holes_fill context scope values number width (ty.Array (elem.Reference d) n) s i wide fits takes some h = cc
holes_fill context scope values number width (ty.Grid a n m) s i wide fits takes some h = cc
