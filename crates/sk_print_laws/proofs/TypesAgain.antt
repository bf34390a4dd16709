-- A type that is printed is the same type again.
use Rattle.std.proofs.Common.{◌≡◌, ℕ, Bool, true, false, List, [], ◌∷◌, map, Option, Some, None, refl, sym, ap, ◌∙◌, subst}
use Rattle.sk_base.specs.declared.bounds.Bounds.{Bounds}
use Rattle.sk_tree.specs.declared.expr.Expr.{Expr}
use Rattle.sk_tree.specs.declared.item.Base.{Base}
use Rattle.sk_tree.specs.declared.item.Base.TheVariants as base
use Rattle.sk_tree.specs.declared.item.TyTree.{TyTree}
use Rattle.sk_prog.specs.declared.ids.StructId.{StructId}
use Rattle.sk_prog.specs.declared.ty.Elem.{Elem}
use Rattle.sk_prog.specs.declared.ty.Elem.TheVariants as elem
use Rattle.sk_prog.specs.declared.ty.Ty.{Ty}
use Rattle.sk_prog.specs.declared.ty.Ty.TheVariants as ty
use Rattle.sk_prog.specs.declared.prog.Prog.{Prog}
use Rattle.sk_types_rules.specs.declared.scope.Variable.{Variable}
use Rattle.sk_types_rules.specs.Erase.{number, elem_base, erase_ty}
use Rattle.sk_types_rules.specs.Rules.{◌>>=◌, only_if, is_length, is_grid}
use Rattle.sk_types_rules.specs.Scope.{Known, Context, Meaning, AVariable, AStruct, AConstant, AFunction, Nothing, top_of, meaning_of}
use Rattle.sk_types_rules.specs.Constants.{constant_number}
use Rattle.sk_types_rules.specs.Sorts.{struct_meant, base_elem, with_lengths, written_type}
use Rattle.sk_types_laws.specs.Envs.{AreDistinct}
use Rattle.sk_types_laws.proofs.Ats.{bind_some, some_same}
use Rattle.sk_print_laws.specs.SpanlessTree.{spanless_expr, spanless_ty}
use Rattle.sk_print_laws.proofs.Respelt.{Alike}
use Rattle.sk_print_laws.proofs.NamesBack.{struct_back}
use Rattle.sk_print_laws.proofs.MeansAgain.{number_again}

struct_meaning : (m : Meaning) (s : StructId) → struct_meant m ≡ Some s → m ≡ AStruct s
struct_meaning (AStruct r) s h = ap AStruct (some_same r s h)
struct_meaning (AVariable v) s h = cc
struct_meaning (AConstant c) s h = cc
struct_meaning (AFunction f) s h = cc
struct_meaning Nothing s h = cc

only_same : (b : Bool) (u t : Ty) → only_if b u ≡ Some t → u ≡ t
only_same true u t h = some_same u t h
only_same false u t h = cc

module _ (prog : Prog) (bounds : Bounds) (known again : List Known) (scope : List Variable) (good : AreDistinct (top_of prog)) where
  abbrev one : Context
  one = record { bounds = bounds; top = top_of prog; known = known }

  abbrev two : Context
  two = record { bounds = bounds; top = top_of prog; known = again }

  abbrev BaseIs : Elem → Type 0
  BaseIs a = base_elem two scope (elem_base prog a) ≡ Some a

  base_again : (b : Base) (a : Elem) → base_elem one scope b ≡ Some a → BaseIs a
  base_again base.Int a h = subst BaseIs (some_same elem.Int a h) refl
  base_again base.Bit a h = subst BaseIs (some_same elem.Bit a h) refl
  base_again (base.Named x) a h =
      let b = bind_some (struct_meant (meaning_of (top_of prog) scope x)) (λ s. Some (elem.Reference s)) a h in
      let name = struct_back prog scope x b.0 (struct_meaning (meaning_of (top_of prog) scope x) b.0 b.1) in
      subst BaseIs (some_same (elem.Reference b.0) a b.2)
      (ap (λ z. struct_meant (meaning_of (top_of prog) scope z) >>= λ s. Some (elem.Reference s)) name ∙ ap (λ o. o >>= λ s. Some (elem.Reference s)) b.1)

  abbrev numbers : Context → List Expr → List (Option ℕ)
  numbers context es = map (constant_number context scope) es

  no_lengths : (a : Elem) (fs : List Expr) → map spanless_expr fs ≡ [] → with_lengths two scope a (numbers two fs) ≡ Some (ty.One a)
  no_lengths a [] h = refl
  no_lengths a (f ∷ fs) h = cc

  one_length : (a : Elem) (e : Expr) (n : ℕ) → constant_number one scope e ≡ Some n → (fs : List Expr) → map spanless_expr fs ≡ spanless_expr (number n) ∷ [] → with_lengths two scope a (numbers two fs) ≡ only_if (is_length n) (ty.Array a n)
  one_length a e n is [] h = cc
  one_length a e n is (f ∷ []) h =
      let k : Alike (number n) f = cc in
      ap (λ o. with_lengths two scope a (o ∷ [])) (number_again prog bounds known again scope good e f n is k)
  one_length a e n is (f ∷ g ∷ fs) h = cc

  two_lengths : (a : Elem) (e d : Expr) (n m : ℕ) → constant_number one scope e ≡ Some n → constant_number one scope d ≡ Some m → (fs : List Expr) → map spanless_expr fs ≡ spanless_expr (number n) ∷ spanless_expr (number m) ∷ [] → with_lengths two scope a (numbers two fs) ≡ only_if (is_grid n m) (ty.Grid a n m)
  two_lengths a e d n m is js [] h = cc
  two_lengths a e d n m is js (f ∷ []) h = cc
  two_lengths a e d n m is js (f ∷ g ∷ []) h =
      let k : Alike (number n) f = cc in
      let l : Alike (number m) g = cc in
      λ i. with_lengths two scope a (number_again prog bounds known again scope good e f n is k i ∷ number_again prog bounds known again scope good d g m js l i ∷ [])
  two_lengths a e d n m is js (f ∷ g ∷ x ∷ fs) h = cc

  record TypeIs (a : Elem) (t : Ty) (z : TyTree) : Type 0 where
    base : z.base ≡ elem_base prog a
    lengths : with_lengths two scope a (numbers two z.lengths) ≡ Some t

  abbrev AlikeTy : Ty → TyTree → Type 0
  AlikeTy t z = spanless_ty z ≡ spanless_ty (erase_ty prog t)

  by_none : (a : Elem) (t : Ty) → ty.One a ≡ t → (z : TyTree) → AlikeTy t z → TypeIs a t z
  by_none a t is z h =
      let k : AlikeTy (ty.One a) z = h ∙ ap (λ (u : Ty). spanless_ty (erase_ty prog u)) (sym is) in
      record { base = ap (λ (y : TyTree). y.base) k; lengths = no_lengths a z.lengths (ap (λ (y : TyTree). y.lengths) k) ∙ ap Some is }

  by_one : (a : Elem) (e : Expr) (n : ℕ) (t : Ty) → constant_number one scope e ≡ Some n → only_if (is_length n) (ty.Array a n) ≡ Some t → (z : TyTree) → AlikeTy t z → TypeIs a t z
  by_one a e n t is some z h =
      let k : AlikeTy (ty.Array a n) z = h ∙ ap (λ (u : Ty). spanless_ty (erase_ty prog u)) (sym (only_same (is_length n) (ty.Array a n) t some)) in
      record { base = ap (λ (y : TyTree). y.base) k; lengths = one_length a e n is z.lengths (ap (λ (y : TyTree). y.lengths) k) ∙ some }

  by_two : (a : Elem) (e d : Expr) (n m : ℕ) (t : Ty) → constant_number one scope e ≡ Some n → constant_number one scope d ≡ Some m → only_if (is_grid n m) (ty.Grid a n m) ≡ Some t → (z : TyTree) → AlikeTy t z → TypeIs a t z
  by_two a e d n m t is js some z h =
      let k : AlikeTy (ty.Grid a n m) z = h ∙ ap (λ (u : Ty). spanless_ty (erase_ty prog u)) (sym (only_same (is_grid n m) (ty.Grid a n m) t some)) in
      record { base = ap (λ (y : TyTree). y.base) k; lengths = two_lengths a e d n m is js z.lengths (ap (λ (y : TyTree). y.lengths) k) ∙ some }

  lengths_again : (a : Elem) (es : List Expr) (t : Ty) → with_lengths one scope a (numbers one es) ≡ Some t → (z : TyTree) → AlikeTy t z → TypeIs a t z
  lengths_again a [] t h z same = by_none a t (some_same (ty.One a) t h) z same
  lengths_again a (e ∷ []) t h z same = go (constant_number one scope e) refl h
    where
      go : (o : Option ℕ) → constant_number one scope e ≡ o → with_lengths one scope a (o ∷ []) ≡ Some t → TypeIs a t z
      go None is h = cc
      go (Some n) is h = by_one a e n t is h z same
  lengths_again a (e ∷ d ∷ es) t h z same = go (constant_number one scope e) (constant_number one scope d) es refl refl h
    where
      go : (o q : Option ℕ) (gs : List Expr) → constant_number one scope e ≡ o → constant_number one scope d ≡ q → with_lengths one scope a (o ∷ q ∷ numbers one gs) ≡ Some t → TypeIs a t z
      go None q gs is js h = cc
      go (Some n) None gs is js h = cc
      go (Some n) (Some m) [] is js h = by_two a e d n m t is js h z same
      go (Some n) (Some m) (g ∷ gs) is js h = cc

  pub type_again : (y : TyTree) (t : Ty) → written_type one scope y ≡ Some t → (z : TyTree) → AlikeTy t z → written_type two scope z ≡ Some t
  type_again y t h z same =
      let b = bind_some (base_elem one scope y.base) (λ a. with_lengths one scope a (numbers one y.lengths)) t h in
      let l = lengths_again b.0 y.lengths t b.2 z same in
      ap (λ c. base_elem two scope c >>= λ a. with_lengths two scope a (numbers two z.lengths)) l.base
      ∙ ap (λ o. o >>= λ a. with_lengths two scope a (numbers two z.lengths)) (base_again y.base b.0 b.1)
      ∙ l.lengths
