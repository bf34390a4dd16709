-- Types that are written: they have elements, and in a filling they are what they were.
use Rattle.std.proofs.Common.{◌≡◌, ◌≤◌, ℕ, Bool, true, false, List, [], ◌∷◌, map, Option, Some, None, refl, ap, subst, ◌∙◌}
use Rattle.std.specs.Prelude.{◌&&◌, nat_le, ◌*◌}
use Rattle.std.proofs.lemmas.Bool.{and_parts, leb-true}
use Rattle.sk_base.specs.declared.bounds.Bounds.{Bounds}
use Rattle.sk_tree.specs.declared.expr.Expr.{Expr}
use Rattle.sk_tree.specs.declared.item.Base.{Base}
use Rattle.sk_tree.specs.declared.item.Base.TheVariants as base
use Rattle.sk_tree.specs.declared.item.TyTree.{TyTree}
use Rattle.sk_prog.specs.declared.ids.StructId.{StructId}
use Rattle.sk_prog.specs.declared.ty.Ty.{Ty}
use Rattle.sk_prog.specs.declared.ty.Ty.TheVariants as ty
use Rattle.sk_prog.specs.declared.ty.Elem.{Elem}
use Rattle.sk_prog.specs.declared.ty.Elem.TheVariants as elem
use Rattle.sk_prog.specs.declared.prog.StructDef.{StructDef}
use Rattle.sk_types_rules.specs.declared.scope.Variable.{Variable}
use Rattle.sk_types_rules.specs.Rules.{◌>>=◌, only_if, is_length, is_grid}
use Rattle.sk_types_rules.specs.Scope.{Signature, Known, Context, Meaning, AVariable, AStruct, AConstant, AFunction, Nothing, meaning_of}
use Rattle.sk_types_rules.specs.Constants.{constant_number}
use Rattle.sk_types_rules.specs.Sorts.{struct_meant, base_elem, with_lengths, written_type}
use Rattle.sk_types_laws.proofs.Ats.{bind_some, some_same}
use Rattle.sk_holes_laws.specs.Keeping.{Written}
use Rattle.sk_holes_laws.specs.Sizes.{Sized}
use Rattle.sk_holes_laws.specs.Filling.{context_with, Knows}
use Rattle.sk_holes_laws.proofs.Carried.{struct_meant_again, constant_stays}

-- Types with elements

only_some : {A : Type 0} (b : Bool) (a c : A) → only_if b a ≡ Some c → (b ≡ true) × (a ≡ c)
only_some true a c h = (refl, some_same a c h)
only_some false a c h = cc

length_sized : (n : ℕ) → is_length n ≡ true → 1 ≤ n
length_sized n h = leb-true 1 n (and_parts (nat_le 1 n) (nat_le n 64) h).0

module _ (context : Context) (scope : List Variable) where
  lengths_sized : (a : Elem) (ns : List (Option ℕ)) (t : Ty) → with_lengths context scope a ns ≡ Some t → Sized t
  lengths_sized a [] t h = subst Sized (some_same (ty.One a) t h) tt
  lengths_sized a (Some n ∷ []) t h =
      let o = only_some (is_length n) (ty.Array a n) t h in
      subst Sized o.1 (length_sized n o.0)
  lengths_sized a (Some n ∷ Some m ∷ []) t h =
      let o = only_some (is_grid n m) (ty.Grid a n m) t h in
      let p = and_parts (is_length n) (is_length m && nat_le (n * m) 256) o.0 in
      let q = and_parts (is_length m) (nat_le (n * m) 256) p.1 in
      subst Sized o.1 (length_sized n p.0, length_sized m q.0)
  lengths_sized a (None ∷ ns) t h = cc
  lengths_sized a (Some n ∷ None ∷ ns) t h = cc
  lengths_sized a (Some n ∷ Some m ∷ k ∷ ns) t h = cc

  -- a type that is written has elements
  pub written_sized : (y : TyTree) (t : Ty) → written_type context scope y ≡ Some t → Sized t
  written_sized y t h =
      let e = bind_some (base_elem context scope y.base) (λ a. with_lengths context scope a (map (constant_number context scope) y.lengths)) t h in
      lengths_sized e.0 (map (constant_number context scope) y.lengths) t e.2

module _ (bounds : Bounds) (structs : List StructDef) (consts : List (List ℕ)) (funs again : List Signature) (known all : List Known) (scope : List Variable) (knows : Knows known all) where
  abbrev first : Context
  first = context_with bounds structs consts funs known

  abbrev second : Context
  second = context_with bounds structs consts again all

  meant_struct : (m : Meaning) (s : StructId) → struct_meant m ≡ Some s → m ≡ AStruct s
  meant_struct (AStruct r) s h = ap AStruct (some_same r s h)
  meant_struct (AVariable v) s h = cc
  meant_struct (AConstant c) s h = cc
  meant_struct (AFunction f) s h = cc
  meant_struct Nothing s h = cc

  base_stays : (b : Base) (a : Elem) → base_elem first scope b ≡ Some a → base_elem second scope b ≡ Some a
  base_stays base.Int a h = h
  base_stays base.Bit a h = h
  base_stays (base.Named x) a h =
      let s = bind_some (struct_meant (meaning_of first.top scope x)) (λ s. Some (elem.Reference s)) a h in
      let m = meant_struct (meaning_of first.top scope x) s.0 s.1 in
      ap (λ m. struct_meant m >>= λ s. Some (elem.Reference s)) (struct_meant_again bounds structs consts funs again known all scope x s.0 m) ∙ s.2

  one_stays : (e : Expr) (o : Option ℕ) (n : ℕ) → constant_number first scope e ≡ o → o ≡ Some n → constant_number second scope e ≡ Some n
  one_stays e o n is h = constant_stays bounds structs consts funs again known all scope knows e n (is ∙ h)

  lengths_stay : (a : Elem) (es : List Expr) (t : Ty) → with_lengths first scope a (map (constant_number first scope) es) ≡ Some t → with_lengths second scope a (map (constant_number second scope) es) ≡ Some t
  lengths_stay a [] t h = h
  lengths_stay a (e ∷ []) t h = go (constant_number first scope e) refl h
    where
      go : (o : Option ℕ) → constant_number first scope e ≡ o → with_lengths first scope a (o ∷ []) ≡ Some t → with_lengths second scope a (constant_number second scope e ∷ []) ≡ Some t
      go None is k = cc
      go (Some n) is k = ap (λ o. with_lengths second scope a (o ∷ [])) (one_stays e (Some n) n is refl) ∙ k
  lengths_stay a (e ∷ d ∷ []) t h = go (constant_number first scope e) (constant_number first scope d) refl refl h
    where
      go : (o p : Option ℕ) → constant_number first scope e ≡ o → constant_number first scope d ≡ p → with_lengths first scope a (o ∷ p ∷ []) ≡ Some t → with_lengths second scope a (constant_number second scope e ∷ constant_number second scope d ∷ []) ≡ Some t
      go None p is at k = cc
      go (Some n) None is at k = cc
      go (Some n) (Some m) is at k = (λ i. with_lengths second scope a (one_stays e (Some n) n is refl i ∷ one_stays d (Some m) m at refl i ∷ [])) ∙ k
  lengths_stay a (e ∷ d ∷ c ∷ es) t h = go (constant_number first scope e) (constant_number first scope d) h
    where
      go : (o p : Option ℕ) → with_lengths first scope a (o ∷ p ∷ constant_number first scope c ∷ map (constant_number first scope) es) ≡ Some t → with_lengths second scope a (constant_number second scope e ∷ constant_number second scope d ∷ constant_number second scope c ∷ map (constant_number second scope) es) ≡ Some t
      go None p k = cc
      go (Some n) None k = cc
      go (Some n) (Some m) k = cc

  pub type_stays : (y : TyTree) (t : Ty) → written_type first scope y ≡ Some t → written_type second scope y ≡ Some t
  type_stays y t h =
      let e = bind_some (base_elem first scope y.base) (λ a. with_lengths first scope a (map (constant_number first scope) y.lengths)) t h in
      ap (λ o. o >>= λ a. with_lengths second scope a (map (constant_number second scope) y.lengths)) (base_stays y.base e.0 e.1) ∙ lengths_stay e.0 y.lengths t e.2

  pub written_stays : (t : Ty) → Written first scope t → Written second scope t
  written_stays t h = record { tree = h.tree; means = type_stays h.tree t h.means; placed = h.placed }
