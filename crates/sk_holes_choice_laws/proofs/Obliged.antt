-- The obligations of a filling are those of its expansion: a copy has none.
use Rattle.std.proofs.Common.{◌≡◌, ◌<◌, ◌≤◌, ℕ, zero, suc, ◌+◌, Bool, true, false, ◌||◌, List, [], ◌∷◌, ◌++◌, length, Option, Some, None, inl, inr, refl, sym, ap, subst, ◌∙◌, arith}
use Rattle.std.specs.Prelude.{not, ◌&&◌, ◌⊎◌, nat_lt, slice_get, slice_index_or}
use Rattle.std.proofs.lemmas.Bool.{false≢true, ltb-true, ltb-false, and_parts}
use Rattle.sk_base.specs.declared.bounds.Bounds.{Bounds}
use Rattle.sk_tree.specs.declared.item.Item.{Item}
use Rattle.sk_tree.specs.declared.item.Item.TheVariants as item
use Rattle.sk_prog.specs.declared.ids.FunId.{FunId}
use Rattle.sk_prog.specs.declared.stmt.PStmt.{PStmt}
use Rattle.sk_prog.specs.declared.prog.StructDef.{StructDef}
use Rattle.sk_prog.specs.declared.prog.ConstDef.{ConstDef}
use Rattle.sk_prog.specs.declared.prog.FunKind.{FunKind}
use Rattle.sk_prog.specs.declared.prog.FunKind.TheVariants as kind
use Rattle.sk_prog.specs.declared.prog.Fun.{Fun}
use Rattle.sk_prog.specs.declared.prog.Prog.{Prog}
use Rattle.sk_types_rules.specs.Scope.{Known, Top, Signature, signature_of}
use Rattle.sk_types_rules.specs.Types as T
use Rattle.sk_types_rules.specs.Types.{ItemsMean, ImplementsMeans, same_params, same_result, speaks_of_records}
use Rattle.sk_model.specs.declared.expanded.Obligation.{Obligation}
use Rattle.sk_model.specs.declared.expanded.Obligation.TheVariants as obligation
use Rattle.sk_model.specs.Obligations.{of_kind, of_reference, of_fun, obligations_from}
use Rattle.sk_model.specs.Fill.{fill_fun, fill_funs, stmts_count}
use Rattle.sk_holes_laws.specs.Expanded.{IsOrdinary}
use Rattle.sk_expand_laws.proofs.Lists.{no_or, not_true}

-- a function that need not hold of anything
pub record IsBare (f : Fun) : Type 0 where
  pub kind : f.kind ≡ kind.Plain
  pub implements : f.implements ≡ None

-- the functions from this number on are such
abbrev pub BareFrom : ℕ → List Fun → Type 0
BareFrom c fs = (n : ℕ) (f : Fun) → c ≤ n → slice_get fs n ≡ Some f → IsBare f

-- the functions before this number are kept
abbrev pub Marked : ℕ → List Bool → List Fun → Type 0
Marked c bs fs = (n : ℕ) (f : Fun) → n < c → slice_get fs n ≡ Some f → slice_index_or bs n false ≡ true

abbrev pub numbered : ℕ → FunId
numbered n = record { index = n }

none_of : (n : ℕ) (f : Fun) → IsBare f → of_fun (numbered n) f ≡ []
none_of n f b = λ i. of_kind (numbered n) (b.kind i) ++ of_reference (numbered n) (b.implements i)

none_from : (n : ℕ) (fs : List Fun) → BareFrom 0 fs → obligations_from n fs ≡ []
none_from n [] b = refl
none_from n (f ∷ fs) b = λ i. none_of n f (b 0 f (omega arith) refl) i ++ none_from (n + 1) fs (λ k g h at. b (suc k) g (omega arith) at) i

module _ (values : List ℕ) (number : ℕ → ℕ) (paid : List PStmt) where
  none_filled : (bs : List Bool) (fs : List Fun) (n i : ℕ) → BareFrom 0 fs → obligations_from n (fill_funs values number paid bs fs i) ≡ []
  none_filled [] fs n i b = refl
  none_filled (true ∷ bs) [] n i b = refl
  none_filled (false ∷ bs) [] n i b = refl
  none_filled (true ∷ bs) (f ∷ fs) n i b =
      let here = b 0 f (omega arith) refl in
      let rest = none_filled bs fs (n + 1) (i + stmts_count values number f.body) (λ k g h at. b (suc k) g (omega arith) at) in
      (λ j. none_of n (fill_fun values number paid f i) (record { kind = here.kind; implements = here.implements }) j ++ rest j)
  none_filled (false ∷ bs) (f ∷ fs) n i b = none_filled bs fs n (i + stmts_count values number f.body) (λ k g h at. b (suc k) g (omega arith) at)

  pub obligations_stay : (c : ℕ) (bs : List Bool) (fs : List Fun) (n i : ℕ) → Marked c bs fs → BareFrom c fs → obligations_from n (fill_funs values number paid bs fs i) ≡ obligations_from n fs
  obligations_stay zero bs fs n i m b = none_filled bs fs n i b ∙ sym (none_from n fs b)
  obligations_stay (suc c) [] [] n i m b = refl
  obligations_stay (suc c) (true ∷ bs) [] n i m b = refl
  obligations_stay (suc c) (false ∷ bs) [] n i m b = refl
  obligations_stay (suc c) [] (f ∷ fs) n i m b = absurd (false≢true (m 0 f (omega arith) refl))
  obligations_stay (suc c) (false ∷ bs) (f ∷ fs) n i m b = absurd (false≢true (m 0 f (omega arith) refl))
  obligations_stay (suc c) (true ∷ bs) (f ∷ fs) n i m b =
      ap (λ rest. of_fun (numbered n) f ++ rest) (obligations_stay c bs fs (n + 1) (i + stmts_count values number f.body) (λ k g h at. m (suc k) g (omega (arith, h)) at) (λ k g h at. b (suc k) g (omega (arith, h)) at))

  -- a function that is kept has the parameters that it had
  pub params_stay : (c : ℕ) (bs : List Bool) (fs : List Fun) (i : ℕ) → Marked c bs fs → (n : ℕ) (f : Fun) → n < c → slice_get fs n ≡ Some f → (g : Fun) × (slice_get (fill_funs values number paid bs fs i) n ≡ Some g) × (g.params ≡ f.params)
  params_stay zero bs fs i m n f h at = absurd (omega (arith, h))
  params_stay (suc c) bs [] i m n f h at = cc
  params_stay (suc c) [] (e ∷ fs) i m n f h at = absurd (false≢true (m 0 e (omega arith) refl))
  params_stay (suc c) (false ∷ bs) (e ∷ fs) i m n f h at = absurd (false≢true (m 0 e (omega arith) refl))
  params_stay (suc c) (true ∷ bs) (e ∷ fs) i m zero f h at = let same : e ≡ f = cc in (fill_fun values number paid e i, refl, ap (λ (f : Fun). f.params) same)
  params_stay (suc c) (true ∷ bs) (e ∷ fs) i m (suc n) f h at =
      params_stay c bs fs (i + stmts_count values number e.body) (λ k g h at. m (suc k) g (omega (arith, h)) at) n f (omega (arith, h)) at

-- Which functions obligations name

module _ (c l : ℕ) where
  abbrev pub Within : Obligation → Type 0
  Within (obligation.Harness f) = (f.index < c) × (f.index < l)
  Within (obligation.Implements f g) = (f.index < c) × (f.index < l) × (g.index < c)

  abbrev pub AllWithin : List Obligation → Type 0
  AllWithin [] = Unit {0}
  AllWithin (o ∷ os) = Within o × AllWithin os

  both : (xs ys : List Obligation) → AllWithin xs → AllWithin ys → AllWithin (xs ++ ys)
  both [] ys h k = k
  both (x ∷ xs) ys h k = (h.0, both xs ys h.1 k)

  of_one : (r : FunId) (k : FunKind) (o : Option FunId) → r.index < c → r.index < l → IsOrdinary c o → AllWithin (of_kind r k ++ of_reference r o)
  of_one r kind.Harness None a b h = ((a, b), tt)
  of_one r kind.Harness (Some g) a b h = ((a, b), ((a, b, h), tt))
  of_one r kind.Plain None a b h = tt
  of_one r kind.Plain (Some g) a b h = ((a, b, h), tt)
  of_one r kind.Generator None a b h = tt
  of_one r kind.Generator (Some g) a b h = ((a, b, h), tt)

  earlier : (n : ℕ) → (n < c) ⊎ (c ≤ n)
  earlier n = split (nat_lt n c) refl
    where
      split : (b : Bool) → nat_lt n c ≡ b → (n < c) ⊎ (c ≤ n)
      split true e = inl (ltb-true n c e)
      split false e = inr (ltb-false n c e)

  pub obliged : (n : ℕ) (fs : List Fun) → n + length fs ≤ l → ((k : ℕ) (f : Fun) → c ≤ n + k → slice_get fs k ≡ Some f → IsBare f) → ((k : ℕ) (f : Fun) → slice_get fs k ≡ Some f → IsOrdinary c f.implements) → AllWithin (obligations_from n fs)
  obliged n [] h b o = tt
  obliged n (f ∷ fs) h b o =
      let rest = obliged (n + 1) fs (omega (arith, h)) (λ k g p at. b (suc k) g (omega (arith, p)) at) (λ k g at. o (suc k) g at) in
      both (of_fun (numbered n) f) (obligations_from (n + 1) fs) (elim (earlier n) [
        | inl p ↦ of_one (numbered n) f.kind f.implements p (omega (arith, h)) (o 0 f refl)
        | inr p ↦ subst AllWithin (sym (none_of n f (b 0 f (omega (arith, p)) refl))) tt
      ]) rest

  pub obliged_at : (os : List Obligation) (k : ℕ) (o : Obligation) → AllWithin os → slice_get os k ≡ Some o → Within o
  obliged_at [] k o h at = cc
  obliged_at (x ∷ os) zero o h at = let same : x ≡ o = cc in subst Within same h.0
  obliged_at (x ∷ os) (suc k) o h at = obliged_at os k o h.1 at

-- A generator implements nothing.

module _ (bounds : Bounds) (top : Top) where
  none_named : (s : Signature) (o : Option (List ℕ)) (j : Option FunId) → ImplementsMeans top s o j → T.is_generator s.kind ≡ true → j ≡ None
  none_named s None None m gen = refl
  none_named s (Some x) None m gen = absurd m
  none_named s None (Some i) m gen = absurd m
  none_named s (Some x) (Some i) m gen =
      let plain = and_parts (not (T.is_generator s.kind || T.is_generator m.1.kind)) (same_params s.params m.1.params && (same_result s.result m.1.result && not (speaks_of_records m.1.params m.1.result))) m.3 in
      let no = (no_or (T.is_generator s.kind) (T.is_generator m.1.kind) (not_true _ plain.0)).0 in
      let z : true ≡ false = sym gen ∙ no in
      cc

  pub generators_implement_nothing : (known : List Known) (is : List Item) (ds : List StructDef) (cs : List ConstDef) (fs : List Fun) → ItemsMean bounds top known is ds cs fs → (i : ℕ) (f : Fun) → slice_get fs i ≡ Some f → T.is_generator f.kind ≡ true → f.implements ≡ None
  generators_implement_nothing known [] [] [] [] m i f h gen = cc
  generators_implement_nothing known (item.Struct x ys ∷ is) (d ∷ ds) cs fs m i f h gen = generators_implement_nothing known is ds cs fs m.1 i f h gen
  generators_implement_nothing known (item.Const x e ∷ is) ds (c ∷ cs) fs m i f h gen = generators_implement_nothing (known ++ record { name = x; number = m.0 } ∷ []) is ds cs fs m.2 i f h gen
  generators_implement_nothing known (item.Fun g ∷ is) ds cs (e ∷ fs) m zero f h gen =
      let same : e ≡ f = cc in
      ap (λ (f : Fun). f.implements) (sym same) ∙ none_named (signature_of e) g.implements e.implements m.0.implements (ap (λ (f : Fun). T.is_generator f.kind) same ∙ gen)
  generators_implement_nothing known (item.Fun g ∷ is) ds cs (e ∷ fs) m (suc i) f h gen = generators_implement_nothing known is ds cs fs m.1 i f h gen
  generators_implement_nothing known [] (d ∷ ds) cs fs m i f h gen = absurd m
  generators_implement_nothing known [] [] (c ∷ cs) fs m i f h gen = absurd m
  generators_implement_nothing known [] [] [] (e ∷ fs) m i f h gen = absurd m
  generators_implement_nothing known (item.Struct x ys ∷ is) [] cs fs m i f h gen = absurd m
  generators_implement_nothing known (item.Const x e ∷ is) ds [] fs m i f h gen = absurd m
  generators_implement_nothing known (item.Fun g ∷ is) ds cs [] m i f h gen = absurd m
  generators_implement_nothing known (item.Pragma word text ∷ is) ds cs fs m i f h gen = absurd m
