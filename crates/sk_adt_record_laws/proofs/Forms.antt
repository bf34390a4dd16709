-- What forms without fields, calls and tests do on both sides.
use Rattle.std.proofs.Common.{◌≡◌, ℕ, List, [], ◌∷◌, ◌++◌, slice_get, Option, Some, None, Bool, true, false, inl, inr, refl, sym, ap, subst, ◌∙◌}
use Rattle.std.specs.Prelude.{◌||◌, ◌==◌, slice_index_or, if◌then◌else◌}
use Rattle.std.proofs.lemmas.Bool.{false≢true, eq-eqb}
use Rattle.std.proofs.lemmas.Option.{none-some}
use Rattle.sk_base.specs.declared.span.Span.{Span}
use Rattle.sk_base.specs.declared.bounds.Bounds.{Bounds}
use Rattle.sk_base.specs.declared.name.Name.{Name}
use Rattle.sk_tree.specs.declared.expr.Expr.{Expr}
use Rattle.sk_prog.specs.declared.ids.ConstId.{ConstId}
use Rattle.sk_prog.specs.declared.ty.Elem.{Elem}
use Rattle.sk_prog.specs.declared.ty.Ty.{Ty}
use Rattle.sk_prog.specs.declared.ty.Ty.TheVariants as ty
use Rattle.sk_prog.specs.declared.value.Value.{Value}
use Rattle.sk_prog.specs.declared.value.Value.TheVariants as value
use Rattle.sk_prog.specs.declared.expr.UnOp.{UnOp}
use Rattle.sk_prog.specs.declared.expr.PExpr.{PExpr}
use Rattle.sk_prog.specs.declared.expr.PEForm.TheOpen as P
use Rattle.sk_prog.specs.declared.expr.PEForm.TheVariants as eform
use Rattle.sk_prog.specs.declared.expr.PEForm.TheViews as V
use Rattle.sk_prog.specs.declared.prog.Prog.{Prog}
use Rattle.sk_types_rules.specs.declared.scope.Variable.{Variable}
use Rattle.sk_types_rules.specs.declared.rules.Fit.TheVariants.{Misfit, Same, Widens, Pads}
use Rattle.sk_types_rules.specs.Rules.{base_of, element_of, array_of, ty_eq, widens, pads, fit_of}
use Rattle.sk_types_rules.specs.Scope.{Known}
use Rattle.sk_types_rules.specs.Sorts.{sliced}
use Rattle.sk_types_laws.proofs.Ats.{both_true, elem_same}
use Rattle.sk_model.specs.Step as plain
use Rattle.sk_model.specs.Values.{padded}
use Rattle.sk_model.specs.Heap.{Location, Variable as AtSlot, blank}
use Rattle.sk_model.specs.Operators.{unary_operator, to_int}
use Rattle.sk_model.specs.Eval.{literal, const_value, padded_at, indexed, unfilled}
use Rattle.sk_model.specs.Eval as eval
use Rattle.sk_model.proofs.Induction.{Each}
use Rattle.sk_adt.specs.declared.algebraic.Algebraic.{Algebraic}
use Rattle.sk_adt_tags.specs.declared.role.Test.{Test}
use Rattle.sk_adt_tags.specs.Tags.{Part, of_none, of_two, variable_part}
use Rattle.sk_adt_records.specs.Steps.{Record, Step, Goes, Comp, and_then, pure, fail, lift}
use Rattle.sk_adt_records.specs.Eval.{Calls, Does, choose, add_index}
use Rattle.sk_adt_record_laws.proofs.Places.{Holds, each_map, holds_bit, holds_null, holds_padded}
use Rattle.sk_adt_record_laws.proofs.Related.{Grows, IsOf, Fits, fits_by, fits_map, fits_grows, with_heap, Inv, Ends, ends_then, ends_at}
use Rattle.sk_adt_record_laws.proofs.Quiet.{Quiet, quiet_unary, quiet_to_int, quiet_unfilled, quiet_indexed, quiet_sliced, literal_holds, const_holds, quiet_fits, lift_ends}
use Rattle.sk_adt_record_laws.proofs.Stores.{Unheld, Rooted, rooted_grows}
use Rattle.sk_adt_record_laws.proofs.Fine.{base, Stands, Here, Free, IsRead, IsNumber, Fine, dull, parts, done, again, Meant, At, laid}

-- Lists and tests

pub some_span : (s : Span) (ss : List Span) → s ∷ ss ≡ [] → ⊥
some_span s ss e = cc

pub none_of : (ss ts : List Span) → ss ++ ts ≡ [] → (ss ≡ []) × (ts ≡ [])
none_of [] ts e = (refl, e)
none_of (s ∷ ss) ts e = absurd (some_span s (ss ++ ts) e)

pub or_none : (a b : Bool) → (a || b) ≡ false → (a ≡ false) × (b ≡ false)
or_none true b e = absurd (false≢true (sym e))
or_none false b e = (refl, e)

pub each_or : (f g : Test → Bool) (us : List Test) → Each (λ (u : Test). (f u || g u) ≡ false) us → Each (λ (u : Test). f u ≡ false) us × Each (λ (u : Test). g u ≡ false) us
each_or f g [] h = (tt, tt)
each_or f g (u ∷ us) h = let a = or_none (f u) (g u) h.0 in let r = each_or f g us h.1 in ((a.0, r.0), (a.1, r.1))

pub here_first : (a b : Part) (M N : List Variable → Expr → Type 0) (scope : List Variable) (us : List Test) (tree : Expr) → N scope tree → Here (of_two a b) M scope us → Here a N scope us
here_first a b M N scope us tree m w = record { tree = tree; means = m; stands = w.stands; passes = (each_or (λ (u : Test). a.passes u.slot) (λ (u : Test). b.passes u.slot) us w.passes).0; keeps = (none_of (a.breaks us) (b.breaks us) w.keeps).0 }

pub here_second : (a b : Part) (M N : List Variable → Expr → Type 0) (scope : List Variable) (us : List Test) (tree : Expr) → N scope tree → Here (of_two a b) M scope us → Here b N scope us
here_second a b M N scope us tree m w = record { tree = tree; means = m; stands = w.stands; passes = (each_or (λ (u : Test). a.passes u.slot) (λ (u : Test). b.passes u.slot) us w.passes).1; keeps = (none_of (a.breaks us) (b.breaks us) w.keeps).1 }

-- Types

pub element_base : (s r : Ty) → element_of s ≡ Some r → base_of r ≡ base_of s
element_base (ty.One e) r i = absurd (none-some r i)
element_base (ty.Array e n) r i = let same : ty.One e ≡ r = cc in sym (ap base_of same)
element_base (ty.Grid e n m) r i = let same : ty.Array e n ≡ r = cc in sym (ap base_of same)

array_base : (s r : Ty) (n : ℕ) → array_of s n ≡ Some r → base_of r ≡ base_of s
array_base (ty.One e) r n i = let same : ty.Array e n ≡ r = cc in sym (ap base_of same)
array_base (ty.Array e k) r n i = let same : ty.Grid e k n ≡ r = cc in sym (ap base_of same)
array_base (ty.Grid e k m) r n i = absurd (none-some r i)

pads_base : (u t : Ty) → pads u t ≡ true → base_of u ≡ base_of t
pads_base (ty.One b) (ty.Array a n) e = elem_same b a e
pads_base (ty.Array b m) (ty.Array a n) e = elem_same b a (both_true _ _ e).0
pads_base (ty.Array b k) (ty.Grid a n m) e = elem_same b a (both_true _ _ e).0
pads_base (ty.Grid b k l) (ty.Grid a n m) e = elem_same b a (both_true _ _ e).0
pads_base (ty.One b) (ty.One a) e = absurd (false≢true e)
pads_base (ty.One b) (ty.Grid a n m) e = absurd (false≢true e)
pads_base (ty.Array b m) (ty.One a) e = absurd (false≢true e)
pads_base (ty.Grid b k l) (ty.One a) e = absurd (false≢true e)
pads_base (ty.Grid b k l) (ty.Array a n) e = absurd (false≢true e)

fit_base : (u t : Ty) → fit_of u t ≡ Pads → base_of u ≡ base_of t
fit_base u t e = go (ty_eq u t) (widens u t) (pads u t) refl e
  where
    go : (a b c : Bool) → pads u t ≡ c → (if a then Same else (if b then Widens else (if c then Pads else Misfit))) ≡ Pads → base_of u ≡ base_of t
    go true b c h k = cc
    go false true c h k = cc
    go false false true h k = pads_base u t h
    go false false false h k = cc

sliced_base : (s r : Ty) (n : ℕ) → sliced s n ≡ Some r → base_of r ≡ base_of s
sliced_base (ty.One e) r n i = absurd (none-some r i)
sliced_base (ty.Array e k) r n i = go _ i
  where
    go : (b : Bool) → (if b then array_of (ty.One e) n else None) ≡ Some r → base_of r ≡ e
    go true j = array_base (ty.One e) r n j
    go false j = absurd (none-some r j)
sliced_base (ty.Grid e k m) r n i = go _ i
  where
    go : (b : Bool) → (if b then array_of (ty.Array e k) n else None) ≡ Some r → base_of r ≡ e
    go true j = array_base (ty.Array e k) r n j
    go false j = absurd (none-some r j)

module _ (types : List Algebraic) (prog : Prog) (bounds : Bounds) where
  abbrev Yields : Elem → List Variable → List Test → List Record → plain.Step Value → Step Value → Type 0
  Yields e scope us h m n = Ends types prog (λ (v : Value). scope) us h (λ v k. Fits k e v) m n

  -- what one of two parts does, by a bit
  pub choose_ends : {A : Type 0} (scope : A → List Variable) (us : List Test) (from : List Record) (R : A → List Record → Type 0) (span : Span) (v : Value) (s : plain.State) (h : List Record) (a b : plain.Comp A) (c d : Comp A)
      → Ends types prog scope us from R (a s) (c (with_heap s h)) → Ends types prog scope us from R (b s) (d (with_heap s h)) → Ends types prog scope us from R (eval.choose span a b v s) (choose span c d v (with_heap s h))
  choose_ends scope us from R span (value.Bit true) s h a b c d x y = x
  choose_ends scope us from R span (value.Bit false) s h a b c d x y = y
  choose_ends scope us from R span (value.Int n) s h a b c d x y = refl
  choose_ends scope us from R span value.Null s h a b c d x y = refl
  choose_ends scope us from R span (value.Place p) s h a b c d x y = refl
  choose_ends scope us from R span (value.Array' shape vs) s h a b c d x y = refl

  pub pure_ends : (e : Elem) (scope : List Variable) (us : List Test) (v : Value) (s : plain.State) (h : List Record) → ((P : ℕ → Type 0) → Holds P v) → Inv types prog scope us s h → Yields e scope us h (plain.Goes v s) (Goes v (with_heap s h))
  pure_ends e scope us v s h f i = ends_at types prog (λ (v : Value). scope) us (λ v k. Fits k e v) v s h i (fits_by h e v (λ d. f (IsOf h d)))

  pub quiet_ends : (e : Elem) (scope : List Variable) (us : List Test) (m : plain.Comp Value) (s : plain.State) (h : List Record) → ((P : ℕ → Type 0) → Quiet P m) → Inv types prog scope us s h → Yields e scope us h (m s) (lift m (with_heap s h))
  quiet_ends e scope us m s h f i = lift_ends types prog scope us h e m s (quiet_fits h e value.Null m (λ P x. f P) (fits_by h e value.Null (λ d. holds_null (IsOf h d)))) i

  -- the same at another type with the same single values
  pub at_base : (a b : Elem) (scope : List Variable) (us : List Test) (h : List Record) (m : plain.Step Value) (n : Step Value) → a ≡ b → Yields a scope us h m n → Yields b scope us h m n
  at_base a b scope us h m n e r = subst (λ x. Yields x scope us h m n) e r

  -- one value after another
  pub then_value : (a e : Elem) (scope : List Variable) (us : List Test) (span : Span) (s : plain.State) (h : List Record) (m : plain.Step Value) (n : Step Value) (k : Value → plain.Comp Value) (l : Value → Comp Value)
      → Yields a scope us h m n
      → ((v : Value) (t : plain.State) (j : List Record) → Inv types prog scope us t j → Grows h j → Fits j a v → Yields e scope us j (k v t) (l v (with_heap t j)))
      → Yields e scope us h (plain.and_then m k) (and_then n l)
  then_value a e scope us span s h m n k l r f = ends_then types prog (λ (v : Value). scope) (λ (v : Value). scope) us h (λ v j. Fits j a v) (λ v j. Fits j e v) m n k l r f

  module _ (known : List Known) (call : eval.Calls) (later : Calls) where
    abbrev Now : PExpr → Type 0
    Now = At types prog bounds known call later

    abbrev width : ℕ
    width = bounds.int_bits

    -- what an expression does in a run, and with records by their variants
    abbrev does_plainly : PExpr → eval.Does
    does_plainly = done types prog bounds known call later

    abbrev does_by_variant : PExpr → Does
    does_by_variant = again types prog bounds known call later

    abbrev as_part : PExpr → Part
    as_part = parts types prog bounds known call later

    abbrev means : PExpr → List Variable → Expr → Type 0
    means = Meant types prog bounds known call later

    -- a value that is there at once, of what is no target
    at_once : (v : Value) → ((P : ℕ → Type 0) → Holds P v) → (t : Option Ty) (M : List Variable → Expr → Type 0) → Fine types prog bounds t of_none (record { value = λ span. plain.pure v; target = λ span. plain.fail span }) (record { value = λ span. pure v; target = λ span. fail span; slot = None; number = None; tag = None }) M
    at_once v f t M = dull types prog bounds t _ _ _ M (refl, refl, refl, refl) (refl, refl, refl)
        (λ scope us w span s h i. pure_ends (base t) scope us v s h f i)
        (λ scope us w free span s h i. refl)

    pub case_true : (s : Span) (t : Option Ty) → Now (record { span = s; ty = t; form = eform.True })
    case_true s t = laid types prog bounds known call later P.True eform.True V.rolls-True s t (at_once (value.Bit true) (λ P. holds_bit P true) t _)

    pub case_false : (s : Span) (t : Option Ty) → Now (record { span = s; ty = t; form = eform.False })
    case_false s t = laid types prog bounds known call later P.False eform.False V.rolls-False s t (at_once (value.Bit false) (λ P. holds_bit P false) t _)

    pub case_null : (s : Span) (t : Option Ty) → Now (record { span = s; ty = t; form = eform.Null })
    case_null s t = laid types prog bounds known call later P.Null eform.Null V.rolls-Null s t (at_once value.Null (λ P. holds_null P) t _)

    pub case_const : (s : Span) (t : Option Ty) (c : ConstId) → Now (record { span = s; ty = t; form = eform.Const c })
    case_const s t c = laid types prog bounds known call later (P.Const c) (eform.Const c) (V.rolls-Const c) s t (at_once (const_value (slice_get prog.consts c.index)) (λ P. const_holds P (slice_get prog.consts c.index)) t _)

    pub case_number : (s : Span) (t : Option Ty) (n : ℕ) → Now (record { span = s; ty = t; form = eform.Number n })
    case_number s t n = laid types prog bounds known call later (P.Number n) (eform.Number n) (V.rolls-Number n) s t (record {
      slot = refl;
      number = refl;
      tag = refl;
      reads = λ x e. absurd (none-some x e);
      says = λ i e. let same : n ≡ i = cc in subst (IsNumber types prog bounds t _ _ _) same (record { first = λ span. refl; second = λ span. refl; small = λ scope z m. m.1 });
      asks = λ x e. absurd (none-some x e);
      tested = λ u e. absurd (none-some u e);
      runs = λ scope us w span s h i. pure_ends (base t) scope us (literal width t n) s h (λ P. literal_holds P width t n) i;
      aims = λ scope us w free span s h i. refl;
    })

    pub case_hole : (s : Span) (t : Option Ty) (bits : Option ℕ) → Now (record { span = s; ty = t; form = eform.Hole bits })
    case_hole s t bits = laid types prog bounds known call later (P.Hole bits) (eform.Hole bits) (V.rolls-Hole bits) s t (dull types prog bounds t _ _ _ _ (refl, refl, refl, refl) (refl, refl, refl)
        (λ scope us w span s h i. quiet_ends (base t) scope us (unfilled t span) s h (λ P. quiet_unfilled P t span) i)
        (λ scope us w free span s h i. refl))

    pub case_pattern : (s : Span) (t : Option Ty) (es : List PExpr) → Now (record { span = s; ty = t; form = eform.Pattern es })
    case_pattern s t es = laid types prog bounds known call later (P.Pattern es) (eform.Pattern es) (V.rolls-Pattern es) s t (dull types prog bounds t _ _ _ _ (refl, refl, refl, refl) (refl, refl, refl)
        (λ scope us w span s h i. refl)
        (λ scope us w free span s h i. refl))

    -- Variables

    not_equal : (x y : ℕ) → (x == y) ≡ false → x ≡ y → ⊥
    not_equal x y e i = false≢true (sym e ∙ eq-eqb x y i)

    free_slot : (scope : List Variable) (us : List Test) (slot : ℕ) (x : Name) (z : Ty) (t : Option Ty) → t ≡ Some z → slice_get scope slot ≡ Some (record { name = x; ty = z }) → Each (Stands scope) us → Free types prog bounds t (variable_part slot) us → Unheld types prog slot us
    free_slot scope us slot x z t tz there stands (inl f) = each_map (λ (u : Test). (u.slot == slot) ≡ false) (λ (u : Test). u.slot ≡ slot → ⊥) (λ u. not_equal u.slot slot) us f
    free_slot scope us slot x z t tz there stands (inr f) = each_map (Stands scope) (λ (u : Test). u.slot ≡ slot → ⊥) (λ u g e.
        let same : Some g.0 ≡ Some (record { name = x; ty = z }) = sym g.1 ∙ ap (slice_get scope) e ∙ there in
        let it : g.0 ≡ record { name = x; ty = z } = cc in
        let type : Some z ≡ Some f.0 = sym tz ∙ f.2 in
        let one : z ≡ f.0 = cc in
        none-some f.1 (sym g.2 ∙ ap (λ (v : Variable). element_of v.ty) it ∙ ap element_of one ∙ f.3)) us stands

    pub case_var : (s : Span) (t : Option Ty) (slot : ℕ) (x : Name) → Now (record { span = s; ty = t; form = eform.Var slot x })
    case_var s t slot x = laid types prog bounds known call later (P.Var slot x) (eform.Var slot x) (V.rolls-Var slot x) s t (record {
      slot = refl;
      number = refl;
      tag = refl;
      reads = λ y e. let same : slot ≡ y = cc in subst (IsRead types prog bounds t _ _ _) same (record { first = λ span. refl; second = λ span. refl; typed = λ scope z m. (record { name = x; ty = m.1 }, m.3.there, m.2) });
      says = λ i e. absurd (none-some i e);
      asks = λ y e. absurd (none-some y e);
      tested = λ u e. absurd (none-some u e);
      runs = λ scope us w span s h i. let m = w.means in ends_at types prog (λ (v : Value). scope) us (λ v k. Fits k (base t) v) (slice_index_or s.slots slot blank) s h i (subst (λ o. Fits h (base o) (slice_index_or s.slots slot blank)) (sym m.2) (i.fits slot (record { name = x; ty = m.1 }) m.3.there));
      aims = λ scope us w free span s h i.
          let m = w.means in
          ends_at types prog (λ (l : Location). scope) us (λ l k. Rooted types prog scope us (base t) k l.root) (record { root = AtSlot slot; indexes = [] }) s h i
          (record { name = x; ty = m.1 }, m.3.there, sym (ap base m.2), free_slot scope us slot x m.1 t m.2 m.3.there w.stands free);
    })

    -- One part

    pub case_paren : (s : Span) (t : Option Ty) (a : PExpr) → Now a → Now (record { span = s; ty = t; form = eform.Paren a })
    case_paren s t a q = laid types prog bounds known call later (P.Paren a) (eform.Paren a) (V.rolls-Paren a) s t (dull types prog bounds t _ _ _ _ (refl, refl, refl, refl) (refl, refl, refl)
        (λ scope us w span s h i.
        let m = w.means in
        at_base (base a.ty) (base t) scope us h _ _ (ap base (m.4 ∙ sym m.5)) (q.runs scope us (record { tree = m.0; means = m.2; stands = w.stands; passes = w.passes; keeps = w.keeps }) span s h i))
        (λ scope us w free span s h i. refl))

    pub case_unary : (s : Span) (t : Option Ty) (o : UnOp) (a : PExpr) → Now a → Now (record { span = s; ty = t; form = eform.Unary o a })
    case_unary s t o a q = laid types prog bounds known call later (P.Unary o a) (eform.Unary o a) (V.rolls-Unary o a) s t (dull types prog bounds t _ _ _ _ (refl, refl, refl, refl) (refl, refl, refl)
        (λ scope us w span s h i.
        let m = w.means in
        then_value (base a.ty) (base t) scope us span s h _ _ _ _ (q.runs scope us (record { tree = m.1; means = m.4; stands = w.stands; passes = w.passes; keeps = w.keeps }) span s h i)
        (λ v z j k g f. quiet_ends (base t) scope us (unary_operator width span o v) z j (λ P. quiet_unary P width span o v) k))
        (λ scope us w free span s h i. refl))

    pub case_to_int : (s : Span) (t : Option Ty) (a : PExpr) → Now a → Now (record { span = s; ty = t; form = eform.ToInt a })
    case_to_int s t a q = laid types prog bounds known call later (P.ToInt a) (eform.ToInt a) (V.rolls-ToInt a) s t (dull types prog bounds t _ _ _ _ (refl, refl, refl, refl) (refl, refl, refl)
        (λ scope us w span s h i.
        then_value (base a.ty) (base t) scope us span s h _ _ _ _ (q.runs scope us (record { tree = w.tree; means = w.means.0; stands = w.stands; passes = w.passes; keeps = w.keeps }) span s h i)
        (λ v z j k g f. quiet_ends (base t) scope us (to_int span v) z j (λ P. quiet_to_int P span v) k))
        (λ scope us w free span s h i. refl))

    pub pads_fit : (h : List Record) (e : Elem) (t : Option Ty) (v : Value) → Fits h e v → Fits h e (padded_at t v)
    pads_fit h e None v f = f
    pads_fit h e (Some t) v f = fits_map h e v (padded t v) (λ d. holds_padded (IsOf h d) t v) f

    pub case_pad : (s : Span) (t : Option Ty) (a : PExpr) → Now a → Now (record { span = s; ty = t; form = eform.Pad a })
    case_pad s t a q = laid types prog bounds known call later (P.Pad a) (eform.Pad a) (V.rolls-Pad a) s t (dull types prog bounds t _ _ _ _ (refl, refl, refl, refl) (refl, refl, refl)
        (λ scope us w span s h i.
        let m = w.means.2 in
        let same : base a.ty ≡ base t = ap base m.operand ∙ fit_base m.from m.to m.fit ∙ sym (ap base m.result) in
        then_value (base a.ty) (base t) scope us span s h _ _ _ _ (q.runs scope us (record { tree = w.tree; means = w.means.0; stands = w.stands; passes = w.passes; keeps = w.keeps }) span s h i)
        (λ v z j k g f. ends_at types prog (λ (v : Value). scope) us (λ v k. Fits k (base t) v) (padded_at t v) z j k (pads_fit j (base t) t v (subst (λ e. Fits j e v) same f))))
        (λ scope us w free span s h i. refl))

    -- Two parts and three

    quiet_from : (e a : Elem) (scope : List Variable) (us : List Test) (m : plain.Comp Value) (v : Value) (s : plain.State) (h : List Record) → a ≡ e → ((P : ℕ → Type 0) → Holds P v → Quiet P m) → Fits h a v → Inv types prog scope us s h → Yields e scope us h (m s) (lift m (with_heap s h))
    quiet_from e a scope us m v s h same f fit i = lift_ends types prog scope us h e m s (quiet_fits h e v m f (subst (λ b. Fits h b v) same fit)) i

    pub case_index : (s : Span) (t : Option Ty) (a b : PExpr) → Now a → Now b → Now (record { span = s; ty = t; form = eform.Index a b })
    case_index s t a b q r = laid types prog bounds known call later (P.Index a b) (eform.Index a b) (V.rolls-Index a b) s t (dull types prog bounds t _ _ _ _ (refl, refl, refl, refl) (refl, refl, refl)
        (λ scope us w span s h i.
        let m = w.means in
        let same : base a.ty ≡ base t = ap base m.7 ∙ sym (element_base m.5 m.9 m.10) ∙ sym (ap base m.11) in
        then_value (base a.ty) (base t) scope us span s h _ _ _ _ (q.runs scope us (here_first (as_part a) (as_part b) _ (means a) scope us m.0 m.3 w) span s h i)
        (λ v z j k g f. then_value (base b.ty) (base t) scope us span z j _ _ _ _ (r.runs scope us (here_second (as_part a) (as_part b) _ (means b) scope us m.1 m.4 w) span z j k)
        (λ n y l o g' f'. quiet_from (base t) (base a.ty) scope us (indexed span v n) v y l same (λ P. quiet_indexed P span v n) (fits_grows j l (base a.ty) v g' f) o)))
        (λ scope us w free span s h i.
        let m = w.means in
        let same : base a.ty ≡ base t = ap base m.7 ∙ sym (element_base m.5 m.9 m.10) ∙ sym (ap base m.11) in
        ends_then types prog (λ (l : Location). scope) (λ (l : Location). scope) us h (λ l k. Rooted types prog scope us (base a.ty) k l.root) (λ l k. Rooted types prog scope us (base t) k l.root) _ _ _ _
        (q.aims scope us (here_first (as_part a) (as_part b) _ (means a) scope us m.0 m.3 w) (inr (m.5, m.9, m.7, m.10)) span s h i)
        (λ l z j k g f. ends_then types prog (λ (v : Value). scope) (λ (l : Location). scope) us j (λ v k. Fits k (base b.ty) v) (λ l k. Rooted types prog scope us (base t) k l.root) _ _ _ _
        (r.runs scope us (here_second (as_part a) (as_part b) _ (means b) scope us m.1 m.4 w) span z j k)
        (λ n y c o g' f'. add_ends (base t) scope us span l n y c o (rooted_grows types prog scope us (base t) j c l.root g' (subst (λ e. Rooted types prog scope us e j l.root) same f))))))
      where
        add_ends : (e : Elem) (scope : List Variable) (us : List Test) (span : Span) (l : Location) (n : Value) (s : plain.State) (h : List Record) → Inv types prog scope us s h → Rooted types prog scope us e h l.root → Ends types prog (λ (l : Location). scope) us h (λ l k. Rooted types prog scope us e k l.root) (eval.add_index span l n s) (add_index span l n (with_heap s h))
        add_ends e scope us span l (value.Int n) s h i r = ends_at types prog (λ (l : Location). scope) us (λ l k. Rooted types prog scope us e k l.root) (record { root = l.root; indexes = l.indexes ++ n ∷ [] }) s h i r
        add_ends e scope us span l (value.Bit n) s h i r = refl
        add_ends e scope us span l value.Null s h i r = refl
        add_ends e scope us span l (value.Place p) s h i r = refl
        add_ends e scope us span l (value.Array' shape vs) s h i r = refl

    pub case_slice : (s : Span) (t : Option Ty) (a b : PExpr) (n : ℕ) → Now a → Now b → Now (record { span = s; ty = t; form = eform.Slice a b n })
    case_slice s t a b n q r = laid types prog bounds known call later (P.Slice a b n) (eform.Slice a b n) (V.rolls-Slice a b n) s t (dull types prog bounds t _ _ _ _ (refl, refl, refl, refl) (refl, refl, refl)
        (λ scope us w span s h i.
        let m = w.means in
        let same : base a.ty ≡ base t = ap base m.8 ∙ sym (sliced_base m.6 m.11 n m.12) ∙ sym (ap base m.13) in
        then_value (base a.ty) (base t) scope us span s h _ _ _ _ (q.runs scope us (here_first (as_part a) (as_part b) _ (means a) scope us m.0 m.4 w) span s h i)
        (λ v z j k g f. then_value (base b.ty) (base t) scope us span z j _ _ _ _ (r.runs scope us (here_second (as_part a) (as_part b) _ (means b) scope us m.1 m.5 w) span z j k)
        (λ c y l o g' f'. quiet_from (base t) (base a.ty) scope us (eval.sliced span n v c) v y l same (λ P. quiet_sliced P span n v c) (fits_grows j l (base a.ty) v g' f) o)))
        (λ scope us w free span s h i. refl))

    pub case_cond : (s : Span) (t : Option Ty) (c a b : PExpr) → Now c → Now a → Now b → Now (record { span = s; ty = t; form = eform.Cond c a b })
    case_cond s t c a b o q r = laid types prog bounds known call later (P.Cond c a b) (eform.Cond c a b) (V.rolls-Cond c a b) s t (dull types prog bounds t _ _ _ _ (refl, refl, refl, refl) (refl, refl, refl)
        (λ scope us w span s h i.
        let m = w.means in
        let rest : Here (of_two (as_part a) (as_part b)) (λ scope e. Unit {0}) scope us = here_second (as_part c) (of_two (as_part a) (as_part b)) _ (λ scope e. Unit {0}) scope us m.0 tt w in
        then_value (base c.ty) (base t) scope us span s h _ _ _ _ (o.runs scope us (here_first (as_part c) (of_two (as_part a) (as_part b)) _ (means c) scope us m.0 m.4 w) span s h i)
        (λ v z j k g f. choose_ends (λ (v : Value). scope) us j (λ v k. Fits k (base t) v) span v z j _ _ _ _
        (at_base (base a.ty) (base t) scope us j _ _ (ap base (m.9 ∙ sym m.11)) (q.runs scope us (here_first (as_part a) (as_part b) _ (means a) scope us m.1 m.5 rest) span z j k))
        (at_base (base b.ty) (base t) scope us j _ _ (ap base (m.10 ∙ sym m.11)) (r.runs scope us (here_second (as_part a) (as_part b) _ (means b) scope us m.2 m.6 rest) span z j k))))
        (λ scope us w free span s h i. refl))
