-- The names of a tree that means a program which leaves nothing open are names of the program.
use Rattle.std.proofs.Common.{◌≡◌, ℕ, zero, suc, Bool, true, false, ◌&&◌, List, [], ◌∷◌, ◌++◌, map, Option, Some, None, refl, sym, ap, subst, ◌∙◌}
use Rattle.std.specs.Prelude.{ℤ, pos, slice_get, if◌then◌else◌}
use Rattle.std.specs.List.{list_all}
use Rattle.std.specs.Str.{bytes_eq}
use Rattle.std.proofs.lemmas.Bool.{and_parts}
use Rattle.std.proofs.lemmas.Slice.Eq.{bytes_eq-Decides}
use Rattle.sk_base.specs.declared.bounds.Bounds.{Bounds}
use Rattle.sk_tree.specs.declared.expr.Expr.{Expr}
use Rattle.sk_tree.specs.declared.expr.NewField.{NewField}
use Rattle.sk_tree.specs.declared.expr.EForm.{EForm}
use Rattle.sk_tree.specs.declared.expr.EForm.TheVariants as tform
use Rattle.sk_tree.specs.declared.expr.EForm.TheOpen as E
use Rattle.sk_tree.specs.declared.expr.EForm.TheViews as T
use Rattle.sk_tree.specs.declared.expr.EForm.TheFolds.{map-EForm, fold-EForm, fold-NewField, fold-roll-EForm, fold-roll-Expr, fold-roll-NewField}
use Rattle.sk_tree.specs.declared.item.Base.{Base}
use Rattle.sk_tree.specs.declared.item.Base.TheVariants as base
use Rattle.sk_tree.specs.declared.item.TyTree.{TyTree}
use Rattle.sk_tree.specs.Names as R
use Rattle.sk_tree.specs.Names.{eform_names, expr_names, any_names, base_names, ty_names, declared_names, form_names, stmt_names, param_names, field_names, any_name, any_ty_names, fun_names, item_names, all_names}
use Rattle.sk_prog.specs.declared.ids.StructId.{StructId}
use Rattle.sk_prog.specs.declared.ids.ConstId.{ConstId}
use Rattle.sk_prog.specs.declared.ids.FunId.{FunId}
use Rattle.sk_prog.specs.declared.ty.Ty.{Ty}
use Rattle.sk_prog.specs.declared.ty.Elem.{Elem}
use Rattle.sk_prog.specs.declared.ty.Elem.TheVariants as elem
use Rattle.sk_prog.specs.declared.expr.PExpr.{PExpr}
use Rattle.sk_prog.specs.declared.expr.PField.{PField}
use Rattle.sk_prog.specs.declared.expr.PEForm.{PEForm}
use Rattle.sk_prog.specs.declared.expr.PEForm.TheOpen as P
use Rattle.sk_prog.specs.declared.expr.PEForm.TheFolds.{map-PEForm, fold-PEForm, fold-PField, fold-roll-PEForm, fold-roll-PExpr, fold-roll-PField, rec-roll-PField}
use Rattle.sk_prog.specs.declared.prog.FieldDef.{FieldDef}
use Rattle.sk_prog.specs.declared.prog.StructDef.{StructDef}
use Rattle.sk_prog.specs.declared.prog.ConstDef.{ConstDef}
use Rattle.sk_prog.specs.declared.prog.ParamDef.{ParamDef}
use Rattle.sk_prog.specs.declared.prog.Fun.{Fun}
use Rattle.sk_prog.specs.declared.prog.Prog.{Prog}
use Rattle.sk_prog.specs.Names as N
use Rattle.sk_types_rules.specs.declared.scope.Variable.{Variable}
use Rattle.sk_types_rules.specs.declared.scope.Place.{Place}
use Rattle.sk_types_rules.specs.Rules.{◌>>=◌}
use Rattle.sk_types_rules.specs.Scope.{lookup, Signature, signature_of, top_of, Known, Context, Meaning, AVariable, AStruct, AConstant, AFunction, Nothing, next_place, place_of, meaning_of, variable_or, struct_or, constant_or, function_or}
use Rattle.sk_types_rules.specs.Constants.{number_known, number_named, computed, eform_number, whole_number, natural, constant_number}
use Rattle.sk_types_rules.specs.Sorts.{struct_meant, base_elem, with_lengths, written_type}
use Rattle.sk_types_rules.specs.Types.{EFormRule, ExprRule, FieldRule, EachMeans, ArgumentsMean, FieldsMean, IsField, eform_means, expr_means, field_means, Means}
use Rattle.sk_types_rules.proofs.Layers.{FormMeans, FieldMeans, rule, form_means_are, means_parts}
use Rattle.sk_types_laws.proofs.Ats.{bind_some, some_same, expr_law, pexpr_law}
use Rattle.sk_model.specs.Filled.{eform_filled, expr_filled, any_filled, form_filled, stmt_filled, fun_filled}
use Rattle.sk_model.specs.Filled as M
use Rattle.sk_holes_laws.proofs.Places.{Layer}

-- Tests of lists

pub all_get : {A : Type 0} (t : A → Bool) (xs : List A) (i : ℕ) (x : A) → list_all t xs ≡ true → slice_get xs i ≡ Some x → t x ≡ true
all_get t [] i x h is = cc
all_get t (y ∷ xs) zero x h is = let b = and_parts (t y) (list_all t xs) h in let e : y ≡ x = cc in ap t (sym e) ∙ b.0
all_get t (y ∷ xs) (suc i) x h is = let b = and_parts (t y) (list_all t xs) h in all_get t xs i x b.1 is

module _ (test : List ℕ → Bool) where
  next_some : (o : Option ℕ) (n : ℕ) → next_place o ≡ Some n → (m : ℕ) × (o ≡ Some m)
  next_some None n h = cc
  next_some (Some m) n h = (m, refl)

  place_word : (ys : List (List ℕ)) (x : List ℕ) (i : ℕ) → place_of ys x ≡ Some i → list_all test ys ≡ true → test x ≡ true
  place_word [] x i h k = cc
  place_word (y ∷ ys) x i h k =
      let b = and_parts (test y) (list_all test ys) k in
      go (λ j at. place_word ys x j at b.1) b.0 (bytes_eq y x) refl h
    where
      go : ((j : ℕ) → place_of ys x ≡ Some j → test x ≡ true) → test y ≡ true → (c : Bool) → bytes_eq y x ≡ c → (if c then Some 0 else next_place (place_of ys x)) ≡ Some i → test x ≡ true
      go rest one true same at = ap test (sym ((bytes_eq-Decides y x).0 same)) ∙ one
      go rest one false other at = let m = next_some (place_of ys x) i at in rest m.0 m.1

  -- What names mean

  struct_place : (a : Option Place) (b c d : Option ℕ) (k : StructId) → variable_or a (struct_or b (constant_or c (function_or d))) ≡ AStruct k → (i : ℕ) × (b ≡ Some i)
  struct_place (Some v) b c d k h = cc
  struct_place None (Some i) c d k h = (i, refl)
  struct_place None None (Some i) d k h = cc
  struct_place None None None (Some i) k h = cc
  struct_place None None None None k h = cc

  const_place : (a : Option Place) (b c d : Option ℕ) (k : ConstId) → variable_or a (struct_or b (constant_or c (function_or d))) ≡ AConstant k → (i : ℕ) × (c ≡ Some i)
  const_place (Some v) b c d k h = cc
  const_place None (Some i) c d k h = cc
  const_place None None (Some i) d k h = (i, refl)
  const_place None None None (Some i) k h = cc
  const_place None None None None k h = cc

  fun_place : (a : Option Place) (b c d : Option ℕ) (k : FunId) → variable_or a (struct_or b (constant_or c (function_or d))) ≡ AFunction k → (i : ℕ) × (d ≡ Some i)
  fun_place (Some v) b c d k h = cc
  fun_place None (Some i) c d k h = cc
  fun_place None None (Some i) d k h = cc
  fun_place None None None (Some i) k h = (i, refl)
  fun_place None None None None k h = cc

  struct_words : (ds : List StructDef) → list_all (N.struct_names test) ds ≡ true → list_all test (map (λ (d : StructDef). d.name) ds) ≡ true
  struct_words [] h = refl
  struct_words (d ∷ ds) h =
      let b = and_parts (N.struct_names test d) (list_all (N.struct_names test) ds) h in
      let one = (and_parts (test d.name) (list_all (λ (f : FieldDef). test f.name) d.fields) b.0).0 in
      let rest = struct_words ds b.1 in
      λ i. one i && rest i

  const_words : (cs : List ConstDef) → list_all (N.const_names test) cs ≡ true → list_all test (map (λ (c : ConstDef). c.name) cs) ≡ true
  const_words [] h = refl
  const_words (c ∷ cs) h =
      let b = and_parts (N.const_names test c) (list_all (N.const_names test) cs) h in
      let one = (and_parts (test c.name) (N.expr_names test c.value) b.0).0 in
      let rest = const_words cs b.1 in
      λ i. one i && rest i

  fun_words : (fs : List Fun) → list_all (N.fun_names test) fs ≡ true → list_all test (map (λ (s : Signature). s.name) (map signature_of fs)) ≡ true
  fun_words [] h = refl
  fun_words (f ∷ fs) h =
      let b = and_parts (N.fun_names test f) (list_all (N.fun_names test) fs) h in
      let one = (and_parts (test f.name) (list_all (λ (d : ParamDef). test d.name) f.params && list_all (N.stmt_names test) f.body) b.0).0 in
      let rest = fun_words fs b.1 in
      λ i. one i && rest i

  module _ (prog : Prog) (words : N.all_names test prog ≡ true) where
    structs_ok : list_all (N.struct_names test) prog.structs ≡ true
    structs_ok = (and_parts (list_all (N.struct_names test) prog.structs) (list_all (N.const_names test) prog.consts && list_all (N.fun_names test) prog.funs) words).0

    rest_ok : (list_all (N.const_names test) prog.consts ≡ true) × (list_all (N.fun_names test) prog.funs ≡ true)
    rest_ok = and_parts (list_all (N.const_names test) prog.consts) (list_all (N.fun_names test) prog.funs) (and_parts (list_all (N.struct_names test) prog.structs) (list_all (N.const_names test) prog.consts && list_all (N.fun_names test) prog.funs) words).1

    abbrev struct_of : List ℕ → Option ℕ
    struct_of x = place_of (map (λ (d : StructDef). d.name) prog.structs) x

    abbrev const_of : List ℕ → Option ℕ
    const_of x = place_of (map (λ (c : ConstDef). c.name) prog.consts) x

    abbrev fun_of : List ℕ → Option ℕ
    fun_of x = place_of (map (λ (s : Signature). s.name) (map signature_of prog.funs)) x

    struct_word : (scope : List Variable) (x : List ℕ) (k : StructId) → meaning_of (top_of prog) scope x ≡ AStruct k → test x ≡ true
    struct_word scope x k h = let p = struct_place (lookup scope x) (struct_of x) (const_of x) (fun_of x) k h in place_word (map (λ (d : StructDef). d.name) prog.structs) x p.0 p.1 (struct_words prog.structs structs_ok)

    const_word : (scope : List Variable) (x : List ℕ) (k : ConstId) → meaning_of (top_of prog) scope x ≡ AConstant k → test x ≡ true
    const_word scope x k h = let p = const_place (lookup scope x) (struct_of x) (const_of x) (fun_of x) k h in place_word (map (λ (c : ConstDef). c.name) prog.consts) x p.0 p.1 (const_words prog.consts rest_ok.0)

    pub fun_word : (scope : List Variable) (x : List ℕ) (k : FunId) → meaning_of (top_of prog) scope x ≡ AFunction k → test x ≡ true
    fun_word scope x k h = let p = fun_place (lookup scope x) (struct_of x) (const_of x) (fun_of x) k h in place_word (map (λ (s : Signature). s.name) (map signature_of prog.funs)) x p.0 p.1 (fun_words prog.funs rest_ok.1)

    field_word : (s : ℕ) (d : StructDef) (i : ℕ) (y : List ℕ) (t : Ty) → slice_get prog.structs s ≡ Some d → IsField d i y t → test y ≡ true
    field_word s d i y t there f =
        let a = all_get (N.struct_names test) prog.structs s d structs_ok there in
        let b = and_parts (test d.name) (list_all (λ (f : FieldDef). test f.name) d.fields) a in
        all_get (λ (f : FieldDef). test f.name) d.fields i (record { name = y; ty = t }) b.1 f.there

    -- Constant expressions and types

    abbrev pub KnownWords : List Known → Type 0
    KnownWords known = list_all (λ (k : Known). test k.name) known ≡ true

    pub known_more : (known : List Known) (x : List ℕ) (n : ℕ) → KnownWords known → test x ≡ true → KnownWords (known ++ record { name = x; number = n } ∷ [])
    known_more [] x n h k = λ i. k i && true
    known_more (w ∷ known) x n h k =
        let b = and_parts (test w.name) (list_all (λ (k : Known). test k.name) known) h in
        let rest = known_more known x n b.1 k in
        λ i. b.0 i && rest i

    known_word : (known : List Known) (x : List ℕ) (z : ℤ) → KnownWords known → number_known known x ≡ Some z → test x ≡ true
    known_word [] x z h is = cc
    known_word (w ∷ known) x z h is =
        let b = and_parts (test w.name) (list_all (λ (k : Known). test k.name) known) h in
        go (λ at. known_word known x z b.1 at) b.0 (bytes_eq w.name x) refl is
      where
        go : (number_known known x ≡ Some z → test x ≡ true) → test w.name ≡ true → (c : Bool) → bytes_eq w.name x ≡ c → (if c then Some (pos w.number) else number_known known x) ≡ Some z → test x ≡ true
        go rest one true same at = ap test (sym ((bytes_eq-Decides w.name x).0 same)) ∙ one
        go rest one false other at = rest at

    module _ (bounds : Bounds) (known : List Known) (ok : KnownWords known) where
      abbrev context : Context
      context = record { bounds = bounds; top = top_of prog; known = known }

      -- names of layers of trees

      abbrev act_names : EForm → Bool
      act_names = fold-EForm Bool Bool Bool (eform_names test) (λ x. x.form) (λ x. test x.name && x.value)

      abbrev set_names : NewField → Bool
      set_names = fold-NewField Bool Bool Bool (eform_names test) (λ x. x.form) (λ x. test x.name && x.value)

      abbrev names_of : Layer → E.EForm-F Bool Bool Bool
      names_of l = map-EForm EForm Expr NewField Bool Bool Bool act_names (expr_names test) set_names l

      names_at : (e : Expr) (l : Layer) → e.form ≡ T.roll-EForm l → eform_names test (names_of l) ≡ true → expr_names test e ≡ true
      names_at e l is h =
          fold-roll-Expr Bool Bool Bool (eform_names test) (λ x. x.form) (λ x. test x.name && x.value) (record { span = e.span; form = e.form })
          ∙ ap act_names is
          ∙ fold-roll-EForm Bool Bool Bool (eform_names test) (λ x. x.form) (λ x. test x.name && x.value) l
          ∙ h

      set_at : (n : NewField) → set_names n ≡ (test n.name && expr_names test n.value)
      set_at n = fold-roll-NewField Bool Bool Bool (eform_names test) (λ x. x.form) (λ x. test x.name && x.value) (record { name = n.name; value = n.value })

      module _ (scope : List Variable) where
        -- constant expressions

        abbrev form_number : EForm → Option ℤ
        form_number = fold-EForm (Option ℤ) (Option ℤ) (Unit {0}) (eform_number context scope) (λ x. x.form) (λ x. tt)

        abbrev field_number : NewField → Unit {0}
        field_number = fold-NewField (Option ℤ) (Option ℤ) (Unit {0}) (eform_number context scope) (λ x. x.form) (λ x. tt)

        abbrev numbers : Layer → E.EForm-F (Option ℤ) (Option ℤ) (Unit {0})
        numbers l = map-EForm EForm Expr NewField (Option ℤ) (Option ℤ) (Unit {0}) form_number (whole_number context scope) field_number l

        abbrev FormWord : EForm → Type 0
        FormWord g = (z : ℤ) → form_number g ≡ Some z → act_names g ≡ true

        abbrev ExprWord : Expr → Type 0
        ExprWord e = (z : ℤ) → whole_number context scope e ≡ Some z → expr_names test e ≡ true

        abbrev Above : Type 0
        Above = E.EForm-F ((g : EForm) × FormWord g) ((e : Expr) × ExprWord e) (NewField × Unit {0})

        abbrev under : Above → Layer
        under y = map-EForm ((g : EForm) × FormWord g) ((e : Expr) × ExprWord e) (NewField × Unit {0}) EForm Expr NewField (λ q. q.0) (λ q. q.0) (λ q. q.0) y

        named_word : (o : Option Place) (x : List ℕ) (z : ℤ) → number_named o known x ≡ Some z → test x ≡ true
        named_word None x z h = known_word known x z ok h
        named_word (Some v) x z h = cc

        word_layer : (y : Above) (z : ℤ) → eform_number context scope (numbers (under y)) ≡ Some z → eform_names test (names_of (under y)) ≡ true
        word_layer (E.Number n) z h = refl
        word_layer (E.Word x) z h = named_word (lookup scope x) x z h
        word_layer (E.Paren e) z h = e.1 z h
        word_layer (E.Binary m a b) z h =
            let x = bind_some (whole_number context scope a.0) (λ x. whole_number context scope b.0 >>= λ y. computed m x y) z h in
            let y = bind_some (whole_number context scope b.0) (λ y. computed m x.0 y) z x.2 in
            let p = a.1 x.0 x.1 in
            let q = b.1 y.0 y.1 in
            λ i. p i && q i
        word_layer E.True z h = cc
        word_layer E.False z h = cc
        word_layer E.Null z h = cc
        word_layer (E.Hole n) z h = cc
        word_layer (E.Pattern g es) z h = cc
        word_layer (E.Call x es) z h = cc
        word_layer (E.New x xs) z h = cc
        word_layer (E.Braces es) z h = cc
        word_layer (E.Member e x) z h = cc
        word_layer (E.Index e i) z h = cc
        word_layer (E.Slice e i n) z h = cc
        word_layer (E.Unary m e) z h = cc
        word_layer (E.Cond c a b) z h = cc

        whole_words : (e : Expr) → ExprWord e
        whole_words = expr_law FormWord ExprWord (λ x. Unit {0})
            (λ y z h. fold-roll-EForm Bool Bool Bool (eform_names test) (λ x. x.form) (λ x. test x.name && x.value) (under y) ∙ word_layer y z (sym (fold-roll-EForm (Option ℤ) (Option ℤ) (Unit {0}) (eform_number context scope) (λ x. x.form) (λ x. tt) (under y)) ∙ h))
            (λ e k z h. fold-roll-Expr Bool Bool Bool (eform_names test) (λ x. x.form) (λ x. test x.name && x.value) (record { span = e.span; form = e.form }) ∙ k z (sym (fold-roll-Expr (Option ℤ) (Option ℤ) (Unit {0}) (eform_number context scope) (λ x. x.form) (λ x. tt) (record { span = e.span; form = e.form })) ∙ h))
            (λ x h. tt)

        pub constant_words : (e : Expr) (n : ℕ) → constant_number context scope e ≡ Some n → expr_names test e ≡ true
        constant_words e n h = let z = bind_some (whole_number context scope e) (natural bounds) n h in whole_words e z.0 z.1

        -- types that are written

        meant_struct : (m : Meaning) (s : StructId) → struct_meant m ≡ Some s → m ≡ AStruct s
        meant_struct (AStruct r) s h = ap AStruct (some_same r s h)
        meant_struct (AVariable v) s h = cc
        meant_struct (AConstant c) s h = cc
        meant_struct (AFunction f) s h = cc
        meant_struct Nothing s h = cc

        base_words : (b : Base) (a : Elem) → base_elem context scope b ≡ Some a → base_names test b ≡ true
        base_words base.Int a h = refl
        base_words base.Bit a h = refl
        base_words (base.Named x) a h =
            let s = bind_some (struct_meant (meaning_of (top_of prog) scope x)) (λ s. Some (elem.Reference s)) a h in
            struct_word scope x s.0 (meant_struct (meaning_of (top_of prog) scope x) s.0 s.1)

        one_length : (e : Expr) (o : Option ℕ) (n : ℕ) → constant_number context scope e ≡ o → o ≡ Some n → expr_names test e ≡ true
        one_length e o n is h = constant_words e n (is ∙ h)

        length_words : (a : Elem) (es : List Expr) (t : Ty) → with_lengths context scope a (map (constant_number context scope) es) ≡ Some t → list_all (expr_names test) es ≡ true
        length_words a [] t h = refl
        length_words a (e ∷ []) t h = go (constant_number context scope e) refl h
          where
            go : (o : Option ℕ) → constant_number context scope e ≡ o → with_lengths context scope a (o ∷ []) ≡ Some t → list_all (expr_names test) (e ∷ []) ≡ true
            go None is k = cc
            go (Some n) is k = let p = one_length e (Some n) n is refl in λ i. p i && true
        length_words a (e ∷ d ∷ []) t h = go (constant_number context scope e) (constant_number context scope d) refl refl h
          where
            go : (o p : Option ℕ) → constant_number context scope e ≡ o → constant_number context scope d ≡ p → with_lengths context scope a (o ∷ p ∷ []) ≡ Some t → list_all (expr_names test) (e ∷ d ∷ []) ≡ true
            go None p is at k = cc
            go (Some n) None is at k = cc
            go (Some n) (Some m) is at k = let p = one_length e (Some n) n is refl in let q = one_length d (Some m) m at refl in λ i. p i && (q i && true)
        length_words a (e ∷ d ∷ c ∷ es) t h = go (constant_number context scope e) (constant_number context scope d) h
          where
            go : (o p : Option ℕ) → with_lengths context scope a (o ∷ p ∷ constant_number context scope c ∷ map (constant_number context scope) es) ≡ Some t → list_all (expr_names test) (e ∷ d ∷ c ∷ es) ≡ true
            go None p k = cc
            go (Some n) None k = cc
            go (Some n) (Some m) k = cc

        pub type_words : (y : TyTree) (t : Ty) → written_type context scope y ≡ Some t → ty_names test y ≡ true
        type_words y t h =
            let e = bind_some (base_elem context scope y.base) (λ a. with_lengths context scope a (map (constant_number context scope) y.lengths)) t h in
            let p = base_words y.base e.0 e.1 in
            let q = length_words e.0 y.lengths t e.2 in
            λ i. p i && q i

        -- Expressions

        abbrev act_filled : PEForm → Bool
        act_filled = fold-PEForm Bool Bool Bool eform_filled (λ x. x.form) (λ x. x.value)

        abbrev field_filled : PField → Bool
        field_filled = fold-PField Bool Bool Bool eform_filled (λ x. x.form) (λ x. x.value)

        abbrev act_words : PEForm → Bool
        act_words = fold-PEForm Bool Bool Bool (N.eform_names test) (λ x. x.form) (λ x. x.value)

        abbrev field_words : PField → Bool
        field_words = fold-PField Bool Bool Bool (N.eform_names test) (λ x. x.form) (λ x. x.value)

        abbrev FormTold : PEForm → Type 0
        FormTold g = (t : Option Ty) (e : Expr) → FormMeans context scope g t e → act_filled g ≡ true → act_words g ≡ true → expr_names test e ≡ true

        abbrev ExprTold : PExpr → Type 0
        ExprTold p = (e : Expr) → Means context scope p e → expr_filled p ≡ true → N.expr_names test p ≡ true → expr_names test e ≡ true

        abbrev FieldTold : PField → Type 0
        FieldTold x = (s : ℕ) (d : StructDef) → slice_get prog.structs s ≡ Some d → (n : NewField) → FieldMeans context scope x d n → field_filled x ≡ true → field_words x ≡ true → set_names n ≡ true

        abbrev Parts : Type 0
        Parts = P.PEForm-F ((g : PEForm) × FormTold g) ((p : PExpr) × ExprTold p) ((x : PField) × FieldTold x)

        abbrev below : Parts → P.PEForm-F PEForm PExpr PField
        below y = map-PEForm ((g : PEForm) × FormTold g) ((p : PExpr) × ExprTold p) ((x : PField) × FieldTold x) PEForm PExpr PField (λ q. q.0) (λ q. q.0) (λ q. q.0) y

        abbrev fills_of : P.PEForm-F PEForm PExpr PField → P.PEForm-F Bool Bool Bool
        fills_of l = map-PEForm PEForm PExpr PField Bool Bool Bool act_filled expr_filled field_filled l

        abbrev words_of : P.PEForm-F PEForm PExpr PField → P.PEForm-F Bool Bool Bool
        words_of l = map-PEForm PEForm PExpr PField Bool Bool Bool act_words (N.expr_names test) field_words l

        each_told : (qs : List ((p : PExpr) × ExprTold p)) (t : Ty) (es : List Expr) → EachMeans (λ y. y) (Means context scope) t (map (λ q. q.0) qs) es → list_all M.is_yes (map expr_filled (map (λ q. q.0) qs)) ≡ true → list_all N.is_yes (map (N.expr_names test) (map (λ q. q.0) qs)) ≡ true → list_all R.is_yes (map (expr_names test) es) ≡ true
        each_told [] t [] m f w = refl
        each_told [] t (e ∷ es) m f w = absurd m
        each_told (q ∷ qs) t [] m f w = absurd m
        each_told (q ∷ qs) t (e ∷ es) m f w =
            let a = and_parts (expr_filled q.0) (list_all M.is_yes (map expr_filled (map (λ q. q.0) qs))) f in
            let b = and_parts (N.expr_names test q.0) (list_all N.is_yes (map (N.expr_names test) (map (λ q. q.0) qs))) w in
            let one = q.1 e m.0 a.0 b.0 in
            let rest = each_told qs t es m.2 a.1 b.1 in
            λ i. one i && rest i

        args_told : (ds : List ParamDef) (qs : List ((p : PExpr) × ExprTold p)) (es : List Expr) → ArgumentsMean (λ y. y) (Means context scope) scope ds (map (λ q. q.0) qs) es → list_all M.is_yes (map expr_filled (map (λ q. q.0) qs)) ≡ true → list_all N.is_yes (map (N.expr_names test) (map (λ q. q.0) qs)) ≡ true → list_all R.is_yes (map (expr_names test) es) ≡ true
        args_told [] [] [] m f w = refl
        args_told (d ∷ ds) (q ∷ qs) (e ∷ es) m f w =
            let a = and_parts (expr_filled q.0) (list_all M.is_yes (map expr_filled (map (λ q. q.0) qs))) f in
            let b = and_parts (N.expr_names test q.0) (list_all N.is_yes (map (N.expr_names test) (map (λ q. q.0) qs))) w in
            let one = q.1 e m.0 a.0 b.0 in
            let rest = args_told ds qs es m.3 a.1 b.1 in
            λ i. one i && rest i
        args_told [] [] (e ∷ es) m f w = absurd m
        args_told [] (q ∷ qs) es m f w = absurd m
        args_told (d ∷ ds) [] es m f w = absurd m
        args_told (d ∷ ds) (q ∷ qs) [] m f w = absurd m

        sets_told : (s : ℕ) (d : StructDef) → slice_get prog.structs s ≡ Some d → (qs : List ((x : PField) × FieldTold x)) (ns : List NewField) → FieldsMean (FieldMeans context scope) d (map (λ q. q.0) qs) ns → list_all M.is_yes (map field_filled (map (λ q. q.0) qs)) ≡ true → list_all N.is_yes (map field_words (map (λ q. q.0) qs)) ≡ true → list_all R.is_yes (map set_names ns) ≡ true
        sets_told s d there [] [] m f w = refl
        sets_told s d there [] (n ∷ ns) m f w = absurd m
        sets_told s d there (q ∷ qs) [] m f w = absurd m
        sets_told s d there (q ∷ qs) (n ∷ ns) m f w =
            let a = and_parts (field_filled q.0) (list_all M.is_yes (map field_filled (map (λ q. q.0) qs))) f in
            let b = and_parts (field_words q.0) (list_all N.is_yes (map field_words (map (λ q. q.0) qs))) w in
            let one = q.1 s d there n m.0 a.0 b.0 in
            let rest = sets_told s d there qs ns m.1 a.1 b.1 in
            λ i. one i && rest i

        layer : (y : Parts) (t : Option Ty) (e : Expr) → rule context scope (below y) t e → eform_filled (fills_of (below y)) ≡ true → N.eform_names test (words_of (below y)) ≡ true → expr_names test e ≡ true
        layer (P.Number n) t e h f w = names_at e (E.Number n) (h.0 ∙ sym (tform.rolls-Number n)) refl
        layer P.True t e h f w = names_at e E.True (h.0 ∙ sym tform.rolls-True) refl
        layer P.False t e h f w = names_at e E.False (h.0 ∙ sym tform.rolls-False) refl
        layer P.Null t e h f w = names_at e E.Null (h.0 ∙ sym tform.rolls-Null) refl
        layer (P.Var slot x) t e h f w = names_at e (E.Word x) (h.0 ∙ sym (tform.rolls-Word x)) w
        layer (P.Const c) t e h f w = names_at e (E.Word h.0) (h.1 ∙ sym (tform.rolls-Word h.0)) (const_word scope h.0 c h.2)
        layer (P.Hole n) t e h f w = cc
        layer (P.Pattern qs) t e h f w = cc
        layer (P.Paren q) t e h f w = names_at e (E.Paren h.0) (h.1 ∙ sym (tform.rolls-Paren h.0)) (q.1 h.0 h.2 f w)
        layer (P.Call g qs) t e h f w =
            let x = fun_word scope h.0 g (h.4).meaning in
            let args = args_told (h.3).params qs h.1 h.5 f w in
            names_at e (E.Call h.0 h.1) (h.2 ∙ sym (tform.rolls-Call h.0 h.1)) (λ i. x i && args i)
        layer (P.New k qs) t e h f w =
            let x = struct_word scope h.0 k (h.4).meaning in
            let sets = sets_told k.index h.3 (h.4).there qs h.1 h.5 f w in
            names_at e (E.New h.0 h.1) (h.2 ∙ sym (tform.rolls-New h.0 h.1)) (λ i. x i && sets i)
        layer (P.Braces qs) t e h f w = names_at e (E.Braces h.0) (h.1 ∙ sym (tform.rolls-Braces h.0)) (each_told qs h.3 h.0 h.4 f w)
        layer (P.Member q k j) t e h f w =
            let a = q.1 h.0 h.3 f w in
            let y = field_word k.index h.6 j h.1 h.8 h.7 h.9 in
            names_at e (E.Member h.0 h.1) (h.2 ∙ sym (tform.rolls-Member h.0 h.1)) (λ i. a i && y i)
        layer (P.Index q j) t e h f w =
            let a = and_parts (expr_filled q.0) (expr_filled j.0) f in
            let b = and_parts (N.expr_names test q.0) (N.expr_names test j.0) w in
            let x = q.1 h.0 h.3 a.0 b.0 in
            let y = j.1 h.1 h.4 a.1 b.1 in
            names_at e (E.Index h.0 h.1) (h.2 ∙ sym (tform.rolls-Index h.0 h.1)) (λ i. x i && y i)
        layer (P.Slice q j m) t e h f w =
            let a = and_parts (expr_filled q.0) (expr_filled j.0) f in
            let b = and_parts (N.expr_names test q.0) (N.expr_names test j.0) w in
            let x = q.1 h.0 h.4 a.0 b.0 in
            let y = j.1 h.1 h.5 a.1 b.1 in
            let z = constant_words h.2 m h.10 in
            names_at e (E.Slice h.0 h.1 h.2) (h.3 ∙ sym (tform.rolls-Slice h.0 h.1 h.2)) (λ i. x i && (y i && z i))
        layer (P.Unary o q) t e h f w = names_at e (E.Unary h.0 h.1) (h.2 ∙ sym (tform.rolls-Unary h.0 h.1)) (q.1 h.1 h.4 f w)
        layer (P.Binary o q j) t e h f w =
            let a = and_parts (expr_filled q.0) (expr_filled j.0) f in
            let b = and_parts (N.expr_names test q.0) (N.expr_names test j.0) w in
            let x = q.1 h.1 h.5 a.0 b.0 in
            let y = j.1 h.2 h.6 a.1 b.1 in
            names_at e (E.Binary h.0 h.1 h.2) (h.3 ∙ sym (tform.rolls-Binary h.0 h.1 h.2)) (λ i. x i && y i)
        layer (P.Cond c q j) t e h f w =
            let a = and_parts (expr_filled c.0) (expr_filled q.0 && expr_filled j.0) f in
            let a' = and_parts (expr_filled q.0) (expr_filled j.0) a.1 in
            let b = and_parts (N.expr_names test c.0) (N.expr_names test q.0 && N.expr_names test j.0) w in
            let b' = and_parts (N.expr_names test q.0) (N.expr_names test j.0) b.1 in
            let z = c.1 h.0 h.4 a.0 b.0 in
            let x = q.1 h.1 h.5 a'.0 b'.0 in
            let y = j.1 h.2 h.6 a'.1 b'.1 in
            names_at e (E.Cond h.0 h.1 h.2) (h.3 ∙ sym (tform.rolls-Cond h.0 h.1 h.2)) (λ i. z i && (x i && y i))
        layer (P.ToInt q) t e h f w = q.1 e h.0 f w
        layer (P.Pad q) t e h f w = q.1 e h.0 f w

        field_means_is : (q : PField) → FieldMeans context scope q ≡ (λ d x. (t : Ty) × IsField d q.field x.name t × Means context scope q.value x.value × (q.value.ty ≡ Some t))
        field_means_is q = rec-roll-PField EFormRule ExprRule FieldRule (eform_means context scope) (expr_means context scope) (field_means context scope) (λ X Y Z u v w f k n x. refl) (record { field = q.field; value = q.value })

        field_told : (q : PField) → ExprTold q.value → FieldTold q
        field_told q k s d there n m f w =
            let g = subst (λ (M : FieldRule). M d n) (field_means_is q) m in
            let x = field_word s d q.field n.name g.0 there g.1 in
            let y = k n.value g.2 (sym (fold-roll-PField Bool Bool Bool eform_filled (λ x. x.form) (λ x. x.value) (record { field = q.field; value = q.value })) ∙ f) (sym (fold-roll-PField Bool Bool Bool (N.eform_names test) (λ x. x.form) (λ x. x.value) (record { field = q.field; value = q.value })) ∙ w) in
            set_at n ∙ (λ i. x i && y i)

        pub expr_told : (p : PExpr) → ExprTold p
        expr_told = pexpr_law FormTold ExprTold FieldTold
            (λ y t e m f w. layer y t e (subst (λ (M : EFormRule). M t e) (form_means_are context scope (below y)) m) (sym (fold-roll-PEForm Bool Bool Bool eform_filled (λ x. x.form) (λ x. x.value) (below y)) ∙ f) (sym (fold-roll-PEForm Bool Bool Bool (N.eform_names test) (λ x. x.form) (λ x. x.value) (below y)) ∙ w))
            (λ p k e m f w. k p.ty e (means_parts context scope p e m).1 (sym (fold-roll-PExpr Bool Bool Bool eform_filled (λ x. x.form) (λ x. x.value) (record { span = p.span; ty = p.ty; form = p.form })) ∙ f) (sym (fold-roll-PExpr Bool Bool Bool (N.eform_names test) (λ x. x.form) (λ x. x.value) (record { span = p.span; ty = p.ty; form = p.form })) ∙ w))
            field_told
