-- An expression that is printed means the same expression again, spans aside.
use Rattle.std.proofs.Common.{◌≡◌, ℕ, suc, ◌≤◌, Bool, true, false, ◌&&◌, List, [], ◌∷◌, map, length, Option, Some, None, refl, sym, ap, ◌∙◌, subst}
use Rattle.std.specs.Prelude.{slice_get, if◌then◌else◌, is_some, ℤ}
use Rattle.std.specs.List.{list_all}
use Rattle.std.proofs.lemmas.Bool.{and_parts}
use Rattle.sk_base.specs.declared.span.Span.{Span}
use Rattle.sk_base.specs.declared.bounds.Bounds.{Bounds}
use Rattle.sk_tree.specs.declared.token.Mark.{Mark}
use Rattle.sk_tree.specs.declared.expr.Expr.{Expr}
use Rattle.sk_tree.specs.declared.expr.NewField.{NewField}
use Rattle.sk_tree.specs.declared.expr.EForm.{EForm}
use Rattle.sk_tree.specs.declared.expr.EForm.TheVariants as eform
use Rattle.sk_tree.specs.declared.expr.EForm.TheOpen as E
use Rattle.sk_tree.specs.declared.expr.EForm.TheViews.{roll-EForm}
use Rattle.sk_tree.specs.declared.expr.EForm.TheFolds.{map-EForm, fold-EForm, fold-roll-EForm, fold-roll-Expr, fold-roll-NewField}
use Rattle.sk_prog.specs.declared.ty.Ty.{Ty}
use Rattle.sk_prog.specs.declared.ids.StructId.{StructId}
use Rattle.sk_prog.specs.declared.expr.UnOp.{UnOp}
use Rattle.sk_prog.specs.declared.expr.UnOp.TheVariants as unop
use Rattle.sk_prog.specs.declared.expr.BinOp.{BinOp}
use Rattle.sk_prog.specs.declared.expr.BinOp.TheVariants as op
use Rattle.sk_prog.specs.declared.expr.PExpr.{PExpr}
use Rattle.sk_prog.specs.declared.expr.PField.{PField}
use Rattle.sk_prog.specs.declared.expr.PEForm.{PEForm}
use Rattle.sk_prog.specs.declared.expr.PEForm.TheOpen as P
use Rattle.sk_prog.specs.declared.expr.PEForm.TheViews.{roll-PEForm, roll-PExpr, roll-PField}
use Rattle.sk_prog.specs.declared.expr.PEForm.TheFolds.{map-PEForm, fold-PEForm, fold-PField, fold-roll-PEForm, fold-roll-PExpr, fold-roll-PField, rec-roll-PField, ind-PExpr}
use Rattle.sk_prog.specs.declared.prog.StructDef.{StructDef}
use Rattle.sk_prog.specs.declared.prog.ParamDef.{ParamDef}
use Rattle.sk_prog.specs.declared.prog.Prog.{Prog}
use Rattle.sk_prog.specs.Spanless.{no_span, without_span, field_again}
use Rattle.sk_prog.specs.Spanless as W
use Rattle.sk_types_rules.specs.declared.scope.Variable.{Variable}
use Rattle.sk_types_rules.specs.Erase.{nowhere, at, mark_of, unary_mark, field_name, field_erased}
use Rattle.sk_types_rules.specs.Erase as R
use Rattle.sk_types_laws.specs.Owns.{own_type}
use Rattle.sk_types_rules.specs.Rules.{◌>>=◌, count_of, only_if, operator_of, unary_of, unary_own, operation_own, choice, class_of, in_range}
use Rattle.sk_types_rules.specs.Scope.{Known, Context, all_distinct, top_of, meaning_of}
use Rattle.sk_types_rules.specs.Constants.{eform_number, whole_number, natural, constant_number}
use Rattle.sk_types_rules.specs.Sorts.{Sort, eform_sort, sort, own, keeps, may_keep, kept, variable_type, any_binary, any_unary, member_of, reference_meant, array_meant, slice_of, new_sort, struct_meant}
use Rattle.sk_types_rules.specs.Types.{EFormRule, ExprRule, FieldRule, EachMeans, ArgumentsMean, FieldsMean, MayBeRef, IsMore, IsField, MeansUnary, MeansBinary, eform_means, expr_means, field_means, Means, eform_bare, is_bare}
use Rattle.sk_types_rules.proofs.Layers.{FormMeans, FieldMeans, rule, form_means_are, means_parts, means_from}
use Rattle.sk_types_rules.proofs.SortLaws.{form_sort, field_sort, form_sort_is, sort_is}
use Rattle.sk_types_laws.specs.Envs.{AreDistinct}
use Rattle.sk_types_laws.proofs.OwnLaws.{firm_own, binary_own, unary_own_is, call_own}
use Rattle.sk_types_laws.proofs.Bare.{form_bare, form_bare_is, is_bare_is}
use Rattle.sk_types_laws.proofs.Stands.{stands}
use Rattle.sk_types_laws.proofs.Complete.{complete}
use Rattle.sk_print_laws.specs.Printed.{choice_of, eform_printed, printed_expr}
use Rattle.sk_print_laws.specs.MeansAgain.{ExpressionsMean}
use Rattle.sk_print_laws.specs.SpanlessTree.{parts_spanless, expr_nowhere, spanless_expr}
use Rattle.sk_print_laws.specs.SpanlessTree as T
use Rattle.sk_print_laws.proofs.Respelt.{Layer, field_off, Alike}
use Rattle.sk_print_laws.proofs.Inverted.{rolled_same, number_back, true_back, false_back, null_back, word_back, hole_back, pattern_back, paren_back, call_back, new_back, braces_back, member_back, index_back, slice_back, unary_back, binary_back, cond_back}
use Rattle.sk_print_laws.proofs.NamesBack.{struct_back, const_back, fun_back, field_back}

abbrev PLayer : Type 0
PLayer = P.PEForm-F PEForm PExpr PField

abbrev pform_off : PEForm → PEForm
pform_off = fold-PEForm PEForm PExpr PField roll-PEForm without_span field_again

abbrev pfield_off : PField → PField
pfield_off = fold-PField PEForm PExpr PField roll-PEForm without_span field_again

abbrev parts_off : PLayer → PLayer
parts_off l = map-PEForm PEForm PExpr PField PEForm PExpr PField pform_off W.spanless_expr pfield_off l

field_layer : (x : List ℕ) (e : Expr) → field_off (record { name = x; value = e }) ≡ record { name = x; value = spanless_expr e }
field_layer x e = fold-roll-NewField EForm Expr NewField (λ l. roll-EForm (parts_spanless l)) expr_nowhere T.field_again (record { name = x; value = e })

pub operator_mark : (o : BinOp) → operator_of (mark_of o) ≡ Some o
operator_mark op.Mul = refl
operator_mark op.Div = refl
operator_mark op.Rem = refl
operator_mark op.Add = refl
operator_mark op.Sub = refl
operator_mark op.Shl = refl
operator_mark op.Shr = refl
operator_mark op.Lt = refl
operator_mark op.Le = refl
operator_mark op.Gt = refl
operator_mark op.Ge = refl
operator_mark op.Eq = refl
operator_mark op.Ne = refl
operator_mark op.And = refl
operator_mark op.Xor = refl
operator_mark op.Or = refl
operator_mark op.AndThen = refl
operator_mark op.OrElse = refl

unary_back_mark : (o : UnOp) → unary_of (unary_mark o) ≡ Some o
unary_back_mark unop.Not = refl
unary_back_mark unop.Flip = refl
unary_back_mark unop.Neg = refl

-- a word stays that word
abbrev pub WordKept : Expr → Expr → Type 0
WordKept e d = (x : List ℕ) → e.form ≡ eform.Word x → d.form ≡ eform.Word x

word_form : (f : EForm) (scope : List Variable) (t : Ty) → variable_type scope f ≡ Some t → (x : List ℕ) × (f ≡ eform.Word x)
word_form (eform.Word x) scope t h = (x, refl)
word_form _ scope t h = cc

no_word : (e d : Expr) (l : Layer) → e.form ≡ roll-EForm l → ((x : List ℕ) → l ≡ E.Word x → ⊥) → WordKept e d
no_word e d l is other x h = absurd (other x (rolled_same l (E.Word x) (sym is ∙ h ∙ sym (eform.rolls-Word x))))

ref_again : (b : Bool) (scope : List Variable) (t : Ty) (e d : Expr) → MayBeRef b scope t e.form → WordKept e d → MayBeRef b scope t d.form
ref_again false scope t e d h k = tt
ref_again true scope t e d h k = let w = word_form e.form scope t h in ap (variable_type scope) (k w.0 w.1) ∙ ap (variable_type scope) (sym w.1) ∙ h

more_again : (ps qs : List PExpr) → map W.spanless_expr ps ≡ map W.spanless_expr qs → IsMore qs → IsMore ps
more_again [] [] h m = m
more_again (p ∷ ps) [] h m = absurd m
more_again [] (q ∷ qs) h m = cc
more_again (p ∷ ps) (q ∷ qs) h m = tt

as_many : (ps qs : List PExpr) → map W.spanless_expr ps ≡ map W.spanless_expr qs → length ps ≡ length qs
as_many [] [] h = refl
as_many (p ∷ ps) [] h = cc
as_many [] (q ∷ qs) h = cc
as_many (p ∷ ps) (q ∷ qs) h = let e : map W.spanless_expr ps ≡ map W.spanless_expr qs = cc in ap suc (as_many ps qs e)

pub natural_range : (bounds : Bounds) (o : Option ℤ) (m : ℕ) → (o >>= natural bounds) ≡ Some m → in_range bounds m ≡ true
natural_range bounds None m h = cc
natural_range bounds (Some (ℤ.pos n)) m h = go (in_range bounds n) refl h
  where
    go : (b : Bool) → in_range bounds n ≡ b → only_if b n ≡ Some m → in_range bounds m ≡ true
    go true is h = let e : n ≡ m = cc in ap (in_range bounds) (sym e) ∙ is
    go false is h = cc
natural_range bounds (Some (ℤ.negsuc n)) m h = cc

module _ (prog : Prog) (bounds : Bounds) (known again : List Known) (scope : List Variable) (good : AreDistinct (top_of prog)) where
  abbrev pub first : Context
  first = record { bounds = bounds; top = top_of prog; known = known }

  abbrev pub second : Context
  second = record { bounds = bounds; top = top_of prog; known = again }

  abbrev form_printed : PEForm → Span → Expr
  form_printed = fold-PEForm (Span → Expr) Expr (ℕ × Expr) (eform_printed prog) (λ e. e.form e.span) (λ f. (f.field, f.value))

  abbrev field_printed : PField → ℕ × Expr
  field_printed = fold-PField (Span → Expr) Expr (ℕ × Expr) (eform_printed prog) (λ e. e.form e.span) (λ f. (f.field, f.value))

  -- what is found for an expression p that means e, of an expression d like the printed one
  pub record Again (p : PExpr) (e d : Expr) : Type 0 where
    pub made : PExpr
    pub means : Means second scope made d
    pub same : W.spanless_expr made ≡ W.spanless_expr p
    pub type : made.ty ≡ p.ty
    pub owns : own second scope d ≡ own first scope e
    pub bare : is_bare d ≡ is_bare e
    pub word : WordKept e d

  record FormIs (f : PEForm) (t : Option Ty) (e d : Expr) : Type 0 where
    made : PEForm
    means : FormMeans second scope made t d
    same : pform_off made ≡ pform_off f
    owns : own second scope d ≡ own first scope e
    bare : is_bare d ≡ is_bare e
    word : WordKept e d

  abbrev FormAgain : PEForm → Type 0
  FormAgain f = (s : Span) (t : Option Ty) (e : Expr) → FormMeans first scope f t e → (d : Expr) → Alike (form_printed f s) d → FormIs f t e d

  abbrev pub ExprAgain : PExpr → Type 0
  ExprAgain p = (e : Expr) → Means first scope p e → (d : Expr) → Alike (printed_expr prog p) d → Again p e d

  abbrev SetIs : PField → StructDef → NewField → NewField → Type 0
  SetIs q d n x = (made : PField) × FieldMeans second scope made d x × (pfield_off made ≡ pfield_off q) × (x.name ≡ n.name)

  abbrev FieldAgain : PField → Type 0
  FieldAgain q = (s : StructId) (d : StructDef) → slice_get prog.structs s.index ≡ Some d → (n : NewField) → FieldMeans first scope q d n → (x : NewField) → field_off x ≡ field_off (field_erased prog s (field_printed q)) → SetIs q d n x

  abbrev Such : Type 0
  Such = (f : PEForm) × FormAgain f

  abbrev Such' : Type 0
  Such' = (e : PExpr) × ExprAgain e

  abbrev Such'' : Type 0
  Such'' = (f : PField) × FieldAgain f

  abbrev down : P.PEForm-F Such Such' Such'' → PLayer
  down = map-PEForm Such Such' Such'' PEForm PExpr PField (λ q. q.0) (λ q. q.0) (λ q. q.0)

  abbrev firsts : List Such' → List PExpr
  firsts qs = map (λ (q : Such'). q.0) qs

  abbrev printed_of : PLayer → P.PEForm-F (Span → Expr) Expr (ℕ × Expr)
  printed_of = map-PEForm PEForm PExpr PField (Span → Expr) Expr (ℕ × Expr) form_printed (printed_expr prog) field_printed

  -- Own types and bareness by layers

  abbrev pairs : Context → Layer → E.EForm-F (EForm × Sort) (Expr × Sort) (NewField × Sort)
  pairs context l = map-EForm EForm Expr NewField (EForm × Sort) (Expr × Sort) (NewField × Sort) (λ f. (f, form_sort context scope f)) (λ e. (e, sort context scope e)) (λ x. (x, field_sort context scope x)) l

  own_of : (context : Context) (e : Expr) (l : Layer) → e.form ≡ roll-EForm l → own context scope e ≡ (eform_sort context scope (pairs context l)).own
  own_of context e l is = ap (λ (z : Sort). z.own) (sort_is context scope e ∙ ap (form_sort context scope) is ∙ form_sort_is context scope l)

  abbrev no_field : NewField → Unit {0}
  no_field x = tt

  bare_of : (e : Expr) (l : Layer) → e.form ≡ roll-EForm l → is_bare e ≡ eform_bare (map-EForm EForm Expr NewField Bool Bool (Unit {0}) form_bare is_bare no_field l)
  bare_of e l is = is_bare_is e ∙ ap form_bare is ∙ form_bare_is l

  -- what is found, where e and d are built of the layers k and j
  remade : (l0 l : PLayer) (t : Option Ty) (e d : Expr) (k j : Layer) → e.form ≡ roll-EForm k → d.form ≡ roll-EForm j → rule second scope l t d → parts_off l ≡ parts_off l0
      → (eform_sort second scope (pairs second j)).own ≡ (eform_sort first scope (pairs first k)).own
      → eform_bare (map-EForm EForm Expr NewField Bool Bool (Unit {0}) form_bare is_bare no_field j) ≡ eform_bare (map-EForm EForm Expr NewField Bool Bool (Unit {0}) form_bare is_bare no_field k)
      → WordKept e d → FormIs (roll-PEForm l0) t e d
  remade l0 l t e d k j ek dj r o w b word = record {
    made = roll-PEForm l;
    means = subst (λ (M : EFormRule). M t d) (sym (form_means_are second scope l)) r;
    same = fold-roll-PEForm PEForm PExpr PField roll-PEForm without_span field_again l ∙ ap roll-PEForm o ∙ sym (fold-roll-PEForm PEForm PExpr PField roll-PEForm without_span field_again l0);
    owns = own_of second d j dj ∙ w ∙ sym (own_of first e k ek);
    bare = bare_of d j dj ∙ b ∙ sym (bare_of e k ek);
    word = word;
  }

  -- a coercion, which has no form of its own
  coerced : (l0 l : PLayer) (t : Option Ty) (e d : Expr) → rule second scope l t d → parts_off l ≡ parts_off l0 → own second scope d ≡ own first scope e → is_bare d ≡ is_bare e → WordKept e d → FormIs (roll-PEForm l0) t e d
  coerced l0 l t e d r o w b word = record {
    made = roll-PEForm l;
    means = subst (λ (M : EFormRule). M t d) (sym (form_means_are second scope l)) r;
    same = fold-roll-PEForm PEForm PExpr PField roll-PEForm without_span field_again l ∙ ap roll-PEForm o ∙ sym (fold-roll-PEForm PEForm PExpr PField roll-PEForm without_span field_again l0);
    owns = w;
    bare = b;
    word = word;
  }

  -- Lists of parts

  abbrev AllOwn : List Expr → List Expr → Type 0
  AllOwn [] [] = Unit {0}
  AllOwn (e ∷ es) (d ∷ ds) = (own second scope d ≡ own first scope e) × AllOwn es ds
  AllOwn [] (d ∷ ds) = ⊥
  AllOwn (e ∷ es) [] = ⊥

  abbrev EachAgain : List PExpr → Ty → List Expr → List Expr → Type 0
  EachAgain ps t es ds = (made : List PExpr) × EachMeans (λ y. y) (Means second scope) t made ds × (map W.spanless_expr made ≡ map W.spanless_expr ps) × AllOwn es ds

  each_again : (qs : List Such') (t : Ty) (es : List Expr) → EachMeans (λ y. y) (Means first scope) t (firsts qs) es → (ds : List Expr) → map spanless_expr ds ≡ map spanless_expr (map (printed_expr prog) (firsts qs)) → EachAgain (firsts qs) t es ds
  each_again [] t [] m [] h = ([], tt, refl, tt)
  each_again [] t [] m (d ∷ ds) h = cc
  each_again [] t (e ∷ es) m ds h = absurd m
  each_again (q ∷ qs) t [] m ds h = absurd m
  each_again (q ∷ qs) t (e ∷ es) m [] h = cc
  each_again (q ∷ qs) t (e ∷ es) m (d ∷ ds) h =
      let a : Alike (printed_expr prog q.0) d = cc in
      let b : map spanless_expr ds ≡ map spanless_expr (map (printed_expr prog) (firsts qs)) = cc in
      let x = q.1 e m.0 d a in
      let r = each_again qs t es m.2 ds b in
      (x.made ∷ r.0, (x.means, x.type ∙ m.1, r.1), (λ i. x.same i ∷ r.2 i), (x.owns, r.3))

  abbrev AreKept : Ty → List Expr → Type 0
  AreKept t es = list_all (λ e. keeps (sort first scope e) t) es ≡ true

  kept_all : (t : Ty) (es : List Expr) → AreKept t (kept first scope t es)
  kept_all t [] = refl
  kept_all t (e ∷ es) = go (keeps (sort first scope e) t) refl (kept_all t es)
    where
      go : (b : Bool) → keeps (sort first scope e) t ≡ b → AreKept t (kept first scope t es) → AreKept t (if b then e ∷ kept first scope t es else kept first scope t es)
      go true is rest = (λ i. is i && rest i)
      go false is rest = rest

  keeps_again : (t : Ty) (p : PExpr) (e d : Expr) → keeps (sort first scope e) t ≡ true → own second scope d ≡ own first scope e → Means second scope p d → p.ty ≡ Some t → keeps (sort second scope d) t ≡ true
  keeps_again t p e d k o m is =
      let a = and_parts (may_keep (own first scope e) t) ((sort first scope e).at t) k in
      let b : (sort second scope d).at t ≡ true = stands second scope d t ∙ ap is_some (complete second scope good p d t m is) in
      (λ i. (ap (λ w. may_keep w t) o ∙ a.0) i && b i)

  kept_again : (t : Ty) (ps : List PExpr) (es ds : List Expr) → AreKept t es → AllOwn es ds → EachMeans (λ y. y) (Means second scope) t ps ds → kept second scope t ds ≡ ds
  kept_again t [] [] [] k o m = refl
  kept_again t (p ∷ ps) (e ∷ es) (d ∷ ds) k o m =
      let a = and_parts (keeps (sort first scope e) t) (list_all (λ e. keeps (sort first scope e) t) es) k in
      ap (λ b. if b then d ∷ kept second scope t ds else kept second scope t ds) (keeps_again t p e d a.0 o.0 m.0 m.1) ∙ ap (λ z. d ∷ z) (kept_again t ps es ds a.1 o.1 m.2)
  kept_again t [] (e ∷ es) (d ∷ ds) k o m = absurd m
  kept_again t (p ∷ ps) es [] k o m = absurd m
  kept_again t ps [] (d ∷ ds) k o m = absurd o
  kept_again t ps (e ∷ es) [] k o m = absurd o

  abbrev ArgsAgain : List ParamDef → List PExpr → List Expr → Type 0
  ArgsAgain ks ps ds = (made : List PExpr) × ArgumentsMean (λ y. y) (Means second scope) scope ks made ds × (map W.spanless_expr made ≡ map W.spanless_expr ps)

  args_again : (ks : List ParamDef) (qs : List Such') (es : List Expr) → ArgumentsMean (λ y. y) (Means first scope) scope ks (firsts qs) es → (ds : List Expr) → map spanless_expr ds ≡ map spanless_expr (map (printed_expr prog) (firsts qs)) → ArgsAgain ks (firsts qs) ds
  args_again [] [] [] m [] h = ([], tt, refl)
  args_again [] [] [] m (d ∷ ds) h = cc
  args_again (k ∷ ks) (q ∷ qs) (e ∷ es) m [] h = cc
  args_again (k ∷ ks) (q ∷ qs) (e ∷ es) m (d ∷ ds) h =
      let a : Alike (printed_expr prog q.0) d = cc in
      let b : map spanless_expr ds ≡ map spanless_expr (map (printed_expr prog) (firsts qs)) = cc in
      let x = q.1 e m.0 d a in
      let r = args_again ks qs es m.3 ds b in
      (x.made ∷ r.0, (x.means, x.type ∙ m.1, ref_again k.by_ref scope k.ty e d m.2 x.word, r.1), (λ i. x.same i ∷ r.2 i))
  args_again [] [] (e ∷ es) m ds h = absurd m
  args_again [] (q ∷ qs) es m ds h = absurd m
  args_again (k ∷ ks) [] es m ds h = absurd m
  args_again (k ∷ ks) (q ∷ qs) [] m ds h = absurd m

  abbrev SetsAgain : StructDef → List PField → List NewField → List NewField → Type 0
  SetsAgain d qs ns xs = (made : List PField) × FieldsMean (FieldMeans second scope) d made xs × (map pfield_off made ≡ map pfield_off qs) × (map (λ (x : NewField). x.name) xs ≡ map (λ (n : NewField). n.name) ns)

  sets_again : (s : StructId) (d : StructDef) → slice_get prog.structs s.index ≡ Some d → (qs : List Such'') (ns : List NewField) → FieldsMean (FieldMeans first scope) d (map (λ (q : Such''). q.0) qs) ns → (xs : List NewField) → map field_off xs ≡ map field_off (map (field_erased prog s) (map field_printed (map (λ (q : Such''). q.0) qs))) → SetsAgain d (map (λ (q : Such''). q.0) qs) ns xs
  sets_again s d there [] [] m [] h = ([], tt, refl, refl)
  sets_again s d there [] [] m (x ∷ xs) h = cc
  sets_again s d there [] (n ∷ ns) m xs h = absurd m
  sets_again s d there (q ∷ qs) [] m xs h = absurd m
  sets_again s d there (q ∷ qs) (n ∷ ns) m [] h = cc
  sets_again s d there (q ∷ qs) (n ∷ ns) m (x ∷ xs) h =
      let a : field_off x ≡ field_off (field_erased prog s (field_printed q.0)) = cc in
      let b : map field_off xs ≡ map field_off (map (field_erased prog s) (map field_printed (map (λ (q : Such''). q.0) qs))) = cc in
      let y = q.1 s d there n m.0 x a in
      let r = sets_again s d there qs ns m.1 xs b in
      (y.0 ∷ r.0, (y.1, r.1), (λ i. y.2 i ∷ r.2 i), (λ i. y.3 i ∷ r.3 i))

  -- Forms

  same_binary : (o : BinOp) (m : Mark) (x y c d : Expr) → operator_of m ≡ Some o → own second scope c ≡ own first scope x → own second scope d ≡ own first scope y → (any_binary (operator_of (mark_of o)) (sort second scope c) (sort second scope d)).own ≡ (any_binary (operator_of m) (sort first scope x) (sort first scope y)).own
  same_binary o m x y c d is a b =
      ap (λ z. (any_binary z (sort second scope c) (sort second scope d)).own) (operator_mark o)
      ∙ binary_own o (sort second scope c) (sort second scope d)
      ∙ (λ i. operation_own o (a i) (b i))
      ∙ sym (binary_own o (sort first scope x) (sort first scope y))
      ∙ ap (λ z. (any_binary z (sort first scope x) (sort first scope y)).own) (sym is)

  same_unary : (o : UnOp) (m : Mark) (x c : Expr) → unary_of m ≡ Some o → own second scope c ≡ own first scope x → (any_unary (unary_of (unary_mark o)) (sort second scope c)).own ≡ (any_unary (unary_of m) (sort first scope x)).own
  same_unary o m x c is a =
      ap (λ z. (any_unary z (sort second scope c)).own) (unary_back_mark o)
      ∙ unary_own_is o (sort second scope c)
      ∙ ap (unary_own o) a
      ∙ sym (unary_own_is o (sort first scope x))
      ∙ ap (λ z. (any_unary z (sort first scope x)).own) (sym is)

  pub number_again : (z d : Expr) (m : ℕ) → constant_number first scope z ≡ Some m → Alike (at (eform.Number m) nowhere) d → constant_number second scope d ≡ Some m
  number_again z d m h a =
      let range = natural_range bounds (whole_number first scope z) m h in
      let f = number_back nowhere d m a in
      ap (λ o. o >>= natural bounds) (whole d m f) ∙ ap (λ b. only_if b (ℤ.pos m) >>= natural bounds) range ∙ ap (λ b. only_if b m) range
    where
      whole : (d : Expr) (m : ℕ) → d.form ≡ eform.Number m → whole_number second scope d ≡ only_if (in_range bounds m) (ℤ.pos m)
      whole d m f =
          fold-roll-Expr (Option ℤ) (Option ℤ) (Unit {0}) (eform_number second scope) (λ x. x.form) (λ x. tt) (record { span = d.span; form = d.form })
          ∙ ap (fold-EForm (Option ℤ) (Option ℤ) (Unit {0}) (eform_number second scope) (λ x. x.form) (λ x. tt)) (f ∙ sym (eform.rolls-Number m))
          ∙ fold-roll-EForm (Option ℤ) (Option ℤ) (Unit {0}) (eform_number second scope) (λ x. x.form) (λ x. tt) (E.Number m)

  module _ (s : Span) where
    abbrev LayerAgain : P.PEForm-F Such Such' Such'' → Type 0
    LayerAgain y = (t : Option Ty) (e : Expr) → rule first scope (down y) t e → (d : Expr) → Alike (eform_printed prog (printed_of (down y)) s) d → FormIs (roll-PEForm (down y)) t e d

    layer : (y : P.PEForm-F Such Such' Such'') → LayerAgain y
    layer (P.Number n) t e h d a =
        let f = number_back s d n a in
        let ek = h.0 ∙ sym (eform.rolls-Number n) in
        remade (P.Number n) (P.Number n) t e d (E.Number n) (E.Number n) ek (f ∙ sym (eform.rolls-Number n)) (f, h.1, h.2) refl refl refl (no_word e d (E.Number n) ek (λ x is. cc))
    layer P.True t e h d a =
        let f = true_back s d a in
        let ek = h.0 ∙ sym eform.rolls-True in
        remade P.True P.True t e d E.True E.True ek (f ∙ sym eform.rolls-True) (f, h.1) refl refl refl (no_word e d E.True ek (λ x is. cc))
    layer P.False t e h d a =
        let f = false_back s d a in
        let ek = h.0 ∙ sym eform.rolls-False in
        remade P.False P.False t e d E.False E.False ek (f ∙ sym eform.rolls-False) (f, h.1) refl refl refl (no_word e d E.False ek (λ x is. cc))
    layer P.Null t e h d a =
        let f = null_back s d a in
        let ek = h.0 ∙ sym eform.rolls-Null in
        remade P.Null P.Null t e d E.Null E.Null ek (f ∙ sym eform.rolls-Null) (f, h.1) refl refl refl (no_word e d E.Null ek (λ x is. cc))
    layer (P.Var slot x) t e h d a =
        let f = word_back s d x a in
        remade (P.Var slot x) (P.Var slot x) t e d (E.Word x) (E.Word x) (h.0 ∙ sym (eform.rolls-Word x)) (f ∙ sym (eform.rolls-Word x)) (f, h.1, h.2, h.3) refl refl refl (λ y is. f ∙ sym h.0 ∙ is)
    layer (P.Const c) t e h d a =
        let n = const_back prog scope h.0 c h.2 in
        let f = word_back s d (R.const_name prog c) a ∙ ap eform.Word n in
        remade (P.Const c) (P.Const c) t e d (E.Word h.0) (E.Word h.0) (h.1 ∙ sym (eform.rolls-Word h.0)) (f ∙ sym (eform.rolls-Word h.0)) (h.0, f, h.2, h.3) refl refl refl (λ y is. f ∙ sym h.1 ∙ is)
    layer (P.Hole None) t e h d a =
        let f = hole_back s d None a in
        let ek = h.0 ∙ sym (eform.rolls-Hole None) in
        remade (P.Hole None) (P.Hole None) t e d (E.Hole None) (E.Hole None) ek (f ∙ sym (eform.rolls-Hole None)) (f, h.1, h.2) refl refl refl (no_word e d (E.Hole None) ek (λ x is. cc))
    layer (P.Hole (Some n)) t e h d a =
        let f = hole_back s d (Some n) a in
        let ek = h.0 ∙ sym (eform.rolls-Hole (Some n)) in
        remade (P.Hole (Some n)) (P.Hole (Some n)) t e d (E.Hole (Some n)) (E.Hole (Some n)) ek (f ∙ sym (eform.rolls-Hole (Some n))) (f, h.1, h.2) refl refl refl (no_word e d (E.Hole (Some n)) ek (λ x is. cc))
    layer (P.Pattern qs) t e h d a =
        let b = pattern_back s d (choice_of (map (printed_expr prog) (firsts qs))) (map (printed_expr prog) (firsts qs)) a in
        let r = each_again qs h.3 (kept first scope h.3 h.1) h.6 b.1 b.3 in
        let k = kept_again h.3 r.0 (kept first scope h.3 h.1) b.1 (kept_all h.3 h.1) r.3 r.1 in
        let ek = h.2 ∙ sym (eform.rolls-Pattern h.0 h.1) in
        remade (P.Pattern (firsts qs)) (P.Pattern r.0) t e d (E.Pattern h.0 h.1) (E.Pattern b.0 b.1) ek (b.2 ∙ sym (eform.rolls-Pattern b.0 b.1))
        (b.0, b.1, b.2, h.3, h.4, more_again r.0 (firsts qs) r.2 h.5, subst (λ es. EachMeans (λ y. y) (Means second scope) h.3 r.0 es) (sym k) r.1)
        (ap (λ z. P.Pattern z) r.2) refl refl (no_word e d (E.Pattern h.0 h.1) ek (λ x is. cc))
    layer (P.Paren q) t e h d a =
        let b = paren_back s d (printed_expr prog q.0) a in
        let r = q.1 h.0 h.2 b.0 b.2 in
        let ek = h.1 ∙ sym (eform.rolls-Paren h.0) in
        remade (P.Paren q.0) (P.Paren r.made) t e d (E.Paren h.0) (E.Paren b.0) ek (b.1 ∙ sym (eform.rolls-Paren b.0))
        (b.0, b.1, r.means, h.3, r.type ∙ h.4, h.5)
        (ap (λ z. P.Paren z) r.same) r.owns refl (no_word e d (E.Paren h.0) ek (λ x is. cc))
    layer (P.Call g qs) t e h d a =
        let n = fun_back prog scope h.0 g (h.4).meaning in
        let b = call_back s d (R.fun_name prog g) (map (printed_expr prog) (firsts qs)) a in
        let f = b.1 ∙ ap (λ z. eform.Call z b.0) n in
        let r = args_again (h.3).params qs h.1 h.5 b.0 b.2 in
        let ek = h.2 ∙ sym (eform.rolls-Call h.0 h.1) in
        remade (P.Call g (firsts qs)) (P.Call g r.0) t e d (E.Call h.0 h.1) (E.Call h.0 b.0) ek (f ∙ sym (eform.rolls-Call h.0 b.0))
        (h.0, b.0, f, h.3, h.4, r.1, h.6)
        (ap (λ z. P.Call g z) r.2)
        (call_own (top_of prog) scope (meaning_of (top_of prog) scope h.0) (map (λ e. (e, sort second scope e)) b.0) ∙ sym (call_own (top_of prog) scope (meaning_of (top_of prog) scope h.0) (map (λ e. (e, sort first scope e)) h.1)))
        refl (no_word e d (E.Call h.0 h.1) ek (λ x is. cc))
    layer (P.New k qs) t e h d a =
        let n = struct_back prog scope h.0 k (h.4).meaning in
        let b = new_back s d (R.struct_name prog k) (map (field_erased prog k) (map field_printed (map (λ (q : Such''). q.0) qs))) a in
        let f = b.1 ∙ ap (λ z. eform.New z b.0) n in
        let r = sets_again k h.3 (h.4).there qs h.1 h.5 b.0 b.2 in
        let ek = h.2 ∙ sym (eform.rolls-New h.0 h.1) in
        remade (P.New k (map (λ (q : Such''). q.0) qs)) (P.New k r.0) t e d (E.New h.0 h.1) (E.New h.0 b.0) ek (f ∙ sym (eform.rolls-New h.0 b.0))
        (h.0, b.0, f, h.3, h.4, r.1, ap all_distinct r.3 ∙ h.6, h.7)
        (ap (λ z. P.New k z) r.2)
        (ap (λ m. (new_sort (top_of prog) (struct_meant m) (map (λ x. (x, field_sort second scope x)) b.0)).own) (h.4).meaning ∙ sym (ap (λ m. (new_sort (top_of prog) (struct_meant m) (map (λ x. (x, field_sort first scope x)) h.1)).own) (h.4).meaning))
        refl (no_word e d (E.New h.0 h.1) ek (λ x is. cc))
    layer (P.Braces qs) t e h d a =
        let b = braces_back s d (map (printed_expr prog) (firsts qs)) a in
        let r = each_again qs h.3 h.0 h.4 b.0 b.2 in
        let ek = h.1 ∙ sym (eform.rolls-Braces h.0) in
        remade (P.Braces (firsts qs)) (P.Braces r.0) t e d (E.Braces h.0) (E.Braces b.0) ek (b.1 ∙ sym (eform.rolls-Braces b.0))
        (b.0, b.1, more_again r.0 (firsts qs) r.2 h.2, h.3, r.1, h.5, h.6, subst (λ n. n ≤ count_of h.5) (sym (as_many r.0 (firsts qs) r.2)) h.7, h.8)
        (ap (λ z. P.Braces z) r.2) refl refl (no_word e d (E.Braces h.0) ek (λ x is. cc))
    layer (P.Member q k i) t e h d a =
        let n = field_back prog k h.6 i h.1 h.8 h.7 h.9 in
        let b = member_back s d (printed_expr prog q.0) (R.field_name prog k i) a in
        let f = b.1 ∙ ap (λ z. eform.Member b.0 z) n in
        let r = q.1 h.0 h.3 b.0 b.2 in
        let ek = h.2 ∙ sym (eform.rolls-Member h.0 h.1) in
        remade (P.Member q.0 k i) (P.Member r.made k i) t e d (E.Member h.0 h.1) (E.Member b.0 h.1) ek (f ∙ sym (eform.rolls-Member b.0 h.1))
        (b.0, h.1, f, r.means, r.owns ∙ h.4, r.type ∙ h.5, h.6, h.7, h.8, h.9, h.10)
        (ap (λ z. P.Member z k i) r.same)
        (firm_own (member_of (top_of prog) (reference_meant (own second scope b.0)) h.1) _ ∙ ap (λ o. own_type (member_of (top_of prog) (reference_meant o) h.1)) r.owns ∙ sym (firm_own (member_of (top_of prog) (reference_meant (own first scope h.0)) h.1) _))
        refl (no_word e d (E.Member h.0 h.1) ek (λ x is. cc))
    layer (P.Index q j) t e h d a =
        let b = index_back s d (printed_expr prog q.0) (printed_expr prog j.0) a in
        let r = q.1 h.0 h.3 b.0 b.3 in
        let u = j.1 h.1 h.4 b.1 b.4 in
        let ek = h.2 ∙ sym (eform.rolls-Index h.0 h.1) in
        remade (P.Index q.0 j.0) (P.Index r.made u.made) t e d (E.Index h.0 h.1) (E.Index b.0 b.1) ek (b.2 ∙ sym (eform.rolls-Index b.0 b.1))
        (b.0, b.1, b.2, r.means, u.means, h.5, r.owns ∙ h.6, r.type ∙ h.7, u.type ∙ h.8, h.9, h.10, h.11)
        (λ i. P.Index (r.same i) (u.same i))
        (firm_own (array_meant (own second scope b.0)) _ ∙ ap (λ o. own_type (array_meant o)) r.owns ∙ sym (firm_own (array_meant (own first scope h.0)) _))
        refl (no_word e d (E.Index h.0 h.1) ek (λ x is. cc))
    layer (P.Slice q j m) t e h d a =
        let b = slice_back s d (printed_expr prog q.0) (printed_expr prog j.0) (at (eform.Number m) nowhere) a in
        let r = q.1 h.0 h.4 b.0 b.4 in
        let u = j.1 h.1 h.5 b.1 b.5 in
        let n = number_again h.2 b.2 m h.10 b.6 in
        let ek = h.3 ∙ sym (eform.rolls-Slice h.0 h.1 h.2) in
        remade (P.Slice q.0 j.0 m) (P.Slice r.made u.made m) t e d (E.Slice h.0 h.1 h.2) (E.Slice b.0 b.1 b.2) ek (b.3 ∙ sym (eform.rolls-Slice b.0 b.1 b.2))
        (b.0, b.1, b.2, b.3, r.means, u.means, h.6, r.owns ∙ h.7, r.type ∙ h.8, u.type ∙ h.9, n, h.11, h.12, h.13)
        (λ i. P.Slice (r.same i) (u.same i) m)
        (firm_own (slice_of (own second scope b.0) (constant_number second scope b.2)) _ ∙ (λ i. own_type (slice_of (r.owns i) ((n ∙ sym h.10) i))) ∙ sym (firm_own (slice_of (own first scope h.0) (constant_number first scope h.2)) _))
        refl (no_word e d (E.Slice h.0 h.1 h.2) ek (λ x is. cc))
    layer (P.Unary o q) t e h d a =
        let b = unary_back s d (unary_mark o) (printed_expr prog q.0) a in
        let r = q.1 h.1 h.4 b.0 b.2 in
        let ek = h.2 ∙ sym (eform.rolls-Unary h.0 h.1) in
        remade (P.Unary o q.0) (P.Unary o r.made) t e d (E.Unary h.0 h.1) (E.Unary (unary_mark o) b.0) ek (b.1 ∙ sym (eform.rolls-Unary (unary_mark o) b.0))
        (unary_mark o, b.0, b.1, unary_back_mark o, r.means, h.5, subst (λ w. MeansUnary o w h.5) (sym r.owns) h.6, r.type ∙ h.7, h.8)
        (ap (λ z. P.Unary o z) r.same) (same_unary o h.0 h.1 b.0 h.3 r.owns) refl (no_word e d (E.Unary h.0 h.1) ek (λ x is. cc))
    layer (P.Binary o q j) t e h d a =
        let b = binary_back s d (mark_of o) (printed_expr prog q.0) (printed_expr prog j.0) a in
        let r = q.1 h.1 h.5 b.0 b.3 in
        let u = j.1 h.2 h.6 b.1 b.4 in
        let ek = h.3 ∙ sym (eform.rolls-Binary h.0 h.1 h.2) in
        let m : MeansBinary (class_of o) (own second scope b.0) (own second scope b.1) h.7 (r.made).ty (u.made).ty t = subst (λ (T : Type 0). T) (λ i. MeansBinary (class_of o) (sym r.owns i) (sym u.owns i) h.7 (sym r.type i) (sym u.type i) t) h.8 in
        remade (P.Binary o q.0 j.0) (P.Binary o r.made u.made) t e d (E.Binary h.0 h.1 h.2) (E.Binary (mark_of o) b.0 b.1) ek (b.2 ∙ sym (eform.rolls-Binary (mark_of o) b.0 b.1))
        (mark_of o, b.0, b.1, b.2, operator_mark o, r.means, u.means, h.7, m)
        (λ i. P.Binary o (r.same i) (u.same i)) (same_binary o h.0 h.1 h.2 b.0 b.1 h.4 r.owns u.owns) refl (no_word e d (E.Binary h.0 h.1 h.2) ek (λ x is. cc))
    layer (P.Cond z q j) t e h d a =
        let b = cond_back s d (printed_expr prog z.0) (printed_expr prog q.0) (printed_expr prog j.0) a in
        let c = z.1 h.0 h.4 b.0 b.4 in
        let r = q.1 h.1 h.5 b.1 b.5 in
        let u = j.1 h.2 h.6 b.2 b.6 in
        let ek = h.3 ∙ sym (eform.rolls-Cond h.0 h.1 h.2) in
        remade (P.Cond z.0 q.0 j.0) (P.Cond c.made r.made u.made) t e d (E.Cond h.0 h.1 h.2) (E.Cond b.0 b.1 b.2) ek (b.3 ∙ sym (eform.rolls-Cond b.0 b.1 b.2))
        (b.0, b.1, b.2, b.3, c.means, r.means, u.means, c.type ∙ h.7, h.8, r.type ∙ h.9, u.type ∙ h.10, h.11)
        (λ i. P.Cond (c.same i) (r.same i) (u.same i)) (λ i. choice (r.owns i) (u.owns i)) refl (no_word e d (E.Cond h.0 h.1 h.2) ek (λ x is. cc))
    layer (P.ToInt q) t e h d a =
        let r = q.1 e h.0 d a in
        let w = h.2 in
        coerced (P.ToInt q.0) (P.ToInt r.made) t e d (r.means, r.bare ∙ h.1, record { own = r.owns ∙ w.own; operand = r.type ∙ w.operand; result = w.result }) (ap (λ z. P.ToInt z) r.same) r.owns r.bare r.word
    layer (P.Pad q) t e h d a =
        let r = q.1 e h.0 d a in
        let w = h.2 in
        coerced (P.Pad q.0) (P.Pad r.made) t e d (r.means, r.bare ∙ h.1, record { from = w.from; to = w.to; own = r.owns ∙ w.own; operand = r.type ∙ w.operand; result = w.result; fit = w.fit }) (ap (λ z. P.Pad z) r.same) r.owns r.bare r.word

  in_expr : (s : Span) (t : Option Ty) (f : PEForm) → FormAgain f → ExprAgain (record { span = s; ty = t; form = f })
  in_expr s t f h e m d a =
      let c = fold-roll-PExpr (Span → Expr) Expr (ℕ × Expr) (eform_printed prog) (λ e. e.form e.span) (λ f. (f.field, f.value)) (record { span = s; ty = t; form = f }) in
      let r = h s t e (means_parts first scope (record { span = s; ty = t; form = f }) e m).1 d (a ∙ ap spanless_expr c) in
      let p : PExpr = record { span = d.span; ty = t; form = r.made } in
      record {
        made = p;
        means = means_from second scope p d refl r.means;
        same = fold-roll-PExpr PEForm PExpr PField roll-PEForm without_span field_again (record { span = d.span; ty = t; form = r.made }) ∙ ap (λ g. record { span = no_span; ty = t; form = g }) r.same ∙ sym (fold-roll-PExpr PEForm PExpr PField roll-PEForm without_span field_again (record { span = s; ty = t; form = f }));
        type = refl;
        owns = r.owns;
        bare = r.bare;
        word = r.word;
      }

  field_means_is : (context : Context) (q : PField) → FieldMeans context scope q ≡ (λ d x. (t : Ty) × IsField d q.field x.name t × Means context scope q.value x.value × (q.value.ty ≡ Some t))
  field_means_is context q = rec-roll-PField EFormRule ExprRule FieldRule (eform_means context scope) (expr_means context scope) (field_means context scope) (λ X Y Z u v w f k n x. refl) (record { field = q.field; value = q.value })

  in_field : (k : ℕ) (p : PExpr) → ExprAgain p → FieldAgain (record { field = k; value = p })
  in_field k p h s d there n m x a =
      let c = fold-roll-PField (Span → Expr) Expr (ℕ × Expr) (eform_printed prog) (λ e. e.form e.span) (λ f. (f.field, f.value)) (record { field = k; value = p }) in
      let g = subst (λ (M : FieldRule). M d n) (field_means_is first (record { field = k; value = p })) m in
      let name = field_back prog s d k n.name g.0 there g.1 in
      let b : record { name = x.name; value = spanless_expr x.value } ≡ record { name = field_name prog s k; value = spanless_expr (printed_expr prog p) } = sym (field_layer x.name x.value) ∙ a ∙ ap (λ (q : ℕ × Expr). field_off (field_erased prog s q)) c ∙ field_layer (field_name prog s k) (printed_expr prog p) in
      let same_name : x.name ≡ n.name = ap (λ (y : NewField). y.name) b ∙ name in
      let r = h n.value g.2 x.value (ap (λ (y : NewField). y.value) b) in
      let q : PField = record { field = k; value = r.made } in (
        q,
        subst (λ (M : FieldRule). M d x) (sym (field_means_is second q)) (g.0, subst (λ y. IsField d k y g.0) (sym same_name) g.1, r.means, r.type ∙ g.3),
        fold-roll-PField PEForm PExpr PField roll-PEForm without_span field_again (record { field = k; value = r.made }) ∙ ap (λ z. record { field = k; value = z }) r.same ∙ sym (fold-roll-PField PEForm PExpr PField roll-PEForm without_span field_again (record { field = k; value = p })),
        same_name,
      )

  form_from : (y : P.PEForm-F Such Such' Such'') → FormAgain (roll-PEForm (down y))
  form_from y s t e m d a =
      let c = fold-roll-PEForm (Span → Expr) Expr (ℕ × Expr) (eform_printed prog) (λ e. e.form e.span) (λ f. (f.field, f.value)) (down y) in
      layer s y t e (subst (λ (M : EFormRule). M t e) (form_means_are first scope (down y)) m) d (a ∙ ap (λ (z : Span → Expr). spanless_expr (z s)) c)

  pub expr_again : (p : PExpr) → ExprAgain p
  expr_again = ind-PExpr FormAgain ExprAgain FieldAgain
      (λ x y is. subst (λ z. FormAgain (roll-PEForm z)) is (form_from y))
      (λ x y is. subst (λ z. ExprAgain (roll-PExpr z)) is (in_expr y.span y.ty y.form.0 y.form.1))
      (λ x y is. subst (λ z. FieldAgain (roll-PField z)) is (in_field y.field y.value.0 y.value.1))

pub means_again : ExpressionsMean
means_again prog bounds known again scope good p e m d a =
    let r = expr_again prog bounds known again scope good p e m d a in
    (r.made, r.means, r.same)
