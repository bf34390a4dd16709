-- An expression that means something is printed so that it is spelt as an expression may be.
use Rattle.std.proofs.Common.{◌≡◌, ℕ, ◌-◌, Bool, true, false, List, [], ◌∷◌, length, Option, Some, None, refl, sym, ap, subst, ◌∙◌}
use Rattle.std.specs.Prelude.{◌&&◌, map, nat_le, if◌then◌else◌}
use Rattle.std.specs.List.{list_all}
use Rattle.std.proofs.lemmas.List.{length-map}
use Rattle.sk_base.specs.declared.span.Span.{Span}
use Rattle.sk_tree.specs.declared.expr.Expr.{Expr}
use Rattle.sk_tree.specs.declared.expr.NewField.{NewField}
use Rattle.sk_tree.specs.declared.expr.EForm.TheVariants as eform
use Rattle.sk_tree.specs.declared.expr.EForm.TheOpen as E
use Rattle.sk_tree.specs.declared.expr.EForm.TheViews.{roll-EForm}
use Rattle.sk_tree.specs.Strings.{most_strings}
use Rattle.sk_tree.specs.Depth.{expr_depth, most_levels}
use Rattle.sk_tree.specs.Spelt.{are_some, may_stand}
use Rattle.sk_tree.specs.Spell.{spell_expr}
use Rattle.sk_tree.specs.Placed.{Place, binds, all_placed, are_yes, level_of, eform_place, place_of, expr_placed}
use Rattle.sk_prog.specs.declared.ty.Ty.{Ty}
use Rattle.sk_prog.specs.declared.expr.PExpr.{PExpr}
use Rattle.sk_prog.specs.declared.expr.PField.{PField}
use Rattle.sk_prog.specs.declared.expr.PEForm.{PEForm}
use Rattle.sk_prog.specs.declared.expr.PEForm.TheOpen as P
use Rattle.sk_prog.specs.declared.expr.PEForm.TheViews.{roll-PEForm, roll-PExpr, roll-PField}
use Rattle.sk_prog.specs.declared.expr.PEForm.TheFolds.{map-PEForm, fold-PEForm, fold-PField, para-PEForm, para-PField, fold-roll-PEForm, fold-roll-PExpr, para-roll-PEForm, para-roll-PExpr, para-roll-PField, rec-roll-PField, ind-PExpr}
use Rattle.sk_prog.specs.declared.prog.StructDef.{StructDef}
use Rattle.sk_prog.specs.declared.prog.ParamDef.{ParamDef}
use Rattle.sk_prog.specs.declared.prog.Prog.{Prog}
use Rattle.sk_prog.specs.Names.{is_yes}
use Rattle.sk_types_rules.specs.declared.scope.Variable.{Variable}
use Rattle.sk_types_rules.specs.Erase.{erase_expr}
use Rattle.sk_types_rules.specs.Scope.{Context}
use Rattle.sk_types_rules.specs.Sorts.{sort, keeps, kept}
use Rattle.sk_types_rules.specs.Types.{EFormRule, ExprRule, FieldRule, EachMeans, ArgumentsMean, FieldsMean, IsMore, IsField, eform_means, expr_means, field_means, Means}
use Rattle.sk_types_rules.specs.WellTyped.{no_bar, eform_bald, is_bald, are_strings, all_good, eform_patterns, expr_patterns}
use Rattle.sk_types_rules.specs.WellTyped as W
use Rattle.sk_types_rules.proofs.Layers.{FormMeans, FieldMeans, rule, form_means_are, means_parts}
use Rattle.sk_types_laws.proofs.Ats.{both_true, both, pexpr_law}
use Rattle.sk_print_laws.specs.Printed.{printed_expr}
use Rattle.sk_print_laws.specs.Readable.{eform_string, is_string, kinds_stand, tree_stands, string_stands, strings_stand, all_readable, eform_readable, expr_readable}
use Rattle.sk_print_laws.proofs.PlacedAgain.{Layer, set_placed, places, place_at, set_at, placed_again}
use Rattle.sk_print_laws.proofs.Bald.{printed_is_erased, bald_stands, bald_some}

-- Strings of patterns

module _ (context : Context) (scope : List Variable) where
  abbrev form_bald : PEForm → Bool
  form_bald = fold-PEForm Bool Bool Bool eform_bald (λ p. p.form) (λ f. f.value)

  abbrev field_bald : PField → Bool
  field_bald = fold-PField Bool Bool Bool eform_bald (λ p. p.form) (λ f. f.value)

  abbrev form_string : PEForm → Bool
  form_string = fold-PEForm Bool Bool Bool eform_string (λ p. p.form) (λ f. f.value)

  abbrev field_string : PField → Bool
  field_string = fold-PField Bool Bool Bool eform_string (λ p. p.form) (λ f. f.value)

  abbrev FormHeld : PEForm → Type 0
  FormHeld f = (t : Option Ty) (e : Expr) → FormMeans context scope f t e → form_bald f ≡ true → form_string f ≡ true

  abbrev ExprHeld : PExpr → Type 0
  ExprHeld p = (e : Expr) → Means context scope p e → is_bald p ≡ true → is_string p ≡ true

  abbrev StringParts : Type 0
  StringParts = P.PEForm-F ((f : PEForm) × FormHeld f) ((p : PExpr) × ExprHeld p) (PField × Unit {0})

  abbrev string_parts : StringParts → P.PEForm-F PEForm PExpr PField
  string_parts y = map-PEForm ((f : PEForm) × FormHeld f) ((p : PExpr) × ExprHeld p) (PField × Unit {0}) PEForm PExpr PField (λ q. q.0) (λ q. q.0) (λ q. q.0) y

  abbrev balds : P.PEForm-F PEForm PExpr PField → P.PEForm-F Bool Bool Bool
  balds = map-PEForm PEForm PExpr PField Bool Bool Bool form_bald is_bald field_bald

  abbrev strings : P.PEForm-F PEForm PExpr PField → P.PEForm-F Bool Bool Bool
  strings = map-PEForm PEForm PExpr PField Bool Bool Bool form_string is_string field_string

  each_held : (qs : List ((p : PExpr) × ExprHeld p)) (t : Ty) (es : List Expr) → EachMeans (λ y. y) (Means context scope) t (map (λ q. q.0) qs) es → list_all is_yes (map is_bald (map (λ q. q.0) qs)) ≡ true → list_all is_yes (map is_string (map (λ q. q.0) qs)) ≡ true
  each_held [] t es m h = refl
  each_held (q ∷ qs) t [] m h = absurd m
  each_held (q ∷ qs) t (e ∷ es) m h = let k = both_true (is_bald q.0) _ h in both _ _ (q.1 e m.0 k.0) (each_held qs t es m.2 k.1)

  some_of : {A : Type 0} (f : PExpr → A) (ps : List PExpr) → IsMore ps → are_some (map f ps) ≡ true
  some_of f [] m = absurd m
  some_of f (p ∷ ps) m = refl

  string_layer : (y : StringParts) (t : Option Ty) (e : Expr) → rule context scope (string_parts y) t e → eform_bald (balds (string_parts y)) ≡ true → eform_string (strings (string_parts y)) ≡ true
  string_layer (P.Number n) t e h b = refl
  string_layer P.True t e h b = refl
  string_layer P.False t e h b = refl
  string_layer P.Null t e h b = refl
  string_layer (P.Var slot x) t e h b = refl
  string_layer (P.Const c) t e h b = refl
  string_layer (P.Hole None) t e h b = refl
  string_layer (P.Hole (Some n)) t e h b = cc
  string_layer (P.Pattern qs) t e h b = cc
  string_layer (P.Paren q) t e h b = cc
  string_layer (P.Call g qs) t e h b = cc
  string_layer (P.New k qs) t e h b = cc
  string_layer (P.Cond z q j) t e h b = cc
  string_layer (P.Braces qs) t e h b = both _ _ (some_of is_string (map (λ q. q.0) qs) h.2) (each_held qs h.3 h.0 h.4 b)
  string_layer (P.Member q k i) t e h b = q.1 h.0 h.3 b
  string_layer (P.Index q j) t e h b = let k = both_true (is_bald q.0) (is_bald j.0) b in both _ _ (q.1 h.0 h.3 k.0) (j.1 h.1 h.4 k.1)
  string_layer (P.Slice q j m) t e h b = let k = both_true (is_bald q.0) (is_bald j.0) b in both _ _ (q.1 h.0 h.4 k.0) (j.1 h.1 h.5 k.1)
  string_layer (P.Unary o q) t e h b = q.1 h.1 h.4 b
  string_layer (P.Binary o q j) t e h b =
      let k = both_true (no_bar o) (is_bald q.0 && is_bald j.0) b in
      let i = both_true (is_bald q.0) (is_bald j.0) k.1 in
      both _ _ k.0 (both _ _ (q.1 h.1 h.5 i.0) (j.1 h.2 h.6 i.1))
  string_layer (P.ToInt q) t e h b = q.1 e h.0 b
  string_layer (P.Pad q) t e h b = q.1 e h.0 b

  held : (p : PExpr) → ExprHeld p
  held = pexpr_law FormHeld ExprHeld (λ q. Unit {0})
      (λ y t e m b.
      fold-roll-PEForm Bool Bool Bool eform_string (λ p. p.form) (λ f. f.value) (string_parts y)
      ∙ string_layer y t e (subst (λ (M : EFormRule). M t e) (form_means_are context scope (string_parts y)) m) (sym (fold-roll-PEForm Bool Bool Bool eform_bald (λ p. p.form) (λ f. f.value) (string_parts y)) ∙ b))
      (λ p h e m b.
      fold-roll-PExpr Bool Bool Bool eform_string (λ p. p.form) (λ f. f.value) (record { span = p.span; ty = p.ty; form = p.form })
      ∙ h p.ty e (means_parts context scope p e m).1 (sym (fold-roll-PExpr Bool Bool Bool eform_bald (λ p. p.form) (λ f. f.value) (record { span = p.span; ty = p.ty; form = p.form })) ∙ b))
      (λ q h. tt)

module _ (prog : Prog) (context : Context) (scope : List Variable) where
  -- a string of a pattern is spelt as one may be
  string_good : (p : PExpr) (e : Expr) → Means context scope p e → expr_placed e ≡ true → W.is_string prog p ≡ true → string_stands prog p ≡ true
  string_good p e m is h =
      let k = both_true (is_bald p) (nat_le (expr_depth (erase_expr prog p)) most_levels) h in
      let depth : nat_le (expr_depth (printed_expr prog p)) most_levels ≡ true = ap (λ (x : Expr). nat_le (expr_depth x) most_levels) (printed_is_erased prog p k.0) ∙ k.1 in
      both _ _ (held context scope p e m k.0)
      (both _ _ (both _ _ (bald_some prog p k.0) (bald_stands prog p k.0)) (both _ _ (placed_again prog context scope p e m is).0 depth))

  abbrev WithPatterns : PExpr → PExpr × Bool
  WithPatterns p = (p, expr_patterns prog p)

  abbrev WithReadable : PExpr → PExpr × Bool
  WithReadable p = (p, expr_readable prog p)

  all_strings_good : (ps : List PExpr) (t : Ty) (es : List Expr) → EachMeans (λ y. y) (Means context scope) t ps es → all_placed (map place_of es) ≡ true → list_all (λ (e : PExpr × Bool). W.is_string prog e.0) (map WithPatterns ps) ≡ true → list_all (λ (e : PExpr × Bool). string_stands prog e.0) (map WithReadable ps) ≡ true
  all_strings_good [] t es m is h = refl
  all_strings_good (p ∷ ps) t [] m is h = absurd m
  all_strings_good (p ∷ ps) t (e ∷ es) m is h =
      let k = both_true (W.is_string prog p) _ h in
      let j = both_true (expr_placed e) (all_placed (map place_of es)) is in
      both _ _ (string_good p e m.0 j.0 k.0) (all_strings_good ps t es m.2 j.1 k.1)

  some_pairs : (ps : List PExpr) → nat_le 1 (length (map WithPatterns ps)) ≡ true → are_some (map WithReadable ps) ≡ true
  some_pairs [] h = cc
  some_pairs (p ∷ ps) h = refl

  -- the strings of a pattern
  pub strings_good : (ps : List PExpr) (t : Ty) (es : List Expr) → EachMeans (λ y. y) (Means context scope) t ps es → all_placed (map place_of es) ≡ true → are_strings prog (map WithPatterns ps) ≡ true → strings_stand prog (map WithReadable ps) ≡ true
  strings_good ps t es m is h =
      let k = both_true (nat_le 1 (length (map WithPatterns ps))) _ h in
      let j = both_true (nat_le (length (map WithPatterns ps)) most_strings) _ k.1 in
      let few : nat_le (length (map WithReadable ps)) most_strings ≡ true = ap (λ n. nat_le n most_strings) (length-map ps WithReadable ∙ sym (length-map ps WithPatterns)) ∙ j.0 in
      both _ _ (some_pairs ps k.0) (both _ _ few (all_strings_good ps t es m is j.1))

  -- Expressions

  abbrev form_patterned : PEForm → Bool
  form_patterned = para-PEForm Bool Bool Bool (eform_patterns prog) (λ p. p.form.1) (λ f. f.value.1)

  abbrev field_patterned : PField → Bool
  field_patterned = para-PField Bool Bool Bool (eform_patterns prog) (λ p. p.form.1) (λ f. f.value.1)

  abbrev form_whole : PEForm → Bool
  form_whole = para-PEForm Bool Bool Bool (eform_readable prog) (λ p. p.form.1) (λ f. f.value.1)

  abbrev field_whole : PField → Bool
  field_whole = para-PField Bool Bool Bool (eform_readable prog) (λ p. p.form.1) (λ f. f.value.1)

  abbrev pub patterns_of : P.PEForm-F PEForm PExpr PField → P.PEForm-F (PEForm × Bool) (PExpr × Bool) (PField × Bool)
  patterns_of = map-PEForm PEForm PExpr PField (PEForm × Bool) (PExpr × Bool) (PField × Bool) (λ f. (f, form_patterned f)) (λ e. (e, expr_patterns prog e)) (λ f. (f, field_patterned f))

  abbrev pub wholes_of : P.PEForm-F PEForm PExpr PField → P.PEForm-F (PEForm × Bool) (PExpr × Bool) (PField × Bool)
  wholes_of = map-PEForm PEForm PExpr PField (PEForm × Bool) (PExpr × Bool) (PField × Bool) (λ f. (f, form_whole f)) (λ e. (e, expr_readable prog e)) (λ f. (f, field_whole f))

  pub patterns_at : (s : Span) (t : Option Ty) (f : PEForm) (l : P.PEForm-F PEForm PExpr PField) → roll-PEForm l ≡ f → expr_patterns prog (record { span = s; ty = t; form = f }) ≡ eform_patterns prog (patterns_of l)
  patterns_at s t f l is =
      para-roll-PExpr Bool Bool Bool (eform_patterns prog) (λ p. p.form.1) (λ f. f.value.1) (record { span = s; ty = t; form = f })
      ∙ ap form_patterned (sym is)
      ∙ para-roll-PEForm Bool Bool Bool (eform_patterns prog) (λ p. p.form.1) (λ f. f.value.1) l

  pub readable_at : (s : Span) (t : Option Ty) (f : PEForm) (l : P.PEForm-F PEForm PExpr PField) → roll-PEForm l ≡ f → expr_readable prog (record { span = s; ty = t; form = f }) ≡ eform_readable prog (wholes_of l)
  readable_at s t f l is =
      para-roll-PExpr Bool Bool Bool (eform_readable prog) (λ p. p.form.1) (λ f. f.value.1) (record { span = s; ty = t; form = f })
      ∙ ap form_whole (sym is)
      ∙ para-roll-PEForm Bool Bool Bool (eform_readable prog) (λ p. p.form.1) (λ f. f.value.1) l

  abbrev FormGood : PEForm → Type 0
  FormGood f = (t : Option Ty) (e : Expr) → FormMeans context scope f t e → expr_placed e ≡ true → form_patterned f ≡ true → form_whole f ≡ true

  abbrev ExprGood : PExpr → Type 0
  ExprGood p = (e : Expr) → Means context scope p e → expr_placed e ≡ true → expr_patterns prog p ≡ true → expr_readable prog p ≡ true

  abbrev FieldGood : PField → Type 0
  FieldGood q = (d : StructDef) (n : NewField) → FieldMeans context scope q d n → set_placed n ≡ true → field_patterned q ≡ true → field_whole q ≡ true

  abbrev Such : Type 0
  Such = (f : PEForm) × FormGood f

  abbrev Such' : Type 0
  Such' = (e : PExpr) × ExprGood e

  abbrev Such'' : Type 0
  Such'' = (f : PField) × FieldGood f

  abbrev down : P.PEForm-F Such Such' Such'' → P.PEForm-F PEForm PExpr PField
  down = map-PEForm Such Such' Such'' PEForm PExpr PField (λ q. q.0) (λ q. q.0) (λ q. q.0)

  abbrev firsts : List Such' → List PExpr
  firsts qs = map (λ (q : Such'). q.0) qs

  abbrev AllPatterned : List Such' → Type 0
  AllPatterned qs = all_good prog (map WithPatterns (firsts qs)) ≡ true

  abbrev AllReadable : List Such' → Type 0
  AllReadable qs = all_readable prog (map WithReadable (firsts qs)) ≡ true

  opened : (e : Expr) (k : Layer) → e.form ≡ roll-EForm k → expr_placed e ≡ true → (eform_place (places k)).placed ≡ true
  opened e k ek h = ap (λ (p : Place). p.placed) (sym (place_at e k ek)) ∙ h

  bound : (k : ℕ) (p : Place) → binds k p ≡ true → p.placed ≡ true
  bound k p h = (both_true p.placed (nat_le p.level k) h).0

  kept_placed : (t : Ty) (es : List Expr) → all_placed (map place_of es) ≡ true → all_placed (map place_of (kept context scope t es)) ≡ true
  kept_placed t [] h = refl
  kept_placed t (e ∷ es) h =
      let p = both_true (expr_placed e) (all_placed (map place_of es)) h in
      go (keeps (sort context scope e) t) p.0 (kept_placed t es p.1)
    where
      go : (b : Bool) → expr_placed e ≡ true → all_placed (map place_of (kept context scope t es)) ≡ true → all_placed (map place_of (if b then e ∷ kept context scope t es else kept context scope t es)) ≡ true
      go true one rest = both _ _ one rest
      go false one rest = rest

  each_good : (qs : List Such') (t : Ty) (es : List Expr) → EachMeans (λ y. y) (Means context scope) t (firsts qs) es → all_placed (map place_of es) ≡ true → AllPatterned qs → AllReadable qs
  each_good [] t es m is h = refl
  each_good (q ∷ qs) t [] m is h = absurd m
  each_good (q ∷ qs) t (e ∷ es) m is h =
      let k = both_true (expr_placed e) (all_placed (map place_of es)) is in
      let j = both_true (expr_patterns prog q.0) _ h in
      both _ _ (q.1 e m.0 k.0 j.0) (each_good qs t es m.2 k.1 j.1)

  args_good : (ds : List ParamDef) (qs : List Such') (es : List Expr) → ArgumentsMean (λ y. y) (Means context scope) scope ds (firsts qs) es → all_placed (map place_of es) ≡ true → AllPatterned qs → AllReadable qs
  args_good [] [] es m is h = refl
  args_good (d ∷ ds) (q ∷ qs) (e ∷ es) m is h =
      let k = both_true (expr_placed e) (all_placed (map place_of es)) is in
      let j = both_true (expr_patterns prog q.0) _ h in
      both _ _ (q.1 e m.0 k.0 j.0) (args_good ds qs es m.3 k.1 j.1)
  args_good [] (q ∷ qs) es m is h = absurd m
  args_good (d ∷ ds) [] es m is h = refl
  args_good (d ∷ ds) (q ∷ qs) [] m is h = absurd m

  abbrev sets : List Such'' → List PField
  sets qs = map (λ (q : Such''). q.0) qs

  sets_good : (d : StructDef) (qs : List Such'') (ns : List NewField) → FieldsMean (FieldMeans context scope) d (sets qs) ns → are_yes (map set_placed ns) ≡ true → list_all (λ (f : PField × Bool). f.1) (map (λ f. (f, field_patterned f)) (sets qs)) ≡ true → list_all (λ (f : PField × Bool). f.1) (map (λ f. (f, field_whole f)) (sets qs)) ≡ true
  sets_good d [] ns m is h = refl
  sets_good d (q ∷ qs) [] m is h = absurd m
  sets_good d (q ∷ qs) (n ∷ ns) m is h =
      let k = both_true (set_placed n) (are_yes (map set_placed ns)) is in
      let j = both_true (field_patterned q.0) _ h in
      both _ _ (q.1 d n m.0 k.0 j.0) (sets_good d qs ns m.1 k.1 j.1)

  layer : (y : P.PEForm-F Such Such' Such'') (t : Option Ty) (e : Expr) → rule context scope (down y) t e → expr_placed e ≡ true → eform_patterns prog (patterns_of (down y)) ≡ true → eform_readable prog (wholes_of (down y)) ≡ true
  layer (P.Number n) t e h is b = refl
  layer P.True t e h is b = refl
  layer P.False t e h is b = refl
  layer P.Null t e h is b = refl
  layer (P.Var slot x) t e h is b = refl
  layer (P.Const c) t e h is b = refl
  layer (P.Hole n) t e h is b = refl
  layer (P.Pattern qs) t e h is b =
      let k = both_true (are_strings prog (map WithPatterns (firsts qs))) _ b in
      strings_good (firsts qs) h.3 (kept context scope h.3 h.1) h.6 (kept_placed h.3 h.1 (opened e (E.Pattern h.0 h.1) (h.2 ∙ sym (eform.rolls-Pattern h.0 h.1)) is)) k.0
  layer (P.Paren q) t e h is b = q.1 h.0 h.2 (opened e (E.Paren h.0) (h.1 ∙ sym (eform.rolls-Paren h.0)) is) b
  layer (P.Call g qs) t e h is b = args_good (h.3).params qs h.1 h.5 (opened e (E.Call h.0 h.1) (h.2 ∙ sym (eform.rolls-Call h.0 h.1)) is) b
  layer (P.New k qs) t e h is b = sets_good h.3 qs h.1 h.5 (opened e (E.New h.0 h.1) (h.2 ∙ sym (eform.rolls-New h.0 h.1)) is) b
  layer (P.Braces qs) t e h is b = both _ _ (some_of context scope WithReadable (firsts qs) h.2) (each_good qs h.3 h.0 h.4 (opened e (E.Braces h.0) (h.1 ∙ sym (eform.rolls-Braces h.0)) is) b)
  layer (P.Member q k i) t e h is b = q.1 h.0 h.3 (bound 1 (place_of h.0) (opened e (E.Member h.0 h.1) (h.2 ∙ sym (eform.rolls-Member h.0 h.1)) is)) b
  layer (P.Index q j) t e h is b =
      let a = both_true (binds 1 (place_of h.0)) (expr_placed h.1) (opened e (E.Index h.0 h.1) (h.2 ∙ sym (eform.rolls-Index h.0 h.1)) is) in
      let k = both_true (expr_patterns prog q.0) (expr_patterns prog j.0) b in
      both _ _ (q.1 h.0 h.3 (bound 1 (place_of h.0) a.0) k.0) (j.1 h.1 h.4 a.1 k.1)
  layer (P.Slice q j m) t e h is b =
      let a = both_true (binds 1 (place_of h.0) && expr_placed h.1) (expr_placed h.2) (opened e (E.Slice h.0 h.1 h.2) (h.3 ∙ sym (eform.rolls-Slice h.0 h.1 h.2)) is) in
      let c = both_true (binds 1 (place_of h.0)) (expr_placed h.1) a.0 in
      let k = both_true (expr_patterns prog q.0) (expr_patterns prog j.0) b in
      both _ _ (q.1 h.0 h.4 (bound 1 (place_of h.0) c.0) k.0) (j.1 h.1 h.5 c.1 k.1)
  layer (P.Unary o q) t e h is b = q.1 h.1 h.4 (bound 2 (place_of h.1) (opened e (E.Unary h.0 h.1) (h.2 ∙ sym (eform.rolls-Unary h.0 h.1)) is)) b
  layer (P.Binary o q j) t e h is b =
      let n = level_of h.0 in
      let a = both_true (nat_le 3 n && binds n (place_of h.1)) (binds (n - 1) (place_of h.2)) (opened e (E.Binary h.0 h.1 h.2) (h.3 ∙ sym (eform.rolls-Binary h.0 h.1 h.2)) is) in
      let c = both_true (nat_le 3 n) (binds n (place_of h.1)) a.0 in
      let k = both_true (expr_patterns prog q.0) (expr_patterns prog j.0) b in
      both _ _ (q.1 h.1 h.5 (bound n (place_of h.1) c.1) k.0) (j.1 h.2 h.6 (bound (n - 1) (place_of h.2) a.1) k.1)
  layer (P.Cond z q j) t e h is b =
      let a = both_true (binds 12 (place_of h.0) && expr_placed h.1) (binds 13 (place_of h.2)) (opened e (E.Cond h.0 h.1 h.2) (h.3 ∙ sym (eform.rolls-Cond h.0 h.1 h.2)) is) in
      let c = both_true (binds 12 (place_of h.0)) (expr_placed h.1) a.0 in
      let k = both_true (expr_patterns prog z.0) (expr_patterns prog q.0 && expr_patterns prog j.0) b in
      let i = both_true (expr_patterns prog q.0) (expr_patterns prog j.0) k.1 in
      both _ _ (z.1 h.0 h.4 (bound 12 (place_of h.0) c.0) k.0) (both _ _ (q.1 h.1 h.5 c.1 i.0) (j.1 h.2 h.6 (bound 13 (place_of h.2) a.1) i.1))
  layer (P.ToInt q) t e h is b = q.1 e h.0 is b
  layer (P.Pad q) t e h is b = q.1 e h.0 is b

  in_expr : (s : Span) (t : Option Ty) (f : PEForm) → FormGood f → ExprGood (record { span = s; ty = t; form = f })
  in_expr s t f h e m is b =
      para-roll-PExpr Bool Bool Bool (eform_readable prog) (λ p. p.form.1) (λ f. f.value.1) (record { span = s; ty = t; form = f })
      ∙ h t e (means_parts context scope (record { span = s; ty = t; form = f }) e m).1 is (sym (para-roll-PExpr Bool Bool Bool (eform_patterns prog) (λ p. p.form.1) (λ f. f.value.1) (record { span = s; ty = t; form = f })) ∙ b)

  in_field : (k : ℕ) (p : PExpr) → ExprGood p → FieldGood (record { field = k; value = p })
  in_field k p h d n m is b =
      let r : FieldMeans context scope (record { field = k; value = p }) ≡ (λ d x. (t : Ty) × IsField d k x.name t × Means context scope p x.value × (p.ty ≡ Some t)) = rec-roll-PField EFormRule ExprRule FieldRule (eform_means context scope) (expr_means context scope) (field_means context scope) (λ X Y Z u v w f k n x. refl) (record { field = k; value = p }) in
      let g = subst (λ (M : FieldRule). M d n) r m in
      para-roll-PField Bool Bool Bool (eform_readable prog) (λ p. p.form.1) (λ f. f.value.1) (record { field = k; value = p })
      ∙ h n.value g.2 (sym (set_at n) ∙ is) (sym (para-roll-PField Bool Bool Bool (eform_patterns prog) (λ p. p.form.1) (λ f. f.value.1) (record { field = k; value = p })) ∙ b)

  form_from : (y : P.PEForm-F Such Such' Such'') → FormGood (roll-PEForm (down y))
  form_from y t e m is b =
      para-roll-PEForm Bool Bool Bool (eform_readable prog) (λ p. p.form.1) (λ f. f.value.1) (down y)
      ∙ layer y t e (subst (λ (M : EFormRule). M t e) (form_means_are context scope (down y)) m) is (sym (para-roll-PEForm Bool Bool Bool (eform_patterns prog) (λ p. p.form.1) (λ f. f.value.1) (down y)) ∙ b)

  pub expr_good : (p : PExpr) → ExprGood p
  expr_good = ind-PExpr FormGood ExprGood FieldGood
      (λ x y is. subst (λ z. FormGood (roll-PEForm z)) is (form_from y))
      (λ x y is. subst (λ z. ExprGood (roll-PExpr z)) is (in_expr y.span y.ty y.form.0 y.form.1))
      (λ x y is. subst (λ z. FieldGood (roll-PField z)) is (in_field y.field y.value.0 y.value.1))
