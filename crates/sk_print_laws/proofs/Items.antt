-- The text of a program tells the kinds that spell the tree that is printed.
use Rattle.std.proofs.Common.{◌≡◌, ℕ, Bool, true, false, ◌&&◌, List, [], ◌∷◌, ◌++◌, length, map, Option, Some, None, refl, sym, ap, ◌∙◌, subst, append_assoc, append-nil, codes}
use Rattle.std.specs.Prelude.{IsTrue, nat_le}
use Rattle.std.specs.List.{list_all, flat_map, join_by}
use Rattle.std.proofs.lemmas.Bool.{and_parts}
use Rattle.sk_tree.specs.declared.token.Kind.{Kind}
use Rattle.sk_tree.specs.declared.token.Token.{Token}
use Rattle.sk_tree.specs.declared.token.Mark.TheVariants as mark
use Rattle.sk_tree.specs.declared.token.Key.TheVariants as key
use Rattle.sk_tree.specs.declared.item.Field.{Field}
use Rattle.sk_tree.specs.declared.item.Item.{Item}
use Rattle.sk_tree.specs.Spelling.{key_of}
use Rattle.sk_tree.specs.Shapes.{is_letter, is_digit}
use Rattle.sk_tree.specs.Tokens.{AreTokens, tokens_of}
use Rattle.sk_tree.specs.Spell.{Kinds, ◌▹◌, each, between, word, sign, keyword, perhaps, spell_field, spell_ref, spell_param, spell_kind, spell_result, spell_item, spell}
use Rattle.sk_prog.specs.declared.ty.Ty.{Ty}
use Rattle.sk_prog.specs.declared.ids.FunId.{FunId}
use Rattle.sk_prog.specs.declared.stmt.PStmt.{PStmt}
use Rattle.sk_prog.specs.declared.prog.FunKind.{FunKind}
use Rattle.sk_prog.specs.declared.prog.FunKind.TheVariants as funkind
use Rattle.sk_prog.specs.declared.prog.FieldDef.{FieldDef}
use Rattle.sk_prog.specs.declared.prog.StructDef.{StructDef}
use Rattle.sk_prog.specs.declared.prog.ConstDef.{ConstDef}
use Rattle.sk_prog.specs.declared.prog.ParamDef.{ParamDef}
use Rattle.sk_prog.specs.declared.prog.Fun.{Fun}
use Rattle.sk_prog.specs.declared.prog.Prog.{Prog}
use Rattle.sk_prog.specs.Fits.{is_name, ty_fits, any_ty_fits, expr_fits, stmt_fits, field_fits, struct_fits, const_fits, param_fits, implements_fits, fun_fits, prog_fits}
use Rattle.sk_types_rules.specs.Erase.{erase_ty, erase_any_ty, erase_kind, erase_implements, erase_struct, erase_param}
use Rattle.sk_print.specs.Layout.{expr_layout, ty_layout, line, stmt_layout, struct_field_layout, struct_layout, const_layout, ref_layout, param_layout, kind_layout, result_layout, implements_layout, fun_layout, layout}
use Rattle.sk_print.proofs.Lexed.{Lexes, lex_end}
use Rattle.sk_print_laws.specs.Printed.{stmt_shown, printed_const, printed_fun, printed}
use Rattle.sk_print_laws.specs.Numbers.{ty_small, any_ty_small, stmt_small, struct_small, const_small, fun_small, numbers_small}
use Rattle.sk_print_laws.proofs.Told.{Free, Told, nothing, told, same, then, then_told, told_then, told_told, told_same, space, name, key_told, key_space, open_paren, close_paren, semicolon, assign_space, spaced, four, AllTold, between_told, join_map, comma_space}
use Rattle.sk_print_laws.proofs.Names.{Fits, fits_parts, fun_named, named_told}
use Rattle.sk_print_laws.proofs.Lines.{ty_told, line_told, head_told, end_told}
use Rattle.sk_print_laws.proofs.Exprs.{expr_told}
use Rattle.sk_print_laws.proofs.Stmts.{kinds_of, kinds_append, stmt_told}

each_append : (xs ys : List Item) → each (map spell_item (xs ++ ys)) ≡ each (map spell_item xs) ++ each (map spell_item ys)
each_append [] ys = refl
each_append (x ∷ xs) ys = ap (λ z. spell_item x ++ z) (each_append xs ys) ∙ sym (append_assoc (spell_item x) (each (map spell_item xs)) (each (map spell_item ys)))

head_bytes : (a b d f h : List ℕ) → a ++ b ++ codes " " ++ d ++ codes "(" ++ f ++ codes ")" ++ h ++ codes " {" ≡ (a ++ (b ++ (codes " " ++ (d ++ (codes "(" ++ (f ++ (codes ")" ++ (h ++ codes " ")))))))) ++ codes "{"
head_bytes a b d f h = simp append_assoc

fun_kinds : (k r w p i b : Kinds) → ((k ++ (r ++ (w ++ (sign mark.OpenParen ++ (p ++ (sign mark.CloseParen ++ (i ++ []))))))) ++ sign mark.OpenBrace) ++ b ++ sign mark.CloseBrace ≡ k ++ (r ++ (w ++ (sign mark.OpenParen ++ (p ++ (sign mark.CloseParen ++ (i ++ (sign mark.OpenBrace ++ (b ++ sign mark.CloseBrace))))))))
fun_kinds k r w p i b = simp (append_assoc, append-nil)

kind_told : (prog : Prog) (k : FunKind) → Free (kind_layout k) (spell_kind (erase_kind prog k))
unfolding is_letter is_digit key_of
kind_told prog funkind.Plain = nothing
kind_told prog funkind.Harness = key_space key.Harness (codes "harness") refl refl
kind_told prog funkind.Generator = key_space key.Generator (codes "generator") refl refl

ref_told : (b : Bool) → Free (ref_layout b) (spell_ref b)
unfolding is_letter is_digit key_of
ref_told false = nothing
ref_told true = key_space key.Ref (codes "ref") refl refl

module _ (prog : Prog) (fits : Fits prog) where
  -- Structs

  abbrev as_field : FieldDef → Field
  as_field f = record { ty = erase_ty prog f.ty; name = f.name }

  field_told : (f : FieldDef) → field_fits prog f ≡ true → ty_small f.ty ≡ true → Free (struct_field_layout prog f) (spell_field (as_field f))
  unfolding is_letter is_digit
  field_told f fit small =
      let h = and_parts (is_name f.name) (ty_fits prog f.ty) fit in
      line_told 1 (same (four (ty_layout prog f.ty) (codes " ") f.name (codes ";")) refl
      (told_then (ty_told prog fits f.ty h.1 small) (spaced (told_then (name f.name h.0) semicolon refl)) refl))

  fields_told : (fs : List FieldDef) → list_all (field_fits prog) fs ≡ true → list_all (λ (f : FieldDef). ty_small f.ty) fs ≡ true → Free (flat_map (struct_field_layout prog) fs) (each (map spell_field (map as_field fs)))
  fields_told [] fit small = nothing
  fields_told (f ∷ fs) fit small =
      let h = and_parts (field_fits prog f) (list_all (field_fits prog) fs) fit in
      let m = and_parts (ty_small f.ty) (list_all (λ (f : FieldDef). ty_small f.ty) fs) small in
      then (field_told f h.0 m.0) (fields_told fs h.1 m.1)

  struct_told : (d : StructDef) → struct_fits prog d ≡ true → struct_small d ≡ true → Free (struct_layout prog d) (spell_item (erase_struct prog d))
  unfolding is_letter is_digit key_of
  struct_told d fit small =
      let h = and_parts (is_name d.name) (list_all (field_fits prog) d.fields) fit in
      let head : Free (line 0 (codes "struct " ++ d.name ++ codes " {")) (keyword key.Struct ++ word d.name ++ sign mark.OpenBrace) =
      same (ap (λ z. line 0 (codes "struct " ++ z)) (sym (append_assoc d.name (codes " ") (codes "{")))) refl (head_told 0 (then (key_space key.Struct (codes "struct") refl refl) (told_then {ls = []} (name d.name h.0) space refl))) in
      then (then head (fields_told d.fields h.1 small)) (end_told 0)

  -- Constants

  const_told : (c : ConstDef) → const_fits prog c ≡ true → const_small c ≡ true → Free (const_layout prog c) (spell_item (printed_const prog c))
  unfolding is_letter is_digit key_of
  const_told c fit small =
      let h = and_parts (is_name c.name) (expr_fits prog 0 c.value) fit in
      let value = (expr_told prog fits 0 c.value h.1 small).tells in
      line_told 0 (same (ap (λ z. codes "int " ++ z) (four c.name (codes " = ") (expr_layout prog c.value) (codes ";"))) refl
      (then (key_space key.Int (codes "int") refl refl) (told_then (name c.name h.0) (then (spaced assign_space) (told_then value semicolon refl)) refl)))

  -- Functions

  param_told : (d : ParamDef) → param_fits prog d ≡ true → ty_small d.ty ≡ true → Told (param_layout prog d) (spell_param (erase_param prog d))
  unfolding is_letter is_digit
  param_told d fit small =
      let h = and_parts (is_name d.name) (ty_fits prog d.ty) fit in
      told_same (four (ref_layout d.by_ref) (ty_layout prog d.ty) (codes " ") d.name) refl
      (then_told (ref_told d.by_ref) (told_told (ty_told prog fits d.ty h.1 small) (then_told space (name d.name h.0)) refl))

  params_told : (ds : List ParamDef) → list_all (param_fits prog) ds ≡ true → list_all (λ (d : ParamDef). ty_small d.ty) ds ≡ true → AllTold (map (param_layout prog) ds) (map spell_param (map (erase_param prog) ds))
  params_told [] fit small = tt
  params_told (d ∷ ds) fit small =
      let h = and_parts (param_fits prog d) (list_all (param_fits prog) ds) fit in
      let m = and_parts (ty_small d.ty) (list_all (λ (d : ParamDef). ty_small d.ty) ds) small in
      (param_told d h.0 m.0, params_told ds h.1 m.1)

  result_told : (t : Option Ty) → any_ty_fits prog t ≡ true → any_ty_small t ≡ true → Told (result_layout prog t) (spell_result (erase_any_ty prog t))
  unfolding is_letter is_digit key_of
  result_told None fit small = key_told key.Void (codes "void") refl refl
  result_told (Some t) fit small = ty_told prog fits t fit small

  implements_told : (g : Option FunId) → implements_fits prog g ≡ true → Told (implements_layout prog g) (perhaps (λ g. keyword key.Implements ▹ word g) (erase_implements prog g))
  unfolding is_letter is_digit key_of
  implements_told None fit = told nothing
  implements_told (Some g) fit = then_told (spaced (key_space key.Implements (codes "implements") refl refl)) (named_told (fun_named prog fits g fit))

  body_told : (slots : ℕ) (ss : List PStmt) → list_all (stmt_fits prog slots) ss ≡ true → list_all stmt_small ss ≡ true → Free (flat_map (λ s. stmt_layout prog s 1) ss) (kinds_of (flat_map (λ s. stmt_shown prog s false) ss))
  body_told slots [] fit small = nothing
  body_told slots (s ∷ ss) fit small =
      let h = and_parts (stmt_fits prog slots s) (list_all (stmt_fits prog slots) ss) fit in
      let m = and_parts (stmt_small s) (list_all stmt_small ss) small in
      same refl (kinds_append (stmt_shown prog s false) (flat_map (λ s. stmt_shown prog s false) ss)) (then (stmt_told prog fits slots s h.0 m.0 false 1) (body_told slots ss h.1 m.1))

  -- the parts of what is known of a function
  record IsFun (f : Fun) : Type 0 where
    named : is_name f.name ≡ true
    result : any_ty_fits prog f.result ≡ true
    params : list_all (param_fits prog) f.params ≡ true
    implements : implements_fits prog f.implements ≡ true
    body : list_all (stmt_fits prog f.slots) f.body ≡ true

  fun_parts : (f : Fun) → fun_fits prog f ≡ true → IsFun f
  fun_parts f h =
      let a = and_parts (is_name f.name) (any_ty_fits prog f.result && (list_all (param_fits prog) f.params && (nat_le (length f.params) f.slots && (implements_fits prog f.implements && list_all (stmt_fits prog f.slots) f.body)))) h in
      let b = and_parts (any_ty_fits prog f.result) (list_all (param_fits prog) f.params && (nat_le (length f.params) f.slots && (implements_fits prog f.implements && list_all (stmt_fits prog f.slots) f.body))) a.1 in
      let c = and_parts (list_all (param_fits prog) f.params) (nat_le (length f.params) f.slots && (implements_fits prog f.implements && list_all (stmt_fits prog f.slots) f.body)) b.1 in
      let d = and_parts (nat_le (length f.params) f.slots) (implements_fits prog f.implements && list_all (stmt_fits prog f.slots) f.body) c.1 in
      let e = and_parts (implements_fits prog f.implements) (list_all (stmt_fits prog f.slots) f.body) d.1 in
      record { named = a.0; result = b.0; params = c.0; implements = e.0; body = e.1 }

  fun_told : (f : Fun) → fun_fits prog f ≡ true → fun_small f ≡ true → Free (fun_layout prog f) (spell_item (printed_fun prog f))
  unfolding is_letter is_digit
  fun_told f fit small =
      let is = fun_parts f fit in
      let m = and_parts (any_ty_small f.result) (list_all (λ (d : ParamDef). ty_small d.ty) f.params && list_all stmt_small f.body) small in
      let n = and_parts (list_all (λ (d : ParamDef). ty_small d.ty) f.params) (list_all stmt_small f.body) m.1 in
      let params_kinds = between (sign mark.Comma) (map spell_param (map (erase_param prog) f.params)) in
      let params : Told (join_by (param_layout prog) (codes ", ") f.params) params_kinds =
      told_same (join_map (param_layout prog) (codes ", ") f.params) refl (between_told comma_space refl (map (param_layout prog) f.params) (map spell_param (map (erase_param prog) f.params)) (params_told f.params is.params n.0)) in
      let implemented = told_then {ls = []} (implements_told f.implements is.implements) space refl in
      let behind_name = then open_paren (told_then params (then close_paren implemented) refl) in
      let named = told_then (name f.name is.named) behind_name refl in
      let words = then (kind_told prog f.kind) (told_then (result_told f.result is.result m.0) (spaced named) refl) in
      let head = same (ap (line 0) (head_bytes (kind_layout f.kind) (result_layout prog f.result) f.name (join_by (param_layout prog) (codes ", ") f.params) (implements_layout prog f.implements))) refl (head_told 0 words) in
      same refl (sym (fun_kinds (spell_kind (erase_kind prog f.kind)) (spell_result (erase_any_ty prog f.result)) (word f.name) params_kinds (perhaps (λ g. keyword key.Implements ▹ word g) (erase_implements prog f.implements)) (kinds_of (flat_map (λ s. stmt_shown prog s false) f.body))))
      (then (then head (body_told f.slots f.body is.body n.1)) (end_told 0))

  -- Programs

  structs_told : (ds : List StructDef) → list_all (struct_fits prog) ds ≡ true → list_all struct_small ds ≡ true → Free (flat_map (struct_layout prog) ds) (each (map spell_item (map (erase_struct prog) ds)))
  structs_told [] fit small = nothing
  structs_told (d ∷ ds) fit small =
      let h = and_parts (struct_fits prog d) (list_all (struct_fits prog) ds) fit in
      let m = and_parts (struct_small d) (list_all struct_small ds) small in
      then (struct_told d h.0 m.0) (structs_told ds h.1 m.1)

  consts_told : (cs : List ConstDef) → list_all (const_fits prog) cs ≡ true → list_all const_small cs ≡ true → Free (flat_map (const_layout prog) cs) (each (map spell_item (map (printed_const prog) cs)))
  consts_told [] fit small = nothing
  consts_told (c ∷ cs) fit small =
      let h = and_parts (const_fits prog c) (list_all (const_fits prog) cs) fit in
      let m = and_parts (const_small c) (list_all const_small cs) small in
      then (const_told c h.0 m.0) (consts_told cs h.1 m.1)

  funs_told : (fs : List Fun) → list_all (fun_fits prog) fs ≡ true → list_all fun_small fs ≡ true → Free (flat_map (fun_layout prog) fs) (each (map spell_item (map (printed_fun prog) fs)))
  funs_told [] fit small = nothing
  funs_told (f ∷ fs) fit small =
      let h = and_parts (fun_fits prog f) (list_all (fun_fits prog) fs) fit in
      let m = and_parts (fun_small f) (list_all fun_small fs) small in
      then (fun_told f h.0 m.0) (funs_told fs h.1 m.1)

items_kinds : (prog : Prog) → spell (printed prog) ≡ each (map spell_item (map (erase_struct prog) prog.structs)) ++ each (map spell_item (map (printed_const prog) prog.consts)) ++ each (map spell_item (map (printed_fun prog) prog.funs))
items_kinds prog =
    let a = map (erase_struct prog) prog.structs in
    let b = map (printed_const prog) prog.consts in
    let c = map (printed_fun prog) prog.funs in
    each_append a (b ++ c) ∙ ap (λ z. each (map spell_item a) ++ z) (each_append b c) ∙ sym (append_assoc (each (map spell_item a)) (each (map spell_item b)) (each (map spell_item c)))

prog_told : (prog : Prog) → IsTrue (prog_fits prog) → IsTrue (numbers_small prog) → Free (layout prog) (spell (printed prog))
unfolding numbers_small
prog_told prog fit small =
    let fits = fits_parts prog fit in
    let m = and_parts (list_all struct_small prog.structs) (list_all const_small prog.consts && list_all fun_small prog.funs) small in
    let n = and_parts (list_all const_small prog.consts) (list_all fun_small prog.funs) m.1 in
    same refl (items_kinds prog) (then (then (structs_told prog fits prog.structs fits.structs m.0) (consts_told prog fits prog.consts fits.consts n.0)) (funs_told prog fits prog.funs fits.funs n.1))

abbrev kinds_are : List ℕ → List Kind → Type 0
kinds_are text ks = (tokens : List Token) × AreTokens text tokens × (map (λ (t : Token). t.kind) tokens ≡ ks)

lexed : (text : List ℕ) (ks : List Kind) → Lexes text ks → kinds_are text ks
lexed text ks l = (tokens_of 0 l.pieces, record { pieces = l.pieces; whole = l.whole; same = refl }, l.told 0)

pub text_tells : (prog : Prog) → IsTrue (prog_fits prog) → IsTrue (numbers_small prog) → (tokens : List Token) × AreTokens (layout prog) tokens × (map (λ (t : Token). t.kind) tokens ≡ spell (printed prog))
text_tells prog fit small =
    let l = (prog_told prog fit small).told [] [] lex_end in
    lexed (layout prog) (spell (printed prog)) (subst (λ z. Lexes z (spell (printed prog))) (append-nil (layout prog)) (subst (λ z. Lexes (layout prog ++ []) z) (append-nil (spell (printed prog))) l))
