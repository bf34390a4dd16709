-- Tokens of the kinds that spell the printed tree are found to spell a tree that differs in spans alone.
use Rattle.std.proofs.Common.{◌≡◌, Bool, true, false, List, [], ◌∷◌, ◌++◌, map, Option, Some, None, refl, ap}
use Rattle.std.specs.Prelude.{IsTrue}
use Rattle.std.specs.List.{list_all, flat_map}
use Rattle.std.proofs.lemmas.Bool.{and_parts}
use Rattle.sk_tree.specs.declared.token.Token.{Token}
use Rattle.sk_tree.specs.declared.token.Kind.TheVariants as kind
use Rattle.sk_tree.specs.declared.token.Mark.TheVariants as mark
use Rattle.sk_tree.specs.declared.token.Key.TheVariants as key
use Rattle.sk_tree.specs.declared.item.TyTree.{TyTree}
use Rattle.sk_tree.specs.declared.item.Field.{Field}
use Rattle.sk_tree.specs.declared.item.Param.{Param}
use Rattle.sk_tree.specs.declared.item.FunKind.{FunKind}
use Rattle.sk_tree.specs.declared.item.FunKind.TheVariants as kinds_of_funs
use Rattle.sk_tree.specs.declared.item.Item.{Item}
use Rattle.sk_tree.specs.declared.item.Item.TheVariants as item
use Rattle.sk_tree.specs.declared.item.Tree.{Tree}
use Rattle.sk_tree.specs.Phrase.{One, Keyword, ◌▸◌, Perhaps}
use Rattle.sk_tree.specs.Spelt.{SpeltField, SpeltRef, SpeltParam, SpeltKind, SpeltResult, SpeltItem, SpeltTree}
use Rattle.sk_tree.specs.Spell.{◌▹◌, word, keyword, perhaps, spell_field, spell_ref, spell_param, spell_kind, spell_result, spell_item, spell}
use Rattle.sk_prog.specs.declared.ty.Ty.{Ty}
use Rattle.sk_prog.specs.declared.prog.FieldDef.{FieldDef}
use Rattle.sk_prog.specs.declared.prog.StructDef.{StructDef}
use Rattle.sk_prog.specs.declared.prog.ConstDef.{ConstDef}
use Rattle.sk_prog.specs.declared.prog.ParamDef.{ParamDef}
use Rattle.sk_prog.specs.declared.prog.Fun.{Fun}
use Rattle.sk_prog.specs.declared.prog.Prog.{Prog}
use Rattle.sk_types_rules.specs.Erase.{erase_ty, erase_any_ty, erase_kind, erase_implements, erase_struct, erase_param}
use Rattle.sk_print_laws.specs.Printed.{stmt_shown, printed_const, printed_fun, printed}
use Rattle.sk_print_laws.specs.SpanlessTree.{any_spanless_ty, spanless_field, spanless_param, spanless_item, spanless_tree}
use Rattle.sk_print_laws.specs.Readable.{expr_readable, fun_readable, prog_readable}
use Rattle.sk_print_laws.proofs.Finds.{Finds, finds_then, finds_as, finds_nothing, finds_one, finds_sign, finds_key, All, finds_each, finds_between, match_map}
use Rattle.sk_print_laws.proofs.ExprsRead.{expr_said}
use Rattle.sk_print_laws.proofs.StmtsRead.{ty_said, body_said}

abbrev AlikeItem : Item → Item → Type 0
AlikeItem i0 i = spanless_item i ≡ spanless_item i0

abbrev ItemSaid : Item → Type 0
ItemSaid i0 = Finds Item SpeltItem (spell_item i0) (AlikeItem i0)

abbrev AllItems : List Item → Type 0
AllItems is = All SpeltItem spell_item AlikeItem is

both_said : (is ks : List Item) → AllItems is → AllItems ks → AllItems (is ++ ks)
both_said [] ks f g = g
both_said (i ∷ is) ks f g = (f.0, both_said is ks f.1 g)

module _ (prog : Prog) where
  -- Structs

  abbrev as_field : FieldDef → Field
  as_field f = record { ty = erase_ty prog f.ty; name = f.name }

  abbrev AlikeField : Field → Field → Type 0
  AlikeField d0 d = spanless_field d ≡ spanless_field d0

  field_said : (f : FieldDef) → Finds Field SpeltField (spell_field (as_field f)) (AlikeField (as_field f))
  field_said f =
      finds_as (finds_then (ty_said prog f.ty) (finds_then (finds_one (kind.Word f.name)) (finds_sign mark.Semicolon)))
      (λ r. record { ty = r.0; name = f.name }) (λ r ts c h. h) (λ r c i. record { ty = c.0 i; name = f.name }) refl

  fields_said : (fs : List FieldDef) → All SpeltField spell_field AlikeField (map as_field fs)
  fields_said [] = tt
  fields_said (f ∷ fs) = (field_said f, fields_said fs)

  struct_said : (d : StructDef) → ItemSaid (erase_struct prog d)
  struct_said d =
      finds_as (finds_then (finds_key key.Struct) (finds_then (finds_one (kind.Word d.name)) (finds_then (finds_sign mark.OpenBrace) (finds_then (finds_each SpeltField spell_field AlikeField (map as_field d.fields) (fields_said d.fields)) (finds_sign mark.CloseBrace)))))
      (λ r. item.Struct d.name r.1.1.1.0) (λ r ts c h. h)
      (λ r c i. item.Struct d.name (match_map spanless_field spanless_field (map as_field d.fields) r.1.1.1.0 c.1.1.1.0 i))
      refl

  -- Constants

  const_said : (c : ConstDef) → expr_readable prog c.value ≡ true → ItemSaid (printed_const prog c)
  const_said c fine =
      finds_as (finds_then (finds_key key.Int) (finds_then (finds_one (kind.Word c.name)) (finds_then (finds_sign mark.Assign) (finds_then (expr_said prog c.value fine) (finds_sign mark.Semicolon)))))
      (λ r. item.Const c.name r.1.1.1.0) (λ r ts e h. h) (λ r e i. item.Const c.name (e.1.1.1.0 i)) refl

  -- Functions

  kind_said : (k : FunKind) → Finds (Unit {0}) (λ u. SpeltKind k) (spell_kind k) (λ u. Unit {0})
  kind_said kinds_of_funs.Plain = finds_nothing
  kind_said kinds_of_funs.Harness = finds_key key.Harness
  kind_said kinds_of_funs.Generator = finds_key key.Generator

  result_said : (t : Option Ty) → Finds (Option TyTree) SpeltResult (spell_result (erase_any_ty prog t)) (λ y. any_spanless_ty y ≡ any_spanless_ty (erase_any_ty prog t))
  result_said None = finds_as (finds_key key.Void) (λ u. None) (λ u ts c h. h) (λ u c. refl) refl
  result_said (Some t) = finds_as (ty_said prog t) (λ y. Some y) (λ y ts c h. h) (λ y c. ap Some c) refl

  ref_said : (b : Bool) → Finds (Unit {0}) (λ u. SpeltRef b) (spell_ref b) (λ u. Unit {0})
  ref_said false = finds_nothing
  ref_said true = finds_key key.Ref

  abbrev AlikeParam : Param → Param → Type 0
  AlikeParam p0 p = spanless_param p ≡ spanless_param p0

  param_said : (d : ParamDef) → Finds Param SpeltParam (spell_param (erase_param prog d)) (AlikeParam (erase_param prog d))
  param_said d =
      finds_as (finds_then (ref_said d.by_ref) (finds_then (ty_said prog d.ty) (finds_one (kind.Word d.name))))
      (λ r. record { by_ref = d.by_ref; ty = r.1.0; name = d.name }) (λ r ts c h. h) (λ r c i. record { by_ref = d.by_ref; ty = c.1.0 i; name = d.name }) refl

  params_said : (ds : List ParamDef) → All SpeltParam spell_param AlikeParam (map (erase_param prog) ds)
  params_said [] = tt
  params_said (d ∷ ds) = (param_said d, params_said ds)

  implements_said : (g : Option (List _)) → Finds (Unit {0}) (λ u. Perhaps (λ x. Keyword key.Implements ▸ One (kind.Word x)) g) (perhaps (λ x. keyword key.Implements ▹ word x) g) (λ u. Unit {0})
  implements_said None = finds_nothing
  implements_said (Some x) = finds_as (finds_then (finds_key key.Implements) (finds_one (kind.Word x))) (λ r. tt) (λ r ts c h. h) (λ r c. tt) refl

  fun_said : (f : Fun) → fun_readable prog f ≡ true → ItemSaid (printed_fun prog f)
  fun_said f fine =
      let k = erase_kind prog f.kind in
      let g = erase_implements prog f.implements in
      let ps = map (erase_param prog) f.params in
      let es = flat_map (λ p. stmt_shown prog p false) f.body in
      finds_as
      (finds_then (kind_said k) (finds_then (result_said f.result) (finds_then (finds_one (kind.Word f.name)) (finds_then (finds_sign mark.OpenParen) (finds_then (finds_between SpeltParam spell_param AlikeParam mark.Comma ps (params_said f.params)) (finds_then (finds_sign mark.CloseParen) (finds_then (implements_said g) (finds_then (finds_sign mark.OpenBrace) (finds_then (body_said prog f.body fine) (finds_sign mark.CloseBrace))))))))))
      (λ r. item.Fun (record { kind = k; result = r.1.0; name = f.name; params = r.1.1.1.1.0; implements = g; body = r.1.1.1.1.1.1.1.1.0 }))
      (λ r ts c h. h)
      (λ r c i. item.Fun (record { kind = k; result = c.1.0 i; name = f.name; params = match_map spanless_param spanless_param ps r.1.1.1.1.0 c.1.1.1.1.0 i; implements = g; body = c.1.1.1.1.1.1.1.1.0 i }))
      refl

  -- Programs

  structs_said : (ds : List StructDef) → AllItems (map (erase_struct prog) ds)
  structs_said [] = tt
  structs_said (d ∷ ds) = (struct_said d, structs_said ds)

  consts_said : (cs : List ConstDef) → list_all (λ (c : ConstDef). expr_readable prog c.value) cs ≡ true → AllItems (map (printed_const prog) cs)
  consts_said [] h = tt
  consts_said (c ∷ cs) h =
      let p = and_parts (expr_readable prog c.value) (list_all (λ (c : ConstDef). expr_readable prog c.value) cs) h in
      (const_said c p.0, consts_said cs p.1)

  funs_said : (fs : List Fun) → list_all (fun_readable prog) fs ≡ true → AllItems (map (printed_fun prog) fs)
  funs_said [] h = tt
  funs_said (f ∷ fs) h =
      let p = and_parts (fun_readable prog f) (list_all (fun_readable prog) fs) h in
      (fun_said f p.0, funs_said fs p.1)

  tree_said : prog_readable prog ≡ true → Finds Tree SpeltTree (spell (printed prog)) (λ tree. spanless_tree tree ≡ spanless_tree (printed prog))
  tree_said fine =
      let p = and_parts (list_all (λ (c : ConstDef). expr_readable prog c.value) prog.consts) (list_all (fun_readable prog) prog.funs) fine in
      let ss = map (erase_struct prog) prog.structs in
      let cs = map (printed_const prog) prog.consts in
      let fs = map (printed_fun prog) prog.funs in
      finds_as (finds_each SpeltItem spell_item AlikeItem (ss ++ (cs ++ fs)) (both_said ss (cs ++ fs) (structs_said prog.structs) (both_said cs fs (consts_said prog.consts p.0) (funs_said prog.funs p.1))))
      (λ is. record { items = is }) (λ is ts c h. h) (λ is c i. record { items = match_map spanless_item spanless_item (ss ++ (cs ++ fs)) is c i }) refl

pub tokens_read : (prog : Prog) → IsTrue (prog_readable prog) → (tokens : List Token) → map (λ (t : Token). t.kind) tokens ≡ spell (printed prog) → (tree : Tree) × SpeltTree tree tokens × (spanless_tree tree ≡ spanless_tree (printed prog))
tokens_read prog fine tokens h = (tree_said prog fine).find tokens h
