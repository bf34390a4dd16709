-- The text of a program is lines of a program.
use Rattle.std.proofs.Common.{◌≡◌, ℕ, Bool, true, false, ◌&&◌, List, [], ◌∷◌, ◌++◌, Option, Some, None, refl, codes}
use Rattle.std.specs.Prelude.{length, nat_le}
use Rattle.std.specs.List.{list_all, join_by}
use Rattle.std.proofs.lemmas.Bool.{and_parts}
use Rattle.sk_prog.specs.declared.ids.FunId.{FunId}
use Rattle.sk_prog.specs.declared.ty.Ty.{Ty}
use Rattle.sk_prog.specs.declared.stmt.PStmt.{PStmt}
use Rattle.sk_prog.specs.declared.prog.FunKind.{FunKind}
use Rattle.sk_prog.specs.declared.prog.FunKind.TheVariants as kind
use Rattle.sk_prog.specs.declared.prog.FieldDef.{FieldDef}
use Rattle.sk_prog.specs.declared.prog.StructDef.{StructDef}
use Rattle.sk_prog.specs.declared.prog.ConstDef.{ConstDef}
use Rattle.sk_prog.specs.declared.prog.ParamDef.{ParamDef}
use Rattle.sk_prog.specs.declared.prog.Fun.{Fun}
use Rattle.sk_prog.specs.declared.prog.Prog.{Prog}
use Rattle.sk_prog.specs.Fits.{is_name, ty_fits, any_ty_fits, expr_fits, stmt_fits, field_fits, struct_fits, const_fits, param_fits, implements_fits, fun_fits}
use Rattle.sk_cert.specs.Certificates.{IsProgramText}
use Rattle.sk_print.specs.Layout.{struct_field_layout, struct_layout, const_layout, ref_layout, param_layout, kind_layout, result_layout, implements_layout, head_layout, fun_layout, stmt_layout}
use Rattle.sk_cert_layouts.specs.Laws.{LayoutsAreProgramTexts}
use Rattle.sk_cert_layouts.proofs.Clean.{Clean, starts, starts_append, opens_later, opens_spaced, opens_starts, nothing, lit, ◌▹◌, AllClean, joined, name_clean}
use Rattle.sk_cert_layouts.proofs.Texts.{◌▸◌, AllTexts, all_together, top, deep}
use Rattle.sk_cert_layouts.proofs.Names.{Fits, fits_parts, fun_clean, ty_clean, ty_starts}
use Rattle.sk_cert_layouts.proofs.Exprs.{expr_clean}
use Rattle.sk_cert_layouts.proofs.Stmts.{stmt_text}

-- the text of each element is one of a program where that of each that passes a test is
texts : {A : Type 0} (f : A → List ℕ) (test : A → Bool) → ((a : A) → test a ≡ true → IsProgramText (f a)) → (xs : List A) → list_all test xs ≡ true → AllTexts f xs
texts f test each [] h = tt
texts f test each (x ∷ xs) h =
    let hs = and_parts (test x) (list_all test xs) h in
    (each x hs.0, texts f test each xs hs.1)

module _ (prog : Prog) (fits : Fits prog) where
  field_text : (d : FieldDef) → field_fits prog d ≡ true → IsProgramText (struct_field_layout prog d)
  field_text d h =
      let hs = and_parts (is_name d.name) (ty_fits prog d.ty) h in
      deep 0 (ty_clean prog fits d.ty ▹ lit (codes " ") refl ▹ name_clean d.name hs.0 ▹ lit (codes ";") refl)

  struct_text : (d : StructDef) → struct_fits prog d ≡ true → IsProgramText (struct_layout prog d)
  struct_text d h =
      let hs = and_parts (is_name d.name) (list_all (field_fits prog) d.fields) h in
      let fields = all_together (struct_field_layout prog) d.fields (texts (struct_field_layout prog) (field_fits prog) field_text d.fields hs.1) in
      top (lit (codes "struct ") refl ▹ name_clean d.name hs.0 ▹ lit (codes " {") refl) refl ▸ fields ▸ top (lit (codes "}") refl) refl

  const_text : (c : ConstDef) → const_fits prog c ≡ true → IsProgramText (const_layout prog c)
  const_text c h =
      let hs = and_parts (is_name c.name) (expr_fits prog 0 c.value) h in
      top (lit (codes "int ") refl ▹ name_clean c.name hs.0 ▹ lit (codes " = ") refl ▹ expr_clean prog fits 0 c.value hs.1 ▹ lit (codes ";") refl) refl

  -- Functions

  ref_clean : (b : Bool) → Clean (ref_layout b)
  ref_clean true = lit (codes "ref ") refl
  ref_clean false = nothing

  params_clean : (ps : List ParamDef) → list_all (param_fits prog) ps ≡ true → AllClean (param_layout prog) ps
  params_clean [] h = tt
  params_clean (p ∷ ps) h =
      let hs = and_parts (param_fits prog p) (list_all (param_fits prog) ps) h in
      let named = and_parts (is_name p.name) (ty_fits prog p.ty) hs.0 in
      (ref_clean p.by_ref ▹ ty_clean prog fits p.ty ▹ lit (codes " ") refl ▹ name_clean p.name named.0, params_clean ps hs.1)

  kind_clean : (k : FunKind) → Clean (kind_layout k)
  kind_clean kind.Plain = nothing
  kind_clean kind.Harness = lit (codes "harness ") refl
  kind_clean kind.Generator = lit (codes "generator ") refl

  kind_starts : (k : FunKind) → starts (kind_layout k) ≡ true
  kind_starts kind.Plain = refl
  kind_starts kind.Harness = refl
  kind_starts kind.Generator = refl

  result_clean : (r : Option Ty) → Clean (result_layout prog r)
  result_clean None = lit (codes "void") refl
  result_clean (Some t) = ty_clean prog fits t

  result_starts : (r : Option Ty) → starts (result_layout prog r) ≡ true
  result_starts None = refl
  result_starts (Some t) = ty_starts prog fits t

  implements_clean : (o : Option FunId) → Clean (implements_layout prog o)
  implements_clean None = nothing
  implements_clean (Some g) = lit (codes " implements ") refl ▹ fun_clean prog fits g

  head_clean : (f : Fun) → is_name f.name ≡ true → list_all (param_fits prog) f.params ≡ true → Clean (head_layout prog f)
  head_clean f named params =
      let parameters = joined (param_layout prog) (codes ", ") f.params (lit (codes ", ") refl) (params_clean f.params params) in
      kind_clean f.kind ▹ result_clean f.result ▹ lit (codes " ") refl ▹ name_clean f.name named ▹ lit (codes "(") refl ▹ parameters ▹ lit (codes ")") refl ▹ implements_clean f.implements ▹ lit (codes " {") refl

  head_starts : (f : Fun) → starts (head_layout prog f) ≡ true
  head_starts f =
      let front : starts (kind_layout f.kind ++ result_layout prog f.result) ≡ true = starts_append (kind_layout f.kind) (result_layout prog f.result) (kind_starts f.kind) (result_starts f.result) in
      let named = opens_later (codes "(") (opens_later f.name (opens_spaced (kind_layout f.kind ++ result_layout prog f.result) front)) in
      let listed = opens_later (codes ")") (opens_later (join_by (param_layout prog) (codes ", ") f.params) named) in
      opens_starts (opens_later (codes " {") (opens_later (implements_layout prog f.implements) listed))

  fun_text : (f : Fun) → fun_fits prog f ≡ true → IsProgramText (fun_layout prog f)
  fun_text f h =
      let body : Bool = list_all (stmt_fits prog f.slots) f.body in
      let a = and_parts (is_name f.name) (any_ty_fits prog f.result && (list_all (param_fits prog) f.params && (nat_le (length f.params) f.slots && (implements_fits prog f.implements && body)))) h in
      let b = and_parts (any_ty_fits prog f.result) (list_all (param_fits prog) f.params && (nat_le (length f.params) f.slots && (implements_fits prog f.implements && body))) a.1 in
      let c = and_parts (list_all (param_fits prog) f.params) (nat_le (length f.params) f.slots && (implements_fits prog f.implements && body)) b.1 in
      let d = and_parts (nat_le (length f.params) f.slots) (implements_fits prog f.implements && body) c.1 in
      let e = and_parts (implements_fits prog f.implements) body d.1 in
      let stmts = all_together (λ (s : PStmt). stmt_layout prog s 1) f.body (texts (λ (s : PStmt). stmt_layout prog s 1) (stmt_fits prog f.slots) (λ s k. stmt_text prog fits f.slots s k false 0) f.body e.1) in
      top (head_clean f a.0 c.0) (head_starts f) ▸ stmts ▸ top (lit (codes "}") refl) refl

pub layouts_are_program_texts : LayoutsAreProgramTexts
layouts_are_program_texts prog h =
    let fits = fits_parts prog h in
    let structs = all_together (struct_layout prog) prog.structs (texts (struct_layout prog) (struct_fits prog) (struct_text prog fits) prog.structs fits.structs) in
    let consts = all_together (const_layout prog) prog.consts (texts (const_layout prog) (const_fits prog) (const_text prog fits) prog.consts fits.consts) in
    let funs = all_together (fun_layout prog) prog.funs (texts (fun_layout prog) (fun_fits prog) (fun_text prog fits) prog.funs fits.funs) in
    structs ▸ consts ▸ funs
