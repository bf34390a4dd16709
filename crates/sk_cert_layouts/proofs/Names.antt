-- The names of a well-formed program, and its types, are clean.
use Rattle.std.proofs.Common.{◌≡◌, ℕ, zero, suc, Bool, true, List, [], ◌∷◌, ◌++◌, refl, codes}
use Rattle.std.specs.Prelude.{◌&&◌, IsTrue, length, nat_le, slice_get}
use Rattle.std.specs.List.{list_all}
use Rattle.std.proofs.lemmas.Bool.{and_parts}
use Rattle.sk_prog.specs.declared.ids.StructId.{StructId}
use Rattle.sk_prog.specs.declared.ids.ConstId.{ConstId}
use Rattle.sk_prog.specs.declared.ids.FunId.{FunId}
use Rattle.sk_prog.specs.declared.ty.Elem.{Elem}
use Rattle.sk_prog.specs.declared.ty.Elem.TheVariants as elem
use Rattle.sk_prog.specs.declared.ty.Ty.{Ty}
use Rattle.sk_prog.specs.declared.ty.Ty.TheVariants as ty
use Rattle.sk_prog.specs.declared.prog.FieldDef.{FieldDef}
use Rattle.sk_prog.specs.declared.prog.StructDef.{StructDef}
use Rattle.sk_prog.specs.declared.prog.ConstDef.{ConstDef}
use Rattle.sk_prog.specs.declared.prog.Fun.{Fun}
use Rattle.sk_prog.specs.declared.prog.Prog.{Prog}
use Rattle.sk_prog.specs.Fits.{is_name, ty_fits, any_ty_fits, expr_fits, stmt_fits, field_fits, struct_fits, const_fits, param_fits, implements_fits, fun_fits, prog_fits}
use Rattle.sk_print.specs.Layout.{looked_up, struct_name, const_name, fun_name, field_among, field_name, elem_layout, length_layout, ty_layout}
use Rattle.sk_cert_layouts.proofs.Clean.{Clean, starts, starts_append, nothing, lit, ◌▹◌, number, name_clean, name_starts}

-- what well-formedness says of the parts of a program
pub record Fits (prog : Prog) : Type 0 where
  pub structs : list_all (struct_fits prog) prog.structs ≡ true
  pub consts : list_all (const_fits prog) prog.consts ≡ true
  pub funs : list_all (fun_fits prog) prog.funs ≡ true

pub fits_parts : (prog : Prog) → IsTrue (prog_fits prog) → Fits prog
unfolding prog_fits
fits_parts prog h =
    let a = and_parts (list_all (struct_fits prog) prog.structs) (list_all (const_fits prog) prog.consts && list_all (fun_fits prog) prog.funs) h in
    let b = and_parts (list_all (const_fits prog) prog.consts) (list_all (fun_fits prog) prog.funs) a.1 in
    record { structs = a.0; consts = b.0; funs = b.1 }

-- what the name of each element is, a name that is looked up is, if nothing is
looked : {A : Type 0} (Q : List ℕ → Type 0) → Q [] → (name : A → List ℕ) (test : A → Bool) → ((a : A) → test a ≡ true → Q (name a)) → (xs : List A) → list_all test xs ≡ true → (i : ℕ) → Q (looked_up name (slice_get xs i))
looked Q none name test each [] h i = none
looked Q none name test each (x ∷ xs) h zero = each x (and_parts (test x) (list_all test xs) h).0
looked Q none name test each (x ∷ xs) h (suc i) = looked Q none name test each xs (and_parts (test x) (list_all test xs) h).1 i

module _ (prog : Prog) (fits : Fits prog) where
  struct_is_name : (d : StructDef) → struct_fits prog d ≡ true → is_name d.name ≡ true
  struct_is_name d h = (and_parts (is_name d.name) (list_all (field_fits prog) d.fields) h).0

  pub struct_clean : (s : StructId) → Clean (struct_name prog s)
  struct_clean s = looked Clean nothing (λ (d : StructDef). d.name) (struct_fits prog) (λ d h. name_clean d.name (struct_is_name d h)) prog.structs fits.structs s.index

  pub struct_starts : (s : StructId) → starts (struct_name prog s) ≡ true
  struct_starts s = looked (λ x. starts x ≡ true) refl (λ (d : StructDef). d.name) (struct_fits prog) (λ d h. name_starts d.name (struct_is_name d h)) prog.structs fits.structs s.index

  pub const_clean : (c : ConstId) → Clean (const_name prog c)
  const_clean c = looked Clean nothing (λ (d : ConstDef). d.name) (const_fits prog) (λ d h. name_clean d.name (and_parts (is_name d.name) (expr_fits prog 0 d.value) h).0) prog.consts fits.consts c.index

  pub fun_is_name : (f : Fun) → fun_fits prog f ≡ true → is_name f.name ≡ true
  fun_is_name f h = (and_parts (is_name f.name) (any_ty_fits prog f.result && (list_all (param_fits prog) f.params && (nat_le (length f.params) f.slots && (implements_fits prog f.implements && list_all (stmt_fits prog f.slots) f.body)))) h).0

  pub fun_clean : (f : FunId) → Clean (fun_name prog f)
  fun_clean f = looked Clean nothing (λ (d : Fun). d.name) (fun_fits prog) (λ d h. name_clean d.name (fun_is_name d h)) prog.funs fits.funs f.index

  pub field_clean : (s : StructId) (field : ℕ) → Clean (field_name prog s field)
  field_clean s field =
      let of_field : (a : FieldDef) → field_fits prog a ≡ true → Clean a.name = λ a k. name_clean a.name (and_parts (is_name a.name) (ty_fits prog a.ty) k).0 in
      let of_struct : (d : StructDef) → struct_fits prog d ≡ true → Clean (field_among field d) = λ d h. looked Clean nothing (λ (a : FieldDef). a.name) (field_fits prog) of_field d.fields (and_parts (is_name d.name) (list_all (field_fits prog) d.fields) h).1 field in
      looked Clean nothing (field_among field) (struct_fits prog) of_struct prog.structs fits.structs s.index

  elem_clean : (t : Elem) → Clean (elem_layout prog t)
  elem_clean elem.Int = lit (codes "int") refl
  elem_clean elem.Bit = lit (codes "bit") refl
  elem_clean (elem.Reference s) = struct_clean s

  length_clean : (n : ℕ) → Clean (length_layout n)
  length_clean n = lit (codes "[") refl ▹ number n ▹ lit (codes "]") refl

  pub ty_clean : (t : Ty) → Clean (ty_layout prog t)
  ty_clean (ty.One t) = elem_clean t
  ty_clean (ty.Array t n) = elem_clean t ▹ length_clean n
  ty_clean (ty.Grid t n m) = elem_clean t ▹ length_clean n ▹ length_clean m

  elem_starts : (t : Elem) → starts (elem_layout prog t) ≡ true
  elem_starts elem.Int = refl
  elem_starts elem.Bit = refl
  elem_starts (elem.Reference s) = struct_starts s

  pub ty_starts : (t : Ty) → starts (ty_layout prog t) ≡ true
  ty_starts (ty.One t) = elem_starts t
  ty_starts (ty.Array t n) = starts_append (elem_layout prog t) (length_layout n) (elem_starts t) refl
  ty_starts (ty.Grid t n m) = starts_append (elem_layout prog t ++ length_layout n) (length_layout m) (starts_append (elem_layout prog t) (length_layout n) (elem_starts t) refl) refl
