-- The names of a well-formed program, which its numbers are looked up for.
use Rattle.std.proofs.Common.{◌≡◌, ℕ, zero, suc, ◌<◌, Bool, true, ◌&&◌, List, [], ◌∷◌, length, Option, Some, None, refl, sym, ap, ◌∙◌, subst, arith}
use Rattle.std.specs.Prelude.{IsTrue, nat_lt, nat_le, slice_get}
use Rattle.std.specs.List.{list_all}
use Rattle.std.proofs.lemmas.Bool.{and_parts}
use Rattle.std.proofs.lemmas.Bool.Decides.{nat_tests}
use Rattle.sk_tree.specs.Spell.{word}
use Rattle.sk_prog.specs.declared.ids.StructId.{StructId}
use Rattle.sk_prog.specs.declared.ids.ConstId.{ConstId}
use Rattle.sk_prog.specs.declared.ids.FunId.{FunId}
use Rattle.sk_prog.specs.declared.prog.FieldDef.{FieldDef}
use Rattle.sk_prog.specs.declared.prog.StructDef.{StructDef}
use Rattle.sk_prog.specs.declared.prog.ConstDef.{ConstDef}
use Rattle.sk_prog.specs.declared.prog.Fun.{Fun}
use Rattle.sk_prog.specs.declared.prog.Prog.{Prog}
use Rattle.sk_prog.specs.Fits.{is_name, has_struct, has_const, has_fun, has_field, field_in, any_ty_fits, implements_fits, param_fits, stmt_fits, field_fits, expr_fits, ty_fits, struct_fits, const_fits, fun_fits, prog_fits}
use Rattle.sk_types_rules.specs.Erase as E
use Rattle.sk_print.specs.Layout as L
use Rattle.sk_print_laws.proofs.Told.{Told, name, opens, name_opens}

got : {A : Type 0} (test : A → Bool) (xs : List A) (i : ℕ) (x : A) → list_all test xs ≡ true → slice_get xs i ≡ Some x → test x ≡ true
got test [] i x all h = cc
got test (y ∷ xs) zero x all h = let e : y ≡ x = cc in ap test (sym e) ∙ (and_parts (test y) (list_all test xs) all).0
got test (y ∷ xs) (suc i) x all h = got test xs i x (and_parts (test y) (list_all test xs) all).1 h

there : {A : Type 0} (xs : List A) (i : ℕ) → nat_lt i (length xs) ≡ true → (x : A) × (slice_get xs i ≡ Some x)
there [] i h = let n : i < 0 = grind (arith, nat_tests) in absurd (omega arith)
there (y ∷ xs) zero h = (y, refl)
there (y ∷ xs) (suc i) h = let n : suc i < suc (length xs) = grind (arith, nat_tests) in let m : i < length xs = omega arith in there xs i (grind (arith, nat_tests))

-- the bytes of a name, and the word that they tell
pub record Named (bytes word_bytes : List ℕ) : Type 0 where
  pub is : is_name bytes ≡ true
  pub same : bytes ≡ word_bytes

pub named_told : {a b : List ℕ} → Named a b → Told a (word b)
named_told {a = a} n = subst (λ x. Told a (word x)) n.same (name a n.is)

pub named_opens : {a b : List ℕ} → Named a b → opens a ≡ true
named_opens {a = a} n = name_opens a n.is

struct_at : (o : Option StructDef) (d : StructDef) → o ≡ Some d → is_name d.name ≡ true → Named (L.looked_up (λ (d : StructDef). d.name) o) (E.struct_name_of o)
struct_at o d e h = rw e (record { is = h; same = refl })

const_at : (o : Option ConstDef) (d : ConstDef) → o ≡ Some d → is_name d.name ≡ true → Named (L.looked_up (λ (d : ConstDef). d.name) o) (E.const_name_of o)
const_at o d e h = rw e (record { is = h; same = refl })

fun_at : (o : Option Fun) (d : Fun) → o ≡ Some d → is_name d.name ≡ true → Named (L.looked_up (λ (d : Fun). d.name) o) (E.fun_name_of o)
fun_at o d e h = rw e (record { is = h; same = refl })

field_at : (o : Option FieldDef) (d : FieldDef) → o ≡ Some d → is_name d.name ≡ true → Named (L.looked_up (λ (d : FieldDef). d.name) o) (E.any_field_name o)
field_at o d e h = rw e (record { is = h; same = refl })

-- what well-formedness says of the parts of a program
pub record Fits (prog : Prog) : Type 0 where
  pub structs : list_all (struct_fits prog) prog.structs ≡ true
  pub consts : list_all (const_fits prog) prog.consts ≡ true
  pub funs : list_all (fun_fits prog) prog.funs ≡ true

pub fits_parts : (prog : Prog) → IsTrue (prog_fits prog) → Fits prog
unfolding prog_fits
fits_parts prog h =
    let a = and_parts (list_all (struct_fits prog) prog.structs) (list_all (const_fits prog) prog.consts && list_all (fun_fits prog) prog.funs) h in
    let b = and_parts (list_all (const_fits prog) prog.consts) (list_all (fun_fits prog) prog.funs) a.1 in
    record { structs = a.0; consts = b.0; funs = b.1 }

module _ (prog : Prog) (fits : Fits prog) where
  pub struct_named : (s : StructId) → has_struct prog s ≡ true → Named (L.struct_name prog s) (E.struct_name prog s)
  struct_named s h =
      let d = there prog.structs s.index h in
      let fit = got (struct_fits prog) prog.structs s.index d.0 fits.structs d.1 in
      struct_at (slice_get prog.structs s.index) d.0 d.1 (and_parts (is_name (d.0).name) (list_all (field_fits prog) (d.0).fields) fit).0

  pub const_named : (c : ConstId) → has_const prog c ≡ true → Named (L.const_name prog c) (E.const_name prog c)
  const_named c h =
      let d = there prog.consts c.index h in
      let fit = got (const_fits prog) prog.consts c.index d.0 fits.consts d.1 in
      const_at (slice_get prog.consts c.index) d.0 d.1 (and_parts (is_name (d.0).name) (expr_fits prog 0 (d.0).value) fit).0

  pub fun_named : (f : FunId) → has_fun prog f ≡ true → Named (L.fun_name prog f) (E.fun_name prog f)
  fun_named f h =
      let d = there prog.funs f.index h in
      let fit = got (fun_fits prog) prog.funs f.index d.0 fits.funs d.1 in
      fun_at (slice_get prog.funs f.index) d.0 d.1 (and_parts (is_name (d.0).name) (any_ty_fits prog (d.0).result && (list_all (param_fits prog) (d.0).params && (nat_le (length (d.0).params) (d.0).slots && (implements_fits prog (d.0).implements && list_all (stmt_fits prog (d.0).slots) (d.0).body)))) fit).0

  field_of : (s : StructId) (field : ℕ) (o : Option StructDef) → slice_get prog.structs s.index ≡ o → field_in field o ≡ true → Named (L.looked_up (L.field_among field) o) (E.field_name_of o field)
  field_of s field None e h = cc
  field_of s field (Some d) e h =
      let fit = got (struct_fits prog) prog.structs s.index d fits.structs e in
      let all = (and_parts (is_name d.name) (list_all (field_fits prog) d.fields) fit).1 in
      let f = there d.fields field h in
      let field_fit = got (field_fits prog) d.fields field f.0 all f.1 in
      field_at (slice_get d.fields field) f.0 f.1 (and_parts (is_name (f.0).name) (ty_fits prog (f.0).ty) field_fit).0

  pub field_named : (s : StructId) (field : ℕ) → has_field prog s field ≡ true → Named (L.field_name prog s field) (E.field_name prog s field)
  field_named s field h = field_of s field (slice_get prog.structs s.index) refl h
