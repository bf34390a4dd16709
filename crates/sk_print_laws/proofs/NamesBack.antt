-- Names that are written back in place of numbers mean those numbers.
use Rattle.std.proofs.Common.{◌≡◌, ℕ, zero, suc, Bool, true, false, List, [], ◌∷◌, map, Option, Some, None, option_map, refl, sym, ap, ◌∙◌}
use Rattle.std.specs.Prelude.{slice_get, if◌then◌else◌}
use Rattle.std.specs.Str.{bytes_eq}
use Rattle.std.proofs.lemmas.Slice.Eq.{bytes_eq-Decides}
use Rattle.std.proofs.lemmas.Option.{slice_get-map}
use Rattle.sk_prog.specs.declared.ids.StructId.{StructId}
use Rattle.sk_prog.specs.declared.ids.ConstId.{ConstId}
use Rattle.sk_prog.specs.declared.ids.FunId.{FunId}
use Rattle.sk_prog.specs.declared.ty.Ty.{Ty}
use Rattle.sk_prog.specs.declared.prog.StructDef.{StructDef}
use Rattle.sk_prog.specs.declared.prog.ConstDef.{ConstDef}
use Rattle.sk_prog.specs.declared.prog.Fun.{Fun}
use Rattle.sk_prog.specs.declared.prog.Prog.{Prog}
use Rattle.sk_types_rules.specs.declared.scope.Variable.{Variable}
use Rattle.sk_types_rules.specs.declared.scope.Place.{Place}
use Rattle.sk_types_rules.specs.Scope.{lookup, Signature, Meaning, AStruct, AConstant, AFunction, signature_of, top_of, next_place, place_of, function_or, constant_or, struct_or, variable_or, meaning_of}
use Rattle.sk_types_rules.specs.Types.{IsField}
use Rattle.sk_types_rules.specs.Erase as R

place_more : (ys : List (List ℕ)) (x : List ℕ) → ((i : ℕ) → place_of ys x ≡ Some i → slice_get ys i ≡ Some x) → (y : List ℕ) (i : ℕ) → place_of (y ∷ ys) x ≡ Some i → slice_get (y ∷ ys) i ≡ Some x
place_more ys x rest y i h = go (bytes_eq y x) refl h
  where
    later : (o : Option ℕ) → place_of ys x ≡ o → (i : ℕ) → next_place o ≡ Some i → slice_get (y ∷ ys) i ≡ Some x
    later None is i h = cc
    later (Some j) is zero h = cc
    later (Some j) is (suc i) h = let e : j ≡ i = cc in rest i (is ∙ ap Some e)

    go : (b : Bool) → bytes_eq y x ≡ b → (if b then Some 0 else next_place (place_of ys x)) ≡ Some i → slice_get (y ∷ ys) i ≡ Some x
    go true is h = let e : 0 ≡ i = cc in ap (slice_get (y ∷ ys)) (sym e) ∙ ap Some ((bytes_eq-Decides y x).0 is)
    go false is h = later (place_of ys x) refl i h

-- where a name has a place in a list, it stands there
place_slice : (ys : List (List ℕ)) (x : List ℕ) (i : ℕ) → place_of ys x ≡ Some i → slice_get ys i ≡ Some x
place_slice [] x i h = cc
place_slice (y ∷ ys) x i h = place_more ys x (place_slice ys x) y i h

abbrev Meant : Option Place → Option ℕ → Option ℕ → Option ℕ → Meaning
Meant v o q p = variable_or v (struct_or o (constant_or q (function_or p)))

struct_place : (v : Option Place) (o q p : Option ℕ) (s : StructId) → Meant v o q p ≡ AStruct s → o ≡ Some s.index
struct_place (Some v) o q p s h = cc
struct_place None (Some i) q p s h = let e : record { index = i } ≡ s = cc in ap (λ (r : StructId). Some r.index) e
struct_place None None (Some j) p s h = cc
struct_place None None None (Some k) s h = cc
struct_place None None None None s h = cc

const_place : (v : Option Place) (o q p : Option ℕ) (c : ConstId) → Meant v o q p ≡ AConstant c → q ≡ Some c.index
const_place (Some v) o q p c h = cc
const_place None (Some i) q p c h = cc
const_place None None (Some j) p c h = let e : record { index = j } ≡ c = cc in ap (λ (r : ConstId). Some r.index) e
const_place None None None (Some k) c h = cc
const_place None None None None c h = cc

fun_place : (v : Option Place) (o q p : Option ℕ) (f : FunId) → Meant v o q p ≡ AFunction f → p ≡ Some f.index
fun_place (Some v) o q p f h = cc
fun_place None (Some i) q p f h = cc
fun_place None None (Some j) p f h = cc
fun_place None None None (Some k) f h = let e : record { index = k } ≡ f = cc in ap (λ (r : FunId). Some r.index) e
fun_place None None None None f h = cc

struct_of : (o : Option StructDef) (x : List ℕ) → option_map (λ (d : StructDef). d.name) o ≡ Some x → R.struct_name_of o ≡ x
struct_of None x h = cc
struct_of (Some d) x h = cc

const_of : (o : Option ConstDef) (x : List ℕ) → option_map (λ (d : ConstDef). d.name) o ≡ Some x → R.const_name_of o ≡ x
const_of None x h = cc
const_of (Some d) x h = cc

fun_of : (o : Option Fun) (x : List ℕ) → option_map (λ (s : Signature). s.name) (option_map signature_of o) ≡ Some x → R.fun_name_of o ≡ x
fun_of None x h = cc
fun_of (Some d) x h = cc

module _ (prog : Prog) (scope : List Variable) (x : List ℕ) where
  abbrev struct_at : Option ℕ
  struct_at = place_of (map (λ (d : StructDef). d.name) (top_of prog).structs) x

  abbrev const_at : Option ℕ
  const_at = place_of (top_of prog).consts x

  abbrev fun_at : Option ℕ
  fun_at = place_of (map (λ (s : Signature). s.name) (top_of prog).funs) x

  pub struct_back : (s : StructId) → meaning_of (top_of prog) scope x ≡ AStruct s → R.struct_name prog s ≡ x
  struct_back s h =
      struct_of (slice_get prog.structs s.index) x
      (sym (slice_get-map (λ (d : StructDef). d.name) prog.structs s.index)
      ∙ place_slice (map (λ (d : StructDef). d.name) prog.structs) x s.index (struct_place (lookup scope x) struct_at const_at fun_at s h))

  pub const_back : (c : ConstId) → meaning_of (top_of prog) scope x ≡ AConstant c → R.const_name prog c ≡ x
  const_back c h =
      const_of (slice_get prog.consts c.index) x
      (sym (slice_get-map (λ (d : ConstDef). d.name) prog.consts c.index)
      ∙ place_slice (map (λ (d : ConstDef). d.name) prog.consts) x c.index (const_place (lookup scope x) struct_at const_at fun_at c h))

  pub fun_back : (f : FunId) → meaning_of (top_of prog) scope x ≡ AFunction f → R.fun_name prog f ≡ x
  fun_back f h =
      fun_of (slice_get prog.funs f.index) x
      (ap (option_map (λ (s : Signature). s.name)) (sym (slice_get-map signature_of prog.funs f.index))
      ∙ sym (slice_get-map (λ (s : Signature). s.name) (map signature_of prog.funs) f.index)
      ∙ place_slice (map (λ (s : Signature). s.name) (map signature_of prog.funs)) x f.index (fun_place (lookup scope x) struct_at const_at fun_at f h))

pub field_back : (prog : Prog) (s : StructId) (d : StructDef) (i : ℕ) (x : List ℕ) (t : Ty) → slice_get prog.structs s.index ≡ Some d → IsField d i x t → R.field_name prog s i ≡ x
field_back prog s d i x t there f = ap (λ o. R.field_name_of o i) there ∙ ap R.any_field_name f.there
