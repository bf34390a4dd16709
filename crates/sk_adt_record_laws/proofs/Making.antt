-- Records made on both sides.
use Rattle.std.proofs.Common.{◌≡◌, ℕ, zero, suc, pos, List, [], ◌∷◌, ◌++◌, length, slice_get, Option, Some, None, true, refl, sym, ap, subst, ◌∙◌}
use Rattle.std.specs.Prelude.{slice_set, option_and_then, option_map, if◌then◌else◌, nat_lt}
use Rattle.std.proofs.lemmas.Bool.{false≢true}
use Rattle.sk_prog.specs.declared.ids.StructId.{StructId}
use Rattle.sk_prog.specs.declared.ty.Elem.TheVariants as elem
use Rattle.sk_prog.specs.declared.value.Value.{Value}
use Rattle.sk_prog.specs.declared.value.Value.TheVariants as value
use Rattle.sk_prog.specs.declared.prog.FieldDef.{FieldDef}
use Rattle.sk_prog.specs.declared.prog.Prog.{Prog}
use Rattle.sk_types_rules.specs.declared.scope.Variable.{Variable}
use Rattle.sk_types_rules.specs.Rules.{base_of}
use Rattle.sk_model.specs.Step as plain
use Rattle.sk_model.specs.Values.{zero_of}
use Rattle.sk_model.specs.Heap.{zeros_of, with_fields}
use Rattle.sk_model.specs.Heap as heap
use Rattle.sk_model.proofs.Induction.{Each}
use Rattle.sk_adt.specs.declared.algebraic.Algebraic.{Algebraic}
use Rattle.sk_adt_tags.specs.declared.role.Role.{Role}
use Rattle.sk_adt_tags.specs.declared.role.Role.TheVariants as role
use Rattle.sk_adt_tags.specs.declared.role.Test.{Test}
use Rattle.sk_adt_tags.specs.Tags.{algebraic_of, role_in}
use Rattle.sk_adt_records.specs.Steps.{Record, Goes}
use Rattle.sk_adt_records.specs.Heap.{has, replaced_at, role_of, set_field, set_fields, fresh, variant_made, made, appended, allocate}
use Rattle.sk_adt_record_laws.proofs.Places.{each_map, holds_int, holds_place}
use Rattle.sk_adt_record_laws.proofs.Related.{kind_at, Grows, grows_more, last_kind, IsOf, Fits, fits_by, fits_grows, with_heap, passed_grows, field_at, Same, same_grows, pairs_grow, pairs_more, pairs_length, Inv, Ends}
use Rattle.sk_adt_record_laws.proofs.Stores.{zeros_at, zeros_fit, same_set, as_long}

module _ (types : List Algebraic) (prog : Prog) where
  abbrev zeros : StructId → List Value
  zeros d = zeros_of (slice_get prog.structs d.index)

  abbrev kin : StructId → Option Algebraic
  kin d = algebraic_of types prog.structs d

  -- a field that `new` may set in a record of this struct and variant, with a value that fits
  abbrev pub Settable : List Record → StructId → Option ℕ → ℕ × Value → Type 0
  Settable h d variant x = (f : FieldDef) × (field_at types prog d x.0 ≡ Some f) × (has variant (role_of types prog d x.0) ≡ true) × Fits h (base_of f.ty) x.1

  -- what fields set make of a record
  pub record Set (h : List Record) (d : StructId) (variant : Option ℕ) (fs : List Value) (o : Option Record) : Type 0 where
    pub it : Record
    pub is : o ≡ Some it
    pub same : Same types prog h fs it
    pub of : it.of ≡ d
    pub kind : it.variant ≡ variant

  set_one : (k : ℕ) (x old : Value) (r : Record) (w : Role) (variant : Option ℕ) → has variant w ≡ true → r.at k ≡ Some old → set_field w k x r ≡ Some (record r { at = replaced_at r.at k x })
  set_one k x old r role.Free variant h e = ap (option_map (λ (o : Value). record r { at = replaced_at r.at k x })) e
  set_one k x old r (role.Of i) variant h e = ap (option_map (λ (o : Value). record r { at = replaced_at r.at k x })) e
  set_one k x old r role.Tag variant h e = absurd (false≢true h)

  pub set_each : (h : List Record) (d : StructId) (variant : Option ℕ) (set : List (ℕ × Value)) → Each (Settable h d variant) set → (fs : List Value) (r : Record) → Same types prog h fs r → r.of ≡ d → r.variant ≡ variant → Set h d variant (with_fields fs set) (set_fields types prog set r)
  set_each h d variant [] g fs r s of kind = record { it = r; is = refl; same = s; of = of; kind = kind }
  set_each h d variant (x ∷ xs) g fs r s of kind =
      let f : FieldDef = g.0.0 in
      let field : field_at types prog r.of x.0 ≡ Some f = ap (λ e. field_at types prog e x.0) of ∙ g.0.1 in
      let v = as_long fs (zeros r.of) x.0 (zero_of f.ty) s.long (zeros_at types prog r.of x.0 f field) in
      let holds : has r.variant (role_of types prog r.of x.0) ≡ true = (λ j. has (kind j) (role_of types prog (of j) x.0)) ∙ g.0.2 in
      let at : r.at x.0 ≡ Some v.0 = s.values x.0 ∙ ap (λ b. if b then slice_get fs x.0 else None) holds ∙ v.1 in
      let new : Record = record r { at = replaced_at r.at x.0 x.1 } in
      let rest = set_each h d variant xs g.1 (slice_set fs x.0 x.1) new (same_set types prog h fs r x.0 f v.0 x.1 s holds field v.1 g.0.3) of kind in
      record { it = rest.it; is = ap (option_and_then (set_fields types prog xs)) (set_one x.0 x.1 v.0 r (role_of types prog r.of x.0) r.variant holds at) ∙ rest.is; same = rest.same; of = rest.of; kind = rest.kind }

  -- a new record before its fields are set: of a struct that is not algebraic, and of a variant of one that is
  fresh_plain : (h : List Record) (d : StructId) → kin d ≡ None → Same types prog h (zeros d) (fresh types prog d None)
  fresh_plain h d none = record {
    long = refl;
    values = λ k. refl;
    variant = λ a e. absurd (nothing a (sym none ∙ e));
    fits = λ k f v e i. zeros_fit types prog h d k (base_of f.ty) v i;
  }
    where
      nothing : (a : Algebraic) → None ≡ Some a → ⊥
      nothing a e = cc

  fresh_made : (h : List Record) (d : StructId) (a : Algebraic) (i : ℕ) (tag : FieldDef) → kin d ≡ Some a → field_at types prog d 0 ≡ Some tag → Same types prog h (slice_set (zeros d) 0 (value.Int (pos i))) (fresh types prog d (Some i))
  fresh_made h d a i tag is field = by (zeros d) (zeros_at types prog d 0 tag field) refl
    where
      first : (o : Option Algebraic) → kin d ≡ o → (w : Option Value) (z : Option Value) → kin d ≡ Some a → (if has (Some i) (role_of types prog d 0) then w else None) ≡ (if has (Some i) (role_of types prog d 0) then z else None)
      first o e w z same = ap (λ (p : Option Algebraic). if has (Some i) (role_in p 0) then w else None) same ∙ sym (ap (λ (p : Option Algebraic). if has (Some i) (role_in p 0) then z else None) same)

      by : (zs : List Value) → slice_get zs 0 ≡ Some (zero_of tag.ty) → zs ≡ zeros d → Same types prog h (slice_set (zeros d) 0 (value.Int (pos i))) (fresh types prog d (Some i))
      by [] e same = cc
      by (z ∷ zs) e same =
          let new : slice_set (zeros d) 0 (value.Int (pos i)) ≡ value.Int (pos i) ∷ zs = ap (λ ws. slice_set ws 0 (value.Int (pos i))) (sym same) in
          subst (λ fs. Same types prog h fs (fresh types prog d (Some i))) (sym new) (record {
            long = ap length same;
            values = λ k. at k;
            variant = λ b f. (i, refl, refl);
            fits = λ k f v g w. fit k f v w;
          })
        where
          at : (k : ℕ) → (if has (Some i) (role_of types prog d k) then slice_get (zeros d) k else None) ≡ (if has (Some i) (role_of types prog d k) then slice_get (value.Int (pos i) ∷ zs) k else None)
          at zero = first (kin d) refl (slice_get (zeros d) 0) (Some (value.Int (pos i))) is
          at (suc k) = ap (λ ws. if has (Some i) (role_of types prog d (suc k)) then slice_get ws (suc k) else None) (sym same)

          fit : (k : ℕ) (f : FieldDef) (v : Value) → slice_get (value.Int (pos i) ∷ zs) k ≡ Some v → Fits h (base_of f.ty) v
          fit zero f v w = let one : value.Int (pos i) ≡ v = cc in subst (Fits h (base_of f.ty)) one (fits_by h (base_of f.ty) (value.Int (pos i)) (λ c. holds_int (IsOf h c) (pos i)))
          fit (suc k) f v w = zeros_fit types prog h d (suc k) (base_of f.ty) v (sym (ap (λ ws. slice_get ws (suc k)) same) ∙ w)

  settable_grows : (h h' : List Record) (d : StructId) (variant : Option ℕ) → Grows h h' → (set : List (ℕ × Value)) → Each (Settable h d variant) set → Each (Settable h' d variant) set
  settable_grows h h' d variant g set = each_map (Settable h d variant) (Settable h' d variant) (λ x k. (k.0, k.1, k.2, fits_grows h h' (base_of k.0.ty) x.1 g k.3)) set

  -- A heap with the new record, whose place fits its struct.
  append_ends : (scope : List Variable) (tests : List Test) (s : plain.State) (h : List Record) (d : StructId) (variant : Option ℕ) (fs : List Value) (r : Record) → Inv types prog scope tests s h → Same types prog h fs r → r.of ≡ d
      → Ends types prog (λ (v : Value). scope) tests h (λ v k. Fits k (elem.Reference d) v) (plain.Goes (value.Place (length s.heap)) (record s { heap = s.heap ++ fs ∷ [] })) (Goes (value.Place (length h)) (record { heap = h ++ r ∷ []; slots = s.slots; cost = s.cost }))
  append_ends scope tests s h d variant fs r i same of =
      let new : List Record = h ++ r ∷ [] in
      let grows = grows_more h r in
      let inv : Inv types prog scope tests (record s { heap = s.heap ++ fs ∷ [] }) new = record {
        alike = pairs_more types prog new fs r (same_grows types prog h new fs r grows same) s.heap h (pairs_grow types prog h new grows s.heap h i.alike);
        fits = λ n y e. fits_grows h new (base_of y.ty) _ grows (i.fits n y e);
        passed = passed_grows h new s.slots grows tests i.passed;
      } in
      let long = pairs_length types prog h s.heap h i.alike in
      let here : IsOf new d (length s.heap) = (r.variant, ap (kind_at new) long ∙ last_kind h r ∙ ap (λ e. Some (e, r.variant)) of) in
      (ap value.Place long, refl, record { inv = inv; grows = grows; gives = holds_place (IsOf new d) (length s.heap) here })

  pub made_plain : (scope : List Variable) (tests : List Test) (s : plain.State) (h : List Record) (d : StructId) (set : List (ℕ × Value)) → Inv types prog scope tests s h → kin d ≡ None → Each (Settable h d None) set
      → Ends types prog (λ (v : Value). scope) tests h (λ v k. Fits k (elem.Reference d) v) (heap.allocate prog d set s) (allocate types prog d set (with_heap s h))
  made_plain scope tests s h d set i none g =
      let r = set_each h d None set g (zeros d) (fresh types prog d None) (fresh_plain h d none) refl refl in
      let is : made types prog d set ≡ Some r.it = ap (λ o. option_and_then (λ (variant : Option ℕ). set_fields types prog set (fresh types prog d variant)) (variant_made o set)) none ∙ r.is in
      subst (λ o. Ends types prog (λ (v : Value). scope) tests h (λ v k. Fits k (elem.Reference d) v) (heap.allocate prog d set s) (appended o (with_heap s h))) (sym is)
      (append_ends scope tests s h d None (with_fields (zeros d) set) r.it i r.same r.of)

  pub made_variant : (scope : List Variable) (tests : List Test) (s : plain.State) (h : List Record) (d : StructId) (a : Algebraic) (n : ℕ) (tag : FieldDef) (set : List (ℕ × Value)) → Inv types prog scope tests s h → kin d ≡ Some a → nat_lt n (length a.variants) ≡ true → field_at types prog d 0 ≡ Some tag → Each (Settable h d (Some n)) set
      → Ends types prog (λ (v : Value). scope) tests h (λ v k. Fits k (elem.Reference d) v) (heap.allocate prog d ((0, value.Int (pos n)) ∷ set) s) (allocate types prog d ((0, value.Int (pos n)) ∷ set) (with_heap s h))
  made_variant scope tests s h d a n tag set i some less field g =
      let r = set_each h d (Some n) set g (slice_set (zeros d) 0 (value.Int (pos n))) (fresh types prog d (Some n)) (fresh_made h d a n tag some field) refl refl in
      let first : set_fields types prog ((0, value.Int (pos n)) ∷ set) (fresh types prog d (Some n)) ≡ Some r.it = ap (λ (o : Option Algebraic). option_and_then (set_fields types prog set) (set_field (role_in o 0) 0 (value.Int (pos n)) (fresh types prog d (Some n)))) some ∙ r.is in
      let number : variant_made (Some a) ((0, value.Int (pos n)) ∷ set) ≡ Some (Some n) = ap (λ b. option_map (λ (k : ℕ). Some k) (if b then Some n else None)) less in
      let all : List (ℕ × Value) = (0, value.Int (pos n)) ∷ set in
      let is : made types prog d all ≡ Some r.it = ap (λ o. option_and_then (λ (variant : Option ℕ). set_fields types prog all (fresh types prog d variant)) (variant_made o all)) some ∙ ap (option_and_then (λ (variant : Option ℕ). set_fields types prog all (fresh types prog d variant))) number ∙ first in
      subst (λ o. Ends types prog (λ (v : Value). scope) tests h (λ v k. Fits k (elem.Reference d) v) (heap.allocate prog d all s) (appended o (with_heap s h))) (sym is)
      (append_ends scope tests s h d (Some n) (with_fields (slice_set (zeros d) 0 (value.Int (pos n))) set) r.it i r.same r.of)
