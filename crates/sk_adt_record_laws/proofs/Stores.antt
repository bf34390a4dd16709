-- Variables and fields, read and written on both sides.
use Rattle.std.proofs.Common.{◌≡◌, ℕ, zero, suc, ℤ, List, [], ◌∷◌, map, length, slice_get, Option, Some, None, Bool, true, false, inl, inr, refl, sym, ap, subst, ◌∙◌, arith}
use Rattle.std.specs.Prelude.{◌⊎◌, slice_set, slice_index_or, option_and_then, option_map, if◌then◌else◌, ◌==◌}
use Rattle.std.proofs.lemmas.List.{length-set}
use Rattle.std.proofs.lemmas.Bool.{false≢true, eq-eqb, eqb-true}
use Rattle.std.proofs.lemmas.Option.{get_or_from_slice_get}
use Rattle.sk_base.specs.declared.span.Span.{Span}
use Rattle.sk_prog.specs.declared.ids.StructId.{StructId}
use Rattle.sk_prog.specs.declared.ty.Elem.{Elem}
use Rattle.sk_prog.specs.declared.value.Value.{Value}
use Rattle.sk_prog.specs.declared.value.Value.TheVariants as value
use Rattle.sk_prog.specs.declared.prog.FieldDef.{FieldDef}
use Rattle.sk_prog.specs.declared.prog.StructDef.{StructDef}
use Rattle.sk_prog.specs.declared.prog.Prog.{Prog}
use Rattle.sk_types_rules.specs.declared.scope.Variable.{Variable}
use Rattle.sk_types_rules.specs.Rules.{base_of}
use Rattle.sk_model.specs.Step as plain
use Rattle.sk_model.specs.Values.{zero_of, replaced}
use Rattle.sk_model.specs.Heap.{blank, written, zeros_of, with_fields, Root, Variable as AtSlot, Field, Location}
use Rattle.sk_model.specs.Heap as heap
use Rattle.sk_model.proofs.Induction.{Each}
use Rattle.sk_adt.specs.declared.algebraic.Algebraic.{Algebraic}
use Rattle.sk_adt_tags.specs.declared.role.Test.{Test}
use Rattle.sk_adt_tags.specs.Tags.{algebraic_of, role_in}
use Rattle.sk_adt_records.specs.Steps.{Record, Step, Goes, and_then, or_stray}
use Rattle.sk_adt_records.specs.Heap.{has, value_at, role_of, read_field, write_field, replaced_at, with_field, put, write_whole, store}
use Rattle.sk_adt_record_laws.proofs.Places.{holds_zero, holds_replaced}
use Rattle.sk_adt_record_laws.proofs.Related.{kind_of, kind_at, Grows, grows_same, grows_set, IsOf, Fits, fits_by, fits_both, fits_grows, found, with_heap, Passed, passed_grows, field_at, Same, same_grows, pairs_grow, pairs_set, pairs_at, Inv, Ends, ends_at}

-- Lists

pub same_or_not : (n m : ℕ) → (n ≡ m) ⊎ (n ≡ m → ⊥)
same_or_not zero zero = inl refl
same_or_not zero (suc m) = inr (λ e. absurd (omega (arith, e)))
same_or_not (suc n) zero = inr (λ e. absurd (omega (arith, e)))
same_or_not (suc n) (suc m) = go (same_or_not n m)
  where
    go : (n ≡ m) ⊎ (n ≡ m → ⊥) → (suc n ≡ suc m) ⊎ (suc n ≡ suc m → ⊥)
    go (inl e) = inl (ap suc e)
    go (inr f) = inr (λ e. f (omega (arith, e)))

written_here : (ws : List Value) (n : ℕ) (v : Value) → slice_index_or (written ws n v) n blank ≡ v
written_here [] zero v = refl
written_here [] (suc n) v = written_here [] n v
written_here (w ∷ ws) zero v = refl
written_here (w ∷ ws) (suc n) v = written_here ws n v

written_there : (ws : List Value) (n m : ℕ) (v : Value) → (m ≡ n → ⊥) → slice_index_or (written ws n v) m blank ≡ slice_index_or ws m blank
written_there [] zero zero v f = absurd (f refl)
written_there [] zero (suc m) v f = refl
written_there [] (suc n) zero v f = refl
written_there [] (suc n) (suc m) v f = written_there [] n m v (λ e. f (ap suc e))
written_there (w ∷ ws) zero zero v f = absurd (f refl)
written_there (w ∷ ws) zero (suc m) v f = refl
written_there (w ∷ ws) (suc n) zero v f = refl
written_there (w ∷ ws) (suc n) (suc m) v f = written_there ws n m v (λ e. f (ap suc e))

set_here : {A : Type 0} (xs : List A) (k : ℕ) (old v : A) → slice_get xs k ≡ Some old → slice_get (slice_set xs k v) k ≡ Some v
set_here [] k old v e = cc
set_here (x ∷ xs) zero old v e = refl
set_here (x ∷ xs) (suc k) old v e = set_here xs k old v e

set_there : {A : Type 0} (xs : List A) (k j : ℕ) (v : A) → (j ≡ k → ⊥) → slice_get (slice_set xs k v) j ≡ slice_get xs j
set_there [] k j v f = refl
set_there (x ∷ xs) zero zero v f = absurd (f refl)
set_there (x ∷ xs) zero (suc j) v f = refl
set_there (x ∷ xs) (suc k) zero v f = refl
set_there (x ∷ xs) (suc k) (suc j) v f = set_there xs k j v (λ e. f (ap suc e))

pub as_long : {A B : Type 0} (xs : List A) (ys : List B) (k : ℕ) (y : B) → length xs ≡ length ys → slice_get ys k ≡ Some y → (x : A) × (slice_get xs k ≡ Some x)
as_long xs [] k y l e = cc
as_long [] (z ∷ zs) k y l e = absurd (omega (arith, l))
as_long (x ∷ xs) (z ∷ zs) zero y l e = (x, refl)
as_long (x ∷ xs) (z ∷ zs) (suc k) y l e = as_long xs zs k y (omega (arith, l)) e

zero_at : (fs : List FieldDef) (k : ℕ) (f : FieldDef) → slice_get fs k ≡ Some f → slice_get (map (λ (f : FieldDef). zero_of f.ty) fs) k ≡ Some (zero_of f.ty)
zero_at [] k f e = cc
zero_at (x ∷ xs) zero f e = let same : x ≡ f = cc in ap (λ (y : FieldDef). Some (zero_of y.ty)) same
zero_at (x ∷ xs) (suc k) f e = zero_at xs k f e

zero_fits : (h : List Record) (fs : List FieldDef) (k : ℕ) (e : Elem) (v : Value) → slice_get (map (λ (f : FieldDef). zero_of f.ty) fs) k ≡ Some v → Fits h e v
zero_fits h [] k e v is = cc
zero_fits h (x ∷ xs) zero e v is = let same : zero_of x.ty ≡ v = cc in subst (Fits h e) same (fits_by h e (zero_of x.ty) (λ d. holds_zero (IsOf h d) x.ty))
zero_fits h (x ∷ xs) (suc k) e v is = zero_fits h xs k e v is

equal_is : (j k : ℕ) → j ≡ k → (j == k) ≡ true
equal_is j k e = eq-eqb j k e

equal_not : (j k : ℕ) → (j ≡ k → ⊥) → (j == k) ≡ false
equal_not j k f = go (j == k) refl
  where
    go : (b : Bool) → (j == k) ≡ b → b ≡ false
    go true e = absurd (f (eqb-true j k e))
    go false e = refl

module _ (types : List Algebraic) (prog : Prog) where
  abbrev zeros : StructId → List Value
  zeros d = zeros_of (slice_get prog.structs d.index)

  pub zeros_at : (d : StructId) (k : ℕ) (f : FieldDef) → field_at types prog d k ≡ Some f → slice_get (zeros d) k ≡ Some (zero_of f.ty)
  zeros_at d k f e = go (slice_get prog.structs d.index) e
    where
      go : (o : Option StructDef) → option_and_then (λ (s : StructDef). slice_get s.fields k) o ≡ Some f → slice_get (zeros_of o) k ≡ Some (zero_of f.ty)
      go None is = cc
      go (Some s) is = zero_at s.fields k f is

  pub zeros_fit : (h : List Record) (d : StructId) (k : ℕ) (e : Elem) (v : Value) → slice_get (zeros d) k ≡ Some v → Fits h e v
  zeros_fit h d k e v is = go (slice_get prog.structs d.index) is
    where
      go : (o : Option StructDef) → slice_get (zeros_of o) k ≡ Some v → Fits h e v
      go None i = cc
      go (Some s) i = zero_fits h s.fields k e v i

  -- Variables

  -- none of the tests is of this slot
  abbrev pub Unheld : ℕ → List Test → Type 0
  Unheld slot tests = Each (λ (t : Test). t.slot ≡ slot → ⊥) tests

  passed_on : (h : List Record) (slots : List Value) (slot : ℕ) (v : Value) (ts : List Test) → Unheld slot ts → Each (Passed h slots) ts → Each (Passed h (written slots slot v)) ts
  passed_on h slots slot v [] u p = tt
  passed_on h slots slot v (t ∷ ts) u p = ((λ q e. p.0 q (sym (written_there slots slot t.slot v u.0) ∙ e)), passed_on h slots slot v ts u.1 p.1)

  pub write_inv : (scope later : List Variable) (tests : List Test) (s : plain.State) (h : List Record) (slot : ℕ) (v : Value)
      → ((k : ℕ) (x : Variable) → slice_get later k ≡ Some x → (k ≡ slot → ⊥) → slice_get scope k ≡ Some x)
      → ((x : Variable) → slice_get later slot ≡ Some x → Fits h (base_of x.ty) v)
      → Unheld slot tests → Inv types prog scope tests s h → Inv types prog later tests (record s { slots = written s.slots slot v }) h
  write_inv scope later tests s h slot v others fit u i = record {
    alike = i.alike;
    fits = λ k x e. at k x e (same_or_not k slot);
    passed = passed_on h s.slots slot v tests u i.passed;
  }
    where
      at : (k : ℕ) (x : Variable) → slice_get later k ≡ Some x → (k ≡ slot) ⊎ (k ≡ slot → ⊥) → Fits h (base_of x.ty) (slice_index_or (written s.slots slot v) k blank)
      at k x e (inl same) = subst (Fits h (base_of x.ty)) (sym (ap (λ j. slice_index_or (written s.slots slot v) j blank) same ∙ written_here s.slots slot v)) (fit x (subst (λ j. slice_get later j ≡ Some x) same e))
      at k x e (inr other) = subst (Fits h (base_of x.ty)) (sym (written_there s.slots slot k v other)) (i.fits k x (others k x e other))

  -- Fields

  -- a record to which the value refers is of this struct and has this field
  abbrev pub HasField : List Record → StructId → ℕ → Value → Type 0
  HasField h d k v = (p : ℕ) → v ≡ value.Place p → (variant : Option ℕ) × (kind_at h p ≡ Some (d, variant)) × (has variant (role_of types prog d k) ≡ true)

  pub has_grows : (h h' : List Record) (d : StructId) (k : ℕ) (v : Value) → Grows h h' → HasField h d k v → HasField h' d k v
  has_grows h h' d k v g f p e = let r = f p e in (r.0, g p (d, r.0) r.1, r.2)

  -- what is read there on both sides
  record Reading (s : plain.State) (h : List Record) (p : ℕ) (d : StructId) (k : ℕ) (f : FieldDef) : Type 0 where
    it : Record
    fields : List Value
    old : Value
    there : slice_get h p ≡ Some it
    twin : slice_get s.heap p ≡ Some fields
    value : slice_get fields k ≡ Some old
    at : it.at k ≡ Some old
    same : Same types prog h fields it
    of : it.of ≡ d
    holds : has it.variant (role_of types prog it.of k) ≡ true
    field : field_at types prog it.of k ≡ Some f
    fits : Fits h (base_of f.ty) old

  reading : (scope : List Variable) (tests : List Test) (s : plain.State) (h : List Record) (p : ℕ) (d : StructId) (k : ℕ) (f : FieldDef) → Inv types prog scope tests s h → HasField h d k (value.Place p) → field_at types prog d k ≡ Some f → Reading s h p d k f
  reading scope tests s h p d k f i has_it is =
      let r = has_it p refl in
      let x = found h p d r.0 r.1 in
      let t = pairs_at types prog h s.heap h p x.it i.alike x.there in
      let field : field_at types prog x.it.of k ≡ Some f = ap (λ e. field_at types prog e k) x.of ∙ is in
      let v = as_long t.fields (zeros x.it.of) k (zero_of f.ty) t.same.long (zeros_at x.it.of k f field) in
      let holds : has x.it.variant (role_of types prog x.it.of k) ≡ true = (λ j. has (x.is j) (role_of types prog (x.of j) k)) ∙ r.2 in
      let at : x.it.at k ≡ Some v.0 = t.same.values k ∙ ap (λ b. if b then slice_get t.fields k else None) holds ∙ v.1 in
      record { it = x.it; fields = t.fields; old = v.0; there = x.there; twin = t.there; value = v.1; at = at; same = t.same; of = x.of; holds = holds; field = field; fits = t.same.fits k f v.0 field v.1 }

  pub plain_read : (s : plain.State) (p k : ℕ) (fields : List Value) (old : Value) → slice_get s.heap p ≡ Some fields → slice_get fields k ≡ Some old → slice_index_or (heap.record_at s p) k blank ≡ old
  plain_read s p k fields old e i = ap (λ fs. slice_index_or fs k blank) (get_or_from_slice_get s.heap p fields [] e) ∙ get_or_from_slice_get fields k old blank i

  pub read_ends : (scope : List Variable) (tests : List Test) (span : Span) (s : plain.State) (h : List Record) (v : Value) (d : StructId) (k : ℕ) (f : FieldDef) → Inv types prog scope tests s h → HasField h d k v → field_at types prog d k ≡ Some f
      → Ends types prog (λ (w : Value). scope) tests h (λ w j. Fits j (base_of f.ty) w) (heap.read_field span k v s) (read_field span k v (with_heap s h))
  read_ends scope tests span s h (value.Place p) d k f i has_it is =
      let r = reading scope tests s h p d k f i has_it is in
      let before = plain_read s p k r.fields r.old r.twin r.value in
      let P : Value → List Record → Type 0 = λ w j. Fits j (base_of f.ty) w in
      let here = ends_at types prog (λ (w : Value). scope) tests P r.old s h i r.fits in
      let one = subst (λ w. Ends types prog (λ (w : Value). scope) tests h P (plain.Goes w s) (Goes r.old (with_heap s h))) (sym before) here in
      subst (λ (o : Option Record). Ends types prog (λ (w : Value). scope) tests h P (plain.Goes (slice_index_or (heap.record_at s p) k blank) s) (or_stray (value_at o k) (with_heap s h))) (sym r.there)
      (subst (λ (o : Option Value). Ends types prog (λ (w : Value). scope) tests h P (plain.Goes (slice_index_or (heap.record_at s p) k blank) s) (or_stray o (with_heap s h))) (sym r.at) one)
  read_ends scope tests span s h (value.Int n) d k f i has_it is = refl
  read_ends scope tests span s h (value.Bit b) d k f i has_it is = refl
  read_ends scope tests span s h value.Null d k f i has_it is = refl
  read_ends scope tests span s h (value.Array' shape vs) d k f i has_it is = refl

  abbrev changed : Record → ℕ → Value → Record
  changed r k x = record r { at = replaced_at r.at k x }

  -- a field set on both sides
  pub same_set : (h : List Record) (fs : List Value) (r : Record) (k : ℕ) (f : FieldDef) (old x : Value) → Same types prog h fs r → has r.variant (role_of types prog r.of k) ≡ true → field_at types prog r.of k ≡ Some f → slice_get fs k ≡ Some old → Fits h (base_of f.ty) x → Same types prog h (slice_set fs k x) (changed r k x)
  same_set h fs r k f old x s holds is value fit = record {
    long = length-set fs k x ∙ s.long;
    values = λ j. at j (same_or_not j k);
    variant = λ a e. let v = s.variant a e in (v.0, v.1, set_there fs k 0 x (not_tag a e) ∙ v.2);
    fits = λ j g v e i. fitting j g v e i (same_or_not j k);
  }
    where
      not_tag : (a : Algebraic) → algebraic_of types prog.structs r.of ≡ Some a → 0 ≡ k → ⊥
      not_tag a e z = false≢true (sym (ap (λ (o : Option Algebraic). has r.variant (role_in o 0)) e) ∙ ap (λ j. has r.variant (role_of types prog r.of j)) z ∙ holds)

      at : (j : ℕ) → (j ≡ k) ⊎ (j ≡ k → ⊥) → replaced_at r.at k x j ≡ (if has r.variant (role_of types prog r.of j) then slice_get (slice_set fs k x) j else None)
      at j (inl same) =
          let here : (if has r.variant (role_of types prog r.of j) then slice_get (slice_set fs k x) j else None) ≡ Some x = ap (λ n. if has r.variant (role_of types prog r.of n) then slice_get (slice_set fs k x) n else None) same ∙ ap (λ b. if b then slice_get (slice_set fs k x) k else None) holds ∙ set_here fs k old x value in
          ap (λ b. if b then Some x else r.at j) (equal_is j k same) ∙ sym here
      at j (inr other) =
          ap (λ b. if b then Some x else r.at j) (equal_not j k other) ∙ s.values j ∙ ap (λ o. if has r.variant (role_of types prog r.of j) then o else None) (sym (set_there fs k j x other))

      fitting : (j : ℕ) (g : FieldDef) (v : Value) → field_at types prog r.of j ≡ Some g → slice_get (slice_set fs k x) j ≡ Some v → (j ≡ k) ⊎ (j ≡ k → ⊥) → Fits h (base_of g.ty) v
      fitting j g v e i (inl same) =
          let one : Some g ≡ Some f = sym e ∙ ap (λ n. field_at types prog r.of n) same ∙ is in
          let two : Some x ≡ Some v = sym (set_here fs k old x value) ∙ ap (λ n. slice_get (slice_set fs k x) n) (sym same) ∙ i in
          let field : f ≡ g = cc in
          let it : x ≡ v = cc in
          subst (λ (d : FieldDef). Fits h (base_of d.ty) v) field (subst (Fits h (base_of f.ty)) it fit)
      fitting j g v e i (inr other) = s.fits j g v e (sym (set_there fs k j x other) ∙ i)

  write_ends : (scope : List Variable) (tests : List Test) (span : Span) (s : plain.State) (h : List Record) (p : ℕ) (d : StructId) (k : ℕ) (f : FieldDef) (x : Value) → Inv types prog scope tests s h → Reading s h p d k f → Fits h (base_of f.ty) x
      → Ends types prog (λ (u : Unit {0}). scope) tests h (λ u j. Unit {0}) (heap.write_field span k x (value.Place p) s) (write_field span k x (value.Place p) (with_heap s h))
  write_ends scope tests span s h p d k f x i r fit =
      let new : List Record = slice_set h p (changed r.it k x) in
      let grows : Grows h new = grows_set h p (changed r.it k x) (ap (λ (o : Option Record). kind_of o) r.there) in
      let same = same_set new r.fields r.it k f r.old x (same_grows types prog h new r.fields r.it grows r.same) r.holds r.field r.value (fits_grows h new (base_of f.ty) x grows fit) in
      let inv : Inv types prog scope tests (record s { heap = slice_set s.heap p (slice_set r.fields k x) }) new = record {
        alike = pairs_set types prog new (slice_set r.fields k x) (changed r.it k x) same s.heap h p (pairs_grow types prog h new grows s.heap h i.alike);
        fits = λ n y e. fits_grows h new (base_of y.ty) (slice_index_or s.slots n blank) grows (i.fits n y e);
        passed = passed_grows h new s.slots grows tests i.passed;
      } in
      let P : Unit {0} → List Record → Type 0 = λ u j. Unit {0} in
      let end : Ends types prog (λ (u : Unit {0}). scope) tests h P (plain.Goes tt (record s { heap = slice_set s.heap p (slice_set r.fields k x) })) (Goes tt (record { heap = new; slots = s.slots; cost = s.cost })) = (refl, refl, record { inv = inv; grows = grows; gives = tt }) in
      let one = subst (λ fs. Ends types prog (λ (u : Unit {0}). scope) tests h P (plain.Goes tt (record s { heap = slice_set s.heap p (slice_set fs k x) })) (Goes tt (record { heap = new; slots = s.slots; cost = s.cost }))) (sym (get_or_from_slice_get s.heap p r.fields [] r.twin)) end in
      subst (λ (o : Option Record). Ends types prog (λ (u : Unit {0}). scope) tests h P (plain.Goes tt (record s { heap = slice_set s.heap p (slice_set (heap.record_at s p) k x) })) (put p (option_and_then (with_field k x) o) (with_heap s h))) (sym r.there)
      (subst (λ (o : Option Value). Ends types prog (λ (u : Unit {0}). scope) tests h P (plain.Goes tt (record s { heap = slice_set s.heap p (slice_set (heap.record_at s p) k x) })) (put p (option_map (λ (old : Value). changed r.it k x) o) (with_heap s h))) (sym r.at) one)

  -- Targets

  -- a target whose values are of this type: a variable that no test holds, or a field that is there
  abbrev pub Rooted : List Variable → List Test → Elem → List Record → Root → Type 0
  Rooted scope tests e h (AtSlot slot) = (x : Variable) × (slice_get scope slot ≡ Some x) × (base_of x.ty ≡ e) × Unheld slot tests
  Rooted scope tests e h (Field v k) = (d : StructId) × (f : FieldDef) × (field_at types prog d k ≡ Some f) × (base_of f.ty ≡ e) × HasField h d k v

  pub rooted_grows : (scope : List Variable) (tests : List Test) (e : Elem) (h h' : List Record) (r : Root) → Grows h h' → Rooted scope tests e h r → Rooted scope tests e h' r
  rooted_grows scope tests e h h' (AtSlot slot) g r = r
  rooted_grows scope tests e h h' (Field v k) g r = (r.0, r.1, r.2, r.3, has_grows h h' r.0 k v g r.4)

  replaced_fits : (h : List Record) (e : Elem) (is : List ℤ) (v part w : Value) → replaced is v part ≡ Some w → Fits h e v → Fits h e part → Fits h e w
  replaced_fits h e is v part w i = fits_both h e v part w (λ d a b. holds_replaced (IsOf h d) is v part w a b i)

  module _ (scope : List Variable) (tests : List Test) (span : Span) (s : plain.State) (h : List Record) (i : Inv types prog scope tests s h) where
    abbrev Done : plain.Step (Unit {0}) → Step (Unit {0}) → Type 0
    Done m n = Ends types prog (λ (u : Unit {0}). scope) tests h (λ u j. Unit {0}) m n

    to_slot : (slot : ℕ) (e : Elem) → Rooted scope tests e h (AtSlot slot) → (o : Option Value) → ((x : Value) → o ≡ Some x → Fits h e x) → Done (heap.write_whole span (AtSlot slot) o s) (write_whole span (AtSlot slot) o (with_heap s h))
    to_slot slot e r None fit = refl
    to_slot slot e r (Some x) fit =
        let fits : (y : Variable) → slice_get scope slot ≡ Some y → Fits h (base_of y.ty) x = (λ y is.
        let same : r.0 ≡ y = the r.0 y (sym r.1 ∙ is) in
        subst (λ (z : Variable). Fits h (base_of z.ty) x) same (subst (λ b. Fits h b x) (sym r.2) (fit x refl))) in
        (refl, refl, record { inv = write_inv scope scope tests s h slot x (λ k y is other. is) fits r.3 i; grows = grows_same h; gives = tt })
      where
        the : (a b : Variable) → Some a ≡ Some b → a ≡ b
        the a b is = cc

    to_field : (p : ℕ) (d : StructId) (k : ℕ) (f : FieldDef) → Reading s h p d k f → (o : Option Value) → ((x : Value) → o ≡ Some x → Fits h (base_of f.ty) x) → Done (heap.write_whole span (Field (value.Place p) k) o s) (write_whole span (Field (value.Place p) k) o (with_heap s h))
    to_field p d k f r None fit = refl
    to_field p d k f r (Some x) fit = write_ends scope tests span s h p d k f x i r (fit x refl)

    store_root : (root : Root) (is : List ℤ) (v : Value) (e : Elem) → Rooted scope tests e h root → Fits h e v → Done (heap.store span (record { root = root; indexes = is }) v s) (store span (record { root = root; indexes = is }) v (with_heap s h))
    store_root (AtSlot slot) is v e r fit =
        let w : Value = slice_index_or s.slots slot blank in
        let old : Fits h e w = subst (λ b. Fits h b w) r.2 (i.fits slot r.0 r.1) in
        to_slot slot e r (replaced is w v) (λ x same. replaced_fits h e is w v x same old fit)
    store_root (Field (value.Place p) k) is v e r fit =
        let g = reading scope tests s h p r.0 k r.1 i r.4 r.2 in
        let before = plain_read s p k g.fields g.old g.twin g.value in
        let fits : (x : Value) → replaced is g.old v ≡ Some x → Fits h (base_of r.1.ty) x = (λ x same. replaced_fits h (base_of r.1.ty) is g.old v x same g.fits (subst (λ b. Fits h b v) (sym r.3) fit)) in
        let end = to_field p r.0 k r.1 g (replaced is g.old v) fits in
        let one = subst (λ w. Done (heap.write_whole span (Field (value.Place p) k) (replaced is w v) s) (write_whole span (Field (value.Place p) k) (replaced is g.old v) (with_heap s h))) (sym before) end in
        subst (λ (o : Option Record). Done (heap.write_whole span (Field (value.Place p) k) (replaced is (slice_index_or (heap.record_at s p) k blank) v) s) (and_then (or_stray (value_at o k) (with_heap s h)) (λ whole. write_whole span (Field (value.Place p) k) (replaced is whole v)))) (sym g.there)
        (subst (λ (o : Option Value). Done (heap.write_whole span (Field (value.Place p) k) (replaced is (slice_index_or (heap.record_at s p) k blank) v) s) (and_then (or_stray o (with_heap s h)) (λ whole. write_whole span (Field (value.Place p) k) (replaced is whole v)))) (sym g.at) one)
    store_root (Field (value.Int n) k) is v e r fit = refl
    store_root (Field (value.Bit b) k) is v e r fit = refl
    store_root (Field value.Null k) is v e r fit = refl
    store_root (Field (value.Array' shape vs) k) is v e r fit = refl

    pub store_ends : (l : Location) (v : Value) (e : Elem) → Rooted scope tests e h l.root → Fits h e v → Done (heap.store span l v s) (store span l v (with_heap s h))
    store_ends l v e r fit = store_root l.root l.indexes v e r fit
