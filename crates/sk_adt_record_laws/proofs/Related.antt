-- Runs and runs with records by their variants, side by side: records, heaps, states and steps of which one is what the other is.
use Rattle.std.proofs.Common.{◌≡◌, ℕ, zero, suc, pos, List, [], ◌∷◌, ◌++◌, length, slice_get, Option, Some, None, refl, sym, ap, subst, ◌∙◌}
use Rattle.std.specs.Prelude.{slice_set, slice_index_or, option_and_then, if◌then◌else◌}
use Rattle.sk_prog.specs.declared.ids.StructId.{StructId}
use Rattle.sk_prog.specs.declared.ty.Elem.{Elem}
use Rattle.sk_prog.specs.declared.ty.Elem.TheVariants as elem
use Rattle.sk_prog.specs.declared.value.Value.{Value}
use Rattle.sk_prog.specs.declared.value.Value.TheVariants as value
use Rattle.sk_prog.specs.declared.prog.FieldDef.{FieldDef}
use Rattle.sk_prog.specs.declared.prog.StructDef.{StructDef}
use Rattle.sk_prog.specs.declared.prog.Prog.{Prog}
use Rattle.sk_types_rules.specs.declared.scope.Variable.{Variable}
use Rattle.sk_types_rules.specs.Rules.{base_of}
use Rattle.sk_model.specs.Step as plain
use Rattle.sk_model.specs.Heap.{blank, zeros_of}
use Rattle.sk_model.proofs.Induction.{Each}
use Rattle.sk_adt.specs.declared.algebraic.Algebraic.{Algebraic}
use Rattle.sk_adt_tags.specs.declared.role.Test.{Test}
use Rattle.sk_adt_tags.specs.Tags.{algebraic_of}
use Rattle.sk_adt_records.specs.Steps.{Record, State, Step, Goes, Fails, Skips, Strays, Comp, and_then}
use Rattle.sk_adt_records.specs.Heap.{has, role_of}
use Rattle.sk_adt_record_laws.proofs.Places.{Holds, each_map}

-- What records are

abbrev pub kind_of : Option Record → Option (StructId × Option ℕ)
kind_of None = None
kind_of (Some r) = Some (r.of, r.variant)

-- the struct and the variant of the record at a place
abbrev pub kind_at : List Record → ℕ → Option (StructId × Option ℕ)
kind_at h p = kind_of (slice_get h p)

-- records stay what they are
abbrev pub Grows : List Record → List Record → Type 0
Grows h h' = (p : ℕ) (k : StructId × Option ℕ) → kind_at h p ≡ Some k → kind_at h' p ≡ Some k

pub grows_same : (h : List Record) → Grows h h
grows_same h p k e = e

pub grows_on : (h h' h'' : List Record) → Grows h h' → Grows h' h'' → Grows h h''
grows_on h h' h'' f g p k e = g p k (f p k e)

-- the record at this place is of this struct
abbrev pub IsOf : List Record → StructId → ℕ → Type 0
IsOf h d p = (variant : Option ℕ) × (kind_at h p ≡ Some (d, variant))

-- of a type whose single values are these: each reference in the value is to a record of its struct
abbrev pub Fits : List Record → Elem → Value → Type 0
Fits h (elem.Reference d) v = Holds (IsOf h d) v
Fits h elem.Int v = Unit {0}
Fits h elem.Bit v = Unit {0}

pub fits_by : (h : List Record) (e : Elem) (v : Value) → ((d : StructId) → Holds (IsOf h d) v) → Fits h e v
fits_by h (elem.Reference d) v f = f d
fits_by h elem.Int v f = tt
fits_by h elem.Bit v f = tt

-- what keeps the places of one value or of two keeps what fits
pub fits_map : (h : List Record) (e : Elem) (v w : Value) → ((d : StructId) → Holds (IsOf h d) v → Holds (IsOf h d) w) → Fits h e v → Fits h e w
fits_map h (elem.Reference d) v w f g = f d g
fits_map h elem.Int v w f g = tt
fits_map h elem.Bit v w f g = tt

pub fits_both : (h : List Record) (e : Elem) (u v w : Value) → ((d : StructId) → Holds (IsOf h d) u → Holds (IsOf h d) v → Holds (IsOf h d) w) → Fits h e u → Fits h e v → Fits h e w
fits_both h (elem.Reference d) u v w f g k = f d g k
fits_both h elem.Int u v w f g k = tt
fits_both h elem.Bit u v w f g k = tt

pub fits_grows : (h h' : List Record) (e : Elem) (v : Value) → Grows h h' → Fits h e v → Fits h' e v
fits_grows h h' (elem.Reference d) v g f = each_map (IsOf h d) (IsOf h' d) (λ p k. (k.0, g p (d, k.0) k.1)) _ f
fits_grows h h' elem.Int v g f = tt
fits_grows h h' elem.Bit v g f = tt

pub record Found (h : List Record) (p : ℕ) (d : StructId) (variant : Option ℕ) : Type 0 where
  pub it : Record
  pub there : slice_get h p ≡ Some it
  pub of : it.of ≡ d
  pub is : it.variant ≡ variant

pub found : (h : List Record) (p : ℕ) (d : StructId) (variant : Option ℕ) → kind_at h p ≡ Some (d, variant) → Found h p d variant
found h p d variant e = go (slice_get h p) refl e
  where
    go : (o : Option Record) → slice_get h p ≡ o → kind_of o ≡ Some (d, variant) → Found h p d variant
    go None is k = cc
    go (Some r) is k = let same : (r.of, r.variant) ≡ (d, variant) = cc in record { it = r; there = is; of = ap (λ (x : StructId × Option ℕ). x.0) same; is = ap (λ (x : StructId × Option ℕ). x.1) same }

-- a heap with one more record, and one with a record changed
pub grows_more : (h : List Record) (r : Record) → Grows h (h ++ r ∷ [])
grows_more [] r p k e = cc
grows_more (x ∷ xs) r zero k e = e
grows_more (x ∷ xs) r (suc p) k e = grows_more xs r p k e

pub grows_set : (h : List Record) (p : ℕ) (r : Record) → kind_at h p ≡ Some (r.of, r.variant) → Grows h (slice_set h p r)
grows_set [] p r same j k e = cc
grows_set (x ∷ xs) zero r same zero k e = sym same ∙ e
grows_set (x ∷ xs) zero r same (suc j) k e = e
grows_set (x ∷ xs) (suc p) r same zero k e = e
grows_set (x ∷ xs) (suc p) r same (suc j) k e = grows_set xs p r same j k e

pub last_kind : (h : List Record) (r : Record) → kind_at (h ++ r ∷ []) (length h) ≡ Some (r.of, r.variant)
last_kind [] r = refl
last_kind (x ∷ xs) r = last_kind xs r

-- Steps

-- the state of a run with the other records
abbrev pub with_heap : plain.State → List Record → State
with_heap s h = record { heap = h; slots = s.slots; cost = s.cost }

-- Both go on with the same value, to states that are alike so, or both end in the same way.
abbrev pub StepsAlike : {A : Type 0} → (A → plain.State → List Record → Type 0) → plain.Step A → Step A → Type 0
StepsAlike J (plain.Goes a s) (Goes b t) = (a ≡ b) × (t ≡ with_heap s t.heap) × J a s t.heap
StepsAlike J (plain.Fails x) (Fails y) = x ≡ y
StepsAlike J (plain.Skips x) (Skips y) = x ≡ y
StepsAlike J _ _ = ⊥

pub steps_map : {A : Type 0} (J K : A → plain.State → List Record → Type 0) → ((a : A) (s : plain.State) (h : List Record) → J a s h → K a s h) → (m : plain.Step A) (n : Step A) → StepsAlike J m n → StepsAlike K m n
steps_map J K f (plain.Goes a s) (Goes b t) r = (r.0, r.1, f a s t.heap r.2)
steps_map J K f (plain.Fails x) (Fails y) r = r
steps_map J K f (plain.Skips x) (Skips y) r = r
steps_map J K f (plain.Goes a s) (Fails y) r = absurd r
steps_map J K f (plain.Goes a s) (Skips y) r = absurd r
steps_map J K f (plain.Goes a s) Strays r = absurd r
steps_map J K f (plain.Fails x) (Goes b t) r = absurd r
steps_map J K f (plain.Fails x) (Skips y) r = absurd r
steps_map J K f (plain.Fails x) Strays r = absurd r
steps_map J K f (plain.Skips x) (Goes b t) r = absurd r
steps_map J K f (plain.Skips x) (Fails y) r = absurd r
steps_map J K f (plain.Skips x) Strays r = absurd r

pub steps_then : {A B : Type 0} (J : A → plain.State → List Record → Type 0) (K : B → plain.State → List Record → Type 0) (m : plain.Step A) (n : Step A) (k : A → plain.Comp B) (l : A → Comp B) → StepsAlike J m n → ((a : A) (s : plain.State) (h : List Record) → J a s h → StepsAlike K (k a s) (l a (with_heap s h))) → StepsAlike K (plain.and_then m k) (and_then n l)
steps_then J K (plain.Goes a s) (Goes b t) k l r f =
    let here = f a s t.heap r.2 in
    subst (λ c. StepsAlike K (k a s) (l c t)) r.0 (subst (λ u. StepsAlike K (k a s) (l a u)) (sym r.1) here)
steps_then J K (plain.Fails x) (Fails y) k l r f = r
steps_then J K (plain.Skips x) (Skips y) k l r f = r
steps_then J K (plain.Goes a s) (Fails y) k l r f = absurd r
steps_then J K (plain.Goes a s) (Skips y) k l r f = absurd r
steps_then J K (plain.Goes a s) Strays k l r f = absurd r
steps_then J K (plain.Fails x) (Goes b t) k l r f = absurd r
steps_then J K (plain.Fails x) (Skips y) k l r f = absurd r
steps_then J K (plain.Fails x) Strays k l r f = absurd r
steps_then J K (plain.Skips x) (Goes b t) k l r f = absurd r
steps_then J K (plain.Skips x) (Fails y) k l r f = absurd r
steps_then J K (plain.Skips x) Strays k l r f = absurd r

-- Tests

-- what the variable of a test holds is null or a record of its variant
abbrev pub Passed : List Record → List Value → Test → Type 0
Passed h slots t = (p : ℕ) → slice_index_or slots t.slot blank ≡ value.Place p → (d : StructId) × (kind_at h p ≡ Some (d, Some t.variant))

pub passed_grows : (h h' : List Record) (slots : List Value) → Grows h h' → (ts : List Test) → Each (Passed h slots) ts → Each (Passed h' slots) ts
passed_grows h h' slots g ts = each_map (Passed h slots) (Passed h' slots) (λ t f p e. let k = f p e in (k.0, g p (k.0, Some t.variant) k.1)) ts

module _ (types : List Algebraic) (prog : Prog) where
  abbrev pub field_at : StructId → ℕ → Option FieldDef
  field_at d k = option_and_then (λ (s : StructDef). slice_get s.fields k) (slice_get prog.structs d.index)

  -- A record of a run, with these fields, and the same record by its variant, in a heap.
  pub record Same (h : List Record) (fs : List Value) (r : Record) : Type 0 where
    pub long : length fs ≡ length (zeros_of (slice_get prog.structs r.of.index))
    pub values : (k : ℕ) → r.at k ≡ (if has r.variant (role_of types prog r.of k) then slice_get fs k else None)
    pub variant : (a : Algebraic) → algebraic_of types prog.structs r.of ≡ Some a → (j : ℕ) × (r.variant ≡ Some j) × (slice_get fs 0 ≡ Some (value.Int (pos j)))
    pub fits : (k : ℕ) (f : FieldDef) (v : Value) → field_at r.of k ≡ Some f → slice_get fs k ≡ Some v → Fits h (base_of f.ty) v

  pub same_grows : (h h' : List Record) (fs : List Value) (r : Record) → Grows h h' → Same h fs r → Same h' fs r
  same_grows h h' fs r g s = record { long = s.long; values = s.values; variant = s.variant; fits = λ k f v e i. fits_grows h h' (base_of f.ty) v g (s.fits k f v e i) }

  -- the records of two heaps, in a heap
  abbrev pub Pairs : List Record → List (List Value) → List Record → Type 0
  Pairs h [] [] = Unit {0}
  Pairs h (fs ∷ fss) (r ∷ rs) = Same h fs r × Pairs h fss rs
  Pairs h [] (r ∷ rs) = ⊥
  Pairs h (fs ∷ fss) [] = ⊥

  pub pairs_grow : (h h' : List Record) → Grows h h' → (fss : List (List Value)) (rs : List Record) → Pairs h fss rs → Pairs h' fss rs
  pairs_grow h h' g [] [] p = tt
  pairs_grow h h' g (fs ∷ fss) (r ∷ rs) p = (same_grows h h' fs r g p.0, pairs_grow h h' g fss rs p.1)
  pairs_grow h h' g [] (r ∷ rs) p = absurd p
  pairs_grow h h' g (fs ∷ fss) [] p = absurd p

  pub pairs_more : (h : List Record) (fs : List Value) (r : Record) → Same h fs r → (fss : List (List Value)) (rs : List Record) → Pairs h fss rs → Pairs h (fss ++ fs ∷ []) (rs ++ r ∷ [])
  pairs_more h fs r s [] [] p = (s, tt)
  pairs_more h fs r s (x ∷ xs) (y ∷ ys) p = (p.0, pairs_more h fs r s xs ys p.1)
  pairs_more h fs r s [] (y ∷ ys) p = absurd p
  pairs_more h fs r s (x ∷ xs) [] p = absurd p

  pub pairs_length : (h : List Record) (fss : List (List Value)) (rs : List Record) → Pairs h fss rs → length fss ≡ length rs
  pairs_length h [] [] p = refl
  pairs_length h (x ∷ xs) (y ∷ ys) p = ap suc (pairs_length h xs ys p.1)
  pairs_length h [] (y ∷ ys) p = absurd p
  pairs_length h (x ∷ xs) [] p = absurd p

  pub record Twin (h : List Record) (fss : List (List Value)) (p : ℕ) (r : Record) : Type 0 where
    pub fields : List Value
    pub there : slice_get fss p ≡ Some fields
    pub same : Same h fields r

  pub pairs_at : (h : List Record) (fss : List (List Value)) (rs : List Record) (p : ℕ) (r : Record) → Pairs h fss rs → slice_get rs p ≡ Some r → Twin h fss p r
  pairs_at h [] [] p r q e = cc
  pairs_at h (x ∷ xs) (y ∷ ys) zero r q e = let same : y ≡ r = cc in record { fields = x; there = refl; same = subst (Same h x) same q.0 }
  pairs_at h (x ∷ xs) (y ∷ ys) (suc p) r q e = let t = pairs_at h xs ys p r q.1 e in record { fields = t.fields; there = t.there; same = t.same }
  pairs_at h [] (y ∷ ys) p r q e = absurd q
  pairs_at h (x ∷ xs) [] p r q e = absurd q

  pub pairs_set : (h : List Record) (fs : List Value) (r : Record) → Same h fs r → (fss : List (List Value)) (rs : List Record) (p : ℕ) → Pairs h fss rs → Pairs h (slice_set fss p fs) (slice_set rs p r)
  pairs_set h fs r s [] [] p q = tt
  pairs_set h fs r s (x ∷ xs) (y ∷ ys) zero q = (s, q.1)
  pairs_set h fs r s (x ∷ xs) (y ∷ ys) (suc p) q = (q.0, pairs_set h fs r s xs ys p q.1)
  pairs_set h fs r s [] (y ∷ ys) p q = absurd q
  pairs_set h fs r s (x ∷ xs) [] p q = absurd q

  -- the two heaps are alike
  abbrev pub Alike : List (List Value) → List Record → Type 0
  Alike heap h = Pairs h heap h

  -- The states are alike, what variables in scope hold fits their types, and the tests hold.
  pub record Inv (scope : List Variable) (tests : List Test) (s : plain.State) (h : List Record) : Type 0 where
    pub alike : Alike s.heap h
    pub fits : (slot : ℕ) (x : Variable) → slice_get scope slot ≡ Some x → Fits h (base_of x.ty) (slice_index_or s.slots slot blank)
    pub passed : Each (Passed h s.slots) tests

  -- what holds after a step from a heap
  pub record After (scope : List Variable) (tests : List Test) (from : List Record) (P : List Record → Type 0) (s : plain.State) (h : List Record) : Type 0 where
    pub inv : Inv scope tests s h
    pub grows : Grows from h
    pub gives : P h

  -- Both steps end alike: with a value, of which P holds in the later heap, in states that are alike.
  abbrev pub Ends : {A : Type 0} → (A → List Variable) → List Test → List Record → (A → List Record → Type 0) → plain.Step A → Step A → Type 0
  Ends scope tests from P m n = StepsAlike (λ a s h. After (scope a) tests from (P a) s h) m n

  pub ends_from : {A : Type 0} (scope : A → List Variable) (tests : List Test) (from h : List Record) (P : A → List Record → Type 0) (m : plain.Step A) (n : Step A) → Grows from h → Ends scope tests h P m n → Ends scope tests from P m n
  ends_from scope tests from h P m n g = steps_map (λ a s k. After (scope a) tests h (P a) s k) (λ a s k. After (scope a) tests from (P a) s k) (λ a s k r. record { inv = r.inv; grows = grows_on from h k g r.grows; gives = r.gives }) m n

  pub ends_map : {A : Type 0} (scope : A → List Variable) (tests : List Test) (from : List Record) (P Q : A → List Record → Type 0) (m : plain.Step A) (n : Step A) → ((a : A) (h : List Record) → P a h → Q a h) → Ends scope tests from P m n → Ends scope tests from Q m n
  ends_map scope tests from P Q m n f = steps_map (λ a s k. After (scope a) tests from (P a) s k) (λ a s k. After (scope a) tests from (Q a) s k) (λ a s k r. record { inv = r.inv; grows = r.grows; gives = f a k r.gives }) m n

  -- one step after another
  pub ends_then : {A B : Type 0} (scope : A → List Variable) (inner : B → List Variable) (tests : List Test) (from : List Record) (P : A → List Record → Type 0) (Q : B → List Record → Type 0) (m : plain.Step A) (n : Step A) (k : A → plain.Comp B) (l : A → Comp B)
      → Ends scope tests from P m n
      → ((a : A) (s : plain.State) (h : List Record) → Inv (scope a) tests s h → Grows from h → P a h → Ends inner tests h Q (k a s) (l a (with_heap s h)))
      → Ends inner tests from Q (plain.and_then m k) (and_then n l)
  ends_then scope inner tests from P Q m n k l r f =
      steps_then (λ a s h. After (scope a) tests from (P a) s h) (λ b s h. After (inner b) tests from (Q b) s h) m n k l r
      (λ a s h j. ends_from inner tests from h Q (k a s) (l a (with_heap s h)) j.grows (f a s h j.inv j.grows j.gives))

  -- what gives a value at once
  pub ends_at : {A : Type 0} (scope : A → List Variable) (tests : List Test) (P : A → List Record → Type 0) (a : A) (s : plain.State) (h : List Record) → Inv (scope a) tests s h → P a h → Ends scope tests h P (plain.Goes a s) (Goes a (with_heap s h))
  ends_at scope tests P a s h i p = (refl, refl, record { inv = i; grows = grows_same h; gives = p })
