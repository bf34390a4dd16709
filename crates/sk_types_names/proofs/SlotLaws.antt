-- The table of slots, when a variable is entered and when the last one leaves.
use Rattle.std.proofs.Common.{◌≡◌, ℕ, zero, suc, ◌+◌, ◌-◌, ◌<◌, ◌≤◌, Bool, true, false, cond, List, [], ◌∷◌, ◌++◌, length, take, Option, Some, None, refl, sym, ap, subst, ◌∙◌, arith, ◌⊎◌, inl, inr, append_assoc}
use Rattle.std.specs.Prelude.{map, slice_get, IsSome, if◌then◌else◌}
use Rattle.std.specs.Cmp.Lexicographic.{bytes_decides}
use Rattle.std.specs.Str.{bytes_eq}
use Rattle.std.proofs.lemmas.List.{map-append, length-map, take_all}
use Rattle.sk_types_rules.specs.declared.scope.Variable.{Variable}
use Rattle.sk_types_rules.specs.declared.scope.Place.{Place}
use Rattle.sk_types_rules.specs.Scope.{latest, lookup}
use Rattle.sk_types_rules.proofs.Nearest.{lookup_nearest}
use Rattle.sk_types_names.specs.declared.scope.Entered.{Entered}
use Rattle.sk_types_names.specs.Tables.{number_of, Sets}
use Rattle.sk_types_names.specs.Slots.{variables, slot_in, AreSlots}

-- the nearest, among one more
last_found : (vs : List Variable) (v : Variable) (k : ℕ) (found : Option Place) (x : List ℕ)
    → latest k found (vs ++ v ∷ []) x ≡ (if bytes_eq v.name x then Some (record { slot = length vs + k; ty = v.ty }) else latest k found vs x)
last_found [] v k found x = let e : k ≡ 0 + k = omega arith in ap (λ n. if bytes_eq v.name x then Some (record { slot = n; ty = v.ty }) else found) e
last_found (w ∷ vs) v k found x =
    let now = (if bytes_eq w.name x then Some (record { slot = k; ty = w.ty }) else found) in
    let e : length vs + suc k ≡ suc (length vs) + k = omega arith in
    last_found vs v (suc k) now x ∙ ap (λ n. if bytes_eq v.name x then Some (record { slot = n; ty = v.ty }) else latest (suc k) now vs x) e

slot_of_last : (vs : List Variable) (v : Variable) (x : List ℕ) → slot_in (lookup (vs ++ v ∷ []) x) ≡ cond (bytes_eq v.name x) (Some (length vs)) (slot_in (lookup vs x))
slot_of_last vs v x = ap slot_in (last_found vs v 0 None x) ∙ by (bytes_eq v.name x)
  where
    e : length vs + 0 ≡ length vs
    e = omega arith

    by : (b : Bool) → slot_in (if b then Some (record { slot = length vs + 0; ty = v.ty }) else lookup vs x) ≡ cond b (Some (length vs)) (slot_in (lookup vs x))
    by true = ap Some e
    by false = refl

slot_of_entered : (es : List Entered) (e : Entered) (x : List ℕ) → slot_in (lookup (variables (es ++ e ∷ [])) x) ≡ cond (bytes_eq e.variable.name x) (Some (length es)) (slot_in (lookup (variables es) x))
slot_of_entered es e x =
    ap (λ vs. slot_in (lookup vs x)) (map-append (λ (e : Entered). e.variable) es (e ∷ []))
    ∙ slot_of_last (variables es) e.variable x
    ∙ ap (λ n. cond (bytes_eq e.variable.name x) (Some n) (slot_in (lookup (variables es) x))) (length-map es (λ (e : Entered). e.variable))

-- where a list with one more at its end is split
some_left : {X : Type 0} (bs : List X) (d : X) (after : List X) → [] ≡ bs ++ d ∷ after → ⊥
some_left [] d after h = cc
some_left (b ∷ bs) d after h = cc

split_last : {X : Type 0} (es before : List X) (e d : X) (after : List X) → es ++ e ∷ [] ≡ before ++ d ∷ after → ((es ≡ before) × (e ≡ d)) ⊎ ((rest : List X) × (es ≡ before ++ d ∷ rest))
split_last [] [] e d after h = let same : e ≡ d = cc in inl (refl, same)
split_last [] (b ∷ bs) e d after h = let none : [] ≡ bs ++ d ∷ after = cc in absurd (some_left bs d after none)
split_last (y ∷ ys) [] e d after h = let same : y ≡ d = cc in inr (ys, ap (λ z. z ∷ ys) same)
split_last (y ∷ ys) (b ∷ bs) e d after h =
    let first : y ≡ b = cc in
    let rest : ys ++ e ∷ [] ≡ bs ++ d ∷ after = cc in
    elim (split_last ys bs e d after rest) [
      | inl s ↦ inl ((λ i. first i ∷ s.0 i), s.1)
      | inr s ↦ inr (s.0, (λ i. first i ∷ s.1 i))
    ]

-- no variables
pub no_slots : (rows : List (List ℕ × ℕ)) → rows ≡ [] → AreSlots [] rows
unfolding number_of
no_slots rows h = record { nearest = λ x. ap (λ rows. number_of rows x) h; hidden = λ before after e is. absurd (some_left before e after is) }

-- one more variable
pub entered_slots : (es : List Entered) (e : Entered) (rows new : List (List ℕ × ℕ)) → AreSlots es rows → number_of rows e.variable.name ≡ e.hides → Sets rows new e.variable.name (Some (length es)) → AreSlots (es ++ e ∷ []) new
entered_slots es e rows new h hides sets = record { nearest = near; hidden = before }
  where
    near : (x : List ℕ) → number_of new x ≡ slot_in (lookup (variables (es ++ e ∷ [])) x)
    near x = sets x ∙ ap (cond (bytes_eq e.variable.name x) (Some (length es))) (h.nearest x) ∙ sym (slot_of_entered es e x)

    before : (front after : List Entered) (d : Entered) → es ++ e ∷ [] ≡ front ++ d ∷ after → d.hides ≡ slot_in (lookup (variables front) d.variable.name)
    before front after d is = elim (split_last es front e d after is) [
      | inl s ↦ subst (λ (d : Entered). d.hides ≡ slot_in (lookup (variables front) d.variable.name)) s.1 (sym hides ∙ h.nearest e.variable.name ∙ ap (λ es. slot_in (lookup (variables es) e.variable.name)) s.0)
      | inr s ↦ h.hidden front s.0 d s.1
    ]

-- the last variable leaves
pub left_slots : (es : List Entered) (e : Entered) (rows new : List (List ℕ × ℕ)) → AreSlots (es ++ e ∷ []) rows → Sets rows new e.variable.name e.hides → AreSlots es new
left_slots es e rows new h sets = record { nearest = near; hidden = λ front after d is. h.hidden front (after ++ e ∷ []) d (ap (λ l. l ++ e ∷ []) is ∙ append_assoc front (d ∷ after) (e ∷ [])) }
  where
    hides : e.hides ≡ slot_in (lookup (variables es) e.variable.name)
    hides = h.hidden es [] e refl

    by : (x : List ℕ) (b : Bool) → bytes_eq e.variable.name x ≡ b → cond b e.hides (cond b (Some (length es)) (slot_in (lookup (variables es) x))) ≡ slot_in (lookup (variables es) x)
    by x true is = hides ∙ ap (λ y. slot_in (lookup (variables es) y)) ((bytes_decides e.variable.name x).0 is)
    by x false is = refl

    near : (x : List ℕ) → number_of new x ≡ slot_in (lookup (variables es) x)
    near x = sets x ∙ ap (cond (bytes_eq e.variable.name x) e.hides) (h.nearest x ∙ slot_of_entered es e x) ∙ by x (bytes_eq e.variable.name x) refl

-- which has a slot
pub has_slot : (es : List Entered) (e : Entered) (rows : List (List ℕ × ℕ)) → AreSlots (es ++ e ∷ []) rows → IsSome (number_of rows e.variable.name)
has_slot es e rows h =
    let same = (bytes_decides e.variable.name e.variable.name).1 refl in
    subst IsSome (sym (h.nearest e.variable.name ∙ slot_of_entered es e e.variable.name ∙ ap (λ b. cond b (Some (length es)) (slot_in (lookup (variables es) e.variable.name))) same)) refl

-- what is found by its slot
abbrev pub placed : ℕ → Option Entered → Option Place
placed i None = None
placed i (Some e) = Some (record { slot = i; ty = e.variable.ty })

abbrev pub place_in : List Entered → Option ℕ → Option Place
place_in es None = None
place_in es (Some i) = placed i (slice_get es i)

abbrev seen : ℕ → Option Variable → Option Place
seen i None = None
seen i (Some v) = Some (record { slot = i; ty = v.ty })

entered_at : (es : List Entered) (i n : ℕ) → seen n (slice_get (variables es) i) ≡ placed n (slice_get es i)
entered_at [] i n = refl
entered_at (e ∷ es) zero n = refl
entered_at (e ∷ es) (suc i) n = entered_at es i n

pub looked : (es : List Entered) (rows : List (List ℕ × ℕ)) (vs : List Variable) (x : List ℕ) → AreSlots es rows → variables es ≡ vs → lookup vs x ≡ place_in es (number_of rows x)
looked es rows vs x h same = subst (λ vs. lookup vs x ≡ place_in es (number_of rows x)) same (by (lookup (variables es) x) refl ∙ ap (place_in es) (sym (h.nearest x)))
  where
    by : (o : Option Place) → lookup (variables es) x ≡ o → o ≡ place_in es (slot_in o)
    by None is = refl
    by (Some p) is = sym (sym (entered_at es p.slot p.slot) ∙ ap (seen p.slot) (lookup_nearest (variables es) x p is).there)

-- leaving one after another
take_taken : {X : Type 0} (n m : ℕ) (xs : List X) → n ≤ m → take n (take m xs) ≡ take n xs
take_taken zero m xs h = refl
take_taken (suc n) zero xs h = absurd (omega (arith, h))
take_taken (suc n) (suc m) [] h = refl
take_taken (suc n) (suc m) (x ∷ xs) h = ap (λ l. x ∷ l) (take_taken n m xs (omega (arith, h)))

pub left_more : {X : Type 0} (n : ℕ) (xs : List X) → n < length xs → take n (take (length xs - 1) xs) ≡ take n xs
left_more n xs h = take_taken n (length xs - 1) xs (omega (arith, h))

pub left_all : {X : Type 0} (n : ℕ) (xs : List X) → length xs ≤ n → take n xs ≡ xs
left_all n xs h = take_all n xs h
