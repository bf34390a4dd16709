-- What an operator wants of its operands, it wants of them still where an operand that was loose, or was of
-- another type that fits, has the type at which it stands.
use Rattle.std.proofs.Common.{◌≡◌, Bool, true, false, inl, inr, refl, sym, ap, subst, ◌∙◌}
use Rattle.std.specs.Prelude.{if◌then◌else◌, ◌||◌, IsTrue}
use Rattle.sk_prog.specs.declared.ty.Ty.{Ty}
use Rattle.sk_prog.specs.declared.ty.Ty.TheVariants as ty
use Rattle.sk_prog.specs.declared.ty.Elem.TheVariants as elem
use Rattle.sk_types_rules.specs.declared.rules.Own.{Own}
use Rattle.sk_types_rules.specs.declared.rules.Own.TheVariants.{Wrong, Loose, Firm}
use Rattle.sk_types_rules.specs.declared.rules.Class.{Class}
use Rattle.sk_types_rules.specs.declared.rules.Class.TheVariants.{Plus, Arithmetic, Order, Equality, Bitwise, Shift, Logic}
use Rattle.sk_types_rules.specs.Rules.{int, is_bit, is_integer, is_bit_array, is_bits, fits, join, firm_if, as_number, taken_as, joined_as, both_loose, operand, loose_takes, flipped, choice}
use Rattle.sk_types_rules.specs.Types.{Wanted}
use Rattle.sk_holes_laws.specs.Owns.{MayStand, Stays}
use Rattle.sk_holes_laws.proofs.Fitting.{fits_self, join_left, join_right}

-- What an operator takes

firm_parts : (b : Bool) (w t : Ty) → firm_if b w ≡ Firm t → (b ≡ true) × (w ≡ t)
firm_parts true w t e = (refl, cc)
firm_parts false w t e = cc

-- what fits a bit or an integer fits an integer
number_holds : (w v : Ty) → (is_bit w || is_integer w) ≡ true → fits v w ≡ true → fits v int ≡ true
number_holds (ty.One elem.Bit) (ty.One elem.Bit) e f = refl
number_holds (ty.One elem.Bit) (ty.One elem.Int) e f = cc
number_holds (ty.One elem.Bit) (ty.One (elem.Reference s)) e f = cc
number_holds (ty.One elem.Bit) (ty.Array a n) e f = cc
number_holds (ty.One elem.Bit) (ty.Grid a n m) e f = cc
number_holds (ty.One elem.Int) v e f = f
number_holds (ty.One (elem.Reference s)) v e f = cc
number_holds (ty.Array a n) v e f = cc
number_holds (ty.Grid a n m) v e f = cc

-- an operator takes w as t: it takes t as it is, and what fits w fits t
record Takes (k : Class) (w t : Ty) : Type 0 where
  again : taken_as k t ≡ Firm t
  fit : (v : Ty) → fits v w ≡ true → fits v t ≡ true

same_taken : (k : Class) (w t : Ty) → w ≡ t → taken_as k w ≡ Firm t → Takes k w t
same_taken k w t e h = record {
  again = ap (taken_as k) (sym e) ∙ h;
  fit = λ v f. ap (λ u. fits v u) (sym e) ∙ f;
}

number_taken : (k : Class) (w t : Ty) → taken_as k int ≡ Firm int → as_number w ≡ Firm t → Takes k w t
number_taken k w t own h =
    let p = firm_parts (is_bit w || is_integer w) int t h in
    subst (λ t. Takes k w t) p.1 (record { again = own; fit = λ v f. number_holds w v p.0 f })

summand_taken : (w t : Ty) (b : Bool) → is_bit_array w ≡ b → (if b then Firm w else as_number w) ≡ Firm t → taken_as Plus w ≡ Firm t → Takes Plus w t
summand_taken w t true e h taken = let same : w ≡ t = cc in same_taken Plus w t same taken
summand_taken w t false e h taken = number_taken Plus w t refl h

takes : (k : Class) (w t : Ty) → taken_as k w ≡ Firm t → Takes k w t
takes Plus w t h = summand_taken w t (is_bit_array w) refl h h
takes Arithmetic w t h = number_taken Arithmetic w t refl h
takes Order w t h = number_taken Order w t refl h
takes Equality w t h = let same : w ≡ t = cc in same_taken Equality w t same h
takes Bitwise w t h = same_taken Bitwise w t (firm_parts (is_bits w) w t h).1 h
takes Shift w t h = cc
takes Logic w t h = cc

-- Operands together

-- a join that is a type: both fit it
record Joins (u v w : Ty) : Type 0 where
  left : fits u w ≡ true
  right : fits v w ≡ true

joins_by : (u v w : Ty) (a b : Bool) → fits u v ≡ a → fits v u ≡ b → (if a then Firm v else (if b then Firm u else Wrong)) ≡ Firm w → Joins u v w
joins_by u v w true b p q h = let same : v ≡ w = cc in record { left = ap (fits u) (sym same) ∙ p; right = ap (fits v) (sym same) ∙ fits_self v }
joins_by u v w false true p q h = let same : u ≡ w = cc in record { left = ap (fits u) (sym same) ∙ fits_self u; right = ap (fits v) (sym same) ∙ q }
joins_by u v w false false p q h = cc

joins : (u v w : Ty) → join u v ≡ Firm w → Joins u v w
joins u v w h = joins_by u v w (fits u v) (fits v u) refl refl h

-- What holds of two operands whose operand type is t.
record Together (k : Class) (x y : Own) (t : Ty) : Type 0 where
  again : taken_as k t ≡ Firm t
  left : MayStand x t
  right : MayStand y t

loose_again : (k : Class) (t : Ty) → both_loose k ≡ Firm t → taken_as k t ≡ Firm t
loose_again Plus t e = cc
loose_again Arithmetic t e = let same : int ≡ t = cc in subst (λ t. taken_as Arithmetic t ≡ Firm t) same refl
loose_again Order t e = let same : int ≡ t = cc in subst (λ t. taken_as Order t ≡ Firm t) same refl
loose_again Equality t e = refl
loose_again Bitwise t e = cc
loose_again Shift t e = cc
loose_again Logic t e = cc

joined_together : (k : Class) (u v t : Ty) (o : Own) → join u v ≡ o → joined_as k o ≡ Firm t → Together k (Firm u) (Firm v) t
joined_together k u v t Wrong p h = cc
joined_together k u v t Loose p h = cc
joined_together k u v t (Firm w) p h =
    let both = joins u v w p in
    let taken = takes k w t h in
    record { again = taken.again; left = taken.fit u both.left; right = taken.fit v both.right }

together : (k : Class) (x y : Own) (t : Ty) → operand k x y ≡ Firm t → Together k x y t
together k Wrong y t h = cc
together k Loose Wrong t h = cc
together k Loose Loose t h = record { again = loose_again k t h; left = tt; right = tt }
together k Loose (Firm u) t h = let w = takes k u t h in record { again = w.again; left = tt; right = w.fit u (fits_self u) }
together k (Firm u) Wrong t h = cc
together k (Firm u) Loose t h = let w = takes k u t h in record { again = w.again; left = w.fit u (fits_self u); right = tt }
together k (Firm u) (Firm v) t h = joined_together k u v t (join u v) refl h

-- The operand type stays

left_firm : (k : Class) (y : Own) (t : Ty) → taken_as k t ≡ Firm t → MayStand y t → operand k (Firm t) y ≡ Firm t
left_firm k Wrong t again may = absurd may
left_firm k Loose t again may = again
left_firm k (Firm v) t again may = ap (joined_as k) (join_left t v may) ∙ again

right_firm : (k : Class) (x : Own) (t : Ty) → taken_as k t ≡ Firm t → MayStand x t → operand k x (Firm t) ≡ Firm t
right_firm k Wrong t again may = absurd may
right_firm k Loose t again may = again
right_firm k (Firm u) t again may = ap (joined_as k) (join_right u t may) ∙ again

pub operand_stays : (k : Class) (x y x' y' : Own) (t : Ty) → operand k x y ≡ Firm t → Stays x x' t → Stays y y' t → operand k x' y' ≡ Firm t
operand_stays k x y x' y' t h (inl p) (inl q) = (λ i. operand k (p i) (q i)) ∙ h
operand_stays k x y x' y' t h (inr p) (inl q) = let w = together k x y t h in (λ i. operand k (p i) (q i)) ∙ left_firm k y t w.again w.right
operand_stays k x y x' y' t h (inl p) (inr q) = let w = together k x y t h in (λ i. operand k (p i) (q i)) ∙ right_firm k x t w.again w.left
operand_stays k x y x' y' t h (inr p) (inr q) = let w = together k x y t h in (λ i. operand k (p i) (q i)) ∙ right_firm k (Firm t) t w.again (fits_self t)

-- Two loose operands

not_loose : (b : Bool) (w : Ty) → firm_if b w ≡ Loose → ⊥
not_loose true w e = cc
not_loose false w e = cc

summand_firm : (w : Ty) (b : Bool) → (if b then Firm w else as_number w) ≡ Loose → ⊥
summand_firm w true e = cc
summand_firm w false e = not_loose (is_bit w || is_integer w) int e

taken_firm : (k : Class) (w : Ty) → taken_as k w ≡ Loose → ⊥
taken_firm Plus w e = summand_firm w (is_bit_array w) e
taken_firm Arithmetic w e = not_loose (is_bit w || is_integer w) int e
taken_firm Order w e = not_loose (is_bit w || is_integer w) int e
taken_firm Equality w e = cc
taken_firm Bitwise w e = not_loose (is_bits w) w e
taken_firm Shift w e = cc
taken_firm Logic w e = cc

joined_firm : (k : Class) (o : Own) → joined_as k o ≡ Loose → ⊥
joined_firm k Wrong e = cc
joined_firm k Loose e = cc
joined_firm k (Firm w) e = taken_firm k w e

both_are_loose : (k : Class) (x y : Own) → operand k x y ≡ Loose → (x ≡ Loose) × (y ≡ Loose)
both_are_loose k Wrong y e = cc
both_are_loose k Loose Wrong e = cc
both_are_loose k Loose Loose e = (refl, refl)
both_are_loose k Loose (Firm u) e = absurd (taken_firm k u e)
both_are_loose k (Firm u) Wrong e = cc
both_are_loose k (Firm u) Loose e = absurd (taken_firm k u e)
both_are_loose k (Firm u) (Firm v) e = absurd (joined_firm k (join u v) e)

-- what two loose operands may be together, an operator takes as it is
summand_again : (t : Ty) (b : Bool) → is_bit_array t ≡ b → (is_integer t || b) ≡ true → (if b then Firm t else as_number t) ≡ Firm t
summand_again t true e h = refl
summand_again (ty.One elem.Int) false e h = refl
summand_again (ty.One elem.Bit) false e h = cc
summand_again (ty.One (elem.Reference s)) false e h = cc
summand_again (ty.Array a n) false e h = cc
summand_again (ty.Grid a n m) false e h = cc

loose_taken : (k : Class) (t : Ty) → loose_takes k t ≡ true → taken_as k t ≡ Firm t
loose_taken Plus t e = summand_again t (is_bit_array t) refl e
loose_taken Arithmetic t e = cc
loose_taken Order t e = cc
loose_taken Equality t e = cc
loose_taken Bitwise t e = ap (λ b. firm_if b t) e
loose_taken Shift t e = cc
loose_taken Logic t e = cc

-- one of two loose operands has the type at which they stand
pub loose_stays : (k : Class) (x y x' y' : Own) (t : Ty) → operand k x y ≡ Loose → loose_takes k t ≡ true → Stays x x' t → Stays y y' t → Stays (operand k x y) (operand k x' y') t
loose_stays k x y x' y' t h may (inl p) (inl q) = inl (λ i. operand k (p i) (q i))
loose_stays k x y x' y' t h may (inr p) (inl q) = inr ((λ i. operand k (p i) ((q ∙ (both_are_loose k x y h).1) i)) ∙ loose_taken k t may)
loose_stays k x y x' y' t h may (inl p) (inr q) = inr ((λ i. operand k ((p ∙ (both_are_loose k x y h).0) i) (q i)) ∙ loose_taken k t may)
loose_stays k x y x' y' t h may (inr p) (inr q) = inr ((λ i. operand k (p i) (q i)) ∙ right_firm k (Firm t) t (loose_taken k t may) (fits_self t))

-- An operator wants of its operands what it wanted of them.

pub wanted_stays : (k : Class) (x y x' y' : Own) (t : Ty) → Wanted (operand k x y) (loose_takes k t) t → Stays x x' t → Stays y y' t → Wanted (operand k x' y') (loose_takes k t) t × Stays (operand k x y) (operand k x' y') t
wanted_stays k x y x' y' t h p q = by_operand (operand k x y) refl h
  where
    by_loose : (o : Own) → IsTrue (loose_takes k t) → Stays Loose o t → Wanted o (loose_takes k t) t
    by_loose o may (inl e) = subst (λ o. Wanted o (loose_takes k t) t) (sym e) may
    by_loose o may (inr e) = subst (λ o. Wanted o (loose_takes k t) t) (sym e) refl

    by_operand : (o : Own) → operand k x y ≡ o → Wanted o (loose_takes k t) t → Wanted (operand k x' y') (loose_takes k t) t × Stays (operand k x y) (operand k x' y') t
    by_operand Wrong e w = absurd w
    by_operand Loose e may =
        let s = loose_stays k x y x' y' t e may p q in
        (by_loose (operand k x' y') may (subst (λ o. Stays o (operand k x' y') t) e s), s)
    by_operand (Firm v) e same =
        let s = operand_stays k x y x' y' t (e ∙ ap Firm same) p q in
        (subst (λ o. Wanted o (loose_takes k t) t) (sym s) refl, inr s)

-- The own type of `c ? a : b`, whose parts stand at the type of the whole, stays too.

pub choice_stays : (x y x' y' : Own) (t : Ty) → MayStand x t → MayStand y t → Stays x x' t → Stays y y' t → Stays (choice x y) (choice x' y') t
choice_stays x y x' y' t g h (inl p) (inl q) = inl (λ i. choice (p i) (q i))
choice_stays x y x' y' t g h (inr p) (inl q) = inr ((λ i. choice (p i) (q i)) ∙ left y h)
  where
    left : (y : Own) → MayStand y t → choice (Firm t) y ≡ Firm t
    left Wrong may = absurd may
    left Loose may = refl
    left (Firm v) may = join_left t v may
choice_stays x y x' y' t g h (inl p) (inr q) = inr ((λ i. choice (p i) (q i)) ∙ right x g)
  where
    right : (x : Own) → MayStand x t → choice x (Firm t) ≡ Firm t
    right Wrong may = absurd may
    right Loose may = refl
    right (Firm u) may = join_right u t may
choice_stays x y x' y' t g h (inr p) (inr q) = inr ((λ i. choice (p i) (q i)) ∙ join_right t t (fits_self t))

-- `~` wants of its operand what it wanted of it.

pub flip_stays : (x x' : Own) (t : Ty) → Wanted (flipped x) (is_bits t) t → Stays x x' t → Wanted (flipped x') (is_bits t) t × Stays (flipped x) (flipped x') t
flip_stays x x' t h (inl p) = (subst (λ o. Wanted (flipped o) (is_bits t) t) (sym p) h, inl (ap flipped p))
flip_stays x x' t h (inr p) =
    let e : flipped x' ≡ Firm t = ap flipped p ∙ ap (λ b. firm_if b t) (are_bits x h) in
    (subst (λ o. Wanted o (is_bits t) t) (sym e) refl, inr e)
  where
    of_firm : (w : Ty) (b : Bool) → is_bits w ≡ b → Wanted (firm_if b w) (is_bits t) t → is_bits t ≡ true
    of_firm w true e same = ap is_bits (sym same) ∙ e
    of_firm w false e none = absurd none

    are_bits : (x : Own) → Wanted (flipped x) (is_bits t) t → is_bits t ≡ true
    are_bits Wrong none = absurd none
    are_bits Loose may = may
    are_bits (Firm w) h = of_firm w (is_bits w) refl h

-- The left operand of a shift, and what is coerced, have a type of their own, and keep it.
pub firm_stays : (u : Ty) (x' : Own) → Stays (Firm u) x' u → x' ≡ Firm u
firm_stays u x' (inl p) = p
firm_stays u x' (inr p) = p
