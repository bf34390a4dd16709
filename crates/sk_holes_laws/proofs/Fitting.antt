-- Types that fit each other are the same, and a join with what fits it stays.
use Rattle.std.proofs.Common.{◌≡◌, ◌<◌, ◌≤◌, ℕ, Bool, true, false, inl, inr, refl, sym, ap, ◌∙◌, arith}
use Rattle.std.specs.Prelude.{if◌then◌else◌, ◌&&◌, ◌⊎◌, nat_lt, nat_eq}
use Rattle.std.proofs.lemmas.Bool.{ltb-true, ltb-false, eqb-true}
use Rattle.sk_prog.specs.declared.ty.Ty.{Ty}
use Rattle.sk_prog.specs.declared.ty.Ty.TheVariants as ty
use Rattle.sk_prog.specs.declared.ty.Elem.{Elem}
use Rattle.sk_prog.specs.declared.ty.Elem.TheVariants as elem
use Rattle.sk_types_rules.specs.declared.rules.Own.TheVariants.{Firm}
use Rattle.sk_types_rules.specs.declared.rules.Fit.TheVariants.{Same, Widens, Pads, Misfit}
use Rattle.sk_types_rules.specs.Rules.{elem_eq, ty_eq, widens, pads, is_fit, fits, join}
use Rattle.sk_types_laws.proofs.Ats.{both_true, both, elem_same, ty_same, ty_self, fit_same}

pub fits_self : (t : Ty) → fits t t ≡ true
fits_self t = ap is_fit (fit_same t)

pads_once : (t u : Ty) → pads t u ≡ true → pads u t ≡ true → ⊥
pads_once (ty.One a) (ty.One b) e f = cc
pads_once (ty.One a) (ty.Array b k) e f = cc
pads_once (ty.One a) (ty.Grid b k l) e f = cc
pads_once (ty.Array a n) (ty.One b) e f = cc
pads_once (ty.Array a n) (ty.Array b k) e f =
    let up : n < k = ltb-true n k (both_true (elem_eq a b) (nat_lt n k) e).1 in
    let down : k < n = ltb-true k n (both_true (elem_eq b a) (nat_lt k n) f).1 in
    omega arith
pads_once (ty.Array a n) (ty.Grid b k l) e f = cc
pads_once (ty.Grid a n m) (ty.One b) e f = cc
pads_once (ty.Grid a n m) (ty.Array b k) e f = cc
pads_once (ty.Grid a n m) (ty.Grid b k l) e f =
    let up : m < l = ltb-true m l (both_true (nat_eq n k) (nat_lt m l) (both_true (elem_eq a b) (nat_eq n k && nat_lt m l) e).1).1 in
    let down : l < m = ltb-true l m (both_true (nat_eq k n) (nat_lt l m) (both_true (elem_eq b a) (nat_eq k n && nat_lt l m) f).1).1 in
    omega arith

widens_once : (t u : Ty) → widens t u ≡ true → fits u t ≡ true → ⊥
widens_once (ty.One elem.Bit) (ty.One elem.Int) e f = cc
widens_once (ty.One elem.Bit) (ty.One elem.Bit) e f = cc
widens_once (ty.One elem.Bit) (ty.One (elem.Reference s)) e f = cc
widens_once (ty.One elem.Bit) (ty.Array b k) e f = cc
widens_once (ty.One elem.Bit) (ty.Grid b k l) e f = cc
widens_once (ty.One elem.Int) u e f = cc
widens_once (ty.One (elem.Reference s)) u e f = cc
widens_once (ty.Array a n) u e f = cc
widens_once (ty.Grid a n m) u e f = cc

-- a type that fits another is it, or is widened, or is padded
data Way (t u : Ty) : Type 0 where
  same : t ≡ u → Way t u
  wide : widens t u ≡ true → Way t u
  long : pads t u ≡ true → Way t u

by_tests : (t u : Ty) (a b c : Bool) → ty_eq t u ≡ a → widens t u ≡ b → pads t u ≡ c → fits t u ≡ true → Way t u
by_tests t u true b c p q r h = same (ty_same t u p)
by_tests t u false true c p q r h = wide q
by_tests t u false false true p q r h = long r
by_tests t u false false false p q r h =
    let e : fits t u ≡ false = rw (p, q, r) refl in
    cc

way : (t u : Ty) → fits t u ≡ true → Way t u
way t u h = by_tests t u (ty_eq t u) (widens t u) (pads t u) refl refl refl h

both_ways : (t u : Ty) → Way t u → Way u t → fits t u ≡ true → fits u t ≡ true → t ≡ u
both_ways t u (same e) w h k = e
both_ways t u (wide e) w h k = absurd (widens_once t u e k)
both_ways t u (long e) (same f) h k = sym f
both_ways t u (long e) (wide f) h k = absurd (widens_once u t f h)
both_ways t u (long e) (long f) h k = absurd (pads_once t u e f)

-- two types that fit each other are the same
pub fits_both : (t u : Ty) → fits t u ≡ true → fits u t ≡ true → t ≡ u
fits_both t u h k = both_ways t u (way t u h) (way u t k) h k

-- the join of a type with one that fits it is that type
pub join_right : (u t : Ty) → fits u t ≡ true → join u t ≡ Firm t
join_right u t h = rw h refl

pub join_left : (t u : Ty) → fits u t ≡ true → join t u ≡ Firm t
join_left t u h = elim (fits t u) as (λ b. fits t u ≡ b → join t u ≡ Firm t) [
  | true ↦ λ e. rw e (ap Firm (sym (fits_both t u e h)))
  | false ↦ λ e. rw (e, h) refl
] refl

-- Two types that fit a third fit each other one way or the other, so they have a join.

pub pads_fit : (u t : Ty) → pads u t ≡ true → fits u t ≡ true
pads_fit u t e = go (ty_eq u t) (widens u t) (pads u t) e
  where
    go : (a b c : Bool) → c ≡ true → is_fit (if a then Same else (if b then Widens else (if c then Pads else Misfit))) ≡ true
    go true b c e = refl
    go false true c e = refl
    go false false true e = refl
    go false false false e = cc

-- what is padded to an array of elements, or to an array of arrays
data Short (a : Elem) (u : Ty) : Type 0 where
  element : u ≡ ty.One a → Short a u
  fewer : (m : ℕ) → u ≡ ty.Array a m → Short a u

data Low (a : Elem) (n : ℕ) (u : Ty) : Type 0 where
  row : u ≡ ty.Array a n → Low a n u
  lower : (l : ℕ) → u ≡ ty.Grid a n l → Low a n u

short : (u : Ty) (a : Elem) (n : ℕ) → pads u (ty.Array a n) ≡ true → Short a u
short (ty.One b) a n e = element (ap ty.One (elem_same b a e))
short (ty.Array b m) a n e = fewer m (ap (λ x. ty.Array x m) (elem_same b a (both_true _ _ e).0))
short (ty.Grid b k l) a n e = cc

low : (u : Ty) (a : Elem) (n m : ℕ) → pads u (ty.Grid a n m) ≡ true → Low a n u
low (ty.One b) a n m e = cc
low (ty.Array b k) a n m e = let h = both_true _ _ e in row (λ i. ty.Array (elem_same b a h.0 i) (eqb-true k n h.1 i))
low (ty.Grid b k l) a n m e =
    let h = both_true _ _ e in
    let j = both_true _ _ h.1 in
    lower l (λ i. ty.Grid (elem_same b a h.0 i) (eqb-true k n j.0 i) l)

longer : (a : Elem) (m k : ℕ) (b c : Bool) → nat_lt m k ≡ b → nat_lt k m ≡ c → (fits (ty.Array a m) (ty.Array a k) ≡ true) ⊎ (fits (ty.Array a k) (ty.Array a m) ≡ true)
longer a m k true c p q = inl (pads_fit (ty.Array a m) (ty.Array a k) (both _ _ (ty_self (ty.One a)) p))
longer a m k false true p q = inr (pads_fit (ty.Array a k) (ty.Array a m) (both _ _ (ty_self (ty.One a)) q))
longer a m k false false p q =
    let up : k ≤ m = ltb-false m k p in
    let down : m ≤ k = ltb-false k m q in
    let same : m ≡ k = omega arith in
    inl (ap (λ x. fits (ty.Array a m) (ty.Array a x)) (sym same) ∙ fits_self (ty.Array a m))

higher : (a : Elem) (n m k : ℕ) (b c : Bool) → nat_lt m k ≡ b → nat_lt k m ≡ c → (fits (ty.Grid a n m) (ty.Grid a n k) ≡ true) ⊎ (fits (ty.Grid a n k) (ty.Grid a n m) ≡ true)
higher a n m k true c p q = inl (pads_fit (ty.Grid a n m) (ty.Grid a n k) (both _ _ (ty_self (ty.One a)) (both _ _ (both_true _ _ (ty_self (ty.Array a n))).1 p)))
higher a n m k false true p q = inr (pads_fit (ty.Grid a n k) (ty.Grid a n m) (both _ _ (ty_self (ty.One a)) (both _ _ (both_true _ _ (ty_self (ty.Array a n))).1 q)))
higher a n m k false false p q =
    let up : k ≤ m = ltb-false m k p in
    let down : m ≤ k = ltb-false k m q in
    let same : m ≡ k = omega arith in
    inl (ap (λ x. fits (ty.Grid a n m) (ty.Grid a n x)) (sym same) ∙ fits_self (ty.Grid a n m))

either_way : (u v u' v' : Ty) → u ≡ u' → v ≡ v' → (fits u' v' ≡ true) ⊎ (fits v' u' ≡ true) → (fits u v ≡ true) ⊎ (fits v u ≡ true)
either_way u v u' v' p q (inl h) = inl ((λ i. fits (p i) (q i)) ∙ h)
either_way u v u' v' p q (inr h) = inr ((λ i. fits (q i) (p i)) ∙ h)

both_short : (a : Elem) (u v : Ty) → Short a u → Short a v → (fits u v ≡ true) ⊎ (fits v u ≡ true)
both_short a u v (element p) (element q) = either_way u v (ty.One a) (ty.One a) p q (inl (fits_self (ty.One a)))
both_short a u v (element p) (fewer k q) = either_way u v (ty.One a) (ty.Array a k) p q (inl (pads_fit (ty.One a) (ty.Array a k) (ty_self (ty.One a))))
both_short a u v (fewer m p) (element q) = either_way u v (ty.Array a m) (ty.One a) p q (inr (pads_fit (ty.One a) (ty.Array a m) (ty_self (ty.One a))))
both_short a u v (fewer m p) (fewer k q) = either_way u v (ty.Array a m) (ty.Array a k) p q (longer a m k (nat_lt m k) (nat_lt k m) refl refl)

both_low : (a : Elem) (n : ℕ) (u v : Ty) → Low a n u → Low a n v → (fits u v ≡ true) ⊎ (fits v u ≡ true)
both_low a n u v (row p) (row q) = either_way u v (ty.Array a n) (ty.Array a n) p q (inl (fits_self (ty.Array a n)))
both_low a n u v (row p) (lower k q) = either_way u v (ty.Array a n) (ty.Grid a n k) p q (inl (pads_fit (ty.Array a n) (ty.Grid a n k) (ty_self (ty.Array a n))))
both_low a n u v (lower m p) (row q) = either_way u v (ty.Grid a n m) (ty.Array a n) p q (inr (pads_fit (ty.Array a n) (ty.Grid a n m) (ty_self (ty.Array a n))))
both_low a n u v (lower m p) (lower k q) = either_way u v (ty.Grid a n m) (ty.Grid a n k) p q (higher a n m k (nat_lt m k) (nat_lt k m) refl refl)

no_one : (u : Ty) (a : Elem) → pads u (ty.One a) ≡ true → ⊥
no_one (ty.One b) a e = cc
no_one (ty.Array b m) a e = cc
no_one (ty.Grid b k l) a e = cc

both_long : (u v t : Ty) → pads u t ≡ true → pads v t ≡ true → (fits u v ≡ true) ⊎ (fits v u ≡ true)
both_long u v (ty.One a) e f = absurd (no_one u a e)
both_long u v (ty.Array a n) e f = both_short a u v (short u a n e) (short v a n f)
both_long u v (ty.Grid a n m) e f = both_low a n u v (low u a n m e) (low v a n m f)

wide_parts : (u t : Ty) → widens u t ≡ true → (u ≡ ty.One elem.Bit) × (t ≡ ty.One elem.Int)
wide_parts (ty.One elem.Bit) (ty.One elem.Int) e = (refl, refl)
wide_parts (ty.One elem.Bit) (ty.One elem.Bit) e = cc
wide_parts (ty.One elem.Bit) (ty.One (elem.Reference s)) e = cc
wide_parts (ty.One elem.Bit) (ty.Array a n) e = cc
wide_parts (ty.One elem.Bit) (ty.Grid a n m) e = cc
wide_parts (ty.One elem.Int) t e = cc
wide_parts (ty.One (elem.Reference s)) t e = cc
wide_parts (ty.Array a n) t e = cc
wide_parts (ty.Grid a n m) t e = cc

wide_and_long : (u v t : Ty) → widens u t ≡ true → pads v t ≡ true → ⊥
wide_and_long u v t e f = no_one v elem.Int (ap (pads v) (sym (wide_parts u t e).1) ∙ f)

compared : (u v t : Ty) → Way u t → Way v t → fits u t ≡ true → fits v t ≡ true → (fits u v ≡ true) ⊎ (fits v u ≡ true)
compared u v t (same e) w h k = inr (ap (fits v) e ∙ k)
compared u v t (wide e) (same f) h k = inl (ap (fits u) f ∙ h)
compared u v t (long e) (same f) h k = inl (ap (fits u) f ∙ h)
compared u v t (wide e) (wide f) h k = inl (ap (fits u) ((wide_parts v t f).0 ∙ sym (wide_parts u t e).0) ∙ fits_self u)
compared u v t (wide e) (long f) h k = absurd (wide_and_long u v t e f)
compared u v t (long e) (wide f) h k = absurd (wide_and_long v u t f e)
compared u v t (long e) (long f) h k = both_long u v t e f

pub comparable : (u v t : Ty) → fits u t ≡ true → fits v t ≡ true → (fits u v ≡ true) ⊎ (fits v u ≡ true)
comparable u v t h k = compared u v t (way u t h) (way v t k) h k
