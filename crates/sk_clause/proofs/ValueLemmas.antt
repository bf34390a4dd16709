-- How the values of literals change as one is made true.
use Rattle.std.proofs.Common.{◌≡◌, ◌≢◌, ◌⊎◌, inl, inr, Bool, true, false, not, ℕ, zero, suc, ◌+◌, ◌<◌, List, [], ◌∷◌, length, get_or, set, replicate, refl, sym, ◌∙◌, ap, arith, Option, Some, None}
use Rattle.std.proofs.lemmas.List.{get_or-set_same, get_or-set_other, length-set}
use Rattle.std.proofs.lemmas.List.Elements.{All-contains}
use Rattle.std.proofs.lemmas.Bool.{cases_eq}
use Rattle.sk_clause.specs.declared.lit.Lit.{Lit}
use Rattle.sk_clause.specs.Meaning.{negated}
use Rattle.sk_clause.specs.Problem.{IsWithin}
use Rattle.sk_clause.specs.Values.{signed, Holds, Fails, IsOpen, LeavesOne, assigned, open_count}

signed_none : (neg : Bool) (o : Option Bool) → signed neg o ≡ None → o ≡ None
signed_none neg None h = refl
signed_none neg (Some b) h = cc

signed_own : (neg : Bool) → signed neg (Some (not neg)) ≡ Some true
signed_own true = refl
signed_own false = refl

signed_other : (n m : Bool) → signed m (Some (not n)) ≡ Some true → m ≡ n
signed_other true true h = refl
signed_other false false h = refl
signed_other true false h = cc
signed_other false true h = cc

signed_not : (n : Bool) (o : Option Bool) → signed n o ≡ Some false → signed (not n) o ≡ Some true
signed_not n None h = cc
signed_not true (Some true) h = refl
signed_not false (Some false) h = refl
signed_not true (Some false) h = cc
signed_not false (Some true) h = cc

signed_not_back : (n : Bool) (o : Option Bool) → signed (not n) o ≡ Some true → signed n o ≡ Some false
signed_not_back n None h = cc
signed_not_back true (Some true) h = refl
signed_not_back false (Some false) h = refl
signed_not_back true (Some false) h = cc
signed_not_back false (Some true) h = cc

-- a literal is false where its negation is true
pub negated_holds : (vs : List (Option Bool)) (l : Lit) → Fails vs l → Holds vs (negated l)
negated_holds vs l h = signed_not l.neg (get_or vs l.var None) h

pub fails_from_negated : (vs : List (Option Bool)) (l : Lit) → Holds vs (negated l) → Fails vs l
fails_from_negated vs l h = signed_not_back l.neg (get_or vs l.var None) h

pub same_lit : (l m : Lit) → m.var ≡ l.var → m.neg ≡ l.neg → m ≡ l
same_lit l m h k =
    let make : ℕ → Bool → Lit = λ v n. record { var = v; neg = n } in
    ap (λ v. make v m.neg) h ∙ ap (λ n. make l.var n) k

pub Holds-assigned_own : (vs : List (Option Bool)) (l : Lit) → l.var < length vs → Holds (assigned vs l) l
Holds-assigned_own vs l h = rw (get_or-set_same vs l.var (Some (not l.neg)) None h) (signed_own l.neg)

-- what is true after l was made so is l or was true before
pub Holds-assigned_cases : (vs : List (Option Bool)) (l m : Lit) → l.var < length vs → Holds (assigned vs l) m → (m ≡ l) ⊎ Holds vs m
Holds-assigned_cases vs l m h k = elim (cases_eq m.var l.var) [
  | inl same ↦ let v : get_or (assigned vs l) m.var None ≡ Some (not l.neg) = ap (λ i. get_or (assigned vs l) i None) same ∙ get_or-set_same vs l.var (Some (not l.neg)) None h in
      let s : signed m.neg (Some (not l.neg)) ≡ Some true = rw v at k in inl (same_lit l m same (signed_other l.neg m.neg s))
  | inr other ↦ let v : get_or (assigned vs l) m.var None ≡ get_or vs m.var None = get_or-set_other vs l.var m.var (Some (not l.neg)) None other in inr (rw v at k)
]

-- a literal that had no value gets one, and nothing is lost
pub Holds-assigned_kept : (vs : List (Option Bool)) (l m : Lit) → IsOpen vs l → Holds vs m → Holds (assigned vs l) m
Holds-assigned_kept vs l m h k = elim (cases_eq m.var l.var) [
  | inl same ↦ let n : get_or vs l.var None ≡ None = signed_none l.neg (get_or vs l.var None) h in
      let v : get_or vs m.var None ≡ None = ap (λ i. get_or vs i None) same ∙ n in
      let s = rw v at k in absurd (cc)
  | inr other ↦ let v : get_or (assigned vs l) m.var None ≡ get_or vs m.var None = get_or-set_other vs l.var m.var (Some (not l.neg)) None other in rw v k
]

open_count-set : (vs : List (Option Bool)) (i : ℕ) (b : Bool) → i < length vs → get_or vs i None ≡ None → open_count (set vs i (Some b)) + 1 ≡ open_count vs
open_count-set [] i b l h = absurd (omega arith)
open_count-set (None ∷ vs) zero b l h = omega arith
open_count-set (Some x ∷ vs) zero b l h = cc
open_count-set (None ∷ vs) (suc i) b l h = omega (arith, open_count-set vs i b (omega arith) h)
open_count-set (Some x ∷ vs) (suc i) b l h = open_count-set vs i b (omega arith) h

-- and one variable fewer has no value
pub open_count-assigned : (vs : List (Option Bool)) (l : Lit) → l.var < length vs → IsOpen vs l → open_count (assigned vs l) < open_count vs
open_count-assigned vs l h o = omega (arith, open_count-set vs l.var (not l.neg) h (signed_none l.neg (get_or vs l.var None) o))

pub length-assigned : (vs : List (Option Bool)) (l : Lit) → length (assigned vs l) ≡ length vs
length-assigned vs l = length-set vs l.var (Some (not l.neg))

pub LeavesOne_var : (vs : List (Option Bool)) (c : List Lit) (l : Lit) → LeavesOne vs c l → (n : ℕ) → IsWithin n c → l.var < n
LeavesOne_var vs c l h n w = All-contains (λ m. m.var < n) c l w h.there

signed_none_not : (n : Bool) (o : Option Bool) → signed n o ≡ None → signed (not n) o ≡ None
signed_none_not n None h = refl
signed_none_not n (Some b) h = cc

pub open_negated : (vs : List (Option Bool)) (l : Lit) → IsOpen vs l → IsOpen vs (negated l)
open_negated vs l h = signed_none_not l.neg (get_or vs l.var None) h

bool_cases : (a b : Bool) → (a ≡ b) ⊎ (a ≢ b)
bool_cases true true = inl refl
bool_cases false false = inl refl
bool_cases true false = inr (λ e. cc)
bool_cases false true = inr (λ e. cc)

pub lit_cases : (a b : Lit) → (a ≡ b) ⊎ (a ≢ b)
lit_cases a b = elim (cases_eq a.var b.var) [
  | inr other ↦ inr (λ e. other (ap (λ (l : Lit). l.var) e))
  | inl same ↦ elim (bool_cases a.neg b.neg) [
    | inr other ↦ inr (λ e. other (ap (λ (l : Lit). l.neg) e))
    | inl also ↦ inl (same_lit b a same also)
  ]
]

not_not : (b : Bool) → not (not b) ≡ b
not_not true = refl
not_not false = refl

pub negated-negated : (l : Lit) → negated (negated l) ≡ l
negated-negated l = same_lit l (negated (negated l)) refl (not_not l.neg)

none_past : (n i : ℕ) → ◌≡◌ {A = Option Bool} (get_or (replicate n None) i None) None
none_past zero i = refl
none_past (suc n) zero = refl
none_past (suc n) (suc i) = none_past n i

-- no variable of these has a value
pub none_holds : (n : ℕ) (l : Lit) → Holds (replicate n None) l → ⊥
none_holds n l h = let k = rw (none_past n l.var) at h in cc

pub not_both : (vs : List (Option Bool)) (l : Lit) → Holds vs l → Holds vs (negated l) → ⊥
not_both vs l h k = let f = fails_from_negated vs l k in cc

pub not_open_both : (vs : List (Option Bool)) (l : Lit) → IsOpen vs l → Holds vs (negated l) → ⊥
not_open_both vs l h k = let f = fails_from_negated vs l k in cc

-- a variable with a value is another than one with none
pub open_var_other : (vs : List (Option Bool)) (l m : Lit) → IsOpen vs l → Holds vs m → m.var ≢ l.var
open_var_other vs l m h k same =
    let n : get_or vs l.var None ≡ None = signed_none l.neg (get_or vs l.var None) h in
    let v : get_or vs m.var None ≡ None = ap (λ i. get_or vs i None) same ∙ n in
    let s = rw v at k in cc

signed_both : (n m : Bool) (o : Option Bool) → signed n o ≡ Some false → signed m o ≡ Some false → n ≡ m
signed_both true true o h k = refl
signed_both false false o h k = refl
signed_both true false None h k = cc
signed_both true false (Some true) h k = cc
signed_both true false (Some false) h k = cc
signed_both false true None h k = cc
signed_both false true (Some true) h k = cc
signed_both false true (Some false) h k = cc

-- two false literals of a variable are one
pub same_var_fails : (vs : List (Option Bool)) (l m : Lit) → Fails vs l → Fails vs m → m.var ≡ l.var → l ≡ m
same_var_fails vs l m h k e =
    let k' : signed m.neg (get_or vs l.var None) ≡ Some false = ap (λ i. signed m.neg (get_or vs i None)) (sym e) ∙ k in
    same_lit m l (sym e) (signed_both l.neg m.neg (get_or vs l.var None) h k')

pub open_count-assigned_one : (vs : List (Option Bool)) (l : Lit) → l.var < length vs → IsOpen vs l → open_count (assigned vs l) + 1 ≡ open_count vs
open_count-assigned_one vs l h o = open_count-set vs l.var (not l.neg) h (signed_none l.neg (get_or vs l.var None) o)

signed_both_true : (n m : Bool) (o : Option Bool) → signed n o ≡ Some true → signed m o ≡ Some true → n ≡ m
signed_both_true true true o h k = refl
signed_both_true false false o h k = refl
signed_both_true true false None h k = cc
signed_both_true true false (Some true) h k = cc
signed_both_true true false (Some false) h k = cc
signed_both_true false true None h k = cc
signed_both_true false true (Some true) h k = cc
signed_both_true false true (Some false) h k = cc

-- two true literals of a variable are one
pub same_var_holds : (vs : List (Option Bool)) (l m : Lit) → Holds vs l → Holds vs m → m.var ≡ l.var → m ≡ l
same_var_holds vs l m h k e =
    let k' : signed m.neg (get_or vs l.var None) ≡ Some true = ap (λ i. signed m.neg (get_or vs i None)) (sym e) ∙ k in
    same_lit l m e (sym (signed_both_true l.neg m.neg (get_or vs l.var None) h k'))

pub not_fails_holds : (vs : List (Option Bool)) (l : Lit) → Fails vs l → Holds vs l → ⊥
not_fails_holds vs l h k = cc

pub Holds-cleared_other : (vs : List (Option Bool)) (v : ℕ) (m : Lit) → m.var ≢ v → Holds vs m → Holds (set vs v None) m
Holds-cleared_other vs v m other h = let e : get_or (set vs v None) m.var None ≡ get_or vs m.var None = get_or-set_other vs v m.var None None other in rw e h

pub Holds-within : (vs : List (Option Bool)) (l : Lit) → Holds vs l → l.var < length vs
Holds-within vs l h = elim (Rattle.std.proofs.lemmas.Bool.cases_lt l.var (length vs)) [
  | inl within ↦ within
  | inr past ↦ (let e : get_or vs l.var None ≡ None = Rattle.std.proofs.lemmas.List.get_or_past vs l.var None past in let k = rw e at h in absurd (cc))
]

pub Holds-cleared_same : (vs : List (Option Bool)) (v : ℕ) (m : Lit) → v < length vs → Holds (set vs v None) m → (m.var ≢ v) × Holds vs m
Holds-cleared_same vs v m l h = elim (cases_eq m.var v) [
  | inl same ↦ (let e : get_or (set vs v None) m.var None ≡ None = ap (λ i. get_or (set vs v None) i None) same ∙ get_or-set_same vs v None None l in let k = rw e at h in absurd (cc))
  | inr other ↦ (let e : get_or (set vs v None) m.var None ≡ get_or vs m.var None = get_or-set_other vs v m.var None None other in (other, rw e at h))
]

open_count-clear : (vs : List (Option Bool)) (i : ℕ) (b : Bool) → get_or vs i None ≡ Some b → open_count (set vs i None) ≡ open_count vs + 1
open_count-clear [] i b h = cc
open_count-clear (None ∷ vs) zero b h = cc
open_count-clear (Some x ∷ vs) zero b h = omega arith
open_count-clear (None ∷ vs) (suc i) b h = omega (arith, open_count-clear vs i b h)
open_count-clear (Some x ∷ vs) (suc i) b h = open_count-clear vs i b h

signed_some : (n : Bool) (o : Option Bool) → signed n o ≡ Some true → (b : Bool) × (o ≡ Some b)
signed_some n None h = absurd (cc)
signed_some n (Some b) h = (b, refl)

pub open_count-cleared : (vs : List (Option Bool)) (l : Lit) → Holds vs l → open_count (set vs l.var None) ≡ open_count vs + 1
open_count-cleared vs l h = let r = signed_some l.neg (get_or vs l.var None) h in open_count-clear vs l.var r.0 r.1

signed_not_true : (n : Bool) (o : Option Bool) → signed n o ≡ Some true → signed (not n) o ≡ Some false
signed_not_true n None h = cc
signed_not_true true (Some false) h = refl
signed_not_true false (Some true) h = refl
signed_not_true true (Some true) h = cc
signed_not_true false (Some false) h = cc

pub negated_fails : (vs : List (Option Bool)) (l : Lit) → Holds vs l → Fails vs (negated l)
negated_fails vs l h = signed_not_true l.neg (get_or vs l.var None) h

signed_unless : (n : Bool) (o : Option Bool) → (signed n o ≡ Some true → ⊥) → (signed n o ≡ Some false → ⊥) → signed n o ≡ None
signed_unless n None h k = refl
signed_unless true (Some true) h k = absurd (k refl)
signed_unless true (Some false) h k = absurd (h refl)
signed_unless false (Some true) h k = absurd (h refl)
signed_unless false (Some false) h k = absurd (k refl)

pub open_unless : (vs : List (Option Bool)) (l : Lit) → (Holds vs l → ⊥) → (Fails vs l → ⊥) → IsOpen vs l
open_unless vs l h k = signed_unless l.neg (get_or vs l.var None) h k
