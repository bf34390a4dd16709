-- The table of called functions says which copies stand.
use Rattle.std.proofs.Common.{◌≡◌, ℕ, zero, suc, ◌+◌, ◌-◌, ◌<◌, ◌≤◌, Bool, true, false, List, [], ◌∷◌, ◌++◌, map, length, take, drop, get_or, refl, sym, ap, subst, ◌∙◌, append_assoc, arith, inl, inr}
use Rattle.std.specs.Prelude.{◌==◌, ◌||◌, nat_lt, slice_set, slice_index_or, replicate}
use Rattle.std.proofs.lemmas.List.{append-nil, length-set, get_or-set_same, get_or-set_other, drop_more, drop_all, length-replicate}
use Rattle.std.proofs.lemmas.List.Folds.{list_any-append}
use Rattle.std.proofs.Math.Seq.{take-append_seam}
use Rattle.std.proofs.lemmas.Bool.Decides.{eqb_tells}
use Rattle.std.proofs.Math.Bool.{or-false}
use Rattle.sk_prog.specs.declared.prog.Fun.{Fun}
use Rattle.sk_model.specs.Parts.{Part, total}
use Rattle.sk_model.specs.Stands.{Standing, FunStanding, Payment, part_if, is_called, body_standing, standing_from, funs_stand, all_paid}
use Rattle.sk_holes_standing.specs.Marks.{marked, kept_if}
use Rattle.sk_holes_standing.specs.Functions.{stands_by, sites_in, stood_in}

called_one : (called : List ℕ) (f k : ℕ) → is_called (called ++ f ∷ []) k ≡ (is_called called k || (f == k))
called_one called f k = list_any-append (λ g. g == k) called (f ∷ []) ∙ ap (λ b. is_called called k || b) (or-false (f == k))

or_true : (b : Bool) → (b || true) ≡ true
or_true true = refl
or_true false = refl

set_same : (table : List Bool) (f k : ℕ) → f ≡ k → k < length table → slice_index_or (slice_set table f true) k false ≡ (slice_index_or table k false || true)
set_same table f k e h = subst (λ (g : ℕ). slice_index_or (slice_set table g true) k false ≡ (slice_index_or table k false || true)) (sym e) (get_or-set_same table k true false h ∙ sym (or_true (slice_index_or table k false)))

set_one : (table : List Bool) (f k : ℕ) → k < length table → slice_index_or (slice_set table f true) k false ≡ (slice_index_or table k false || (f == k))
set_one table f k h =
    elim (eqb_tells f k) [
      | inl t ↦ set_same table f k t.1 h ∙ ap (λ b. slice_index_or table k false || b) (sym t.0)
      | inr t ↦ get_or-set_other table f k true false (λ e. t.1 (sym e)) ∙ sym (or-false (slice_index_or table k false)) ∙ ap (λ b. slice_index_or table k false || b) (sym t.0)
    ]

-- The table says which functions are called, as far as it goes.
pub record Agrees (table : List Bool) (called : List ℕ) : Type 0 where
  pub says : (k : ℕ) → k < length table → slice_index_or table k false ≡ is_called called k

pub marked_length : (table : List Bool) (fs : List ℕ) → length (marked table fs) ≡ length table
marked_length table [] = refl
marked_length table (f ∷ fs) = marked_length (slice_set table f true) fs ∙ length-set table f true

agrees_one : (table : List Bool) (called : List ℕ) (f : ℕ) → Agrees table called → Agrees (slice_set table f true) (called ++ f ∷ [])
agrees_one table called f h = record {
  says = λ k l.
      let within : k < length table = omega (arith, l, length-set table f true) in
      set_one table f k within ∙ ap (λ b. b || (f == k)) (h.says k within) ∙ sym (called_one called f k);
}

pub agrees_more : (table : List Bool) (called fs : List ℕ) → Agrees table called → Agrees (marked table fs) (called ++ fs)
agrees_more table called [] h = subst (λ gs. Agrees table gs) (sym (append-nil called)) h
agrees_more table called (f ∷ fs) h = subst (λ gs. Agrees (marked table (f ∷ fs)) gs) (append_assoc called (f ∷ []) fs) (agrees_more (slice_set table f true) (called ++ f ∷ []) fs (agrees_one table called f h))

replicate_none : (n k : ℕ) → slice_index_or (replicate n false) k false ≡ false
replicate_none zero zero = refl
replicate_none zero (suc k) = refl
replicate_none (suc n) zero = refl
replicate_none (suc n) (suc k) = replicate_none n k

pub none_agrees : (n : ℕ) → Agrees (replicate n false) []
none_agrees n = record { says = λ k l. replicate_none n k }

-- one more function, which stands as the table says
pub one_stands : (values : List ℕ) (ordinary : ℕ) (table : List Bool) (called : List ℕ) (n i : ℕ) (f : Fun) (fs : List Fun) → Agrees table called → n < length table
    → standing_from values ordinary called n i (f ∷ fs) ≡ (let b = stands_by ordinary table n in let p = kept_if b (body_standing values f.body) in record { stands = b; within = p.at i } ∷ standing_from values ordinary (called ++ (p.at i).called) (n + 1) (i + sites_in values f) fs)
unfolding kept_if
one_stands values ordinary table called n i f fs h l =
    ap (λ (b : Bool). let s : FunStanding = record { stands = b; within = (part_if b (body_standing values f.body)).at i } in s ∷ standing_from values ordinary (called ++ ((part_if b (body_standing values f.body)).at i).called) (n + 1) (i + sites_in values f) fs) (ap (λ c. nat_lt n ordinary || c) (sym (h.says n l)))

-- What is known behind the first n functions, whose sites end at place i: a table of the called functions, whether
-- each stands, how many sites each has, which functions are called and what is paid.
pub record Progress (values : List ℕ) (ordinary : ℕ) (funs : List Fun) (table all : List Bool) (counts called : List ℕ) (paid : List Payment) (n i : ℕ) : Type 0 where
  pub agrees : Agrees table called
  pub width : length table ≡ length funs
  pub stands : all ++ funs_stand (standing_from values ordinary called n i (drop n funs)) ≡ funs_stand (standing_from values ordinary [] 0 0 funs)
  pub pays : paid ++ all_paid (standing_from values ordinary called n i (drop n funs)) ≡ all_paid (standing_from values ordinary [] 0 0 funs)
  pub counted : counts ++ map (sites_in values) (drop n funs) ≡ map (sites_in values) funs
  pub place : i + total (map (sites_in values) (drop n funs)) ≡ total (map (sites_in values) funs)

-- nothing is known yet
pub begun : (values : List ℕ) (ordinary : ℕ) (funs : List Fun) → Progress values ordinary funs (replicate (length funs) false) [] [] [] [] 0 0
begun values ordinary funs = record {
  agrees = none_agrees (length funs);
  width = length-replicate (length funs) false;
  stands = refl;
  pays = refl;
  counted = refl;
  place = omega arith;
}

-- one more function
pub one_more : (values : List ℕ) (ordinary : ℕ) (funs : List Fun) (table all : List Bool) (counts called : List ℕ) (paid : List Payment) (n i : ℕ) (f : Fun)
    → n < length funs → f ≡ get_or funs n f → Progress values ordinary funs table all counts called paid n i
    → (let b = stands_by ordinary table n in let p = kept_if b (body_standing values f.body) in Progress values ordinary funs (marked table (p.at i).called) (all ++ b ∷ []) (counts ++ sites_in values f ∷ []) (called ++ (p.at i).called) (paid ++ (p.at i).paid) (n + 1) (i + sites_in values f))
one_more values ordinary funs table all counts called paid n i f below item h =
    let b : Bool = stands_by ordinary table n in
    let p : Part Standing = kept_if b (body_standing values f.body) in
    let fs : List Fun = drop (n + 1) funs in
    let split : drop n funs ≡ f ∷ fs = drop_more funs n f below ∙ ap (λ g. g ∷ fs) (sym item) in
    let rest : List FunStanding = standing_from values ordinary (called ++ (p.at i).called) (n + 1) (i + sites_in values f) fs in
    let walk : standing_from values ordinary called n i (drop n funs) ≡ record { stands = b; within = p.at i } ∷ rest = ap (λ gs. standing_from values ordinary called n i gs) split ∙ one_stands values ordinary table called n i f fs h.agrees (omega (arith, below, h.width)) in
    record {
      agrees = agrees_more table called (p.at i).called h.agrees;
      width = marked_length table (p.at i).called ∙ h.width;
      stands = append_assoc all (b ∷ []) (funs_stand rest) ∙ ap (λ ss. all ++ funs_stand ss) (sym walk) ∙ h.stands;
      pays = append_assoc paid (p.at i).paid (all_paid rest) ∙ ap (λ ss. paid ++ all_paid ss) (sym walk) ∙ h.pays;
      counted = append_assoc counts (sites_in values f ∷ []) (map (sites_in values) fs) ∙ ap (λ gs. counts ++ map (sites_in values) gs) (sym split) ∙ h.counted;
      place = omega (arith, ap (λ gs. total (map (sites_in values) gs)) split, h.place);
    }

-- the sites of one more function are among all
pub room : (values : List ℕ) (ordinary : ℕ) (funs : List Fun) (table all : List Bool) (counts called : List ℕ) (paid : List Payment) (n i : ℕ) (f : Fun)
    → n < length funs → f ≡ get_or funs n f → Progress values ordinary funs table all counts called paid n i
    → i + sites_in values f ≤ total (map (sites_in values) funs)
room values ordinary funs table all counts called paid n i f below item h =
    let fs : List Fun = drop (n + 1) funs in
    let split : drop n funs ≡ f ∷ fs = drop_more funs n f below ∙ ap (λ g. g ∷ fs) (sym item) in
    omega (arith, ap (λ gs. total (map (sites_in values) gs)) split, h.place)

-- what is known behind all functions
pub record Known (values : List ℕ) (ordinary : ℕ) (funs : List Fun) (all : List Bool) (counts : List ℕ) (paid : List Payment) : Type 0 where
  pub stands : all ≡ funs_stand (standing_from values ordinary [] 0 0 funs)
  pub counted : counts ≡ map (sites_in values) funs
  pub pays : paid ≡ all_paid (standing_from values ordinary [] 0 0 funs)

pub all_known : (values : List ℕ) (ordinary : ℕ) (funs : List Fun) (table all : List Bool) (counts called : List ℕ) (paid : List Payment) (n i : ℕ)
    → length funs ≤ n → Progress values ordinary funs table all counts called paid n i → Known values ordinary funs all counts paid
all_known values ordinary funs table all counts called paid n i end h =
    let none : drop n funs ≡ [] = drop_all n funs end in
    record {
      stands = sym (append-nil all) ∙ ap (λ gs. all ++ funs_stand (standing_from values ordinary called n i gs)) (sym none) ∙ h.stands;
      counted = sym (append-nil counts) ∙ ap (λ gs. counts ++ map (sites_in values) gs) (sym none) ∙ h.counted;
      pays = sym (append-nil paid) ∙ ap (λ ss. paid ++ all_paid (standing_from values ordinary called n i ss)) (sym none) ∙ h.pays;
    }

-- what stands behind a front
pub drop_front : {A : Type 0} (xs ys zs : List A) → zs ≡ xs ++ ys → drop (length xs) zs ≡ ys
drop_front xs ys zs e = ap (λ us. drop (length xs) us) e ∙ behind xs ys
  where
    behind : {A : Type 0} (xs ys : List A) → drop (length xs) (xs ++ ys) ≡ ys
    behind [] ys = refl
    behind (x ∷ xs) ys = behind xs ys

-- one more function, as the code goes on by it
pub stepped : (values : List ℕ) (ordinary : ℕ) (funs : List Fun) (table all : List Bool) (counts called : List ℕ) (paid : List Payment) (n i : ℕ) (f : Fun)
    (table' : List Bool) (b : Bool) (called' : List ℕ) (paid' : List Payment) (j : ℕ)
    → n < length funs → f ≡ get_or funs n f → Progress values ordinary funs table all counts called paid n i
    → b ≡ stands_by ordinary table n
    → called' ≡ called ++ (stood_in values ordinary table n f i).called
    → paid' ≡ paid ++ (stood_in values ordinary table n f i).paid
    → table' ≡ marked table (stood_in values ordinary table n f i).called
    → j ≡ i + sites_in values f
    → Progress values ordinary funs table' (all ++ b ∷ []) (counts ++ (j - i) ∷ []) called' paid' (n + 1) j
stepped values ordinary funs table all counts called paid n i f table' b called' paid' j below item h is calls pays marks place =
    let many : j - i ≡ sites_in values f = omega (arith, place) in
    rw (many, is, calls, pays, marks, place) (one_more values ordinary funs table all counts called paid n i f below item h)

-- what a slice of a whole list holds after it is written
written_back : (after table : List Bool) (len : ℕ) → len ≡ length after → take len (after ++ drop (length after) table) ≡ after
written_back after table len e = ap (λ n. take n (after ++ drop (length after) table)) e ∙ take-append_seam after (drop (length after) table)

-- one more function, where its table is written in place
pub turned : (values : List ℕ) (ordinary : ℕ) (funs : List Fun) (table all : List Bool) (counts called : List ℕ) (paid : List Payment) (n i : ℕ) (f : Fun)
    (before after all' : List Bool) (counts' : List ℕ) (b : Bool) (called' : List ℕ) (paid' : List Payment) (j len : ℕ)
    → n < length funs → f ≡ get_or funs n f → Progress values ordinary funs table all counts called paid n i
    → before ≡ table → len ≡ length table
    → b ≡ stands_by ordinary before n
    → called' ≡ called ++ (stood_in values ordinary before n f i).called
    → paid' ≡ paid ++ (stood_in values ordinary before n f i).paid
    → after ≡ marked before (stood_in values ordinary before n f i).called
    → j ≡ i + sites_in values f
    → all' ≡ all ++ b ∷ [] → counts' ≡ counts ++ (j - i) ∷ []
    → Progress values ordinary funs (take len (after ++ drop (length after) table)) all' counts' called' paid' (n + 1) j
turned values ordinary funs table all counts called paid n i f before after all' counts' b called' paid' j len below item h same whole is calls pays marks place alls many =
    let known : Progress values ordinary funs before all counts called paid n i = subst (λ (t : List Bool). Progress values ordinary funs t all counts called paid n i) (sym same) h in
    let next : Progress values ordinary funs after (all ++ b ∷ []) (counts ++ (j - i) ∷ []) called' paid' (n + 1) j = stepped values ordinary funs before all counts called paid n i f after b called' paid' j below item known is calls pays marks place in
    let kept : len ≡ length after = omega (arith, whole, h.width, next.width) in
    rw (written_back after table len kept, alls, many) next

pub ruleset progress = (begun, room, all_known)
