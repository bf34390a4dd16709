-- Programs are filled function by function, with what stands and the new numbers.
use Rattle.std.proofs.Common.{◌≡◌, ◌≢◌, ℕ, zero, suc, ◌+◌, ◌<◌, ◌≤◌, Bool, true, false, List, [], ◌∷◌, ◌++◌, map, length, length-append, append_assoc, drop, get_or, Option, Some, None, Result, Ok, Err, inl, inr, refl, sym, ap, subst, ◌∙◌, arith}
use Rattle.std.specs.Prelude.{if◌then◌else◌, IsTrue, nat_lt, ◌||◌}
use Rattle.std.proofs.lemmas.Bool.{and_parts, and_from, lt-ltb, ltb-true}
use Rattle.std.proofs.lemmas.List.{drop_more, length-map, length-drop}
use Rattle.sk_base.specs.declared.bounds.Bounds.{Bounds}
use Rattle.sk_prog.specs.declared.prog.Fun.{Fun}
use Rattle.sk_prog.specs.declared.prog.Prog.{Prog}
use Rattle.sk_prog.specs.declared.stmt.PStmt.{PStmt}
use Rattle.sk_model.specs.declared.expanded.Site.{Site}
use Rattle.sk_model.specs.declared.expanded.Choice.{Choice}
use Rattle.sk_model.specs.declared.expanded.Expanded.{Expanded}
use Rattle.sk_model.specs.Parts.{rank, total}
use Rattle.sk_model.specs.Sites.{sites, funs_sites, stmts_sites}
use Rattle.sk_model.specs.Stands.{Payment, body_standing, is_called, fun_standing, standing_from, funs_stand, all_paid}
use Rattle.sk_model.specs.Fill.{Fits, InRange, minimize_of, stmts_count, fill_fun, fill_funs, fill}
use Rattle.sk_model.proofs.Bare.{filled_has_no_sites}
use Rattle.sk_holes.specs.declared.fault.FillFault.{FillFault}
use Rattle.sk_holes.specs.declared.fault.FillFault.TheVariants.{WrongLength, OutOfRange, Memory}
use Rattle.sk_holes.specs.Range.{are_numbers, Tests, IsRefused, IsFirstOut, IsWrongLengthOrMemory, IsOutOrMemory, first_out}
use Rattle.sk_holes.proofs.RangeLaws.{none_is_out}
use Rattle.sk_expand_copies.specs.Ranks.{ranks_from, count_true}
use Rattle.sk_holes.specs.Table.{numbered}
use Rattle.sk_holes_standing.specs.declared.met.Paid.{Paid}
use Rattle.sk_holes_standing.specs.Met.{payment}
use Rattle.sk_holes_standing.specs.Functions.{minimize_paid, sites_in}
use Rattle.sk_holes.specs.Whole.{filled_by}
use Rattle.sk_expand_sites.specs.Needs.{HasItsSites, is_narrow, are_narrow}
use Rattle.sk_expand_sites.proofs.StmtCounts.{body_sited}
use Rattle.sk_holes.proofs.Numbers.{ranks}

any_bounds : Bounds
any_bounds = record { int_bits = 0; cbits = 0; inbits = 0; unroll = 0; inline_amnt = 0 }

-- a function has as many sites under filling as under the walk of what stands
pub same_count : (values : List ℕ) (number : ℕ → ℕ) (f : Fun) → sites_in values f ≡ stmts_count values number f.body
same_count values number f = let h = body_sited any_bounds values number f.body in h.stands ∙ sym h.filled

-- one more function
pub fill_step : (values : List ℕ) (number : ℕ → ℕ) (paid : List PStmt) (b : Bool) (bs : List Bool) (f : Fun) (fs : List Fun) (i : ℕ)
    → fill_funs values number paid (b ∷ bs) (f ∷ fs) i ≡ (if b then fill_fun values number paid f i ∷ [] else []) ++ fill_funs values number paid bs fs (i + stmts_count values number f.body)
fill_step values number paid true bs f fs i = refl
fill_step values number paid false bs f fs i = refl

pub ruleset functions = (same_count, fill_step)

-- The loop over functions, one turn

front : {A : Type 0} (xs : List A) (n : ℕ) (x : A) → n < length xs → x ≡ get_or xs n x → drop n xs ≡ x ∷ drop (n + 1) xs
front xs n x below read = drop_more xs n x below ∙ ap (λ y. y ∷ drop (n + 1) xs) (sym read)

same_head : {A : Type 0} (x y : A) (xs ys : List A) → x ∷ xs ≡ y ∷ ys → x ≡ y
same_head x y xs ys e = cc

same_tail : {A : Type 0} (x y : A) (xs ys : List A) → x ∷ xs ≡ y ∷ ys → xs ≡ ys
same_tail x y xs ys e = cc

-- the count of the next function, and those of the functions behind it
pub one_counted : (values counts : List ℕ) (fs : List Fun) (n count : ℕ) (f : Fun)
    → n < length fs → f ≡ get_or fs n f → count ≡ get_or counts n count → drop n counts ≡ map (sites_in values) (drop n fs)
    → (count ≡ sites_in values f) × (drop (n + 1) counts ≡ map (sites_in values) (drop (n + 1) fs))
one_counted values counts fs n count f below item read h =
    let long : length (drop n counts) ≡ length (drop n fs) = ap length h ∙ length-map (drop n fs) (sites_in values) in
    let within : n < length counts = omega (arith, below, long, length-drop n counts, length-drop n fs) in
    let both : count ∷ drop (n + 1) counts ≡ sites_in values f ∷ map (sites_in values) (drop (n + 1) fs) = sym (front counts n count within read) ∙ h ∙ ap (λ gs. map (sites_in values) gs) (front fs n f below item) in
    (same_head count (sites_in values f) (drop (n + 1) counts) (map (sites_in values) (drop (n + 1) fs)) both, same_tail count (sites_in values f) (drop (n + 1) counts) (map (sites_in values) (drop (n + 1) fs)) both)

-- what is filled with the next function
pub one_filled : (values : List ℕ) (number : ℕ → ℕ) (paid : List PStmt) (stands : List Bool) (fs done whole : List Fun) (n i : ℕ) (b : Bool) (f : Fun) (done' : List Fun) (j : ℕ)
    → n < length fs → n < length stands → f ≡ get_or fs n f → b ≡ get_or stands n b
    → done ++ fill_funs values number paid (drop n stands) (drop n fs) i ≡ whole
    → done' ≡ done ++ (if b then fill_fun values number paid f i ∷ [] else [])
    → j ≡ i + stmts_count values number f.body
    → done' ++ fill_funs values number paid (drop (n + 1) stands) (drop (n + 1) fs) j ≡ whole
one_filled values number paid stands fs done whole n i b f done' j below within item read h more passed =
    let bs : List Bool = drop (n + 1) stands in
    let gs : List Fun = drop (n + 1) fs in
    let one : List Fun = if b then fill_fun values number paid f i ∷ [] else [] in
    let split : drop n stands ≡ b ∷ bs = front stands n b within read in
    let funs : drop n fs ≡ f ∷ gs = front fs n f below item in
    let step : fill_funs values number paid (drop n stands) (drop n fs) i ≡ one ++ fill_funs values number paid bs gs (i + stmts_count values number f.body) = (λ k. fill_funs values number paid (split k) (funs k) i) ∙ fill_step values number paid b bs f gs i in
    (λ k. more k ++ fill_funs values number paid bs gs (passed k))
    ∙ append_assoc done one (fill_funs values number paid bs gs (i + stmts_count values number f.body))
    ∙ ap (λ hs. done ++ hs) (sym step)
    ∙ h

-- the sites of the next function are passed
pub one_passed : (values : List ℕ) (fs : List Fun) (n i count j whole : ℕ) (f : Fun)
    → n < length fs → f ≡ get_or fs n f → count ≡ sites_in values f → j ≡ i + count
    → i + total (map (sites_in values) (drop n fs)) ≡ whole
    → j + total (map (sites_in values) (drop (n + 1) fs)) ≡ whole
one_passed values fs n i count j whole f below item known passed h =
    let split : total (map (sites_in values) (drop n fs)) ≡ sites_in values f + total (map (sites_in values) (drop (n + 1) fs)) = ap (λ gs. total (map (sites_in values) gs)) (front fs n f below item) in
    omega (arith, split, known, passed, h)

-- It is said of each function whether it stands.
pub each_noted : (values : List ℕ) (ordinary : ℕ) (called : List ℕ) (n i : ℕ) (fs : List Fun) → length (funs_stand (standing_from values ordinary called n i fs)) ≡ length fs
each_noted values ordinary called n i [] = refl
each_noted values ordinary called n i (f ∷ fs) =
    let s = fun_standing values ordinary (nat_lt n ordinary || is_called called n) i f in
    ap suc (each_noted values ordinary (called ++ s.within.called) (n + 1) (i + (body_standing values f.body).count) fs)

paid_as : (ps : List Paid) (qs : List Payment) → map payment ps ≡ qs → map minimize_paid ps ≡ map minimize_of qs
paid_as ps qs is = one_by_one ps ∙ ap (λ xs. map minimize_of xs) is
  where
    one_by_one : (ps : List Paid) → map minimize_paid ps ≡ map minimize_of (map payment ps)
    one_by_one [] = refl
    one_by_one (p ∷ ps) = ap (λ ss. minimize_paid p ∷ ss) (one_by_one ps)

-- The table of numbers and the payments are those of what stands.
pub filled_functions : (values : List ℕ) (ordinary : ℕ) (fs : List Fun) (stands : List Bool) (paid : List Paid) (payments : List Payment) (table : List ℕ) (last : ℕ)
    → stands ≡ funs_stand (standing_from values ordinary [] 0 0 fs)
    → map payment paid ≡ payments → payments ≡ all_paid (standing_from values ordinary [] 0 0 fs)
    → table ≡ ranks_from 0 stands → last ≡ count_true stands
    → fill_funs values (numbered table last) (map minimize_paid paid) stands fs 0 ≡ filled_by values ordinary fs
filled_functions values ordinary fs stands paid payments table last is noted pays tabled counted =
    let by : numbered table last ≡ rank stands = ap (λ t. numbered t last) tabled ∙ ap (λ l. numbered (ranks_from 0 stands) l) counted ∙ ranks stands in
    ap (λ n. fill_funs values n (map minimize_paid paid) stands fs 0) by
    ∙ ap (λ ps. fill_funs values (rank stands) ps stands fs 0) (paid_as paid payments noted)
    ∙ ap (λ ps. fill_funs values (rank stands) (map minimize_of ps) stands fs 0) pays
    ∙ ap (λ bs. fill_funs values (rank bs) (map minimize_of (all_paid (standing_from values ordinary [] 0 0 fs))) bs fs 0) is

-- how many sites the functions have
total_sites : (bounds : Bounds) (values : List ℕ) (fs : List Fun) → total (map (sites_in values) fs) ≡ length (funs_sites bounds fs)
total_sites bounds values [] = refl
total_sites bounds values (f ∷ fs) =
    let h = body_sited bounds values (λ n. n) f.body in
    (λ j. h.stands j + total_sites bounds values fs j) ∙ sym (length-append (stmts_sites bounds f.body) (funs_sites bounds fs))

fits_length : (ss : List Site) (vs : List ℕ) → Fits ss vs → length vs ≡ length ss
fits_length [] [] h = refl
fits_length [] (v ∷ vs) h = absurd h
fits_length (s ∷ ss) [] h = absurd h
fits_length (s ∷ ss) (v ∷ vs) h = ap suc (fits_length ss vs h.1)

-- the values are enough for all functions
pub enough : (e : Expanded) (a : Choice) → HasItsSites e → InRange e a → total (map (sites_in a.values) e.prog.funs) ≤ length a.values
enough e a has range =
    let all = total_sites has.bounds a.values e.prog.funs in
    let listed : length e.sites ≡ length (sites has.bounds e.prog) = ap length has.listed in
    omega (arith, all, listed, fits_length e.sites a.values range.fits)

-- the values are numbers of a program
fit_numbers : (ss : List Site) (vs : List ℕ) → IsTrue (are_narrow ss) → Fits ss vs → IsTrue (are_numbers vs)
fit_numbers [] [] n h = refl
fit_numbers [] (v ∷ vs) n h = absurd h
fit_numbers (s ∷ ss) [] n h = absurd h
fit_numbers (s ∷ ss) (v ∷ vs) n h =
    let both = and_parts (is_narrow s) (are_narrow ss) n in
    let below : s.size < 4294967297 = ltb-true s.size 4294967297 both.0 in
    and_from (nat_lt v 4294967296) (are_numbers vs) (lt-ltb v 4294967296 (omega (arith, h.0, below))) (fit_numbers ss vs both.1 h.1)

pub numbers_fit : (e : Expanded) (a : Choice) → IsTrue (are_narrow e.sites) → InRange e a → IsTrue (are_numbers a.values)
numbers_fit e a n range = fit_numbers e.sites a.values n range.fits

pub ruleset chosen = (enough, numbers_fit)

pub fill_is : (e : Expanded) (a : Choice) → fill e a ≡ record e.prog { funs = filled_by a.values e.ordinary e.prog.funs }
unfolding fill
fill_is e a = refl

pub no_sites : (e : Expanded) (a : Choice) (p : Prog) → p ≡ fill e a → (bounds : Bounds) → sites bounds p ≡ []
no_sites e a p is bounds = ap (λ q. sites bounds q) is ∙ filled_has_no_sites bounds e a

pub refused : (fault : FillFault) (e : Expanded) (a : Choice) → Tests (Err fault) e a → IsRefused fault e a
refused WrongLength e a h = h
refused (OutOfRange site) e a h = h
refused Memory e a h = absurd h

-- want of memory has no cause
pub refused_memory : (fault : FillFault) (e : Expanded) (a : Choice) → fault ≡ Memory → IsRefused fault e a
refused_memory fault e a is = subst (λ f. IsRefused f e a) (sym is) tt

pub ruleset filling = (fill_is, refused, refused_memory)

-- What the answer of a filling says of a choice that is not in range.

pub not_wrong : (e : Expanded) (a : Choice) → InRange e a → length a.values ≢ length e.sites → ⊥
not_wrong e a range other = other (fits_length e.sites a.values range.fits)

pub not_out : (e : Expanded) (a : Choice) (site : ℕ) → InRange e a → IsFirstOut e a site → ⊥
not_out e a site range out =
    let none : first_out 0 e.sites a.values ≡ None = (none_is_out 0 e.sites a.values range.fits).1 in
    let some : first_out 0 e.sites a.values ≡ Some site = out.first in
    cc

pub wrong_told : (fault : FillFault) (e : Expanded) (a : Choice) → IsRefused fault e a → length a.values ≢ length e.sites → IsWrongLengthOrMemory fault
wrong_told WrongLength e a h other = inl refl
wrong_told (OutOfRange site) e a h other = absurd (other h.all)
wrong_told Memory e a h other = inr refl

same_site : (s site : ℕ) (o : Option ℕ) → o ≡ Some s → o ≡ Some site → OutOfRange s ≡ OutOfRange site
same_site s site o a b = cc

pub out_told : (fault : FillFault) (e : Expanded) (a : Choice) (site : ℕ) → IsRefused fault e a → IsFirstOut e a site → IsOutOrMemory site fault
out_told WrongLength e a site h out = absurd (h out.all)
out_told (OutOfRange s) e a site h out = inl (same_site s site (first_out 0 e.sites a.values) h.first out.first)
out_told Memory e a site h out = inr refl

pub ruleset told = (no_sites, not_wrong, not_out, wrong_told, out_told)
