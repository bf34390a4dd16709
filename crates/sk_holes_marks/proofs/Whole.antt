-- Whole programs.
use Rattle.std.proofs.Common.{◌≡◌, ◌+◌, ◌<◌, ◌≤◌, ℕ, suc, List, [], ◌∷◌, ◌++◌, map, length, length-append, refl, sym, ◌∙◌, ap, arith, Bool}
use Rattle.std.specs.Prelude.{IsTrue, nat_lt, ◌||◌}
use Rattle.std.proofs.lemmas.Bool.{and_parts, and_from, lt-ltb, ltb-true}
use Rattle.sk_base.specs.declared.bounds.Bounds.{Bounds}
use Rattle.sk_prog.specs.declared.prog.Fun.{Fun}
use Rattle.sk_model.specs.declared.expanded.Site.{Site}
use Rattle.sk_model.specs.declared.expanded.Choice.{Choice}
use Rattle.sk_model.specs.declared.expanded.Expanded.{Expanded}
use Rattle.sk_model.specs.Parts.{total}
use Rattle.sk_model.specs.Sites.{sites, funs_sites, stmts_sites}
use Rattle.sk_model.specs.Stands.{body_standing, is_called, fun_standing, standing_from, funs_stand}
use Rattle.sk_model.specs.Fill.{Fits, InRange}
use Rattle.sk_expand_sites.specs.Needs.{HasItsSites, is_narrow, are_narrow}
use Rattle.sk_expand_sites.proofs.StmtCounts.{body_sited}
use Rattle.sk_holes_standing.specs.Functions.{sites_in}
use Rattle.sk_holes_marks.specs.Words.{are_numbers, sites_of}
use Rattle.sk_holes_marks.proofs.Joined.{marked_by, as_many}

each_noted : (values : List ℕ) (ordinary : ℕ) (called : List ℕ) (n i : ℕ) (fs : List Fun) → length (funs_stand (standing_from values ordinary called n i fs)) ≡ length fs
each_noted values ordinary called n i [] = refl
each_noted values ordinary called n i (f ∷ fs) =
    let s = fun_standing values ordinary (nat_lt n ordinary || is_called called n) i f in
    ap suc (each_noted values ordinary (called ++ s.within.called) (n + 1) (i + (body_standing values f.body).count) fs)

-- it is said of each function whether it stands
pub each_stood : (values : List ℕ) (ordinary : ℕ) (fs : List Fun) (stood : List Bool) → stood ≡ funs_stand (standing_from values ordinary [] 0 0 fs) → length stood ≡ length fs
each_stood values ordinary fs stood is = ap length is ∙ each_noted values ordinary [] 0 0 fs

pub room : (values : List ℕ) (fs : List Fun) (most : ℕ) → total (map (sites_in values) fs) ≤ most → total (map (sites_of values) fs) ≤ most
room values fs most h = omega (arith, as_many values fs, h)

pub ruleset marked = (marked_by, each_stood, room)

-- how many sites the functions have
total_sites : (bounds : Bounds) (values : List ℕ) (fs : List Fun) → total (map (sites_in values) fs) ≡ length (funs_sites bounds fs)
total_sites bounds values [] = refl
total_sites bounds values (f ∷ fs) =
    let h = body_sited bounds values (λ n. n) f.body in
    (λ j. h.stands j + total_sites bounds values fs j) ∙ sym (length-append (stmts_sites bounds f.body) (funs_sites bounds fs))

fits_length : (ss : List Site) (vs : List ℕ) → Fits ss vs → length vs ≡ length ss
fits_length [] [] h = refl
fits_length [] (v ∷ vs) h = absurd h
fits_length (s ∷ ss) [] h = absurd h
fits_length (s ∷ ss) (v ∷ vs) h = ap suc (fits_length ss vs h.1)

-- the values are enough for all functions
pub enough : (e : Expanded) (a : Choice) → HasItsSites e → InRange e a → total (map (sites_in a.values) e.prog.funs) ≤ length a.values
enough e a has range =
    let all = total_sites has.bounds a.values e.prog.funs in
    let listed : length e.sites ≡ length (sites has.bounds e.prog) = ap length has.listed in
    omega (arith, all, listed, fits_length e.sites a.values range.fits)

-- the values are numbers of a program
fit_numbers : (ss : List Site) (vs : List ℕ) → IsTrue (are_narrow ss) → Fits ss vs → IsTrue (are_numbers vs)
fit_numbers [] [] n h = refl
fit_numbers [] (v ∷ vs) n h = absurd h
fit_numbers (s ∷ ss) [] n h = absurd h
fit_numbers (s ∷ ss) (v ∷ vs) n h =
    let both = and_parts (is_narrow s) (are_narrow ss) n in
    let below : s.size < 4294967297 = ltb-true s.size 4294967297 both.0 in
    and_from (nat_lt v 4294967296) (are_numbers vs) (lt-ltb v 4294967296 (omega (arith, h.0, below))) (fit_numbers ss vs both.1 h.1)

pub numbers_fit : (e : Expanded) (a : Choice) → IsTrue (are_narrow e.sites) → InRange e a → IsTrue (are_numbers a.values)
numbers_fit e a n range = fit_numbers e.sites a.values n range.fits

pub ruleset chosen = (enough, numbers_fit)
