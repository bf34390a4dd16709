-- What the search for a function knows of one function more, and at its end.
use Rattle.std.proofs.Common.{◌≡◌, ℕ, zero, suc, ◌+◌, ◌<◌, ◌≤◌, List, [], ◌∷◌, length, drop, get_or, Bool, true, false, not, Some, None, refl, sym, ap, subst, ◌∙◌, arith}
use Rattle.std.specs.Prelude.{if◌then◌else◌, slice_get}
use Rattle.std.specs.Str.{bytes_eq}
use Rattle.std.proofs.lemmas.List.{drop_more, at_drop_all}
use Rattle.sk_prog.specs.declared.prog.Fun.{Fun}
use Rattle.sk_prog.specs.declared.prog.Prog.{Prog}
use Rattle.sk_model.specs.Parts.{rank, one_if}
use Rattle.sk_model.specs.Expand.{are_ordinary, is_generator}
use Rattle.sk_exec.specs.Direct.{named_from, named, IsCalleeAt}

pub rank_zero : (bs : List Bool) → 0 ≡ rank bs 0
rank_zero [] = refl
rank_zero (b ∷ bs) = refl

-- the rank of the next function
rank_suc : (fs : List Fun) (i : ℕ) (f : Fun) → i < length fs → f ≡ get_or fs i f → rank (are_ordinary fs) (suc i) ≡ rank (are_ordinary fs) i + one_if (not (is_generator f.kind))
rank_suc [] i f below item = omega (arith, below)
rank_suc (g ∷ fs) zero f below item =
    let same : f ≡ g = item in
    rw same (omega (arith, rank_zero (are_ordinary fs)))
rank_suc (g ∷ fs) (suc i) f below item =
    let less : i < length fs = omega (arith, below) in
    omega (arith, rank_suc fs i f less item)

rank_next : (fs : List Fun) (i : ℕ) (f : Fun) → i < length fs → f ≡ get_or fs i f → rank (are_ordinary fs) (i + 1) ≡ rank (are_ordinary fs) i + one_if (not (is_generator f.kind))
rank_next fs i f below item =
    let e : i + 1 ≡ suc i = omega arith in
    ap (rank (are_ordinary fs)) e ∙ rank_suc fs i f below item

next_fun : (fs : List Fun) (i : ℕ) (f : Fun) → i < length fs → f ≡ get_or fs i f → drop i fs ≡ f ∷ drop (i + 1) fs
next_fun fs i f below item = drop_more fs i f below ∙ ap (λ g. g ∷ drop (i + 1) fs) (sym item)

-- a function of another name is passed
named_next : (name : List ℕ) (fs : List Fun) (i : ℕ) (f : Fun) → i < length fs → f ≡ get_or fs i f → bytes_eq f.name name ≡ false → named_from i name (drop i fs) ≡ named_from (i + 1) name (drop (i + 1) fs)
named_next name fs i f below item other =
    ap (named_from i name) (next_fun fs i f below item)
    ∙ ap (λ b. if b then Some (record { number = i; fun = f }) else named_from (i + 1) name (drop (i + 1) fs)) other

-- The same, of a list that is that of the functions.

pub rank_at : (fs gs : List Fun) (i : ℕ) (f : Fun) (index next : ℕ) → gs ≡ fs → i < length gs → f ≡ get_or gs i f → index ≡ rank (are_ordinary fs) i → next ≡ index + one_if (not (is_generator f.kind)) → next ≡ rank (are_ordinary fs) (i + 1)
rank_at fs gs i f index next same below item before goes =
    goes
    ∙ ap (λ n. n + one_if (not (is_generator f.kind))) before
    ∙ sym (rank_next fs i f (subst (λ hs. i < length hs) same below) (subst (λ hs. f ≡ get_or hs i f) same item))

pub named_at : (name : List ℕ) (fs gs : List Fun) (i : ℕ) (f : Fun) → gs ≡ fs → i < length gs → f ≡ get_or gs i f → bytes_eq f.name name ≡ false → named_from 0 name fs ≡ named_from i name (drop i fs) → named_from 0 name fs ≡ named_from (i + 1) name (drop (i + 1) fs)
named_at name fs gs i f same below item other before =
    before ∙ named_next name fs i f (subst (λ hs. i < length hs) same below) (subst (λ hs. f ≡ get_or hs i f) same item) other

-- The end of the search

got : (fs : List Fun) (i : ℕ) (f : Fun) → i < length fs → f ≡ get_or fs i f → slice_get fs i ≡ Some f
got [] i f below item = absurd (omega (arith, below))
got (g ∷ fs) zero f below item = ap Some (sym item)
got (g ∷ fs) (suc i) f below item = got fs i f (omega (arith, below)) item

named_here : (name : List ℕ) (fs : List Fun) (i : ℕ) (f : Fun) → i < length fs → f ≡ get_or fs i f → bytes_eq f.name name ≡ true → named_from i name (drop i fs) ≡ Some (record { number = i; fun = f })
named_here name fs i f below item same =
    ap (named_from i name) (next_fun fs i f below item) ∙ ap (λ b. if b then Some (record { number = i; fun = f }) else named_from (i + 1) name (drop (i + 1) fs)) same

-- a function of the name is found
pub callee_at : (prog : Prog) (name : List ℕ) (gs : List Fun) (i : ℕ) (f : Fun) (index : ℕ) → gs ≡ prog.funs → i < length gs → f ≡ get_or gs i f → bytes_eq f.name name ≡ true
    → named_from 0 name prog.funs ≡ named_from i name (drop i prog.funs) → index ≡ rank (are_ordinary prog.funs) i → IsCalleeAt prog name (Some (record { place = i; id = record { index = index } }))
callee_at prog name gs i f index same below item is before ranked =
    let inside : i < length prog.funs = subst (λ hs. i < length hs) same below in
    let here : f ≡ get_or prog.funs i f = subst (λ hs. f ≡ get_or hs i f) same item in
    (f, got prog.funs i f inside here, record { number = i; is_named = before ∙ named_here name prog.funs i f inside here is; ranked = ranked })

-- no function has the name
pub none_named : (prog : Prog) (name : List ℕ) (gs : List Fun) (i : ℕ) → gs ≡ prog.funs → length gs ≤ i → named_from 0 name prog.funs ≡ named_from i name (drop i prog.funs) → named name prog.funs ≡ None
none_named prog name gs i same past before = before ∙ at_drop_all (named_from i name) prog.funs i (subst (λ hs. length hs ≤ i) same past)
