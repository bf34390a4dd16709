-- How the parts of lists follow one another.
use Rattle.std.proofs.Common.{◌≡◌, ℕ, zero, suc, ◌+◌, ◌<◌, ◌≤◌, List, [], ◌∷◌, ◌++◌, length, drop, get_or, Option, Some, None, refl, sym, ap, ◌∙◌, append_assoc, add-one, arith}
use Rattle.std.specs.Prelude.{map, slice_get, ℤ, pos, Bool, true, false, if◌then◌else◌}
use Rattle.std.specs.Str.{bytes_eq}
use Rattle.std.proofs.lemmas.List.{length-map}
use Rattle.sk_prog.specs.declared.expr.PExpr.{PExpr}
use Rattle.sk_prog.specs.declared.prog.ParamDef.{ParamDef}
use Rattle.sk_types_rules.specs.Rules.{◌>>=◌}
use Rattle.sk_types_rules.specs.Scope.{Signature, place_of, next_place}
use Rattle.sk_types_rules.specs.Constants.{number_known}
use Rattle.sk_types_laws.specs.declared.env.Heading.{Heading}
use Rattle.sk_types_laws.specs.declared.env.Constant.{Constant}
use Rattle.sk_types_laws.specs.Envs.{signature, known}
use Rattle.sk_types_laws.specs.Making.{Made, makes}
use Rattle.sk_types_laws.specs.Elaborate.{with_string, Argument, arguments_at}
use Rattle.sk_types_names.proofs.Places.{split_at}

-- one more part
pub one_more : {X : Type 0} (m : Option (List X)) (xs : List X) (x : X) → ((m >>= λ rest. Some (x ∷ rest)) >>= λ rest. Some (xs ++ rest)) ≡ (m >>= λ rest. Some ((xs ++ x ∷ []) ++ rest))
one_more (Some r) xs x = ap Some (sym (append_assoc xs (x ∷ []) r))
one_more None xs x = refl

-- one more statement
pub one_more_made : {X : Type 0} (m : Option (Made (List X))) (xs : List X) (x : X) → ((m >>= λ rest. makes (x ∷ rest.made) rest.scope) >>= λ rest. makes (xs ++ rest.made) rest.scope) ≡ (m >>= λ rest. makes ((xs ++ x ∷ []) ++ rest.made) rest.scope)
one_more_made (Some r) xs x = ap (λ l. makes l r.scope) (sym (append_assoc xs (x ∷ []) r.made))
one_more_made None xs x = refl

pub one_kept : (kept rest : List PExpr) (p : PExpr) (o : Option PExpr) → o ≡ Some p → kept ++ with_string o rest ≡ (kept ++ p ∷ []) ++ rest
one_kept kept rest p o e = rw e (sym (append_assoc kept (p ∷ []) rest))

pub none_kept : (kept rest : List PExpr) (o : Option PExpr) → o ≡ None → kept ++ with_string o rest ≡ kept ++ rest
none_kept kept rest o e = rw e refl

-- a list by its places
get_at : {X : Type 0} (xs : List X) (i : ℕ) (x : X) → slice_get xs i ≡ Some x → drop i xs ≡ x ∷ drop (suc i) xs
get_at [] i x h = cc
get_at (y ∷ ys) zero x h = let is : y ≡ x = cc in ap (λ y. y ∷ ys) is
get_at (y ∷ ys) (suc i) x h = get_at ys i x h

pub get_drop : {X : Type 0} (xs : List X) (i : ℕ) (x : X) → slice_get xs i ≡ Some x → drop i xs ≡ x ∷ drop (i + 1) xs
get_drop xs i x h = get_at xs i x h ∙ ap (λ n. x ∷ drop n xs) (sym (add-one i))

pub get_none : {X : Type 0} (xs : List X) (i : ℕ) → slice_get xs i ≡ None → drop i xs ≡ []
get_none [] zero h = refl
get_none [] (suc i) h = refl
get_none (y ∷ ys) zero h = cc
get_none (y ∷ ys) (suc i) h = get_none ys i h

-- where parameters are left there is no argument list
pub too_few : (ds : List ParamDef) (n : ℕ) → n < length ds → arguments_at (drop n ds) [] ≡ None
too_few [] n h = absurd (omega (arith, h))
too_few (d ∷ ds) zero h = refl
too_few (d ∷ ds) (suc n) h = too_few ds n (omega (arith, h))

pub just_so : (ds : List ParamDef) (n : ℕ) → length ds ≤ n → arguments_at (drop n ds) [] ≡ Some []
just_so [] zero h = refl
just_so [] (suc n) h = refl
just_so (d ∷ ds) zero h = absurd (omega (arith, h))
just_so (d ∷ ds) (suc n) h = just_so ds n (omega (arith, h))

abbrev pub any_signature : Option Heading → Option Signature
any_signature None = None
any_signature (Some h) = Some (signature h)

-- the signature of a heading
pub get_signature : (hs : List Heading) (i : ℕ) → slice_get (map signature hs) i ≡ any_signature (slice_get hs i)
get_signature [] i = refl
get_signature (h ∷ hs) zero = refl
get_signature (h ∷ hs) (suc i) = get_signature hs i

-- the names of functions, as their callers see them
pub function_names : (hs : List Heading) → map (λ (s : Signature). s.name) (map signature hs) ≡ map (λ (h : Heading). h.name) hs
function_names [] = refl
function_names (h ∷ hs) = ap (λ l. h.name ∷ l) (function_names hs)

-- the number of a constant, by its place
abbrev pub number_in : Option Constant → Option ℤ
number_in None = None
number_in (Some c) = Some (pos c.number)

abbrev pub number_at : List Constant → Option ℕ → Option ℤ
number_at cs None = None
number_at cs (Some i) = number_in (slice_get cs i)

pub number_placed : (cs : List Constant) (x : List ℕ) → number_known (map known cs) x ≡ number_at cs (place_of (map (λ (c : Constant). c.name) cs) x)
number_placed [] x = refl
number_placed (c ∷ cs) x = by (bytes_eq c.name x) (place_of (map (λ (c : Constant). c.name) cs) x) (number_placed cs x)
  where
    by : (b : Bool) (o : Option ℕ) → number_known (map known cs) x ≡ number_at cs o → (if b then Some (pos c.number) else number_known (map known cs) x) ≡ number_at (c ∷ cs) (if b then Some 0 else next_place o)
    by true o h = refl
    by false None h = h
    by false (Some i) h = h

pub length_map : {X Y : Type 0} (xs : List X) (f : X → Y) → length (map f xs) ≡ length xs
length_map xs f = length-map xs f

pub ruleset steps = (split_at, one_more)

pub ruleset passes = (split_at, one_more, get_drop, get_none, too_few, just_so)

pub ruleset kept = (split_at, one_kept, none_kept)

pub ruleset makers = (split_at, one_more_made)
