-- What statements do to the variables in scope.
use Rattle.std.proofs.Common.{◌≡◌, List, [], ◌∷◌, ◌++◌, length, take, refl, sym, ap, subst, ◌∙◌, append_assoc, append-nil}
use Rattle.sk_prog.specs.declared.stmt.PStmt.{PStmt}
use Rattle.sk_prog.specs.declared.stmt.PForm.{PForm}
use Rattle.sk_prog.specs.declared.stmt.PForm.TheOpen as S
use Rattle.sk_prog.specs.declared.stmt.PForm.TheViews.{roll-PForm, roll-PStmt}
use Rattle.sk_prog.specs.declared.stmt.PForm.TheFolds.{map-PForm, fold-PForm, fold-roll-PForm, fold-roll-PStmt, ind-PStmt}
use Rattle.sk_types_rules.specs.declared.scope.Variable.{Variable}
use Rattle.sk_types_rules.specs.Types.{Grows, form_after, after}

-- what holds of each layer whose parts have it holds of all
pub pstmt_law : (K : PForm → Type 0) (L : PStmt → Type 0)
    → ((y : S.PForm-F ((f : PForm) × K f) ((s : PStmt) × L s)) → K (roll-PForm (map-PForm _ _ PForm PStmt (λ q. q.0) (λ q. q.0) y)))
    → ((p : PStmt) → K p.form → L p)
    → (p : PStmt) → L p
pstmt_law K L f g = ind-PStmt K L (λ x y is. subst (λ z. K (roll-PForm z)) is (f y)) (λ x y is. subst (λ z. L (roll-PStmt z)) is (g (record { span = y.span; form = y.form.0 }) y.form.1))

abbrev pub after_form : PForm → Grows
after_form = fold-PForm Grows Grows form_after (λ s. s.form)

pub after_form_is : (l : S.PForm-F PForm PStmt) → after_form (roll-PForm l) ≡ form_after (map-PForm PForm PStmt Grows Grows after_form after l)
after_form_is l = fold-roll-PForm Grows Grows form_after (λ s. s.form) l

pub after_is : (p : PStmt) → after p ≡ after_form p.form
after_is p = fold-roll-PStmt Grows Grows form_after (λ s. s.form) (record { span = p.span; form = p.form })

abbrev pub after_all : List PStmt → Grows
after_all [] s = s
after_all (p ∷ ps) s = after_all ps (after p s)

-- A statement only adds variables.
abbrev pub Adds : Grows → Type 0
Adds f = (s : List Variable) → (more : List Variable) × (f s ≡ s ++ more)

adds_none : Adds (λ s. s)
adds_none s = ([], sym (append-nil s))

abbrev parts : S.PForm-F ((f : PForm) × Adds (after_form f)) ((p : PStmt) × Adds (after p)) → S.PForm-F PForm PStmt
parts y = map-PForm ((f : PForm) × Adds (after_form f)) ((p : PStmt) × Adds (after p)) PForm PStmt (λ q. q.0) (λ q. q.0) y

pub adds : (p : PStmt) → Adds (after p)
adds = pstmt_law (λ f. Adds (after_form f)) (λ p. Adds (after p)) form_layer (λ p h. subst Adds (sym (after_is p)) h)
  where
    layer : (y : S.PForm-F ((f : PForm) × Adds (after_form f)) ((p : PStmt) × Adds (after p))) → Adds (form_after (map-PForm PForm PStmt Grows Grows after_form after (parts y)))
    layer (S.Declare slot x t value) = λ s. (record { name = x; ty = t } ∷ [], refl)
    layer _ = adds_none

    form_layer : (y : S.PForm-F ((f : PForm) × Adds (after_form f)) ((p : PStmt) × Adds (after p))) → Adds (after_form (roll-PForm (parts y)))
    form_layer y = subst Adds (sym (after_form_is (parts y))) (layer y)

pub adds_all : (ps : List PStmt) → Adds (after_all ps)
adds_all [] s = adds_none s
adds_all (p ∷ ps) s =
    let one = adds p s in
    let rest = adds_all ps (after p s) in
    (one.0 ++ rest.0, rest.1 ∙ ap (λ l. l ++ rest.0) one.1 ∙ append_assoc s one.0 rest.0)

-- So what was in scope before is what is left of it.

front : (s more : List Variable) → take (length s) (s ++ more) ≡ s
front [] [] = refl
front [] (v ∷ more) = refl
front (v ∷ s) more = ap (λ l. v ∷ l) (front s more)

pub left_of : (p : PStmt) (s : List Variable) → take (length s) (after p s) ≡ s
left_of p s = let a = adds p s in ap (take (length s)) a.1 ∙ front s a.0

pub left_of_all : (ps : List PStmt) (s : List Variable) → take (length s) (after_all ps s) ≡ s
left_of_all ps s = let a = adds_all ps s in ap (take (length s)) a.1 ∙ front s a.0
