-- What the minrepeats of a program pay is what those pay that stand.
use Rattle.std.proofs.Common.{◌≡◌, ℕ, ◌+◌, Bool, true, false, List, [], ◌∷◌, ◌++◌, refl, ap, ◌∙◌}
use Rattle.std.specs.Prelude.{◌||◌, nat_lt}
use Rattle.sk_prog.specs.declared.prog.Fun.{Fun}
use Rattle.sk_model.specs.declared.expanded.Expanded.{Expanded}
use Rattle.sk_model.specs.Parts.{Part}
use Rattle.sk_model.specs.Stands.{Standing, part_if, is_called, body_standing, standing_from, standing, all_paid}
use Rattle.sk_sym_choices.specs.Guards.{called_under, paid_under, Guarded}
use Rattle.sk_sym_choices.specs.Programs.{kept, guards_of, paid_from, program_paid}
use Rattle.sk_sym_choices.proofs.Says.{Says}
use Rattle.sk_sym_choices.proofs.Trees.{says_body}

kept_called : (b : Bool) (p : Part Standing) (i : ℕ) → kept b (p.at i).called ≡ ((part_if b p).at i).called
kept_called true p i = refl
kept_called false p i = refl

kept_paid : (b : Bool) (p : Part Standing) (i : ℕ) → kept b (p.at i).paid ≡ ((part_if b p).at i).paid
kept_paid true p i = refl
kept_paid false p i = refl

pub paid_from_is : (values : List ℕ) (ordinary : ℕ) (called : List ℕ) (n i : ℕ) (fs : List Fun) → paid_from values ordinary called n i fs ≡ all_paid (standing_from values ordinary called n i fs)
paid_from_is values ordinary called n i [] = refl
paid_from_is values ordinary called n i (f ∷ fs) =
    let b : Bool = nat_lt n ordinary || is_called called n in
    let p : Part Standing = body_standing values f.body in
    let g : Guarded = (guards_of f).at i [] in
    let says : Says values p (guards_of f) = says_body values f.body in
    let calls : kept b (called_under values g.called) ≡ ((part_if b p).at i).called = ap (λ xs. kept b xs) (says.called i []) ∙ kept_called b p i in
    let pays : kept b (paid_under values g.owed) ≡ ((part_if b p).at i).paid = ap (λ xs. kept b xs) (says.paid i []) ∙ kept_paid b p i in
    ap (λ xs. xs ++ paid_from values ordinary (called ++ kept b (called_under values g.called)) (n + 1) (i + (guards_of f).count) fs) pays
    ∙ ap (λ cs. ((part_if b p).at i).paid ++ paid_from values ordinary (called ++ cs) (n + 1) (i + (guards_of f).count) fs) calls
    ∙ ap (λ c. ((part_if b p).at i).paid ++ paid_from values ordinary (called ++ ((part_if b p).at i).called) (n + 1) (i + c) fs) says.count
    ∙ ap (λ xs. ((part_if b p).at i).paid ++ xs) (paid_from_is values ordinary (called ++ ((part_if b p).at i).called) (n + 1) (i + p.count) fs)

-- what the minrepeats of a program pay under a choice
pub program_pays : (e : Expanded) (values : List ℕ) → program_paid e values ≡ all_paid (standing e values)
program_pays e values = paid_from_is values e.ordinary [] 0 0 e.prog.funs
