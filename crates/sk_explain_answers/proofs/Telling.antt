-- Lines that are told one after another.
use Rattle.std.proofs.Common.{◌≡◌, ℕ, zero, suc, ◌-◌, ◌++◌, List, [], ◌∷◌, Option, Some, None, inl, inr, map, take, length, refl, sym, ap, subst, ◌∙◌}
use Rattle.std.specs.Prelude.{codes}
use Rattle.std.proofs.lemmas.List.{length-map}
use Rattle.sk_prog.specs.declared.prog.Prog.{Prog}
use Rattle.sk_model.specs.declared.expanded.Obligation.{Obligation}
use Rattle.sk_model.specs.declared.expanded.Pair.{Pair}
use Rattle.sk_model.specs.Obligations.{obligations}
use Rattle.sk_front.specs.declared.expansion.Expansion.{Expansion}
use Rattle.sk_explain_notes.specs.declared.note.Told.{Told}
use Rattle.sk_explain_notes.specs.Notes.{plain, one, one_line}
use Rattle.sk_explain_answers.specs.declared.rows.Row.{Row}
use Rattle.sk_explain_answers.specs.Rows.{rows_of, words_of}
use Rattle.sk_explain_answers.specs.Fillings.{IsKnown}
use Rattle.sk_explain_answers.specs.More.{more_text, most_told}
use Rattle.sk_explain_answers.specs.Calls.{call_of}
use Rattle.sk_explain_answers.specs.Inputs.{AreTold, IsTold, TellsInputs, TellsRows, inputs_title}
use Rattle.sk_explain_answers.specs.Pairs.{TellsListed, TellsPairs, call_at, pairs_title}
use Rattle.sk_explain_answers.specs.Differences.{AreSitesTold, IsSiteTold, TellsList, TellsSites, differing, site_line, values_of}

take_map : {A B : Type 0} (f : A → B) (n : ℕ) (xs : List A) → take n (map f xs) ≡ map f (take n xs)
take_map f zero xs = refl
take_map f (suc n) [] = refl
take_map f (suc n) (x ∷ xs) = ap (λ ys. f x ∷ ys) (take_map f n xs)

-- Inputs

pub input_told : (call : Option (List ℕ)) (text done old new : List ℕ) → call ≡ Some text → new ≡ old ++ text ++ map plain done ++ 10 ∷ [] → IsTold call old new
input_told call text done old new is so = subst (λ c. IsTold c old new) (sym is) (done, so)

pub none_told : (call : Option (List ℕ)) (old new : List ℕ) → call ≡ None → new ≡ old → IsTold call old new
none_told call old new is so = subst (λ c. IsTold c old new) (sym is) so

pub inputs_told : (c : Option (List ℕ)) (cs : List (Option (List ℕ))) (old mid new : List ℕ) → IsTold c old mid → AreTold cs mid new → AreTold (c ∷ cs) old new
inputs_told c cs old mid new a b = (mid, a, b)

pub rows_told : (prog : Prog) (os : List Obligation) (rows : List Row) (old mid new : List ℕ) → AreTold (map (call_of prog os) (map words_of (take most_told rows))) old mid → new ≡ mid ++ more_text (length rows) → TellsRows prog os (map words_of rows) old new
rows_told prog os rows old mid new told more = record {
  mid = mid;
  told = subst (λ (ws : List (List (List ℕ))). AreTold (map (call_of prog os) ws) old mid) (sym (take_map words_of most_told rows)) told;
  more = more ∙ ap (λ (n : ℕ). mid ++ more_text n) (sym (length-map rows words_of));
}

pub answer_told : (text answer : List ℕ) (x : Expansion) (old new : Told) → IsKnown text x → new.title.bytes.items ≡ old.title.bytes.items ++ one (inputs_title x.expanded.sites) → TellsRows x.expanded.prog (obligations x.expanded.prog) (rows_of (codes "input") answer) old.notes.bytes.items new.notes.bytes.items → TellsInputs text answer old new
answer_told text answer x old new known title rows = inr (record { x = x; known = known; title = title; rows = rows })

pub nothing_told : (text answer : List ℕ) (old new : Told) → new ≡ old → TellsInputs text answer old new
nothing_told text answer old new is = inl is

-- Sites

pub site_told : (number : ℕ) (part : List ℕ) (values : List (List ℕ)) (old new : List ℕ) → new ≡ old ++ site_line number part values → IsSiteTold number values old new
site_told number part values old new is = (part, is)

pub sites_told : (rows : List (List (List ℕ))) (n : ℕ) (ns old mid new : List ℕ) → IsSiteTold n (values_of (n - 1) rows) old mid → AreSitesTold rows ns mid new → AreSitesTold rows (n ∷ ns) old new
sites_told rows n ns old mid new a b = (mid, a, b)

pub all_told : (sites : ℕ) (rows : List (List (List ℕ))) (numbers old mid new : List ℕ) → numbers ≡ differing rows sites → AreSitesTold rows (take most_told numbers) old mid → new ≡ mid ++ more_text (length numbers) → TellsSites sites rows old new
all_told sites rows numbers old mid new is told more = record {
  mid = mid;
  told = subst (λ (ns : List ℕ). AreSitesTold rows (take most_told ns) old mid) is told;
  more = more ∙ ap (λ (ns : List ℕ). mid ++ more_text (length ns)) is;
}

pub list_told : (text : List ℕ) (rows : List (List (List ℕ))) (x : Expansion) (old new : Told) → IsKnown text x → new.title.bytes.items ≡ old.title.bytes.items ++ one (codes "the listed completions differ in these numbers of //@ holes:") → TellsSites (length x.expanded.sites) rows old.notes.bytes.items new.notes.bytes.items → TellsList text rows old new
list_told text rows x old new known title sites = inr (record { x = x; known = known; title = title; sites = sites })

pub no_list_told : (text : List ℕ) (rows : List (List (List ℕ))) (old new : Told) → new ≡ old → TellsList text rows old new
no_list_told text rows old new is = inl is

-- Pairs

pub pairs_told : (prog : Prog) (os : List Obligation) (pairs : List Pair) (old mid new : List ℕ) → AreTold (map (call_at prog os) (take most_told pairs)) old mid → new ≡ mid ++ more_text (length pairs) → TellsListed prog os pairs old new
pairs_told prog os pairs old mid new told more = record { mid = mid; told = told; more = more }

pub known_pairs_told : (text : List ℕ) (pairs : List Pair) (x : Expansion) (old mid new : List ℕ) → IsKnown text x → mid ≡ old ++ one_line (pairs_title x.expanded.sites) → TellsListed x.expanded.prog (obligations x.expanded.prog) pairs mid new → TellsPairs text pairs old new
known_pairs_told text pairs x old mid new known title told = inr (record {
  x = x;
  known = known;
  told = subst (λ (at : List ℕ). TellsListed x.expanded.prog (obligations x.expanded.prog) pairs at new) title told;
})

pub no_pairs_told : (text : List ℕ) (pairs : List Pair) (old new : List ℕ) → new ≡ old → TellsPairs text pairs old new
no_pairs_told text pairs old new is = inl is
