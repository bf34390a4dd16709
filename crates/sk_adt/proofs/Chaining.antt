-- A chain of cases is each case up to its further block, `assert false;`, and a brace for each.
use Rattle.std.proofs.Common.{◌≡◌, ℕ, zero, suc, ◌-◌, ◌<◌, arith, List, [], ◌∷◌, ◌++◌, length, refl, sym, ap, ◌∙◌, append_assoc}
use Rattle.std.specs.Prelude.{map}
use Rattle.std.proofs.lemmas.List.{length-map}
use Rattle.sk_base.specs.declared.span.Span.{Span}
use Rattle.sk_tree.specs.declared.token.Mark.TheVariants as mark
use Rattle.sk_adt.specs.declared.form.Spots.{Spots}
use Rattle.sk_adt.specs.declared.form.Known.{Known}
use Rattle.sk_adt.specs.declared.form.CaseForm.{CaseForm, out-CaseForm}
use Rattle.sk_adt.specs.declared.form.Inside.{Inside}
use Rattle.sk_adt.specs.declared.form.SwitchHead.{SwitchHead}
use Rattle.sk_adt.specs.declared.form.Piece.TheFolds.{fold-roll-CaseForm}
use Rattle.sk_adt.specs.Branches.{Tokens, ◌▹◌, sign, refusal, all_at, Branch, branch, branched_case, case_branch, piece_tokens, last_close, switch_tokens, chain}
use Rattle.sk_adt.specs.Chains.{heads, closers}

one_more : (s : Span) (n : ℕ) → closers s n ++ sign mark.CloseBrace s ≡ sign mark.CloseBrace s ++ closers s n
unfolding closers
one_more s zero = refl
one_more s (suc n) = ap (λ (l : Tokens). sign mark.CloseBrace s ++ l) (one_more s n)

pub closers_more : (s : Span) (n : ℕ) → 0 < n → closers s n ≡ sign mark.CloseBrace s ++ closers s (n - 1)
unfolding closers
closers_more s zero h = absurd (omega arith)
closers_more s (suc n) h = let e : n ≡ suc n - 1 = omega arith in ap (λ k. sign mark.CloseBrace s ++ closers s k) e

pub chain_is : (known : List Known) (inside : List Inside) (x : List ℕ) (last : Span) (spots : Spots) (bs : List Branch) → chain known inside x last spots bs ≡ heads known inside x spots bs ++ (refusal last ++ closers last (length bs))
unfolding chain heads closers
chain_is known inside x last spots [] = refl
chain_is known inside x last spots (b ∷ bs) =
    let h = heads known inside x (all_at b.head.close) bs in
    let r = refusal last in
    let k = closers last (length bs) in
    let z = sign mark.CloseBrace last in
    let f = branch known inside x spots b in
    ap (λ (l : Tokens). f ++ (l ++ z)) (chain_is known inside x last (all_at b.head.close) bs)
    ∙ ap (λ (l : Tokens). f ++ l) (append_assoc h (r ++ k) z ∙ ap (λ (l : Tokens). h ++ l) (append_assoc r k z ∙ ap (λ (l : Tokens). r ++ l) (one_more last (length bs))))
    ∙ sym (append_assoc f h (r ++ (z ++ k)))

-- of the cases as they stand in the tree
head_is : (known : List Known) (c : CaseForm) → (branched_case known c).head ≡ (out-CaseForm c).head
head_is known c =
    ap (λ (b : Branch). b.head)
    (fold-roll-CaseForm (List Inside → Tokens) Branch (piece_tokens known) (case_branch known) (record { head = (out-CaseForm c).head; body = (out-CaseForm c).body }))

heads_are : (known : List Known) (cases : List CaseForm) → map (λ b. b.head) (map (branched_case known) cases) ≡ map (λ c. (out-CaseForm c).head) cases
heads_are known [] = refl
heads_are known (c ∷ cs) = (λ i. head_is known c i ∷ heads_are known cs i)

pub switch_is : (known : List Known) (inside : List Inside) (head : SwitchHead) (cases : List CaseForm) (out done final : Tokens) (last : Span)
    → done ≡ out ++ heads known inside head.on.name (record { at = head.at; opening = head.«open»; on = head.on.span; closing = head.close }) (map (branched_case known) cases)
    → last ≡ last_close head.close (map (λ c. (out-CaseForm c).head) cases)
    → final ≡ done ++ (refusal last ++ closers last (length cases)) → final ≡ out ++ switch_tokens known head (map (branched_case known) cases) inside
switch_is known inside head cases out done final last d l f =
    let bs : List Branch = map (branched_case known) cases in
    let spots : Spots = record { at = head.at; opening = head.«open»; on = head.on.span; closing = head.close } in
    let h : Tokens = heads known inside head.on.name spots bs in
    let end : Span → ℕ → Tokens = λ s n. refusal s ++ closers s n in
    let same : last_close head.close (map (λ b. b.head) bs) ≡ last = ap (last_close head.close) (heads_are known cases) ∙ sym l in
    let many : length bs ≡ length cases = length-map cases (branched_case known) in
    let chained : switch_tokens known head bs inside ≡ h ++ end last (length cases) =
    chain_is known inside head.on.name (last_close head.close (map (λ b. b.head) bs)) spots bs ∙ ap (λ (s : Span). h ++ end s (length bs)) same ∙ ap (λ (n : ℕ). h ++ end last n) many in
    f ∙ ap (λ (ts : Tokens). ts ++ end last (length cases)) d ∙ append_assoc out h (end last (length cases)) ∙ ap (λ (ts : Tokens). out ++ ts) (sym chained)
