-- A program, read line by line.
use Rattle.std.proofs.Common.{◌≡◌, ◌∙◌, ◌++◌, ◌∷◌, ◌<◌, ◌≤◌, ◌+◌, ◌-◌, ℕ, zero, suc, Bool, List, [], length, take, drop, refl, sym, ap, subst, arith, append_assoc, length-append}
use Rattle.std.specs.Prelude.{Option, Some, None, Ok, Err}
use Rattle.std.specs.List.{position}
use Rattle.std.proofs.lemmas.List.{take-append-drop, take_at, length-drop}
use Rattle.sk_cert.specs.declared.lines.Front.{Front}
use Rattle.sk_cert.specs.declared.lines.Front.TheVariants as front
use Rattle.sk_cert.specs.Readers.{Outcome, is_feed, front_of, longer, program_as, program_up_to, program_within, program}
use Rattle.sk_cert.proofs.Exact.{ok_of, err_of}
use Rattle.sk_cert.proofs.OneLine.{line_found}

-- Any number of lines that is no less than that of the bytes serves.

same_turn : (n m : ℕ) (bs : List ℕ) → length bs ≤ suc n → length bs ≤ suc m → ((cs : List ℕ) → length cs ≤ n → length cs ≤ m → program_within n cs ≡ program_within m cs) → program_within (suc n) bs ≡ program_within (suc m) bs
same_turn n m bs h k again = from (position is_feed bs) refl
  where
    each : (i : ℕ) → length (drop (i + 1) bs) ≤ n → length (drop (i + 1) bs) ≤ m → (f : Option Front) → program_as (program_within n) bs i f ≡ program_as (program_within m) bs i f
    each i p q None = refl
    each i p q (Some (front.Ends d)) = refl
    each i p q (Some front.Program) = ap (longer (take (i + 1) bs)) (again (drop (i + 1) bs) p q)

    from : (o : Option ℕ) → position is_feed bs ≡ o → program_within (suc n) bs ≡ program_within (suc m) bs
    from None e = ap (program_up_to (program_within n) bs) e ∙ sym (ap (program_up_to (program_within m) bs) e)
    from (Some i) e =
        let s : length (drop (i + 1) bs) ≡ length bs - (i + 1) = length-drop (i + 1) bs in
        ap (program_up_to (program_within n) bs) e
        ∙ each i (omega arith) (omega arith) (front_of (take i bs))
        ∙ sym (ap (program_up_to (program_within m) bs) e)

none_within : (n : ℕ) → program_within n [] ≡ err_of 0
none_within zero = refl
none_within (suc n) = refl

no_bytes : (bs : List ℕ) → length bs ≤ 0 → [] ≡ bs
no_bytes [] h = refl
no_bytes (b ∷ bs) h = absurd (omega arith)

same_within : (n m : ℕ) (bs : List ℕ) → length bs ≤ n → length bs ≤ m → program_within n bs ≡ program_within m bs
same_within zero m bs h k = subst (λ cs. program_within zero cs ≡ program_within m cs) (no_bytes bs h) (sym (none_within m))
same_within (suc n) zero bs h k = subst (λ cs. program_within (suc n) cs ≡ program_within zero cs) (no_bytes bs k) refl
same_within (suc n) (suc m) bs h k = same_turn n m bs h k (λ cs p q. same_within n m cs p q)

-- What a line in front means

opened : (bs : List ℕ) (m : ℕ) → length bs ≡ suc m → program bs ≡ program_up_to (program_within m) bs (position is_feed bs)
unfolding program
opened bs m e = ap (λ n. program_within n bs) e

size_after : (i : ℕ) (bs : List ℕ) → i < length bs → (m : ℕ) × (length bs ≡ suc m)
size_after i [] h = absurd (omega arith)
size_after i (b ∷ bs) h = (length bs, refl)

line_as : (bs : List ℕ) (i : ℕ) → position is_feed bs ≡ Some i → (f : Option Front) → front_of (take i bs) ≡ f → (m : ℕ) × ((length bs ≡ suc m) × (program bs ≡ program_as (program_within m) bs i f))
line_as bs i e f g =
    let s = size_after i bs (line_found bs i e).within in
    (s.0, (s.1, opened bs s.0 s.1 ∙ ap (program_up_to (program_within s.0) bs) e ∙ ap (program_as (program_within s.0) bs i) g))

line_more : (bs : List ℕ) (i : ℕ) → position is_feed bs ≡ Some i → front_of (take i bs) ≡ Some front.Program → program bs ≡ longer (take (i + 1) bs) (program (drop (i + 1) bs))
unfolding program
line_more bs i e g =
    let l = line_as bs i e (Some front.Program) g in
    let s : length (drop (i + 1) bs) ≡ length bs - (i + 1) = length-drop (i + 1) bs in
    let t : length bs ≡ suc l.0 = l.1.0 in
    l.1.1 ∙ ap (longer (take (i + 1) bs)) (same_within l.0 (length (drop (i + 1) bs)) (drop (i + 1) bs) (omega arith) (omega arith))

pub line_ends : (bs : List ℕ) (i : ℕ) (done : Bool) → position is_feed bs ≡ Some i → front_of (take i bs) ≡ Some (front.Ends done) → program bs ≡ ok_of (([], done), drop (i + 1) bs)
line_ends bs i done e g = (line_as bs i e (Some (front.Ends done)) g).1.1

pub line_stuck : (bs : List ℕ) (i : ℕ) → position is_feed bs ≡ Some i → front_of (take i bs) ≡ None → program bs ≡ err_of (length bs)
line_stuck bs i e g = (line_as bs i e None g).1.1

pub line_none : (bs : List ℕ) → position is_feed bs ≡ None → program bs ≡ err_of (length bs)
unfolding program
line_none [] e = refl
line_none (b ∷ bs) e = ap (program_up_to (program_within (length bs)) (b ∷ bs)) e

-- What stands before the rest of a text

abbrev pub front_before : List ℕ → List ℕ → List ℕ
front_before text rest = take (length text - length rest) text

front_is : (front rest text : List ℕ) → front ++ rest ≡ text → front_before text rest ≡ front
front_is front rest text e =
    let n : length text ≡ length front + length rest = ap length (sym e) ∙ length-append front rest in
    let s : length front ≡ length text - length rest = omega arith in
    ap (take (length text - length rest)) (sym e) ∙ take_at front rest (length text - length rest) s

longer_twice : (a b : List ℕ) (o : Outcome (List ℕ × Bool)) → longer a (longer b o) ≡ longer (a ++ b) o
longer_twice a b (Ok w) = ap (λ (t : List ℕ). ok_of {A = List ℕ × Bool} ((t, w.0.1), w.1)) (sym (append_assoc a b w.0.0))
longer_twice a b (Err n) = refl

-- the lines of a program up to the rest
pub record IsUpTo (text rest : List ℕ) : Type 0 where
  pub apart : front_before text rest ++ rest ≡ text
  pub within : length rest ≤ length text
  pub same : program text ≡ longer (front_before text rest) (program rest)

longer_none : (o : Outcome (List ℕ × Bool)) → o ≡ longer [] o
longer_none (Ok w) = refl
longer_none (Err n) = refl

pub up_to_none : (text : List ℕ) → IsUpTo text text
up_to_none text =
    let f : front_before text text ≡ [] = front_is [] text text refl in
    record {
      apart = ap (λ t. t ++ text) f;
      within = omega arith;
      same = longer_none (program text) ∙ ap (λ t. longer t (program text)) (sym f);
    }

pub up_to_more : (text rest next : List ℕ) (i : ℕ) → IsUpTo text rest → position is_feed rest ≡ Some i → front_of (take i rest) ≡ Some front.Program → next ≡ drop (i + 1) rest → IsUpTo text next
up_to_more text rest next i h e g is = subst (IsUpTo text) (sym is) dropped
  where
    parts : front_before text rest ++ take (i + 1) rest ++ drop (i + 1) rest ≡ text
    parts = append_assoc (front_before text rest) (take (i + 1) rest) (drop (i + 1) rest) ∙ ap (λ t. front_before text rest ++ t) (take-append-drop (i + 1) rest) ∙ h.apart

    dropped : IsUpTo text (drop (i + 1) rest)
    dropped =
        let f : front_before text (drop (i + 1) rest) ≡ front_before text rest ++ take (i + 1) rest = front_is (front_before text rest ++ take (i + 1) rest) (drop (i + 1) rest) text parts in
        let s : length (drop (i + 1) rest) ≡ length rest - (i + 1) = length-drop (i + 1) rest in
        let w : length rest ≤ length text = h.within in
        record {
          apart = ap (λ t. t ++ drop (i + 1) rest) f ∙ parts;
          within = omega arith;
          same = h.same ∙ ap (longer (front_before text rest)) (line_more rest i e g) ∙ longer_twice (front_before text rest) (take (i + 1) rest) (program (drop (i + 1) rest)) ∙ ap (λ t. longer t (program (drop (i + 1) rest))) (sym f);
        }

-- The end of the lines

front_end : (a : List ℕ) → a ++ [] ≡ a
front_end a = Rattle.std.proofs.lemmas.List.append-nil a

pub up_to_end : (text rest : List ℕ) (i : ℕ) (done : Bool) → IsUpTo text rest → position is_feed rest ≡ Some i → front_of (take i rest) ≡ Some (front.Ends done) → program text ≡ ok_of ((front_before text rest, done), drop (i + 1) rest)
up_to_end text rest i done h e g =
    h.same
    ∙ ap (longer (front_before text rest)) (line_ends rest i done e g)
    ∙ ap (λ (t : List ℕ). ok_of {A = List ℕ × Bool} ((t, done), drop (i + 1) rest)) (front_end (front_before text rest))

pub up_to_stuck : (text rest : List ℕ) (i : ℕ) → IsUpTo text rest → position is_feed rest ≡ Some i → front_of (take i rest) ≡ None → program text ≡ err_of (length rest)
up_to_stuck text rest i h e g = h.same ∙ ap (longer (front_before text rest)) (line_stuck rest i e g)

pub up_to_last : (text rest : List ℕ) → IsUpTo text rest → position is_feed rest ≡ None → program text ≡ err_of (length rest)
up_to_last text rest h e = h.same ∙ ap (longer (front_before text rest)) (line_none rest e)
