-- A text is divided in one way.
use Rattle.std.proofs.Common.{◌≡◌, ℕ, zero, suc, ◌+◌, ◌-◌, ◌*◌, ◌<◌, ◌≤◌, List, [], ◌∷◌, ◌++◌, Some, None, length, take, drop, refl, sym, ap, ◌∙◌, subst, arith, append_assoc, length-append, append-nil, length-take-le, take-append-drop, ⊎_elim, cond, leb, le-leb, true, false, Bool, eqb, ◌&&◌, eqb-true}
use Rattle.std.proofs.lemmas.Bool.{cases_lt, lt-leb}
use Rattle.std.proofs.lemmas.List.{take_at, drop_at}
use Rattle.sk_tree.specs.declared.shape.Shape.{Shape}
use Rattle.sk_tree.specs.declared.shape.Shape.TheVariants as shape
use Rattle.sk_tree.specs.declared.token.Token.{Token}
use Rattle.sk_tree.specs.Shapes.{shape_of, is_blank, is_letter, is_digit}
use Rattle.sk_tree.specs.Longest.{Stands, NoneStands, NoComment, opens_comment, opens_text}
use Rattle.sk_tree.specs.Tokens.{greatest_number, number_from, number_of, IsWithin, IsPiece, Divides, token_of, tokens_of, AreTokens, Fault, BadByte, OpenComment, LiteralTooLarge, OpenString, IsWrong, IsFirstFault}
use Rattle.sk_lexer.specs.declared.fault.LexFault.{LexFault}
use Rattle.sk_lexer.specs.declared.fault.LexFault.TheVariants as lex
use Rattle.sk_lexer.specs.Lexing.{Tells, IsMemory, IsFaultOrMemory, IsTooLarge, IsWrongAt}

-- more digits make no smaller number
pub number_grows : (n : ℕ) (bs : List ℕ) → n ≤ number_from n bs
number_grows n [] = omega arith
number_grows n (b ∷ bs) = let rest = number_grows (10 * n + (b - 48)) bs in omega arith

-- two longest pieces at one place have one length
same_length : (text : List ℕ) (s r : Shape) (m n : ℕ) → Stands text s m → Stands text r n → m ≡ n
same_length text s r m n a b =
    ⊎_elim (λ lt. let e = sym (a.piece.longest n lt b.piece.within) ∙ b.piece.stands in cc)
    (λ ge. ⊎_elim (λ lt. let e = sym (b.piece.longest m lt a.piece.within) ∙ a.piece.stands in cc) (λ le. omega arith) (cases_lt n m))
    (cases_lt m n)

-- no piece stands at the front
record Ends (rest : List ℕ) : Type 0 where
  by : (p after : List ℕ) → rest ≡ p ++ after → IsPiece p rest → ⊥

-- two divisions up to where none goes on are one
divided_once : (ps qs : List (List ℕ)) (text r s : List ℕ) → Divides ps text r → Divides qs text s → Ends r → Ends s → (ps ≡ qs) × (r ≡ s)
divided_once [] [] text r s a b er es = (refl, sym a ∙ b)
divided_once [] (q ∷ qs) text r s a b er es = absurd (er.by q b.0 (sym a ∙ b.1) (subst (IsPiece q) a b.2))
divided_once (p ∷ ps) [] text r s a b er es = absurd (es.by p a.0 (sym b ∙ a.1) (subst (IsPiece p) b a.2))
divided_once (p ∷ ps) (q ∷ qs) text r s a b er es =
    let len = same_length text a.2.shape b.2.shape (length p) (length q) a.2.stands b.2.stands in
    let p_is = sym (take_at p a.0 (length p) refl) ∙ ap (take (length p)) (sym a.1) ∙ ap (λ n. take n text) len ∙ ap (take (length q)) b.1 ∙ take_at q b.0 (length q) refl in
    let after_is = sym (drop_at p a.0 (length p) refl) ∙ ap (drop (length p)) (sym a.1) ∙ ap (λ n. drop n text) len ∙ ap (drop (length q)) b.1 ∙ drop_at q b.0 (length q) refl in
    let rest = divided_once ps qs a.0 r s a.3 (subst (λ l. Divides qs l s) (sym after_is) b.3) er es in
    ((λ i. p_is i ∷ rest.0 i), rest.1)

-- nothing is a piece of nothing
none_of_nothing : (p after : List ℕ) → [] ≡ p ++ after → IsPiece p [] → ⊥
unfolding shape_of
none_of_nothing [] after e piece = let h = piece.stands.piece.stands in cc
none_of_nothing (b ∷ p) after e piece = cc

ends_at_nothing : Ends []
ends_at_nothing = record { by = none_of_nothing }

-- where none stands there is no piece
no_piece : (rest p after : List ℕ) → NoneStands rest → IsPiece p rest → ⊥
no_piece rest p after none piece = let e = sym (none (length p)) ∙ piece.stands.piece.stands in cc

too_large : (rest p after : List ℕ) (n : ℕ) → Stands rest shape.Number n → greatest_number < number_of (take n rest) → rest ≡ p ++ after → IsPiece p rest → ⊥
too_large rest p after n stands large split piece =
    let len = same_length rest shape.Number piece.shape n (length p) stands piece.stands in
    let p_is = ap (λ k. take k rest) len ∙ ap (take (length p)) split ∙ take_at p after (length p) refl in
    let e = sym stands.piece.stands ∙ ap (λ k. shape_of (take k rest)) len ∙ piece.stands.piece.stands in
    let same : Some shape.Number ≡ Some piece.shape = e in
    let w = subst (λ s. IsWithin s p) (sym same) piece.within in
    omega (arith, w, ap number_of p_is)

-- where a comment begins and does not end, there is no piece
no_comment : (rest p : List ℕ) → opens_comment rest ≡ true → NoComment rest → IsPiece p rest → ⊥
no_comment rest p opens none piece =
    none (length p) (piece.stands.piece.stands ∙ ap Some (piece.stands.comment opens))

ends_at_fault : (fault : Fault) (rest : List ℕ) → IsWrong fault rest → Ends rest
ends_at_fault OpenComment rest w = record { by = λ p after e piece. no_comment rest p w.0 w.1 piece }
ends_at_fault BadByte rest w = record { by = λ p after e piece. no_piece rest p after w.2 piece }
ends_at_fault OpenString rest w = record { by = λ p after e piece. no_piece rest p after w.1 piece }
ends_at_fault LiteralTooLarge rest w = record { by = λ p after e piece. too_large rest p after w.0 w.1 w.2 e piece }

-- one fault at one place
stands_not : (rest : List ℕ) (s : Shape) (n : ℕ) → Stands rest s n → NoneStands rest → ⊥
stands_not rest s n stands none = let e = sym (none n) ∙ stands.piece.stands in cc

-- where a comment begins, the mark / could stand
slash_stands : (rest : List ℕ) → opens_comment rest ≡ true → NoneStands rest → ⊥
unfolding shape_of is_blank is_letter is_digit
slash_stands [] opens none = cc
slash_stands (b ∷ []) opens none = cc
slash_stands (b ∷ c ∷ bs) opens none = by (eqb b 47) refl opens
  where
    by : (t : Bool) → eqb b 47 ≡ t → (t && eqb c 42) ≡ true → ⊥
    by false e opens = cc
    by true e opens =
        let is : b ≡ 47 = eqb-true b 47 e in
        let f = subst (λ k. shape_of (k ∷ []) ≡ None) is (none 1) in cc

number_not_comment : (rest : List ℕ) (n : ℕ) → opens_comment rest ≡ true → Stands rest shape.Number n → ⊥
number_not_comment rest n opens stands = let e = stands.comment opens in cc

both_open : (rest : List ℕ) → opens_comment rest ≡ true → opens_text rest ≡ true → ⊥
both_open [] a b = cc
both_open (x ∷ []) a b = cc
both_open (x ∷ y ∷ rest) a b =
    let is : x ≡ 34 = eqb-true x 34 b in
    let f = subst (λ k. (eqb k 47 && eqb y 42) ≡ true) is a in cc

one_wrong : (f g : Fault) (rest : List ℕ) → IsWrong f rest → IsWrong g rest → f ≡ g
one_wrong OpenComment OpenComment rest a b = refl
one_wrong BadByte BadByte rest a b = refl
one_wrong LiteralTooLarge LiteralTooLarge rest a b = refl
one_wrong OpenString OpenString rest a b = refl
one_wrong OpenComment BadByte rest a b = absurd (slash_stands rest a.0 b.2)
one_wrong BadByte OpenComment rest a b = absurd (slash_stands rest b.0 a.2)
one_wrong OpenComment OpenString rest a b = absurd (both_open rest a.0 b.0)
one_wrong OpenString OpenComment rest a b = absurd (both_open rest b.0 a.0)
one_wrong OpenComment LiteralTooLarge rest a b = absurd (number_not_comment rest b.0 a.0 b.1)
one_wrong LiteralTooLarge OpenComment rest a b = absurd (number_not_comment rest a.0 b.0 a.1)
one_wrong BadByte OpenString rest a b = let e = sym a.1 ∙ b.0 in absurd cc
one_wrong OpenString BadByte rest a b = let e = sym b.1 ∙ a.0 in absurd cc
one_wrong BadByte LiteralTooLarge rest a b = absurd (stands_not rest shape.Number b.0 b.1 a.2)
one_wrong LiteralTooLarge BadByte rest a b = absurd (stands_not rest shape.Number a.0 a.1 b.2)
one_wrong OpenString LiteralTooLarge rest a b = absurd (stands_not rest shape.Number b.0 b.1 a.1)
one_wrong LiteralTooLarge OpenString rest a b = absurd (stands_not rest shape.Number a.0 a.1 b.1)

-- nothing is wrong with nothing
none_wrong : (f : Fault) → IsWrong f [] → ⊥
unfolding shape_of
none_wrong OpenComment w = let e = w.0 in cc
none_wrong BadByte w = omega (arith, w.0)
none_wrong OpenString w = let e = w.0 in cc
none_wrong LiteralTooLarge (zero, s, l) = let e = s.piece.stands in cc
none_wrong LiteralTooLarge (suc n, s, l) = let e = s.piece.stands in cc

pub one_list : (text : List ℕ) (ts us : List Token) → AreTokens text ts → AreTokens text us → ts ≡ us
one_list text ts us a b =
    let once = divided_once a.pieces b.pieces text [] [] a.whole b.whole ends_at_nothing ends_at_nothing in
    a.same ∙ ap (tokens_of 0) once.0 ∙ sym b.same

pub one_fault : (text : List ℕ) (f g : Fault) (m n : ℕ) → IsFirstFault text f m → IsFirstFault text g n → (f ≡ g) × (m ≡ n)
one_fault text f g m n a b =
    let once = divided_once a.pieces b.pieces text a.rest b.rest a.before b.before (ends_at_fault f a.rest a.wrong) (ends_at_fault g b.rest b.wrong) in
    (one_wrong f g a.rest a.wrong (subst (IsWrong g) (sym once.1) b.wrong), omega (arith, a.place, b.place, ap length once.1))

pub not_both : (text : List ℕ) (ts : List Token) (f : Fault) (n : ℕ) → AreTokens text ts → IsFirstFault text f n → ⊥
not_both text ts f n a b =
    let once = divided_once a.pieces b.pieces text [] b.rest a.whole b.before ends_at_nothing (ends_at_fault f b.rest b.wrong) in
    none_wrong f (subst (IsWrong f) (sym once.1) b.wrong)

-- how far the lexer has come: whatever divides the rest divides the text, with these tokens before
pub record Reached (text rest : List ℕ) (out : List Token) (at : ℕ) : Type 0 where
  pub on : (ps : List (List ℕ)) (end : List ℕ) → Divides ps rest end → (qs : List (List ℕ)) × Divides qs text end × (tokens_of 0 qs ≡ out ++ tokens_of at ps)
  pub place : at + length rest ≡ length text

pub reached_none : (text : List ℕ) → Reached text text [] 0
reached_none text = record { on = λ ps end d. (ps, d, refl); place = omega arith }

-- a piece has a byte
pub piece_positive : (text : List ℕ) (s : Shape) (n : ℕ) → Stands text s n → 0 < n
unfolding shape_of
piece_positive text s zero h = let e = h.piece.stands in cc
piece_positive text s (suc n) h = omega arith

pub reached_more : (text rest after p : List ℕ) (out out' : List Token) (at at' n : ℕ) (s : Shape) → Reached text rest out at → Stands rest s n → IsWithin (Some s) p → p ≡ take n rest → after ≡ drop n rest → out' ≡ out ++ token_of (Some s) at p → at' ≡ at + n → Reached text after out' at'
reached_more text rest after p out out' at at' n s r stands within p_is after_is out_is at_is =
    let len : length p ≡ n = ap length p_is ∙ length-take-le n rest stands.piece.within in
    let split : rest ≡ p ++ after = sym (take-append-drop n rest) ∙ (λ i. sym p_is i ++ sym after_is i) in
    let here : shape_of p ≡ Some s = ap shape_of p_is ∙ stands.piece.stands in
    let place : at' ≡ at + length p = omega arith in
    record {
      on = λ ps end d.
          let more = r.on (p ∷ ps) end (after, split, record { shape = s; stands = subst (Stands rest s) (sym len) stands; within = within }, d) in (
            more.0,
            more.1,
            more.2 ∙ ap (λ o. out ++ (token_of o at p ++ tokens_of (at + length p) ps)) here
                ∙ sym (append_assoc out (token_of (Some s) at p) (tokens_of (at + length p) ps))
                ∙ (λ i. sym out_is i ++ tokens_of (sym place i) ps),
          );
      place = omega (arith, r.place, ap length split, length-append p after);
    }

pub reached_fault : (text rest : List ℕ) (out : List Token) (at : ℕ) (fault : Fault) → Reached text rest out at → IsWrong fault rest → IsFirstFault text fault at
reached_fault text rest out at fault r wrong =
    let d = r.on [] rest refl in
    record { pieces = d.0; rest = rest; before = d.1; wrong = wrong; place = r.place }

-- what is told where no piece stands
pub reached_wrong : (text rest : List ℕ) (out : List Token) (at : ℕ) (e : LexFault) → Reached text rest out at → IsWrongAt rest at e → Tells text e
reached_wrong text rest out at (lex.BadByte a) r w = subst (IsFirstFault text BadByte) w.1 (reached_fault text rest out at BadByte r w.0)
reached_wrong text rest out at (lex.OpenComment a) r w = subst (IsFirstFault text OpenComment) w.1 (reached_fault text rest out at OpenComment r w.0)
reached_wrong text rest out at (lex.LiteralTooLarge a) r w = subst (IsFirstFault text LiteralTooLarge) w.1 (reached_fault text rest out at LiteralTooLarge r w.0)
reached_wrong text rest out at (lex.OpenString a) r w = subst (IsFirstFault text OpenString) w.1 (reached_fault text rest out at OpenString r w.0)
reached_wrong text rest out at lex.Memory r w = absurd w

-- the fault of a token that can't be pushed
pub reached_too_large : (text rest p : List ℕ) (out : List Token) (at n : ℕ) (s : Shape) (e : LexFault) → Reached text rest out at → Stands rest s n → p ≡ take n rest → IsTooLarge s at p e → Tells text e
reached_too_large text rest p out at n s (lex.LiteralTooLarge a) r stands p_is h =
    let wrong : IsWrong LiteralTooLarge rest = (n, subst (λ k. Stands rest k n) h.0 stands, subst (λ l. greatest_number < number_of l) p_is h.1) in
    subst (IsFirstFault text LiteralTooLarge) h.2 (reached_fault text rest out at LiteralTooLarge r wrong)
reached_too_large text rest p out at n s (lex.BadByte a) r stands p_is h = absurd h
reached_too_large text rest p out at n s (lex.OpenComment a) r stands p_is h = absurd h
reached_too_large text rest p out at n s (lex.OpenString a) r stands p_is h = absurd h
reached_too_large text rest p out at n s lex.Memory r stands p_is h = tt

pub reached_all : (text rest : List ℕ) (out : List Token) (at : ℕ) → Reached text rest out at → length rest ≡ 0 → AreTokens text out
reached_all text [] out at r e =
    let d = r.on [] [] refl in
    record { pieces = d.0; whole = d.1; same = sym (append-nil out) ∙ sym d.2 }
reached_all text (b ∷ rest) out at r e = absurd (omega arith)

-- no other answer
pub only_list : (text : List ℕ) (found ts : List Token) → AreTokens text found → AreTokens text ts → found ≡ ts
only_list text found ts a b = one_list text found ts a b

pub list_or_memory : (text : List ℕ) (ts : List Token) (e : LexFault) → Tells text e → AreTokens text ts → IsMemory e
list_or_memory text ts lex.Memory told a = tt
list_or_memory text ts (lex.BadByte n) told a = not_both text ts BadByte n a told
list_or_memory text ts (lex.OpenComment n) told a = not_both text ts OpenComment n a told
list_or_memory text ts (lex.LiteralTooLarge n) told a = not_both text ts LiteralTooLarge n a told
list_or_memory text ts (lex.OpenString n) told a = not_both text ts OpenString n a told

pub fault_or_memory : (text : List ℕ) (f : Fault) (at : ℕ) (e : LexFault) → Tells text e → IsFirstFault text f at → IsFaultOrMemory f at e
fault_or_memory text f at lex.Memory told a = tt
fault_or_memory text f at (lex.BadByte n) told a = one_fault text f BadByte at n a told
fault_or_memory text f at (lex.OpenComment n) told a = one_fault text f OpenComment at n a told
fault_or_memory text f at (lex.LiteralTooLarge n) told a = one_fault text f LiteralTooLarge at n a told
fault_or_memory text f at (lex.OpenString n) told a = one_fault text f OpenString at n a told

-- the number, read to its end
pub number_read : (bs : List ℕ) (n : ℕ) → n ≤ greatest_number → n ≡ number_from 0 bs → Some n ≡ cond (leb (number_of bs) 2147483647) (Some (number_of bs)) None
unfolding number_of
number_read bs n within e = let t = le-leb (number_from 0 bs) 2147483647 (omega arith) in rw t (ap Some e)

pub number_too_large : (bs : List ℕ) → greatest_number < number_of bs → None ≡ cond (leb (number_of bs) 2147483647) (Some (number_of bs)) None
number_too_large bs above = let t = lt-leb (number_of bs) 2147483647 above in rw t refl
