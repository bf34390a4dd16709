use Rattle.std.proofs.Common.{refl, sym}
use Rattle.std.proofs.lemmas.Bool.{ne_eqb}
use Rattle.std.specs.List.{list_all}
use Rattle.sk_tree.specs.Shapes.{is_blank, is_word_byte, is_digit, mark_of, shape_of}
use Rattle.sk_lexer.proofs.Fronts.{reaches_run, longest_by_test, longest_behind, none_behind, first_blank, first_letter, first_digit, first_mark, none_stands_in_none, blank_not, letter_not, digit_not, stands_other, no_other, stands_slash, no_slash, stands_text, no_text}
use Rattle.sk_lexer.proofs.piece.piece_of.Goals as goal

pub returns-then-is_blank-clause-found : goal.returns-then-is_blank-clause-found
returns-then-is_blank-clause-found c =
    stands_other _ _ _ _ (blank_not _ (sym c.if-is_blank.ensures)) (longest_by_test shape_of (list_all is_blank) _ _ _ _ _ refl (first_blank _ (sym c.if-is_blank.ensures))
    (reaches_run _ _ _ c.blank_len-len.ensures.within c.blank_len-len.ensures.run))

pub returns-then-is_letter-clause-found : goal.returns-then-is_letter-clause-found
returns-then-is_letter-clause-found c =
    stands_other _ _ _ _ (letter_not _ (sym c.if-is_letter.ensures)) (longest_by_test shape_of (list_all is_word_byte) _ _ _ _ _ refl (first_letter _ (sym c.if-is_blank.ensures) (sym c.if-is_letter.ensures))
    (reaches_run _ _ _ c.word_len-len.ensures.within c.word_len-len.ensures.run))

pub returns-then-is_digit-clause-found : goal.returns-then-is_digit-clause-found
returns-then-is_digit-clause-found c =
    stands_other _ _ _ _ (digit_not _ (sym c.if-is_digit.ensures)) (longest_by_test shape_of (list_all is_digit) _ _ _ _ _ refl (first_digit _ (sym c.if-is_blank.ensures) (sym c.if-is_letter.ensures) (sym c.if-is_digit.ensures))
    (reaches_run _ _ _ c.digits_len-len.ensures.within c.digits_len-len.ensures.run))

pub returns-in-Some-clause-found : goal.returns-in-Some-clause-found
returns-in-Some-clause-found c = stands_slash _ _ _ _ _ c.if-first-eq47.true refl c.in-Some.ensures.found c.in-Some.ensures.comment

pub returns-in-None-clause-none : goal.returns-in-None-clause-none
returns-in-None-clause-none c = no_slash _ _ c.if-first-eq47.true c.in-None.ensures.none

pub returns-in-Some-quoted_len-clause-found : goal.returns-in-Some-quoted_len-clause-found
returns-in-Some-quoted_len-clause-found c = stands_text _ _ _ _ c.if-first-eq34.true refl c.in-Some-quoted_len.ensures.found

pub returns-in-None-quoted_len-clause-none : goal.returns-in-None-quoted_len-clause-none
returns-in-None-quoted_len-clause-none c = no_text _ _ c.if-first-eq34.true c.in-None-quoted_len.ensures.none

pub returns-in-Some-mark_at-clause-found : goal.returns-in-Some-mark_at-clause-found
returns-in-Some-mark_at-clause-found c =
    stands_other _ _ _ _ (ne_eqb _ 47 c.if-first-eq47.false) (longest_behind shape_of (mark_of c.args.first) _ _ _ _ _ refl (first_mark _ (sym c.if-is_blank.ensures) (sym c.if-is_letter.ensures) (sym c.if-is_digit.ensures) c.if-first-eq47.false c.if-first-eq34.false)
    c.in-Some-mark_at.ensures.found)

pub returns-in-None-mark_at-clause-none : goal.returns-in-None-mark_at-clause-none
returns-in-None-mark_at-clause-none c =
    no_other _ _ (ne_eqb _ 47 c.if-first-eq47.false) (none_behind shape_of (mark_of c.args.first) _ _ none_stands_in_none (first_mark _ (sym c.if-is_blank.ensures) (sym c.if-is_letter.ensures) (sym c.if-is_digit.ensures) c.if-first-eq47.false c.if-first-eq34.false)
    c.in-None-mark_at.ensures.none)
