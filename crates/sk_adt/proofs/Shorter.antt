-- What is left behind a form is shorter than what stood there.
use Rattle.std.proofs.Common.{◌≡◌, ℕ, zero, suc, ◌<◌, ◌≤◌, Bool, true, false, List, [], ◌∷◌, ◌++◌, length, Option, Some, None, refl, arith, if◌then◌else◌}
use Rattle.std.specs.Prelude.{Result, Ok}
use Rattle.sk_base.specs.declared.span.Span.{Span}
use Rattle.sk_tree.specs.declared.token.Token.{Token}
use Rattle.sk_tree.specs.declared.token.Kind.{Kind}
use Rattle.sk_tree.specs.declared.token.Kind.TheVariants as kind
use Rattle.sk_tree.specs.declared.token.Mark.{Mark}
use Rattle.sk_tree.specs.declared.token.Mark.TheVariants as mark
use Rattle.sk_tree.specs.declared.token.Key.{Key}
use Rattle.sk_tree.specs.declared.token.Key.TheVariants as key
use Rattle.sk_parser_laws.specs.Readers.{◌>>=◌, Reader, is_mark, is_key, mark_ahead, mark_at, taken, repeated}
use Rattle.sk_parser_laws.proofs.Loops.{pair, Every, every_none, every_some, every_bind, every_if, every_more, every_repeated, Shrinks}
use Rattle.sk_adt.specs.declared.form.Word.{Word}
use Rattle.sk_adt.specs.declared.form.FieldForm.{FieldForm}
use Rattle.sk_adt.specs.declared.form.VariantForm.{VariantForm}
use Rattle.sk_adt.specs.declared.form.CaseHead.{CaseHead}
use Rattle.sk_adt.specs.declared.form.CaseForm.{CaseForm}
use Rattle.sk_adt.specs.declared.form.Piece.{Piece}
use Rattle.sk_adt.specs.Forms.{sign_at, keyword_at, word_kind, name_at, at_close, is_base, is_length, behind_one, behind_length, behind_any_length, behind_type, field_at, next_field, variant_at, next_variant, depth_after, or_here, close_at, case_at, with_case, next_case, Found}

sign_less : (m : Mark) (ts : List Token) → Every (λ r. length r.1 < length ts) (sign_at m ts)
unfolding sign_at
sign_less m [] = every_none
sign_less m (t ∷ ts) = every_if (is_mark m t.kind) (Some (pair t.span ts)) None (λ e. every_some (omega arith)) (λ e. every_none)

keyword_less : (k : Key) (ts : List Token) → Every (λ r. length r.1 < length ts) (keyword_at k ts)
unfolding keyword_at
keyword_less k [] = every_none
keyword_less k (t ∷ ts) = every_if (is_key k t.kind) (Some (pair t.span ts)) None (λ e. every_some (omega arith)) (λ e. every_none)

mark_less : (m : Mark) (ts : List Token) → Every (λ r. length r < length ts) (mark_at m ts)
unfolding mark_at
mark_less m [] = every_none
mark_less m (t ∷ ts) = every_if (is_mark m t.kind) (Some ts) None (λ e. every_some (omega arith)) (λ e. every_none)

one_less : (fits : Kind → Bool) (ts : List Token) → Every (λ r. length r < length ts) (behind_one fits ts)
unfolding behind_one
one_less fits [] = every_none
one_less fits (t ∷ ts) = every_if (fits t.kind) (Some ts) None (λ e. every_some (omega arith)) (λ e. every_none)

word_less : (k : Kind) (s : Span) (ts : List Token) → Every (λ r. length r.1 < suc (length ts)) (word_kind k s ts)
word_less (kind.Word x) s ts = every_some (omega arith)
word_less (kind.Number n) s ts = every_none
word_less (kind.Text x) s ts = every_none
word_less (kind.Key k) s ts = every_none
word_less (kind.Mark m) s ts = every_none

name_less : (ts : List Token) → Every (λ r. length r.1 < length ts) (name_at ts)
unfolding name_at
name_less [] = every_none
name_less (t ∷ ts) = word_less t.kind t.span ts

length_less : (ts : List Token) → Every (λ r. length r < length ts) (behind_length ts)
unfolding behind_length
length_less ts =
    every_bind (mark_at mark.OpenBracket ts) _ (mark_less mark.OpenBracket ts)
    (λ inner a. every_bind (behind_one is_length inner) _ (one_less is_length inner)
    (λ after b. every_more (mark_less mark.CloseBracket after) (λ r c. omega arith)))

any_length_most : (ts : List Token) → Every (λ r. length r ≤ length ts) (behind_any_length ts)
unfolding behind_any_length
any_length_most ts =
    every_if (mark_ahead mark.OpenBracket ts) (behind_length ts) (Some ts)
    (λ e. every_more (length_less ts) (λ r a. omega arith))
    (λ e. every_some (omega arith))

type_less : (ts : List Token) → Every (λ r. length r < length ts) (behind_type ts)
unfolding behind_type
type_less ts =
    every_bind (behind_one is_base ts) _ (one_less is_base ts)
    (λ base a. every_bind (behind_any_length base) _ (any_length_most base)
    (λ first b. every_more (any_length_most first) (λ r c. omega arith)))

field_less : (ts : List Token) → Every (λ r. length r.1 < length ts) (field_at ts)
unfolding field_at
field_less ts =
    every_bind (behind_type ts) _ (type_less ts)
    (λ behind a. every_bind (name_at behind) _ (name_less behind)
    (λ word b. every_bind (sign_at mark.Semicolon word.1) _ (sign_less mark.Semicolon word.1)
    (λ end c. every_some (omega arith))))

next_field_less : (fields : List FieldForm) (ts : List Token) → Every (λ r. length r.1 < length ts) (next_field fields ts)
unfolding next_field
next_field_less fields ts = every_bind (field_at ts) _ (field_less ts) (λ f a. every_some a)

pub fields_shrink : Shrinks next_field
fields_shrink = record { takes = λ s ts r rest e. (next_field_less s ts).each (pair r rest) e }

variant_less : (ts : List Token) → Every (λ r. length r.1 < length ts) (variant_at ts)
unfolding variant_at
variant_less ts =
    every_bind (name_at ts) _ (name_less ts)
    (λ word a. every_bind (mark_at mark.OpenBrace word.1) _ (mark_less mark.OpenBrace word.1)
    (λ opening b. every_bind (repeated at_close next_field [] opening) _
    (every_repeated at_close next_field (λ s rest. length rest ≤ length opening) (λ s rest i e. every_more (next_field_less s rest) (λ r l. omega arith)) [] opening (omega arith))
    (λ fields c. every_bind (mark_at mark.CloseBrace fields.1) _ (mark_less mark.CloseBrace fields.1)
    (λ rest d. every_some (omega (arith, c.0))))))

next_variant_less : (variants : List VariantForm) (ts : List Token) → Every (λ r. length r.1 < length ts) (next_variant variants ts)
unfolding next_variant
next_variant_less variants ts = every_bind (variant_at ts) _ (variant_less ts) (λ v a. every_some a)

pub variants_shrink : Shrinks next_variant
variants_shrink = record { takes = λ s ts r rest e. (next_variant_less s ts).each (pair r rest) e }

here_most : (t : Token) (ts : List Token) (further : ℕ → Option (List Token)) → ((m : ℕ) → Every (λ r. length r ≤ length ts) (further m)) → (o : Option ℕ) → Every (λ r. length r ≤ suc (length ts)) (or_here (t ∷ ts) further o)
here_most t ts further h None = every_some (omega arith)
here_most t ts further h (Some m) = every_more (h m) (λ r l. omega arith)

close_most : (n : ℕ) (ts : List Token) → Every (λ r. length r ≤ length ts) (close_at n ts)
unfolding close_at
close_most n [] = every_none
close_most n (t ∷ ts) = here_most t ts (λ m. close_at m ts) (λ m. close_most m ts) (depth_after n t.kind)

case_less : (ts : List Token) → Every (λ r. length r.1.1 < length ts) (case_at ts)
unfolding case_at
case_less ts =
    every_bind (keyword_at key.Case ts) _ (keyword_less key.Case ts)
    (λ at a. every_bind (name_at at.1) _ (name_less at.1)
    (λ word b. every_bind (mark_at mark.Colon word.1) _ (mark_less mark.Colon word.1)
    (λ colon c. every_bind (sign_at mark.OpenBrace colon) _ (sign_less mark.OpenBrace colon)
    (λ opening d. every_bind (close_at 0 opening.1) _ (close_most 0 opening.1)
    (λ block e. every_bind (sign_at mark.CloseBrace block) _ (sign_less mark.CloseBrace block)
    (λ close f. every_some (omega arith)))))))

module _ (inner : List Token → Found (List Piece)) where
  next_case_less : (cases : Found (List CaseForm)) (ts : List Token) → Every (λ r. length r.1 < length ts) (next_case inner cases ts)
  unfolding next_case
  next_case_less cases ts = every_bind (case_at ts) _ (case_less ts) (λ c a. every_some a)

  pub cases_shrink : Shrinks (next_case inner)
  cases_shrink = record { takes = λ s ts r rest e. (next_case_less s ts).each (pair r rest) e }
