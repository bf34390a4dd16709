-- Each word among the tokens of a text is a word and no keyword.
use Rattle.std.proofs.Common.{◌≡◌, ℕ, ◌+◌, Bool, true, false, cond, eqb, ◌&&◌, List, [], ◌∷◌, Option, Some, None, length, take, refl, sym, ap, ◌∙◌, subst}
use Rattle.std.specs.Prelude.{is_none, option_map}
use Rattle.std.specs.List.{list_all}
use Rattle.std.proofs.lemmas.List.{take_at}
use Rattle.std.proofs.lemmas.List.Folds.{list_all-append}
use Rattle.sk_tree.specs.declared.shape.Shape.{Shape}
use Rattle.sk_tree.specs.declared.shape.Shape.TheVariants as shape
use Rattle.sk_tree.specs.declared.token.Token.{Token}
use Rattle.sk_tree.specs.declared.token.Kind.{Kind}
use Rattle.sk_tree.specs.declared.token.Kind.TheVariants as kind
use Rattle.sk_tree.specs.declared.token.Key.{Key}
use Rattle.sk_tree.specs.declared.token.Mark.{Mark}
use Rattle.sk_tree.specs.Spelling.{key_of, single_mark, double_mark}
use Rattle.sk_tree.specs.Shapes.{is_blank, is_letter, is_digit, is_word_byte, is_line_byte, is_closed, is_quoted, if_all, slash_of, text_of, mark_of, shape_of}
use Rattle.sk_tree.specs.Tokens.{Divides, word_kind, token_of, tokens_of, AreTokens}
use Rattle.sk_prog.specs.Fits.{is_word, is_name}
use Rattle.sk_types_laws.proofs.Ats.{both}

abbrev pub kind_named : Kind → Bool
kind_named (kind.Word x) = is_name x
kind_named _ = true

-- whether each word among the tokens is a name
abbrev pub named : List Token → Bool
named ts = list_all (λ (t : Token). kind_named t.kind) ts

no_word : (test : ℕ → Bool) (xs : List ℕ) (s r : Shape) → if_all test xs s ≡ Some r → s ≡ r
no_word test xs s r e = elim (list_all test xs) as (λ v. cond v (Some s) None ≡ Some r → s ≡ r) [ true ↦ λ h. cc | false ↦ λ h. cc ] e

slash_no_word : (bs : List ℕ) → slash_of bs ≡ Some shape.Word → ⊥
slash_no_word [] e = cc
slash_no_word (b ∷ bs) e = go (eqb b 47) (eqb b 42) (is_closed bs) e
  where
    go : (s t c : Bool) → cond s (if_all is_line_byte bs shape.Comment) (cond t (cond c (Some shape.Comment) None) None) ≡ Some shape.Word → ⊥
    go true t c e = let h = no_word is_line_byte bs shape.Comment shape.Word e in cc
    go false true true e = cc
    go false true false e = cc
    go false false c e = cc

text_no_word : (v : Bool) → cond v (Some shape.Text) None ≡ Some shape.Word → ⊥
text_no_word true e = cc
text_no_word false e = cc

option_no_word : (o : Option Mark) → option_map shape.Mark o ≡ Some shape.Word → ⊥
option_no_word None e = cc
option_no_word (Some m) e = cc

mark_no_word : (b : ℕ) (bs : List ℕ) → mark_of b bs ≡ Some shape.Word → ⊥
mark_no_word b [] e = option_no_word (single_mark b) e
mark_no_word b (c ∷ []) e = option_no_word (double_mark b c) e
mark_no_word b (c ∷ d ∷ bs) e = cc

word_is : (p : List ℕ) → shape_of p ≡ Some shape.Word → is_word p ≡ true
unfolding shape_of
word_is [] e = cc
word_is (b ∷ bs) e = go (is_blank b) (is_letter b) (is_digit b) (eqb b 47) (eqb b 34) e
  where
    go : (bl l d s q : Bool) → cond bl (if_all is_blank bs shape.Blank) (cond l (if_all is_word_byte bs shape.Word) (cond d (if_all is_digit bs shape.Number) (cond s (slash_of bs) (cond q (text_of bs) (mark_of b bs))))) ≡ Some shape.Word → (l && list_all is_word_byte bs) ≡ true
    go true l d s q e = let h = no_word is_blank bs shape.Blank shape.Word e in cc
    go false true d s q e = elim (list_all is_word_byte bs) as (λ v. cond v (Some shape.Word) None ≡ Some shape.Word → v ≡ true) [ true ↦ λ h. refl | false ↦ λ h. cc ] e
    go false false true s q e = let h = no_word is_digit bs shape.Number shape.Word e in cc
    go false false false true q e = absurd (slash_no_word bs e)
    go false false false false true e = absurd (text_no_word (is_quoted bs) e)
    go false false false false false e = absurd (mark_no_word b bs e)

piece_named : (s : Shape) (at : ℕ) (p : List ℕ) → shape_of p ≡ Some s → named (token_of (Some s) at p) ≡ true
piece_named shape.Word at p e = both (kind_named (word_kind (key_of p) p)) true (go (key_of p) refl) refl
  where
    go : (o : Option Key) → key_of p ≡ o → kind_named (word_kind o p) ≡ true
    go None h = both (is_word p) (is_none (key_of p)) (word_is p e) (ap is_none h)
    go (Some k) h = refl
piece_named shape.Blank at p e = refl
piece_named shape.Comment at p e = refl
piece_named shape.Number at p e = refl
piece_named shape.Text at p e = refl
piece_named (shape.Mark m) at p e = refl

pieces_named : (ps : List (List ℕ)) (text rest : List ℕ) (at : ℕ) → Divides ps text rest → named (tokens_of at ps) ≡ true
pieces_named [] text rest at d = refl
pieces_named (p ∷ ps) text rest at (after, split, piece, more) =
    let front : shape_of p ≡ Some piece.shape = ap shape_of (sym (take_at p after (length p) refl) ∙ ap (take (length p)) (sym split)) ∙ piece.stands.piece.stands in
    let first : named (token_of (shape_of p) at p) ≡ true = subst (λ o. named (token_of o at p) ≡ true) (sym front) (piece_named piece.shape at p front) in
    list_all-append (λ (t : Token). kind_named t.kind) (token_of (shape_of p) at p) (tokens_of (at + length p) ps)
    ∙ both _ _ first (pieces_named ps after rest (at + length p) more)

pub tokens_named : (text : List ℕ) (ts : List Token) → AreTokens text ts → named ts ≡ true
tokens_named text ts a = ap named a.same ∙ pieces_named a.pieces text [] 0 a.whole
