-- What the readers of expressions read is spelt so, stands as it may, and is as deep as they say.
use Rattle.std.proofs.Common.{◌≡◌, ℕ, zero, suc, max, ◌-◌, ◌<◌, ◌≤◌, Bool, true, false, not, ◌&&◌, leb, List, [], ◌∷◌, ◌++◌, length, map, Option, Some, None, refl, sym, ap, ◌∙◌, arith, map-id}
use Rattle.std.specs.List.{list_all}
use Rattle.std.proofs.lemmas.Bool.{leb-true, leb-false, le-leb}
use Rattle.sk_base.specs.declared.span.Span.{Span}
use Rattle.sk_tree.specs.declared.token.Token.{Token}
use Rattle.sk_tree.specs.declared.token.Kind.{Kind}
use Rattle.sk_tree.specs.declared.token.Kind.TheVariants as kind
use Rattle.sk_tree.specs.declared.token.Mark.{Mark}
use Rattle.sk_tree.specs.declared.token.Mark.TheVariants as mark
use Rattle.sk_tree.specs.declared.token.Key.TheVariants as key
use Rattle.sk_tree.specs.declared.pattern.Pattern.{Pattern}
use Rattle.sk_tree.specs.declared.expr.Expr.{Expr}
use Rattle.sk_tree.specs.declared.expr.EForm.{EForm}
use Rattle.sk_tree.specs.declared.expr.EForm.TheVariants as eform
use Rattle.sk_tree.specs.declared.expr.NewField.{NewField}
use Rattle.sk_tree.specs.declared.expr.EForm.TheOpen as E
use Rattle.sk_tree.specs.declared.expr.EForm.TheFolds.{fold-NewField, fold-roll-NewField}
use Rattle.sk_tree.specs.Phrase.{Sign, ◌▸◌, Between}
use Rattle.sk_tree.specs.Spelt.{Saying, AsChoice, SpeltPart, are_some, is_unary}
use Rattle.sk_tree.specs.Depth.{deepest, eform_depth, expr_depth}
use Rattle.sk_tree.specs.Placed.{Place, level_of, binds, all_placed, are_yes, eform_place, expr_place, field_placed, place_of}
use Rattle.sk_tree.proofs.Layers.{ExprBy, FieldBy, field_by}
use Rattle.sk_parser_laws.specs.declared.pieces.Deep.{Deep}
use Rattle.sk_parser_laws.specs.declared.pieces.Row.{Row}
use Rattle.sk_parser_laws.specs.declared.pieces.Fields.{Fields}
use Rattle.sk_parser_laws.specs.Readers.{mark_ahead, mark_at, word_at, number_at, repeated, deeper}
use Rattle.sk_parser_laws.specs.PatternReader.{pattern_at}
use Rattle.sk_parser_laws.specs.ExprReader.{made, ByLevel, one_expr, push_expr, ends_row, next_expr, exprs_at, args_at, push_field, field_at, next_field, no_fields, some_fields_at, fields_at, wide_hole_at, hole_at, paren_at, call_at, named_at, new_at, braces_at, Trees, offer_at, primary_kind, primary_at, ends_base, member_at, slice_at, element_at, bracket_at, behind_base, is_operator, ends_chain_kind, ends_chain, operator_kind, operator_at, sign_kind, sign_at, behind_operand, choice_at, behind_cond, base_at, signed_at, by_sign, operand_at, level_at, expr_at}
use Rattle.sk_parser_laws.proofs.Loops.{pair, Every, every_none, every_some, every_bind, every_if, every_more, every_both, every_deeper, every_repeated, Shrinks}
use Rattle.sk_parser_laws.proofs.Seen.{token, Seen, Stands, seen_then, seen_given, seen_nothing, seen_as, seen_stands, stands_less, seen_no_more, mark_stands, word_stands, number_stands, seen_between_one, seen_between_more}
use Rattle.sk_parser_laws.proofs.PatternSound.{pattern_sound, deepest_push, map_push, some_push}
use Rattle.sk_parser_laws.proofs.ExprNodes.{Made, every_made}

-- Operators

pub both_true : (a b : Bool) → (a && b) ≡ true → (a ≡ true) × (b ≡ true)
both_true true b h = (refl, h)
both_true false b h = cc

pub both : {x y : Bool} → x ≡ true → y ≡ true → (x && y) ≡ true
both f g = rw (f, g) refl

not_false : (b : Bool) → not b ≡ false → b ≡ true
not_false true h = refl
not_false false h = cc

not_true : (b : Bool) → not b ≡ true → b ≡ false
not_true true h = cc
not_true false h = refl

-- an operator at the front, of level 3 or more
pub record Operator (ts : List Token) (op : Mark) (rest : List Token) : Type 0 where
  pub stands : Stands (kind.Mark op) ts rest
  pub loose : 3 ≤ level_of op

operator_kind_is : (k : Kind) (s : Span) (ts : List Token) → Every (λ x. Operator (token k s ∷ ts) x.0 x.1) (operator_kind k ts)
operator_kind_is (kind.Mark op) s ts =
    every_if (leb 3 (level_of op)) (Some (pair op ts)) None
    (λ e. every_some (record { stands = record { at = s; is = refl }; loose = leb-true 3 (level_of op) e }))
    (λ e. every_none)
operator_kind_is _ s ts = every_none

pub operator_is : (ts : List Token) → Every (λ x. Operator ts x.0 x.1) (operator_at ts)
unfolding operator_at
operator_is [] = every_none
operator_is (t ∷ ts) = operator_kind_is t.kind t.span ts

-- where an operator stands that does not end a chain, it is of at most that level
pub operator_within : (level : ℕ) (op : Mark) (ts rest : List Token) → Operator ts op rest → ends_chain level ts ≡ false → level_of op ≤ level
unfolding ends_chain
operator_within level op ts rest o e =
    let f : not (is_operator level op) ≡ false = sym (ap (ends_chain level) o.stands.is) ∙ e in
    leb-true (level_of op) level (both_true (leb 3 (level_of op)) (leb (level_of op) level) (not_false (is_operator level op) f)).1

-- and where it ends one, it is of a greater level
pub operator_above : (level : ℕ) (op : Mark) (ts rest : List Token) → Operator ts op rest → ends_chain level ts ≡ true → level < level_of op
unfolding ends_chain
operator_above level op ts rest o e =
    let f : not (is_operator level op) ≡ true = sym (ap (ends_chain level) o.stands.is) ∙ e in
    go (leb (level_of op) level) refl (not_true (is_operator level op) f)
  where
    go : (b : Bool) → leb (level_of op) level ≡ b → (leb 3 (level_of op) && leb (level_of op) level) ≡ false → level < level_of op
    go true is isnt = let yes' : (leb 3 (level_of op) && leb (level_of op) level) ≡ true = both (le-leb 3 (level_of op) o.loose) is in cc
    go false is isnt = leb-false (level_of op) level is

ends_kind_less : (j k : ℕ) (kd : Kind) → j ≤ k → ends_chain_kind k kd ≡ true → ends_chain_kind j kd ≡ true
ends_kind_less j k (kind.Mark op) h e = go (leb 3 (level_of op)) (leb (level_of op) j) refl refl
  where
    go : (a b : Bool) → leb 3 (level_of op) ≡ a → leb (level_of op) j ≡ b → not (a && b) ≡ true
    go false b f g = refl
    go true false f g = refl
    go true true f g =
        let low : level_of op ≤ j = leb-true (level_of op) j g in
        let both_are : is_operator k op ≡ true = both f (le-leb (level_of op) k (omega arith)) in
        let isnt : not (is_operator k op) ≡ true = e in
        let bad : not true ≡ true = sym (ap not both_are) ∙ isnt in
        cc
ends_kind_less j k _ h e = refl

-- what ends a chain ends each tighter one
pub ends_less : (j k : ℕ) (ts : List Token) → j ≤ k → ends_chain k ts ≡ true → ends_chain j ts ≡ true
unfolding ends_chain
ends_less j k [] h e = refl
ends_less j k (t ∷ ts) h e = ends_kind_less j k t.kind h e

level_most : (op : Mark) → leb (level_of op) 12 ≡ true
level_most mark.Star = refl
level_most mark.Slash = refl
level_most mark.Percent = refl
level_most mark.Plus = refl
level_most mark.Minus = refl
level_most mark.ShiftLeft = refl
level_most mark.ShiftRight = refl
level_most mark.Less = refl
level_most mark.AtMost = refl
level_most mark.Greater = refl
level_most mark.AtLeast = refl
level_most mark.Equal = refl
level_most mark.NotEqual = refl
level_most mark.Ampersand = refl
level_most mark.Caret = refl
level_most mark.Bar = refl
level_most mark.AndThen = refl
level_most mark.OrElse = refl
level_most _ = refl

pub level_low : (op : Mark) → level_of op ≤ 12
level_low op = leb-true (level_of op) 12 (level_most op)

ends_kind_any : (k : ℕ) (kd : Kind) → ends_chain_kind 13 kd ≡ true → ends_chain_kind k kd ≡ true
ends_kind_any k (kind.Mark op) e = go (leb 3 (level_of op)) refl
  where
    go : (a : Bool) → leb 3 (level_of op) ≡ a → not (a && leb (level_of op) k) ≡ true
    go false f = refl
    go true f =
        let both_are : is_operator 13 op ≡ true = both f (le-leb (level_of op) 13 (omega (arith, level_low op))) in
        let isnt : not (is_operator 13 op) ≡ true = e in
        let bad : not true ≡ true = sym (ap not both_are) ∙ isnt in
        absurd (cc)
ends_kind_any k _ e = refl

-- what ends a chain of any level ends each
pub ends_any : (k : ℕ) (ts : List Token) → ends_chain 13 ts ≡ true → ends_chain k ts ≡ true
unfolding ends_chain
ends_any k [] e = refl
ends_any k (t ∷ ts) e = ends_kind_any k t.kind e

ends_kind_low : (j : ℕ) (kd : Kind) → j < 3 → ends_chain_kind j kd ≡ true
ends_kind_low j (kind.Mark op) h = go (leb 3 (level_of op)) (leb (level_of op) j) refl refl
  where
    go : (a b : Bool) → leb 3 (level_of op) ≡ a → leb (level_of op) j ≡ b → not (a && b) ≡ true
    go false b f g = refl
    go true false f g = refl
    go true true f g = absurd (omega (arith, leb-true 3 (level_of op) f, leb-true (level_of op) j g))
ends_kind_low j _ h = refl

-- no operator is tighter than level 3
pub ends_low : (j : ℕ) (ts : List Token) → j < 3 → ends_chain j ts ≡ true
unfolding ends_chain
ends_low j [] h = refl
ends_low j (t ∷ ts) h = ends_kind_low j t.kind h

sign_kind_is : (k : Kind) (s : Span) (ts : List Token) → Every (λ x. Stands (kind.Mark x.0) (token k s ∷ ts) x.1 × (is_unary x.0 ≡ true)) (sign_kind k ts)
sign_kind_is (kind.Mark op) s ts =
    every_if (is_unary op) (Some (pair op ts)) None (λ e. every_some (record { at = s; is = refl }, e)) (λ e. every_none)
sign_kind_is _ s ts = every_none

pub sign_is : (ts : List Token) → Every (λ x. Stands (kind.Mark x.0) ts x.1 × (is_unary x.0 ≡ true)) (sign_at ts)
unfolding sign_at
sign_is [] = every_none
sign_is (t ∷ ts) = sign_kind_is t.kind t.span ts

-- the rest of what is made is the rest that was given
pub made_rest : (budget : ℕ) (start : List Token) (f : EForm) (depth : ℕ) (rest : List Token) → Every (λ x. x.1 ≡ rest) (made budget start f depth rest)
unfolding made
made_rest budget start f depth rest = every_bind {Q = λ _. Unit {0}} (deeper budget depth) _ (record { each = λ n e. tt }) (λ n _. every_some refl)

pub all_push : {A : Type 0} (test : A → Bool) (xs : List A) (a : A) → list_all test xs ≡ true → test a ≡ true → list_all test (xs ++ a ∷ []) ≡ true
all_push test [] a h p = both p refl
all_push test (x ∷ xs) a h p =
    let parts = both_true (test x) (list_all test xs) h in
    both parts.0 (all_push test xs a parts.1 p)

-- Fields

abbrev pub field_depth : NewField → ℕ
field_depth = fold-NewField ℕ ℕ ℕ eform_depth (λ x. suc x.form) (λ x. suc x.value)

abbrev pub field_place : NewField → Bool
field_place = fold-NewField Place Place Bool eform_place expr_place field_placed

abbrev pub field_of : List ℕ → Expr → NewField
field_of name e = record { name = name; value = e }

pub field_depth_is : (name : List ℕ) (e : Expr) → field_depth (field_of name e) ≡ suc (expr_depth e)
field_depth_is name e = fold-roll-NewField ℕ ℕ ℕ eform_depth (λ x. suc x.form) (λ x. suc x.value) (record { name = name; value = e })

pub field_place_is : (name : List ℕ) (e : Expr) → field_place (field_of name e) ≡ (place_of e).placed
field_place_is name e = fold-roll-NewField Place Place Bool eform_place expr_place field_placed (record { name = name; value = e })

-- What the trees of a pattern have to be.
pub record GoodTrees (says : Saying) (trees : Trees) : Type 0 where
  pub spelt : (p : Pattern) (es : List Expr) (ts rest : List Token) → trees p ≡ Some es → Seen (Sign mark.OpenPattern ▸ SpeltPart p AsChoice ▸ Sign mark.ClosePattern) ts rest → Seen (says p es) ts rest
  pub placed : (p : Pattern) (es : List Expr) → trees p ≡ Some es → all_placed (map place_of es) ≡ true

module _ (says : Saying) where
  -- an expression of at most this level, and no operator of that level behind it
  pub record Found (budget level : ℕ) (start : List Token) (d : Deep) (rest : List Token) : Type 0 where
    pub of : Made says budget level start d rest
    pub ends : ends_chain level rest ≡ true

  pub record SoundByLevel (budget : ℕ) (inner : ByLevel) : Type 0 where
    pub sound : (level : ℕ) (ts : List Token) → 0 < level → Every (λ x. Found budget level ts x.0 x.1) (inner level ts)

  -- expressions so far
  pub record FoundRow (start : List Token) (row : Row) (rest : List Token) : Type 0 where
    pub seen : Seen (Between (Sign mark.Comma) (ExprBy says) row.items) start rest
    pub some : are_some row.items ≡ true
    pub less : length rest < length start
    pub depth : row.depth ≡ deepest (map expr_depth row.items)
    pub placed : all_placed (map place_of row.items) ≡ true

  pub record FoundArgs (start : List Token) (row : Row) (rest : List Token) : Type 0 where
    pub seen : Seen (Between (Sign mark.Comma) (ExprBy says) row.items) start rest
    pub depth : row.depth ≡ deepest (map expr_depth row.items)
    pub placed : all_placed (map place_of row.items) ≡ true

  -- fields so far
  pub record FoundFields (start : List Token) (fields : Fields) (rest : List Token) : Type 0 where
    pub seen : Seen (Between (Sign mark.Comma) (FieldBy says) fields.items) start rest
    pub some : are_some fields.items ≡ true
    pub depth : fields.depth ≡ deepest (map field_depth fields.items)
    pub placed : are_yes (map field_place fields.items) ≡ true

  pub record FoundSets (start : List Token) (fields : Fields) (rest : List Token) : Type 0 where
    pub seen : Seen (Between (Sign mark.Comma) (FieldBy says) fields.items) start rest
    pub depth : fields.depth ≡ deepest (map field_depth fields.items)
    pub placed : are_yes (map field_place fields.items) ≡ true

  -- a chain so far: no operator that follows is tighter than its own
  pub record Chained (budget level : ℕ) (start : List Token) (d : Deep) (rest : List Token) : Type 0 where
    pub of : Made says budget level start d rest
    pub twelve : (place_of d.expr).level ≤ 12
    pub edge : ends_chain ((place_of d.expr).level - 1) rest ≡ true

  looser : (budget k level : ℕ) (start : List Token) (d : Deep) (rest : List Token) → k ≤ level → Made says budget k start d rest → Made says budget level start d rest
  looser budget k level start d rest h m = record { seen = m.seen; less = m.less; depth = m.depth; within = m.within; placed = m.placed; level_is = omega (arith, m.level_is, h) }

  module _ (b : ℕ) (inner : ByLevel) (good : SoundByLevel b inner) where
    any_found : (ts : List Token) → Every (λ x. Found b 13 ts x.0 x.1) (inner 13 ts)
    any_found ts = good.sound 13 ts (omega arith)

    next_expr_found : (start : List Token) (row : Row) (ts : List Token) → FoundRow start row ts → Every (λ x. FoundRow start x.0 x.1) (next_expr inner row ts)
    unfolding next_expr push_expr
    next_expr_found start row ts f =
        every_bind (mark_at mark.Comma ts) _ (mark_stands mark.Comma ts)
        (λ comma at. every_bind (inner 13 comma) _ (any_found comma)
        (λ e g. every_some (record {
          seen = seen_between_more (Sign mark.Comma) (ExprBy says) row.items e.0.expr f.some f.seen (seen_then (seen_stands at) g.of.seen);
          some = some_push row.items e.0.expr;
          less = omega (arith, f.less, stands_less at, g.of.less);
          depth = (λ i. max (f.depth i) (g.of.depth i)) ∙ sym (ap deepest (map_push expr_depth row.items e.0.expr) ∙ deepest_push (map expr_depth row.items) (expr_depth e.0.expr));
          placed = ap all_placed (map_push place_of row.items e.0.expr) ∙ all_push (λ (p : Place). p.placed) (map place_of row.items) (place_of e.0.expr) f.placed g.of.placed;
        })))

    pub next_expr_shrinks : Shrinks (next_expr inner)
    unfolding next_expr
    next_expr_shrinks = record {
      takes = λ row ts r rest e.
          (every_bind {R = λ (x : Row × List Token). length x.1 < length ts} (mark_at mark.Comma ts) _ (mark_stands mark.Comma ts)
          (λ comma at. every_bind (inner 13 comma) _ (any_found comma) (λ p g. every_some (omega (arith, stands_less at, g.of.less))))).each (pair r rest) e;
    }

    exprs_found : (ts : List Token) → Every (λ x. FoundRow ts x.0 x.1) (exprs_at inner ts)
    unfolding exprs_at
    exprs_found ts =
        every_bind (inner 13 ts) _ (any_found ts)
        (λ e f. every_more (every_repeated ends_row (next_expr inner) (FoundRow ts) (λ row rest i _. next_expr_found ts row rest i) (one_expr e.0) e.1
        (record { seen = seen_between_one (Sign mark.Comma) (ExprBy says) e.0.expr f.of.seen; some = refl; less = f.of.less; depth = omega (arith, f.of.depth); placed = both f.of.placed refl }))
        (λ x g. g.0))

    args_found : (ts : List Token) → Every (λ x. FoundArgs ts x.0 x.1) (args_at inner ts)
    unfolding args_at
    args_found ts =
        every_if (mark_ahead mark.CloseParen ts) (Some (pair (record { items = []; depth = 0 }) ts)) (exprs_at inner ts)
        (λ _. every_some (record { seen = seen_nothing; depth = refl; placed = refl }))
        (λ _. every_more (exprs_found ts) (λ x f. record { seen = f.seen; depth = f.depth; placed = f.placed }))

    -- a field, with what it adds to those before it
    field_found : (Q : Fields → List Token → Type 0) (fields : Fields) (ts : List Token) → ((name : List ℕ) (e : Expr) (d n : ℕ) (rest : List Token) → Seen (FieldBy says (field_of name e)) ts rest → length rest < length ts → n ≡ field_depth (field_of name e) → field_place (field_of name e) ≡ true → Q (record { items = fields.items ++ field_of name e ∷ []; depth = max fields.depth n }) rest) → Every (λ x. Q x.0 x.1) (field_at inner (suc b) fields ts)
    unfolding field_at push_field
    field_found Q fields ts k =
        every_bind (word_at ts) _ (word_stands ts)
        (λ name w. every_bind (mark_at mark.Assign name.1) _ (mark_stands mark.Assign name.1)
        (λ gets at. every_bind (inner 13 gets) _ (any_found gets)
        (λ e f. every_bind (deeper (suc b) e.0.depth) _ (every_deeper (suc b) e.0.depth)
        (λ n is. every_some (k name.0 e.0.expr e.0.depth n e.1
        (seen_as (sym (field_by says (field_of name.0 e.0.expr))) (seen_then (seen_stands w) (seen_then (seen_stands at) f.of.seen)))
        (omega (arith, stands_less w, stands_less at, f.of.less))
        (is.0 ∙ ap suc f.of.depth ∙ sym (field_depth_is name.0 e.0.expr))
        (field_place_is name.0 e.0.expr ∙ f.of.placed))))))

    next_field_found : (start : List Token) (fields : Fields) (ts : List Token) → FoundFields start fields ts → Every (λ x. FoundFields start x.0 x.1) (next_field inner (suc b) fields ts)
    unfolding next_field
    next_field_found start fields ts f =
        every_bind (mark_at mark.Comma ts) _ (mark_stands mark.Comma ts)
        (λ comma at. field_found (FoundFields start) fields comma
        (λ name e d n rest seen less depth placed. record {
          seen = seen_between_more (Sign mark.Comma) (FieldBy says) fields.items (field_of name e) f.some f.seen (seen_then (seen_stands at) seen);
          some = some_push fields.items (field_of name e);
          depth = (λ i. max (f.depth i) (depth i)) ∙ sym (ap deepest (map_push field_depth fields.items (field_of name e)) ∙ deepest_push (map field_depth fields.items) (field_depth (field_of name e)));
          placed = ap are_yes (map_push field_place fields.items (field_of name e)) ∙ all_push (λ p. p) (map field_place fields.items) (field_place (field_of name e)) f.placed placed;
        }))

    pub next_field_shrinks : Shrinks (next_field inner (suc b))
    unfolding next_field
    next_field_shrinks = record {
      takes = λ fields ts r rest e.
          (every_bind {R = λ (x : Fields × List Token). length x.1 < length ts} (mark_at mark.Comma ts) _ (mark_stands mark.Comma ts)
          (λ comma at. field_found (λ fs left. length left < length ts) fields comma (λ name e d n left seen less depth placed. omega (arith, stands_less at, less)))).each (pair r rest) e;
    }

    fields_found : (ts : List Token) → Every (λ x. FoundSets ts x.0 x.1) (fields_at inner (suc b) ts)
    unfolding fields_at some_fields_at
    fields_found ts =
        every_if (mark_ahead mark.CloseParen ts) (Some (pair no_fields ts)) _
        (λ _. every_some (record { seen = seen_nothing; depth = refl; placed = refl }))
        (λ _. every_bind {Q = λ (x : Fields × List Token). FoundFields ts x.0 x.1} (field_at inner (suc b) no_fields ts) _
        (field_found (FoundFields ts) no_fields ts (λ name e d n rest seen less depth placed. record {
          seen = seen_between_one (Sign mark.Comma) (FieldBy says) (field_of name e) seen;
          some = refl;
          depth = omega (arith, depth);
          placed = both placed refl;
        }))
        (λ fs f. every_more (every_repeated ends_row (next_field inner (suc b)) (FoundFields ts) (λ fields rest i _. next_field_found ts fields rest i) fs.0 fs.1 f)
        (λ x g. record { seen = g.0.seen; depth = g.0.depth; placed = g.0.placed })))

    -- What stands by itself, behind its first token

    hole_found : (s : Span) (ts : List Token) → Every (λ x. Made says (suc b) 1 (token (kind.Mark mark.Hole) s ∷ ts) x.0 x.1) (hole_at (suc b) (token (kind.Mark mark.Hole) s ∷ ts) ts)
    unfolding hole_at wide_hole_at
    hole_found s ts =
        every_if (mark_ahead mark.OpenParen ts) _ _
        (λ _. every_bind (mark_at mark.OpenParen ts) _ (mark_stands mark.OpenParen ts)
        (λ opening at. every_bind (number_at opening) _ (number_stands opening)
        (λ n w. every_bind (mark_at mark.CloseParen n.1) _ (mark_stands mark.CloseParen n.1)
        (λ closing end. every_made says (suc b) 1 (token (kind.Mark mark.Hole) s ∷ ts) (E.Hole (Some n.0)) (eform.Hole (Some n.0)) 0 closing (eform.rolls-Hole (Some n.0))
        (seen_then (seen_stands (record { at = s; is = refl })) (seen_then (seen_stands at) (seen_then (seen_stands w) (seen_stands end))))
        (omega (arith, stands_less at, stands_less w, stands_less end)) refl refl (omega arith)))))
        (λ _. every_made says (suc b) 1 (token (kind.Mark mark.Hole) s ∷ ts) (E.Hole None) (eform.Hole None) 0 ts (eform.rolls-Hole None) (seen_stands (record { at = s; is = refl })) (omega arith) refl refl (omega arith))

    paren_found : (s : Span) (ts : List Token) → Every (λ x. Made says (suc b) 1 (token (kind.Mark mark.OpenParen) s ∷ ts) x.0 x.1) (paren_at inner (suc b) (token (kind.Mark mark.OpenParen) s ∷ ts) ts)
    unfolding paren_at
    paren_found s ts =
        every_bind (inner 13 ts) _ (any_found ts)
        (λ e f. every_bind (mark_at mark.CloseParen e.1) _ (mark_stands mark.CloseParen e.1)
        (λ closing at. every_made says (suc b) 1 (token (kind.Mark mark.OpenParen) s ∷ ts) (E.Paren e.0.expr) (eform.Paren e.0.expr) e.0.depth closing (eform.rolls-Paren e.0.expr)
        (seen_then (seen_stands (record { at = s; is = refl })) (seen_then f.of.seen (seen_stands at)))
        (omega (arith, f.of.less, stands_less at)) f.of.depth f.of.placed (omega arith)))

    named_found : (x : List ℕ) (s : Span) (ts : List Token) → Every (λ y. Made says (suc b) 1 (token (kind.Word x) s ∷ ts) y.0 y.1) (named_at inner (suc b) (token (kind.Word x) s ∷ ts) x ts)
    unfolding named_at call_at
    named_found x s ts =
        every_if (mark_ahead mark.OpenParen ts) _ _
        (λ _. every_bind (mark_at mark.OpenParen ts) _ (mark_stands mark.OpenParen ts)
        (λ opening at. every_bind (args_at inner opening) _ (args_found opening)
        (λ args f. every_bind (mark_at mark.CloseParen args.1) _ (mark_stands mark.CloseParen args.1)
        (λ closing end. every_made says (suc b) 1 (token (kind.Word x) s ∷ ts) (E.Call x args.0.items) (eform.Call x args.0.items) args.0.depth closing (eform.rolls-Call x args.0.items)
        (seen_then (seen_stands (record { at = s; is = refl })) (seen_then (seen_stands at) (seen_then f.seen (seen_stands end))))
        (omega (arith, stands_less at, seen_no_more f.seen, stands_less end)) f.depth f.placed (omega arith)))))
        (λ _. every_made says (suc b) 1 (token (kind.Word x) s ∷ ts) (E.Word x) (eform.Word x) 0 ts (eform.rolls-Word x) (seen_stands (record { at = s; is = refl })) (omega arith) refl refl (omega arith))

    new_found : (s : Span) (ts : List Token) → Every (λ x. Made says (suc b) 1 (token (kind.Key key.New) s ∷ ts) x.0 x.1) (new_at inner (suc b) (token (kind.Key key.New) s ∷ ts) ts)
    unfolding new_at
    new_found s ts =
        every_bind (word_at ts) _ (word_stands ts)
        (λ name w. every_bind (mark_at mark.OpenParen name.1) _ (mark_stands mark.OpenParen name.1)
        (λ opening at. every_bind (fields_at inner (suc b) opening) _ (fields_found opening)
        (λ fields f. every_bind (mark_at mark.CloseParen fields.1) _ (mark_stands mark.CloseParen fields.1)
        (λ closing end. every_made says (suc b) 1 (token (kind.Key key.New) s ∷ ts) (E.New name.0 fields.0.items) (eform.New name.0 fields.0.items) fields.0.depth closing (eform.rolls-New name.0 fields.0.items)
        (seen_then (seen_stands (record { at = s; is = refl })) (seen_then (seen_stands w) (seen_then (seen_stands at) (seen_then f.seen (seen_stands end)))))
        (omega (arith, stands_less w, stands_less at, seen_no_more f.seen, stands_less end)) f.depth f.placed (omega arith)))))

    braces_found : (s : Span) (ts : List Token) → Every (λ x. Made says (suc b) 1 (token (kind.Mark mark.OpenBrace) s ∷ ts) x.0 x.1) (braces_at inner (suc b) (token (kind.Mark mark.OpenBrace) s ∷ ts) ts)
    unfolding braces_at
    braces_found s ts =
        every_bind (exprs_at inner ts) _ (exprs_found ts)
        (λ row f. every_bind (mark_at mark.CloseBrace row.1) _ (mark_stands mark.CloseBrace row.1)
        (λ closing at. every_made says (suc b) 1 (token (kind.Mark mark.OpenBrace) s ∷ ts) (E.Braces row.0.items) (eform.Braces row.0.items) row.0.depth closing (eform.rolls-Braces row.0.items)
        (seen_given f.some (seen_then (seen_stands (record { at = s; is = refl })) (seen_then f.seen (seen_stands at))))
        (omega (arith, f.less, stands_less at)) f.depth f.placed (omega arith)))

    module _ (trees : Trees) (fair : GoodTrees says trees) where
      offer_found : (s : Span) (ts : List Token) → Every (λ x. Made says (suc b) 1 (token (kind.Mark mark.OpenPattern) s ∷ ts) x.0 x.1) (offer_at trees (suc b) (token (kind.Mark mark.OpenPattern) s ∷ ts) ts)
      unfolding offer_at
      offer_found s ts =
          let start = token (kind.Mark mark.OpenPattern) s ∷ ts in
          every_bind (pattern_at (suc b) AsChoice ts) _ ((pattern_sound (suc b)).sound AsChoice ts)
          (λ p f. every_bind (mark_at mark.ClosePattern p.1) _ (mark_stands mark.ClosePattern p.1)
          (λ closing at. every_bind {Q = λ (es : List Expr). trees p.0.pattern ≡ Some es} (trees p.0.pattern) _ (record { each = λ es e. e })
          (λ es is. every_made says (suc b) 1 start (E.Pattern p.0.pattern es) (eform.Pattern p.0.pattern es) p.0.depth closing (eform.rolls-Pattern p.0.pattern es)
          (seen_as (ap (says p.0.pattern) (sym (map-id es))) (fair.spelt p.0.pattern es start closing is (seen_then (seen_stands (record { at = s; is = refl })) (seen_then f.seen (seen_stands at)))))
          (omega (arith, f.less, stands_less at)) f.depth (fair.placed p.0.pattern es is) (omega arith))))

      primary_found : (ts : List Token) → Every (λ x. Made says (suc b) 1 ts x.0 x.1) (primary_at trees inner (suc b) ts)
      unfolding primary_at
      primary_found [] = every_none
      primary_found (t ∷ ts) = go t.kind
        where
          go : (k : Kind) → Every (λ x. Made says (suc b) 1 (token k t.span ∷ ts) x.0 x.1) (primary_kind trees inner (suc b) (token k t.span ∷ ts) k ts)
          go (kind.Number n) = every_made says (suc b) 1 (token (kind.Number n) t.span ∷ ts) (E.Number n) (eform.Number n) 0 ts (eform.rolls-Number n) (seen_stands (record { at = t.span; is = refl })) (omega arith) refl refl (omega arith)
          go (kind.Word x) = named_found x t.span ts
          go (kind.Key key.True) = every_made says (suc b) 1 (token (kind.Key key.True) t.span ∷ ts) E.True eform.True 0 ts eform.rolls-True (seen_stands (record { at = t.span; is = refl })) (omega arith) refl refl (omega arith)
          go (kind.Key key.False) = every_made says (suc b) 1 (token (kind.Key key.False) t.span ∷ ts) E.False eform.False 0 ts eform.rolls-False (seen_stands (record { at = t.span; is = refl })) (omega arith) refl refl (omega arith)
          go (kind.Key key.Null) = every_made says (suc b) 1 (token (kind.Key key.Null) t.span ∷ ts) E.Null eform.Null 0 ts eform.rolls-Null (seen_stands (record { at = t.span; is = refl })) (omega arith) refl refl (omega arith)
          go (kind.Key key.New) = new_found t.span ts
          go (kind.Mark mark.Hole) = hole_found t.span ts
          go (kind.Mark mark.OpenParen) = paren_found t.span ts
          go (kind.Mark mark.OpenBrace) = braces_found t.span ts
          go (kind.Mark mark.OpenPattern) = offer_found t.span ts
          go _ = every_none

    -- What stands behind a base

    abbrev Based : List Token → Deep → List Token → Type 0
    Based start d rest = Made says (suc b) 1 start d rest

    based : (a : Place) → a.placed ≡ true → a.level ≤ 1 → binds 1 a ≡ true
    based a p l = both p (le-leb a.level 1 l)

    member_found : (start : List Token) (d : Deep) (ts : List Token) → Based start d ts → Every (λ x. Based start x.0 x.1) (member_at (suc b) start d ts)
    unfolding member_at
    member_found start d ts f =
        every_bind (mark_at mark.Dot ts) _ (mark_stands mark.Dot ts)
        (λ dot at. every_bind (word_at dot) _ (word_stands dot)
        (λ name w. every_made says (suc b) 1 start (E.Member d.expr name.0) (eform.Member d.expr name.0) d.depth name.1 (eform.rolls-Member d.expr name.0)
        (seen_then f.seen (seen_then (seen_stands at) (seen_stands w)))
        (omega (arith, f.less, stands_less at, stands_less w)) f.depth (based (place_of d.expr) f.placed f.level_is) (omega arith)))

    bracket_found : (start : List Token) (d : Deep) (ts : List Token) → Based start d ts → Every (λ x. Based start x.0 x.1) (bracket_at inner (suc b) start d ts)
    unfolding bracket_at slice_at element_at
    bracket_found start d ts f =
        every_bind (mark_at mark.OpenBracket ts) _ (mark_stands mark.OpenBracket ts)
        (λ opening at. every_bind (inner 13 opening) _ (any_found opening)
        (λ i g. every_if (mark_ahead mark.DoubleColon i.1) _ _
        (λ _. every_bind (mark_at mark.DoubleColon i.1) _ (mark_stands mark.DoubleColon i.1)
        (λ colons mid. every_bind (inner 13 colons) _ (any_found colons)
        (λ n h. every_bind (mark_at mark.CloseBracket n.1) _ (mark_stands mark.CloseBracket n.1)
        (λ closing end. every_made says (suc b) 1 start (E.Slice d.expr i.0.expr n.0.expr) (eform.Slice d.expr i.0.expr n.0.expr) (max d.depth (max i.0.depth n.0.depth)) closing (eform.rolls-Slice d.expr i.0.expr n.0.expr)
        (seen_then f.seen (seen_then (seen_stands at) (seen_then g.of.seen (seen_then (seen_stands mid) (seen_then h.of.seen (seen_stands end))))))
        (omega (arith, f.less, stands_less at, g.of.less, stands_less mid, h.of.less, stands_less end))
        (λ j. max (f.depth j) (max (g.of.depth j) (h.of.depth j)))
        (both (both (based (place_of d.expr) f.placed f.level_is) g.of.placed) h.of.placed) (omega arith)))))
        (λ _. every_bind (mark_at mark.CloseBracket i.1) _ (mark_stands mark.CloseBracket i.1)
        (λ closing end. every_made says (suc b) 1 start (E.Index d.expr i.0.expr) (eform.Index d.expr i.0.expr) (max d.depth i.0.depth) closing (eform.rolls-Index d.expr i.0.expr)
        (seen_then f.seen (seen_then (seen_stands at) (seen_then g.of.seen (seen_stands end))))
        (omega (arith, f.less, stands_less at, g.of.less, stands_less end))
        (λ j. max (f.depth j) (g.of.depth j))
        (both (based (place_of d.expr) f.placed f.level_is) g.of.placed) (omega arith)))))

    behind_base_found : (start : List Token) (d : Deep) (ts : List Token) → Based start d ts → Every (λ x. Based start x.0 x.1) (behind_base inner (suc b) start d ts)
    unfolding behind_base
    behind_base_found start d ts f = every_if (mark_ahead mark.Dot ts) _ _ (λ _. member_found start d ts f) (λ _. bracket_found start d ts f)

    less_made : (ts start : List Token) (f : EForm) (depth : ℕ) (rest : List Token) → length rest < length ts → Every (λ x. length x.1 < length ts) (made (suc b) start f depth rest)
    less_made ts start f depth rest h = every_more (made_rest (suc b) start f depth rest) (λ x e. omega (arith, h, ap length e))

    bracket_less : (start : List Token) (d : Deep) (ts : List Token) → Every (λ x. length x.1 < length ts) (bracket_at inner (suc b) start d ts)
    unfolding bracket_at slice_at element_at
    bracket_less start d ts =
        every_bind (mark_at mark.OpenBracket ts) _ (mark_stands mark.OpenBracket ts)
        (λ opening at. every_bind (inner 13 opening) _ (any_found opening)
        (λ i g. every_if (mark_ahead mark.DoubleColon i.1) _ _
        (λ _. every_bind (mark_at mark.DoubleColon i.1) _ (mark_stands mark.DoubleColon i.1)
        (λ colons mid. every_bind (inner 13 colons) _ (any_found colons)
        (λ n h. every_bind (mark_at mark.CloseBracket n.1) _ (mark_stands mark.CloseBracket n.1)
        (λ closing end. less_made ts start _ _ closing (omega (arith, stands_less at, g.of.less, stands_less mid, h.of.less, stands_less end))))))
        (λ _. every_bind (mark_at mark.CloseBracket i.1) _ (mark_stands mark.CloseBracket i.1)
        (λ closing end. less_made ts start _ _ closing (omega (arith, stands_less at, g.of.less, stands_less end))))))

    member_less : (start : List Token) (d : Deep) (ts : List Token) → Every (λ x. length x.1 < length ts) (member_at (suc b) start d ts)
    unfolding member_at
    member_less start d ts =
        every_bind (mark_at mark.Dot ts) _ (mark_stands mark.Dot ts)
        (λ dot at. every_bind (word_at dot) _ (word_stands dot) (λ name w. less_made ts start _ _ name.1 (omega (arith, stands_less at, stands_less w))))

    pub behind_base_shrinks : (start : List Token) → Shrinks (behind_base inner (suc b) start)
    unfolding behind_base
    behind_base_shrinks start = record {
      takes = λ d ts r rest e.
          (every_if {Q = λ (x : Deep × List Token). length x.1 < length ts} (mark_ahead mark.Dot ts) _ _ (λ _. member_less start d ts) (λ _. bracket_less start d ts)).each (pair r rest) e;
    }

    -- Operators

    behind_operand_found : (level : ℕ) (start : List Token) (d : Deep) (ts : List Token) → Chained (suc b) level start d ts → ends_chain level ts ≡ false → Every (λ x. Chained (suc b) level start x.0 x.1) (behind_operand inner (suc b) start d ts)
    unfolding behind_operand
    behind_operand_found level start d ts f more =
        every_bind (operator_at ts) _ (operator_is ts)
        (λ op o.
        let l : ℕ = level_of op.0 in
        let within : l ≤ level = operator_within level op.0 ts op.1 o more in
        let above : (place_of d.expr).level - 1 < l = operator_above ((place_of d.expr).level - 1) op.0 ts op.1 o f.edge in
        every_bind (inner (l - 1) op.1) _ (good.sound (l - 1) op.1 (omega (arith, o.loose)))
        (λ right g. every_more (every_both (every_made says (suc b) l start (E.Binary op.0 d.expr right.0.expr) (eform.Binary op.0 d.expr right.0.expr) (max d.depth right.0.depth) right.1 (eform.rolls-Binary op.0 d.expr right.0.expr)
        (seen_then f.of.seen (seen_then (seen_stands o.stands) g.of.seen))
        (omega (arith, f.of.less, stands_less o.stands, g.of.less))
        (λ j. max (f.of.depth j) (g.of.depth j))
        (both (both (le-leb 3 l o.loose) (both f.of.placed (le-leb (place_of d.expr).level l (omega arith)))) (both g.of.placed (le-leb (place_of right.0.expr).level (l - 1) g.of.level_is)))
        (omega arith)) (made_rest (suc b) start (eform.Binary op.0 d.expr right.0.expr) (max d.depth right.0.depth) right.1))
        (λ x m. record {
          of = looser (suc b) l level start x.0 x.1 within m.0;
          twelve = omega (arith, m.0.level_is, level_low op.0);
          edge = ends_less ((place_of x.0.expr).level - 1) (l - 1) x.1 (omega (arith, m.0.level_is)) (ap (ends_chain (l - 1)) m.1 ∙ g.ends);
        })))

    pub behind_operand_shrinks : (start : List Token) → Shrinks (behind_operand inner (suc b) start)
    unfolding behind_operand
    behind_operand_shrinks start = record {
      takes = λ d ts r rest e.
          (every_bind {R = λ (x : Deep × List Token). length x.1 < length ts} (operator_at ts) _ (operator_is ts)
          (λ op o. every_bind (inner (level_of op.0 - 1) op.1) _ (good.sound (level_of op.0 - 1) op.1 (omega (arith, o.loose)))
          (λ right g. less_made ts start _ _ right.1 (omega (arith, stands_less o.stands, g.of.less))))).each (pair r rest) e;
    }

    choice_found : (start : List Token) (d : Deep) (ts : List Token) → Chained (suc b) 13 start d ts → Every (λ x. Found (suc b) 13 start x.0 x.1) (choice_at inner (suc b) start d ts)
    unfolding choice_at
    choice_found start d ts f =
        every_bind (mark_at mark.Question ts) _ (mark_stands mark.Question ts)
        (λ question at. every_bind (inner 13 question) _ (any_found question)
        (λ a g. every_bind (mark_at mark.Colon a.1) _ (mark_stands mark.Colon a.1)
        (λ colon mid. every_bind (inner 13 colon) _ (any_found colon)
        (λ c h. every_more (every_both (every_made says (suc b) 13 start (E.Cond d.expr a.0.expr c.0.expr) (eform.Cond d.expr a.0.expr c.0.expr) (max d.depth (max a.0.depth c.0.depth)) c.1 (eform.rolls-Cond d.expr a.0.expr c.0.expr)
        (seen_then f.of.seen (seen_then (seen_stands at) (seen_then g.of.seen (seen_then (seen_stands mid) h.of.seen))))
        (omega (arith, f.of.less, stands_less at, g.of.less, stands_less mid, h.of.less))
        (λ j. max (f.of.depth j) (max (g.of.depth j) (h.of.depth j)))
        (both (both (both f.of.placed (le-leb (place_of d.expr).level 12 f.twelve)) g.of.placed) (both h.of.placed (le-leb (place_of c.0.expr).level 13 h.of.level_is)))
        (omega arith)) (made_rest (suc b) start (eform.Cond d.expr a.0.expr c.0.expr) (max d.depth (max a.0.depth c.0.depth)) c.1))
        (λ x m. record { of = m.0; ends = ap (ends_chain 13) m.1 ∙ h.ends })))))

    behind_cond_found : (level : ℕ) (start : List Token) (d : Deep) (ts : List Token) → Chained (suc b) level start d ts → ends_chain level ts ≡ true → Every (λ x. Found (suc b) level start x.0 x.1) (behind_cond inner (suc b) level start d ts)
    unfolding behind_cond
    behind_cond_found level start d ts f ends =
        every_if (leb 13 level && mark_ahead mark.Question ts) _ (Some (pair d ts))
        (λ e.
        let high : 13 ≤ level = leb-true 13 level (both_true (leb 13 level) (mark_ahead mark.Question ts) e).0 in
        every_more (choice_found start d ts (record { of = lowered f; twelve = f.twelve; edge = f.edge }))
        (λ x g. record { of = looser (suc b) 13 level start x.0 x.1 high g.of; ends = ends_any level x.1 g.ends }))
        (λ _. every_some (record { of = f.of; ends = ends }))
      where
        lowered : Chained (suc b) level start d ts → Made says (suc b) 13 start d ts
        lowered f = record { seen = f.of.seen; less = f.of.less; depth = f.of.depth; within = f.of.within; placed = f.of.placed; level_is = omega (arith, f.twelve) }

    module _ (trees : Trees) (fair : GoodTrees says trees) where
      base_found : (ts : List Token) → Every (λ x. Made says (suc b) 1 ts x.0 x.1) (base_at trees inner (suc b) ts)
      unfolding base_at
      base_found ts =
          every_bind (primary_at trees inner (suc b) ts) _ (primary_found trees fair ts)
          (λ p f. every_more (every_repeated ends_base (behind_base inner (suc b) ts) (Made says (suc b) 1 ts) (λ d rest i _. behind_base_found ts d rest i) p.0 p.1 f) (λ x g. g.0))

      -- an operand of a level, of level 2 at most
      record FoundOperand (level : ℕ) (start : List Token) (d : Deep) (rest : List Token) : Type 0 where
        pub of : Made says (suc b) level start d rest
        pub two : (place_of d.expr).level ≤ 2

      signed_found : (level : ℕ) (start : List Token) (op : Mark) (ts : List Token) → 2 ≤ level → Stands (kind.Mark op) start ts → is_unary op ≡ true → Every (λ x. FoundOperand level start x.0 x.1) (signed_at inner (suc b) start op ts)
      unfolding signed_at
      signed_found level start op ts h at unary =
          every_bind (inner 2 ts) _ (good.sound 2 ts (omega arith))
          (λ e f. every_more (every_made says (suc b) 2 start (E.Unary op e.0.expr) (eform.Unary op e.0.expr) e.0.depth e.1 (eform.rolls-Unary op e.0.expr)
          (seen_given unary (seen_then (seen_stands at) f.of.seen))
          (omega (arith, stands_less at, f.of.less)) f.of.depth (both f.of.placed (le-leb (place_of e.0.expr).level 2 f.of.level_is)) (omega arith))
          (λ x m. record { of = looser (suc b) 2 level start x.0 x.1 h m; two = m.level_is }))

      based_operand : (level : ℕ) (ts : List Token) → 0 < level → Every (λ x. FoundOperand level ts x.0 x.1) (base_at trees inner (suc b) ts)
      based_operand level ts h = every_more (base_found ts) (λ x m. record { of = looser (suc b) 1 level ts x.0 x.1 h m; two = omega (arith, m.level_is) })

      operand_found : (level : ℕ) (ts : List Token) → 0 < level → Every (λ x. FoundOperand level ts x.0 x.1) (operand_at trees inner (suc b) level ts)
      unfolding operand_at
      operand_found level ts h =
          every_if (leb 2 level) (by_sign trees inner (suc b) ts (sign_at ts)) (base_at trees inner (suc b) ts)
          (λ e. go (leb-true 2 level e) (sign_at ts) refl)
          (λ _. based_operand level ts h)
        where
          go : 2 ≤ level → (o : Option (Mark × List Token)) → sign_at ts ≡ o → Every (λ x. FoundOperand level ts x.0 x.1) (by_sign trees inner (suc b) ts o)
          go high None is = based_operand level ts h
          go high (Some op) is = let s = (sign_is ts).each op is in signed_found level ts op.0 op.1 high s.0 s.1

      level_found : (level : ℕ) (ts : List Token) → 0 < level → Every (λ x. Found (suc b) level ts x.0 x.1) (level_at trees inner (suc b) level ts)
      unfolding level_at
      level_found level ts h =
          every_bind (operand_at trees inner (suc b) level ts) _ (operand_found level ts h)
          (λ a f. every_bind (repeated (ends_chain level) (behind_operand inner (suc b) ts) a.0 a.1) _
          (every_repeated (ends_chain level) (behind_operand inner (suc b) ts) (Chained (suc b) level ts) (λ d rest i more. behind_operand_found level ts d rest i more) a.0 a.1
          (record { of = f.of; twelve = omega (arith, f.two); edge = ends_low ((place_of a.0.expr).level - 1) a.1 (omega (arith, f.two)) }))
          (λ c g. behind_cond_found level ts c.0 c.1 g.0 g.1))

module _ (says : Saying) (trees : Trees) (fair : GoodTrees says trees) where
  pub expr_sound : (b : ℕ) → SoundByLevel says b (expr_at trees b)
  unfolding expr_at
  expr_sound zero = record { sound = λ level ts h. every_none }
  expr_sound (suc b) = record { sound = λ level ts h. level_found says b (expr_at trees b) (expr_sound b) trees fair level ts h }
