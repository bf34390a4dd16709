-- How a pattern is read: the example `int N = {| p | q |};`.
use Rattle.std.proofs.Common.{◌≡◌, ℕ, suc, ◌≤◌, Bool, true, ◌&&◌, List, [], ◌∷◌, length, refl, sym, ap, ◌∙◌, subst, arith, codes, IsTrue, inl}
use Rattle.std.specs.List.{AllZip}
use Rattle.std.proofs.lemmas.Grind.{common_steps}
use Rattle.sk_base.specs.declared.span.Span.{Span}
use Rattle.sk_tree.specs.declared.token.Token.{Token}
use Rattle.sk_tree.specs.declared.token.Kind.TheVariants as kind
use Rattle.sk_tree.specs.declared.token.Mark.TheVariants as mark
use Rattle.sk_tree.specs.declared.token.Key.TheVariants as key
use Rattle.sk_tree.specs.declared.pattern.Pattern.{Pattern}
use Rattle.sk_tree.specs.declared.pattern.Pattern.TheVariants as pattern
use Rattle.sk_tree.specs.declared.pattern.Pattern.TheOpen as P
use Rattle.sk_tree.specs.declared.pattern.Pattern.TheViews.{roll-Pattern}
use Rattle.sk_tree.specs.declared.pattern.Pattern.TheFolds.{the_lemmas as of_pattern}
use Rattle.sk_tree.specs.declared.expr.Expr.{Expr}
use Rattle.sk_tree.specs.declared.expr.EForm.{EForm}
use Rattle.sk_tree.specs.declared.expr.EForm.TheVariants as eform
use Rattle.sk_tree.specs.declared.expr.NewField.{NewField}
use Rattle.sk_tree.specs.declared.expr.EForm.TheOpen as E
use Rattle.sk_tree.specs.declared.expr.EForm.TheViews.{roll-EForm}
use Rattle.sk_tree.specs.declared.expr.EForm.TheFolds.{the_lemmas as of_expr}
use Rattle.sk_tree.specs.Phrase.{Phrase, Never}
use Rattle.sk_tree.specs.Strings.{Strings, strings_of}
use Rattle.sk_tree.specs.Placed.{Place, eform_place, expr_place, field_placed, expr_placed}
use Rattle.sk_tree.specs.Depth.{eform_depth, tree_depth}
use Rattle.sk_tree.specs.Spelt.{Spans, PatternRole, AsChoice, AsSequence, AsPart, may_stand, SpeltPart, Saying, ReadsString, HasTrees, SpeltPattern, SpeltExpr}
use Rattle.sk_tree.specs.Reads.{Reads}
use Rattle.sk_tree.specs.Examples.{token_from, p_there, q_there, offer, p_tree, q_tree, offer_tokens, offering, offered, offered_tokens}
use Rattle.sk_tree.proofs.Folds.{of_word}
use Rattle.sk_tree.proofs.Layers.{PartLayer, part_spelt, ExprBy, LayerBy, form_by, expr_by}

-- an expression of one layer is spelt as the layer is
close : (says : Saying) (s : Span) (l : E.EForm-F EForm Expr NewField) (f : EForm) (ts : List Token) → roll-EForm l ≡ f → Spans s (LayerBy says l) ts → ExprBy says (record { span = s; form = f }) ts
close says s l f ts rolls h =
    subst (λ g. ExprBy says (record { span = s; form = g }) ts) rolls
    (subst (λ (R : Phrase). R ts) (sym (expr_by says (record { span = s; form = roll-EForm l }) ∙ ap (Spans s) (form_by says l))) h)

-- a part of one layer likewise
close_part : (l : P.Pattern-F Pattern) (p : Pattern) (role : PatternRole) (ts : List Token) → roll-Pattern l ≡ p → PartLayer l role ts → SpeltPart p role ts
close_part l p role ts rolls h =
    subst (λ q. SpeltPart q role ts) rolls (subst (λ (R : Phrase). R ts) (sym (ap (λ (f : PatternRole → Phrase). f role) (part_spelt l))) h)

word_reads : (from to : ℕ) (x : List ℕ) → ReadsString (token_from from to (kind.Word x) ∷ []) (record { span = record { from = from; to = to }; form = eform.Word x })
word_reads from to x =
    let s : Span = record { from = from; to = to } in
    record {
      spelt = close (λ pattern trees. Never) s (E.Word x) (eform.Word x) (token_from from to (kind.Word x) ∷ []) (eform.rolls-Word x) ((s, refl), refl);
      placed = ap (λ (p : Place). p.placed) (of_word Place Place Bool eform_place expr_place field_placed s x);
      within = subst (λ n. n ≤ 256) (sym (of_word ℕ ℕ ℕ eform_depth (λ x. suc x.form) (λ x. suc x.value) s x)) (omega arith);
    }

offer_strings : strings_of offer ≡ (p_there ∷ []) ∷ (q_there ∷ []) ∷ []
offer_strings = grind (arith, common_steps, of_pattern)

offer_trees : HasTrees offer (p_tree ∷ q_tree ∷ [])
offer_trees = record {
  few = subst (λ (ss : Strings). length ss ≤ 128) (sym offer_strings) (omega arith);
  each = subst (λ (ss : Strings). AllZip ReadsString ss (p_tree ∷ q_tree ∷ [])) (sym offer_strings) (word_reads 11 12 (codes "p"), (word_reads 15 16 (codes "q"), tt));
}

one_spelt : (t : Token) → IsTrue (may_stand t.kind) → SpeltPart (pattern.Seq (pattern.One t ∷ [])) AsSequence (t ∷ [])
one_spelt t may =
    close_part (P.Seq (pattern.One t ∷ [])) (pattern.Seq (pattern.One t ∷ [])) AsSequence (t ∷ []) (pattern.rolls-Seq (pattern.One t ∷ []))
    (refl, (t ∷ [], [], refl, close_part (P.One t) (pattern.One t) AsPart (t ∷ []) (pattern.rolls-One t) (may, refl), refl))

offer_spelt : SpeltPart offer AsChoice (p_there ∷ token_from 13 14 (kind.Mark mark.Bar) ∷ q_there ∷ [])
offer_spelt =
    let parts : List Pattern = pattern.Seq (pattern.One p_there ∷ []) ∷ pattern.Seq (pattern.One q_there ∷ []) ∷ [] in
    let bar = token_from 13 14 (kind.Mark mark.Bar) in
    close_part (P.Choice parts) offer AsChoice (p_there ∷ bar ∷ q_there ∷ []) (pattern.rolls-Choice parts)
    (refl, (p_there ∷ [], bar ∷ q_there ∷ [], refl, one_spelt p_there refl, (bar ∷ [], q_there ∷ [], refl, (bar.span, refl), (q_there ∷ [], [], refl, one_spelt q_there refl, refl))))

offering_spelt : SpeltExpr offering offer_tokens
offering_spelt =
    let open_mark = token_from 8 10 (kind.Mark mark.OpenPattern) in
    let inside : List Token = p_there ∷ token_from 13 14 (kind.Mark mark.Bar) ∷ q_there ∷ [] in
    let close_mark = token_from 17 19 (kind.Mark mark.ClosePattern) in
    close SpeltPattern (record { from = 8; to = 19 }) (E.Pattern offer (p_tree ∷ q_tree ∷ [])) (eform.Pattern offer (p_tree ∷ q_tree ∷ [])) offer_tokens (eform.rolls-Pattern offer (p_tree ∷ q_tree ∷ []))
    ((inl offer_trees, (open_mark ∷ [], _, refl, (open_mark.span, refl), (inside, close_mark ∷ [], refl, offer_spelt, (close_mark.span, refl)))), refl)

offering_placed : expr_placed offering ≡ true
offering_placed = grind (arith, common_steps, of_expr)

offered_depth : tree_depth offered ≡ 6
offered_depth = grind (arith, common_steps, of_pattern, of_expr)

pub offered_reads : Reads offered_tokens offered
offered_reads = record {
  spelt = (
    offered_tokens,
    [],
    refl,
    (
      token_from 0 3 (kind.Key key.Int) ∷ [],
      _,
      refl,
      (record { from = 0; to = 3 }, refl),
      (
        token_from 4 5 (kind.Word (codes "N")) ∷ [],
        _,
        refl,
        (record { from = 4; to = 5 }, refl),
        (
          token_from 6 7 (kind.Mark mark.Assign) ∷ [],
          _,
          refl,
          (record { from = 6; to = 7 }, refl),
          (
            offer_tokens,
            _,
            refl,
            offering_spelt,
            (record { from = 19; to = 20 }, refl),
          ),
        ),
      ),
    ),
    refl,
  );
  placed = ap (λ b. b && true) offering_placed;
}
